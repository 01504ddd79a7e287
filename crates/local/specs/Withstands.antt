-- Whether two vertices stay connected whatever few others are removed, by common neighbours and by searches.
use Rattle.std.specs.Prelude.{ℕ, zero, suc, Bool, ◌&&◌, ◌||◌, List, leb, eqb}
use Rattle.vertexset.specs.Set.{empty_set, count, inserted}
use Rattle.vertexset.specs.declared.VertexSet.{VertexSet}
use Rattle.connectivity.specs.Lists.{all}
use Rattle.graph.specs.Rows.{row_of}
use Rattle.construction.specs.Sets.{single, common}
use Rattle.construction.specs.Search.{Reach, explore, is_found, route}

-- the search from v to u
abbrev pub between : List ℕ → ℕ → ℕ → VertexSet → Reach
between rows u v removed = explore rows (single v) (single u) removed

-- u and v are connected without the removed vertices and without any k more. The path that is found stands unless one of its inner vertices goes,
-- so only these are tried, one after the other.
unfoldable pub withstands : ℕ → List ℕ → ℕ → ℕ → VertexSet → Bool
withstands zero rows u v removed = is_found (between rows u v removed)
withstands (suc k) rows u v removed =
    is_found (between rows u v removed) && all (λ c. eqb c u || (eqb c v || withstands k rows u v (inserted removed c))) (route (between rows u v removed))

-- two vertices have three common neighbours, or else searches show that no two vertices separate them
unfoldable pub spared : List ℕ → ℕ → ℕ → Bool
spared rows u v = leb 3 (count (common (row_of rows u) (row_of rows v)).words) || withstands 2 rows u v empty_set
