-- What the private functions of this crate give.
use Rattle.std.specs.Prelude.{ℕ, List, [], reverse, Bool, cond, not, ◌&&◌, ltb, length, take}
use Rattle.vertexset.specs.Set.{capacity}
use Rattle.record.specs.Read.{folded}
use Rattle.connectivity.specs.Lists.{select}
use Rattle.graph.specs.Limits.{max_edges}
use Rattle.graph.specs.Rows.{adjacent_in, joined, joined_rows, parted_rows}
use Rattle.reading.specs.Pairs.{pairs_of}
use Rattle.reading.specs.Code.{ends_array}
use Rattle.local.specs.Withstands.{spared}
use Rattle.striking.specs.declared.Edges.{Edges}

-- the rows at work after one pair was looked at: an edge of the plan stays; another pair is parted, and joined again where it is not spared
abbrev pub tried : List ℕ → ℕ → ℕ → List ℕ
tried parted u v = cond (spared parted u v) parted (joined_rows parted u v)

unfoldable pub struck_by : List ℕ → List ℕ → ℕ × ℕ → List ℕ
struck_by plan work e = cond (adjacent_in plan e.0 e.1) work (tried (parted_rows work e.0 e.1) e.0 e.1)

-- every pair joined
abbrev pub completed : List ℕ → ℕ → List ℕ
completed rows n = folded joined rows (pairs_of n)

-- every pair looked at, from the last to the first
abbrev pub struck_all : List ℕ → List ℕ → ℕ → List ℕ
struck_all plan work n = folded (struck_by plan) work (reverse (pairs_of n))

-- the pairs that are joined at work and not in the plan, in cable order
abbrev pub laid : List ℕ → List ℕ → ℕ × ℕ → Bool
laid plan work e = adjacent_in work e.0 e.1 && not (adjacent_in plan e.0 e.1)

unfoldable pub added : List ℕ → List ℕ → ℕ → List (ℕ × ℕ)
added plan work n = select (laid plan work) (pairs_of n)

-- edges in an array, as many as have room, and how many they are
abbrev pub edges_held : List (ℕ × ℕ) → Edges
edges_held l = record { ends = ends_array (take max_edges l); count = length l }

-- the list that the code makes of a graph's rows; none where the rows have no room for the vertices
unfoldable pub list_in : List ℕ → ℕ → List (ℕ × ℕ)
list_in plan n = cond (ltb capacity n) [] (added plan (struck_all plan (completed plan n) n) n)
