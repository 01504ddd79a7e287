-- HOW RARE EACH GRADE IS (request 5 of document 02): all plans of a size, "doubled cables left aside", and how many of them have each figure.
use Rattle.std.specs.Prelude.{ℕ, List, [], ◌∷◌, ◌++◌, map, cond, ◌&&◌, leb, eqb, length}
use Rattle.connectivity.specs.Lists.{select}
use Rattle.connectivity.specs.Graph.{from_edges}
use Rattle.connectivity.specs.Connectivity.{connectivity}
use Rattle.reading.specs.Plan.{Plan}
unfoldable pub use Rattle.reading.specs.Pairs.{with_lower, pairs_among}
pub use Rattle.reading.specs.Pairs.{pairs_of}
use Rattle.counting.specs.declared.Counts.{Counts}

-- every set of a list of pairs: those without the first pair, then those with it
unfoldable pub sets_of : List (ℕ × ℕ) → List (List (ℕ × ℕ))
sets_of [] = [] ∷ []
sets_of (e ∷ es) = sets_of es ++ map (λ s. e ∷ s) (sets_of es)

abbrev pub plan_with : ℕ → List (ℕ × ℕ) → Plan
plan_with n es = record { n = n; edges = es }

-- ALL PLANS of n boxes without doubles: one for each set of pairs
abbrev pub plans_of : ℕ → List Plan
plans_of n = map (plan_with n) (sets_of (pairs_of n))

abbrev pub connectivity_of : Plan → ℕ
connectivity_of p = connectivity (from_edges p.n p.edges)

-- the plans of a list with the figure k
unfoldable pub with_connectivity : ℕ → List Plan → List Plan
with_connectivity k ps = select (λ p. eqb (connectivity_of p) k) ps

-- "how many ways of cabling four, five or six numbered boxes give each grade"; no other size is counted
abbrev pub min_size : ℕ
min_size = 4

abbrev pub max_size : ℕ
max_size = 6

unfoldable pub count_of : ℕ → ℕ → ℕ
count_of n k = cond (leb min_size n && leb n max_size) (length (with_connectivity k (plans_of n))) 0

-- the counts of a size, for grades 0 to 3
abbrev pub counts_of : ℕ → Counts
counts_of n = record { of = count_of n 0 ∷ count_of n 1 ∷ count_of n 2 ∷ count_of n 3 ∷ [] }
