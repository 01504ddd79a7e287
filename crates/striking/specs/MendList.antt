-- WHICH CABLES WOULD MEND A PLAN (request 6 of document 02), as pairs of vertices of its graph.
use Rattle.std.specs.Prelude.{ℕ, List, [], ◌∷◌, ◌++◌, reverse, Bool, cond, not, ◌||◌, eqb}
use Rattle.connectivity.specs.Lists.{select}
use Rattle.connectivity.specs.Graph.{Graph, listed}
use Rattle.connectivity.specs.Connectivity.{connectivity}
use Rattle.reading.specs.Pairs.{pairs_of}

-- "every pair with no cable between", in cable order
abbrev pub missing : Graph → List (ℕ × ℕ)
missing g = select (λ e. not (g.adj e.0 e.1)) (pairs_of g.n)

-- the graph with these pairs joined too
abbrev pub with_pairs : Graph → List (ℕ × ℕ) → Graph
with_pairs g l = record { n = g.n; adj = λ u v. g.adj u v || listed l u v }

-- "the figure is still 3"
abbrev pub is_three : Graph → Bool
is_three g = eqb (connectivity g) 3

-- Of the pairs still to be looked at the last one comes first; those behind it that were not struck out are kept. "strike a pair out if the figure is
-- still 3 without it and those struck before"
unfoldable pub remaining : Graph → List (ℕ × ℕ) → List (ℕ × ℕ) → List (ℕ × ℕ)
remaining g [] kept = kept
remaining g (p ∷ proposed) kept = cond (is_three (with_pairs g (proposed ++ kept))) (remaining g proposed kept) (remaining g proposed (p ∷ kept))

-- THE LIST: "Take every pair with no cable between as proposed. Go from the last such pair to the first"; "What remains is listed in cable order."
unfoldable pub mend_list : Graph → List (ℕ × ℕ)
mend_list g = remaining g (reverse (missing g)) []
