-- The pairs of numbered vertices, in cable order.
use Rattle.std.specs.Prelude.{ℕ, List, [], ◌∷◌, ◌++◌}
use Rattle.connectivity.specs.Lists.{below}

-- one vertex with each of a list
unfoldable pub with_lower : ℕ → List ℕ → List (ℕ × ℕ)
with_lower u [] = []
with_lower u (v ∷ l) = (u, v) ∷ with_lower u l

-- each vertex of a list with every later one
unfoldable pub pairs_among : List ℕ → List (ℕ × ℕ)
pairs_among [] = []
pairs_among (u ∷ l) = with_lower u l ++ pairs_among l

-- the pairs of n numbered vertices, in cable order
abbrev pub pairs_of : ℕ → List (ℕ × ℕ)
pairs_of n = pairs_among (below n)
