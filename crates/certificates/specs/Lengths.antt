-- HOW MANY NUMBERS AND BYTES A CERTIFICATE HAS (document 02, request 2).
use Rattle.std.specs.Prelude.{List, [], ◌∷◌, ◌++◌, ℕ, suc, ◌+◌, ◌-◌, ◌*◌, leb, length}
use Rattle.connectivity.specs.Lists.{select}
use Rattle.connectivity.specs.Graph.{Graph, edge_count}
use Rattle.connectivity.specs.Path.{Path, vertices}
use Rattle.connectivity.specs.Build.{four}
use Rattle.connectivity.specs.Certificate.{Certificate, Certificate.separation, Certificate.tree, Certificate.ears, Certificate.build}

-- the numbers of a certificate's record, in their order: a path is a count, then the vertices; a side is written the same way
abbrev pub path_numbers : List Path → List ℕ
path_numbers [] = []
path_numbers (P ∷ ps) = length (vertices P) ∷ (vertices P ++ path_numbers ps)

abbrev pub pair_numbers : List (ℕ × ℕ) → List ℕ
pair_numbers [] = []
pair_numbers (e ∷ l) = e.0 ∷ (e.1 ∷ pair_numbers l)

abbrev pub record_numbers : Certificate → List ℕ
record_numbers (separation S) = 0 ∷ (length S ∷ S)
record_numbers (tree c first pairs S) = 1 ∷ (c ∷ (first ∷ (pair_numbers pairs ++ (length S ∷ S))))
record_numbers (ears c d first later S) = 2 ∷ (c ∷ (d ∷ (suc (length later) ∷ (path_numbers (first ∷ later) ++ (length S ∷ S)))))
record_numbers (build p q r s start further) = 3 ∷ (four p q r s ++ path_numbers (start ++ further))

-- "With d cabled pairs, a side of s boxes and k ears, the maker's certificate has 2+s numbers for kind 0, 2n+2+s for kind 1, n+3k+3+s for kind 2
-- and 3d−2n+13 for kind 3." The rules of kind 3 ask for n + 2 ≤ d, so nothing is cut off there.
abbrev pub number_count : Graph → Certificate → ℕ
number_count g (separation S) = 2 + length S
number_count g (tree c first pairs S) = 2 * g.n + 2 + length S
number_count g (ears c d first later S) = g.n + 3 * suc (length later) + 3 + length S
number_count g (build p q r s start further) = 3 * edge_count g - 2 * g.n + 13

-- "A number costs one byte below 128, else two.": how many cost two
abbrev pub wide : List ℕ → ℕ
wide l = length (select (λ v. leb 128 v) l)
