-- The bytes of a certificate.
use Rattle.std.specs.Prelude.{List, ◌∷◌, ◌++◌, ℕ, length}
use Rattle.record.specs.Number.{number_bytes, list_bytes}
use Rattle.connectivity.specs.Path.{Path, vertices}
use Rattle.connectivity.specs.Build.{four}
use Rattle.connectivity.specs.Certificate.{Certificate, Certificate.separation, Certificate.tree, Certificate.ears, Certificate.build, kind}

-- a side: a count, then the vertices; a path is written the same way
abbrev pub side_bytes : List ℕ → List ℕ
side_bytes l = number_bytes (length l) ++ list_bytes number_bytes l

abbrev pub path_bytes : Path → List ℕ
path_bytes P = side_bytes (vertices P)

abbrev pub pair_bytes : ℕ × ℕ → List ℕ
pair_bytes p = number_bytes p.0 ++ number_bytes p.1

abbrev pub start_bytes : ℕ → ℕ → ℕ → ℕ → List Path → List ℕ
start_bytes p q r s start = list_bytes number_bytes (four p q r s) ++ list_bytes path_bytes start

abbrev pub body_bytes : Certificate → List ℕ
body_bytes (separation S) = side_bytes S
body_bytes (tree c first pairs S) = number_bytes c ++ (number_bytes first ++ (list_bytes pair_bytes pairs ++ side_bytes S))
body_bytes (ears c d first later S) =
    number_bytes c ++ (number_bytes d ++ ((number_bytes (length (first ∷ later)) ++ list_bytes path_bytes (first ∷ later)) ++ side_bytes S))
body_bytes (build p q r s start further) = start_bytes p q r s start ++ list_bytes path_bytes further

abbrev pub certificate_bytes : Certificate → List ℕ
certificate_bytes x = number_bytes (kind x) ++ body_bytes x
