-- What the checker's inner functions give, on the rows of a graph.
use Rattle.std.specs.Prelude.{ℕ, zero, suc, ◌+◌, List, cond, ◌||◌, ltb, leb, length, Result, Ok, Err}
use Rattle.record.specs.Read.{Read, Read.Got, Read.Refused}
use Rattle.record.specs.Number.{number}
use Rattle.record.specs.declared.Answer.{Answer}
use Rattle.record.specs.declared.Answer.TheVariants.{Grade, CertificateFault}
use Rattle.connectivity.specs.Graph.{Graph}
use Rattle.connectivity.specs.Build.{further_count}
use Rattle.certificates.specs.Records.{body}
use Rattle.paths.specs.Items.{end_read}
use Rattle.build.specs.State.{build_body}

-- where the body of a certificate of kind k ends, beside a graph with d edges
unfoldable pub body_end : Graph → ℕ → ℕ → List ℕ → ℕ → Result ℕ Answer
body_end g d zero s at = end_read (body g 0 s at)
body_end g d (suc zero) s at = end_read (body g 1 s at)
body_end g d (suc (suc zero)) s at = end_read (body g 2 s at)
body_end g d (suc (suc (suc k))) s at = end_read (build_body g (further_count d g.n) s at)

-- after the body nothing may be left
abbrev pub on_end : ℕ → ℕ → Result ℕ Answer → Answer
on_end len k (Ok next) = cond (ltb next len) (CertificateFault 7 next) (Grade k)
on_end len k (Err fault) = fault

-- the kind is read and tested for 8 and 29, then the body is read
abbrev pub on_kind : Graph → ℕ → List ℕ → Read ℕ → Answer
on_kind g d s (Got k at) =
    cond (leb k 3) (cond (ltb k 3 || leb (g.n + 2) d) (on_end (length s) k (body_end g d k s at)) (CertificateFault 29 0)) (CertificateFault 8 0)
on_kind g d s (Refused r p) = CertificateFault r p

unfoldable pub rows_answer : Graph → ℕ → List ℕ → Answer
rows_answer g d s = on_kind g d s (number s 0)
