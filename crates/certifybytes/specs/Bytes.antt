-- WHAT THE MAKER'S PROGRAM PRINTS, as a function of the bytes that it reads.
use Rattle.std.specs.Prelude.{ℕ, ◌+◌, List, ◌++◌, cond, length, take, replicate, ltb}
use Rattle.record.specs.declared.Answer.{Answer}
use Rattle.record.specs.declared.Answer.TheVariants.{Accepted, Grade, PlanFault, CertificateFault}
use Rattle.reading.specs.Code.{plan_room}
use Rattle.certifier.specs.Made.{certificate_room, made_from, filled_from}
use Rattle.lines.specs.Lines.{too_long_line, refusal_line, input_limit}

-- an accepted plan and its certificate
abbrev pub room : ℕ
room = plan_room + certificate_room

-- the plan and behind it the certificate; else the line of the refusal
abbrev pub made_bytes : List ℕ → Answer → List ℕ → List ℕ
made_bytes s Accepted certificate = refusal_line Accepted
made_bytes s (Grade k) certificate = s ++ certificate
made_bytes s (PlanFault r p) certificate = refusal_line (PlanFault r p)
made_bytes s (CertificateFault r p) certificate = refusal_line (CertificateFault r p)

-- the certificate is made into a buffer of zeros
abbrev pub zeros : List ℕ
zeros = replicate certificate_room 0

unfoldable pub certify_bytes : List ℕ → List ℕ
certify_bytes s = cond (ltb input_limit (length s)) too_long_line (made_bytes s (made_from s zeros).answer (take (made_from s zeros).length (filled_from s zeros)))
