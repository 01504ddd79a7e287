-- WHAT THE MENDING PROGRAM PRINTS, as a function of the bytes that it reads.
use Rattle.std.specs.Prelude.{ℕ, ◌+◌, ◌*◌, List, ◌++◌, cond, length, ltb}
use Rattle.record.specs.declared.Answer.{Answer}
use Rattle.record.specs.declared.Answer.TheVariants.{Accepted, Grade, PlanFault, CertificateFault}
use Rattle.reading.specs.Code.{plan_room}
use Rattle.certifier.specs.Made.{certificate_room}
use Rattle.lines.specs.Lines.{too_long_line, refusal_line, input_limit}
use Rattle.mending.specs.Mend.{Records, records_from}

-- two plan records and a certificate
abbrev pub room : ℕ
room = 2 * plan_room + certificate_room

-- the list, the mended plan and its certificate, one after the other; else the line of the refusal
abbrev pub printed : Answer → Records → List ℕ
printed Accepted x = refusal_line Accepted
printed (Grade k) x = x.list ++ (x.mended ++ x.certificate)
printed (PlanFault r p) x = refusal_line (PlanFault r p)
printed (CertificateFault r p) x = refusal_line (CertificateFault r p)

unfoldable pub mend_bytes : List ℕ → List ℕ
mend_bytes s = cond (ltb input_limit (length s)) too_long_line (printed (records_from s).answer (records_from s))
