-- WHAT THE PLAN PROGRAM PRINTS, as a function of the bytes that it reads.
use Rattle.std.specs.Prelude.{ℕ, List, ◌++◌, cond, length, ltb}
use Rattle.record.specs.declared.Answer.{Answer}
use Rattle.record.specs.declared.Answer.TheVariants.{Accepted, Grade, PlanFault, CertificateFault}
use Rattle.reading.specs.Code.{whole_plan}
use Rattle.lines.specs.Lines.{newline, too_long_line, size_text, refusal_line, input_limit}

-- the plan's boxes and cables, or the line of the refusal
abbrev pub size_line : Answer → ℕ → ℕ → List ℕ
size_line Accepted n m = size_text n m ++ newline
size_line (Grade k) n m = refusal_line (Grade k)
size_line (PlanFault r p) n m = refusal_line (PlanFault r p)
size_line (CertificateFault r p) n m = refusal_line (CertificateFault r p)

unfoldable pub plan_line : List ℕ → List ℕ
plan_line s = cond (ltb input_limit (length s)) too_long_line (size_line (whole_plan s).answer (whole_plan s).plan.graph.n (whole_plan s).plan.m)
