-- WHAT THE CHECKING PROGRAM PRINTS, as a function of the bytes that it reads.
use Rattle.std.specs.Prelude.{ℕ, List, ◌++◌, cond, length, ltb}
use Rattle.record.specs.declared.Answer.{Answer}
use Rattle.record.specs.declared.Answer.TheVariants.{Accepted, Grade, PlanFault, CertificateFault}
use Rattle.checker.specs.Check.{grade_of}
use Rattle.lines.specs.Lines.{decimal, newline, too_long_line, size_text, grade_text, refusal_line, input_limit}

-- the grade line is boxes, cables and grade; else the line of the refusal
abbrev pub graded_line : Answer → ℕ → ℕ → List ℕ
graded_line Accepted n m = refusal_line Accepted
graded_line (Grade k) n m = size_text n m ++ grade_text ++ decimal k ++ newline
graded_line (PlanFault r p) n m = refusal_line (PlanFault r p)
graded_line (CertificateFault r p) n m = refusal_line (CertificateFault r p)

unfoldable pub grade_line : List ℕ → List ℕ
grade_line s = cond (ltb input_limit (length s)) too_long_line (graded_line (grade_of s).answer (grade_of s).n (grade_of s).m)
