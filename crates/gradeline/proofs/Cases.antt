-- How long the line is. Assumes nothing.
use Prim.Native.Nat.{ℕ, ◌<◌, ◌≤◌}
use native.Mathlib.Omega.{arith}
use lib.ListN.{length, length-append}
use Rattle.record.specs.declared.Answer.TheVariants.{Grade}
use Rattle.lines.specs.Lines.{decimal}
use Rattle.lines.proofs.Digits.{decimal-short}
use Rattle.lines.proofs.Lengths.{size_short}
use Rattle.gradeline.specs.Line.{graded_line}

-- 48 bytes are enough
pub graded_short : (n m k : ℕ) → n < 65536 → m < 65536 → k < 256 → length (graded_line (Grade k) n m) ≤ 48
graded_short n m k h i j =
    let a = simp length-append at (size_short n m h i) in
    let b : length (decimal k) ≤ 3 = decimal-short 2 k (omega arith) in
    simp length-append (omega arith)
