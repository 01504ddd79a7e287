-- How long the line is. Assumes nothing.
use Prim.Native.Nat.{ℕ, ◌<◌, ◌≤◌}
use native.Mathlib.Omega.{arith}
use lib.ListN.{length, length-append}
use Rattle.record.specs.declared.Answer.TheVariants.{Accepted}
use Rattle.lines.specs.Lines.{newline, size_text}
use Rattle.lines.proofs.Lengths.{size_short}
use Rattle.plan.specs.Line.{size_line}

-- 48 bytes are enough
pub size_line-short : (n m : ℕ) → n < 65536 → m < 65536 → length (size_line Accepted n m) ≤ 48
size_line-short n m h i = let a = size_short n m h i in omega (arith, length-append (size_text n m) newline)
