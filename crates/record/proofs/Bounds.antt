-- A number within its bounds. Assumes nothing.
use Prim.Native.Nat.{ℕ, ◌<◌, ◌≤◌}
use mathlib.Core.Bool.{Bool, true, false, ◌&&◌, and-false}
use mathlib.Core.Path.{◌≡◌, refl}
use native.Mathlib.Omega.{arith}
use lib.Dec.{leb}
use borrow.Author.Tests.{leb-true, le-leb, lt-leb}
use Rattle.record.specs.Read.{within}

and-true : (a b : Bool) → a && b ≡ true → (a ≡ true) × (b ≡ true)
and-true true b e = (refl, e)
and-true false b e = let z : ◌≡◌ {A = ℕ} 0 1 = cc in absurd (omega arith)

pub within-true : (least most k : ℕ) → within least most k ≡ true → (least ≤ k) × (k ≤ most)
within-true least most k e = let t = and-true (leb least k) (leb k most) e in (leb-true _ _ t.0, leb-true _ _ t.1)

pub true_within : (least most k : ℕ) → least ≤ k → k ≤ most → within least most k ≡ true
true_within least most k p q = rw (le-leb least k p, le-leb k most q)

pub below-within : (least most k : ℕ) → k < least → within least most k ≡ false
below-within least most k h = rw (lt-leb least k h)

pub above_within : (least most k : ℕ) → most < k → within least most k ≡ false
above_within least most k h = rw (lt-leb k most h) (and-false (leb least k))
