-- The loops that put a list into an array: after i turns the array holds the first i numbers of the list. Assumes nothing.
use Prim.Native.Nat.{ℕ, ◌+◌, ◌<◌, ◌≤◌}
use mathlib.Core.List.{List}
use mathlib.Core.Path.{◌≡◌, ap, ◌∙◌}
use native.Mathlib.Numerals.{add-one}
use native.Mathlib.Omega.{arith}
use lib.ListN.{length, get_or, set}
use lib.Seq.{paste, paste-suc, length-paste, take-length}
use borrow.Author.Tests.{le-leb, lt-leb}
use Rattle.search.specs.Arrays.{placed, placed_end}

module _ (items : List ℕ) (at : ℕ) (l : List ℕ) where
  pub put_none : length items < at + length l → (items ≡ placed items at l) × (at ≡ placed_end items at l)
  put_none h = (rw (lt-leb (at + length l) (length items) h), rw (lt-leb (at + length l) (length items) h))

  module _ (i : ℕ) (out : List ℕ) (r : at + length l ≤ length items) (e : out ≡ paste items at l i) where
    pub put_length : i ≤ length l → length out ≡ length items
    put_length h = let k : at + i ≤ length items = omega arith in ap length e ∙ length-paste items at l i k h

    pub put_turn : {v : ℕ} → get_or l i 0 ≡ v → i < length l → set out (at + i) v ≡ paste items at l (i + 1)
    put_turn q h = let k : at + i < length items = omega arith in rw (e, ← q, add-one i) (paste-suc items at l i 0 k h)

    pub put_done : i ≡ length l → (out ≡ placed items at l) × (at + i ≡ placed_end items at l)
    put_done h = (
      e ∙ rw (h, take-length l, le-leb (at + length l) (length items) r),
      rw (h, le-leb (at + length l) (length items) r),
    )
