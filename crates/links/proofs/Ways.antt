-- One step of the walk both ways along a link. Assumes nothing.
use Prim.Native.Nat.{ℕ, suc, ◌+◌, ◌-◌, ◌<◌, ◌≤◌}
use mathlib.Core.Bool.{Bool, true, false}
use mathlib.Core.Path.{◌≡◌}
use native.Mathlib.Omega.{arith}
use Rattle.links.specs.Tables.{outermost}

-- the walk after i of its m steps
module _ (back on mate : ℕ → ℕ) (branch : ℕ → Bool) (m i u w : ℕ) where
  one-less : i < m → m - i ≡ suc (m - (i + 1))
  one-less h = omega arith

  -- the side before u meets a branch vertex
  pub met-before : {a : ℕ} → i < m → a ≡ back u → branch a ≡ true → (u, mate u) ≡ outermost back on mate branch (m - i) u w
  unfolding outermost
  met-before h e t = rw (one-less h, ← e, t)

  -- the side after w does
  pub met-after : {a b : ℕ} → i < m → a ≡ back u → branch a ≡ false → b ≡ on w → branch b ≡ true → (mate w, w) ≡ outermost back on mate branch (m - i) u w
  unfolding outermost
  met-after h e t f s = rw (one-less h, ← e, t, ← f, s)

  -- neither does: one step more on both
  pub met-none : {a b : ℕ} → i < m → a ≡ back u → branch a ≡ false → b ≡ on w → branch b ≡ false
      → outermost back on mate branch (m - (i + 1)) a b ≡ outermost back on mate branch (m - i) u w
  unfolding outermost
  met-none h e t f s = rw (one-less h, ← e, t, ← f, s)

  pub met-end : m ≤ i → (u, w) ≡ outermost back on mate branch (m - i) u w
  unfolding outermost
  met-end h = let z : m - i ≡ 0 = omega arith in rw z
