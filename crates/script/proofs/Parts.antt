-- A part that was found lies within the script, behind its length. Assumes nothing.
use Prim.Native.Nat.{ℕ, ◌+◌, ◌<◌, ◌≤◌}
use mathlib.Core.List.{List}
use mathlib.Core.Bool.{Bool, true, false, cond}
use mathlib.Core.Path.{◌≡◌, refl, ap}
use Rattle.std.specs.Prelude.{Option, Some, None}
use native.Mathlib.Omega.{arith}
use lib.Dec.{leb}
use lib.ListN.{length}
use borrow.Author.Tests.{leb-true}
use Rattle.script.specs.Script.{size_at, part_at}

pub part_within : (s : List ℕ) (at : ℕ) {x : Option (ℕ × ℕ)} {p : ℕ × ℕ} → x ≡ part_at s at → x ≡ Some p → (p.0 ≤ p.1) × (p.1 ≤ length s) × (at < p.1)
unfolding part_at
part_within s at {x} {p} h k = go (leb (at + 2) (length s)) (leb (at + 2 + size_at s at) (length s)) refl h
  where
    go : (b c : Bool) → leb (at + 2 + size_at s at) (length s) ≡ c → x ≡ cond b (cond c (Some (at + 2, at + 2 + size_at s at)) None) None
        → (p.0 ≤ p.1) × (p.1 ≤ length s) × (at < p.1)
    go true true f h =
        let l = leb-true (at + 2 + size_at s at) (length s) f in
        let q : p ≡ (at + 2, at + 2 + size_at s at) = cc in
        let a : p.0 ≡ at + 2 = ap (λ (q : ℕ × ℕ). q.0) q in
        let e : p.1 ≡ at + 2 + size_at s at = ap (λ (q : ℕ × ℕ). q.1) q in
        (omega arith, omega arith, omega arith)
    go true false f h = let z : ◌≡◌ {A = ℕ} 0 1 = cc in absurd (omega arith)
    go false c f h = let z : ◌≡◌ {A = ℕ} 0 1 = cc in absurd (omega arith)
