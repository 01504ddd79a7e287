-- Tests and what they tell. Assumes nothing.
use Prim.Native.Nat.{ℕ}
use mathlib.Core.Bool.{Bool, true, false, ◌&&◌, ◌||◌}
use mathlib.Core.Path.{◌≡◌, refl}
use mathlib.Core.Logic.{inl, inr, ⊎_elim, ⊎_map, ◌↔◌}
use lib.Dec.{eqb}
use borrow.Author.Tests.{eqb-true, eq-eqb}
use Rattle.connectivity.proofs.Lists.{and-true, or-true, true_or, bool?}
use Rattle.connectivity.proofs.Paths.{SamePair}

-- tests that hold together are the same
pub same_test : (a b : Bool) → (a ≡ true → b ≡ true) → (b ≡ true → a ≡ true) → a ≡ b
same_test true b f g = let z : b ≡ true = f refl in rw z
same_test false true f g = g refl
same_test false false f g = refl

pub iff_test : {a b : Bool} {A : Type 0} → (a ≡ true) ↔ A → (b ≡ true) ↔ A → a ≡ b
iff_test {a} {b} f g = same_test a b (λ e. g.1 (f.0 e)) (λ e. f.1 (g.0 e))

pub false_of : {b : Bool} → ¬ (b ≡ true) → b ≡ false
false_of {b} n = ⊎_elim (λ e. absurd (n e)) (λ e. e) (bool? b)

pub both_true : {a b : Bool} → a ≡ true → b ≡ true → (a && b) ≡ true
both_true e f = rw (e, f)

pub left_true : {a : Bool} (b : Bool) → a ≡ true → (a || b) ≡ true
left_true b e = rw e

-- u, v are x, y, either way round
abbrev pub same_pair : ℕ → ℕ → ℕ → ℕ → Bool
same_pair u v x y = (eqb u x && eqb v y) || (eqb u y && eqb v x)

pub pair-tells : (u v x y : ℕ) → (same_pair u v x y ≡ true) ↔ SamePair u v x y
pair-tells u v x y = (λ e. ⊎_map (two u v x y) (two u v y x) (or-true (eqb u x && eqb v y) (eqb u y && eqb v x) e), back)
  where
    two : (u v x y : ℕ) → eqb u x && eqb v y ≡ true → (u ≡ x) × (v ≡ y)
    two u v x y e = let r = and-true (eqb u x) (eqb v y) e in (eqb-true u x r.0, eqb-true v y r.1)

    back : SamePair u v x y → same_pair u v x y ≡ true
    back (inl e) = left_true (eqb u y && eqb v x) (both_true (eq-eqb u x e.0) (eq-eqb v y e.1))
    back (inr e) = true_or (eqb u x && eqb v y) (eqb u y && eqb v x) (both_true (eq-eqb u y e.0) (eq-eqb v x e.1))
