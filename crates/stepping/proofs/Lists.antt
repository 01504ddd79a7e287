-- Lists as the steps go through them: the place of what is looked for, and what is left of a list. Assumes nothing.
use Rattle.std.specs.Prelude.{None, Some, position, nat_lt}
use Rattle.std.proofs.lemmas.List.Quantifiers.{position-Some}
use Rattle.std.proofs.lemmas.List.Sums.{position_or_len_is}
use borrow.Author.Tests.{ltb-false}
use Prim.Native.Nat.{ℕ, ◌+◌, ◌≤◌, ◌<◌}
use mathlib.Core.Path.{◌≡◌, refl, ap, ◌∙◌}
use mathlib.Core.Bool.{Bool, true, false, cond, ◌&&◌, ◌||◌}
use mathlib.Core.List.{List, [], ◌∷◌}
use native.Mathlib.Omega.{arith}
use lib.Dec.{eqb}
use lib.ListN.{length, drop, get_or, length-drop}
use Rattle.std.specs.List.{position_or_len}
use Rattle.std.proofs.lemmas.List.Recursion.{is_position_or_len}
use Rattle.std.proofs.Math.Nat.{add_comm}
use Rattle.vertexset.proofs.Steps.{drop_next}
use Rattle.construction.specs.Sets.{place_of}
use Rattle.construction.specs.Steps.{pair_place}

-- the place is std's
pub place_is : (p : ℕ → Bool) (l : List ℕ) → place_of p l ≡ position_or_len p l
unfolding place_of
place_is p l = is_position_or_len (place_of p) p refl (λ x xs. ap (λ (n : ℕ). cond (p x) 0 n) (add_comm (place_of p xs) 1)) l

module _ (p : ℕ → Bool) (l : List ℕ) where
  pub placed_at : (k : ℕ) → position p l ≡ Some k → (place_of p l ≡ k) × (k < length l)
  placed_at k e = let r = position-Some p l k 0 e in (place_is p l ∙ position_or_len_is p l k 0 (omega (arith, r.0)) r.2 (λ h. r.1), r.0)

  pub not_placed : position p l ≡ None → length l ≤ place_of p l
  not_placed e = rw (place_is p l) (go (nat_lt (position_or_len p l) (length l)) refl e)
    where
      go : (b : Bool) → nat_lt (position_or_len p l) (length l) ≡ b → cond b (Some (position_or_len p l)) None ≡ None → length l ≤ position_or_len p l
      go true t h = absurd (cc)
      go false t h = ltb-false _ _ t

module _ (p : ℕ → Bool) (l : List ℕ) (i : ℕ) where
  place_at : i < length l → place_of p (drop i l) ≡ cond (p (get_or l i 0)) 0 (place_of p (drop (i + 1) l) + 1)
  unfolding place_of
  place_at h = ap (place_of p) (drop_next l i h)

  pub place_here : i < length l → p (get_or l i 0) ≡ true → i ≡ i + place_of p (drop i l)
  place_here h e = let q : place_of p (drop i l) ≡ 0 = rw e at (place_at h) in omega arith

  pub place_turn : i < length l → p (get_or l i 0) ≡ false → i + 1 + place_of p (drop (i + 1) l) ≡ i + place_of p (drop i l)
  place_turn h e = let q : place_of p (drop i l) ≡ place_of p (drop (i + 1) l) + 1 = rw e at (place_at h) in omega arith

abbrev pub two_are : ℕ → ℕ → ℕ → ℕ → Bool
two_are x y a b = (eqb a x && eqb b y) || (eqb a y && eqb b x)

-- at the place i, and at the place j before it
module _ (x y : ℕ) (l : List ℕ) (j i : ℕ) (next : i ≡ j + 1) where
  pair-at : i < length l → pair_place x y (drop j l) ≡ cond (two_are x y (get_or l j 0) (get_or l i 0)) 0 (pair_place x y (drop i l) + 1)
  unfolding pair_place
  pair-at h =
      let a : j < length l = omega arith in
      rw (drop_next l j a, ← next, drop_next l i h)

  pub pair-here : i < length l → two_are x y (get_or l j 0) (get_or l i 0) ≡ true → j ≡ j + pair_place x y (drop j l)
  pair-here h e = let q : pair_place x y (drop j l) ≡ 0 = pair-at h ∙ rw e in omega arith

  pub pair_turn : i < length l → two_are x y (get_or l j 0) (get_or l i 0) ≡ false → i + pair_place x y (drop i l) ≡ j + pair_place x y (drop j l)
  pair_turn h e = let q : pair_place x y (drop j l) ≡ pair_place x y (drop i l) + 1 = pair-at h ∙ rw e in omega arith

pair-few : (x y : ℕ) (l : List ℕ) → length l ≤ 1 → pair_place x y l ≡ length l
unfolding pair_place
pair-few x y [] h = refl
pair-few x y (a ∷ []) h = refl
pair-few x y (a ∷ (b ∷ l)) h = let z : ◌≡◌ {A = ℕ} 0 1 = omega arith in omega arith

pub pair_end : (x y : ℕ) (l : List ℕ) (i : ℕ) → i ≤ length l → length l ≤ i + 1 → length l ≡ i + pair_place x y (drop i l)
pair_end x y l i h k = omega (arith, length-drop i l, pair-few x y (drop i l) (omega (arith, length-drop i l)))
