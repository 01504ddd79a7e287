-- Two vertices side by side in a list: what is left of the list, and places that are passed over. Assumes nothing.
use Prim.Native.Nat.{ℕ, zero, suc, ◌+◌, ◌-◌, ◌≤◌, ◌<◌}
use mathlib.Core.Path.{◌≡◌, refl, ap}
use mathlib.Core.Bool.{false, ◌||◌}
use mathlib.Core.List.{List, [], ◌∷◌}
use native.Mathlib.Omega.{arith}
use lib.ListN.{length, take, drop, get_or, length-drop}
use lib.Seq.{drop-drop}
use Rattle.std.proofs.lemmas.Bool.{or_parts}
use Rattle.vertexset.proofs.Steps.{drop_next}
use Rattle.construction.specs.Steps.{pair_place}
use Rattle.stepping.specs.Code.{has_pair}
use Rattle.stepping.proofs.Lists.{two_are}

-- at the place i, and at the place j before it
module _ (x y : ℕ) (l : List ℕ) (j i : ℕ) (next : i ≡ j + 1) where
  pub has-turn : i < length l → has_pair x y (drop j l) ≡ (two_are x y (get_or l j 0) (get_or l i 0) || has_pair x y (drop i l))
  unfolding has_pair
  has-turn h =
      let a : j < length l = omega arith in
      rw (drop_next l j a, ← next, drop_next l i h)

  pub has_end : length l ≤ i → has_pair x y (drop j l) ≡ false
  unfolding has_pair
  has_end h = go (drop j l) (omega (arith, length-drop j l))
    where
      go : (k : List ℕ) → length k ≤ 1 → has_pair x y k ≡ false
      go [] h = refl
      go (a ∷ []) h = refl
      go (a ∷ (b ∷ k)) h = absurd (omega arith)

-- places without the pair are passed over
pair-skip : (x y k : ℕ) (l : List ℕ) → k < length l → has_pair x y (take (suc k) l) ≡ false → k + pair_place x y (drop k l) ≡ pair_place x y l
unfolding has_pair pair_place
pair-skip x y zero l h e = omega arith
pair-skip x y (suc k) [] h e = absurd (omega arith)
pair-skip x y (suc k) (a ∷ []) h e = absurd (omega arith)
pair-skip x y (suc k) (a ∷ (b ∷ l)) h e =
    let p = or_parts (two_are x y a b) (has_pair x y (b ∷ take k l)) e in
    let r = pair-skip x y k (b ∷ l) (omega arith) p.1 in
    rw p.0 (omega arith)

-- the same from a place on
pub pair-skip_from : (x y k i : ℕ) (l : List ℕ) → k < length l - i → has_pair x y (take (i + suc k - i) (drop i l)) ≡ false → i + k + pair_place x y (drop (i + k) l) ≡ i + pair_place x y (drop i l)
pair-skip_from x y k i l h e =
    let z : i + suc k - i ≡ suc k = omega arith in
    let s = pair-skip x y k (drop i l) (omega (arith, length-drop i l)) (rw z at e) in
    omega (arith, s, ap (pair_place x y) (drop-drop k i l))
