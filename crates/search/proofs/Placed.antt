-- Lists at the front of the code's arrays: what is put behind one, and what is read from it. Assumes nothing.
use Prim.Native.Nat.{ℕ, zero, suc, ◌+◌, ◌-◌, ◌<◌, ◌≤◌, min}
use mathlib.Core.List.{List, [], ◌∷◌, ◌++◌}
use mathlib.Core.Bool.{Bool, true, false, cond}
use mathlib.Core.Path.{◌≡◌, refl, sym, ap, ◌∙◌}
use native.Mathlib.Omega.{arith}
use Rattle.std.proofs.Math.Nat.{min-le_left}
use Rattle.std.proofs.lemmas.List.{length-take, take_min}
use lib.ListN.{length, get_or, take, drop, set, replicate, length-append, length-replicate, get_or-eq_default, get_or-append}
use lib.Seq.{take-append_seam, drop-append-add, append_snoc, set_at, get_or-append-add}
use lib.Dec.{ltb, leb}
use borrow.Author.Tests.{leb-true, ltb-true, ltb-false, le-leb}
use Rattle.vertexset.proofs.Laws.{zeros-at}
use Rattle.record.specs.Write.{has_room, overwritten}
use Rattle.record.proofs.Write.{overwritten-length}
use Rattle.construction.specs.Sets.{added}
use Rattle.search.specs.Arrays.{padded, Fronted, placed, placed_end}

pub placed-length : (items : List ℕ) (at : ℕ) (l : List ℕ) → length (placed items at l) ≡ length items
placed-length items at l = go (has_room items at l) refl
  where
    go : (b : Bool) → has_room items at l ≡ b → length (cond b (overwritten items at l) items) ≡ length items
    go true e = overwritten-length items at l (leb-true _ _ e)
    go false e = refl

abbrev zeros : ℕ → List ℕ
zeros n = replicate n 0

pub drop_zeros : (k n : ℕ) → drop k (zeros n) ≡ zeros (n - k)
drop_zeros zero n = let z : n - 0 ≡ n = omega arith in rw z
drop_zeros (suc k) zero = let z : 0 - suc k ≡ 0 = omega arith in rw z
drop_zeros (suc k) (suc n) = let z : suc n - suc k ≡ n - k = omega arith in rw z (drop_zeros k n)

pub padded-length : (size : ℕ) (l : List ℕ) → length l ≤ size → length (padded size l) ≡ size
padded-length size l h = omega (arith, length-append l (zeros (size - length l)), length-replicate {A = ℕ} (size - length l) 0)

pub padded-none : (size : ℕ) → padded size [] ≡ replicate size 0
padded-none size = let z : size - 0 ≡ size = omega arith in rw z

pub padded-take : (size : ℕ) (l : List ℕ) → length l ≤ size → take (length l) (padded size l) ≡ l
padded-take size l h = take-append_seam l (zeros (size - length l))

pub padded-at : (size : ℕ) (l : List ℕ) (i : ℕ) → get_or (padded size l) i 0 ≡ get_or l i 0
padded-at size l i = go (ltb i (length l)) refl
  where
    go : (b : Bool) → ltb i (length l) ≡ b → get_or (padded size l) i 0 ≡ get_or l i 0
    go true e = get_or-append l (zeros (size - length l)) 0 i (ltb-true _ _ e)
    go false e =
        let h : length l ≤ i = ltb-false _ _ e in
        let k : i ≡ length l + (i - length l) = omega arith in
        rw k (get_or-append-add l (zeros (size - length l)) (i - length l) 0 ∙ zeros-at (size - length l) (i - length l)) ∙ sym (get_or-eq_default l 0 h)

pub added-length : (size : ℕ) (l k : List ℕ) → length l ≤ size → length (added size l k) ≤ size
added-length size l k h = go (leb (length l + length k) size) refl
  where
    go : (b : Bool) → leb (length l + length k) size ≡ b → length (cond b (l ++ k) l) ≤ size
    go true e = let r : length l + length k ≤ size = leb-true _ _ e in omega (arith, length-append l k)
    go false e = h

-- zeros that give way to a list
pub padded-over : (size : ℕ) (l k : List ℕ) → overwritten (padded size l) (length l) k ≡ padded size (l ++ k)
padded-over size l k =
    let n : size - length l - length k ≡ size - length (l ++ k) = omega (arith, length-append l k) in
    rw (take-append_seam l (zeros (size - length l)), drop-append-add l (zeros (size - length l)) (length k), drop_zeros (length k) (size - length l), n)

pub placed-padded : (size : ℕ) (l k : List ℕ) → length l ≤ size → placed (padded size l) (length l) k ≡ padded size (added size l k)
placed-padded size l k h = rw (padded-length size l h) (go (leb (length l + length k) size))
  where
    go : (b : Bool) → cond b (overwritten (padded size l) (length l) k) (padded size l) ≡ padded size (cond b (l ++ k) l)
    go true = padded-over size l k
    go false = refl

pub placed_end-padded : (size : ℕ) (l k : List ℕ) → length l ≤ size → placed_end (padded size l) (length l) k ≡ length (added size l k)
placed_end-padded size l k h = rw (padded-length size l h) (go (leb (length l + length k) size))
  where
    go : (b : Bool) → cond b (length l + length k) (length l) ≡ length (cond b (l ++ k) l)
    go true = sym (length-append l k)
    go false = refl

pub padded-set : (size : ℕ) (l : List ℕ) (v : ℕ) → length l < size → set (padded size l) (length l) v ≡ padded size (l ++ (v ∷ []))
padded-set size l v h =
    let n : size - length l ≡ suc (size - length (l ++ (v ∷ []))) = omega (arith, length-append l (v ∷ [])) in
    rw n (set_at l 0 (zeros (size - length (l ++ (v ∷ [])))) v (length l) refl ∙ sym (append_snoc l v (zeros (size - length (l ++ (v ∷ []))))))

-- as much of a list as has room, put at the front of zeros
module _ (size : ℕ) (l : List ℕ) {k : ℕ} (m : k ≡ min size (length l)) {out : List ℕ} {n : ℕ} (a : out ≡ placed (zeros size) 0 (take k l)) (b : n ≡ placed_end (zeros size) 0 (take k l)) where
  fits : length (take k l) ≤ size
  fits = omega (arith, length-take k l, m, min-le_left size (length l), min-le_left k (length l))

  front : out ≡ padded size (take k l)
  front =
      let z : 0 + length (take k l) ≡ length (take k l) = omega arith in
      a ∙ rw (length-replicate {A = ℕ} size 0, z, le-leb (length (take k l)) size fits, drop_zeros (length (take k l)) size)

  count : n ≡ length (take k l)
  count =
      let z : 0 + length (take k l) ≡ length (take k l) = omega arith in
      b ∙ rw (length-replicate {A = ℕ} size 0, z, le-leb (length (take k l)) size fits)

  whole : take n out ≡ take k l
  whole = rw (front, count) (padded-take size (take k l) fits)

  pub placed-fronted : Fronted size out n
  placed-fronted = record {
    sized = ap length front ∙ padded-length size (take k l) fits;
    within = omega (arith, count, fits, ap length front, padded-length size (take k l) fits);
    zeros = front ∙ ap (padded size) (sym whole);
  }

  pub placed-front : take n out ≡ take size l
  placed-front = whole ∙ rw m (take_min size l)
