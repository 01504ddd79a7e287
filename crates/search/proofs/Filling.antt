-- A loop that puts a list whose numbers come one after the other: a part is done, and what is left comes. Assumes nothing.
use Prim.Native.Nat.{ℕ, suc, ◌+◌, ◌<◌, ◌≤◌}
use mathlib.Core.Path.{◌≡◌, refl, sym, ap, ◌∙◌}
use mathlib.Core.List.{List, [], ◌∷◌}
use native.Mathlib.Numerals.{add-one}
use native.Mathlib.Omega.{arith}
use lib.ListN.{length, get_or, set, drop, length-drop}
use lib.Seq.{paste, paste-zero, drop-cons}
use Rattle.search.specs.Arrays.{placed, placed_end}
use Rattle.search.proofs.Puts.{put_length, put_turn, put_done}

pub record Filling (items : List ℕ) (at : ℕ) (l left : List ℕ) (i : ℕ) (out : List ℕ) : Type 0 where
  pub done : ℕ
  pub place : i ≡ at + done
  pub within : done ≤ length l
  pub ahead : drop done l ≡ left
  pub filled : out ≡ paste items at l done
  pub room : at + length l ≤ length items

module _ (items : List ℕ) (at : ℕ) (l : List ℕ) where
  pub fill_start : at + length l ≤ length items → Filling items at l l at items
  fill_start h = record { done = 0; place = omega arith; within = omega arith; ahead = refl; filled = paste-zero items at l; room = h }

  pub fill_length : {left : List ℕ} {i : ℕ} {out : List ℕ} → Filling items at l left i out → length out ≡ length items
  fill_length f = put_length items at l f.done _ f.room f.filled f.within

  -- one number more
  module _ {v : ℕ} {left : List ℕ} {i : ℕ} {out : List ℕ} (f : Filling items at l (v ∷ left) i out) where
    more : f.done < length l
    more = omega (arith, length-drop f.done l, ap length f.ahead)

    split : get_or l f.done 0 ∷ drop (suc f.done) l ≡ v ∷ left
    split = sym (drop-cons l f.done 0 more) ∙ f.ahead

    pub fill_place : i < length items
    fill_place = omega (arith, more, f.place, f.room)

    pub fill_turn : Filling items at l left (i + 1) (set out i v)
    fill_turn =
        let head : get_or l f.done 0 ≡ v = cc split in
        let rest : drop (suc f.done) l ≡ left = cc split in
        record {
          done = f.done + 1;
          place = omega (arith, f.place);
          within = omega (arith, more);
          ahead = rw (add-one f.done) rest;
          filled = rw f.place (put_turn items at l f.done out f.room f.filled head more);
          room = f.room;
        }

  pub fill_done : {i : ℕ} {out : List ℕ} → Filling items at l [] i out → (out ≡ placed items at l) × (i ≡ placed_end items at l)
  fill_done {i} {out} f =
      let e : f.done ≡ length l = omega (arith, f.within, length-drop f.done l, ap length f.ahead) in
      let r = put_done items at l f.done out f.room f.filled e in
      (r.0, f.place ∙ r.1)
