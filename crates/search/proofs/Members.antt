-- The members of a set, ascending, are what a walk through it meets, and as many as the set's size. Assumes nothing.
use Prim.Native.Nat.{ℕ, zero, suc, ◌+◌, ◌-◌, ◌*◌, ◌≤◌, ◌<◌}
use mathlib.Core.Path.{◌≡◌, refl, sym, ap, subst, ◌∙◌}
use mathlib.Core.Bool.{Bool, true, false, cond}
use mathlib.Core.List.{List, ◌∷◌}
use native.Mathlib.Nat.{zero-add}
use native.Mathlib.Omega.{arith}
use lib.ListN.{length, set}
use Rattle.vertexset.specs.Set.{Words, has, word_count, count, capacity}
use Rattle.vertexset.specs.Walk.{walk_from, going, meets, met, stepped}
use Rattle.vertexset.specs.declared.VertexSet.{VertexSet}
use Rattle.vertexset.specs.declared.Cursor.{Cursor}
use Rattle.vertexset.proofs.Bit.{tally}
use Rattle.vertexset.proofs.Laws.{count-tally}
use Rattle.vertexset.proofs.Walks.{Walks, ahead, ahead_from, tally_select, walks_meets, walks_passes, walks_over}
use Rattle.connectivity.specs.Lists.{select, up_from}
use Rattle.construction.specs.Sets.{members_from, members}
use Rattle.search.specs.Arrays.{placed, placed_end}
use Rattle.search.proofs.Puts.{put_none}
use Rattle.search.proofs.Filling.{Filling, fill_start, fill_place, fill_turn, fill_done}

-- over a variable, since the numbers below capacity are many to compute
ahead_to : (ws : List ℕ) (z v : ℕ) → 64 * length ws ≡ z → {w : Cursor} → w ≡ walk_from ws v → ahead ws w ≡ select (has ws) (up_from v (z - v))
ahead_to ws z v e f = ap (ahead ws) f ∙ ahead_from ws v ∙ ap (λ (n : ℕ). select (has ws) (up_from v (n - v))) e

pub ahead_members : (s : VertexSet) → length s.words ≡ word_count → (v : ℕ) {w : Cursor} → w ≡ walk_from s.words v → ahead s.words w ≡ members_from v s
ahead_members s l v f = ahead_to s.words capacity v (ap (λ (n : ℕ). 64 * n) l) f

selected_size : (ws : List ℕ) (z : ℕ) → 64 * length ws ≡ z → Words ws → length (select (has ws) (up_from 0 z)) ≡ count ws
unfolding tally
selected_size ws z e w = sym (count-tally ws w ∙ ap (tally (has ws)) (e ∙ sym (zero-add z)) ∙ tally_select (has ws) z 0 ∙ zero-add _)

pub members-size : (s : VertexSet) → length s.words ≡ word_count → Words s.words → length (members s) ≡ count s.words
members-size s l w = selected_size s.words capacity (ap (λ (n : ℕ). 64 * n) l) w

select-low : (p : ℕ → Bool) (k a : ℕ) → length (select p (up_from a k)) ≤ k
select-low p zero a = omega arith
select-low p (suc k) a = go (p a) (select-low p k (suc a))
  where
    go : (b : Bool) → length (select p (up_from (suc a) k)) ≤ k → length (cond b (a ∷ select p (up_from (suc a) k)) (select p (up_from (suc a) k))) ≤ suc k
    go true h = omega arith
    go false h = omega arith

pub members-low : (s : VertexSet) → length (members s) ≤ capacity
members-low s = select-low (has s.words) capacity 0

-- ---- the loop that puts them

-- the members, shut: omega would compute them one by one
unfoldable pub listed : VertexSet → List ℕ
listed s = members s

listed-is : (s : VertexSet) → listed s ≡ members s
unfolding listed
listed-is s = refl

-- what a list put in does, at the members
abbrev Put : List ℕ → ℕ → List ℕ → ℕ → List ℕ → Type 0
Put items at out next l = (out ≡ placed items at l) × (next ≡ placed_end items at l)

module _ (s : VertexSet) (long : length s.words ≡ word_count) (w : Words s.words) (items : List ℕ) (at : ℕ) where
  listed-size : length (listed s) ≡ count s.words
  listed-size = ap length (listed-is s) ∙ members-size s long w

  pub members-none : length items < at + count s.words → (items ≡ placed items at (members s)) × (at ≡ placed_end items at (members s))
  members-none h = subst (Put items at items at) (listed-is s) (put_none items at (listed s) (omega (arith, listed-size)))

  pub members-begin : at + count s.words ≤ length items → {r : Cursor} → r ≡ walk_from s.words 0 → Filling items at (listed s) (ahead s.words r) at items
  members-begin h e =
      subst (λ (left : List ℕ). Filling items at (listed s) left at items) (listed-is s ∙ sym (ahead_members s long 0 e))
      (fill_start items at (listed s) (omega (arith, listed-size)))

module _ {items : List ℕ} {at i : ℕ} {out : List ℕ} (s : VertexSet) {w : Cursor} (o : Walks s.words w) (f : Filling items at (listed s) (ahead s.words w) i out) where
  pub members-done : going word_count w ≡ false → (out ≡ placed items at (members s)) × (i ≡ placed_end items at (members s))
  members-done g =
      subst (Put items at out i) (listed-is s)
      (fill_done items at (listed s) (subst (λ (left : List ℕ). Filling items at (listed s) left i out) (walks_over o g) f))

  module _ (g : going word_count w ≡ true) {r : Cursor} (e : r ≡ stepped s.words w) where
    pub members-passes : meets w ≡ false → Filling items at (listed s) (ahead s.words r) i out
    members-passes m = subst (λ (left : List ℕ). Filling items at (listed s) left i out) (walks_passes o g e m) f

    module _ (m : meets w ≡ true) where
      first : Filling items at (listed s) (met w ∷ ahead s.words r) i out
      first = subst (λ (left : List ℕ). Filling items at (listed s) left i out) (walks_meets o g e m) f

      pub members-place : i < length items
      members-place = fill_place items at (listed s) first

      pub members-turn : {v : ℕ} → v ≡ met w → Filling items at (listed s) (ahead s.words r) (i + 1) (set out i v)
      members-turn v =
          subst (λ (x : ℕ). Filling items at (listed s) (ahead s.words r) (i + 1) (set out i x)) (sym v) (fill_turn items at (listed s) first)
