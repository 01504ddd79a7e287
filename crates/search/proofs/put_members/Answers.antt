-- `search::put_members` meets its contract: what the walk has ahead of it is still to be put. Assumes nothing.

use Prim.Native.Nat.{ℕ, ◌+◌, ◌<◌, ◌≤◌}
use mathlib.Core.Path.{◌≡◌, sym, ap, ◌∙◌}
use native.Mathlib.Omega.{arith}
use lib.Dec.{leb}
use lib.ListN.{length, get_or}
use mir.Val.{Fits}
use mir.Syntax.{w64}
use borrow.Author.Rules.{rules}
use borrow.Author.Tests.{leb-true, leb-false}
use Rattle.vertexset.specs.Set.{Words, word_count, count}
use Rattle.vertexset.proofs.Walks.{walks_begin, walks_on, walks_less}
use Rattle.search.proofs.Filling.{fill_length}
use Rattle.search.proofs.Members.{listed, members-none, members-begin, members-place, members-turn, members-passes, members-done}
use Rattle.search.proofs.put_members.Goals as goal

pub returns-then-not-has_room : goal.returns-then-not-has_room
returns-then-not-has_room c = let rest = let a = c.args in
    let l : length a.set.words ≡ word_count = search rules in
    let w : Words a.set.words = λ i. let f : Fits w64 (get_or a.set.words i 0) = search rules in f.fits in
    let h : length a.items.now < a.at + count a.set.words = leb-false _ _ (ap (λ (k : ℕ). leb (a.at + k) (length a.items.now)) (sym c.size.ensures) ∙ sym c.has_room.ensures ∙ c.if-not-has_room.true) in
    members-none a.set l w a.items.now a.at h in record { after = rest.0; value = rest.1 }

pub loop-set-init : goal.loop-set-init
loop-set-init c = let a = c.args in
    let l : length a.set.words ≡ word_count = search rules in
    let w : Words a.set.words = λ i. let f : Fits w64 (get_or a.set.words i 0) = search rules in f.fits in
    let e = c.walk_from-walk.ensures in
    let h : a.at + count a.set.words ≤ length a.items.now = leb-true _ _ (ap (λ (k : ℕ). leb (a.at + k) (length a.items.now)) (sym c.size.ensures) ∙ sym c.has_room.ensures ∙ c.if-not-has_room.false) in
    (walks_begin a.set.words l w 0 e, members-begin a.set l w a.items.now a.at h e)

pub bounds-items-i : goal.bounds-items-i
bounds-items-i c = let a = c.args in
    let g = sym c.going.ensures ∙ c.loop-set-test.true in
    let p = members-place a.set c.loop-set.invariant.0 c.loop-set.invariant.1 g c.step-walk.ensures (sym c.meets.ensures ∙ c.if-meets.true) in
    omega (arith, p, fill_length a.items.now a.at (listed a.set) c.loop-set.invariant.1)

pub loop-set-smaller-then-meets : goal.loop-set-smaller-then-meets
loop-set-smaller-then-meets c = walks_less c.loop-set.invariant.0 (sym c.going.ensures ∙ c.loop-set-test.true) c.step-walk.ensures

pub loop-set-preserved-then-meets : goal.loop-set-preserved-then-meets
loop-set-preserved-then-meets c = let a = c.args in
    let g = sym c.going.ensures ∙ c.loop-set-test.true in (
      walks_on c.loop-set.invariant.0 c.step-walk.ensures,
      members-turn a.set c.loop-set.invariant.0 c.loop-set.invariant.1 g c.step-walk.ensures (sym c.meets.ensures ∙ c.if-meets.true) c.member.ensures,
    )

pub loop-set-smaller : goal.loop-set-smaller
loop-set-smaller c = walks_less c.loop-set.invariant.0 (sym c.going.ensures ∙ c.loop-set-test.true) c.step-walk.ensures

pub loop-set-preserved : goal.loop-set-preserved
loop-set-preserved c = let a = c.args in
    let g = sym c.going.ensures ∙ c.loop-set-test.true in
    (walks_on c.loop-set.invariant.0 c.step-walk.ensures, members-passes a.set c.loop-set.invariant.0 c.loop-set.invariant.1 g c.step-walk.ensures (sym c.meets.ensures ∙ c.if-meets.false))

pub shape_of-items : goal.shape_of-items
shape_of-items c = let a = c.args in
    fill_length a.items.now a.at (listed a.set) c.loop-set.invariant.1

pub returns : goal.returns
returns c = let rest = let a = c.args in
    members-done a.set c.loop-set.invariant.0 c.loop-set.invariant.1 (sym c.going.ensures ∙ c.loop-set-test.false) in record { after = rest.0; value = rest.1 }
