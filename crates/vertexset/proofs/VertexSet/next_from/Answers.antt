-- `VertexSet::next_from` meets its contract: the first member that the walk has ahead of it stays the same until it is met. Assumes nothing.

use mathlib.Core.Path.{◌≡◌, refl, sym, ap, ◌∙◌}
use Prim.Native.Nat.{◌*◌}
use lib.ListN.{length, get_or}
use mir.Val.{Fits}
use mir.Syntax.{w64}
use borrow.Author.Rules.{rules}
use Rattle.vertexset.specs.Set.{Words, word_count}
use Rattle.vertexset.proofs.Walks.{first_of, next-begin, walks_begin, walks_on, walks_meets, walks_passes, walks_over, walks_less}
use Rattle.vertexset.proofs.VertexSet.next_from.Goals as goal

pub loop-self-init : goal.loop-self-init
loop-self-init c = let a = c.args in
    let ws = a.self.words in
    let l : length ws ≡ word_count = search rules in
    let f : Words ws = λ i. let f : Fits w64 (get_or ws i 0) = search rules in f.fits in
    let e = c.walk_from-walk.ensures in
    (walks_begin ws l f a.v e, next-begin ws l a.v e)

pub returns-then-meets : goal.returns-then-meets
unfolding first_of
returns-then-meets c = let g = sym c.going.ensures ∙ c.loop-self-test.true in
    c.member.ensures
    ∙ sym (ap (first_of (64 * word_count)) (walks_meets c.loop-self.invariant.0 g refl (sym c.meets.ensures ∙ c.if-meets.true)))
    ∙ c.loop-self.invariant.1

pub loop-self-smaller : goal.loop-self-smaller
loop-self-smaller c = walks_less c.loop-self.invariant.0 (sym c.going.ensures ∙ c.loop-self-test.true) c.step-walk.ensures

pub loop-self-preserved : goal.loop-self-preserved
loop-self-preserved c = let g = sym c.going.ensures ∙ c.loop-self-test.true in
    let p = walks_passes c.loop-self.invariant.0 g c.step-walk.ensures (sym c.meets.ensures ∙ c.if-meets.false) in
    (walks_on c.loop-self.invariant.0 c.step-walk.ensures, sym (ap (first_of (64 * word_count)) p) ∙ c.loop-self.invariant.1)

pub returns : goal.returns
unfolding first_of
returns c = sym (ap (first_of (64 * word_count)) (walks_over c.loop-self.invariant.0 (sym c.going.ensures ∙ c.loop-self-test.false))) ∙ c.loop-self.invariant.1
