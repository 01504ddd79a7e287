-- `links::link_at` meets its contract: what is left of the walk gives the same from here as from the start. Assumes nothing.

use Prim.Native.Nat.{ℕ}
use mathlib.Core.Path.{sym, ap, ◌∙◌}
use Rattle.links.specs.Tables.{link_around, link_at}
use Rattle.links.proofs.Ways.{met-before, met-after, met-none, met-end}
use Rattle.links.proofs.link_at.Goals as goal

pub returns-then-contains : goal.returns-then-contains
unfolding link_at
returns-then-contains c = c.link_around.ensures
    ∙ ap (link_around c.args.pointers.now) (ap (λ (m : ℕ). (c.loop.u, m)) c.pointer.ensures
    ∙ met-before _ _ _ _ _ _ _ _ c.loop-test.true c.pointer-before.ensures (sym c.contains.ensures ∙ c.if-contains.true) ∙ c.loop.invariant)

pub returns-then-contains-2 : goal.returns-then-contains-2
unfolding link_at
returns-then-contains-2 c = c.link_around-then-contains-2.ensures
    ∙ ap (link_around c.args.pointers.now) (ap (λ (m : ℕ). (m, c.loop.w)) c.pointer-then-contains-2.ensures
    ∙ met-after _ _ _ _ _ _ _ _ c.loop-test.true c.pointer-before.ensures (sym c.contains.ensures ∙ c.if-contains.false)
    c.pointer-after.ensures (sym c.contains-in-loop.ensures ∙ c.if-contains-2.true) ∙ c.loop.invariant)

pub loop-preserved : goal.loop-preserved
loop-preserved c = met-none _ _ _ _ _ _ _ _ c.loop-test.true c.pointer-before.ensures (sym c.contains.ensures ∙ c.if-contains.false)
    c.pointer-after.ensures (sym c.contains-in-loop.ensures ∙ c.if-contains-2.false)
    ∙ c.loop.invariant

pub returns : goal.returns
unfolding link_at
returns c = c.link_around-2.ensures ∙ ap (link_around c.args.pointers.now) (met-end _ _ _ _ _ _ _ _ c.loop-test.false ∙ c.loop.invariant)
