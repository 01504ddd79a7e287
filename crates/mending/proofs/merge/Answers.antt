-- `mending::merge` meets its contract. Assumes nothing.

use mathlib.Core.Path.{sym, ◌∙◌}
use borrow.Author.Rules.{rules}
use Rattle.mending.proofs.Merging.{merge_start, merge_first, merge_second, merge_end}
use Rattle.mending.proofs.merge.Goals as goal

pub loop-at-init : goal.loop-at-init
loop-at-init c = let a = c.args in merge_start a.a.now a.m a.b.now a.k (search rules)

pub loop-at-preserved-then-takes_first : goal.loop-at-preserved-then-takes_first
loop-at-preserved-then-takes_first c = merge_first _ _ _ _ c.loop-at.invariant c.loop-at-test.true c.requires (sym c.takes_first.ensures ∙ c.if-takes_first.true)

pub loop-at-preserved : goal.loop-at-preserved
loop-at-preserved c = merge_second _ _ _ _ c.loop-at.invariant c.loop-at-test.true c.requires (sym c.takes_first.ensures ∙ c.if-takes_first.false)

pub returns : goal.returns
returns c = merge_end _ _ _ _ c.loop-at.invariant c.loop-at-test.false c.requires
