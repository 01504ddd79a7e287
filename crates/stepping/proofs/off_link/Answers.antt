-- `stepping::off_link` meets its contract. Assumes nothing.

use mathlib.Core.List.{[]}
use borrow.Author.Rules.{rules}
use Rattle.construction.specs.Search.{explore}
use Rattle.detours.proofs.Answered.{answered-settled}
use Rattle.stepping.proofs.Stepping.{off-found}
use Rattle.stepping.proofs.off_link.Goals as goal

pub returns : goal.returns
returns c = let a = c.args in
    answered-settled a.space.now (search rules) (explore a.rows.now c.pair-seeds.result c.minus-2.result c.pair-ends.result) c.pair-ends.result []
    (off-found a.rows.now a.list.now a.built a.w.link c.pair-ends.result c.pair-seeds.result c.minus.result c.minus-2.result a.w.first a.w.end
    c.saturating_sub.result c.saturating_sub-2.result c.number_at.result c.number_at-2.result c.number_at-3.result c.number_at-4.result
    c.requires c.saturating_sub.ensures c.number_at.ensures c.number_at-2.ensures c.pair-ends.ensures
    c.number_at-3.ensures c.saturating_sub-2.ensures c.number_at-4.ensures c.pair-seeds.ensures c.minus.ensures c.minus-2.ensures)
    c.find.ensures.value c.settled.ensures
