-- `starting::path_across` meets its contract. Assumes nothing.

use mathlib.Core.List.{[]}
use Rattle.construction.specs.Search.{explore}
use borrow.Author.Rules.{rules}
use Rattle.detours.proofs.Answered.{answered-settled}
use Rattle.starting.proofs.Searches.{across-found}
use Rattle.starting.proofs.path_across.Goals as goal

pub returns : goal.returns
returns c = let a = c.args in
    answered-settled a.space.now (search rules) (explore a.rows.now c.minus-seeds.result c.minus-goals.result c.pair-ends.result) c.pair-ends.result []
    (across-found a.rows.now a.around.now a.third.now c.pair-ends.result c.minus-seeds.result c.minus-goals.result
    c.with_all.result c.with_all-2.result c.empty-2.result c.empty.result c.number_at.result
    c.number_at.ensures c.pair-ends.ensures c.empty.ensures c.with_all.ensures c.minus-seeds.ensures
    c.empty-2.ensures c.with_all-2.ensures c.minus-goals.ensures)
    c.find.ensures.value c.settled.ensures
