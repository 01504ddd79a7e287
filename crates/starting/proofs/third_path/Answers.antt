-- `starting::third_path` meets its contract. Assumes nothing.

use mathlib.Core.List.{[], ◌∷◌}
use Rattle.construction.specs.Sets.{single}
use Rattle.construction.specs.Search.{explore}
use borrow.Author.Rules.{rules}
use Rattle.detours.proofs.Answered.{answered-settled}
use Rattle.starting.proofs.Searches.{third_found}
use Rattle.starting.proofs.third_path.Goals as goal

pub returns : goal.returns
returns c = let a = c.args in
    answered-settled a.space.now (search rules) (explore a.rows.now c.single.result c.minus-2.result (single 0)) (single 0) (0 ∷ [])
    (third_found a.rows.now a.around.now c.with_all-set.result c.row.result c.minus.result c.single.result
    c.single-2.result c.minus-2.result c.empty.result c.next_from-z.result
    c.empty.ensures c.with_all-set.ensures c.row.ensures c.minus.ensures c.next_from-z.ensures
    c.single.ensures c.single-2.ensures c.minus-2.ensures)
    c.find_on.ensures.value c.settled.ensures
