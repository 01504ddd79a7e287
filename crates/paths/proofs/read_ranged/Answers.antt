-- `paths::read_ranged` meets its contract: a number that can't be read ends the reading, then the range is tested. Assumes nothing.

use mathlib.Core.Path.{◌∙◌, sym, ap}
use Rattle.record.proofs.Loops.{needs_bad}
use Rattle.record.proofs.Bounds.{true_within, below-within, above_within}
use Rattle.paths.specs.Items.{told, item_read}
use Rattle.paths.proofs.Told.{told-exit, item_tested}
use Rattle.paths.proofs.read_ranged.Goals as goal
use Rattle.paths.proofs.read_ranged.Goals.{then-x-least-via-then-x-least, then-x-least-via-else-x-least+then-most-x}

pub returns-in_err-x : goal.returns-in_err-x
unfolding told
returns-in_err-x c = let f = told-exit _ c.from_residual.result _ c.in_err-x.ensures c.from_residual.ensures.1 in
    f.3 ∙ ap item_read (sym (needs_bad _ 9 _ f.2))

pub returns-then-x-least : goal.returns-then-x-least
unfolding told
returns-then-x-least c = c.refused.ensures ∙ item_tested 9 _ _ _ c.in_ok-x.ensures (elim c.then-x-least.branch [
  | then-x-least-via-then-x-least w ↦ below-within _ _ _ w.if-x-least.true
  | then-x-least-via-else-x-least+then-most-x w ↦ above_within _ _ _ w.if-most-x.true
])

pub returns : goal.returns
unfolding told
returns c = item_tested 9 _ _ _ c.in_ok-x.ensures (true_within _ _ _ c.if-x-least.false c.if-most-x.false)
