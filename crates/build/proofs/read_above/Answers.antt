-- `build::read_above` meets its contract. Assumes nothing.

use mathlib.Core.Path.{◌∙◌, sym, ap}
use Rattle.record.proofs.Loops.{needs_bad}
use Rattle.paths.specs.Items.{told, item_read}
use Rattle.paths.proofs.Told.{told-exit, item-ok}
use Rattle.build.proofs.Taking.{told-refused}
use Rattle.build.proofs.Turns.{above_low, above_got}
use Rattle.build.proofs.read_above.Goals as goal

pub returns-in_err-x : goal.returns-in_err-x
returns-in_err-x c = let f = told-exit _ c.from_residual.result _ c.in_err-x.ensures c.from_residual.ensures.1 in
    f.3 ∙ told-refused _ (needs_bad _ 20 _ f.2)

pub returns-then-x-before : goal.returns-then-x-before
returns-then-x-before c = told-refused _ (above_low _ _ _ _ (item-ok _ c.in_ok-x.ensures) c.if-x-before.true)

pub returns : goal.returns
unfolding told
returns c = ap item_read (sym (above_got _ _ _ _ (item-ok _ c.in_ok-x.ensures) c.if-x-before.false))
