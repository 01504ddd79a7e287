-- `build::read_four` meets its contract: a vertex that can't be read, or is not above the one before it, ends the reading. Assumes nothing.

use mathlib.Core.Path.{◌∙◌}
use Rattle.paths.specs.Items.{told}
use Rattle.paths.proofs.Told.{told-exit, item-ok}
use Rattle.build.proofs.Taking.{told-refused}
use Rattle.build.proofs.Turns.{four-first, four-second, four-third, four-fourth, four-got}
use Rattle.build.proofs.read_four.Goals as goal

pub returns-in_err-p : goal.returns-in_err-p
returns-in_err-p c = let f = told-exit _ c.from_residual.result _ c.in_err-p.ensures c.from_residual.ensures.1 in
    f.3 ∙ told-refused _ (four-first _ _ _ f.2)

pub returns-in_err-q : goal.returns-in_err-q
returns-in_err-q c = let f = told-exit _ c.from_residual-in_err-q.result _ c.in_err-q.ensures c.from_residual-in_err-q.ensures.1 in
    f.3 ∙ told-refused _ (four-second _ _ _ (item-ok _ c.in_ok-p.ensures) f.2)

pub returns-in_err-r : goal.returns-in_err-r
returns-in_err-r c = let f = told-exit _ c.from_residual-in_err-r.result _ c.in_err-r.ensures c.from_residual-in_err-r.ensures.1 in
    f.3 ∙ told-refused _ (four-third _ _ _ (item-ok _ c.in_ok-p.ensures) (item-ok _ c.in_ok-q.ensures) f.2)

pub returns-in_err-last : goal.returns-in_err-last
returns-in_err-last c = let f = told-exit _ c.from_residual-in_err-last.result _ c.in_err-last.ensures c.from_residual-in_err-last.ensures.1 in
    f.3 ∙ told-refused _ (four-fourth _ _ _ (item-ok _ c.in_ok-p.ensures) (item-ok _ c.in_ok-q.ensures) (item-ok _ c.in_ok-r.ensures) f.2)

pub returns : goal.returns
unfolding told
returns c = rw (four-got _ _ _ (item-ok _ c.in_ok-p.ensures) (item-ok _ c.in_ok-q.ensures) (item-ok _ c.in_ok-r.ensures) (item-ok _ c.in_ok-last.ensures))
