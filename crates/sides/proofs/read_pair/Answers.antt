-- `sides::read_pair` meets its contract: a pair is read whole, then tested. Assumes nothing.

use mathlib.Core.Path.{◌∙◌, sym, ap, refl}
use Rattle.paths.specs.Items.{told}
use Rattle.sides.specs.Code.{pair_read}
use Rattle.paths.proofs.Told.{told-exit, item-ok}
use Rattle.sides.proofs.Reading.{pair-first, pair-second, pair-tested}
use Rattle.sides.proofs.read_pair.Goals as goal

pub returns-in_err-new : goal.returns-in_err-new
unfolding told
returns-in_err-new c = let f = told-exit _ c.from_residual.result _ c.in_err-new.ensures c.from_residual.ensures.1 in
    f.3 ∙ ap pair_read (sym (pair-first _ _ _ _ _ f.2))

pub returns-in_err-old : goal.returns-in_err-old
unfolding told
returns-in_err-old c = let f = told-exit _ c.from_residual-in_err-old.result _ c.in_err-old.ensures c.from_residual-in_err-old.ensures.1 in
    f.3 ∙ ap pair_read (sym (pair-second _ _ _ _ _ (item-ok _ c.in_ok-new.ensures) f.2))

pub returns-then-not-adjacent : goal.returns-then-not-adjacent
unfolding told
returns-then-not-adjacent c = ap pair_read (sym (pair-tested _ _ _ _ _ (item-ok _ c.in_ok-new.ensures) (item-ok _ c.in_ok-old.ensures) (sym c.if-not-adjacent.ensures) refl refl))

pub returns-then-not-contains : goal.returns-then-not-contains
unfolding told
returns-then-not-contains c = ap pair_read (sym (pair-tested _ _ _ _ _ (item-ok _ c.in_ok-new.ensures) (item-ok _ c.in_ok-old.ensures) (sym c.if-not-adjacent.ensures) (sym c.if-not-contains.ensures) refl))

pub returns-then-contains : goal.returns-then-contains
unfolding told
returns-then-contains c = ap pair_read (sym (pair-tested _ _ _ _ _ (item-ok _ c.in_ok-new.ensures) (item-ok _ c.in_ok-old.ensures) (sym c.if-not-adjacent.ensures) (sym c.if-not-contains.ensures) (sym c.if-contains.ensures)))

pub returns : goal.returns
unfolding told
returns c = ap pair_read (sym (pair-tested _ _ _ _ _ (item-ok _ c.in_ok-new.ensures) (item-ok _ c.in_ok-old.ensures) (sym c.if-not-adjacent.ensures) (sym c.if-not-contains.ensures) (sym c.if-contains.ensures)))
