-- `sides::read_side_vertex` meets its contract: a vertex is read, then tested. Assumes nothing.

use mathlib.Core.Path.{◌∙◌, sym, ap, refl}
use borrow.Author.Tests.{le-leb, lt-leb}
use Rattle.paths.specs.Items.{told, item_read}
use Rattle.paths.proofs.Told.{told-exit, item-ok}
use Rattle.sides.proofs.Reading.{side_vertex-unread, side_vertex-tested}
use Rattle.sides.proofs.read_side_vertex.Goals as goal

pub returns-in_err-x : goal.returns-in_err-x
unfolding told
returns-in_err-x c = let f = told-exit _ c.from_residual.result _ c.in_err-x.ensures c.from_residual.ensures.1 in
    f.3 ∙ ap item_read (sym (side_vertex-unread _ _ _ _ _ f.2))

pub returns-then-x-least : goal.returns-then-x-least
unfolding told
returns-then-x-least c = ap item_read (sym (side_vertex-tested _ _ _ _ _ (item-ok _ c.in_ok-x.ensures) (lt-leb _ _ c.if-x-least.true) refl))

pub returns-then-contains : goal.returns-then-contains
unfolding told
returns-then-contains c = ap item_read (sym (side_vertex-tested _ _ _ _ _ (item-ok _ c.in_ok-x.ensures) (le-leb _ _ c.if-x-least.false) (sym c.contains.ensures ∙ c.if-contains.true)))

pub returns : goal.returns
unfolding told
returns c = ap item_read (sym (side_vertex-tested _ _ _ _ _ (item-ok _ c.in_ok-x.ensures) (le-leb _ _ c.if-x-least.false) (sym c.contains.ensures ∙ c.if-contains.false)))
