-- `paths::read_vertex` meets its contract. Assumes nothing.

use mathlib.Core.Path.{◌∙◌, sym, ap}
use borrow.Author.Tests.{lt-ltb, le-ltb}
use Rattle.record.proofs.Loops.{needs_bad}
use Rattle.certificates.specs.Records.{vertex}
use Rattle.paths.specs.Items.{told, item_read}
use Rattle.paths.proofs.Told.{told-exit, item_tested}
use Rattle.paths.proofs.read_vertex.Goals as goal

pub returns-in_err-x : goal.returns-in_err-x
unfolding told vertex
returns-in_err-x c = let f = told-exit _ c.from_residual.result _ c.in_err-x.ensures c.from_residual.ensures.1 in
    f.3 ∙ ap item_read (sym (needs_bad _ 9 _ f.2))

pub returns-then-n-x : goal.returns-then-n-x
unfolding told vertex
returns-then-n-x c = c.refused.ensures ∙ item_tested 9 _ _ _ c.in_ok-x.ensures (le-ltb _ _ c.if-n-x.true)

pub returns : goal.returns
unfolding told vertex
returns c = item_tested 9 _ _ _ c.in_ok-x.ensures (lt-ltb _ _ c.if-n-x.false)
