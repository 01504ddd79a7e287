-- `ears::read_ear` meets its contract. Assumes nothing.

use mathlib.Core.Path.{◌∙◌, sym}
use Rattle.paths.proofs.Told.{told-ok, told-exit, limited-in}
use Rattle.ears.proofs.Ear.{ear-unread, ear-refused, ear-taken}
use Rattle.ears.proofs.read_ear.Goals as goal

pub returns-in_err-p : goal.returns-in_err-p
returns-in_err-p c = let f = told-exit _ c.from_residual.result _ c.in_err-p.ensures c.from_residual.ensures.1 in
    f.3 ∙ ear-unread _ _ _ _ (sym (limited-in _ _ _ c.requires) ∙ f.2)

pub returns-in-Some : goal.returns-in-Some
returns-in-Some c = let t = told-ok _ _ c.in_ok-p.ensures in
    ear-refused _ _ _ _ (sym (limited-in _ _ _ c.requires) ∙ t.2) t.3 c.in-Some.ensures

pub returns : goal.returns
returns c = let t = told-ok _ _ c.in_ok-p.ensures in
    ear-taken _ _ _ _ (sym (limited-in _ _ _ c.requires) ∙ t.2) t.3 c.in_default.ensures c.with_path.ensures
