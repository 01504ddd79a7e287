-- `stepping::step` meets its contract. Assumes nothing.

use mathlib.Core.Path.{refl}
use Rattle.stepping.proofs.Stepping.{step-link, step-out}
use Rattle.stepping.proofs.step.Goals as goal

pub returns-in-Some-clause-shows : goal.returns-in-Some-clause-shows
returns-in-Some-clause-shows c = let a = c.args in
    step-link a.rows.now a.full a.flat.now a.s.progress c.requires.0 (rw c.minus.ensures at c.in-Some.ensures.at_work) c.link_step.ensures.shows

pub returns-in-None-clause-shows : goal.returns-in-None-clause-shows
returns-in-None-clause-shows c = let a = c.args in
    step-out a.rows.now a.full a.flat.now a.s.progress c.requires.0 (rw c.minus.ensures at (c.in-None.ensures.list_len_bound refl)) c.out_step.ensures
