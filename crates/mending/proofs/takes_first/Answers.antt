-- `mending::takes_first` meets its contract. Assumes nothing.

use mathlib.Core.Path.{◌∙◌}
use Rattle.mending.proofs.Merging.{first_none, second_none, both_next}
use Rattle.mending.proofs.takes_first.Goals as goal

pub returns-then-p-i : goal.returns-then-p-i
returns-then-p-i c = let a = c.args in first_none a.a.now a.b.now a.p.i a.p.m a.p.j a.p.k c.if-p-i.true

pub returns-then-p-j : goal.returns-then-p-j
returns-then-p-j c = let a = c.args in
    second_none a.a.now a.b.now a.p.i a.p.m a.p.j a.p.k c.if-p-i.false c.if-p-j.true

pub returns : goal.returns
returns c = let a = c.args in
    c.follows.ensures ∙ both_next a.a.now a.b.now a.p.i a.p.m a.p.j a.p.k c.if-p-i.false c.if-p-j.false
