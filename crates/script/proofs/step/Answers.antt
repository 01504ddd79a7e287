-- `script::step` meets its contract. Assumes nothing.

use mathlib.Core.Path.{◌∙◌}
use borrow.Author.Tests.{eq-eqb, ne_eqb}
use Rattle.script.proofs.step.Goals as goal

pub returns-then-call-eq115 : goal.returns-then-call-eq115
returns-then-call-eq115 c = c.start.ensures ∙ rw (eq-eqb _ _ c.if-call-eq115.true)

pub returns : goal.returns
returns c = c.path.ensures ∙ rw (ne_eqb _ _ c.if-call-eq115.false)
