-- `striking::strike` meets its contract: the tests are known at each way out. Assumes nothing.

use mathlib.Core.Path.{sym, ◌∙◌}
use Rattle.striking.specs.Code.{struck_by}
use Rattle.striking.proofs.strike.Goals as goal

pub returns-then-adjacent : goal.returns-then-adjacent
unfolding struck_by
returns-then-adjacent c = let e = sym c.adjacent.ensures ∙ c.if-adjacent.true in rw e

pub returns-then-spared : goal.returns-then-spared
unfolding struck_by
returns-then-spared c = let e = sym c.adjacent.ensures ∙ c.if-adjacent.false in
    rw (e, ← c.part.ensures, ← c.spared.ensures, c.if-spared.true)

pub returns : goal.returns
unfolding struck_by
returns c = let e = sym c.adjacent.ensures ∙ c.if-adjacent.false in
    rw (e, ← c.part.ensures, ← c.spared.ensures, c.if-spared.false) c.join.ensures
