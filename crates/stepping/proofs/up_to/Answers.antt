-- `stepping::up_to` meets its contract. Assumes nothing.

use mathlib.Core.Path.{sym}
use Rattle.stepping.proofs.Stepping.{up_to-part, up_to-all}
use Rattle.stepping.proofs.up_to.Goals as goal

pub returns-in-Some : goal.returns-in-Some
returns-in-Some c = up_to-part c.args.path.now c.args.set (sym c.in-Some.ensures)

pub returns-in-None : goal.returns-in-None
returns-in-None c = up_to-all c.args.path.now c.args.set (sym c.in-None.ensures)
