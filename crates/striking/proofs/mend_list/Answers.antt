-- `striking::mend_list` meets its contract: what the three parts ensure, one after the other. Assumes nothing.

use mathlib.Core.Path.{◌∙◌}
use borrow.Author.Tests.{lt-ltb, le-ltb}
use Rattle.vertexset.specs.Set.{capacity}
use Rattle.striking.specs.Code.{list_in}
use Rattle.striking.proofs.mend_list.Goals as goal

pub returns-then-n-gt-CAPACITY : goal.returns-then-n-gt-CAPACITY
unfolding list_in
returns-then-n-gt-CAPACITY c = rw (lt-ltb capacity _ c.if-n-gt-CAPACITY.true)

pub returns : goal.returns
unfolding list_in
returns c = c.list.ensures ∙ rw (le-ltb capacity _ c.if-n-gt-CAPACITY.false, ← c.complete.ensures, ← c.strike_all.ensures)
