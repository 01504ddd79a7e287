-- `sessions::Session::close` meets its contract. Assumes nothing.

use Rattle.sessions.specs.Session.{close_step}
use Rattle.sessions.proofs.Session.close.Goals as goal

pub returns : goal.returns
unfolding close_step
returns c = rw c.closing-answer.ensures
