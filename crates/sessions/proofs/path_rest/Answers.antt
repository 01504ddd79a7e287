-- `sessions::path_rest` meets its contract. Assumes nothing.

use mathlib.Core.Path.{◌∙◌}
use Rattle.sessions.proofs.path_rest.Goals as goal

pub returns : goal.returns
returns c = c.rest.ensures ∙ rw c.path-x.ensures
