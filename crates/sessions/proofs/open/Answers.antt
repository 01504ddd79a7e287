-- `sessions::open` meets its contract. Assumes nothing.

use mathlib.Core.Path.{◌∙◌}
use Rattle.sessions.proofs.Calls.{open_refused, open_few, open_accepted}
use Rattle.sessions.proofs.open.Goals as goal

pub returns-in-Err : goal.returns-in-Err
returns-in-Err c = open_refused _ c.in-Err.ensures c.none-session.ensures

pub returns-then-graph : goal.returns-then-graph
returns-then-graph c = open_few _ c.in-Ok.ensures c.if-graph.true c.none-session-then-graph.ensures

pub returns : goal.returns
returns c = open_accepted _ c.in-Ok.ensures c.if-graph.false (c.bare-build.ensures ∙ rw c.empty.ensures) c.none-trace.ensures
