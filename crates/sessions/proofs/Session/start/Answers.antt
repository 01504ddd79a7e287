-- `sessions::Session::start` meets its contract. Assumes nothing.

use mathlib.Core.Path.{◌∙◌}
use borrow.Author.Tests.{not-true, not-false}
use Rattle.sessions.proofs.Calls.{start-closed, start-refused, start-accepted}
use Rattle.sessions.proofs.Session.start.Goals as goal

pub returns-then-not-ready : goal.returns-then-not-ready
returns-then-not-ready c = c.refused.ensures ∙ start-closed c.args.self c.args.part.now c.if-not-ready.true

pub returns-in-Err : goal.returns-in-Err
returns-in-Err c = c.unread.ensures ∙ start-refused c.args.self c.args.part.now (not-false _ c.if-not-ready.false-raw) c.in-Err.ensures.value

pub returns : goal.returns
returns c = let e = c.in-Ok.ensures in start-accepted c.args.self c.args.part.now (not-false _ c.if-not-ready.false-raw) e.value e.pointers_after e.linked_after
