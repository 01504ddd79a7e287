-- `sessions::Session::path` meets its contract. Assumes nothing.

use mathlib.Core.Path.{sym, ◌∙◌}
use native.Mathlib.Omega.{arith}
use Rattle.sessions.proofs.Calls.{path-not, path-due, due-room, due-refused, due-accepted}
use Rattle.sessions.proofs.Session.path.Goals as goal

pub returns-then-not-is_due : goal.returns-then-not-is_due
returns-then-not-is_due c = c.refused.ensures ∙ path-not _ _ (sym c.if-not-is_due.ensures)

pub returns-in-Err : goal.returns-in-Err
returns-in-Err c = let a = c.args in
    let e = c.in-Err.ensures in
    c.unread.ensures ∙ due-refused a.self a.part.now e.pointers_after e.linked_after e.value ∙ path-due _ _ (sym c.if-not-is_due.ensures)

pub bounds-self-self : goal.bounds-self-self
bounds-self-self c = due-room c.args.self c.args.part.now (sym c.if-not-is_due.ensures)

pub offset_bounds-self-self : goal.offset_bounds-self-self
offset_bounds-self-self c = omega (arith, due-room c.args.self c.args.part.now (sym c.if-not-is_due.ensures))

pub overflow_add-self : goal.overflow_add-self
overflow_add-self c = omega (arith, due-room c.args.self c.args.part.now (sym c.if-not-is_due.ensures))

pub returns : goal.returns
returns c = let a = c.args in
    let e = c.in-Ok.ensures in
    due-accepted a.self a.part.now e.pointers_after e.linked_after e.value ∙ path-due _ _ (sym c.if-not-is_due.ensures)
