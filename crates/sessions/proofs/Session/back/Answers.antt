-- `sessions::Session::back` meets its contract. Assumes nothing.

use mathlib.Core.Path.{sym, ◌∙◌}
use native.Mathlib.Omega.{arith}
use Rattle.sessions.proofs.Calls.{back-not, back-there, back-room, path-out}
use Rattle.sessions.proofs.Session.back.Goals as goal

pub returns-then-not-has_path : goal.returns-then-not-has_path
returns-then-not-has_path c = c.refused.ensures ∙ back-not c.args.self (sym c.if-not-has_path.ensures)

pub overflow_sub-left : goal.overflow_sub-left
overflow_sub-left c = omega (arith, (back-room c.args.self (sym c.if-not-has_path.ensures)).0)

pub bounds-self-i : goal.bounds-self-i
bounds-self-i c = let r = back-room c.args.self (sym c.if-not-has_path.ensures) in omega (arith, r.0, r.1)

pub bounds-self-i-2 : goal.bounds-self-i-2
bounds-self-i-2 c = let r = back-room c.args.self (sym c.if-not-has_path.ensures) in omega (arith, r.0, r.1)

pub returns : goal.returns
returns c = back-there c.args.self (sym c.if-not-has_path.ensures) (path-out c.args.self c.take_back-grown.ensures c.none.ensures)
