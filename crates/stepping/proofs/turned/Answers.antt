-- `stepping::turned` meets its contract. Assumes nothing.

use mathlib.Core.Path.{sym, ap, ◌∙◌}
use Rattle.search.specs.Code.{path_of}
use Rattle.stepping.proofs.Turns.{turned_none, inner_whole, turned_same, turned-other}
use Rattle.stepping.proofs.turned.Goals as goal

pub returns-then-path-lt2 : goal.returns-then-path-lt2
returns-then-path-lt2 c = ap path_of (c.new.ensures ∙ sym (turned_none c.args.path.now c.args.z c.if-path-lt2.true))

pub returns-then-z-path : goal.returns-then-z-path
returns-then-z-path c = ap path_of (turned-other c.args.path.now c.args.z (inner_whole c.args.path.now c.args.z c.requires c.from_slice-inner.ensures) c.if-z-path.true c.reverse.ensures)

pub returns-else-z-path : goal.returns-else-z-path
returns-else-z-path c = ap path_of (turned_same c.args.path.now c.args.z (inner_whole c.args.path.now c.args.z c.requires c.from_slice-inner.ensures) c.if-z-path.false)
