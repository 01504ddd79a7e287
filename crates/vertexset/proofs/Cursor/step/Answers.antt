-- `Cursor::step` meets its contract: what is left of a word shares with the number below it all its bits but the lowest. Assumes nothing.

use mathlib.Core.Path.{◌∙◌}
use native.Mathlib.Omega.{arith}
use mir.Val.{Fits}
use mir.Syntax.{w64}
use borrow.Author.Rules.{rules}
use borrow.Author.Tests.{eq-eqb, ne_eqb}
use Rattle.vertexset.proofs.Bit.{trailing_low, out_lowest}
use Rattle.vertexset.proofs.Cursor.step.Goals as goal

pub returns-then-rest-eq0 : goal.returns-then-rest-eq0
returns-then-rest-eq0 c = c.walk_at.ensures ∙ rw (eq-eqb c.args.self.rest 0 c.if-rest-eq0.true)

pub returns : goal.returns
returns c = let rest = c.args.self.rest in
    let f : Fits w64 rest = search rules in
    let z = c.if-rest-eq0.false in
    rw (ne_eqb rest 0 z, out_lowest 64 rest z (trailing_low 64 64 rest (omega arith) f.fits z))
