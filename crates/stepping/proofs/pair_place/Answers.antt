-- `stepping::pair_place` meets its contract: the place from here on is the place from the start. Assumes nothing.

use mathlib.Core.Path.{sym, ◌∙◌}
use native.Mathlib.Omega.{arith}
use Rattle.stepping.proofs.Lists.{pair_end}
use Rattle.stepping.proofs.Pairs.{pair-skip_from}
use Rattle.stepping.proofs.pair_place.Goals as goal

pub loop-i-preserved : goal.loop-i-preserved
loop-i-preserved c = let a = c.args in
    (omega arith, pair-skip_from a.x a.y 32 c.loop-i.i a.list.now (omega arith) (sym c.has_pair.ensures ∙ c.if-has_pair.false) ∙ c.loop-i.invariant.1)

pub returns : goal.returns
returns c = let l = c.loop-i in
    pair_end c.args.x c.args.y c.args.list.now l.i l.invariant.0 (omega arith) ∙ l.invariant.1
