-- `stepping::pair_from` meets its contract: the place from here on is the place from where it began. Assumes nothing.

use Prim.Native.Nat.{◌+◌, ◌-◌}
use mathlib.Core.Path.{◌≡◌, ◌∙◌}
use native.Mathlib.Omega.{arith}
use Rattle.stepping.proofs.Lists.{pair-here, pair_turn, pair_end}
use Rattle.stepping.proofs.pair_from.Goals as goal

pub returns-then-a-x : goal.returns-then-a-x
returns-then-a-x c = let l = c.loop-i in
    pair-here _ _ c.args.list.now (l.i - 1) l.i (omega arith) c.loop-i-test.true c.if-a-x.true ∙ l.invariant.1

pub loop-i-preserved : goal.loop-i-preserved
loop-i-preserved c = let l = c.loop-i in
    let z : l.i + 1 - 1 ≡ l.i = omega arith in
    (omega arith, rw z (pair_turn _ _ c.args.list.now (l.i - 1) l.i (omega arith) c.loop-i-test.true c.if-a-x.false ∙ l.invariant.1))

pub returns : goal.returns
returns c = let l = c.loop-i in
    pair_end _ _ c.args.list.now (l.i - 1) (omega arith) (omega arith) ∙ l.invariant.1
