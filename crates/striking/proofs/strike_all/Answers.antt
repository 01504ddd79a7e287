-- `striking::strike_all` meets its contract: the rows, with the pairs looked at that are still to come, stay the same. Assumes nothing.

use native.Mathlib.Omega.{arith}
use Rattle.striking.proofs.Backward.{strike_start, strike_row, strike_down, strike_next, strike_end}
use Rattle.striking.proofs.strike_all.Goals as goal

pub loop-u-init : goal.loop-u-init
loop-u-init c = strike_start

pub loop-v-init : goal.loop-v-init
loop-v-init c = strike_down c.loop-u.invariant (omega arith) c.loop-u-test.true

pub loop-v-preserved : goal.loop-v-preserved
loop-v-preserved c = strike_next c.loop-v.invariant c.loop-v-test.true c.strike.ensures

pub loop-u-preserved : goal.loop-u-preserved
loop-u-preserved c = strike_row c.loop-v.invariant c.loop-v-test.false

pub returns : goal.returns
returns c = strike_end c.loop-u.invariant (omega arith) (omega (arith, c.loop-u-test.false))
