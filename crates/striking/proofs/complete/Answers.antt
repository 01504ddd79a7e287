-- `striking::complete` meets its contract: the rows, with the pairs joined that are still to come, stay the same. Assumes nothing.

use native.Mathlib.Omega.{arith}
use Rattle.striking.proofs.Forward.{join_start, join_row, join_next, join_end}
use Rattle.striking.proofs.complete.Goals as goal

pub loop-u-init : goal.loop-u-init
loop-u-init c = join_start _

pub loop-v-preserved : goal.loop-v-preserved
loop-v-preserved c = join_next c.loop-v.invariant c.requires c.loop-v.auto.v c.loop-v-test.true c.join.ensures

pub loop-u-preserved : goal.loop-u-preserved
loop-u-preserved c = join_row c.loop-v.invariant c.loop-u-test.true c.loop-v-test.false

pub returns : goal.returns
returns c = join_end c.loop-u.invariant c.loop-u-test.false (omega arith)
