-- `certifier::bytes_of` meets its contract: what was counted and the bytes of what is left are the bytes of all. Assumes nothing.

use native.Mathlib.Omega.{arith}
use Rattle.certifier.proofs.Written.{count-few, count-start, count_turn, count-end}
use Rattle.certifier.proofs.bytes_of.Goals as goal

pub loop-v-init : goal.loop-v-init
loop-v-init c = count-start _

pub overflow_cast-bytes : goal.overflow_cast-bytes
overflow_cast-bytes c = let f = count-few _ c.number_length.ensures in omega arith

pub overflow_add-bytes : goal.overflow_add-bytes
overflow_add-bytes c = let t = count_turn _ c.loop-v.invariant c.loop-v-test.true c.number_length.ensures in
    omega (arith, t.low, c.loop-v-test.true, c.requires)

pub loop-v-preserved : goal.loop-v-preserved
loop-v-preserved c = count_turn _ c.loop-v.invariant c.loop-v-test.true c.number_length.ensures

pub overflow_cast-result : goal.overflow_cast-result
overflow_cast-result c = omega (arith, c.loop-v.invariant.low, c.loop-v.invariant.within, c.requires)

pub returns : goal.returns
returns c = count-end _ c.loop-v.invariant c.loop-v-test.false
