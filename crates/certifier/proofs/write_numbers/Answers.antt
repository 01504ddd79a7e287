-- `certifier::write_numbers` meets its contract: with what is left written from the place on the buffer is what it is to be. Assumes nothing.

use Rattle.certifier.proofs.Written.{write_start, write_end, write_some, write_turn}
use Rattle.certifier.proofs.write_numbers.Goals as goal

pub loop-v-init : goal.loop-v-init
loop-v-init c = write_start _ _

pub unwrap-at-requires : goal.unwrap-at-requires
unwrap-at-requires c = write_some _ _ c.loop-v.invariant c.requires.list_in_bounds c.loop-v-test.true c.requires.small c.write_number.ensures.0

pub loop-v-preserved : goal.loop-v-preserved
loop-v-preserved c = write_turn _ _ c.loop-v.invariant c.requires.list_in_bounds c.loop-v-test.true c.requires.small c.write_number.ensures.0 c.unwrap-at.ensures c.write_number.ensures.1

pub shape_of-out : goal.shape_of-out
shape_of-out c = c.loop-v.invariant.long

pub returns : goal.returns
returns c = write_end _ _ c.loop-v.invariant c.loop-v-test.false
