-- `counting::connectivity_of` meets its contract: the rows, with what is left of the set joined, stay the same. Assumes nothing.

use native.Mathlib.Omega.{arith}
use Rattle.counting.proofs.Drawing.{draw_start, draw_row, draw_without, draw_with, draw_end}
use Rattle.counting.proofs.Grading.{drawn_connectivity}
use Rattle.counting.proofs.connectivity_of.Goals as goal

pub loop-u-init : goal.loop-u-init
loop-u-init c = draw_start _ c.set_count-sets.ensures c.requires.2

pub loop-v-preserved-then-rest-sets : goal.loop-v-preserved-then-rest-sets
loop-v-preserved-then-rest-sets c = draw_without c.loop-v.invariant c.loop-v-test.true c.if-rest-sets.true

pub loop-v-preserved : goal.loop-v-preserved
loop-v-preserved c = draw_with c.loop-v.invariant c.loop-v-test.true (omega (arith, c.loop-v.auto.v)) c.requires.1 c.if-rest-sets.false c.join.ensures

pub loop-u-preserved : goal.loop-u-preserved
loop-u-preserved c = draw_row c.loop-v.invariant c.loop-u-test.true c.loop-v-test.false

pub returns : goal.returns
returns c = let p = c.requires in
    drawn_connectivity _ p.0 p.1 p.2 (draw_end c.loop-u.invariant c.loop-u-test.false (omega arith)) c.kind.ensures
