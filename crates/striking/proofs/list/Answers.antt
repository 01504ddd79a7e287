-- `striking::list` meets its contract: the pairs listed, with those still to come, are all. Assumes nothing.

use mathlib.Core.Path.{sym, ◌∙◌}
use native.Mathlib.Omega.{arith}
use Rattle.striking.proofs.Listing.{list_start, list_few, list_row, list_apart, list_planned, list_full, list_put, list_end}
use Rattle.striking.proofs.list.Goals as goal
use Rattle.striking.proofs.list.Goals.{then-not-adjacent-via-then-not-adjacent, then-not-adjacent-via-else-not-adjacent+then-adjacent, then-count-lt-MAX_EDGES, else-count-lt-MAX_EDGES}

pub loop-u-init : goal.loop-u-init
loop-u-init c = list_start

pub loop-v-preserved-then-not-adjacent : goal.loop-v-preserved-then-not-adjacent
loop-v-preserved-then-not-adjacent c = let l = c.loop-v in
    let here = sym c.adjacent.ensures in elim c.then-not-adjacent.branch [
      | then-not-adjacent-via-then-not-adjacent w ↦ list_apart l.invariant c.loop-v-test.true (here ∙ w.if-not-adjacent.true)
      | then-not-adjacent-via-else-not-adjacent+then-adjacent w ↦ list_planned l.invariant c.loop-v-test.true (here ∙ w.if-not-adjacent.false) (sym w.adjacent-else-not-adjacent.ensures ∙ w.if-adjacent.true)
    ]

pub overflow_add-count : goal.overflow_add-count
overflow_add-count c = omega (arith, list_few c.loop-v.invariant c.requires)

pub loop-v-preserved : goal.loop-v-preserved
loop-v-preserved c = let l = c.loop-v in
    let here = sym c.adjacent.ensures ∙ c.if-not-adjacent.false in
    let new = sym c.adjacent-else-not-adjacent.ensures ∙ c.if-adjacent.false in elim c.if-count-lt-MAX_EDGES.branch [
      | then-count-lt-MAX_EDGES w ↦ rw w.ends-is (list_put l.invariant c.loop-v-test.true here new w.if-count-lt-MAX_EDGES.true)
      | else-count-lt-MAX_EDGES w ↦ rw w.ends-is (list_full l.invariant c.loop-v-test.true here new w.if-count-lt-MAX_EDGES.false)
    ]

pub loop-u-preserved : goal.loop-u-preserved
loop-u-preserved c = list_row c.loop-v.invariant c.loop-u-test.true c.loop-v-test.false

pub returns : goal.returns
returns c = list_end c.loop-u.invariant c.loop-u-test.false (omega arith)
