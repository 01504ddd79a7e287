-- `search::visit` meets its contract: what is left of the definition's visits gives the whole. Assumes nothing.

use mathlib.Core.Path.{◌≡◌}
use lib.ListN.{length}
use native.Mathlib.Omega.{arith}
use borrow.Author.Rules.{rules}
use Rattle.search.specs.Code.{search_space}
use Rattle.search.proofs.Visits.{begun, now_length, head_low, goal_of, found, ended, again}
use Rattle.search.proofs.visit.Goals as goal

pub loop-head-init : goal.loop-head-init
loop-head-init c = let a = c.args in
    let s : length a.space.now ≡ search_space = search rules in
    begun a.space.now s a.seeds c.requires a.rows.now a.goals a.closed

pub offset_bounds-space-head : goal.offset_bounds-space-head
offset_bounds-space-head c = let h = head_low c.loop-head.invariant c.loop-head-test.true in search rules

pub bounds-space-head : goal.bounds-space-head
bounds-space-head c = let l = c.loop-head.invariant in omega (arith, head_low l c.loop-head-test.true, now_length l)

pub returns-then-goal-lt-CAPACITY : goal.returns-then-goal-lt-CAPACITY
returns-then-goal-lt-CAPACITY c = let rest = let g = goal_of c.row-row.result c.args.goals c.minus.ensures c.minus-in-loop-head.ensures c.next_from-goal.ensures in
    found c.loop-head.invariant c.loop-head-test.true _ c.row-row.ensures _ g c.if-goal-lt-CAPACITY.true in record { space_after = rest.0; value = rest.1 }

pub overflow_cast-head : goal.overflow_cast-head
overflow_cast-head c = let h = head_low c.loop-head.invariant c.loop-head-test.true in
    search rules

pub overflow_add-head : goal.overflow_add-head
overflow_add-head c = let h = head_low c.loop-head.invariant c.loop-head-test.true in
    search rules

pub loop-head-smaller : goal.loop-head-smaller
loop-head-smaller c = let h = head_low c.loop-head.invariant c.loop-head-test.true in
    omega arith

pub loop-head-preserved : goal.loop-head-preserved
loop-head-preserved c = let g = goal_of c.row-row.result c.args.goals c.minus.ensures c.minus-in-loop-head.ensures c.next_from-goal.ensures in
    again c.loop-head.invariant c.loop-head-test.true _ c.row-row.ensures _ g c.if-goal-lt-CAPACITY.false _ c.minus-in-loop-head-2.ensures
    c.put_reached-count.ensures.space_after c.put_reached-count.ensures.value c.union-shut.ensures

pub returns : goal.returns
returns c = let rest = ended c.loop-head.invariant c.loop-head-test.false in record { space_after = rest.0; value = rest.1 }
