-- `counting::count_all` meets its contract: what is counted and what is still to come are all plans of the size. Assumes nothing.

use Prim.Native.Nat.{◌+◌, ◌<◌, ◌≤◌}
use mathlib.Core.Logic.{⊎_elim}
use native.Mathlib.Omega.{arith}
use lib.ListN.{length, get_or}
use Rattle.counting.specs.Counts.{pairs_of, sets_of}
use Rattle.counting.proofs.Drawing.{sets_most}
use Rattle.counting.proofs.Counting.{count_room, count_next, none_below, none_above, all-zero, all-counted}
use Rattle.counting.proofs.count_all.Goals as goal

pub returns-then-size-lt-MIN_SIZE : goal.returns-then-size-lt-MIN_SIZE
returns-then-size-lt-MIN_SIZE c = all-zero _ (⊎_elim (none_below _) (λ h. none_above _ h.1) c.then-size-lt-MIN_SIZE.either)

pub overflow_add-of : goal.overflow_add-of
overflow_add-of c =
    let few : length (sets_of (pairs_of c.args.size)) ≤ 32768 = sets_most _ c.if-size-lt-MIN_SIZE.false c.if-size-gt-MAX_SIZE.false in
    let low : c.loop-number.number < length (sets_of (pairs_of c.args.size)) = omega (arith, c.loop-number-test.true, c.set_count-number-end.ensures) in
    let room : get_or c.loop-number.of c.connectivity_of.result 0 + 1 ≤ 32768 = count_room c.loop-number.invariant low c.connectivity_of.ensures few in
    record { fits = omega arith }

pub loop-number-preserved : goal.loop-number-preserved
loop-number-preserved c = count_next c.loop-number.invariant (omega (arith, c.loop-number-test.true, c.set_count-number-end.ensures)) c.connectivity_of.ensures

pub returns : goal.returns
returns c = all-counted _ c.if-size-lt-MIN_SIZE.false c.if-size-gt-MAX_SIZE.false c.loop-number.invariant (omega (arith, c.loop-number-test.false, c.set_count-number-end.ensures))
