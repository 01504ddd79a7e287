-- `record::read_number` meets its contract: the tests that led to a return pick the case. Assumes nothing.

use Prim.Native.Nat.{◌+◌}
use native.Mathlib.Omega.{arith}
use Rattle.record.specs.Number.{number_in, higher_groups}
use Rattle.record.proofs.Tests.{tests}
use Rattle.record.proofs.read_number.Goals as goal

pub returns-then-s-at : goal.returns-then-s-at
unfolding number_in higher_groups
returns-then-s-at c = search tests

pub overflow_cast-a : goal.overflow_cast-a
unfolding number_in higher_groups
overflow_cast-a c = omega (arith, c.shared_slice_known-1.given c.args.at)

pub returns-then-a-lt-GROUP : goal.returns-then-a-lt-GROUP
unfolding number_in higher_groups
returns-then-a-lt-GROUP c = search tests

pub returns-then-s-second : goal.returns-then-s-second
unfolding number_in higher_groups
returns-then-s-second c = search tests

pub overflow_cast-b : goal.overflow_cast-b
unfolding number_in higher_groups
overflow_cast-b c = omega (arith, c.shared_slice_known-2-1.given (c.args.at + 1))

pub returns-then-b-eq0 : goal.returns-then-b-eq0
unfolding number_in higher_groups
returns-then-b-eq0 c = search tests

pub overflow_add-result-then-b-lt-GROUP : goal.overflow_add-result-then-b-lt-GROUP
unfolding number_in higher_groups
overflow_add-result-then-b-lt-GROUP c = omega (arith, c.shared_slice_known-1.given c.args.at)

pub returns-then-b-lt-GROUP : goal.returns-then-b-lt-GROUP
unfolding number_in higher_groups
returns-then-b-lt-GROUP c = search tests

pub returns : goal.returns
unfolding number_in higher_groups
returns c = search tests
