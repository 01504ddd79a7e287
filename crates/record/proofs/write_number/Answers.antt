-- `record::write_number` meets its contract: the tests that led to a return pick the case. Assumes nothing.

use Prim.Native.Nat.{◌+◌}
use mathlib.Core.Path.{◌≡◌, ap, ◌∙◌}
use lib.ListN.{length}
use native.Mathlib.Numerals.{add-one}
use native.Mathlib.Omega.{arith}
use Rattle.std.specs.Prelude.{Some}
use Rattle.record.proofs.Write.{one_byte, two_bytes, no_room, too_large, too_short, some_bytes, room}
use Rattle.record.proofs.write_number.Goals as goal

pub returns-then-out-at : goal.returns-then-out-at
returns-then-out-at c = let a = c.args in
    no_room a.out.now a.at a.v (too_short a.out.now a.at a.v (omega (arith, some_bytes a.v)))

pub returns-then-v-lt-GROUP : goal.returns-then-v-lt-GROUP
returns-then-v-lt-GROUP c = let a = c.args in
    room a.out.now a.at a.v (one_byte a.v (omega (arith, c.if-v-lt-GROUP.true))) (omega arith) (omega arith)

pub returns-then-v-ge-LIMIT : goal.returns-then-v-ge-LIMIT
returns-then-v-ge-LIMIT c = let a = c.args in
    no_room a.out.now a.at a.v (too_large a.out.now a.at a.v c.if-v-ge-LIMIT.true)

pub returns-then-out-second : goal.returns-then-out-second
returns-then-out-second c = let a = c.args in
    let e = two_bytes a.v (omega (arith, c.if-v-lt-GROUP.false)) (omega arith) in
    no_room a.out.now a.at a.v (too_short a.out.now a.at a.v (omega (arith, ap length e)))

pub returns : goal.returns
returns c = let a = c.args in
    let r = room a.out.now a.at a.v (two_bytes a.v (omega (arith, c.if-v-lt-GROUP.false)) (omega arith)) (omega arith) (omega arith) in
    let z : a.at + 1 + 1 ≡ a.at + 2 = omega arith in
    (ap Some z ∙ r.0, rw (add-one a.at) r.1)
