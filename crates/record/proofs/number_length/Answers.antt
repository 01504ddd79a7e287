-- `record::number_length` meets its contract. Assumes nothing.

use mathlib.Core.Path.{sym, ap}
use native.Mathlib.Omega.{arith}
use lib.ListN.{length}
use Rattle.record.proofs.Write.{one_byte, long_bytes}
use Rattle.record.proofs.number_length.Goals as goal

pub returns-then-v-ge-GROUP : goal.returns-then-v-ge-GROUP
returns-then-v-ge-GROUP c = sym (long_bytes c.args.v (omega (arith, c.if-v-ge-GROUP.true)))

pub returns : goal.returns
returns c = sym (ap length (one_byte c.args.v (omega (arith, c.if-v-ge-GROUP.false))))
