-- `reading::follows` meets its contract: the order of two edges is that of their numbers. Assumes nothing.

use native.Mathlib.Omega.{arith}
use Rattle.reading.proofs.EdgeTests.{key_follows}
use Rattle.reading.proofs.follows.Goals as goal

pub returns : goal.returns
returns c = let a = c.args in
    rw (c.key.ensures, c.key-2.ensures) (key_follows (a.lower, a.higher) (a.u, a.v) (omega arith) (omega arith))
