-- `VertexSet::word_below` meets its contract: how many of the lowest bits of that word are 1. Assumes nothing.

use mathlib.Core.Path.{◌≡◌}
use Prim.Native.Nat.{◌%◌}
use native.Mathlib.Omega.{arith}
use lib.Pow.{pow_pos}
use Rattle.vertexset.proofs.Bit.{bit_of_lem}
use Rattle.vertexset.proofs.Below.{lows, below_word}
use Rattle.vertexset.proofs.VertexSet.word_below.Goals as goal

pub returns-then-i-k : goal.returns-then-i-k
returns-then-i-k c = let a = c.args in
    let e : lows a.n a.i ≡ 64 = omega arith in
    rw (below_word a.n a.i (omega arith), e)

pub returns-then-k-i : goal.returns-then-k-i
returns-then-k-i c = let a = c.args in
    let e : lows a.n a.i ≡ 0 = omega arith in
    rw (below_word a.n a.i (omega arith), e)

pub overflow_sub-result : goal.overflow_sub-result
overflow_sub-result c = let n = c.args.n in
    rw (bit_of_lem n) (pow_pos (n % 64))

pub returns : goal.returns
returns c = let a = c.args in
    let e : lows a.n a.i ≡ a.n % 64 = omega arith in
    rw (below_word a.n a.i (omega arith), e, bit_of_lem a.n)
