-- `VertexSet::contains` meets its contract: past the words the definition reads 0. Assumes nothing.

use mathlib.Core.Path.{◌≡◌}
use Prim.Native.Nat.{◌≤◌, ◌/◌}
use native.Mathlib.Nat.{zero-div}
use native.Mathlib.Omega.{arith}
use lib.ListN.{length, get_or-eq_default}
use borrow.Author.Rules.{rules}
use Rattle.vertexset.specs.Set.{word_count}
use Rattle.vertexset.proofs.VertexSet.contains.Goals as goal

pub returns-else-v-lt-CAPACITY : goal.returns-else-v-lt-CAPACITY
returns-else-v-lt-CAPACITY c = let s = c.args in
    let n : length s.self.words ≡ word_count = search rules in
    let l : length s.self.words ≤ s.v / 64 = omega arith in
    rw (get_or-eq_default, zero-div)
