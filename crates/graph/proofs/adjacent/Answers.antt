-- `graph::adjacent` meets its contract. Assumes nothing.

use mathlib.Core.Logic.{⊎_elim}
use borrow.Author.Tests.{lt-ltb, le-ltb}
use Rattle.vertexset.specs.Set.{capacity}
use Rattle.graph.proofs.Rows.{word_of, bit_of_lem}
use Rattle.graph.proofs.adjacent.Goals as goal

pub returns-then-v-lt-CAPACITY : goal.returns-then-v-lt-CAPACITY
returns-then-v-lt-CAPACITY c = let a = c.args in
    rw (lt-ltb _ _ c.if-u-lt-CAPACITY.true, lt-ltb _ _ c.if-v-lt-CAPACITY.true, word_of a.u a.v, bit_of_lem a.u a.v)

pub returns : goal.returns
returns c = let a = c.args in
    ⊎_elim (λ h. rw (lt-ltb a.u capacity h.0, le-ltb a.v capacity h.1)) (λ h. rw (le-ltb a.u capacity h)) c.else-u-lt-CAPACITY.either
