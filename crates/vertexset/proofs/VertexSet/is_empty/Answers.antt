-- `VertexSet::is_empty` meets its contract: the words passed are 0. Assumes nothing.

use mathlib.Core.Path.{◌≡◌}
use Prim.Native.Nat.{◌≤◌, ◌<◌}
use native.Mathlib.Omega.{arith}
use lib.ListN.{length, drop_of_length-le}
use borrow.Author.Rules.{rules}
use borrow.Author.Tests.{eq-eqb, ne_eqb}
use Rattle.vertexset.specs.Set.{none, word_count}
use Rattle.vertexset.proofs.Steps.{drop_next}
use Rattle.vertexset.proofs.VertexSet.is_empty.Goals as goal

pub returns-then-word-ne0 : goal.returns-then-word-ne0
unfolding none
returns-then-word-ne0 c = let l : length c.args.self.words ≡ word_count = search rules in
    let k : c.loop-word.word-index < length c.args.self.words = omega arith in
    rw (← c.loop-word.invariant, drop_next, ne_eqb _ _ c.if-word-ne0.true)

pub loop-word-preserved : goal.loop-word-preserved
unfolding none
loop-word-preserved c = let l : length c.args.self.words ≡ word_count = search rules in
    let k : c.loop-word.word-index < length c.args.self.words = omega arith in
    rw (← c.loop-word.invariant, drop_next _ c.loop-word.word-index, eq-eqb _ _ c.if-word-ne0.false)

pub returns : goal.returns
unfolding none
returns c = let l : length c.args.self.words ≡ word_count = search rules in
    let k : length c.args.self.words ≤ c.loop-word.word-index = omega arith in
    rw (← c.loop-word.invariant, drop_of_length-le)
