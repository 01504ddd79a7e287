-- `VertexSet::size` meets its contract: the words passed are counted. Assumes nothing.

use mathlib.Core.Path.{◌≡◌, ap}
use Prim.Native.Nat.{◌+◌}
use native.Mathlib.Omega.{arith}
use lib.ListN.{length, get_or, drop, drop_of_length-le}
use lib.Count.{ones, ones-le}
use mir.Val.{Fits}
use mir.Syntax.{w64}
use borrow.Author.Rules.{rules}
use Rattle.vertexset.specs.Set.{count, word_count}
use Rattle.vertexset.proofs.Steps.{drop_next}
use Rattle.vertexset.proofs.VertexSet.size.Goals as goal

pub overflow_cast-n : goal.overflow_cast-n
overflow_cast-n c = let f : Fits w64 (get_or c.args.self.words c.loop-word.word-index 0) = search rules in
    omega (arith, ones-le 64 _ f.fits)

pub overflow_add-n : goal.overflow_add-n
overflow_add-n c = let f : Fits w64 (get_or c.args.self.words c.loop-word.word-index 0) = search rules in
    omega (arith, ones-le 64 _ f.fits)

pub loop-word-preserved : goal.loop-word-preserved
unfolding count
loop-word-preserved c = let ws = c.args.self.words in
    let f : Fits w64 (get_or ws c.loop-word.word-index 0) = search rules in
    let l : length ws ≡ word_count = search rules in
    let s : count (drop c.loop-word.word-index ws) ≡ ones (get_or ws c.loop-word.word-index 0) + count (drop (c.loop-word.word-index + 1) ws) = ap count (drop_next ws c.loop-word.word-index (omega arith)) in
    omega (arith, ones-le 64 _ f.fits)

pub returns : goal.returns
unfolding count
returns c = let ws = c.args.self.words in
    let l : length ws ≡ word_count = search rules in
    let e : count (drop c.loop-word.word-index ws) ≡ 0 = ap count (drop_of_length-le ws {i = c.loop-word.word-index} (omega arith)) in
    omega arith
