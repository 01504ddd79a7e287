-- `VertexSet::zip` meets its contract: word by word. Assumes nothing.

use mathlib.Core.Path.{◌≡◌, ap}
use native.Mathlib.Omega.{arith}
use lib.ListN.{length, get_or}
use borrow.Author.Rules.{rules}
use Rattle.vertexset.specs.Set.{word_count}
use Rattle.vertexset.proofs.Steps.{zip-step, zip_end}
use Rattle.vertexset.proofs.VertexSet.zip.Goals as goal

pub loop-i-preserved : goal.loop-i-preserved
loop-i-preserved g c = λ f k. let l : length c.args.other.words ≡ word_count = search rules in
    let i = c.loop-i.i in
    let e : c.f.result ≡ f (get_or c.loop-i.word-items i 0) (get_or c.args.other.words i 0) = k _ _ _ c.f.ensures in
    rw e (zip-step f _ _ _ _ (omega arith) (c.loop-i.invariant f k))

pub returns : goal.returns
returns g c = λ f k. let l : length c.args.other.words ≡ word_count = search rules in
    ap (λ ws. record { words = ws }) (zip_end f _ _ _ _ (omega arith) (c.loop-i.invariant f k))
