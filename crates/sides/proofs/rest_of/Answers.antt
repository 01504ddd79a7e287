-- `sides::rest_of` meets its contract. Assumes nothing.

use mathlib.Core.Path.{◌≡◌, ◌∙◌, ap}
use lib.ListN.{length}
use borrow.Author.Rules.{rules}
use Rattle.vertexset.specs.Set.{has, word_count, wordwise, less}
use Rattle.vertexset.specs.declared.VertexSet.{VertexSet}
use Rattle.sides.proofs.Sets.{rest-made}
use Rattle.sides.proofs.rest_of.Goals as goal

pub returns : goal.returns
returns c v = let a = c.args in
    let l : length a.removed.words ≡ word_count = search rules in
    let m : length a.side.words ≡ word_count = search rules in
    let e = c.minus-2.ensures ∙ ap (λ (s : VertexSet). wordwise less s a.side) (c.minus.ensures ∙ ap (λ (s : VertexSet). wordwise less s a.removed) c.below.ensures) in
    ap (λ (s : VertexSet). has s.words v) e ∙ rest-made a.n c.requires a.removed a.side l m v
