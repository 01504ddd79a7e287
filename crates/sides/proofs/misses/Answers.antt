-- `sides::misses` meets its contract. Assumes nothing.

use mathlib.Core.Path.{◌≡◌, ◌∙◌, ap}
use lib.ListN.{length, get_or}
use mir.Val.{Fits}
use mir.Syntax.{w64}
use borrow.Author.Rules.{rules}
use Rattle.vertexset.specs.Set.{Words, word_count, subset_of}
use Rattle.vertexset.specs.declared.VertexSet.{VertexSet}
use Rattle.sides.proofs.Between.{misses_same}
use Rattle.sides.proofs.misses.Goals as goal

pub returns : goal.returns
returns c = let rest = c.args.rest in
    let l : length rest.words ≡ word_count = search rules in
    let m : length c.row.result.words ≡ word_count = search rules in
    let w : Words rest.words = λ i. let f : Fits w64 (get_or rest.words i 0) = search rules in f.fits in
    c.subset.ensures ∙ ap (λ (s : VertexSet). subset_of rest.words s.words) c.minus.ensures
    ∙ misses_same c.args.rows.now c.args.u rest c.row.result l m w c.row.ensures
