-- `paths::all_below` meets its contract: the vertices below n as a set, which a set of the words' size holds or not. Assumes nothing.

use mathlib.Core.Path.{◌≡◌, ap, ◌∙◌}
use native.Mathlib.Omega.{arith}
use lib.ListN.{length}
use borrow.Author.Rules.{rules}
use Rattle.vertexset.specs.Set.{subset_of, word_count}
use Rattle.vertexset.specs.declared.VertexSet.{VertexSet}
use Rattle.paths.proofs.Sets.{all-within, all_past}
use Rattle.paths.proofs.all_below.Goals as goal

pub returns-then-n-gt-CAPACITY : goal.returns-then-n-gt-CAPACITY
returns-then-n-gt-CAPACITY c = let a = c.args in
    let l : length a.set.words ≡ word_count = search rules in
    all_past a.n (omega arith) a.set.words l

pub returns : goal.returns
returns c = let a = c.args in
    let l : length a.set.words ≡ word_count = search rules in
    c.subset.ensures
    ∙ ap (λ (s : VertexSet). subset_of s.words a.set.words) c.below.ensures
    ∙ all-within a.n (omega arith) a.set.words l
