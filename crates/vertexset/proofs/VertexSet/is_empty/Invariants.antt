use mathlib.Core.Path.{◌≡◌}
use lib.ListN.{drop}
use Rattle.vertexset.specs.Set.{none}
use Rattle.vertexset.proofs.VertexSet.is_empty.Given as goal

abbrev pub invariant-loop-word : goal.invariant-loop-word
invariant-loop-word l = none (drop l.word-index l.word-items) ≡ none l.fn.self.words
