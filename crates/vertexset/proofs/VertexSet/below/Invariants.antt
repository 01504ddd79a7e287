use mathlib.Core.Path.{◌≡◌}
use lib.ListN.{length, take}
use Rattle.vertexset.specs.Set.{word_count, below_set}
use Rattle.vertexset.proofs.VertexSet.below.Given as goal

abbrev pub invariant-loop-i : goal.invariant-loop-i
invariant-loop-i l = (length l.word-items ≡ word_count) × (take l.i l.word-items ≡ take l.i (below_set l.n).words)
