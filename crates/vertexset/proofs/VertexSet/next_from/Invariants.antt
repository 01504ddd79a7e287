use mathlib.Core.Path.{◌≡◌}
use Prim.Native.Nat.{◌*◌}
use Rattle.vertexset.specs.Set.{next, word_count}
use Rattle.vertexset.proofs.Walks.{ahead, left, first_of, Walks}
use Rattle.vertexset.proofs.VertexSet.next_from.Given as goal

abbrev pub invariant-loop-self : goal.invariant-loop-self
invariant-loop-self l = Walks l.self.words l.walk × (first_of (64 * word_count) (ahead l.self.words l.walk) ≡ next l.self.words l.v)

abbrev pub decreases-loop-self : goal.decreases-loop-self
decreases-loop-self l = left l.self.words l.walk
