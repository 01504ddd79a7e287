use mathlib.Core.Path.{◌≡◌}
use Prim.Native.Nat.{◌≤◌, ◌+◌, ◌*◌}
use lib.ListN.{drop}
use Rattle.vertexset.specs.Set.{count}
use Rattle.vertexset.proofs.VertexSet.size.Given as goal

abbrev pub invariant-loop-word : goal.invariant-loop-word
invariant-loop-word l = (l.n ≤ 64 * l.word-index) × (l.n + count (drop l.word-index l.word-items) ≡ count l.fn.self.words)
