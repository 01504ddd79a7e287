use Prim.Native.Nat.{ℕ}
use mathlib.Core.Path.{◌≡◌}
use Rattle.vertexset.proofs.Passed.{passed}
use Rattle.vertexset.proofs.VertexSet.change.Given as goal

abbrev pub invariant-loop-i : goal.invariant-loop-i
invariant-loop-i g l = (f : ℕ → ℕ → ℕ) → ((w b r : ℕ) → goal.F-post g l.f w b r → r ≡ f w b) → l.self.words ≡ passed f l.initial.self.words l.v l.i
