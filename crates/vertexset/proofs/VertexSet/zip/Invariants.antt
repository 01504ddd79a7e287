use Prim.Native.Nat.{ℕ}
use mathlib.Core.Path.{◌≡◌}
use Rattle.vertexset.proofs.Steps.{Zipping}
use Rattle.vertexset.proofs.VertexSet.zip.Given as goal

abbrev pub invariant-loop-i : goal.invariant-loop-i
invariant-loop-i g l = (f : ℕ → ℕ → ℕ) → ((x y r : ℕ) → goal.F-post g l.f x y r → r ≡ f x y) → Zipping f l.initial.word-items l.other.words l.i l.word-items
