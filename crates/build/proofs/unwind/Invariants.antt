use Prim.Native.Nat.{◌-◌}
use mathlib.Core.Path.{◌≡◌}
use Rattle.vertexset.specs.Set.{capacity}
use Rattle.build.specs.State.{unwound}
use Rattle.build.proofs.unwind.Given as goal

abbrev pub invariant-loop : goal.invariant-loop
invariant-loop l = unwound (capacity - l.counter) l.first l.u l.set l.pointers ≡ unwound capacity l.first l.v l.initial.set l.initial.pointers
