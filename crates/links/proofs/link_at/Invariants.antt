use Prim.Native.Nat.{ℕ, ◌-◌}
use mathlib.Core.List.{List}
use mathlib.Core.Path.{◌≡◌}
use Rattle.vertexset.specs.Set.{has, capacity}
use Rattle.vertexset.specs.declared.VertexSet.{VertexSet}
use Rattle.links.specs.Tables.{pointer, mates, outermost}
use Rattle.links.proofs.link_at.Given as goal

abbrev pub walk : List ℕ → VertexSet → ℕ → ℕ → ℕ → ℕ × ℕ
walk pointers branch = outermost (pointer pointers 0) (pointer pointers capacity) (pointer pointers mates) (has branch.words)

abbrev pub invariant-loop : goal.invariant-loop
invariant-loop l = walk l.pointers l.branch (capacity - l.counter) l.u l.w ≡ walk l.pointers l.branch capacity l.v l.v
