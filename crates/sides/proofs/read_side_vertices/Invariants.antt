use Prim.Native.Nat.{◌-◌}
use mathlib.Core.Path.{◌≡◌}
use Rattle.vertexset.specs.Set.{has, empty_set}
use Rattle.record.specs.Loop.{runs}
use Rattle.sides.specs.Code.{side_loop}
use Rattle.sides.proofs.read_side_vertices.Given as goal

abbrev pub invariant-loop : goal.invariant-loop
invariant-loop l = runs (side_loop l.n (has l.removed.words)) (l.count - l.counter) l.least l.set l.s l.next ≡ runs (side_loop l.n (has l.removed.words)) l.count 0 empty_set l.s l.from
