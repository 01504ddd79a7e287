use Prim.Native.Nat.{◌-◌}
use Rattle.vertexset.specs.Set.{capacity}
use Rattle.search.specs.Code.{visits_in}
use Rattle.search.proofs.Visits.{Visiting}
use Rattle.search.proofs.visit.Given as goal

abbrev pub invariant-loop-head : goal.invariant-loop-head
invariant-loop-head l = Visiting l.initial.space l.rows l.goals l.seeds (visits_in l.rows l.goals l.seeds l.initial.space l.initial.shut) l.space l.count l.shut l.head

abbrev pub decreases-loop-head : goal.decreases-loop-head
decreases-loop-head l = capacity - l.head
