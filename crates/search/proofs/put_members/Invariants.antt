use Rattle.vertexset.proofs.Walks.{Walks, ahead, left}
use Rattle.search.proofs.Filling.{Filling}
use Rattle.search.proofs.Members.{listed}
use Rattle.search.proofs.put_members.Given as goal

abbrev pub invariant-loop-set : goal.invariant-loop-set
invariant-loop-set l = Walks l.set.words l.walk × Filling l.initial.items l.at (listed l.set) (ahead l.set.words l.walk) l.i l.items

abbrev pub decreases-loop-set : goal.decreases-loop-set
decreases-loop-set l = left l.set.words l.walk
