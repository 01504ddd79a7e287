use Rattle.mending.proofs.Merging.{Merging}
use Rattle.mending.proofs.merge.Given as goal

abbrev pub invariant-loop-at : goal.invariant-loop-at
invariant-loop-at l = Merging l.a l.m l.b l.k l.ends l.i l.at
