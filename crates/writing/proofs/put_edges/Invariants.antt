use Rattle.writing.proofs.Edges.{Putting}
use Rattle.writing.proofs.put_edges.Given as goal

abbrev pub invariant-loop-i : goal.invariant-loop-i
invariant-loop-i l = Putting l.ends l.m l.initial.out l.from l.i l.next l.out
