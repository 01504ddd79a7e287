use Rattle.writing.proofs.Edges.{Measured}
use Rattle.writing.proofs.measure.Given as goal

abbrev pub invariant-loop-i : goal.invariant-loop-i
invariant-loop-i l = Measured l.ends l.m l.n l.i l.before l.bytes
