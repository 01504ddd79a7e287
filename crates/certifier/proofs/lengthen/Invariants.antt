use Rattle.certifier.proofs.Written.{Lengthening}
use Rattle.certifier.proofs.lengthen.Given as goal

abbrev pub invariant-loop-i : goal.invariant-loop-i
invariant-loop-i l = Lengthening l.fn.list l.list l.k l.i
