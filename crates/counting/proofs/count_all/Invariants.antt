use Rattle.counting.proofs.Counting.{Counting}
use Rattle.counting.proofs.count_all.Given as goal

abbrev pub invariant-loop-number : goal.invariant-loop-number
invariant-loop-number l = Counting l.n l.number l.of
