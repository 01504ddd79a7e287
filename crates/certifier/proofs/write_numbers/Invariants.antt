use Rattle.certifier.proofs.Written.{Writing}
use Rattle.certifier.proofs.write_numbers.Given as goal

abbrev pub invariant-loop-v : goal.invariant-loop-v
invariant-loop-v l = Writing l.initial.out l.list l.out l.at l.v-index
