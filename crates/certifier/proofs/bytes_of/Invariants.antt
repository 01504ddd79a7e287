use Rattle.certifier.proofs.Written.{Counting}
use Rattle.certifier.proofs.bytes_of.Given as goal

abbrev pub invariant-loop-v : goal.invariant-loop-v
invariant-loop-v l = Counting l.list l.bytes l.v-index
