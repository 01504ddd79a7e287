use Prim.Native.Nat.{◌+◌}
use Rattle.record.specs.Read.{folded}
use Rattle.graph.specs.Rows.{joined}
use Rattle.reading.specs.Pairs.{pairs_of}
use Rattle.striking.proofs.Forward.{Joining}
use Rattle.striking.proofs.complete.Given as goal

abbrev pub invariant-loop-u : goal.invariant-loop-u
invariant-loop-u l = Joining l.n (folded joined l.fn.rows (pairs_of l.n)) l.rows l.u (l.u + 1)

abbrev pub invariant-loop-v : goal.invariant-loop-v
invariant-loop-v l = Joining l.n (folded joined l.fn.rows (pairs_of l.n)) l.rows l.u l.v
