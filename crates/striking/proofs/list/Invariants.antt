use Prim.Native.Nat.{◌+◌}
use Rattle.striking.proofs.Listing.{Listing}
use Rattle.striking.proofs.list.Given as goal

abbrev pub invariant-loop-u : goal.invariant-loop-u
invariant-loop-u l = Listing l.plan l.work l.n l.ends l.count l.u (l.u + 1)

abbrev pub invariant-loop-v : goal.invariant-loop-v
invariant-loop-v l = Listing l.plan l.work l.n l.ends l.count l.u l.v
