use Rattle.std.proofs.Common.{◌-◌}
use Rattle.local.specs.Withstands.{withstands}
use Rattle.local.proofs.Trying.{Trying, tried}
use Rattle.local.proofs.+withstands.Given as goal

abbrev pub decreases-withstands : goal.decreases-withstands
decreases-withstands l = l.k

abbrev pub invariant-loop-c : goal.invariant-loop-c
invariant-loop-c l = Trying (tried (l.k - 1) l.rows l.u l.v l.removed) l.c-items (withstands l.k l.rows l.u l.v l.removed) l.c-index
