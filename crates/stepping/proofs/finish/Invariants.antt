use lib.ListN.{take}
use Rattle.construction.specs.Steps as construction
use Rattle.stepping.proofs.Edges.{Finishing}
use Rattle.stepping.proofs.finish.Given as goal

abbrev pub invariant-loop-u : goal.invariant-loop-u
invariant-loop-u l = Finishing (construction.finish l.rows l.n (take l.from l.initial.flat)) l.rows l.table l.n l.u l.flat l.len
