use Rattle.detours.proofs.Earing.{Earing, ears_from}
use Rattle.detours.proofs.more_ears.Given as goal

abbrev pub invariant-loop : goal.invariant-loop
invariant-loop l = Earing l.rows l.full (ears_from l.rows l.full l.first) l.flat l.len l.set l.near l.count l.counter
