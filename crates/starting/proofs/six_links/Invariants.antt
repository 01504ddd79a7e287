use Rattle.starting.proofs.Links.{Linking}
use Rattle.starting.proofs.six_links.Given as goal

abbrev pub invariant-loop-u : goal.invariant-loop-u
invariant-loop-u l = Linking l.table l.four l.u-items l.flat l.len l.u-index
