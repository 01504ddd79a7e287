use mathlib.Core.List.{reverse}
use Rattle.record.specs.Read.{folded}
use Rattle.reading.specs.Pairs.{pairs_of}
use Rattle.striking.specs.Code.{struck_by}
use Rattle.striking.proofs.Backward.{Striking}
use Rattle.striking.proofs.strike_all.Given as goal

abbrev pub invariant-loop-u : goal.invariant-loop-u
invariant-loop-u l = Striking l.plan l.n (folded (struck_by l.plan) l.fn.work (reverse (pairs_of l.n))) l.work l.u l.u

abbrev pub invariant-loop-v : goal.invariant-loop-v
invariant-loop-v l = Striking l.plan l.n (folded (struck_by l.plan) l.fn.work (reverse (pairs_of l.n))) l.work l.u l.v
