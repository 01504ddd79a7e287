use Prim.Native.Nat.{◌-◌}
use mathlib.Core.Path.{◌≡◌}
use Rattle.record.specs.Read.{led}
use Rattle.record.specs.Number.{number}
use Rattle.reading.specs.Code.{number_laid}
use Rattle.reading.proofs.lay_numbers.Given as goal

abbrev pub invariant-loop-i : goal.invariant-loop-i
invariant-loop-i l = led (λ st. number) number_laid (l.count - l.i) (l.i, l.ends) l.s l.at ≡ led (λ st. number) number_laid l.count (0, l.initial.ends) l.s l.from
