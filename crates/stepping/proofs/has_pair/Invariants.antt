use Prim.Native.Nat.{◌-◌}
use mathlib.Core.Path.{◌≡◌}
use mathlib.Core.Bool.{◌||◌}
use lib.ListN.{drop}
use Rattle.stepping.specs.Code.{has_pair}
use Rattle.stepping.proofs.has_pair.Given as goal

abbrev pub invariant-loop-i : goal.invariant-loop-i
invariant-loop-i l = (l.hit || has_pair l.x l.y (drop (l.i - 1) l.list)) ≡ has_pair l.x l.y l.list
