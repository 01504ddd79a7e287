use Prim.Native.Nat.{◌+◌, ◌-◌, ◌≤◌}
use mathlib.Core.Path.{◌≡◌}
use lib.ListN.{length, drop}
use Rattle.construction.specs.Steps.{pair_place}
use Rattle.stepping.proofs.pair_from.Given as goal

abbrev pub invariant-loop-i : goal.invariant-loop-i
invariant-loop-i l = (l.i ≤ length l.list + 1) × (l.i - 1 + pair_place l.x l.y (drop (l.i - 1) l.list) ≡ l.from + pair_place l.x l.y (drop l.from l.list))
