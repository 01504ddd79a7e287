use Prim.Native.Nat.{◌+◌, ◌≤◌}
use mathlib.Core.Path.{◌≡◌}
use lib.ListN.{length, drop}
use Rattle.construction.specs.Steps.{pair_place}
use Rattle.stepping.proofs.pair_place.Given as goal

abbrev pub invariant-loop-i : goal.invariant-loop-i
invariant-loop-i l = (l.i ≤ length l.list) × (l.i + pair_place l.x l.y (drop l.i l.list) ≡ pair_place l.x l.y l.list)
