use mathlib.Core.Path.{◌≡◌}
use lib.ListN.{drop}
use Rattle.construction.specs.Ears.{near_all}
use Rattle.detours.proofs.near_all.Given as goal

abbrev pub invariant-loop-v : goal.invariant-loop-v
invariant-loop-v l = near_all l.rows l.all (drop l.v-index l.list) ≡ near_all l.rows l.initial.all l.list
