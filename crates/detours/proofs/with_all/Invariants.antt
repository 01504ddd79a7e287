use mathlib.Core.Path.{◌≡◌}
use lib.ListN.{drop}
use Rattle.construction.specs.Sets.{set_with_all}
use Rattle.detours.proofs.with_all.Given as goal

abbrev pub invariant-loop-v : goal.invariant-loop-v
invariant-loop-v l = set_with_all l.all (drop l.v-index l.list) ≡ set_with_all l.initial.all l.list
