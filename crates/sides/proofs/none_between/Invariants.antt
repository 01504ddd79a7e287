use mathlib.Core.Path.{◌≡◌}
use Rattle.vertexset.specs.Set.{has}
use Rattle.vertexset.proofs.Walks.{Walks, ahead, left}
use Rattle.connectivity.specs.Lists.{all}
use Rattle.sides.specs.Code.{misses_row, none_between}
use Rattle.sides.proofs.none_between.Given as goal

abbrev pub invariant-loop-side : goal.invariant-loop-side
invariant-loop-side l = Walks l.side.words l.walk × (all (misses_row l.rows (has l.rest.words)) (ahead l.side.words l.walk) ≡ none_between l.rows (has l.side.words) (has l.rest.words))

abbrev pub decreases-loop-side : goal.decreases-loop-side
decreases-loop-side l = left l.side.words l.walk
