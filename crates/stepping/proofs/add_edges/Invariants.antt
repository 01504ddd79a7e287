use Prim.Native.Nat.{◌+◌}
use mathlib.Core.Path.{◌≡◌}
use mathlib.Core.List.{[], ◌∷◌}
use lib.ListN.{get_or, take}
use Rattle.vertexset.proofs.Walks.{Walks, ahead, left}
use Rattle.construction.specs.Sets.{members_from}
use Rattle.construction.specs.Steps.{add_edges}
use Rattle.stepping.proofs.Edges.{Adding}
use Rattle.stepping.proofs.add_edges.Given as goal

abbrev pub invariant-loop-set : goal.invariant-loop-set
invariant-loop-set l = Walks l.set.words l.walk
    × (Adding (add_edges l.u (members_from (l.u + 1) l.set) (take l.from l.initial.flat)) l.u (ahead l.set.words l.walk) l.flat l.len) × (l.edge ≡ l.u ∷ (get_or l.edge 1 0 ∷ []))

abbrev pub decreases-loop-set : goal.decreases-loop-set
decreases-loop-set l = left l.set.words l.walk
