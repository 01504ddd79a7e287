-- `search::explore` meets its contract: the seeds are put, then come the visits. Assumes nothing.

use mathlib.Core.Path.{ap, ◌∙◌}
use lib.ListN.{length}
use Rattle.construction.specs.Sets.{members}
use Rattle.construction.specs.Search.{explore}
use Rattle.search.proofs.Members.{members-low}
use Rattle.search.proofs.Visits.{count_low, explored_all, explored_none}
use Rattle.search.proofs.explore.Goals as goal

pub returns-in_default : goal.returns-in_default
returns-in_default c = let rest = let a = c.args in
    explored_none a.space.now (explore a.rows.now a.seeds a.goals a.removed) c.in_default.ensures.cases c.empty.ensures in record { space_after = rest.0; value = rest.1 }

pub visit-requires : goal.visit-requires
visit-requires c = let a = c.args in
    let whole = c.in-Some.ensures.cases in
    count_low c.in-Some.space.now (ap length whole.same ∙ whole.long) (members a.seeds) (members-low a.seeds)
    c.put_reached-count.ensures.space_after c.put_reached-count.ensures.value

pub returns : goal.returns
returns c = let rest = let a = c.args in
    let whole = c.in-Some.ensures.cases in
    rw whole.same at (explored_all a.rows.now c.in-Some.space.now a.seeds a.goals a.removed (ap length whole.same ∙ whole.long)
    c.put_reached-count.ensures.space_after c.put_reached-count.ensures.value c.union.ensures (c.visit.ensures.space_after, c.visit.ensures.value)) in record { space_after = rest.0; value = rest.1 }
