-- `detours::find` meets its contract. Assumes nothing.

use Rattle.detours.proofs.Answered.{path_in}
use Rattle.detours.proofs.find.Goals as goal

pub returns-then-r-lt-CAPACITY-clause-value : goal.returns-then-r-lt-CAPACITY-clause-value
returns-then-r-lt-CAPACITY-clause-value c = let a = c.args in
    let e = c.explore-r.ensures in
    path_in a.rows.now a.space.now a.seeds a.goals a.removed e.value e.space_after c.if-r-lt-CAPACITY.true c.route.ensures
