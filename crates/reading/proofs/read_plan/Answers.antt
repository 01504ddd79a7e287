-- `reading::read_plan` meets its contract. Assumes nothing.

use mathlib.Core.Path.{ap, ◌∙◌}
use Rattle.std.specs.Prelude.{Ok}
use Rattle.reading.specs.Code.{whole_plan}
use Rattle.reading.specs.declared.PlanRead.{PlanRead}
use Rattle.reading.proofs.Plans.{whole_arrays, head_few, valued}
use Rattle.reading.proofs.read_plan.Goals as goal

pub by_value-requires : goal.by_value-requires
by_value-requires c = let s = c.args.s.now in head_few s (whole_plan s) c.in_ok-head.ensures.value (λ e. (whole_arrays s e).0)

pub returns : goal.returns
returns c = let s = c.args.s.now in
    let r = c.in_ok-head.ensures in
    ap (λ (r : PlanRead). Ok r) c.by_value.ensures ∙ valued s (whole_plan s) r.value (λ e. (r.rows_after ∙ (whole_arrays s e).1, (whole_arrays s e).2))
