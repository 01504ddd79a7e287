-- `fikzarn::fikzarn_plan` meets its contract. Assumes nothing.

use mathlib.Core.Path.{sym, ◌∙◌}
use Rattle.fikzarn.proofs.Plans.{plan_there, plan-refused}
use Rattle.fikzarn.proofs.fikzarn_plan.Goals as goal

pub returns-in-Ok : goal.returns-in-Ok
returns-in-Ok c = plan_there c.args.input.now c.args.out.now (sym c.in-Ok.is ∙ c.read_plan.ensures) c.answer_word.ensures c.write_plan.ensures.1

pub returns-in-Err : goal.returns-in-Err
returns-in-Err c = plan-refused c.args.input.now c.args.out.now (sym c.in-Err.is ∙ c.read_plan.ensures) c.answer_word-in-Err.ensures
