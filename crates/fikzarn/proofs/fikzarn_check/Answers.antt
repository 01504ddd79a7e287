-- `fikzarn::fikzarn_check` meets its contract. Assumes nothing.

use mathlib.Core.Path.{ap, ◌∙◌}
use Rattle.script.specs.Replay.{answer_word}
use Rattle.fikzarn.proofs.fikzarn_check.Goals as goal

pub returns : goal.returns
returns c = c.answer_word.ensures ∙ ap answer_word c.check.ensures
