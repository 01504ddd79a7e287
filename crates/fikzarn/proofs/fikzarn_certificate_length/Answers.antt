-- `fikzarn::fikzarn_certificate_length` meets its contract. Assumes nothing.

use mathlib.Core.Path.{ap, ◌∙◌}
use Rattle.fikzarn.specs.Words.{made_word}
use Rattle.fikzarn.proofs.fikzarn_certificate_length.Goals as goal

pub returns : goal.returns
returns c = c.made_word.ensures ∙ ap made_word c.certificate_length.ensures
