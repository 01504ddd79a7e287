-- `fikzarn::fikzarn_certify` meets its contract. Assumes nothing.

use mathlib.Core.Path.{ap, ◌∙◌}
use Rattle.fikzarn.specs.Words.{made_word}
use Rattle.fikzarn.proofs.fikzarn_certify.Goals as goal

pub returns : goal.returns
returns c = let e = c.certify.ensures in
    record { value = c.made_word.ensures ∙ ap made_word e.value; out_after = e.out_after }
