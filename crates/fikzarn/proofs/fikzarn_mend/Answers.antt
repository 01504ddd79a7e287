-- `fikzarn::fikzarn_mend` meets its contract. Assumes nothing.

use mathlib.Core.Path.{ap, ◌∙◌}
use Rattle.fikzarn.specs.Words.{mended_word}
use Rattle.fikzarn.proofs.fikzarn_mend.Goals as goal

pub returns : goal.returns
returns c =
    let e = c.mend.ensures in
    record { value = c.mended_word.ensures ∙ ap mended_word e.value; list_after = e.list_after; mended_after = e.mended_after; certificate_after = e.certificate_after }
