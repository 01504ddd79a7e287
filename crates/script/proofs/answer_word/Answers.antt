-- `script::answer_word` meets its contract. Assumes nothing.

use mathlib.Core.Path.{◌∙◌}
use Rattle.script.proofs.answer_word.Goals as goal

pub returns-in-Grade : goal.returns-in-Grade
returns-in-Grade c = c.word_of-in-Grade.ensures ∙ rw c.in-Grade.is

pub returns-in-PlanFault : goal.returns-in-PlanFault
returns-in-PlanFault c = c.word_of-in-PlanFault.ensures ∙ rw c.in-PlanFault.is

pub returns-in-CertificateFault : goal.returns-in-CertificateFault
returns-in-CertificateFault c = c.word_of-in-CertificateFault.ensures ∙ rw c.in-CertificateFault.is
