-- `fikzarn::made_word` meets its contract. Assumes nothing.

use mathlib.Core.Path.{refl}
use Rattle.fikzarn.proofs.Words.{told-word, other_word}
use Rattle.fikzarn.proofs.made_word.Goals as goal

pub returns-in-Grade : goal.returns-in-Grade
returns-in-Grade c = told-word _ c.in-Grade.is refl

pub returns-in_default : goal.returns-in_default
returns-in_default c = other_word c.args.made.length c.args.made.answer c.in_default.not-Grade c.answer_word.ensures
