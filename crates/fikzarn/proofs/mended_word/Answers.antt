-- `fikzarn::mended_word` meets its contract. Assumes nothing.

use Rattle.fikzarn.specs.Words.{lengths_place}
use Rattle.fikzarn.proofs.Words.{lengths_word, other_word}
use Rattle.fikzarn.proofs.mended_word.Goals as goal

pub returns-in-Grade : goal.returns-in-Grade
returns-in-Grade c = lengths_word c.args.m c.in-Grade.is

pub returns-in_default : goal.returns-in_default
returns-in_default c = other_word (lengths_place c.args.m) c.args.m.answer c.in_default.not-Grade c.answer_word.ensures
