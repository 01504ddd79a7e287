-- `reading::read_ends` meets its contract: a number that can't be read ends the reading. Assumes nothing.

use mathlib.Core.Path.{◌∙◌}
use Rattle.reading.proofs.Ends.{read_first, read_second, read_both}
use Rattle.reading.proofs.read_ends.Goals as goal

pub returns-in_default : goal.returns-in_default
returns-in_default c = read_first _ _ _ c.read_number.ensures c.in_default.not-Value

pub returns-in_default-read_number : goal.returns-in_default-read_number
returns-in_default-read_number c = read_second _ _ _ c.in-Value.ensures c.read_number-2.ensures c.in_default-read_number.not-Value

pub returns : goal.returns
returns c = c.lay_numbers.ensures ∙ read_both _ _ _ c.in-Value.ensures c.in-Value-read_number.ensures
