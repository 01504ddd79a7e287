-- `paths::read_item` meets its contract. Assumes nothing.

use mathlib.Core.Path.{◌∙◌, sym, ap}
use Rattle.record.specs.Number.{number, as_read}
use Rattle.record.specs.declared.Number.{Number}
use Rattle.record.proofs.Faults.{unread}
use Rattle.paths.specs.Items.{told, item_read}
use Rattle.paths.proofs.read_item.Goals as goal

pub returns-in_default : goal.returns-in_default
unfolding told number
returns-in_default c = c.refused.ensures ∙ rw (c.fault_number.ensures, c.fault_place.ensures) (ap item_read (sym (unread _ _ c.read_number-x.ensures c.in_default.not-Value)))

pub returns : goal.returns
unfolding told number
returns c = c.taken.ensures ∙ ap (λ (x : Number). item_read (as_read x)) c.in-Value.ensures
