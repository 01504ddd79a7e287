-- `reading::read_edge` meets its contract: a number that can't be read ends the reading, and so does an edge out of order. Assumes nothing.

use mathlib.Core.Path.{◌∙◌, sym, ap}
use Rattle.record.proofs.Faults.{unread}
use Rattle.reading.specs.Code.{edge_read}
use Rattle.reading.proofs.Reading.{edge-first, edge-second, edge-whole}
use Rattle.reading.proofs.read_edge.Goals as goal

pub returns-in_default : goal.returns-in_default
unfolding edge_read
returns-in_default c = rw c.plan_fault.ensures (ap edge_read (sym (edge-first _ _ _ _ (unread _ _ c.read_number-lower.ensures c.in_default.not-Value))))

pub returns-in_default-higher : goal.returns-in_default-higher
unfolding edge_read
returns-in_default-higher c =
    rw c.plan_fault-in_default-higher.ensures
    (ap edge_read (sym (edge-second _ _ _ _ (sym c.in-Value.is ∙ c.read_number-lower.ensures) (unread _ _ c.read_number-higher.ensures c.in_default-higher.not-Value))))

pub returns-then-not-proper : goal.returns-then-not-proper
unfolding edge_read
returns-then-not-proper c =
    rw (edge-whole _ _ _ _ (sym c.in-Value.is ∙ c.read_number-lower.ensures) (sym c.in-Value-higher.is ∙ c.read_number-higher.ensures), sym c.proper.ensures ∙ c.if-not-proper.true)

pub returns-then-not-follows : goal.returns-then-not-follows
unfolding edge_read
returns-then-not-follows c =
    rw (
      edge-whole _ _ _ _ (sym c.in-Value.is ∙ c.read_number-lower.ensures) (sym c.in-Value-higher.is ∙ c.read_number-higher.ensures),
      sym c.proper.ensures ∙ c.if-not-proper.false,
      sym c.follows.ensures ∙ c.if-not-follows.true,
    )

pub returns : goal.returns
unfolding edge_read
returns c =
    rw (
      edge-whole _ _ _ _ (sym c.in-Value.is ∙ c.read_number-lower.ensures) (sym c.in-Value-higher.is ∙ c.read_number-higher.ensures),
      sym c.proper.ensures ∙ c.if-not-proper.false,
      sym c.follows.ensures ∙ c.if-not-follows.false,
    )
