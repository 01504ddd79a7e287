-- `detours::cycle` meets its contract. Assumes nothing.

use mathlib.Core.Path.{ap, ◌∙◌}
use Rattle.graph.specs.Rows.{row_of}
use Rattle.search.specs.Code.{left_in}
use Rattle.construction.specs.Sets.{single}
use Rattle.construction.specs.Ears.{failed}
use Rattle.detours.specs.Code.{found_of, answered_in}
use Rattle.detours.proofs.Answered.{cycle-few, cycle-found}
use Rattle.detours.proofs.cycle.Goals as goal

pub returns-then-size-lt2 : goal.returns-then-size-lt2
returns-then-size-lt2 c = let a = c.args in record {
  space_after = cycle-few (λ m removed more. left_in a.space.now m) a.space.now a.rows.now c.row-row.result c.row-row.ensures c.size.result c.size.ensures c.if-size-lt2.true;
  value = c.failed.ensures ∙ rw (c.single.ensures, c.row-row.ensures)
      (ap found_of (cycle-few (answered_in a.space.now) (failed (row_of a.rows.now 0) (single 0)) a.rows.now c.row-row.result c.row-row.ensures c.size.result c.size.ensures c.if-size-lt2.true));
}

pub returns : goal.returns
returns c = let a = c.args in record {
  space_after = c.find_on.ensures.space_after
      ∙ cycle-found (λ m removed more. left_in a.space.now m) a.space.now a.rows.now c.row-row.result c.row-row.ensures c.size.result c.size.ensures c.next_from-x.result _ _ _
      c.if-size-lt2.false c.next_from-x.ensures c.single-2.ensures c.single-3.ensures c.minus.ensures;
  value = c.find_on.ensures.value
      ∙ ap found_of
      (cycle-found (answered_in a.space.now) (failed (row_of a.rows.now 0) (single 0)) a.rows.now c.row-row.result c.row-row.ensures c.size.result c.size.ensures c.next_from-x.result _ _ _
      c.if-size-lt2.false c.next_from-x.ensures c.single-2.ensures c.single-3.ensures c.minus.ensures);
}
