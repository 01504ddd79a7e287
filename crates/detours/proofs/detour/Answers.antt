-- `detours::detour` meets its contract. Assumes nothing.

use mathlib.Core.Path.{ap, ◌∙◌}
use Rattle.vertexset.specs.Set.{empty_set}
use Rattle.search.specs.Code.{left_in}
use Rattle.construction.specs.Ears.{failed}
use Rattle.detours.specs.Code.{found_of, answered_in}
use Rattle.detours.proofs.Answered.{detour-found, detour-none}
use Rattle.detours.proofs.detour.Goals as goal

pub returns-in_default : goal.returns-in_default
returns-in_default c = let a = c.args in record {
  space_after = detour-none (λ m removed more. left_in a.space.now m) a.space.now a.rows.now a.near a.set c.in_default.ensures;
  value = c.failed.ensures ∙ rw c.empty.ensures (ap found_of (detour-none (answered_in a.space.now) (failed empty_set a.set) a.rows.now a.near a.set c.in_default.ensures));
}

pub returns : goal.returns
returns c = let a = c.args in record {
  space_after = c.find_on.ensures.space_after
      ∙ detour-found (λ m removed more. left_in a.space.now m) a.space.now a.rows.now a.near a.set c.in-Some.ensures _ _ _
      c.single.ensures c.single-2.ensures c.minus.ensures;
  value = c.find_on.ensures.value
      ∙ ap found_of
      (detour-found (answered_in a.space.now) (failed empty_set a.set) a.rows.now a.near a.set c.in-Some.ensures _ _ _
      c.single.ensures c.single-2.ensures c.minus.ensures);
}
