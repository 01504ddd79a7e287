-- `detours::mark` meets its contract: what is joined so far, with what is left of the list, is the whole. Assumes nothing.

use mathlib.Core.Path.{◌∙◌, sym}
use native.Mathlib.Omega.{arith}
use Rattle.detours.proofs.Marks.{marked-short, marked_link}
use Rattle.detours.proofs.mark.Goals as goal

pub loop-link-preserved : goal.loop-link-preserved
loop-link-preserved c =
    let v = c.loop-link.invariant in
    let s = c.in-Some.ensures.steps in
    (s.0 ∙ v.0, marked_link c.loop-link.table _ (omega (arith, v.0, s.1.0)) (rw v.0 at s.1.1) s.1.2 c.join.ensures ∙ v.1)

pub returns : goal.returns
returns c =
    let v = c.loop-link.invariant in
    let s = c.in-None.ensures.steps in
    sym (marked-short c.loop-link.table _ (omega (arith, v.0, s.1.0))) ∙ v.1
