-- `build::take_back` meets its contract: the path leaves, then its ends are lowered. Assumes nothing.

use mathlib.Core.Path.{refl, ap, ◌∙◌}
use Rattle.build.specs.declared.Build.{Build}
use Rattle.build.specs.State.{lowered}
use Rattle.build.proofs.Inner.{same_build, same_sets}
use Rattle.build.proofs.take_back.Goals as goal

pub returns : goal.returns
returns c = let a = c.args in
    let left = same_build (same_sets {branch = a.sets.branch} refl c.unwind-built.ensures.value) c.unwind-built.ensures.pointers_after c.part.ensures in
    let once = c.lower-once.ensures ∙ ap (λ (b : Build). lowered b a.t.last a.t.upto) left in
    c.lower.ensures ∙ ap (λ (b : Build). lowered b a.t.first a.t.from) once
