-- `build::read_start` meets its contract. Assumes nothing.

use mathlib.Core.Path.{ap, ◌∙◌}
use Rattle.std.specs.Prelude.{Err}
use Rattle.paths.proofs.Told.{told-err}
use Rattle.build.specs.declared.Build.{Build}
use Rattle.build.specs.declared.Untaken.{Untaken}
use Rattle.build.specs.Code.{build_in, answered}
use Rattle.build.proofs.Starts.{start-over, start-unread, start-six}
use Rattle.build.proofs.read_start.Goals as goal

pub returns-then-n-gt-CAPACITY : goal.returns-then-n-gt-CAPACITY
returns-then-n-gt-CAPACITY c = let a = c.args in
    let r = start-over a.n a.rows.now a.s.now a.at a.pointers.now a.linked.now c.if-n-gt-CAPACITY.true in
    let e = c.no_start.ensures in record {
      value = ap (λ (x : Untaken). answered (Err x)) e ∙ r.0;
      pointers_after = ap (λ (b : Build). b.pointers) r.1;
      linked_after = ap (λ (b : Build). b.linked) r.1;
      build_after = ap (λ (x : Untaken). build_in x.sets a.pointers.now a.linked.now) e ∙ r.1;
    }

pub returns-in-Err : goal.returns-in-Err
returns-in-Err c = let a = c.args in
    let f = told-err _ _ c.in-Err.ensures in
    let r = start-unread a.n a.rows.now a.s.now a.at a.pointers.now a.linked.now c.if-n-gt-CAPACITY.false f.2 in
    let e = c.no_start-in-Err.ensures in record {
      value = ap (λ (x : Untaken). answered (Err x)) e ∙ ap Err f.3 ∙ r.0;
      pointers_after = ap (λ (b : Build). b.pointers) r.1;
      linked_after = ap (λ (b : Build). b.linked) r.1;
      build_after = ap (λ (x : Untaken). build_in x.sets a.pointers.now a.linked.now) e ∙ r.1;
    }

pub returns : goal.returns
returns c = let a = c.args in
    let r = start-six a.n a.rows.now a.s.now a.at a.pointers.now a.linked.now c.if-n-gt-CAPACITY.false c.in-Ok.ensures in
    let six = c.read_six.ensures in record {
      value = six.value ∙ r.0;
      pointers_after = six.pointers_after ∙ ap (λ (b : Build). b.pointers) r.1;
      linked_after = six.linked_after ∙ ap (λ (b : Build). b.linked) r.1;
      build_after = six.build_after ∙ r.1;
    }
