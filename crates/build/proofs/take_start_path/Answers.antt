-- `build::take_start_path` meets its contract: read, tested, entered. Assumes nothing.

use mathlib.Core.Bool.{Bool, true}
use mathlib.Core.Path.{ap, ◌∙◌}
use Rattle.paths.proofs.Told.{told-exit}
use Rattle.build.specs.declared.Build.{Build}
use Rattle.build.specs.State.{entered}
use Rattle.build.specs.Code.{path_fault, build_in}
use Rattle.build.proofs.Taking.{told-refused, as_was, unread, faulty, path-there, taken-in, handed, start-takes}
use Rattle.build.proofs.take_start_path.Goals as goal

pub returns-in_err-x : goal.returns-in_err-x
returns-in_err-x c = let a = c.args in
    let T = start-takes a.n a.rows.now a.s.now a.so_far.next a.ends (build_in a.so_far.sets a.pointers.now a.linked.now) in
    let f = told-exit _ c.from_residual.result _ c.in_err-x.ensures c.from_residual.ensures.1 in
    let e = unread T f.2 in
    let kept = as_was entered _ e in
    record { value = f.3 ∙ told-refused _ e; pointers_after = ap (λ (b : Build). b.pointers) kept; linked_after = ap (λ (b : Build). b.linked) kept }

pub returns-in-Some : goal.returns-in-Some
returns-in-Some c = let a = c.args in
    let x = c.in_ok-x.x in
    let T = start-takes a.n a.rows.now a.s.now a.so_far.next a.ends (build_in a.so_far.sets a.pointers.now a.linked.now) in
    let e = faulty T c.in_ok-x.ensures (c.in-Some.ensures ∙ ap (λ (b : Bool). path_fault x.along b x.new true) c.eq.ensures) in
    let kept = as_was entered _ e in
    record { value = told-refused _ e; pointers_after = ap (λ (b : Build). b.pointers) kept; linked_after = ap (λ (b : Build). b.linked) kept }

pub enter-e-requires : goal.enter-e-requires
enter-e-requires c = let a = c.args in
    let T = start-takes a.n a.rows.now a.s.now a.so_far.next a.ends (build_in a.so_far.sets a.pointers.now a.linked.now) in
    path-there T c.in_ok-x.ensures

pub returns : goal.returns
returns c = let a = c.args in
    let x = c.in_ok-x.x in
    let T = start-takes a.n a.rows.now a.s.now a.so_far.next a.ends (build_in a.so_far.sets a.pointers.now a.linked.now) in
    let sound = c.in_default.ensures ∙ ap (λ (b : Bool). path_fault x.along b x.new true) c.eq.ensures in
    let k = taken-in T c.in_ok-x.ensures sound c.enter-e.ensures.build_after in record {
      value = handed T c.in_ok-x.ensures _ sound (ap (λ (b : Build). record { next = x.next; sets = b.sets }) k.0);
      pointers_after = ap (λ (b : Build). b.pointers) k.1;
      linked_after = ap (λ (b : Build). b.linked) k.1;
    }
