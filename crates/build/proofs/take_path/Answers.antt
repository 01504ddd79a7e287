-- `build::take_path` meets its contract: read, tested, its ends raised, entered; the trace tells what was done. Assumes nothing.

use mathlib.Core.Path.{refl, ap, ◌∙◌}
use Rattle.certificates.specs.Records.{path}
use Rattle.links.specs.Ends.{held}
use Rattle.links.specs.Tables.{split_by, split_mates_by, is_inner}
use Rattle.paths.proofs.Told.{told-exit}
use Rattle.build.specs.declared.Build.{Build}
use Rattle.build.specs.State.{entered, end_of, path_taken}
use Rattle.build.specs.Code.{build_in, on_path_read}
use Rattle.build.proofs.Inner.{same_build, same_sets}
use Rattle.build.proofs.Taking.{told-refused, as_was, unread, faulty, path-there, taken-in, trace-of, handed, further_takes, fault_same, addition_same, raised-same}
use Rattle.build.proofs.take_path.Goals as goal

pub returns-in_err-x : goal.returns-in_err-x
returns-in_err-x c = let a = c.args in
    let T = further_takes a.n a.rows.now a.s.now a.at (build_in a.sets a.pointers.now a.linked.now) in
    let f = told-exit _ c.from_residual.result _ c.in_err-x.ensures c.from_residual.ensures.1 in
    let e = unread T f.2 in
    let kept = as_was path_taken _ e in
    record { value = f.3 ∙ told-refused _ e; pointers_after = ap (λ (b : Build). b.pointers) kept; linked_after = ap (λ (b : Build). b.linked) kept }

pub returns-in-Some : goal.returns-in-Some
returns-in-Some c = let a = c.args in
    let b = build_in a.sets a.pointers.now a.linked.now in
    let T = further_takes a.n a.rows.now a.s.now a.at b in
    let x = c.in_ok-x.x in
    let add = addition_same a.linked.now _ _ (end_of b x.first) (end_of b x.last) c.addition-a.ensures c.end_of-first.ensures c.end_of-last.ensures in
    let fault = c.in-Some.ensures ∙ fault_same x.along x.new _ _ _ _ _ _ c.contains.ensures c.contains-2.ensures (c.is_held.ensures ∙ ap held add) in
    let e = faulty T c.in_ok-x.ensures fault in
    let kept = as_was path_taken _ e in
    record { value = told-refused _ e; pointers_after = ap (λ (b : Build). b.pointers) kept; linked_after = ap (λ (b : Build). b.linked) kept }

pub enter-e-requires : goal.enter-e-requires
enter-e-requires c = let a = c.args in
    let T = further_takes a.n a.rows.now a.s.now a.at (build_in a.sets a.pointers.now a.linked.now) in
    path-there T c.in_ok-x.ensures

pub returns : goal.returns
returns c = let a = c.args in
    let b = build_in a.sets a.pointers.now a.linked.now in
    let T = further_takes a.n a.rows.now a.s.now a.at b in
    let x = c.in_ok-x.x in
    let first = c.end_of-first.ensures in
    let last = c.end_of-last.ensures in
    let add = addition_same a.linked.now _ _ (end_of b x.first) (end_of b x.last) c.addition-a.ensures first last in
    let fault = c.in_default.ensures ∙ fault_same x.along x.new _ _ _ _ _ _ c.contains.ensures c.contains-2.ensures (c.is_held.ensures ∙ ap held add) in
    let branch = raised-same a.sets.branch c.raise.ensures c.raise-2.ensures first last in
    let linked = c.split_by.ensures.linked_after ∙ ap (split_by a.linked.now) add in
    let mates = c.split_by.ensures.pointers_after ∙ ap (split_mates_by a.pointers.now) add in
    let k = taken-in T c.in_ok-x.ensures fault
    (c.enter-e.ensures.build_after ∙ ap (λ (b : Build). on_path_read entered b (path a.n 2 a.s.now a.at)) (same_build (same_sets branch refl) mates linked)) in
    let trace = trace-of T c.in_ok-x.ensures c.enter-e.ensures.before_value (c.is_inner.ensures ∙ ap is_inner first) (c.is_inner-2.ensures ∙ ap is_inner last) in record {
      value = handed T c.in_ok-x.ensures _ fault (λ i. record { taken = record { next = x.next; sets = (k.0 i).sets }; trace = trace i });
      pointers_after = ap (λ (b : Build). b.pointers) k.1;
      linked_after = ap (λ (b : Build). b.linked) k.1;
    }
