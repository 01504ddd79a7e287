-- `checker::grade` meets its contract: the certificate begins after the plan's last edge. Assumes nothing.

use Prim.Native.Nat.{◌-◌, ◌≤◌}
use mathlib.Core.Path.{◌≡◌}
use native.Mathlib.Omega.{arith}
use borrow.Author.Rules.{rules}
use lib.ListN.{length, take, drop, length-drop}
use lib.Seq.{take_all}
use Rattle.record.specs.Read.{Bytes}
use Rattle.checker.proofs.Answers.{grade-accepted, grade-given, grade-refused}
use Rattle.checker.proofs.grade.Goals as goal

pub returns-in-Err : goal.returns-in-Err
returns-in-Err c = grade-refused c.args.input.now c.in-Err.ensures.value

pub slice_bounds-check_certificate-start : goal.slice_bounds-check_certificate-start
slice_bounds-check_certificate-start c = let s = c.args.input.now in
    let g = grade-accepted s c.in-Ok.ensures.value c.in-Ok.ensures.rows_after (λ i. omega (arith, c.type_inv.input i)) in
    let h : c.in-Ok.head.next ≤ length s = g.0 in
    search rules

pub slice_bounds-check_certificate-count : goal.slice_bounds-check_certificate-count
slice_bounds-check_certificate-count c = let s = c.args.input.now in
    (grade-accepted s c.in-Ok.ensures.value c.in-Ok.ensures.rows_after (λ i. omega (arith, c.type_inv.input i))).0

pub check_certificate-requires : goal.check_certificate-requires
check_certificate-requires c = let s = c.args.input.now in
    let b : Bytes s = λ i. omega (arith, c.type_inv.input i) in
    (grade-accepted s c.in-Ok.ensures.value c.in-Ok.ensures.rows_after b).1

pub returns-in-Ok : goal.returns-in-Ok
returns-in-Ok c = let s = c.args.input.now in
    let x = c.in-Ok.head in
    let b : Bytes s = λ i. omega (arith, c.type_inv.input i) in
    let z : take (length s - x.next) (drop x.next s) ≡ drop x.next s = take_all (length s - x.next) (drop x.next s) (simp length-drop (omega arith)) in
    grade-given s c.in-Ok.ensures.value c.in-Ok.ensures.rows_after b z c.check_certificate.ensures
