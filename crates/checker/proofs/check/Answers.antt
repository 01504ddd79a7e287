-- `checker::check` meets its contract: plan faults first, then the certificate beside the rows that were read. Assumes nothing.

use mathlib.Core.Path.{◌∙◌}
use native.Mathlib.Omega.{arith}
use Rattle.record.specs.Read.{Bytes}
use Rattle.checker.proofs.Answers.{check-accepted, check-refused}
use Rattle.checker.proofs.check.Goals as goal

pub returns-in-Err : goal.returns-in-Err
returns-in-Err c = let a = c.args in
    check-refused a.plan.now a.certificate.now c.in-Err.ensures.value

pub check_certificate-requires : goal.check_certificate-requires
check_certificate-requires c = let a = c.args in
    let b : Bytes a.plan.now = λ i. omega (arith, c.type_inv.plan i) in
    (check-accepted a.plan.now a.certificate.now c.in-Ok.ensures.value c.in-Ok.ensures.rows_after b).0

pub returns-in-Ok : goal.returns-in-Ok
returns-in-Ok c = let a = c.args in
    let b : Bytes a.plan.now = λ i. omega (arith, c.type_inv.plan i) in
    c.check_certificate.ensures ∙ (check-accepted a.plan.now a.certificate.now c.in-Ok.ensures.value c.in-Ok.ensures.rows_after b).1
