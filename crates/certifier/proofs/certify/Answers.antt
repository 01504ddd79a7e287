-- `certifier::certify` meets its contract: a fault is answered, the numbers of a certificate are written where they have room. Assumes nothing.

use native.Mathlib.Omega.{arith}
use Rattle.record.specs.Read.{Bytes}
use Rattle.certifier.proofs.Drafts.{made_fault, part_low, grade_low, made-short, lent_room, made-done}
use Rattle.certifier.proofs.certify.Goals as goal

pub returns-in-Err : goal.returns-in-Err
returns-in-Err c = let r = made_fault c.args.plan.now c.args.out.now c.in-Err.ensures.value in record { value = r.0; out_after = r.1 }

pub bytes_of-length-requires : goal.bytes_of-length-requires
bytes_of-length-requires c = let a = c.args in
    let bytes : Bytes a.plan.now = λ i. omega (arith, c.type_inv.plan i) in
    part_low a.plan.now bytes c.in-Ok.ensures.value c.read_plan_rows.ensures.rows_after c.certificate-numbers.ensures c.as_slice-list.ensures

pub returns-then-out-length : goal.returns-then-out-length
returns-then-out-length c = let a = c.args in
    let bytes : Bytes a.plan.now = λ i. omega (arith, c.type_inv.plan i) in
    let r = made-short a.plan.now bytes c.in-Ok.ensures.value c.read_plan_rows.ensures.rows_after c.certificate-numbers.ensures c.as_slice-list.ensures c.bytes_of-length.ensures a.out.now c.if-out-length.true in
    record { value = r.0; out_after = r.1 }

pub write_numbers-requires : goal.write_numbers-requires
write_numbers-requires c = let a = c.args in
    let bytes : Bytes a.plan.now = λ i. omega (arith, c.type_inv.plan i) in
    let r = lent_room a.plan.now bytes c.in-Ok.ensures.value c.read_plan_rows.ensures.rows_after c.certificate-numbers.ensures c.as_slice-list.ensures c.bytes_of-length.ensures a.out.now c.if-out-length.false in
    record { list_in_bounds = r.0; small = r.1 }

pub overflow_cast-answer : goal.overflow_cast-answer
overflow_cast-answer c = let a = c.args in
    let bytes : Bytes a.plan.now = λ i. omega (arith, c.type_inv.plan i) in
    omega (arith, grade_low a.plan.now bytes c.in-Ok.ensures.value c.read_plan_rows.ensures.rows_after c.certificate-numbers.ensures c.as_slice-list.ensures)

pub returns : goal.returns
returns c = let a = c.args in
    let bytes : Bytes a.plan.now = λ i. omega (arith, c.type_inv.plan i) in
    let r = made-done a.plan.now bytes c.in-Ok.ensures.value c.read_plan_rows.ensures.rows_after c.certificate-numbers.ensures c.as_slice-list.ensures c.bytes_of-length.ensures a.out.now c.if-out-length.false c.write_numbers.ensures in
    record { value = r.0; out_after = r.1 }
