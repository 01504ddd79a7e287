-- `mending::decide` meets its contract. Assumes nothing.

use native.Mathlib.Omega.{arith}
use Rattle.std.proofs.lemmas.Result.{err_from_is_err_and}
use Rattle.record.specs.Read.{Bytes}
use Rattle.mending.proofs.Decided.{refused-records, listing, few_edges, too_many, together, both_allowed, both_drafted}
use Rattle.mending.proofs.Listed.{list_right}
use Rattle.mending.proofs.decide.Goals as goal

pub returns-in_err-read : goal.returns-in_err-read
returns-in_err-read c =
    let r = err_from_is_err_and c.from_residual.result c.from_residual.ensures.1 in
    rw (r.1, r.2) (refused-records c.args.plan.now c.in_err-read.ensures)

pub overflow_sub-m : goal.overflow_sub-m
overflow_sub-m c =
    let bytes : Bytes c.args.plan.now = λ i. omega (arith, c.type_inv.plan i) in
    let at = listing list_right c.args.plan.now bytes c.in_ok-read.ensures c.mend_list-list.ensures in
    few_edges at

pub returns-then-m-list : goal.returns-then-m-list
returns-then-m-list c =
    let bytes : Bytes c.args.plan.now = λ i. omega (arith, c.type_inv.plan i) in
    let at = listing list_right c.args.plan.now bytes c.in_ok-read.ensures c.mend_list-list.ensures in
    too_many at c.if-m-list.true

pub merge-mended-requires : goal.merge-mended-requires
merge-mended-requires c =
    let bytes : Bytes c.args.plan.now = λ i. omega (arith, c.type_inv.plan i) in
    let at = listing list_right c.args.plan.now bytes c.in_ok-read.ensures c.mend_list-list.ensures in
    together at c.if-m-list.false

pub draft_of-requires : goal.draft_of-requires
draft_of-requires c =
    let bytes : Bytes c.args.plan.now = λ i. omega (arith, c.type_inv.plan i) in
    let at = listing list_right c.args.plan.now bytes c.in_ok-read.ensures c.mend_list-list.ensures in
    both_allowed at c.if-m-list.false c.merge-mended.ensures list_right

pub returns : goal.returns
returns c =
    let bytes : Bytes c.args.plan.now = λ i. omega (arith, c.type_inv.plan i) in
    let at = listing list_right c.args.plan.now bytes c.in_ok-read.ensures c.mend_list-list.ensures in
    both_drafted at c.if-m-list.false c.merge-mended.ensures c.draft_of.ensures
