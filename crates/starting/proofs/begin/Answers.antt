-- `starting::begin` meets its contract: a search's cut is the start's, else its path goes on. Assumes nothing.

use lib.ListN.{replicate}
use borrow.Author.Rules.{rules}
use Rattle.std.proofs.lemmas.Result.{err_from_is_err_and}
use Rattle.search.specs.Code.{search_space}
use Rattle.detours.proofs.Answered.{cycle-settled}
use Rattle.starting.proofs.Searches.{begin-few, cycle-cut, third_cut, across-cut, across-on}
use Rattle.starting.proofs.begin.Goals as goal

pub returns-then-size-lt3 : goal.returns-then-size-lt3
returns-then-size-lt3 c = begin-few c.args.rows.now c.row-row.result c.row-row.ensures c.size.result c.size.ensures c.single.result c.single.ensures c.if-size-lt3.true

pub returns-in_err-around : goal.returns-in_err-around
returns-in_err-around c =
    let p = err_from_is_err_and c.from_residual.result c.from_residual.ensures.1 in
    let q = cycle-settled (replicate search_space 0) (search rules) c.args.rows.now c.cycle.ensures.value c.in_err-around.ensures in
    rw (p.1, p.2) (cycle-cut c.args.rows.now c.row-row.result c.row-row.ensures c.size.result c.size.ensures c.if-size-lt3.false q)

pub returns-in_err-third : goal.returns-in_err-third
returns-in_err-third c =
    let p = err_from_is_err_and c.from_residual-in_err-third.result c.from_residual-in_err-third.ensures.1 in
    let q = cycle-settled (replicate search_space 0) (search rules) c.args.rows.now c.cycle.ensures.value c.in_ok-around.ensures in
    let t = rw c.as_slice.ensures.value at c.in_err-third.ensures in
    rw (p.1, p.2) (third_cut c.args.rows.now c.row-row.result c.row-row.ensures c.size.result c.size.ensures c.if-size-lt3.false q t)

pub returns-in_err-across : goal.returns-in_err-across
returns-in_err-across c =
    let p = err_from_is_err_and c.from_residual-in_err-across.result c.from_residual-in_err-across.ensures.1 in
    let q = cycle-settled (replicate search_space 0) (search rules) c.args.rows.now c.cycle.ensures.value c.in_ok-around.ensures in
    let t = rw c.as_slice.ensures.value at c.in_ok-third.ensures in
    let y = rw (c.as_slice-2.ensures.value, c.as_slice-3.ensures.value) at c.in_err-across.ensures in
    rw (p.1, p.2) (across-cut c.args.rows.now c.row-row.result c.row-row.ensures c.size.result c.size.ensures c.if-size-lt3.false q t y)

pub returns : goal.returns
returns c =
    let q = cycle-settled (replicate search_space 0) (search rules) c.args.rows.now c.cycle.ensures.value c.in_ok-around.ensures in
    let t = rw c.as_slice.ensures.value at c.in_ok-third.ensures in
    let y = rw (c.as_slice-2.ensures.value, c.as_slice-3.ensures.value) at c.in_ok-across.ensures in
    across-on c.args.rows.now c.row-row.result c.row-row.ensures c.size.result c.size.ensures c.if-size-lt3.false q t y c.start_on.ensures
