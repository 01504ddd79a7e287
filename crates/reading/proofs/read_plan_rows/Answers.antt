-- `reading::read_plan_rows` meets its contract. Assumes nothing.

use Rattle.std.proofs.lemmas.Result.{err_from_is_err_and}
use Rattle.reading.proofs.Reading.{whole_more, whole_done, whole_fault}
use Rattle.reading.proofs.read_plan_rows.Goals as goal

pub returns-in_err-head : goal.returns-in_err-head
returns-in_err-head c =
    let r = err_from_is_err_and c.from_residual.result c.from_residual.ensures.1 in
    record { value = rw (r.1, r.2) (whole_fault _ c.in_err-head.ensures.value); rows_after = c.in_err-head.ensures.rows_after }

pub returns-then-head-s : goal.returns-then-head-s
returns-then-head-s c = record { value = whole_more _ c.in_ok-head.ensures.value c.if-head-s.true; rows_after = c.in_ok-head.ensures.rows_after }

pub returns : goal.returns
returns c = record { value = whole_done _ c.in_ok-head.ensures.value c.if-head-s.false; rows_after = c.in_ok-head.ensures.rows_after }
