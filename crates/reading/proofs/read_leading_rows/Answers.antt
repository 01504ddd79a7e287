-- `reading::read_leading_rows` meets its contract: a number that can't be read, or is out of its range, ends the reading. Assumes nothing.

use mathlib.Core.Logic.{⊎_elim}
use mathlib.Core.Path.{◌∙◌, sym, ap}
use native.Mathlib.Omega.{arith}
use Rattle.record.proofs.Faults.{unread}
use Rattle.graph.specs.Limits.{min_vertices, max_vertices, max_edges}
use Rattle.record.specs.Read.{Read}
use Rattle.reading.specs.Plan.{Plan}
use Rattle.reading.specs.Code.{plan_read, head_of}
use Rattle.record.proofs.Bounds.{true_within, below-within, above_within}
use Rattle.reading.proofs.Reading.{plan-first, plan-range, plan-second, plan-many, plan-edges, rows_first, rows_range, rows_second, rows_many, rows_edges}
use Rattle.reading.proofs.read_leading_rows.Goals as goal

pub returns-in_default : goal.returns-in_default
unfolding plan_read
returns-in_default c = let u = unread _ _ c.read_number-x.ensures c.in_default.not-Value in
    record { value = rw c.plan_fault.ensures (ap (λ (x : Read Plan). head_of (plan_read x)) (sym (plan-first _ u))); rows_after = rows_first _ _ u }

pub returns-then-n-lt-MIN_VERTICES : goal.returns-then-n-lt-MIN_VERTICES
unfolding plan_read
returns-then-n-lt-MIN_VERTICES c = let e = sym c.in-Value.is ∙ c.read_number-x.ensures in
    let r = ⊎_elim (below-within min_vertices max_vertices _) (λ h. above_within min_vertices max_vertices _ h.1) c.then-n-lt-MIN_VERTICES.either in
    record { value = ap (λ (x : Read Plan). head_of (plan_read x)) (sym (plan-range _ e r)); rows_after = rows_range _ _ e r }

pub returns-in_default-y : goal.returns-in_default-y
unfolding plan_read
returns-in_default-y c = let e = sym c.in-Value.is ∙ c.read_number-x.ensures in
    let r = true_within min_vertices max_vertices _ c.if-n-lt-MIN_VERTICES.false c.if-n-gt-MAX_VERTICES.false in
    let u = unread _ _ c.read_number-y.ensures c.in_default-y.not-Value in
    record { value = rw c.plan_fault-in_default-y.ensures (ap (λ (x : Read Plan). head_of (plan_read x)) (sym (plan-second _ e r u))); rows_after = rows_second _ _ e r u }

pub returns-then-m-gt-MAX_EDGES : goal.returns-then-m-gt-MAX_EDGES
unfolding plan_read
returns-then-m-gt-MAX_EDGES c = let e = sym c.in-Value.is ∙ c.read_number-x.ensures in
    let r = true_within min_vertices max_vertices _ c.if-n-lt-MIN_VERTICES.false c.if-n-gt-MAX_VERTICES.false in
    let f = sym c.in-Value-y.is ∙ c.read_number-y.ensures in
    let m = above_within 0 max_edges _ c.if-m-gt-MAX_EDGES.true in
    record { value = ap (λ (x : Read Plan). head_of (plan_read x)) (sym (plan-many _ e r f m)); rows_after = rows_many _ _ e r f m }

pub returns : goal.returns
returns c = let e = sym c.in-Value.is ∙ c.read_number-x.ensures in
    let r = true_within min_vertices max_vertices _ c.if-n-lt-MIN_VERTICES.false c.if-n-gt-MAX_VERTICES.false in
    let f = sym c.in-Value-y.is ∙ c.read_number-y.ensures in
    let m = true_within 0 max_edges _ (omega arith) c.if-m-gt-MAX_EDGES.false in
    record { value = c.read_edges.ensures.value ∙ plan-edges _ e r f m; rows_after = c.read_edges.ensures.rows_after ∙ rows_edges _ _ e r f m }
