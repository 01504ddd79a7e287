-- `writing::measure` meets its contract: what is left is in order where all are, and what was counted and what is left are all. Assumes nothing.

use mathlib.Core.Path.{◌≡◌, sym, ◌∙◌}
use native.Mathlib.Omega.{arith}
use mathlib.Core.Bool.{false}
use Rattle.record.proofs.Write.{few_bytes}
use Rattle.writing.specs.Write.{edge_at, edges_of, edges_in_order}
use Rattle.writing.proofs.Edges.{measure_start, measure_here, measure_improper, measure_behind, measure_end}
use Rattle.writing.proofs.measure.Goals as goal
use Rattle.writing.proofs.measure.Goals.{then-not-proper-via-then-not-proper, then-not-proper-via-else-not-proper+then-not-follows}

pub loop-i-init : goal.loop-i-init
loop-i-init c = measure_start _ _

pub returns-then-not-proper : goal.returns-then-not-proper
returns-then-not-proper c =
    let l = c.loop-i in
    let a = c.args in
    let no : edges_in_order a.n (0, 0) (edges_of a.ends.now a.m) ≡ false = elim c.then-not-proper.branch [
      | then-not-proper-via-then-not-proper w ↦ measure_improper _ _ l.invariant c.loop-i-test.true (sym c.proper.ensures ∙ w.if-not-proper.true)
      | then-not-proper-via-else-not-proper+then-not-follows w ↦ measure_behind _ _ l.invariant c.loop-i-test.true (sym w.follows.ensures ∙ w.if-not-follows.true)
    ] in
    rw no

pub overflow_add-bytes : goal.overflow_add-bytes
overflow_add-bytes c = let e = edge_at c.args.ends.now c.loop-i.i in
    omega (arith, few_bytes e.0, few_bytes e.1)

pub overflow_add-bytes-in-loop-i : goal.overflow_add-bytes-in-loop-i
overflow_add-bytes-in-loop-i c = let e = edge_at c.args.ends.now c.loop-i.i in
    omega (arith, few_bytes e.0, few_bytes e.1, c.loop-i.invariant.short)

pub loop-i-preserved : goal.loop-i-preserved
loop-i-preserved c = measure_here _ _ c.loop-i.invariant c.loop-i-test.true (sym c.proper.ensures ∙ c.if-not-proper.false) (sym c.follows.ensures ∙ c.if-not-follows.false)
    c.number_length.ensures c.number_length-in-loop-i.ensures

pub returns : goal.returns
returns c = let e = measure_end _ _ c.loop-i.invariant c.loop-i-test.false in
    rw (e.0, e.1)
