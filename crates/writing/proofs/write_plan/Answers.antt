-- `writing::write_plan` meets its contract: a test that fails leaves the buffer as it is, else the parts of the record are written one after the other. Assumes nothing.

use mathlib.Core.Path.{◌∙◌}
use native.Mathlib.Omega.{arith}
use Rattle.record.proofs.Write.{few_bytes}
use Rattle.writing.specs.Write.{edges_of}
use Rattle.writing.proofs.Edges.{ends_low}
use Rattle.writing.proofs.Writing.{bytes_short, not_allowed, is_allowed, not_written, out_of_order, too_long, has_room_lem, edges_room, written}
use Rattle.writing.proofs.write_plan.Goals as goal

pub returns-in_err-bytes : goal.returns-in_err-bytes
returns-in_err-bytes c = let a = c.args in
    let n = not_written a.out.now a.p (out_of_order a.out.now a.p (not_allowed a.p.graph.n (edges_of a.p.ends a.p.m) c.in_err-bytes.ensures)) in
    (c.from_residual.ensures ∙ n.0, n.1)

pub overflow_add-number_length : goal.overflow_add-number_length
overflow_add-number_length c = let a = c.args in
    omega (arith, few_bytes a.p.graph.n, few_bytes a.p.m)

pub overflow_add-number_length-2 : goal.overflow_add-number_length-2
overflow_add-number_length-2 c = let a = c.args in
    let o = is_allowed a.p.graph.n (edges_of a.p.ends a.p.m) c.in_ok-bytes.ensures in
    omega (arith, few_bytes a.p.graph.n, few_bytes a.p.m, bytes_short a.p.ends a.p.m)

pub returns-then-out-number_length : goal.returns-then-out-number_length
returns-then-out-number_length c = let a = c.args in
    let o = is_allowed a.p.graph.n (edges_of a.p.ends a.p.m) c.in_ok-bytes.ensures in
    not_written a.out.now a.p (too_long a.out.now a.p o.1 c.number_length.ensures c.number_length-2.ensures c.if-out-number_length.true)

pub put_edges-requires : goal.put_edges-requires
put_edges-requires c = let a = c.args in
    let o = is_allowed a.p.graph.n (edges_of a.p.ends a.p.m) c.in_ok-bytes.ensures in
    let r = has_room_lem a.out.now a.p o.1 c.number_length.ensures c.number_length-2.ensures c.if-out-number_length.false in
    (c.if-m-gt-MAX_EDGES.false, ends_low _ _ c.if-n-gt-MAX_VERTICES.false o.0, edges_room a.out.now a.p r c.put_number-m_at.ensures c.put_number-from.ensures)

pub returns : goal.returns
returns c = let a = c.args in
    let o = is_allowed a.p.graph.n (edges_of a.p.ends a.p.m) c.in_ok-bytes.ensures in
    let r = has_room_lem a.out.now a.p o.1 c.number_length.ensures c.number_length-2.ensures c.if-out-number_length.false in
    written a.out.now a.p r c.put_number-m_at.ensures c.put_number-from.ensures c.if-n-lt-MIN_VERTICES.false c.if-n-gt-MAX_VERTICES.false c.if-m-gt-MAX_EDGES.false
    o.0 c.put_edges.ensures
