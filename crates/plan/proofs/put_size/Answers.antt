-- `plan::put_size` meets its contract. Assumes nothing.
use Rattle.std.proofs.Common.{◌<◌, ◌++◌, arith, ap}
use Rattle.lines.specs.Lines.{newline}
use Rattle.lines.proofs.Lengths.{size_begins}
use Rattle.lines.proofs.Put.{put_as}
use Rattle.plan.proofs.Cases.{size_line-short}
use Rattle.plan.proofs.put_size.Goals as goal

pub slice_bounds-put_both-end : goal.slice_bounds-put_both-end
slice_bounds-put_both-end c =
    let p = c.put_size-end.ensures in
    (size_begins c.args.n c.args.m (omega (arith, c.ranges.n.fits)) (omega (arith, c.ranges.m.fits)) (p.value, p.out_after)).long

pub returns : goal.returns
returns c =
    let a = c.args in
    let p = c.put_size-end.ensures in
    let q = c.put_both.ensures in
    let n : a.n < 65536 = omega (arith, c.ranges.n.fits) in
    let m : a.m < 65536 = omega (arith, c.ranges.m.fits) in
    let b = size_begins a.n a.m n m (p.value, p.out_after) in
    let t = put_as a.out.now 0 (ap (λ l. l ++ newline) b.front) (q.value, q.out_after) in
    record { value = t.0; out_after = t.1; m_len_bound = size_line-short a.n a.m n m }
