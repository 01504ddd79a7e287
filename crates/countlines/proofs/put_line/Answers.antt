-- `countlines::put_line` meets its contract. Assumes nothing.
use Rattle.std.proofs.Common.{◌++◌, length, ap, ◌∙◌, arith}
use Rattle.counting.specs.declared.Counts.{Counts}
use Rattle.lines.specs.Lines.{decimal, newline}
use Rattle.countlines.specs.Text.{blank}
use Rattle.lines.proofs.Put.{put_as}
use Rattle.countlines.proofs.Lines.{told-line, told_first, told_more, told_begins}
use Rattle.countlines.proofs.put_line.Goals as goal

pub loop-count-init : goal.loop-count-init
loop-count-init c = let p = c.put_decimal-end.ensures in told_first c.args.size c.count_all.result.of (p.value, p.out_after)

pub loop-count-preserved : goal.loop-count-preserved
loop-count-preserved c =
    let p = c.put_numbered-end.ensures in
    let v = c.loop-count in
    let q = put_as v.line v.end (ap (λ k. blank ++ decimal k) c.into.ensures) (p.value, p.out_after) in
    told_more c.args.size c.count_all.result.of v.count-index (omega (arith, c.loop-count-test.true, ap (λ (x : Counts). length x.of) c.count_all.ensures)) v.invariant q

pub slice_bounds-line-end : goal.slice_bounds-line-end
slice_bounds-line-end c = (told_begins c.args.size c.loop-count.count-index c.requires c.count_all.ensures (omega (arith, c.loop-count-test.false, ap (λ (x : Counts). length x.of) c.count_all.ensures)) c.loop-count.invariant).within

pub slice_bounds-put_both-end : goal.slice_bounds-put_both-end
slice_bounds-put_both-end c = (told_begins c.args.size c.loop-count.count-index c.requires c.count_all.ensures (omega (arith, c.loop-count-test.false, ap (λ (x : Counts). length x.of) c.count_all.ensures)) c.loop-count.invariant).long

pub returns : goal.returns
returns c =
    let b = told_begins c.args.size c.loop-count.count-index c.requires c.count_all.ensures (omega (arith, c.loop-count-test.false, ap (λ (x : Counts). length x.of) c.count_all.ensures)) c.loop-count.invariant in
    let p = c.put_both.ensures in
    let q = put_as c.args.out.now c.args.at (ap (λ l. l ++ newline) b.front ∙ told-line c.args.size c.count_all.ensures) (p.value, p.out_after) in
    record { value = q.0; out_after = q.1 }
