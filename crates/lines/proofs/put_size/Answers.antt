-- `lines::put_size` meets its contract. Assumes nothing.
use Rattle.std.proofs.Common.{arith, ◌∙◌}
use Rattle.lines.proofs.Digits.{decimal-printed}
use Rattle.lines.proofs.Lengths.{size_parts}
use Rattle.lines.proofs.Put.{put_as}
use Rattle.lines.proofs.put_size.Goals as goal

pub returns : goal.returns
returns c =
    let a = c.args in
    let p = c.put_all.ensures in
    let d = c.as_bytes.ensures.value ∙ c.format.ensures.text ∙ decimal-printed a.n (omega (arith, c.ranges.n.fits)) in
    let e = c.as_bytes-2.ensures.value ∙ c.format-2.ensures.text ∙ decimal-printed a.m (omega (arith, c.ranges.m.fits)) in
    let q = put_as a.out.now a.at (size_parts a.n a.m d e) (p.value, p.out_after) in
    record { value = q.0; out_after = q.1 }
