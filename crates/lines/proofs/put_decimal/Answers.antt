-- `lines::put_decimal` meets its contract. Assumes nothing.
use Rattle.std.proofs.Common.{◌∙◌}
use Rattle.lines.proofs.Digits.{decimal-printed}
use Rattle.lines.proofs.Put.{put_as}
use Rattle.lines.proofs.put_decimal.Goals as goal

pub returns : goal.returns
returns c =
    let p = c.put_bytes.ensures in
    let q = put_as c.args.out.now c.args.at (c.as_bytes.ensures.value ∙ c.format.ensures.text ∙ decimal-printed c.args.n c.ranges.n.fits) (p.value, p.out_after) in
    record { value = q.0; out_after = q.1 }
