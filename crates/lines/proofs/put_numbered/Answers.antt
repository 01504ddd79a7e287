-- `lines::put_numbered` meets its contract. Assumes nothing.
use Rattle.std.proofs.Common.{◌++◌, ap, ◌∙◌, append-nil}
use Rattle.lines.proofs.Digits.{decimal-printed}
use Rattle.lines.proofs.Put.{put_as}
use Rattle.lines.proofs.put_numbered.Goals as goal

pub returns : goal.returns
returns c =
    let p = c.put_all.ensures in
    let e = c.as_bytes.ensures.value ∙ c.format.ensures.text ∙ decimal-printed c.args.n c.ranges.n.fits in
    let q = put_as c.args.out.now c.args.at (ap (λ l. c.args.label.now ++ l) (append-nil c.as_bytes.result.now ∙ e)) (p.value, p.out_after) in
    record { value = q.0; out_after = q.1 }
