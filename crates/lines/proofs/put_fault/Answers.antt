-- `lines::put_fault` meets its contract. Assumes nothing.
use Rattle.std.proofs.Common.{arith, ◌∙◌}
use Rattle.lines.proofs.Digits.{decimal-printed}
use Rattle.lines.proofs.Lengths.{fault_short, fault_parts}
use Rattle.lines.proofs.Put.{put_as}
use Rattle.lines.proofs.put_fault.Goals as goal

pub returns : goal.returns
returns c =
    let a = c.args in
    let p = c.put_all.ensures in
    let d = c.as_bytes.ensures.value ∙ c.format.ensures.text ∙ decimal-printed a.number (omega (arith, c.ranges.number.fits)) in
    let e = c.as_bytes-2.ensures.value ∙ c.format-2.ensures.text ∙ decimal-printed a.place c.ranges.place.fits in
    let q = put_as a.out.now a.at (fault_parts a.who.now a.number a.place d e) (p.value, p.out_after) in
    record { value = q.0; out_after = q.1; place_len_bound = fault_short a.who.now a.number a.place (omega arith) (omega (arith, c.ranges)) (omega (arith, c.ranges)) }
