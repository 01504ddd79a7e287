-- `put_text` of `MendBytes` meets its contract. Assumes nothing.
use mathlib.Core.Path.{ap, ◌∙◌}
use native.Mathlib.Omega.{arith}
use lib.ListN.{length, replicate}
use Rattle.record.specs.Read.{Bytes}
use Rattle.lines.proofs.Put.{put_short}
use Rattle.mendbytes.proofs.Cases.{three_fit, holds, three_begin, graded_bytes, refused-bytes}
use Rattle.mendbytes.proofs.MendBytesPrinterROOM.put_text.Goals as goal

pub returns-in_default : goal.returns-in_default
returns-in_default c =
    let a = c.args in
    let b : Bytes a.input.now = λ i. omega (arith, c.type_inv.input i) in
    let m = c.mend-m.ensures in
    let e = c.put_refusal.ensures in
    let r = refused-bytes a.input.now b (m.value, (m.list_after, (m.mended_after, m.certificate_after))) c.in_default.not-Grade in
    let both = put_short a.out.now r (e.value, e.out_after) (omega (arith, e.answer_len_bound)) in
    record { value = both.0; out_after = both.1.0; input_len_bound = both.1.1 }

pub slice_bounds-list-end : goal.slice_bounds-list-end
slice_bounds-list-end c =
    let m = c.mend-m.ensures in
    (holds c.args.input.now (λ i. omega (arith, c.type_inv.input i)) (m.value, (m.list_after, (m.mended_after, m.certificate_after)))).list.within

pub slice_bounds-put_bytes-end-2 : goal.slice_bounds-put_bytes-end-2
slice_bounds-put_bytes-end-2 c =
    let m = c.mend-m.ensures in
    (holds c.args.input.now (λ i. omega (arith, c.type_inv.input i)) (m.value, (m.list_after, (m.mended_after, m.certificate_after)))).list.long

pub slice_bounds-mended-end : goal.slice_bounds-mended-end
slice_bounds-mended-end c =
    let m = c.mend-m.ensures in
    (holds c.args.input.now (λ i. omega (arith, c.type_inv.input i)) (m.value, (m.list_after, (m.mended_after, m.certificate_after)))).mended.within

pub slice_bounds-put_bytes-end-4 : goal.slice_bounds-put_bytes-end-4
slice_bounds-put_bytes-end-4 c =
    let m = c.mend-m.ensures in
    (holds c.args.input.now (λ i. omega (arith, c.type_inv.input i)) (m.value, (m.list_after, (m.mended_after, m.certificate_after)))).mended.long

pub slice_bounds-certificate-end : goal.slice_bounds-certificate-end
slice_bounds-certificate-end c =
    let m = c.mend-m.ensures in
    (holds c.args.input.now (λ i. omega (arith, c.type_inv.input i)) (m.value, (m.list_after, (m.mended_after, m.certificate_after)))).certificate.within

pub slice_bounds-put_bytes-end-6 : goal.slice_bounds-put_bytes-end-6
slice_bounds-put_bytes-end-6 c =
    let m = c.mend-m.ensures in
    (holds c.args.input.now (λ i. omega (arith, c.type_inv.input i)) (m.value, (m.list_after, (m.mended_after, m.certificate_after)))).certificate.long

-- all three records in a buffer of their own
pub slice_bounds-all-end : goal.slice_bounds-all-end
slice_bounds-all-end c =
    let m = c.mend-m.ensures in
    let p = c.put_bytes-a.ensures in
    let q = c.put_bytes-b.ensures in
    let r = c.put_bytes-c.ensures in
    (three_begin c.args.input.now (λ i. omega (arith, c.type_inv.input i)) (m.value, (m.list_after, (m.mended_after, m.certificate_after))) (replicate 3592 0) (omega arith)
    (p.value, p.out_after) (q.value, q.out_after) (r.value, r.out_after)).within

pub returns : goal.returns
returns c =
    let a = c.args in
    let b : Bytes a.input.now = λ i. omega (arith, c.type_inv.input i) in
    let m = c.mend-m.ensures in
    let p = c.put_bytes-a.ensures in
    let q = c.put_bytes-b.ensures in
    let r = c.put_bytes-c.ensures in
    let t = c.put_bytes.ensures in
    let three =
    three_begin a.input.now b (m.value, (m.list_after, (m.mended_after, m.certificate_after))) (replicate 3592 0) (omega arith)
    (p.value, p.out_after) (q.value, q.out_after) (r.value, r.out_after) in
    let e = three.front in
    let g = graded_bytes a.input.now b (m.value, (m.list_after, (m.mended_after, m.certificate_after))) c.in-Grade.is in
    let both = put_short a.out.now (e ∙ g) (t.value, t.out_after) (omega (arith, ap length e, three_fit a.input.now b)) in
    record { value = both.0; out_after = both.1.0; input_len_bound = both.1.1 }
