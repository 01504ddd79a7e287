-- `gradeline::put_grade` meets its contract. Assumes nothing.
use Rattle.std.proofs.Common.{◌≡◌, ℕ, ◌<◌, List, [], ◌++◌, arith, ◌∙◌, append_assoc}
use Rattle.record.specs.declared.Answer.TheVariants.{Grade}
use Rattle.lines.specs.Lines.{decimal, grade_text, newline, size_text}
use Rattle.lines.proofs.Digits.{decimal-printed}
use Rattle.lines.proofs.Lengths.{size_begins}
use Rattle.lines.proofs.Put.{put_as}
use Rattle.gradeline.specs.Line.{graded_line}
use Rattle.gradeline.proofs.Cases.{graded_short}
use Rattle.gradeline.proofs.put_grade.Goals as goal

in_turn : (a b c d : List ℕ) → a ++ (b ++ (c ++ d)) ≡ a ++ b ++ c ++ d
in_turn a b c d = simp append_assoc

parts : (n m k : ℕ) {xs ys : List ℕ} → xs ≡ size_text n m → ys ≡ decimal k → xs ++ (grade_text ++ (ys ++ (newline ++ []))) ≡ graded_line (Grade k) n m
parts n m k d e = rw (d, e) (in_turn (size_text n m) grade_text (decimal k) newline)

pub slice_bounds-put_all-end : goal.slice_bounds-put_all-end
slice_bounds-put_all-end c =
    let p = c.put_size-end.ensures in
    (size_begins c.args.n c.args.m (omega (arith, c.ranges.n.fits)) (omega (arith, c.ranges.m.fits)) (p.value, p.out_after)).long

pub returns : goal.returns
returns c =
    let a = c.args in
    let p = c.put_size-end.ensures in
    let q = c.put_all.ensures in
    let n : a.n < 65536 = omega (arith, c.ranges.n.fits) in
    let m : a.m < 65536 = omega (arith, c.ranges.m.fits) in
    let k : a.grade < 256 = omega (arith, c.ranges.grade.fits) in
    let b = size_begins a.n a.m n m (p.value, p.out_after) in
    let e = c.as_bytes.ensures.value ∙ c.format.ensures.text ∙ decimal-printed a.grade (omega (arith, k)) in
    let t = put_as a.out.now 0 (parts a.n a.m a.grade b.front e) (q.value, q.out_after) in
    record { value = t.0; out_after = t.1; m_len_bound = graded_short a.n a.m a.grade n m k }
