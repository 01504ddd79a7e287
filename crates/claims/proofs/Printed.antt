-- What the checking and the making program print. Assumes nothing.
use Prim.Native.Nat.{ℕ, ◌+◌, ◌≤◌}
use mathlib.Core.List.{List, [], ◌++◌, append_assoc}
use mathlib.Core.Bool.{Bool, true, false, cond}
use mathlib.Core.Path.{◌≡◌, refl, sym, ap, ◌∙◌}
use native.Mathlib.Omega.{arith}
use lib.Dec.{ltb}
use lib.ListN.{length, drop, length-replicate}
use lib.Seq.{take_at, drop-append_seam, get_or-drop}
use borrow.Author.Tests.{le-ltb, lt-ltb}
use Rattle.record.specs.Read.{Read, Read.Got, Read.Refused, Bytes}
use Rattle.record.specs.declared.Answer.{Answer}
use Rattle.record.specs.declared.Answer.TheVariants.{Accepted, Grade, PlanFault, CertificateFault}
use Rattle.record.proofs.Laws.{ended-back}
use Rattle.record.proofs.Parts.{leads_there, leads_back}
use Rattle.reading.specs.Plan.{Plan, Allowed, plan, plan_bytes}
use Rattle.reading.specs.Code.{whole_plan}
use Rattle.reading.proofs.Plans.{plan-law, accepted}
use Rattle.checker.specs.Check.{check_of, on_leading, grade_of}
use Rattle.checker.specs.declared.Graded.{Graded}
use Rattle.certifier.specs.Made.{certificate_room, made_from}
use Rattle.lines.specs.Lines.{input_limit, decimal, newline, boxes_text, cables_text, grade_text, too_long_line, fault_line}
use Rattle.gradeline.specs.Line.{graded_line, grade_line}
use Rattle.certifybytes.specs.Bytes.{zeros, certify_bytes}
use Rattle.reading.proofs.Lengths.{plan-short}
use Rattle.claims.specs.Printed.{GradePrinted}
use Rattle.claims.specs.Demands.{PrintsGrade, GradePrints, RefusalsPrinted, CertifyPrints}
use Rattle.claims.proofs.Checking.{answer_there, certified_sound}
use Rattle.claims.proofs.Decimal.{decimal-apart}
use Rattle.certifier.proofs.Drafts.{length_most}
use Rattle.claims.proofs.Maker.{maker_writes}
use Rattle.claims.proofs.Lengths.{refused-keeps}

-- THE CHECKING PROGRAM answers what the checker answers to the two records apart, with the plan's counts
pub program_checks : (p : Plan) → Allowed p → (C : List ℕ) → ◌≡◌ {A = Graded} (grade_of (plan_bytes p ++ C)) (record { answer = check_of (plan_bytes p) C; n = p.n; m = length p.edges })
unfolding grade_of check_of
program_checks p a C = rw (leads_back plan-law p C a, drop-append_seam (plan_bytes p) C, ended-back plan-law {v = p} refl a)

pub prints_grade : PrintsGrade
unfolding grade_line
prints_grade p a C h = rw (le-ltb input_limit (length (plan_bytes p ++ C)) h, program_checks p a C)

-- the grade line, piece by piece
in_pieces : (n m k : ℕ) → graded_line (Grade k) n m ≡ boxes_text ++ (decimal n ++ (cables_text ++ (decimal m ++ (grade_text ++ (decimal k ++ newline)))))
in_pieces n m k = simp append_assoc

-- two such lines of the same bytes say the same numbers
same_numbers : (n m k n' m' k' : ℕ) → graded_line (Grade k) n m ≡ graded_line (Grade k') n' m' → (n ≡ n') × (m ≡ m') × (k ≡ k')
same_numbers n m k n' m' k' e =
    let a = decimal-apart n n' 32 32 _ _ (omega arith) (omega arith) (ap (drop 6) (sym (in_pieces n m k) ∙ e ∙ in_pieces n' m' k')) in
    let b = decimal-apart m m' 32 32 _ _ (omega arith) (omega arith) (ap (drop 7) a.1) in
    let c = decimal-apart k k' 10 10 [] [] (omega arith) (omega arith) (ap (drop 6) b.1) in
    (a.0, b.0, c.0)

-- only a grade has a line that begins as a grade's does
grade-line : (a : Answer) (i j n m k : ℕ) → graded_line a i j ≡ graded_line (Grade k) n m → (a ≡ Grade k) × (n ≡ i) × (m ≡ j)
unfolding fault_line
grade-line Accepted i j n m k e = absurd (omega (arith, ap length e))
grade-line (Grade l) i j n m k e = let s = same_numbers i j l n m k e in (ap Grade s.2, sym s.0, sym s.1)
grade-line (PlanFault r p) i j n m k e = let z : ◌≡◌ {A = ℕ} 112 98 = cc in absurd (omega arith)
grade-line (CertificateFault r p) i j n m k e = let z : ◌≡◌ {A = ℕ} 99 98 = cc in absurd (omega arith)

graded_line_lem : (s : List ℕ) (n m k : ℕ) → grade_line s ≡ graded_line (Grade k) n m → ((grade_of s).answer ≡ Grade k) × (n ≡ (grade_of s).n) × (m ≡ (grade_of s).m)
unfolding grade_line
graded_line_lem s n m k e = go (ltb input_limit (length s)) e
  where
    go : (b : Bool) → cond b too_long_line (graded_line (grade_of s).answer (grade_of s).n (grade_of s).m) ≡ graded_line (Grade k) n m → ((grade_of s).answer ≡ Grade k) × (n ≡ (grade_of s).n) × (m ≡ (grade_of s).m)
    go true e = let z : ◌≡◌ {A = ℕ} 105 98 = cc in absurd (omega arith)
    go false e = grade-line (grade_of s).answer (grade_of s).n (grade_of s).m n m k e

pub grade-prints : GradePrints
unfolding grade_of
grade-prints s bytes n m k e = let g = graded_line_lem s n m k e in go (plan s 0) refl g.0 g.1 g.2
  where
    go : (x : Read Plan) → plan s 0 ≡ x → (on_leading x s).answer ≡ Grade k → n ≡ (on_leading x s).n → m ≡ (on_leading x s).m → GradePrinted s n m k
    go (Got p next) f e i j =
        let l = leads_there plan-law bytes f in
        let b : Bytes (drop next s) = λ i. rw (get_or-drop next s i 0) (bytes (next + i)) in
        record {
          plan = p;
          certificate = drop next s;
          input = l.0;
          boxes = i;
          cables = j;
          figure = certified_sound (answer_there p l.2 (drop next s) k b e);
        }
    go (Refused r q) f e i j = let z : ◌≡◌ {A = ℕ} 0 1 = cc in absurd (omega arith)

-- THE MAKING PROGRAM
pub certify_prints : CertifyPrints
unfolding certify_bytes
certify_prints P bp e =
    let a = accepted P bp e in
    let h : length P ≤ input_limit = omega (arith, plan-short a.0 a.1, ap length a.2) in
    let w = maker_writes P bp e zeros (omega (arith, length_most P bp, length-replicate {A = ℕ} certificate_room 0)) in
    record {
      certificate = w.certificate;
      grade = w.grade;
      bytes = rw (le-ltb input_limit (length P) h, w.answer, w.begins) (ap (λ (l : List ℕ). P ++ l) (take_at w.certificate (drop (length w.certificate) zeros) (length w.certificate) refl));
      accepted = w.accepted;
    }

-- WHAT IS PRINTED ELSE: the input is too long, or a record is refused
leading_refused : (s : List ℕ) (r q : ℕ) → plan s 0 ≡ Refused r q → (grade_of s).answer ≡ PlanFault r q
unfolding grade_of
leading_refused s r q e = ap (λ (x : Read Plan). (on_leading x s).answer) e

made-refused : (P : List ℕ) (r q : ℕ) → (whole_plan P).answer ≡ PlanFault r q → (made_from P zeros).answer ≡ PlanFault r q
made-refused P r q e = (refused-keeps P zeros).fault r q e

pub refusals_printed : RefusalsPrinted
unfolding grade_line certify_bytes
refusals_printed = record {
  too_long = λ s h. (rw (lt-ltb input_limit (length s) h), rw (lt-ltb input_limit (length s) h));
  plan-refused = λ s r q h e. rw (le-ltb input_limit (length s) h, leading_refused s r q e);
  certificate-refused = λ p a C r q h e. prints_grade p a C h ∙ ap (λ (x : Answer). graded_line x p.n (length p.edges)) e;
  making_refused = λ P r q h e. rw (le-ltb input_limit (length P) h, made-refused P r q e);
}
