-- THE MAKER: what it answers and writes by the room that it has, and that its certificate is accepted and the same in every buffer. Assumes nothing.
use Prim.Native.Nat.{ℕ, ◌≤◌, ◌+◌, ◌*◌}
use mathlib.Core.List.{List, [], ◌∷◌, ◌++◌}
use mathlib.Core.Path.{◌≡◌, refl, sym, ap, ◌∙◌, subst}
use native.Mathlib.Omega.{arith}
use lib.ListN.{length, take, drop}
use lib.Seq.{take_at}
use Rattle.record.specs.Read.{Read, Read.Got, Read.Refused, Bytes, ended}
use Rattle.record.specs.Number.{number_bytes, list_bytes}
use Rattle.record.specs.Write.{overwritten}
use Rattle.record.specs.declared.Answer.TheVariants.{Accepted, Grade, PlanFault}
use Rattle.record.proofs.Laws.{ended-there}
use Rattle.reading.specs.Plan.{Plan, Allowed, plan, plan_bytes}
use Rattle.reading.specs.Code.{graph_of, table_of, whole_plan, plan_read, PlanTold}
use Rattle.reading.proofs.Plans.{plan-law, accepted, accepted_graph, accepts}
use Rattle.construction.proofs.PlanCertificates.{plan-certified, plan-rules}
use Rattle.construction.proofs.AnyWords.{plan-any_steps}
use Rattle.checker.specs.Check.{check_of}
use Rattle.certifier.specs.declared.Made.{Made}
use Rattle.certifier.specs.Made.{made, length_by, length_from, record_by, record_from, made_from, filled_from, certificate_of, grade_made}
use Rattle.certifier.proofs.Room.{same_length, made-room, made_none, by_room, made-graded}
use Rattle.claims.specs.Certified.{HasFigure, Certified}
use Rattle.claims.specs.Demands.{Writes, MakerWrites, SameCertificate, CertificateOfPlan}
use Rattle.claims.proofs.Checking.{certified_grade, certified_sound}

over_start : (buffer bytes : List ℕ) → overwritten buffer 0 bytes ≡ bytes ++ drop (length bytes) buffer
over_start buffer bytes = let e : 0 + length bytes ≡ length bytes = omega arith in ap (λ (k : ℕ). bytes ++ drop k buffer) e

module _ (P buffer : List ℕ) (h : (length_from P).length ≤ length buffer) where
  filled_room : filled_from P buffer ≡ record_from P ++ drop (length_from P).length buffer
  filled_room = (made-room P buffer h).1 ∙ over_start buffer (record_from P) ∙ ap (λ (k : ℕ). record_from P ++ drop k buffer) (same_length P)

  front : take (made_from P buffer).length (filled_from P buffer) ≡ record_from P
  front =
      ap (λ (m : Made). take m.length (filled_from P buffer)) (made-room P buffer h).0 ∙ ap (take (length_from P).length) filled_room
      ∙ take_at (record_from P) (drop (length_from P).length buffer) (length_from P).length (same_length P)

pub same_certificate : SameCertificate
same_certificate P a b h i = ((made-room P a h).0 ∙ sym (made-room P b i).0, front P a h ∙ sym (front P b i))

-- ---- what the maker gives to a plan that was read

pub answer_on : (P : List ℕ) {p : Plan} {next : ℕ} → ended plan P 0 ≡ Got p next → (whole_plan P).answer ≡ Accepted
unfolding plan_read
answer_on P e = ap (λ (r : Read Plan). (plan_read r).answer) e

pub graph_on : (P : List ℕ) {p : Plan} {next : ℕ} → ended plan P 0 ≡ Got p next → (whole_plan P).plan.graph ≡ graph_of p
unfolding plan_read table_of
graph_on P e = ap (λ (r : Read Plan). (plan_read r).plan.graph) e

-- so what is answered and written depends on the graph alone
pub length_on_lem : (P : List ℕ) {p : Plan} {next : ℕ} → ended plan P 0 ≡ Got p next → length_from P ≡ length_by Accepted (graph_of p)
length_on_lem P e = (λ i. length_by (answer_on P e i) (graph_on P e i))

pub record_on : (P : List ℕ) {p : Plan} {next : ℕ} → ended plan P 0 ≡ Got p next → record_from P ≡ record_by Accepted (graph_of p)
record_on P e = (λ i. record_by (answer_on P e i) (graph_on P e i))

-- THE CERTIFICATE of an allowed plan keeps every rule, so the checker accepts it.
module _ (p : Plan) (a : Allowed p) where
  pub made-certified : Certified (plan_bytes p) (certificate_of (graph_of p)) (grade_made (graph_of p))
  made-certified =
      record { plan = p; is_plan = record { allowed = a; bytes = refl }; certificate = (plan-certified p a).certificate; bytes = (plan-certified p a).bytes; same_kind = sym (plan-certified p a).grade; rules = plan-rules p a }

  pub made-accepted : check_of (plan_bytes p) (certificate_of (graph_of p)) ≡ Grade (grade_made (graph_of p))
  made-accepted = certified_grade (plan_bytes p) (certificate_of (graph_of p)) (grade_made (graph_of p)) made-certified

  pub length_at : length_from (plan_bytes p) ≡ made (Grade (grade_made (graph_of p))) (length (certificate_of (graph_of p)))
  unfolding length_by table_of
  length_at = rw (accepts p a)

  pub record_at : record_from (plan_bytes p) ≡ certificate_of (graph_of p)
  unfolding record_by table_of
  record_at = rw (accepts p a)

  writes : (buffer : List ℕ) → (length_from (plan_bytes p)).length ≤ length buffer → Writes (plan_bytes p) buffer
  writes buffer h = record {
    certificate = certificate_of (graph_of p);
    grade = grade_made (graph_of p);
    answer = (made-room (plan_bytes p) buffer h).0 ∙ length_at;
    measured = length_at;
    begins = filled_room (plan_bytes p) buffer h ∙ (λ i. record_at i ++ drop (length_at i).length buffer);
    short = (plan-certified p a).short;
    accepted = made-accepted;
  }

pub maker_writes : MakerWrites
maker_writes P bp e buffer h =
    let r = accepted P bp e in
    let l : (length_from (plan_bytes r.0)).length ≤ length buffer = subst (λ (s : List ℕ). (length_from s).length ≤ length buffer) r.2 h in
    subst (λ (s : List ℕ). Writes s buffer) (sym r.2) (writes r.0 r.1 buffer l)

-- a grade that is answered is the kind of that certificate
pub measured_grade : (P : List ℕ) → Bytes P → (k : ℕ) → (length_from P).answer ≡ Grade k → HasFigure P k
unfolding length_by plan_read table_of
measured_grade P bp k e = go (ended plan P 0) refl e
  where
    go : (x : Read Plan) → ended plan P 0 ≡ x → (length_by (plan_read x).answer (plan_read x).plan.graph).answer ≡ Grade k → HasFigure P k
    go (Refused r q) f h = let z : ◌≡◌ {A = ℕ} 0 1 = cc in absurd (omega arith)
    go (Got p next) f h =
        let r = ended-there plan-law bp f in
        let same : grade_made (graph_of p) ≡ k = cc in
        rw (r.0, ← same) (certified_sound (made-certified p r.1))

pub made-grade : (P : List ℕ) → Bytes P → (buffer : List ℕ) (k : ℕ) → (made_from P buffer).answer ≡ Grade k → HasFigure P k
made-grade P bp buffer k e = measured_grade P bp k (made-graded P buffer e)

-- a grade and a length as answer: the plan was accepted and the buffer is long enough, so the certificate is the definition's
append_same : (a b c d : List ℕ) → length a ≡ length b → a ++ c ≡ b ++ d → a ≡ b
append_same [] [] c d n e = refl
append_same [] (y ∷ b) c d n e = absurd (omega arith)
append_same (x ∷ a) [] c d n e = absurd (omega arith)
append_same (x ∷ a) (y ∷ b) c d n e = let h : x ≡ y = cc in let t : a ++ c ≡ b ++ d = cc in rw (h, append_same a b c d (omega arith) t)

module _ (P buffer : List ℕ) (x : Writes P buffer) where
  size : length x.certificate ≡ (length_from P).length
  size = sym (ap (λ (m : Made). m.length) x.measured)

  is_record : x.certificate ≡ record_from P
  is_record = by_room P buffer
      (λ h. let f : PlanFault 30 0 ≡ Grade x.grade = ap (λ (m : Made). m.answer) (sym (made_none P buffer h).0 ∙ x.answer) in let z : ◌≡◌ {A = ℕ} 0 1 = cc in absurd (omega arith))
      (λ h. append_same x.certificate (record_from P) _ _ (size ∙ sym (same_length P)) (sym x.begins ∙ filled_room P buffer h))

  written_is : x.certificate ≡ certificate_of (whole_plan P).plan.graph
  unfolding length_by record_by plan_read
  written_is = is_record ∙ go (ended plan P 0) (ap (λ (m : Made). m.answer) x.measured)
    where
      go : (r : Read Plan) → (length_by (plan_read r).answer (plan_read r).plan.graph).answer ≡ Grade x.grade
          → record_by (plan_read r).answer (plan_read r).plan.graph ≡ certificate_of (plan_read r).plan.graph
      go (Refused r q) e = let z : ◌≡◌ {A = ℕ} 0 1 = cc in absurd (omega arith)
      go (Got p next) e = refl

certified_as : {P Q C D : List ℕ} {j k : ℕ} → P ≡ Q → C ≡ D → j ≡ k → Certified Q D k → Certified P C j
certified_as p c k x = rw (p, c, k) x

pub writes_certified : (P buffer : List ℕ) → Bytes P → (x : Writes P buffer) → Certified P x.certificate x.grade
unfolding length_by plan_read
writes_certified P buffer bp x = go (ended plan P 0) refl (ap (λ (m : Made). m.answer) x.measured)
  where
    go : (r : Read Plan) → ended plan P 0 ≡ r → (length_by (plan_read r).answer (plan_read r).plan.graph).answer ≡ Grade x.grade → Certified P x.certificate x.grade
    go (Refused r q) e h = let z : ◌≡◌ {A = ℕ} 0 1 = cc in absurd (omega arith)
    go (Got p next) e h =
        let r = ended-there plan-law bp e in
        let f : Grade x.grade ≡ Grade (grade_made (graph_of p)) = ap (λ (m : Made). m.answer) (sym x.measured ∙ length_on_lem P e) in
        let k : x.grade ≡ grade_made (graph_of p) = cc in
        certified_as r.0 (written_is P buffer x ∙ ap certificate_of (graph_on P e)) k (made-certified p r.1)

pub certificate_of-plan : CertificateOfPlan
certificate_of-plan P buffer p i x =
    let g : (whole_plan P).plan.graph ≡ graph_of p = rw i.bytes (accepted_graph (plan_bytes p) p (ap (λ (r : PlanTold). r.plan) (accepts p i.allowed))) in
    written_is P buffer x ∙ ap certificate_of g ∙ ap (λ (l : List ℕ). list_bytes number_bytes l) (plan-any_steps p i.allowed (2 * p.n + 1) (omega arith))
