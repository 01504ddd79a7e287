-- REQUEST 2: how long a certificate is, what `certificate_length` answers, where 30 is given, and what stays. Assumes nothing.
use Prim.Native.Nat.{ℕ, ◌≤◌, ◌<◌, ◌+◌}
use mathlib.Core.List.{List, [], ◌++◌, append-nil}
use mathlib.Core.Bool.{Bool, true, false}
use mathlib.Core.Path.{◌≡◌, refl, sym, ap, ◌∙◌, subst}
use mathlib.Core.Logic.{◌↔◌}
use native.Mathlib.Omega.{arith}
use lib.Dec.{ltb}
use lib.ListN.{length, drop, replicate, length-replicate, drop_of_length-le}
use borrow.Author.Tests.{ltb-false}
use Rattle.record.specs.Read.{Read, Read.Got, Read.Refused, Bytes, ended}
use Rattle.record.specs.Write.{overwritten}
use Rattle.record.specs.declared.Answer.{Answer}
use Rattle.record.specs.declared.Answer.TheVariants.{Accepted, Grade, PlanFault, CertificateFault}
use Rattle.record.proofs.Write.{overwritten-none}
use Rattle.connectivity.specs.Certificate.{Certificate, Certificate.separation, Certificate.tree, Certificate.ears, Certificate.build}
use Rattle.connectivity.proofs.Lists.{in_member}
use Rattle.certificates.specs.Lengths.{record_numbers, wide}
use Rattle.certificates.proofs.Lengths.{numbers_bytes, bytes_count, numbers_count}
use Rattle.graph.specs.declared.GraphTable.{GraphTable}
use Rattle.reading.specs.Plan.{Plan, plan}
use Rattle.reading.specs.Code.{whole_plan, plan_read, PlanTold}
use Rattle.checker.specs.Check.{plan_graph, check_of}
use Rattle.certifier.specs.declared.Made.{Made}
use Rattle.certifier.specs.Made.{made, length_by, length_from, record_by, record_from, made_from, filled_from}
use Rattle.certifier.proofs.Room.{made-room, made_none, by_room}
use Rattle.certifier.proofs.Drafts.{length_most}
use Rattle.claims.specs.Answers as listed
use Rattle.claims.specs.Answers.{OneOf}
use Rattle.claims.specs.Demands.{RefusedKeeps, RoomNamed}
use Rattle.claims.specs.Numbers.{answer_before, made_before}
use Rattle.claims.specs.Lengths.{CertificatesCounted, MakersCounted, Measured, LengthsMeasured, earlier_made, earlier_filled, EarlierKept, BytesStay}
use Rattle.claims.proofs.Checking.{plan-simple}
use Rattle.claims.proofs.Maker.{writes_certified, maker_writes}
use Rattle.claims.proofs.Answers.{demand1_answers}
use Rattle.claims.proofs.Kept.{reads_same}

-- ---- how many numbers and bytes

pub certificates_counted : CertificatesCounted
certificates_counted P C k c =
    let x = c.certificate in
    let n = numbers_count (plan_graph c.plan) (plan-simple c.plan c.is_plan.allowed) x c.rules in
    let b = c.bytes ∙ numbers_bytes x in
    record { numbers = b; count = n; bytes = ap length b ∙ bytes_count (record_numbers x) ∙ ap (λ (m : ℕ). m + wide (record_numbers x)) n }

pub makers_counted : MakersCounted
makers_counted P buffer bp x = let c = writes_certified P buffer bp x in (c, certificates_counted P x.certificate x.grade c)

-- ---- what is answered for the length

some_number : (x : Certificate) → 0 < length (record_numbers x)
some_number (separation S) = omega arith
some_number (tree c first pairs S) = omega arith
some_number (ears c d first later S) = omega arith
some_number (build p q r s start further) = omega arith

pub length_faults : (P : List ℕ) (r q : ℕ) → ((length_from P).answer ≡ PlanFault r q) ↔ ((whole_plan P).answer ≡ PlanFault r q)
unfolding length_by plan_read
length_faults P r q = go (ended plan P 0)
  where
    go : (x : Read Plan) → ((length_by (plan_read x).answer (plan_read x).plan.graph).answer ≡ PlanFault r q) ↔ ((plan_read x).answer ≡ PlanFault r q)
    go (Got p next) = (λ e. let z : ◌≡◌ {A = ℕ} 0 1 = cc in absurd (omega arith), λ e. let z : ◌≡◌ {A = ℕ} 0 1 = cc in absurd (omega arith))
    go (Refused n at) = (λ e. e, λ e. e)

module _ (P : List ℕ) (bp : Bytes P) where
  filled_whole : (whole_plan P).answer ≡ Accepted → (buffer : List ℕ) → length buffer ≡ (length_from P).length
      → (length (filled_from P buffer) ≡ (length_from P).length) × (check_of P (filled_from P buffer) ≡ (length_from P).answer)
  filled_whole e buffer h =
      let w = maker_writes P bp e buffer (omega arith) in
      let n : length w.certificate ≡ (length_from P).length = sym (ap (λ (m : Made). m.length) w.measured) in
      let l : length buffer ≤ length w.certificate = omega arith in
      let none : drop (length w.certificate) buffer ≡ [] = drop_of_length-le buffer l in
      let f : filled_from P buffer ≡ w.certificate = w.begins ∙ ap (λ (l : List ℕ). w.certificate ++ l) none ∙ append-nil w.certificate in
      (ap length f ∙ n, ap (check_of P) f ∙ w.accepted ∙ sym (ap (λ (m : Made). m.answer) w.measured))

  some_length : (whole_plan P).answer ≡ Accepted → 0 < (length_from P).length
  some_length e =
      let l : (length_from P).length ≤ length {A = ℕ} (replicate (length_from P).length 0) = omega (arith, length-replicate {A = ℕ} (length_from P).length 0) in
      let w = maker_writes P bp e (replicate (length_from P).length 0) l in
      let c = makers_counted P _ bp w in
      omega (arith, some_number c.0.certificate, c.1.count, c.1.bytes, ap (λ (m : Made). m.length) w.measured)

  measured : Measured P
  measured = record { room = λ buffer h. (made-room P buffer h).0; too_short = made_none P; faults = length_faults P; some = some_length; exactly = filled_whole }

pub lengths_measured : LengthsMeasured
lengths_measured = measured

pub room-named : RoomNamed
room-named = record { number = refl; enough = length_most }

-- ---- refusals

-- reading a plan never gives 30
not_30 : (P : List ℕ) (q : ℕ) → (whole_plan P).answer ≡ PlanFault 30 q → ⊥
not_30 P q e =
    let h = in_member 30 (listed.reading_answers).plan (subst (λ (a : Answer). OneOf listed.reading_answers (length P) 0 a) e (demand1_answers.reading P)).0 in
    let z : ◌≡◌ {A = ℕ} 0 1 = cc in
    omega arith

module _ (P buffer : List ℕ) where
  -- only an accepted plan has a length
  has-length : 0 < (length_from P).length → (whole_plan P).answer ≡ Accepted
  unfolding length_by plan_read
  has-length = go (ended plan P 0)
    where
      go : (x : Read Plan) → 0 < (length_by (plan_read x).answer (plan_read x).plan.graph).length → (plan_read x).answer ≡ Accepted
      go (Got p next) h = refl
      go (Refused r q) h = absurd (omega arith)

  given_30 : (q : ℕ) → (made_from P buffer).answer ≡ PlanFault 30 q → ((whole_plan P).answer ≡ Accepted) × (length buffer < (length_from P).length) × (q ≡ 0)
  given_30 q e = by_room P buffer
      (λ h.
      let f : PlanFault 30 0 ≡ PlanFault 30 q = ap (λ (m : Made). m.answer) (sym (made_none P buffer h).0) ∙ e in
      (has-length (omega arith), h, cc))
      (λ h. absurd (not_30 P q ((length_faults P 30 q).0 (ap (λ (m : Made). m.answer) (sym (made-room P buffer h).0) ∙ e))))

  -- a plan's fault: no byte is to be written, so every buffer has room
  pub fault_kept : (r q : ℕ) → (whole_plan P).answer ≡ PlanFault r q → (made_from P buffer ≡ made (PlanFault r q) 0) × (filled_from P buffer ≡ buffer)
  unfolding length_by record_by
  fault_kept r q e =
      let l : length_from P ≡ made (PlanFault r q) 0 = ap (λ (a : Answer). length_by a (whole_plan P).plan.graph) e in
      let n : record_from P ≡ [] = ap (λ (a : Answer). record_by a (whole_plan P).plan.graph) e in
      let w = made-room P buffer (omega (arith, ap (λ (m : Made). m.length) l)) in
      (w.0 ∙ l, w.1 ∙ ap (overwritten buffer 0) n ∙ overwritten-none buffer 0)

  kept : (r q : ℕ) → (made_from P buffer).answer ≡ PlanFault r q → (filled_from P buffer ≡ buffer) × ((made_from P buffer).length ≡ 0)
  kept r q e = by_room P buffer
      (λ h. let w = made_none P buffer h in (w.1, ap (λ (m : Made). m.length) w.0))
      (λ h.
      let w = fault_kept r q ((length_faults P r q).0 (ap (λ (m : Made). m.answer) (sym (made-room P buffer h).0) ∙ e)) in
      (w.1, ap (λ (m : Made). m.length) w.0))

pub refused-keeps : RefusedKeeps
refused-keeps P buffer = record {
  kept = kept P buffer;
  fault = λ r q e. ap (λ (m : Made). m.answer) (fault_kept P buffer r q e).0;
  too_short = λ q. (given_30 P buffer q, λ h. ap (λ (m : Made). m.answer) (made_none P buffer h.1).0 ∙ ap (PlanFault 30) (sym h.2));
}

-- ---- what stays

-- beside an accepted plan and a buffer that was long enough
pub stays_on : (P : List ℕ) → Bytes P → (buffer : List ℕ) → (whole_plan P).answer ≡ Accepted → EarlierKept P buffer Accepted (whole_plan P).plan.graph
unfolding length_by record_by
stays_on P bp buffer e n = go (ltb (length buffer) 1536) refl
  where
    g : GraphTable
    g = (whole_plan P).plan.graph

    go : (b : Bool) → ltb (length buffer) 1536 ≡ b → (made_before (made_from P buffer) ≡ earlier_made buffer Accepted g) × (filled_from P buffer ≡ earlier_filled buffer Accepted g)
    go true t = absurd (n 0 (rw t))
    go false t =
        let l : 1536 ≤ length buffer = ltb-false _ _ t in
        let w = made-room P buffer (omega (arith, length_most P bp)) in
        (ap made_before w.0 ∙ rw (t, e), w.1 ∙ rw (t, e))

pub bytes_stay : BytesStay
bytes_stay P bp buffer = subst (λ (x : PlanTold). EarlierKept P buffer x.answer x.plan.graph) (sym (reads_same P)) (go (whole_plan P).answer refl)
  where
    go : (a : Answer) → (whole_plan P).answer ≡ a → EarlierKept P buffer (answer_before a) (whole_plan P).plan.graph
    go Accepted e n = stays_on P bp buffer e n
    go (Grade k) e n = let h = subst (λ (a : Answer). OneOf listed.reading_answers (length P) 0 a) e (demand1_answers.reading P) in absurd h
    go (PlanFault r q) e n = let w = fault_kept P buffer r q e in (ap made_before w.0, w.1)
    go (CertificateFault r q) e n = let h = (subst (λ (a : Answer). OneOf listed.reading_answers (length P) 0 a) e (demand1_answers.reading P)).0 in absurd h
