-- REQUEST 7: every call answers 2 or 33 at p exactly where it reads a number at p that is padded, or that goes on after its second byte. Assumes nothing.
use Prim.Native.Nat.{ℕ, zero, suc, ◌+◌, ◌<◌, ◌≤◌}
use mathlib.Core.List.{List, [], ◌++◌}
use mathlib.Core.Bool.{Bool, true, false, cond}
use mathlib.Core.Path.{◌≡◌, refl, sym, ap, ◌∙◌, subst, fun_ext}
use mathlib.Core.Logic.{◌⊎◌, inl, inr, ◌↔◌, ◌≢◌}
use native.Mathlib.Omega.{arith}
use lib.ListN.{length, get_or, take, drop}
use lib.Dec.{ltb}
use Rattle.record.specs.Read.{Read, Read.Got, Read.Refused, Reader, Bytes, on_read, ended}
use Rattle.record.specs.Number.{number, number_at, as_read}
use Rattle.record.specs.declared.Answer.{Answer}
use Rattle.record.specs.declared.Answer.TheVariants.{Accepted, PlanFault, CertificateFault}
use Rattle.connectivity.specs.Certificate.{Certificate}
use Rattle.connectivity.specs.Lists.{In}
use Rattle.graph.specs.Limits.{max_edges}
use Rattle.reading.specs.Plan.{Plan, Allowed, plan, plan_bytes}
use Rattle.reading.specs.Code.{graph_of, plan_read, whole_plan, PlanTold}
use Rattle.reading.proofs.Plans.{accepts}
use Rattle.certificates.specs.Records.{start as readStart, further_path, certificate as readCertificate}
use Rattle.sessions.specs.declared.Opened.{Opened}
use Rattle.sessions.specs.Session.{opening, on_opening, no_session, opened_on, start_step, path_step}
use Rattle.checker.specs.Check.{plan_graph, on_certificate, certificate_answer, on_plan, check_of, on_leading, grade_of}
use Rattle.checker.specs.declared.Graded.{Graded}
use Rattle.certifier.specs.declared.Made.{Made}
use Rattle.certifier.specs.Made.{made, length_from, made_from}
use Rattle.certifier.proofs.Room.{made-room, made_none, by_room}
use Rattle.mending.specs.Mend.{list_of, refusal, mend_records, records_of, records_read, records_from, Outcome, mend_from}
use Rattle.mending.proofs.Fits.{mend_either}
use Rattle.claims.specs.Session as of
use Rattle.claims.specs.Session.{State, State.never, State.waiting, State.building, due}
use Rattle.claims.specs.Calls.{Call, Call.start, Call.path, session_after}
use Rattle.claims.specs.Back.{state_after}
use Rattle.claims.specs.Answers as listed
use Rattle.claims.specs.Answers.{OneOf}
use Rattle.claims.specs.Numbers.{Pads, GoesOn, ReadsAt, TellsApart, NumbersTold, Without, SameWithout}
use Rattle.claims.proofs.Groups.{Runs, padded-there, padded-back, too_long-there, too_long-back}
use Rattle.claims.proofs.Turns.{OfNumber, Turn, got_refused, refused-number, read_padded, read_overlong}
use Rattle.claims.proofs.Readers.{plan-turns, certificate-turns, start-turns, further_turns}
use Rattle.claims.proofs.Demand1.{At, agree, at_after, opens_at}
use Rattle.claims.proofs.Answers.{demand1_answers}
use Rattle.claims.proofs.Demands.{plan-faults_first}
use Rattle.claims.proofs.Kept.{reads_same, checks_same, grades_same, makes_same, measures_same, mends_same, sessions_same, unless_33}
use Rattle.claims.proofs.Lengths.{length_faults, refused-keeps}
use Rattle.claims.proofs.Mending.{refused-mends}
use Rattle.claims.proofs.MendWords.{mend_answers}
use Rattle.claims.proofs.Printed.{program_checks}

-- ---- the number at p

-- 2 is given for a padded number, 33 for one that goes on after its second byte
number-pads : (s : List ℕ) (p : ℕ) → (number s p ≡ Refused 2 p) ↔ Pads s p
unfolding number
number-pads s p = (λ e. there (padded-there 1 p s p (read_padded (number_at s p) e)), λ x. ap as_read (padded-back 1 p s 0 (omega arith) (one x, x.0, x.2)))
  where
    there : (j : ℕ) × (j < 1) × ((Runs (suc j) s p) × (p + suc j < length s) × (get_or s (p + suc j) 0 ≡ 0)) → Pads s p
    there (zero, h, (r, i, b)) =
        let a : (p + 0 < length s) × (128 ≤ get_or s (p + 0) 0) = r 0 (omega arith) in
        let z : p + 0 ≡ p = omega arith in
        (i, rw z at a.1, b)
    there (suc j, h, x) = absurd (omega arith)

    one : Pads s p → Runs 1 s p
    one x zero h = let i = x.0 in let z : p + 0 ≡ p = omega arith in rw z (let y : p < length s = omega arith in y, x.1)
    one x (suc i) h = absurd (omega arith)

number-goes_on : (s : List ℕ) (p : ℕ) → (number s p ≡ Refused 33 p) ↔ GoesOn s p
unfolding number
number-goes_on s p = (
  λ e.
      let r = too_long-there 1 p s p (read_overlong (number_at s p) e) in
      let a : (p + 0 < length s) × (128 ≤ get_or s (p + 0) 0) = r 0 (omega arith) in
      let b : (p + 1 < length s) × (128 ≤ get_or s (p + 1) 0) = r 1 (omega arith) in
      let z : p + 0 ≡ p = omega arith in
      (b.0, rw z at a.1, b.1),
  λ x. ap as_read (too_long-back 1 p s (two x)),
)
  where
    two : GoesOn s p → (i : ℕ) → i < 2 → (p + i < length s) × (128 ≤ get_or s (p + i) 0)
    two x zero h = let i = x.0 in let z : p + 0 ≡ p = omega arith in rw z (let y : p < length s = omega arith in y, x.1)
    two x (suc zero) h = (x.0, x.2)
    two x (suc (suc i)) h = absurd (omega arith)

-- ---- a call that reads by F, from the record's start

-- the numbers by which a number is refused
abbrev Numbered : ℕ → Type 0
Numbered r = (r ≡ 1) ⊎ OfNumber r

-- it passes the faults of numbers on, and gives these numbers for nothing else
abbrev Passes : {A : Type 0} → (List ℕ → Answer) → (ℕ → ℕ → Answer) → (List ℕ → Read A) → Type 0
Passes call fault F = (s : List ℕ) (r p : ℕ) → Numbered r → (call s ≡ fault r p) ↔ (F s ≡ Refused r p)

module _ {A : Type 0} {F₀ F : List ℕ → Read A} (h : Turn 0 F₀ F) {call : List ℕ → Answer} {fault : ℕ → ℕ → Answer} (k : Passes call fault F) where
  told : (s : List ℕ) (p r : ℕ) → OfNumber r → call s ≡ fault r p → ReadsAt call fault s p × (number s p ≡ Refused r p)
  told s p r o e =
      let f = h.fault s r p o ((k s r p (inr o)).0 e) in
      (record { due = (k (take p s) 1 p (inl refl)).1 f.1; begins = f.2.ends }, f.0)

  tells_back : (s : List ℕ) (p r : ℕ) → OfNumber r → p ≤ length s → ReadsAt call fault s p → number s p ≡ Refused r p → call s ≡ fault r p
  tells_back s p r o i x f = (k s r p (inr o)).1 (h.due s p ((k (take p s) 1 p (inl refl)).0 x.due) (omega arith) i x.begins f)

  tells : TellsApart call fault
  tells = record {
    padded = λ s p. (λ e. let t = told s p 2 (inl refl) e in (t.0, (number-pads s p).0 t.1), λ x. let y = x.1 in let i = y.0 in tells_back s p 2 (inl refl) (omega arith) x.0 ((number-pads s p).1 y));
    too_long = λ s p. (λ e. let t = told s p 33 (inr refl) e in (t.0, (number-goes_on s p).0 t.1), λ x. let y = x.1 in let i = y.0 in tells_back s p 33 (inr refl) (omega arith) x.0 ((number-goes_on s p).1 y));
  }

-- a call that never gives such a fault
silent : {call : List ℕ → Answer} {fault : ℕ → ℕ → Answer} → ((s : List ℕ) (r p : ℕ) → Numbered r → call s ≡ fault r p → ⊥) → TellsApart call fault
silent n = record {
  padded = λ s p. (λ e. absurd (n s 2 p (inr (inl refl)) e), λ x. absurd (n (take p s) 1 p (inl refl) x.0.due));
  too_long = λ s p. (λ e. absurd (n s 33 p (inr (inr refl)) e), λ x. absurd (n (take p s) 1 p (inl refl) x.0.due));
}

-- any other number is none of these
other : (n r : ℕ) → n ≢ 1 → n ≢ 2 → n ≢ 33 → Numbered r → n ≡ r → ⊥
other n r a b c (inl e) f = a (f ∙ e)
other n r a b c (inr (inl e)) f = b (f ∙ e)
other n r a b c (inr (inr e)) f = c (f ∙ e)

-- a whole record
ended-passes : {A : Type 0} (R : Reader A) (s : List ℕ) (r p : ℕ) → Numbered r → (ended R s 0 ≡ Refused r p) ↔ (R s 0 ≡ Refused r p)
unfolding ended
ended-passes {A} R s r p o = go (R s 0)
  where
    test : (v : A) (next : ℕ) (b : Bool) → cond b (Refused 7 next) (Got v next) ≡ Refused r p → ⊥
    test v next true e = other 7 r (λ z. omega arith) (λ z. omega arith) (λ z. omega arith) o (refused-number e).0
    test v next false e = got_refused e

    go : (x : Read A) → (on_read x (λ v next. cond (ltb next (length s)) (Refused 7 next) (Got v next)) ≡ Refused r p) ↔ (x ≡ Refused r p)
    go (Got v next) = (λ e. absurd (test v next (ltb next (length s)) e), λ e. absurd (got_refused e))
    go (Refused q t) = (λ e. e, λ e. e)

-- an answer by cases of what was read
abbrev Apart : (ℕ → ℕ → Answer) → Type 0
Apart fault = (r p q t : ℕ) → fault r p ≡ fault q t → (r ≡ q) × (p ≡ t)

plan-apart : Apart PlanFault
plan-apart r p q t e = (cc, cc)

certificate-apart : Apart CertificateFault
certificate-apart r p q t e = (cc, cc)

by_cases : {A : Type 0} {fault : ℕ → ℕ → Answer} → Apart fault → (on : Read A → Answer) → ((r p : ℕ) → on (Refused r p) ≡ fault r p) → (r p : ℕ)
    → ((v : A) (next : ℕ) → on (Got v next) ≡ fault r p → ⊥) → (x : Read A) → (on x ≡ fault r p) ↔ (x ≡ Refused r p)
by_cases apart on same r p h (Got v next) = (λ e. absurd (h v next e), λ e. absurd (got_refused e))
by_cases {A} {fault} apart on same r p h (Refused q t) = (
  λ e. let z = apart q t r p (sym (same q t) ∙ e) in (λ i. Refused (z.0 i) (z.1 i)),
  λ e. let z = refused-number e in same q t ∙ (λ i. fault (z.0 i) (z.1 i)),
)

chain : {X Y Z : Type 0} → X ↔ Y → Y ↔ Z → X ↔ Z
chain a b = (λ x. b.0 (a.0 x), λ z. a.1 (b.1 z))

-- a call that reads a whole plan, and whose answer is a function of what was read
plan-tells : {call : List ℕ → Answer} → ((P : List ℕ) (r p : ℕ) → Numbered r → (call P ≡ PlanFault r p) ↔ (ended plan P 0 ≡ Refused r p)) → TellsApart call PlanFault
plan-tells k = tells (plan-turns 0) (λ P r p o. chain (k P r p o) (ended-passes plan P r p o))

-- ---- the plan

reading_is : (P : List ℕ) (r p : ℕ) → ((whole_plan P).answer ≡ PlanFault r p) ↔ (ended plan P 0 ≡ Refused r p)
unfolding plan_read
reading_is P r p = by_cases plan-apart (λ x. (plan_read x).answer) (λ r p. refl) r p (λ v next e. let z : ◌≡◌ {A = ℕ} 0 1 = cc in omega arith) (ended plan P 0)

-- a certificate's answer is no plan's fault
no_plan-fault : (p : Plan) (C : List ℕ) (r q : ℕ) → certificate_answer p C ≡ PlanFault r q → ⊥
unfolding certificate_answer
no_plan-fault p C r q = go (ended (readCertificate (plan_graph p)) C 0)
  where
    go : (x : Read Certificate) → on_certificate x ≡ PlanFault r q → ⊥
    go (Got c next) e = let z : ◌≡◌ {A = ℕ} 0 1 = cc in omega arith
    go (Refused n t) e = let z : ◌≡◌ {A = ℕ} 0 1 = cc in omega arith

checked_is : (C P : List ℕ) (r p : ℕ) → (check_of P C ≡ PlanFault r p) ↔ (ended plan P 0 ≡ Refused r p)
unfolding check_of
checked_is C P r p = by_cases plan-apart (λ x. on_plan x C) (λ r p. refl) r p (λ v next e. no_plan-fault v C r p e) (ended plan P 0)

leading_is : (s : List ℕ) (r p : ℕ) → ((grade_of s).answer ≡ PlanFault r p) ↔ (plan s 0 ≡ Refused r p)
unfolding grade_of
leading_is s r p = by_cases plan-apart (λ x. (on_leading x s).answer) (λ r p. refl) r p (λ v next e. no_plan-fault v (drop next s) r p e) (plan s 0)

making_is : (buffer P : List ℕ) (r p : ℕ) → Numbered r → ((made_from P buffer).answer ≡ PlanFault r p) ↔ ((whole_plan P).answer ≡ PlanFault r p)
making_is buffer P r p o = (
  λ e. by_room P buffer
      (λ h.
      let f = ap (λ (m : Made). m.answer) (sym (made_none P buffer h).0) ∙ e in
      absurd (other 30 r (λ z. omega arith) (λ z. omega arith) (λ z. omega arith) o (plan-apart 30 0 r p f).0))
      (λ h. (length_faults P r p).0 (ap (λ (m : Made). m.answer) (sym (made-room P buffer h).0) ∙ e)),
  λ e. (refused-keeps P buffer).fault r p e,
)

opening-is : (P : List ℕ) (r p : ℕ) → Numbered r → ((opening P).answer ≡ PlanFault r p) ↔ (ended plan P 0 ≡ Refused r p)
unfolding opening
opening-is P r p o = by_cases plan-apart (λ x. (on_opening x).answer) (λ r p. refl) r p (λ v next. test v (ltb (graph_of v).d (v.n + 2))) (ended plan P 0)
  where
    test : (v : Plan) (b : Bool) → (cond {A = Opened} b (record { answer = PlanFault 29 0; session = no_session }) (record { answer = Accepted; session = opened_on (graph_of v) })).answer ≡ PlanFault r p → ⊥
    test v true e = other 29 r (λ z. omega arith) (λ z. omega arith) (λ z. omega arith) o (plan-apart 29 0 r p e).0
    test v false e = let z : ◌≡◌ {A = ℕ} 0 1 = cc in omega arith

-- 32 and 30 are no such numbers
records_is : (P : List ℕ) (r p : ℕ) → Numbered r → (records_from P).answer ≡ PlanFault r p → ended plan P 0 ≡ Refused r p
unfolding records_read records_of
records_is P r p o = (by_cases plan-apart (λ x. (records_read x).answer) (λ r p. refl) r p (λ v next. test v (ltb max_edges (length v.edges + length (list_of v)))) (ended plan P 0)).0
  where
    test : (v : Plan) (b : Bool) → (cond b (refusal 32 0) (mend_records v)).answer ≡ PlanFault r p → ⊥
    test v true e = other 32 r (λ z. omega arith) (λ z. omega arith) (λ z. omega arith) o (plan-apart 32 0 r p e).0
    test v false e = let z : ◌≡◌ {A = ℕ} 0 1 = cc in omega arith

mending_is : (list mended certificate P : List ℕ) (r p : ℕ) → Numbered r → ((mend_from P list mended certificate).answer.answer ≡ PlanFault r p) ↔ (ended plan P 0 ≡ Refused r p)
mending_is list mended certificate P r p o = (
  mend_either P list mended certificate (λ x. x.answer.answer ≡ PlanFault r p → ended plan P 0 ≡ Refused r p)
      (λ e. absurd (other 30 r (λ z. omega arith) (λ z. omega arith) (λ z. omega arith) o (plan-apart 30 0 r p e).0))
      (records_is P r p o),
  λ e. (refused-mends P list mended certificate).fault r p ((reading_is P r p).1 e),
)

-- ---- the certificate

certificate-tells : (p : Plan) → TellsApart (λ C. certificate_answer p C) CertificateFault
unfolding certificate_answer
certificate-tells p = tells (certificate-turns (plan_graph p) 0) (λ C r q o.
    chain (by_cases certificate-apart on_certificate (λ r q. refl) r q (λ c next e. let z : ◌≡◌ {A = ℕ} 0 1 = cc in omega arith) (ended (readCertificate (plan_graph p)) C 0))
    (ended-passes (readCertificate (plan_graph p)) C r q o))

checker_tells : (P : List ℕ) → TellsApart (λ C. check_of P C) CertificateFault
unfolding check_of
checker_tells P = go (ended plan P 0)
  where
    go : (x : Read Plan) → TellsApart (λ C. on_plan x C) CertificateFault
    go (Got p next) = certificate-tells p
    go (Refused r q) = silent (λ s n t o e. let z : ◌≡◌ {A = ℕ} 0 1 = cc in omega arith)

behind_tells : (p : Plan) → Allowed p → TellsApart (λ C. (grade_of (plan_bytes p ++ C)).answer) CertificateFault
behind_tells p a = subst (λ (call : List ℕ → Answer). TellsApart call CertificateFault) (fun_ext (λ C. sym (ap (λ (x : Graded). x.answer) (program_checks p a C)))) (checker_tells (plan_bytes p))

-- ---- the session, by the documents' one

start-tells : (z : State) → TellsApart (λ part. (of.start_call z part).answer) CertificateFault
start-tells never = silent (λ s n t o e. other 31 n (λ z. omega arith) (λ z. omega arith) (λ z. omega arith) o (certificate-apart 31 0 n t e).0)
start-tells (waiting p) = tells (start-turns (plan_graph p) 0) (λ part r q o.
    by_cases certificate-apart (λ x. (of.on_start_read p part x).answer) (λ r q. refl) r q (λ x next e. let z : ◌≡◌ {A = ℕ} 0 1 = cc in omega arith) (readStart (plan_graph p) part 0))
start-tells (building p links earlier) = silent (λ s n t o e. other 31 n (λ z. omega arith) (λ z. omega arith) (λ z. omega arith) o (certificate-apart 31 0 n t e).0)

path-tells : (z : State) → TellsApart (λ part. (of.path_call z part).answer) CertificateFault
path-tells never = silent (λ s n t o e. other 31 n (λ z. omega arith) (λ z. omega arith) (λ z. omega arith) o (certificate-apart 31 0 n t e).0)
path-tells (waiting p) = silent (λ s n t o e. other 31 n (λ z. omega arith) (λ z. omega arith) (λ z. omega arith) o (certificate-apart 31 0 n t e).0)
path-tells (building p links earlier) = go (ltb (length earlier) (due p))
  where
    go : (b : Bool) → TellsApart (λ part. (cond b (of.on_path_read p links earlier part (further_path (plan_graph p) links part 0)) (of.refuses (building p links earlier) part 31 0)).answer) CertificateFault
    go true = tells (further_turns (plan_graph p) links 0) (λ part r q o.
        by_cases certificate-apart (λ x. (of.on_path_read p links earlier part x).answer) (λ r q. refl) r q (λ x next e. let z : ◌≡◌ {A = ℕ} 0 1 = cc in omega arith) (further_path (plan_graph p) links part 0))
    go false = silent (λ s n t o e. other 31 n (λ z. omega arith) (λ z. omega arith) (λ z. omega arith) o (certificate-apart 31 0 n t e).0)

module _ (P : List ℕ) (bytes : Bytes P) (calls : List Call) where
  abbrev state : State
  state = state_after (of.open_call P).state calls

  there : At (session_after (opening P).session calls) state
  there = at_after calls (opening P).session (of.open_call P).state (opens_at P bytes).state

  starts_told : TellsApart (λ part. (start_step (session_after (opening P).session calls) part).answer) CertificateFault
  starts_told = subst (λ (call : List ℕ → Answer). TellsApart call CertificateFault) (fun_ext (λ part. sym (agree _ state there (start part)).answer)) (start-tells state)

  paths_told : TellsApart (λ part. (path_step (session_after (opening P).session calls) part).answer) CertificateFault
  paths_told = subst (λ (call : List ℕ → Answer). TellsApart call CertificateFault) (fun_ext (λ part. sym (agree _ state there (path part)).answer)) (path-tells state)

-- EVERY CALL THAT READS NUMBERS TELLS THE TWO APART
pub numbers_told : NumbersTold
unfolding plan_read
numbers_told = record {
  reading = plan-tells (λ P r p o. reading_is P r p);
  leading = tells (plan-turns 0) (λ s r p o. by_cases plan-apart (λ x. (plan_read x).answer) (λ r p. refl) r p (λ v next e. let z : ◌≡◌ {A = ℕ} 0 1 = cc in omega arith) (plan s 0));
  plan-checked = λ C. plan-tells (λ P r p o. checked_is C P r p);
  certificate-checked = checker_tells;
  plan-leading = tells (plan-turns 0) (λ s r p o. leading_is s r p);
  certificate-behind = behind_tells;
  making = λ buffer. plan-tells (λ P r p o. chain (making_is buffer P r p o) (reading_is P r p));
  measuring = plan-tells (λ P r p o. chain (length_faults P r p) (reading_is P r p));
  mending = λ list mended certificate. plan-tells (mending_is list mended certificate);
  plan-opened = plan-tells opening-is;
  starting = starts_told;
  pathing = paths_told;
}

-- ---- records without such a number

without-33 : {call : List ℕ → Answer} {fault : ℕ → ℕ → Answer} → TellsApart call fault → (s : List ℕ) → Without call fault s → (p : ℕ) → ¬ (call s ≡ fault 33 p)
without-33 t s w p e = w p ((t.too_long s p).0 e)

-- an answer to a call that has no certificate
plan-alone : (l : listed.Answers) (m : ℕ) (a : Answer) → l.certificate ≡ [] → OneOf l m 0 a → (p : ℕ) → ¬ (a ≡ CertificateFault 33 p)
plan-alone l m a n h p e = subst (λ (ns : List ℕ). In 33 ns) n (subst (λ (x : Answer). OneOf l m 0 x) e h).0

behind_33 : (p : Plan) → Allowed p → (C : List ℕ) (q : ℕ) → ¬ ((grade_of (plan_bytes p ++ C)).answer ≡ PlanFault 33 q)
behind_33 p a C q e =
    let f = (plan-faults_first (plan_bytes p) C 33 q).0 (sym (ap (λ (x : Graded). x.answer) (program_checks p a C)) ∙ e) in
    let g : (whole_plan (plan_bytes p)).answer ≡ Accepted = ap (λ (x : PlanTold). x.answer) (accepts p a) in
    let z : ◌≡◌ {A = ℕ} 0 1 = cc in
    omega arith

pub same_without : SameWithout
same_without = record {
  reads = λ P w.
      reads_same P ∙ ap (λ (a : Answer). record { answer = a; plan = (whole_plan P).plan; next = (whole_plan P).next })
      (unless_33 (whole_plan P).answer (without-33 numbers_told.reading P w) (plan-alone listed.reading_answers (length P) (whole_plan P).answer refl (demand1_answers.reading P)));
  checks = λ P C v w. checks_same P C ∙ unless_33 (check_of P C) (without-33 (numbers_told.plan-checked C) P v) (without-33 (numbers_told.certificate-checked P) C w);
  grades = λ p a C w.
      let s = plan_bytes p ++ C in
      grades_same s ∙ ap (λ (x : Answer). record { answer = x; n = (grade_of s).n; m = (grade_of s).m })
      (unless_33 (grade_of s).answer (behind_33 p a C) (without-33 (numbers_told.certificate-behind p a) C w));
  makes = λ P b buffer w.
      makes_same P buffer ∙ ap (λ (a : Answer). made a (made_from P buffer).length)
      (unless_33 (made_from P buffer).answer (without-33 (numbers_told.making buffer) P w) (plan-alone listed.making_answers (length P) (made_from P buffer).answer refl (demand1_answers.making P b buffer)));
  measures = λ P b w.
      measures_same P ∙ ap (λ (a : Answer). made a (length_from P).length)
      (unless_33 (length_from P).answer (without-33 numbers_told.measuring P w) (plan-alone listed.measuring_answers (length P) (length_from P).answer refl (demand1_answers.measuring P b)));
  mends = λ P list mended certificate w.
      let o = mend_from P list mended certificate in
      mends_same list mended certificate P ∙ ap (told_with o)
      (unless_33 o.answer.answer (without-33 (numbers_told.mending list mended certificate) P w)
      (plan-alone listed.mending_answers (length P) o.answer.answer refl (mend_answers P list mended certificate)));
  opens = λ P b w.
      (sessions_same P b []).opens
      ∙ unless_33 (opening P).answer (without-33 numbers_told.plan-opened P w) (plan-alone listed.opening_answers (length P) (opening P).answer refl (demand1_answers.opening P));
}
  where
    told_with : Outcome → Answer → Outcome
    told_with o a = record {
      answer = record { answer = a; list = o.answer.list; mended = o.answer.mended; certificate = o.answer.certificate };
      list = o.list;
      mended = o.mended;
      certificate = o.certificate;
    }
