-- REQUEST 7 of document 02, foreign number writers: which calls give 2 and 33 and where, and that nothing else has changed.
use Rattle.std.specs.Prelude.{ℕ, ◌+◌, ◌-◌, ◌≤◌, ◌<◌, List, [], ◌∷◌, ◌++◌, cond, ◌≡◌, ◌↔◌, eqb, length, get_or, take}
use Rattle.record.specs.Read.{Read, Read.Got, Read.Refused, Bytes}
use Rattle.record.specs.declared.Answer.{Answer}
use Rattle.record.specs.declared.Answer.TheVariants.{Accepted, Grade, PlanFault, CertificateFault}
use Rattle.reading.specs.Plan.{Plan, Allowed, plan_bytes}
use Rattle.reading.specs.Code.{whole_plan, leading_plan, PlanTold}
use Rattle.sessions.specs.Session.{opening, start_step, path_step}
use Rattle.checker.specs.declared.Graded.{Graded}
use Rattle.checker.specs.Check.{check_of, grade_of}
use Rattle.certifier.specs.declared.Made.{Made}
use Rattle.certifier.specs.Made.{made, length_from, made_from, filled_from}
use Rattle.mending.specs.Mend.{Outcome, mend_from}
use Rattle.fikzarn.specs.Words.{plan_rewritten}
use Rattle.claims.specs.Calls.{Call, session_after, Heard, heard}
use Rattle.claims.specs.Earlier as earlier

-- WHERE 2 AND 33 ARE GIVEN. The bytes at p and behind it: a byte that says that another follows, and "a second byte of 0", or "a second byte of 128 or more".
abbrev pub Pads : List ℕ → ℕ → Type 0
Pads s p = (p + 1 < length s) × (128 ≤ get_or s p 0) × (get_or s (p + 1) 0 ≡ 0)

abbrev pub GoesOn : List ℕ → ℕ → Type 0
GoesOn s p = (p + 1 < length s) × (128 ≤ get_or s p 0) × (128 ≤ get_or s (p + 1) 0)

-- A call that is handed the record s reads a number at p: handed the first p bytes alone it says that "The record ends inside a number or before one that is due", and they do
-- not end inside one, whose byte would be 128 or more. The fault is the plan's or the certificate's.
pub record ReadsAt (call : List ℕ → Answer) (fault : ℕ → ℕ → Answer) (s : List ℕ) (p : ℕ) : Type 0 where
  pub due : call (take p s) ≡ fault 1 p
  pub begins : 0 < p → get_or s (p - 1) 0 < 128

-- "Number 2 stays with a second byte of 0, and number 33 takes a second byte of 128 or more, in the same turn and at the same place.": the call answers 2 or 33 at p exactly
-- where it reads a number at p that is padded, or that goes on after its second byte.
pub record TellsApart (call : List ℕ → Answer) (fault : ℕ → ℕ → Answer) : Type 0 where
  pub padded : (s : List ℕ) (p : ℕ) → (call s ≡ fault 2 p) ↔ (ReadsAt call fault s p × Pads s p)
  pub too_long : (s : List ℕ) (p : ℕ) → (call s ≡ fault 33 p) ↔ (ReadsAt call fault s p × GoesOn s p)

-- "Everything that reads numbers passes the difference on, sessions included.": reading a plan, whole or with bytes behind it; the checker, for the plan and for certificates of every kind; the checking program, for the
-- plan at the front of its input and for what comes behind it; the maker, with a buffer or asked for the length alone; mending; opening; a start and a path, after any list of session calls.
pub record NumbersTold : Type 0 where
  pub reading : TellsApart (λ P. (whole_plan P).answer) PlanFault
  pub leading : TellsApart (λ s. (leading_plan s).answer) PlanFault
  pub plan-checked : (C : List ℕ) → TellsApart (λ P. check_of P C) PlanFault
  pub certificate-checked : (P : List ℕ) → TellsApart (λ C. check_of P C) CertificateFault
  pub plan-leading : TellsApart (λ s. (grade_of s).answer) PlanFault
  pub certificate-behind : (p : Plan) → Allowed p → TellsApart (λ C. (grade_of (plan_bytes p ++ C)).answer) CertificateFault
  pub making : (buffer : List ℕ) → TellsApart (λ P. (made_from P buffer).answer) PlanFault
  pub measuring : TellsApart (λ P. (length_from P).answer) PlanFault
  pub mending : (list mended certificate : List ℕ) → TellsApart (λ P. (mend_from P list mended certificate).answer.answer) PlanFault
  pub plan-opened : TellsApart (λ P. (opening P).answer) PlanFault
  pub starting : (P : List ℕ) → Bytes P → (calls : List Call) → TellsApart (λ part. (start_step (session_after (opening P).session calls) part).answer) CertificateFault
  pub pathing : (P : List ℕ) → Bytes P → (calls : List Call) → TellsApart (λ part. (path_step (session_after (opening P).session calls) part).answer) CertificateFault

-- NOTHING ELSE CHANGES. A number of a refusal, an answer, and what holds one, as edition 6 (specs/Earlier) gave it: 33 was 2, and all the rest is the same.
abbrev pub number_before : ℕ → ℕ
number_before r = cond (eqb r 33) 2 r

abbrev pub answer_before : Answer → Answer
answer_before Accepted = Accepted
answer_before (Grade k) = Grade k
answer_before (PlanFault r p) = PlanFault (number_before r) p
answer_before (CertificateFault r p) = CertificateFault (number_before r) p

abbrev pub read_before : {A : Type 0} → Read A → Read A
read_before (Got v next) = Got v next
read_before (Refused r p) = Refused (number_before r) p

abbrev pub plan_before : PlanTold → PlanTold
plan_before r = record { answer = answer_before r.answer; plan = r.plan; next = r.next }

abbrev pub graded_before : Graded → Graded
graded_before x = record { answer = answer_before x.answer; n = x.n; m = x.m }

abbrev pub made_before : Made → Made
made_before x = made (answer_before x.answer) x.length

abbrev pub outcome_before : Outcome → Outcome
outcome_before x = record {
  answer = record { answer = answer_before x.answer.answer; list = x.answer.list; mended = x.answer.mended; certificate = x.answer.certificate };
  list = x.list;
  mended = x.mended;
  certificate = x.certificate;
}

abbrev pub heard_before : List Heard → List Heard
heard_before [] = []
heard_before (h ∷ hs) = record { answer = answer_before h.answer; unread = h.unread } ∷ heard_before hs

-- Edition 6's session on a plan record and a list of calls.
pub record SessionBefore (P : List ℕ) (calls : List Call) : Type 0 where
  pub opens : (earlier.open_call P).answer ≡ answer_before (opening P).answer
  pub answers : earlier.heard_on (earlier.open_call P).state calls ≡ heard_before (heard (opening P).session calls)

-- Every call answered, told, wrote and left unread what it does now, but that it said 2 where it says 33 now. So an answer that is not 33 is the same as before.
pub record OthersSame : Type 0 where
  pub reads : (P : List ℕ) → earlier.whole_plan P ≡ plan_before (whole_plan P)
  pub leads : (s : List ℕ) → earlier.leading_plan s ≡ plan_before (leading_plan s)
  pub rewrites : (P buffer : List ℕ) → earlier.plan_rewritten P buffer ≡ plan_rewritten P buffer
  pub checks : (P C : List ℕ) → earlier.check_of P C ≡ answer_before (check_of P C)
  pub grades : (s : List ℕ) → earlier.grade_of s ≡ graded_before (grade_of s)
  pub makes : (P buffer : List ℕ) → earlier.made_from P buffer ≡ made_before (made_from P buffer)
  pub fills : (P buffer : List ℕ) → earlier.filled_from P buffer ≡ filled_from P buffer
  pub measures : (P : List ℕ) → earlier.length_from P ≡ made_before (length_from P)
  pub mends : (P list mended certificate : List ℕ) → earlier.mend_from P list mended certificate ≡ outcome_before (mend_from P list mended certificate)
  pub sessions : (P : List ℕ) → Bytes P → (calls : List Call) → SessionBefore P calls
  pub unless_33 : (a : Answer) → ((p : ℕ) → ¬ (a ≡ PlanFault 33 p)) → ((p : ℕ) → ¬ (a ≡ CertificateFault 33 p)) → answer_before a ≡ a

-- So a record in which the call reads no number that goes on after its second byte gets the same answer as before. (Of a start and a path `OthersSame` says it by the answer: where it is not 33.)
abbrev pub Without : (List ℕ → Answer) → (ℕ → ℕ → Answer) → List ℕ → Type 0
Without call fault s = (p : ℕ) → ¬ (ReadsAt call fault s p × GoesOn s p)

pub record SameWithout : Type 0 where
  pub reads : (P : List ℕ) → Without (λ P. (whole_plan P).answer) PlanFault P → earlier.whole_plan P ≡ whole_plan P
  pub checks : (P C : List ℕ) → Without (λ P. check_of P C) PlanFault P → Without (λ C. check_of P C) CertificateFault C → earlier.check_of P C ≡ check_of P C
  pub grades : (p : Plan) → Allowed p → (C : List ℕ) → Without (λ C. (grade_of (plan_bytes p ++ C)).answer) CertificateFault C → earlier.grade_of (plan_bytes p ++ C) ≡ grade_of (plan_bytes p ++ C)
  pub makes : (P : List ℕ) → Bytes P → (buffer : List ℕ) → Without (λ P. (made_from P buffer).answer) PlanFault P → earlier.made_from P buffer ≡ made_from P buffer
  pub measures : (P : List ℕ) → Bytes P → Without (λ P. (length_from P).answer) PlanFault P → earlier.length_from P ≡ length_from P
  pub mends : (P list mended certificate : List ℕ) → Without (λ P. (mend_from P list mended certificate).answer.answer) PlanFault P → earlier.mend_from P list mended certificate ≡ mend_from P list mended certificate
  pub opens : (P : List ℕ) → Bytes P → Without (λ P. (opening P).answer) PlanFault P → (earlier.open_call P).answer ≡ (opening P).answer
