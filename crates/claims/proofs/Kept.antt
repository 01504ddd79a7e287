-- REQUEST 7: every call answered, wrote and left unread before what it does now, but that it said 2 where it says 33 now. Assumes nothing.
use Prim.Native.Nat.{ℕ, ◌+◌}
use mathlib.Core.List.{List, [], ◌∷◌}
use mathlib.Core.Bool.{Bool, true, false, cond}
use mathlib.Core.Path.{◌≡◌, refl, sym, ap, ◌∙◌}
use mathlib.Core.Logic.{◌≢◌}
use lib.Dec.{ltb, eqb}
use lib.ListN.{length, drop}
use borrow.Author.Tests.{ne_eqb}
use Rattle.record.specs.Read.{Read, Read.Got, Read.Refused, Reader, Bytes, on_read, ended}
use Rattle.record.specs.declared.Answer.{Answer}
use Rattle.record.specs.declared.Answer.TheVariants.{Accepted, Grade, PlanFault, CertificateFault}
use Rattle.connectivity.specs.Certificate.{Certificate}
use Rattle.connectivity.specs.Path.{Path}
use Rattle.graph.specs.Limits.{max_edges}
use Rattle.graph.specs.declared.GraphTable.{GraphTable}
use Rattle.reading.specs.Plan.{Plan, plan, plan_bytes}
use Rattle.reading.specs.Code.{plan_read, whole_plan, leading_plan, PlanTold}
use Rattle.certificates.specs.Tests.{all_below, is_branch}
use Rattle.certificates.specs.Records.{start as readStart, further_path, certificate}
use Rattle.checker.specs.Check.{plan_graph, on_certificate, certificate_answer, on_plan, check_of, on_leading, grade_of}
use Rattle.certifier.specs.declared.Made.{Made}
use Rattle.certifier.specs.Made.{made, length_by, length_from, record_by, record_from, fitted, made_from, filled_by, filled_from}
use Rattle.mending.specs.Mend.{list_of, list_plan, mended_plan, Records, refusal, mend_records, records_of, records_read, records_from, Outcome, have_room, wrote, too_short_outcome, mend_from}
use Rattle.writing.specs.Write.{with_plan}
use Rattle.fikzarn.specs.Words.{rewritten, plan_rewritten}
use Rattle.claims.specs.Session as of
use Rattle.claims.specs.Session.{State, State.never, State.waiting, State.building, Gives, pair_count, due}
use Rattle.claims.specs.Calls.{Call, Call.start, Call.path, Call.back, Call.close, Heard, called_on, heard_on}
use Rattle.claims.specs.Earlier as earlier
use Rattle.claims.specs.Numbers.{answer_before, read_before, plan_before, graded_before, made_before, outcome_before, heard_before, SessionBefore, OthersSame}
use Rattle.claims.proofs.Turns.{Turns}
use Rattle.claims.proofs.Readers.{plan-turns, certificate-turns, start-turns, further_turns}
use Rattle.claims.proofs.Demand1.{demand1_sessions}

-- ---- whole records

ended_same : {A : Type 0} {R₀ R : Reader A} → Turns R₀ R → (s : List ℕ) → ended R₀ s 0 ≡ read_before (ended R s 0)
unfolding ended
ended_same {A} {R₀} {R} h s = ap (λ (x : Read A). on_read x (λ v next. cond (ltb next (length s)) (Refused 7 next) (Got v next))) ((h 0).same s) ∙ go (R s 0)
  where
    test : (v : A) (next : ℕ) (b : Bool) → cond b (Refused 7 next) (Got v next) ≡ read_before (cond b (Refused 7 next) (Got v next))
    test v next true = refl
    test v next false = refl

    go : (x : Read A) → on_read (read_before x) (λ v next. cond (ltb next (length s)) (Refused 7 next) (Got v next)) ≡ read_before (on_read x (λ v next. cond (ltb next (length s)) (Refused 7 next) (Got v next)))
    go (Got v next) = test v next (ltb next (length s))
    go (Refused r p) = refl

pub plan-same : (s : List ℕ) → earlier.plan s 0 ≡ read_before (plan s 0)
plan-same s = (plan-turns 0).same s

pub whole_same : (P : List ℕ) → ended earlier.plan P 0 ≡ read_before (ended plan P 0)
whole_same P = ended_same plan-turns P

pub reads_same : (P : List ℕ) → earlier.whole_plan P ≡ plan_before (whole_plan P)
unfolding plan_read
reads_same P = ap (λ (x : Read Plan). plan_read x) (whole_same P) ∙ go (ended plan P 0)
  where
    go : (x : Read Plan) → plan_read (read_before x) ≡ plan_before (plan_read x)
    go (Got p next) = refl
    go (Refused r p) = refl

pub leads_same : (s : List ℕ) → earlier.leading_plan s ≡ plan_before (leading_plan s)
unfolding plan_read
leads_same s = ap (λ (x : Read Plan). plan_read x) (plan-same s) ∙ go (plan s 0)
  where
    go : (x : Read Plan) → plan_read (read_before x) ≡ plan_before (plan_read x)
    go (Got p next) = refl
    go (Refused r p) = refl

rewrites_same : (P buffer : List ℕ) → earlier.plan_rewritten P buffer ≡ plan_rewritten P buffer
rewrites_same P buffer = ap (λ (x : PlanTold). rewritten x.answer buffer (with_plan buffer x.plan)) (reads_same P) ∙ go (whole_plan P).answer
  where
    go : (a : Answer) → rewritten (answer_before a) buffer (with_plan buffer (whole_plan P).plan) ≡ rewritten a buffer (with_plan buffer (whole_plan P).plan)
    go Accepted = refl
    go (Grade k) = refl
    go (PlanFault r p) = refl
    go (CertificateFault r p) = refl

-- ---- checking

certificate-same : (p : Plan) (C : List ℕ) → earlier.certificate_answer p C ≡ answer_before (certificate_answer p C)
unfolding certificate_answer
certificate-same p C = ap (λ (x : Read Certificate). on_certificate x) (ended_same (certificate-turns (plan_graph p)) C) ∙ go (ended (certificate (plan_graph p)) C 0)
  where
    go : (x : Read Certificate) → on_certificate (read_before x) ≡ answer_before (on_certificate x)
    go (Got c next) = refl
    go (Refused r q) = refl

pub on_plan-same : (x : Read Plan) (C : List ℕ) → earlier.on_plan (read_before x) C ≡ answer_before (on_plan x C)
on_plan-same (Got p next) C = certificate-same p C
on_plan-same (Refused r q) C = refl

pub checks_same : (P C : List ℕ) → earlier.check_of P C ≡ answer_before (check_of P C)
unfolding check_of
checks_same P C = ap (λ (x : Read Plan). earlier.on_plan x C) (whole_same P) ∙ on_plan-same (ended plan P 0) C

pub on_leading-same : (x : Read Plan) (s : List ℕ) → earlier.on_leading (read_before x) s ≡ graded_before (on_leading x s)
on_leading-same (Got p next) s = ap (λ (a : Answer). record { answer = a; n = p.n; m = length p.edges }) (certificate-same p (drop next s))
on_leading-same (Refused r q) s = refl

pub grades_same : (s : List ℕ) → earlier.grade_of s ≡ graded_before (grade_of s)
unfolding grade_of
grades_same s = ap (λ (x : Read Plan). earlier.on_leading x s) (plan-same s) ∙ on_leading-same (plan s 0) s

-- ---- making

by_same : (a : Answer) (g : GraphTable) → (length_by (answer_before a) g ≡ made_before (length_by a g)) × (record_by (answer_before a) g ≡ record_by a g)
unfolding length_by record_by
by_same Accepted g = (refl, refl)
by_same (Grade k) g = (refl, refl)
by_same (PlanFault r p) g = (refl, refl)
by_same (CertificateFault r p) g = (refl, refl)

pub measures_same : (P : List ℕ) → earlier.length_from P ≡ made_before (length_from P)
measures_same P = ap (λ (x : PlanTold). length_by x.answer x.plan.graph) (reads_same P) ∙ (by_same (whole_plan P).answer (whole_plan P).plan.graph).0

pub fitted-same : (buffer : List ℕ) (m : Made) → fitted buffer (made_before m) ≡ made_before (fitted buffer m)
unfolding fitted
fitted-same buffer m = go (ltb (length buffer) m.length)
  where
    go : (b : Bool) → cond b (made (PlanFault 30 0) 0) (made_before m) ≡ made_before (cond b (made (PlanFault 30 0) 0) m)
    go true = refl
    go false = refl

pub makes_same : (P buffer : List ℕ) → earlier.made_from P buffer ≡ made_before (made_from P buffer)
makes_same P buffer = ap (fitted buffer) (measures_same P) ∙ fitted-same buffer (length_from P)

record_same : (P : List ℕ) → earlier.record_from P ≡ record_from P
record_same P = ap (λ (x : PlanTold). record_by x.answer x.plan.graph) (reads_same P) ∙ (by_same (whole_plan P).answer (whole_plan P).plan.graph).1

fills_same : (P buffer : List ℕ) → earlier.filled_from P buffer ≡ filled_from P buffer
fills_same P buffer = ap (filled_by buffer) (record_same P)

-- ---- mending

abbrev records_before : Records → Records
records_before x = record { answer = answer_before x.answer; list = x.list; mended = x.mended; certificate = x.certificate }

records_same : (P : List ℕ) → earlier.records_from P ≡ records_before (records_from P)
unfolding records_read records_of
records_same P = ap (λ (x : Read Plan). earlier.records_read x) (whole_same P) ∙ go (ended plan P 0)
  where
    test : (p : Plan) (b : Bool) → cond b (refusal 32 0) (earlier.mend_records p) ≡ records_before (cond b (refusal 32 0) (mend_records p))
    test p true = refl
    test p false =
        ap (λ (c : List ℕ). record { answer = Grade 3; list = plan_bytes (list_plan p); mended = plan_bytes (mended_plan p); certificate = c }) (record_same (plan_bytes (mended_plan p)))

    go : (x : Read Plan) → earlier.records_read (read_before x) ≡ records_before (records_read x)
    go (Got p next) = test p (ltb max_edges (length p.edges + length (list_of p)))
    go (Refused r q) = refl

module _ (list mended certificate : List ℕ) where
  abbrev mend_by : Records → Outcome
  mend_by x = cond (have_room x list mended certificate) (wrote x list mended certificate) (too_short_outcome list mended certificate)

  mend_by_same : (x : Records) → mend_by (records_before x) ≡ outcome_before (mend_by x)
  mend_by_same x = go (have_room x list mended certificate)
    where
      go : (b : Bool) → cond b (wrote (records_before x) list mended certificate) (too_short_outcome list mended certificate) ≡ outcome_before (cond b (wrote x list mended certificate) (too_short_outcome list mended certificate))
      go true = refl
      go false = refl

  pub mends_same : (P : List ℕ) → earlier.mend_from P list mended certificate ≡ outcome_before (mend_from P list mended certificate)
  unfolding mend_from
  mends_same P = ap mend_by (records_same P) ∙ mend_by_same (records_from P)

-- ---- sessions

abbrev gives_before : Gives → Gives
gives_before g = of.gives (answer_before g.answer) g.state g.unread

pub open_same : (P : List ℕ) → earlier.open_call P ≡ gives_before (of.open_call P)
open_same P = ap (λ (x : Read Plan). of.on_plan_read x) (whole_same P) ∙ go (ended plan P 0)
  where
    test : (p : Plan) (b : Bool) → cond b (of.gives (PlanFault 29 0) never []) (of.gives Accepted (waiting p) [])
        ≡ gives_before (cond b (of.gives (PlanFault 29 0) never []) (of.gives Accepted (waiting p) []))
    test p true = refl
    test p false = refl

    go : (x : Read Plan) → of.on_plan_read (read_before x) ≡ gives_before (of.on_plan_read x)
    go (Got p next) = test p (ltb (pair_count p) (p.n + 2))
    go (Refused r q) = refl

start-same : (z : State) (part : List ℕ) → earlier.start_call z part ≡ gives_before (of.start_call z part)
start-same never part = refl
start-same (waiting p) part = ap (of.on_start_read p part) ((start-turns (plan_graph p) 0).same part) ∙ go (readStart (plan_graph p) part 0)
  where
    go : (x : Read ((ℕ × (ℕ × (ℕ × ℕ))) × List Path)) → of.on_start_read p part (read_before x) ≡ gives_before (of.on_start_read p part x)
    go (Got x next) = refl
    go (Refused r q) = refl
start-same (building p links past) part = refl

path-same : (z : State) (part : List ℕ) → earlier.path_call z part ≡ gives_before (of.path_call z part)
path-same never part = refl
path-same (waiting p) part = refl
path-same (building p links before) part =
    ap (λ (x : Read Path). cond (ltb (length before) (due p)) (of.on_path_read p links before part x) (of.refuses (building p links before) part 31 0)) ((further_turns (plan_graph p) links 0).same part)
    ∙ go (ltb (length before) (due p)) (further_path (plan_graph p) links part 0)
  where
    go : (b : Bool) (x : Read Path) → cond b (of.on_path_read p links before part (read_before x)) (of.refuses (building p links before) part 31 0)
        ≡ gives_before (cond b (of.on_path_read p links before part x) (of.refuses (building p links before) part 31 0))
    go true (Got P next) = refl
    go true (Refused r q) = refl
    go false x = refl

back-same : (z : State) → of.back_call z ≡ gives_before (of.back_call z)
back-same never = refl
back-same (waiting p) = refl
back-same (building p links []) = refl
back-same (building p links (before ∷ past)) = refl

close_answer : (a b : Bool) → cond a (cond b (Grade 3) (CertificateFault 28 0)) (CertificateFault 31 0) ≡ answer_before (cond a (cond b (Grade 3) (CertificateFault 28 0)) (CertificateFault 31 0))
close_answer true true = refl
close_answer true false = refl
close_answer false b = refl

close_same : (z : State) → of.close_call z ≡ gives_before (of.close_call z)
close_same never = refl
close_same (waiting p) = refl
close_same (building p links before) =
    ap (λ (a : Answer). of.gives a (building p links before) []) (close_answer (eqb (length before) (due p)) (all_below p.n (is_branch links)))

call_same : (z : State) (c : Call) → earlier.called_on z c ≡ gives_before (called_on z c)
call_same z (start part) = start-same z part
call_same z (path part) = path-same z part
call_same z back = back-same z
call_same z close = close_same z

abbrev first : Gives → List Heard → List Heard
first g later = record { answer = g.answer; unread = g.unread } ∷ later

pub calls_same : (calls : List Call) (z : State) → earlier.heard_on z calls ≡ heard_before (heard_on z calls)
calls_same [] z = refl
calls_same (c ∷ cs) z =
    ap (λ (g : Gives). first g (earlier.heard_on g.state cs)) (call_same z c) ∙ ap (first (gives_before (called_on z c))) (calls_same cs (called_on z c).state)

pub sessions_same : (P : List ℕ) → Bytes P → (calls : List Call) → SessionBefore P calls
sessions_same P bytes calls =
    let d = demand1_sessions P bytes calls in
    record {
      opens = ap (λ (g : Gives). g.answer) (open_same P) ∙ ap answer_before (sym d.opens);
      answers = ap (λ (g : Gives). earlier.heard_on g.state calls) (open_same P) ∙ calls_same calls (of.open_call P).state ∙ ap heard_before (sym d.answers);
    }

-- ---- what is not 33

number-kept : (r : ℕ) → r ≢ 33 → cond (eqb r 33) 2 r ≡ r
number-kept r n = rw (ne_eqb r 33 n)

pub unless_33 : (a : Answer) → ((p : ℕ) → ¬ (a ≡ PlanFault 33 p)) → ((p : ℕ) → ¬ (a ≡ CertificateFault 33 p)) → answer_before a ≡ a
unless_33 Accepted m n = refl
unless_33 (Grade k) m n = refl
unless_33 (PlanFault r p) m n = ap (λ (k : ℕ). PlanFault k p) (number-kept r (λ e. m p (ap (λ (k : ℕ). PlanFault k p) e)))
unless_33 (CertificateFault r p) m n = ap (λ (k : ℕ). CertificateFault k p) (number-kept r (λ e. n p (ap (λ (k : ℕ). CertificateFault k p) e)))

-- NOTHING ELSE CHANGES
pub others_same : OthersSame
others_same = record {
  reads = reads_same;
  leads = leads_same;
  rewrites = rewrites_same;
  checks = checks_same;
  grades = grades_same;
  makes = makes_same;
  fills = fills_same;
  measures = measures_same;
  mends = λ P list mended certificate. mends_same list mended certificate P;
  sessions = sessions_same;
  unless_33 = unless_33;
}
