-- THE DEMANDS, proved. Assumes nothing.
use Prim.Native.Nat.{ℕ}
use mathlib.Core.List.{List}
use mathlib.Core.Path.{◌≡◌, sym, ap, ◌∙◌, subst}
use mathlib.Core.Logic.{◌↔◌}
use native.Mathlib.Omega.{arith}
use lib.ListN.{length}
use Rattle.record.specs.Read.{Read, Read.Got, Read.Refused, ended}
use Rattle.record.specs.declared.Answer.TheVariants.{PlanFault}
use Rattle.connectivity.specs.Graph.{HasConnectivity, Adj}
use Rattle.connectivity.proofs.Separators.{connectivity-unique}
use Rattle.connectivity.proofs.Main.{connectivity-exactly}
use Rattle.connectivity.proofs.Additions.{topological-simple}
use Rattle.connectivity.proofs.Sequence.{build-tally, rule_adds, adds_rule}
use Rattle.connectivity.specs.Certificate.{Certificate}
use Rattle.reading.specs.Plan.{Plan, plan}
use Rattle.reading.specs.Code.{plan_read, PlanTold}
use Rattle.reading.proofs.Plans.{accepted, accepts, injective}
use Rattle.certificates.specs.Records.{certificate}
use Rattle.checker.specs.Check.{plan_graph, on_certificate, certificate_answer, on_plan, check_of}
use Rattle.claims.specs.Certified.{IsPlan, HasFigure}
use Rattle.claims.specs.Demands.{PlanFaultsFirst, Demand2, RulesAreAdditions, Demand2Sequence, PairsOnce, AcceptedByCalls, FigureComputed, PlanAccepted, AcceptedGrade.checked, AcceptedGrade.made-for, AcceptedGrade.measured, AcceptedGrade.closed_on, GradeIsFigure, SameGrades}
use Rattle.claims.proofs.Checking.{plan-simple, demand_2, grade-certified, certified_grade, grade-sound, certified_sequenced, sequenced_certified, sequenced_once}
use Rattle.claims.proofs.Maker.{made-grade, measured_grade}
use Rattle.claims.proofs.Sessions.{closing-sound}
use Rattle.claims.proofs.Replay.{kind3_calls}

-- DEMAND 2
pub demand2 : Demand2
demand2 = demand_2

pub rules_are_additions : RulesAreAdditions
rules_are_additions g simple p q r s start further first steps P offered =
    let t = build-tally g simple p q r s start further first steps in
    record {
      before = topological-simple (Adj g) _ (length further) t;
      there = rule_adds (Adj g) simple.symmetric _ (length further) t P;
      back = adds_rule (Adj g) _ (length further) t P offered;
    }

pub demand2_sequence : Demand2Sequence
demand2_sequence P C bp bc =
    (λ e. certified_sequenced (grade-certified P C 3 bp bc e), λ c. certified_grade P C 3 (sequenced_certified c))

pub pairs_used_once : PairsOnce
pairs_used_once P C c = sequenced_once c

pub accepted_by_calls : AcceptedByCalls
accepted_by_calls = kind3_calls

pub plan-accepted : PlanAccepted
plan-accepted P bp = (λ e. let r = accepted P bp e in (r.0, record { allowed = r.1; bytes = r.2 }), λ q. rw q.1.bytes (ap (λ (x : PlanTold). x.answer) (accepts q.0 q.1.allowed)))

-- a plan's fault is the checker's, and no other is a plan's
not_a_plan_fault : (x : Read Certificate) {r q : ℕ} → on_certificate x ≡ PlanFault r q → ⊥
not_a_plan_fault (Got x next) e = let z : ◌≡◌ {A = ℕ} 0 1 = cc in omega arith
not_a_plan_fault (Refused n at) e = let z : ◌≡◌ {A = ℕ} 0 1 = cc in omega arith

pub plan-faults_first : PlanFaultsFirst
unfolding check_of certificate_answer plan_read
plan-faults_first P C r q = go (ended plan P 0)
  where
    go : (x : Read Plan) → (on_plan x C ≡ PlanFault r q) ↔ ((plan_read x).answer ≡ PlanFault r q)
    go (Got p next) = (λ e. absurd (not_a_plan_fault (ended (certificate (plan_graph p)) C 0) e), λ e. let z : ◌≡◌ {A = ℕ} 0 1 = cc in absurd (omega arith))
    go (Refused n at) = (λ e. e, λ e. e)

-- DEMAND 3: every accepted grade is the plan's figure
pub grade-is_figure : GradeIsFigure
grade-is_figure P bp k (checked C bc e) = grade-sound P C k bp bc e
grade-is_figure P bp k (made-for buffer e) = made-grade P bp buffer k e
grade-is_figure P bp k (measured e) = measured_grade P bp k e
grade-is_figure P bp k (closed_on calls bc e) = closing-sound P bp calls bc k e

-- a record is the record of one plan
one_plan : {P : List ℕ} (p q : Plan) → IsPlan P p → IsPlan P q → p ≡ q
one_plan p q a b = injective p q a.allowed b.allowed (sym a.bytes ∙ b.bytes)

-- so a record has one figure
one_figure : {P : List ℕ} {j k : ℕ} → HasFigure P j → HasFigure P k → j ≡ k
one_figure {k = k} x y =
    connectivity-unique (plan_graph x.plan) _ _ x.figure
    (subst (λ (p : Plan). HasConnectivity (plan_graph p) k) (one_plan y.plan x.plan y.is_plan x.is_plan) y.figure)

pub same_grades : SameGrades
same_grades P Q bp bq j k g h =
    let x = grade-is_figure P bp j g in
    let y = grade-is_figure Q bq k h in
    (λ e. (j, x, rw e y), λ f. one_figure x f.1 ∙ sym (one_figure y f.2))

pub figure_computed : FigureComputed
figure_computed p a k = connectivity-exactly (plan_graph p) (plan-simple p a) k
