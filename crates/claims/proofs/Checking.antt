-- DEMAND 2, both ways, and that every grade the checker accepts is the plan's connectivity. Assumes nothing.
use Prim.Native.Nat.{ℕ, ◌<◌}
use mathlib.Core.List.{List, ◌++◌}
use mathlib.Core.Path.{◌≡◌, refl, sym, ap, ◌∙◌, subst}
use mathlib.Core.Logic.{◌↔◌, inl, ⊎_elim}
use native.Mathlib.Omega.{arith}
use lib.ListN.{length}
use Rattle.record.specs.Read.{Read, Read.Got, Read.Refused, Bytes, ended}
use Rattle.record.specs.declared.Answer.TheVariants.{Grade}
use Rattle.record.proofs.Laws.{ended-there, ended-back}
use Rattle.connectivity.specs.Lists.{In}
use Rattle.connectivity.specs.Graph.{Simple, HasConnectivity, edges}
use Rattle.connectivity.specs.Certificate.{Certificate, Certificate.separation, Certificate.tree, Certificate.ears, Certificate.build, kind, grade, Rules, BuildRules}
use Rattle.connectivity.proofs.Paths.{edge-sorted}
use Rattle.connectivity.proofs.Edges.{in_edges, edges-in, in_listed, listed_in}
use Rattle.connectivity.proofs.Soundness.{rules_connectivity, grade-kind}
use Rattle.connectivity.proofs.Main.{edges-once}
use Rattle.connectivity.proofs.Sequence.{rules_sequence, sequence_rules}
use Rattle.reading.specs.Plan.{Plan, Allowed, plan, plan_bytes}
use Rattle.reading.proofs.Plans.{plan-law}
use Rattle.reading.proofs.EdgeTests.{each-proper}
use Rattle.reading.proofs.Doubles as doubles
use Rattle.certificates.specs.Records.{certificate}
use Rattle.certificates.specs.Encoding.{certificate_bytes}
use Rattle.certificates.proofs.Accepted.{accepted_there, accepted_back}
use Rattle.checker.specs.Check.{plan_graph, on_certificate, certificate_answer, on_plan, check_of}
use Rattle.claims.specs.Certified.{HasFigure, Certified, Sequenced}
use Rattle.claims.specs.Demands.{EachPairOnce}
use Rattle.record.specs.Number.{number_limit}

-- the graph of an allowed plan is simple, and small enough for numbers
pub plan-simple : (p : Plan) → Allowed p → Simple (plan_graph p)
plan-simple p a = doubles.plan-simple p.n p.edges a.least a.each

pub plan-few : (p : Plan) → Allowed p → p.n < number_limit
plan-few p a = omega (arith, a.most)

on_plan_lem : (r : Read Plan) (c : List ℕ) {k : ℕ} → on_plan r c ≡ Grade k → (p : Plan) × (next : ℕ) × (r ≡ Got p next) × (certificate_answer p c ≡ Grade k)
on_plan_lem (Got p next) c e = (p, next, refl, e)
on_plan_lem (Refused r q) c e = let z : ◌≡◌ {A = ℕ} 0 1 = cc in absurd (omega arith)

pub on_certificate_lem : (r : Read Certificate) {k : ℕ} → on_certificate r ≡ Grade k → (x : Certificate) × (next : ℕ) × (r ≡ Got x next) × (grade x ≡ k)
on_certificate_lem (Got x next) e = (x, next, refl, cc)
on_certificate_lem (Refused r q) e = let z : ◌≡◌ {A = ℕ} 0 1 = cc in absurd (omega arith)

-- the record of an allowed plan is read as that plan, and a certificate beside it is read beside that plan
pub record_read : (p : Plan) → Allowed p → ended plan (plan_bytes p) 0 ≡ Got p (length (plan_bytes p))
record_read p a = ended-back plan-law {v = p} refl a

pub checked : (p : Plan) → Allowed p → (C : List ℕ) → check_of (plan_bytes p) C ≡ certificate_answer p C
unfolding check_of
checked p a C = ap (λ (x : Read Plan). on_plan x C) (record_read p a)

pub answer_there : (p : Plan) → Allowed p → (c : List ℕ) (k : ℕ) → Bytes c → certificate_answer p c ≡ Grade k → Certified (plan_bytes p) c k
unfolding certificate_answer
answer_there p a c k bytes e =
    let x = on_certificate_lem (ended (certificate (plan_graph p)) c 0) e in
    let r = accepted_there (plan_graph p) (plan-simple p a) (plan-few p a) c x.0 x.1 bytes x.2 in
    record { plan = p; is_plan = record { allowed = a; bytes = refl }; certificate = x.0; bytes = r.0; same_kind = sym (grade-kind x.0) ∙ x.3; rules = r.1 }

-- DEMAND 2: the checker answers grade k exactly when the first record is written as Records says, the second is a certificate
-- of kind k, and every rule for its kind holds.
pub grade-certified : (P C : List ℕ) (k : ℕ) → Bytes P → Bytes C → check_of P C ≡ Grade k → Certified P C k
unfolding check_of
grade-certified P C k bp bc e =
    let t = on_plan_lem (ended plan P 0) C e in
    let q = ended-there plan-law bp t.2 in
    rw q.0 (answer_there t.0 q.1 C k bc t.3)

pub certified_grade : (P C : List ℕ) (k : ℕ) → Certified P C k → check_of P C ≡ Grade k
unfolding check_of certificate_answer
certified_grade P C k c =
    let p = c.plan in
    let a = c.is_plan.allowed in
    rw (
      ended-back plan-law {v = p} c.is_plan.bytes a,
      accepted_back (plan_graph p) (plan-simple p a) (plan-few p a) C c.certificate c.bytes c.rules,
      grade-kind c.certificate ∙ c.same_kind,
    )

pub demand_2 : (P C : List ℕ) (k : ℕ) → Bytes P → Bytes C → (check_of P C ≡ Grade k) ↔ Certified P C k
demand_2 P C k bp bc = (grade-certified P C k bp bc, certified_grade P C k)

-- SOUNDNESS: an accepted grade is the plan's connectivity, whoever wrote the certificate.
pub certified_sound : {P C : List ℕ} {k : ℕ} → Certified P C k → HasFigure P k
certified_sound {k = k} c =
    let p = c.plan in
    record {
      plan = p;
      is_plan = c.is_plan;
      figure = subst (λ (j : ℕ). HasConnectivity (plan_graph p) j) (grade-kind c.certificate ∙ c.same_kind)
          (rules_connectivity (plan_graph p) (plan-simple p c.is_plan.allowed) c.certificate c.rules);
    }

pub grade-sound : (P C : List ℕ) (k : ℕ) → Bytes P → Bytes C → check_of P C ≡ Grade k → HasFigure P k
grade-sound P C k bp bc e = certified_sound (grade-certified P C k bp bc e)

-- KIND 3: a certificate is accepted exactly when it is a Barnette-Grünbaum sequence in path form, from a four-box start to the plan's graph.
pub certified_sequenced : {P C : List ℕ} → Certified P C 3 → Sequenced P C
certified_sequenced {P} {C} c = go c.certificate c.bytes c.same_kind c.rules
  where
    go : (x : Certificate) → C ≡ certificate_bytes x → kind x ≡ 3 → Rules (plan_graph c.plan) x → Sequenced P C
    go (separation S) e k r = absurd (omega arith)
    go (tree c f ps S) e k r = absurd (omega arith)
    go (ears c d P es S) e k r = absurd (omega arith)
    go (build p q r s start further) e k t =
        let g = plan_graph c.plan in
        let a = plan-simple c.plan c.is_plan.allowed in
        record {
          plan = c.plan;
          is_plan = c.is_plan;
          p = p;
          q = q;
          r = r;
          s = s;
          start = start;
          further = further;
          bytes = e;
          sequence = rules_sequence g a p q r s start further t;
        }

sequenced_rules : {P C : List ℕ} (c : Sequenced P C) → BuildRules (plan_graph c.plan) c.p c.q c.r c.s c.start c.further
sequenced_rules c = sequence_rules (plan_graph c.plan) (plan-simple c.plan c.is_plan.allowed) c.p c.q c.r c.s c.start c.further c.sequence

pub sequenced_certified : {P C : List ℕ} → Sequenced P C → Certified P C 3
sequenced_certified c =
    record { plan = c.plan; is_plan = c.is_plan; certificate = build c.p c.q c.r c.s c.start c.further; bytes = c.bytes; same_kind = refl; rules = sequenced_rules c }

-- the edges of a plan's graph are the pairs that its record has, once or more
pair-edge : (p : Plan) → Allowed p → (e : ℕ × ℕ) → In e p.edges → In e (edges (plan_graph p))
pair-edge p a e i =
    let b = each-proper p.n (0, 0) p.edges a.each e i in
    rw (edge-sorted e.0 e.1 b.0) at (in_edges (plan_graph p) (plan-simple p a) e.0 e.1 (in_listed p.edges e.0 e.1 (inl i)))

edge-pair : (p : Plan) → Allowed p → (e : ℕ × ℕ) → In e (edges (plan_graph p)) → In e p.edges
edge-pair p a e i =
    let r = edges-in (plan_graph p) e i in
    ⊎_elim (λ k. k) (λ k. absurd (omega (arith, r.0, (each-proper p.n (0, 0) p.edges a.each (e.1, e.0) k).0))) (listed_in p.edges e.0 e.1 r.1)

-- and it uses every pair just once
pub sequenced_once : {P C : List ℕ} (c : Sequenced P C) → EachPairOnce c.plan (c.start ++ c.further)
sequenced_once c =
    let a = c.is_plan.allowed in
    let o = edges-once (plan_graph c.plan) (plan-simple c.plan a) c.p c.q c.r c.s c.start c.further (sequenced_rules c) in
    record { nodup = o.nodup; cabled = λ e i. edge-pair c.plan a e (o.is_edge e i); used = λ e i. o.used e (pair-edge c.plan a e i) }
