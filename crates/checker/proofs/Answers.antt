-- The answer beside the rows of an accepted plan's graph is the definition's answer beside the plan. Assumes nothing.
use Prim.Native.Nat.{ℕ, zero, suc, ◌+◌, ◌<◌, ◌≤◌}
use mathlib.Core.List.{List}
use mathlib.Core.Bool.{Bool, true, false, cond, ◌||◌, ◌&&◌}
use mathlib.Core.Path.{◌≡◌, refl, sym, ap, ◌∙◌}
use native.Mathlib.Omega.{arith}
use lib.Dec.{ltb, leb}
use lib.ListN.{length, drop}
use borrow.Author.Tests.{le-leb, lt-leb, leb-true}
use Rattle.record.specs.Read.{Read, Read.Got, Read.Refused, Reader, Bytes, on_read, ◌needs⟨◌⟩◌, ◌▹◌, into, ended}
use Rattle.record.specs.Number.{number, number_at, as_read}
use Rattle.record.specs.declared.Number.TheVariants.{Value}
use Rattle.record.specs.declared.Answer.{Answer}
use Rattle.record.specs.declared.Answer.TheVariants.{Accepted, Grade, CertificateFault}
use Rattle.std.specs.Prelude.{Ok, Err}
use Rattle.record.proofs.Laws.{Spans, Spans.none, Spans.more, on_got, carry, ended-there}
use Rattle.connectivity.specs.Graph.{Graph, edge_count}
use Rattle.connectivity.specs.Certificate.{Certificate, kind, grade}
use Rattle.connectivity.proofs.Soundness.{grade-kind}
use Rattle.connectivity.specs.Build.{further_count}
use Rattle.reading.specs.Plan.{Plan, Allowed, plan}
use Rattle.reading.specs.Code.{PlanTold, graph_of, table_of, plan_read, whole_plan, leading_plan, head_of, rows_left}
use Rattle.reading.proofs.Results.{ok_told}
use Rattle.reading.specs.declared.PlanHead.{PlanHead}
use Rattle.reading.proofs.Plans.{plan-law, leading_arrays, whole_arrays}
use Rattle.reading.proofs.Adjacency.{graph_listed}
use Rattle.certificates.specs.Records.{body, certificate}
use Rattle.paths.specs.Items.{told, end_read, limited}
use Rattle.graph.specs.Rows.{rows_graph, bare_rows}
use Rattle.build.specs.State.{build_body}
use Rattle.refinement.proofs.Kind3.{kind_3}
use Rattle.checker.specs.Check.{plan_graph, on_certificate, certificate_answer, on_plan, check_of, on_leading, grade_of}
use Rattle.checker.specs.declared.Graded.{Graded}
use Rattle.checker.specs.Code.{body_end, on_end, on_kind, rows_answer}
use Rattle.vertexset.specs.Set.{capacity}

fits_table : (p : Plan) → Allowed p → p.n ≤ capacity
fits_table p a = omega (arith, a.most)

pub limited-open : {A : Type 0} (n : ℕ) (R : Reader A) (s : List ℕ) (at : ℕ) → n ≤ capacity → limited n R s at ≡ R s at
limited-open n R s at h = rw (le-leb n capacity h)

-- what was put together has the kind that it was read for
module _ (g : Graph) where
  into-kind : {A : Type 0} (f : A → Certificate) (k : ℕ) → ((a : A) → kind (f a) ≡ k) → (R : Reader A) (s : List ℕ) (at : ℕ) {x : Certificate} {next : ℕ} → into f R s at ≡ Got x next → kind x ≡ k
  unfolding into
  into-kind f k same R s at e = let g = on_got (R s at) _ e in carry (λ x n. kind x ≡ k) g.3 (same g.0)

  pub body-kind : (k : ℕ) (s : List ℕ) (at : ℕ) {x : Certificate} {next : ℕ} → body g k s at ≡ Got x next → kind x ≡ k
  body-kind zero s at e = into-kind _ 0 (λ a. refl) _ s at e
  body-kind (suc zero) s at e = into-kind _ 1 (λ a. refl) _ s at e
  body-kind (suc (suc zero)) s at e = into-kind _ 2 (λ a. refl) _ s at e
  body-kind (suc (suc (suc zero))) s at e = into-kind _ 3 (λ a. refl) _ s at e
  body-kind (suc (suc (suc (suc k)))) s at e = let z : ◌≡◌ {A = ℕ} 0 1 = cc in absurd (omega arith)

  module _ (small : g.n ≤ capacity) where
    -- kind 3 is read beside the build that the code keeps
    pub body_end_lem : (k : ℕ) (s : List ℕ) (at : ℕ) → k ≤ 3 → body_end g (edge_count g) k s at ≡ end_read (body g k s at)
    unfolding body_end
    body_end_lem zero s at h = refl
    body_end_lem (suc zero) s at h = refl
    body_end_lem (suc (suc zero)) s at h = refl
    body_end_lem (suc (suc (suc zero))) s at h = kind_3 g small s at
    body_end_lem (suc (suc (suc (suc k)))) s at h = absurd (omega arith)

    on_end_lem : (k len : ℕ) (x : Read Certificate) → ((c : Certificate) (next : ℕ) → x ≡ Got c next → grade c ≡ k)
        → on_end len k (end_read x) ≡ on_certificate (on_read x (λ v next. cond (ltb next len) (Refused 7 next) (Got v next)))
    unfolding told
    on_end_lem k len (Got c next) same = go (ltb next len)
      where
        go : (b : Bool) → cond b (CertificateFault 7 next) (Grade k) ≡ on_certificate (cond b (Refused 7 next) (Got c next))
        go true = refl
        go false = ap Grade (sym (same c next refl))
    on_end_lem k len (Refused r p) same = refl

    -- THE ANSWER beside the rows is the definition's
    pub rows_answer_lem : (s : List ℕ) → rows_answer g (edge_count g) s ≡ on_certificate (ended (certificate g) s 0)
    unfolding rows_answer certificate ended ◌needs⟨◌⟩◌ ◌▹◌
    rows_answer_lem s = go (number s 0)
      where
        after : Certificate → ℕ → Read Certificate
        after v next = cond (ltb next (length s)) (Refused 7 next) (Got v next)

        enough : ℕ → Bool
        enough k = ltb k 3 || leb (g.n + 2) (edge_count g)

        tested : (k at : ℕ) (b c : Bool) → leb k 3 ≡ b → enough k ≡ c
            → cond b (cond c (on_end (length s) k (body_end g (edge_count g) k s at)) (CertificateFault 29 0)) (CertificateFault 8 0)
            ≡ on_certificate (on_read (on_read (on_read (cond (leb 0 k && b) (Got k at) (Refused 8 0)) (λ j next. cond (enough j) (Got j next) (Refused 29 0))) (λ j mid. body g j s mid)) after)
        tested k at true true e f = rw (le-leb 0 k (omega arith), f)
            (ap (on_end (length s) k) (body_end_lem k s at (leb-true _ _ e)) ∙ on_end_lem k (length s) (body g k s at) (λ c next h. grade-kind c ∙ body-kind k s at h))
        tested k at true false e f = rw (le-leb 0 k (omega arith), f)
        tested k at false c e f = rw (le-leb 0 k (omega arith))

        go : (x : Read ℕ) → on_kind g (edge_count g) s x
            ≡ on_certificate (on_read (on_read (on_read (on_read x (λ j next. cond (leb 0 j && leb j 3) (Got j next) (Refused 8 0))) (λ j next. cond (enough j) (Got j next) (Refused 29 0))) (λ j mid. body g j s mid)) after)
        go (Got k at) = tested k at (leb k 3) (enough k) refl refl
        go (Refused r p) = refl

-- bytes that were read end within the record
spans_within : {s bs : List ℕ} {at next : ℕ} → Spans s at bs next → at ≤ length s → next ≤ length s
spans_within none h = h
spans_within {s} (more {at} i e p) h = spans_within p (let z : at + 1 ≤ length s = omega arith in z)

-- beside the rows of an accepted plan
module _ (p : Plan) (a : Allowed p) where
  pub plan-answer : (s : List ℕ) → rows_answer (rows_graph p.n (graph_of p).rows) (graph_of p).d s ≡ certificate_answer p s
  unfolding certificate_answer graph_of
  plan-answer s = ap (λ (g : Graph). rows_answer g (edge_count (plan_graph p)) s) (graph_listed p a) ∙ rows_answer_lem (plan_graph p) (fits_table p a) s

-- the code's steps: the body by its kind
module _ (g : Graph) (d : ℕ) (s : List ℕ) (at : ℕ) where
  pub kind-body_0 : (k : ℕ) → k ≡ 0 → end_read (body g 0 s at) ≡ body_end g d k s at
  unfolding body_end
  kind-body_0 k e = rw e

  pub kind-body_1 : (k : ℕ) → k ≡ 1 → end_read (body g 1 s at) ≡ body_end g d k s at
  unfolding body_end
  kind-body_1 k e = rw e

  pub kind-body_2 : (k : ℕ) → k ≡ 2 → end_read (body g 2 s at) ≡ body_end g d k s at
  unfolding body_end
  kind-body_2 k e = rw e

  pub kind-body_3 : (k : ℕ) → 3 ≤ k → end_read (build_body g (further_count d g.n) s at) ≡ body_end g d k s at
  unfolding body_end
  kind-body_3 zero h = absurd (omega arith)
  kind-body_3 (suc zero) h = absurd (omega arith)
  kind-body_3 (suc (suc zero)) h = absurd (omega arith)
  kind-body_3 (suc (suc (suc k))) h = refl

-- and the kind itself
module _ (g : Graph) (d : ℕ) (s : List ℕ) where
  pub kind-unread : {r p : ℕ} → as_read (number_at s 0) ≡ Refused r p → CertificateFault r p ≡ rows_answer g d s
  unfolding rows_answer number
  kind-unread e = rw e

  module _ {k at : ℕ} (e : Value k at ≡ number_at s 0) where
    pub kind-high : 3 < k → CertificateFault 8 0 ≡ rows_answer g d s
    unfolding rows_answer number
    kind-high h = rw (← e, lt-leb k 3 h)

    pub kind-few : k ≤ 3 → ltb k 3 || leb (g.n + 2) d ≡ false → CertificateFault 29 0 ≡ rows_answer g d s
    unfolding rows_answer number
    kind-few h f = rw (← e, le-leb k 3 h, f)

    pub kind-read : k ≤ 3 → ltb k 3 || leb (g.n + 2) d ≡ true → on_end (length s) k (body_end g d k s at) ≡ rows_answer g d s
    unfolding rows_answer number
    kind-read h f = rw (← e, le-leb k 3 h, f)

-- a plan that was read whole into bare rows, and a certificate beside it
module _ (s c : List ℕ) where
  pub check-accepted : {h : PlanHead} {rows : List ℕ} → Ok h ≡ head_of (whole_plan s) → rows ≡ rows_left bare_rows s → Bytes s → (h.n ≤ capacity) × (rows_answer (rows_graph h.n rows) h.d c ≡ check_of s c)
  unfolding check_of plan_read table_of graph_of
  check-accepted {h} {rows} e left bytes = go (ended plan s 0) refl e
    where
      go : (x : Read Plan) → ended plan s 0 ≡ x → Ok h ≡ head_of (plan_read x) → (h.n ≤ capacity) × (rows_answer (rows_graph h.n rows) h.d c ≡ on_plan x c)
      go (Got p next) k d =
          let a = (ended-there plan-law {v = p} bytes k).1 in
          let t = (ok_told Accepted d).1 in
          let n : h.n ≡ p.n = ap (λ (y : PlanHead). y.n) t in
          let q : h.d ≡ edge_count (plan_graph p) = ap (λ (y : PlanHead). y.d) t in
          let w : whole_plan s ≡ plan_read (Got p next) = ap plan_read k in
          let g : rows ≡ (graph_of p).rows = left ∙ (whole_arrays s (ap (λ (y : PlanTold). y.answer) w)).1 ∙ ap (λ (y : PlanTold). y.plan.graph.rows) w in
          (rw n (fits_table p a), rw (n, q, g) (plan-answer p a c))
      go (Refused q p) k d = cc

  pub check-refused : {a : Answer} → Err a ≡ head_of (whole_plan s) → a ≡ check_of s c
  unfolding check_of plan_read
  check-refused {a} e = go (ended plan s 0) e
    where
      go : (x : Read Plan) → Err a ≡ head_of (plan_read x) → a ≡ on_plan x c
      go (Got p next) d = cc
      go (Refused q p) d = cc

-- a plan at the start, and a certificate behind it
module _ (s : List ℕ) where
  pub grade-accepted : {h : PlanHead} {rows : List ℕ} → Ok h ≡ head_of (leading_plan s) → rows ≡ rows_left bare_rows s → Bytes s → (h.next ≤ length s) × (h.n ≤ capacity)
      × (◌≡◌ {A = Graded} (record { answer = rows_answer (rows_graph h.n rows) h.d (drop h.next s); n = h.n; m = h.m }) (grade_of s))
  unfolding grade_of plan_read table_of graph_of
  grade-accepted {h} {rows} e left bytes = go (plan s 0) refl e
    where
      go : (x : Read Plan) → plan s 0 ≡ x → Ok h ≡ head_of (plan_read x) → (h.next ≤ length s) × (h.n ≤ capacity)
          × (◌≡◌ {A = Graded} (record { answer = rows_answer (rows_graph h.n rows) h.d (drop h.next s); n = h.n; m = h.m }) (on_leading x s))
      go (Got p next) k d =
          let b = plan-law.there {v = p} bytes k in
          let y = (ok_told Accepted d).1 in
          let n : h.n ≡ p.n = ap (λ (y : PlanHead). y.n) y in
          let m : h.m ≡ length p.edges = ap (λ (y : PlanHead). y.m) y in
          let q : h.d ≡ edge_count (plan_graph p) = ap (λ (y : PlanHead). y.d) y in
          let t : h.next ≡ next = ap (λ (y : PlanHead). y.next) y in
          let w : leading_plan s ≡ plan_read (Got p next) = ap plan_read k in
          let g : rows ≡ (graph_of p).rows = left ∙ (leading_arrays s (ap (λ (y : PlanTold). y.answer) w)).1 ∙ ap (λ (y : PlanTold). y.plan.graph.rows) w in (
            rw t (spans_within b.0 (omega arith)),
            rw n (fits_table p b.1),
            rw (n, m, q, t, g) (ap (λ (a : Answer). record { answer = a; n = p.n; m = length p.edges }) (plan-answer p b.1 (drop next s))),
          )
      go (Refused q p) k d = cc

  pub grade-given : {h : PlanHead} {rows rest : List ℕ} {a : Answer} → Ok h ≡ head_of (leading_plan s) → rows ≡ rows_left bare_rows s → Bytes s → rest ≡ drop h.next s
      → a ≡ rows_answer (rows_graph h.n rows) h.d rest → ◌≡◌ {A = Graded} (record { answer = a; n = h.n; m = h.m }) (grade_of s)
  grade-given e left bytes d k = rw (k, d) (grade-accepted e left bytes).2

  pub grade-refused : {a : Answer} → Err a ≡ head_of (leading_plan s) → ◌≡◌ {A = Graded} (record { answer = a; n = 0; m = 0 }) (grade_of s)
  unfolding grade_of plan_read
  grade-refused {a} e = go (plan s 0) e
    where
      go : (x : Read Plan) → Err a ≡ head_of (plan_read x) → ◌≡◌ {A = Graded} (record { answer = a; n = 0; m = 0 }) (on_leading x s)
      go (Got p next) d = cc
      go (Refused q p) d = ap (λ (b : Answer). record { answer = b; n = 0; m = 0 }) (cc)
