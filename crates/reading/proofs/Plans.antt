-- The reader of a plan accepts exactly the records of the plans that are allowed, and gives the graph of each. Assumes nothing.
use Prim.Native.Nat.{ℕ, ◌<◌, ◌≤◌}
use mathlib.Core.List.{List, ◌++◌}
use mathlib.Core.Path.{◌≡◌, refl, sym, ap, subst, ◌∙◌}
use native.Mathlib.Omega.{arith}
use lib.ListN.{length, drop}
use Rattle.record.specs.Read.{Read, Read.Got, Read.Refused, Bytes, ended, within}
use Rattle.std.specs.Prelude.{Ok}
use Rattle.record.specs.declared.Answer.TheVariants.{Accepted}
use Rattle.record.proofs.Laws.{Reads, needs_law, pair-law, counted-law, into-law, each_same, ended-got, ended-there, ended-back}
use Rattle.record.proofs.Groups.{number-law}
use Rattle.record.proofs.Parts.{one_value, leads_there, leads_back}
use Rattle.reading.specs.Plan.{Plan, Allowed, proper, follows, edge, plan, plan_bytes}
use Rattle.graph.specs.Limits.{min_vertices, max_vertices, max_edges}
use Rattle.graph.specs.Rows.{bare_rows}
use Rattle.reading.specs.Code.{PlanTold, graph_of, no_ends, table_of, plan_read, whole_plan, leading_plan, plan_result, head_of, rows_left, ends_read, by_value}
use Rattle.reading.specs.declared.PlanHead.{PlanHead}
use Rattle.reading.specs.declared.PlanTable.{PlanTable}
use Rattle.record.proofs.Bounds.{within-true, true_within}
use Rattle.reading.proofs.EdgeTests.{proper-true}
use Rattle.reading.proofs.Results.{ok_told}
use Rattle.reading.proofs.Reading.{rows_got}
use Rattle.reading.proofs.Ends.{plan-few, ends_got}
use Rattle.record.specs.Number.{number_limit}

pub plan-law : Reads plan plan_bytes Allowed
unfolding plan edge
plan-law = into-law
    (pair-law (needs_law number-law 3 (within min_vertices max_vertices)) (λ n.
    counted-law (λ before e. e) (λ before. needs_law (needs_law (pair-law number-law (λ lower. number-law)) 5 (proper n)) 6 (follows before))
    (needs_law number-law 4 (within 0 max_edges)) (0, 0)))
    (λ p. record { n = p.0; edges = p.1 }) (λ p o. refl)
    (λ p o.
    let a = within-true min_vertices max_vertices p.0 o.0.1 in
    let b = within-true 0 max_edges (length p.1) o.1.0.1 in
    record { least = a.0; most = a.1; few = b.1; each = each_same (λ before e. e) (λ before e k. (k.0.1, k.1)) (0, 0) p.1 o.1.1 })
    (λ p o.
    let n : p.n < number_limit = omega arith in
    let m : length p.edges < number_limit = omega arith in
    let z : 0 ≤ length p.edges = omega arith in (
      (p.n, p.edges),
      refl,
      (
        (n, true_within min_vertices max_vertices p.n o.least o.most),
        (
          (m, true_within 0 max_edges (length p.edges) z o.few),
          each_same (λ before e. e) (λ before e k.
              let t = proper-true p.n e k.0 in
              let lower : e.0 < number_limit = omega arith in
              let higher : e.1 < number_limit = omega arith in
              (((lower, higher), k.0), k.1)) (0, 0) p.edges o.each,
        ),
      ),
    ))

-- what was read, from its answer
told : (x : Read Plan) → (plan_read x).answer ≡ Accepted → (p : Plan) × (next : ℕ) × (x ≡ Got p next)
unfolding plan_read
told (Got p next) e = (p, next, refl)
told (Refused r q) e = let z : ◌≡◌ {A = ℕ} 0 1 = cc in absurd (omega arith)

got : (x : Read Plan) (p : Plan) (next : ℕ) → x ≡ Got p next → plan_read x ≡ record { answer = Accepted; plan = table_of p; next = next }
unfolding plan_read
got x p next e = rw e

-- rows that were bare when they were lent are then the graph's, and the second reading gives the edges
abbrev pub Arrays : List ℕ → PlanTable → Type 0
Arrays s t = (t.m ≤ max_edges) × (rows_left bare_rows s ≡ t.graph.rows) × (ends_read no_ends t.m s ≡ t.ends)

got_arrays : (s : List ℕ) {p : Plan} {next : ℕ} → plan s 0 ≡ Got p next → Arrays s (table_of p)
unfolding graph_of table_of
got_arrays s e = (plan-few s e, rows_got bare_rows s e, ends_got s e)

pub leading_arrays : (s : List ℕ) → (leading_plan s).answer ≡ Accepted → Arrays s (leading_plan s).plan
leading_arrays s e =
    let t = told (plan s 0) e in
    subst (λ (r : PlanTold). Arrays s r.plan) (sym (got (plan s 0) t.0 t.1 t.2)) (got_arrays s t.2)

pub whole_arrays : (s : List ℕ) → (whole_plan s).answer ≡ Accepted → Arrays s (whole_plan s).plan
whole_arrays s e =
    let t = told (ended plan s 0) e in
    subst (λ (r : PlanTold). Arrays s r.plan) (sym (got (ended plan s 0) t.0 t.1 t.2)) (got_arrays s (ended-got plan t.2).0)

-- the plan by value from its numbers, its rows and its edges
module _ (s : List ℕ) (t : PlanTold) {h : PlanHead} (e : Ok h ≡ head_of t) where
  pub head_few : (t.answer ≡ Accepted → t.plan.m ≤ max_edges) → h.m ≤ max_edges
  head_few f = let k = ok_told t.answer e in omega (arith, ap (λ (x : PlanHead). x.m) k.1, f k.0)

  pub valued : {rows : List ℕ} → (t.answer ≡ Accepted → (rows ≡ t.plan.graph.rows) × (ends_read no_ends t.plan.m s ≡ t.plan.ends))
      → Ok (by_value h rows (ends_read no_ends h.m s)) ≡ plan_result t
  valued {rows} f =
      let k = ok_told t.answer e in
      let r = f k.0 in
      rw (k.0, k.1, r.0, r.1)

pub accepted : (s : List ℕ) → Bytes s → (whole_plan s).answer ≡ Accepted → (p : Plan) × Allowed p × (s ≡ plan_bytes p) × ((whole_plan s).plan ≡ table_of p)
accepted s bytes e =
    let t = told (ended plan s 0) e in
    let q = ended-there plan-law bytes t.2 in
    (t.0, q.1, q.0, ap (λ (r : PlanTold). r.plan) (got (ended plan s 0) t.0 t.1 t.2))

-- and its graph is the plan's
pub accepted_graph : (s : List ℕ) (p : Plan) → (whole_plan s).plan ≡ table_of p → (whole_plan s).plan.graph ≡ graph_of p
unfolding table_of
accepted_graph s p e = ap (λ (t : PlanTable). t.graph) e

pub accepts : (p : Plan) → Allowed p → whole_plan (plan_bytes p) ≡ record { answer = Accepted; plan = table_of p; next = length (plan_bytes p) }
accepts p a = got (ended plan (plan_bytes p) 0) p (length (plan_bytes p)) (ended-back plan-law {v = p} refl a)

-- the same for a plan that other bytes follow
pub led : (s : List ℕ) → Bytes s → (leading_plan s).answer ≡ Accepted
    → (p : Plan) × (rest : List ℕ) × Allowed p × (s ≡ plan_bytes p ++ rest) × ((leading_plan s).plan ≡ table_of p) × ((leading_plan s).next ≡ length (plan_bytes p))
led s bytes e =
    let t = told (plan s 0) e in
    let q = leads_there plan-law bytes t.2 in
    let g = got (plan s 0) t.0 t.1 t.2 in
    (t.0, drop t.1 s, q.2, q.0, ap (λ (r : PlanTold). r.plan) g, ap (λ (r : PlanTold). r.next) g ∙ q.1)

pub leads : (p : Plan) (rest : List ℕ) → Allowed p → leading_plan (plan_bytes p ++ rest) ≡ record { answer = Accepted; plan = table_of p; next = length (plan_bytes p) }
leads p rest a = got (plan (plan_bytes p ++ rest) 0) p (length (plan_bytes p)) (leads_back plan-law p rest a)

pub injective : (p q : Plan) → Allowed p → Allowed q → plan_bytes p ≡ plan_bytes q → p ≡ q
injective p q a b e = one_value plan-law a b e
