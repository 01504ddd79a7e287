-- What is decided of a plan record: its refusal, or the list and the mended plan, which are plans. Assumes nothing.
use Prim.Native.Nat.{ℕ, ◌+◌, ◌-◌, ◌<◌, ◌≤◌}
use mathlib.Core.List.{List}
use mathlib.Core.Bool.{false}
use mathlib.Core.Path.{◌≡◌, sym, ap, subst, ◌∙◌}
use native.Mathlib.Omega.{arith}
use lib.Dec.{ltb}
use lib.ListN.{length}
use lib.Seq.{take_all}
use borrow.Author.Tests.{lt-ltb, le-ltb}
use Rattle.record.specs.Read.{Read, Read.Got, Read.Refused, Bytes, ended}
use Rattle.record.specs.declared.Answer.TheVariants.{PlanFault}
use Rattle.std.specs.Prelude.{Ok, Err}
use Rattle.record.specs.declared.Answer.{Answer}
use Rattle.reading.proofs.Results.{ok_told}
use Rattle.record.proofs.Laws.{ended-back}
use Rattle.connectivity.specs.Lists.{In}
use Rattle.connectivity.proofs.Edges.{AscendingEdges}
use Rattle.graph.specs.Limits.{max_edges}
use Rattle.reading.specs.Plan.{Plan, plan, Allowed, plan_bytes}
use Rattle.reading.specs.Code.{graph_of, ends_array, table_of, plan_read, whole_plan, plan_result}
use Rattle.reading.specs.declared.PlanRead.{PlanRead}
use Rattle.reading.specs.declared.PlanTable.{PlanTable}
use Rattle.reading.proofs.Plans.{plan-law, accepted}
use Rattle.reading.proofs.Pairs.{ascends_cons, after_zeros}
use Rattle.reading.proofs.Doubles.{ascends_each, each_both}
use Rattle.writing.specs.Write.{edges_of}
use Rattle.writing.proofs.RoundTrip.{held-edges}
use Rattle.certifier.specs.Made.{record_from}
use Rattle.striking.specs.declared.Edges.{Edges}
use Rattle.striking.specs.Code.{edges_held, list_in}
use Rattle.mending.specs.declared.Draft.{Draft}
use Rattle.mending.specs.Mend.{merged, list_of, list_plan, mended_plan, records_of, records_read, records_from}
use Rattle.mending.specs.Code.{plan_in, draft_in, decision}
use Rattle.mending.proofs.Merged.{merged-length, merged-order}

-- what is known of the list: the code finds it, and its pairs are proper and in strict cable order
pub record ListRight : Type 0 where
  pub right : (p : Plan) → Allowed p → list_in (graph_of p).rows p.n ≡ list_of p
  pub proper : (p : Plan) → Allowed p → (e : ℕ × ℕ) → In e (list_of p) → (e.0 < e.1) × (e.1 < p.n)
  pub ascending : (p : Plan) → Allowed p → AscendingEdges (list_of p)

-- a plan that was refused
pub refused-records : (s : List ℕ) {a : Answer} → Err a ≡ plan_result (whole_plan s) → Err a ≡ decision (records_from s)
unfolding plan_read records_read
refused-records s {a} e = go (ended plan s 0) e
  where
    go : (x : Read Plan) → Err a ≡ plan_result (plan_read x) → Err a ≡ decision (records_read x)
    go (Got p next) e = cc
    go (Refused q w) e = let f : a ≡ PlanFault q w = cc in rw f

-- the plan of edges in an array that has room for them
plan-in : {n k : ℕ} → n ≡ k → (es : List (ℕ × ℕ)) {x : Edges} → x ≡ edges_held es → length es ≤ max_edges → plan_in n x ≡ record { n = k; edges = es }
plan-in {n} v es e h =
    let f : edges_of (edges_held es).ends (length es) ≡ es = ap (λ (l : List (ℕ × ℕ)). edges_of (ends_array l) (length es)) (take_all max_edges es h) ∙ held-edges es in
    ap (plan_in n) e ∙ rw (v, f)

-- the list and the mended plan are plans
module _ (known : ListRight) (p : Plan) (a : Allowed p) where
  pub list_allowed : length (list_of p) ≤ max_edges → Allowed (list_plan p)
  list_allowed h =
      let s = ascends_cons (0, 0) (list_of p) (λ f i. after_zeros f (known.proper p a f i).0) (known.ascending p a) in
      record { least = a.least; most = a.most; few = h; each = each_both p.n (0, 0) (list_of p) (ascends_each (0, 0) (list_of p) s) (known.proper p a) }

  pub mended_allowed : length p.edges + length (list_of p) ≤ max_edges → Allowed (mended_plan p)
  mended_allowed h =
      let l = list_allowed (omega arith) in
      record { least = a.least; most = a.most; few = omega (arith, merged-length p.edges (list_of p)); each = merged-order p.n p.edges (0, 0) (list_of p) a.each l.each }

-- what is written of a list and a mended plan
abbrev drafts : Plan → Plan → Draft
drafts list mended = draft_in (plan_bytes list) (plan_bytes mended) (record_from (plan_bytes mended))

-- a plan that was accepted, and the list that was found of it
pub record Listing (s : List ℕ) (t : PlanTable) (list : Edges) : Type 0 where
  p : Plan
  allowed : Allowed p
  records : records_from s ≡ records_of p
  vertices : t.graph.n ≡ p.n
  count : t.m ≡ length p.edges
  edges : edges_of t.ends t.m ≡ p.edges
  found : list ≡ edges_held (list_of p)

pub listing : ListRight → (s : List ℕ) → Bytes s → {r : PlanRead} → Ok r ≡ plan_result (whole_plan s) → {list : Edges}
    → list ≡ edges_held (list_in r.plan.graph.rows r.plan.graph.n) → Listing s r.plan list
unfolding records_read table_of graph_of
listing known s bytes {r} e l =
    let k = ok_told (whole_plan s).answer e in
    let a = accepted s bytes k.0 in
    let t : r.plan ≡ table_of a.0 = ap (λ (x : PlanRead). x.plan) k.1 ∙ a.3 in
    record {
      p = a.0;
      allowed = a.1;
      records = ap records_read (ended-back plan-law {v = a.0} a.2 a.1);
      vertices = ap (λ (x : PlanTable). x.graph.n) t;
      count = ap (λ (x : PlanTable). x.m) t;
      edges = ap (λ (x : PlanTable). edges_of x.ends x.m) t ∙ held-edges a.0.edges;
      found = l ∙ ap edges_held (ap (λ (x : PlanTable). list_in x.graph.rows x.graph.n) t ∙ known.right a.0 a.1);
    }

module _ {s : List ℕ} {t : PlanTable} {list : Edges} (x : Listing s t list) where
  abbrev p : Plan
  p = x.p

  pub few_edges : t.m ≤ max_edges
  few_edges = omega (arith, x.count, x.allowed.few)

  list_count : list.count ≡ length (list_of p)
  list_count = ap (λ (y : Edges). y.count) x.found

  pub too_many : max_edges - t.m < list.count → Err (PlanFault 32 0) ≡ decision (records_from s)
  unfolding records_of
  too_many h =
      let f : max_edges < length p.edges + length (list_of p) = omega (arith, x.count, list_count) in
      rw (x.records, lt-ltb _ _ f)

  module _ (h : list.count ≤ max_edges - t.m) where
    pub together : t.m + list.count ≤ max_edges
    together = omega (arith, few_edges)

    both : length p.edges + length (list_of p) ≤ max_edges
    both = omega (arith, few_edges, x.count, list_count)

    module _ {mended : Edges} (g : mended ≡ edges_held (merged (edges_of t.ends t.m) (edges_of list.ends list.count))) where
      list_plan_lem : plan_in t.graph.n list ≡ list_plan p
      list_plan_lem = plan-in x.vertices (list_of p) x.found (omega (arith, both))

      mended_plan_lem : plan_in t.graph.n mended ≡ mended_plan p
      mended_plan_lem =
          let l : edges_of list.ends list.count ≡ list_of p = ap (λ (y : Plan). y.edges) list_plan_lem in
          let m : merged (edges_of t.ends t.m) (edges_of list.ends list.count) ≡ merged p.edges (list_of p) = rw (x.edges, l) in
          plan-in x.vertices (merged p.edges (list_of p)) (g ∙ ap edges_held m) (omega (arith, both, merged-length p.edges (list_of p)))

      pub both_allowed : ListRight → (Allowed (plan_in t.graph.n list)) × (Allowed (plan_in t.graph.n mended))
      both_allowed known = (
        subst Allowed (sym list_plan_lem) (list_allowed known p x.allowed (omega (arith, both))),
        subst Allowed (sym mended_plan_lem) (mended_allowed known p x.allowed both),
      )

      pub both_drafted : {d : Draft} → d ≡ drafts (plan_in t.graph.n list) (plan_in t.graph.n mended) → Ok d ≡ decision (records_from s)
      unfolding records_of
      both_drafted {d} j =
          let f : ltb max_edges (length p.edges + length (list_of p)) ≡ false = le-ltb _ _ both in
          rw (x.records, f) (ap (λ (y : Draft). Ok y) (j ∙ (λ i. drafts (list_plan_lem i) (mended_plan_lem i))))
