-- The plan of a plan by value is the plan: what is written of a plan that was read are the bytes that were read. Assumes nothing.
use Prim.Native.Nat.{ℕ, suc, ◌+◌, ◌*◌, ◌≤◌}
use mathlib.Core.List.{List, [], ◌∷◌, ◌++◌}
use mathlib.Core.Bool.{true}
use mathlib.Core.Path.{◌≡◌, refl, ap, ◌∙◌}
use native.Mathlib.Omega.{arith}
use lib.ListN.{length, get_or, drop}
use lib.Dec.{leb}
use borrow.Author.Tests.{leb-true, le-leb}
use Rattle.record.specs.Read.{Bytes, Each, within}
use Rattle.record.specs.declared.Answer.TheVariants.{Accepted}
use Rattle.std.specs.Prelude.{Some}
use Rattle.reading.specs.Plan.{Plan, Allowed, EdgeAllowed, proper, follows, plan_bytes}
use Rattle.graph.specs.Limits.{min_vertices, max_vertices, max_edges}
use Rattle.connectivity.specs.TopologicalGraph.{ends_of}
use Rattle.reading.specs.Code.{graph_of, ends_array, table_of, whole_plan, leading_plan}
use Rattle.reading.specs.declared.PlanTable.{PlanTable}
use Rattle.writing.specs.Write.{edges_from, edges_of, plan_of, edges_in_order, can_write_plan, written_plan, with_plan}
use Rattle.connectivity.proofs.Lists.{and-true}
use Rattle.record.proofs.Bounds.{within-true, true_within}
use Rattle.reading.proofs.Plans.{accepted, leads}
use Rattle.writing.proofs.Writing.{edges-count}

-- THE EDGES OF AN ARRAY ARE THOSE THAT WERE LAID IN IT, whatever stands behind them.
laid-edges : (ends rest : List ℕ) (es : List (ℕ × ℕ)) (k : ℕ) → ((i : ℕ) → get_or ends (2 * k + i) 0 ≡ get_or (ends_of es ++ rest) i 0) → edges_from ends (length es) k ≡ es
unfolding edges_from
laid-edges ends rest [] k f = refl
laid-edges ends rest (e ∷ es) k f =
    let z : 2 * k ≡ 2 * k + 0 = omega arith in
    let lower : get_or ends (2 * k) 0 ≡ e.0 = ap (λ (i : ℕ). get_or ends i 0) z ∙ f 0 in
    let higher : get_or ends (2 * k + 1) 0 ≡ e.1 = f 1 in
    let later = laid-edges ends rest es (k + 1) (λ i. let y : 2 * (k + 1) + i ≡ 2 * k + suc (suc i) = omega arith in ap (λ (j : ℕ). get_or ends j 0) y ∙ f (suc (suc i))) in
    rw (lower, higher, later)

pub held-edges : (es : List (ℕ × ℕ)) → edges_of (ends_array es) (length es) ≡ es
held-edges es = laid-edges (ends_array es) _ es 0 (λ i. let z : 2 * 0 + i ≡ i = omega arith in ap (λ (j : ℕ). get_or (ends_array es) j 0) z)

-- THE PLAN OF A PLAN BY VALUE IS THE PLAN.
pub planned : (p : Plan) → plan_of (table_of p) ≡ p
unfolding plan_of table_of graph_of
planned p = ap (λ (es : List (ℕ × ℕ)). record { n = p.n; edges = es }) (held-edges p.edges)

-- the test of the edges tells that Records allows each
each-ordered : (n : ℕ) (before : ℕ × ℕ) (es : List (ℕ × ℕ)) → edges_in_order n before es ≡ true → Each (EdgeAllowed n) (λ before e. e) before es
unfolding edges_in_order Each
each-ordered n before [] o = tt
each-ordered n before (e ∷ es) o =
    let a = and-true (proper n e) _ o in
    let b = and-true (follows before e) _ a.1 in
    ((a.0, b.0), each-ordered n e es b.1)

ordered_each : (n : ℕ) (before : ℕ × ℕ) (es : List (ℕ × ℕ)) → Each (EdgeAllowed n) (λ before e. e) before es → edges_in_order n before es ≡ true
unfolding edges_in_order Each
ordered_each n before [] o = refl
ordered_each n before (e ∷ es) o = rw (o.0.0, o.0.1) (ordered_each n e es o.1)

pub planned_allowed : (t : PlanTable) → min_vertices ≤ t.graph.n → t.graph.n ≤ max_vertices → t.m ≤ max_edges → edges_in_order t.graph.n (0, 0) (plan_of t).edges ≡ true → Allowed (plan_of t)
unfolding plan_of
planned_allowed t l m f o = record { least = l; most = m; few = rw (edges-count t.ends t.m 0) f; each = each-ordered t.graph.n (0, 0) (edges_of t.ends t.m) o }

-- what is written where a plan can be written
module _ (buffer : List ℕ) (t : PlanTable) (e : can_write_plan buffer t ≡ true) where
  put_first : with_plan buffer t ≡ plan_bytes (plan_of t) ++ drop (0 + length (plan_bytes (plan_of t))) buffer
  put_first = rw e

  -- WHAT WAS WRITTEN OF A PLAN BY VALUE IS READ BACK AS THE SAME PLAN.
  pub read_written : leading_plan (with_plan buffer t) ≡ record { answer = Accepted; plan = table_of (plan_of t); next = length (plan_bytes (plan_of t)) }
  read_written =
      let a = and-true (within min_vertices max_vertices t.graph.n) _ e in
      let b = and-true (leb t.m max_edges) _ a.1 in
      let c = and-true (edges_in_order t.graph.n (0, 0) (plan_of t).edges) _ b.1 in
      let n = within-true min_vertices max_vertices t.graph.n a.0 in
      ap leading_plan put_first ∙ leads (plan_of t) (drop (0 + length (plan_bytes (plan_of t))) buffer) (planned_allowed t n.0 n.1 (leb-true _ _ b.0) c.0)

-- a plan by value that Records allows is written where it has room
module _ (t : PlanTable) (a : Allowed (plan_of t)) (buffer : List ℕ) (room : length (plan_bytes (plan_of t)) ≤ length buffer) where
  can_write_lem : can_write_plan buffer t ≡ true
  unfolding plan_of
  can_write_lem =
      let r : 0 + length (plan_bytes (plan_of t)) ≤ length buffer = omega arith in
      let f : t.m ≤ max_edges = omega (arith, a.few, edges-count t.ends t.m 0) in
      rw (
        true_within min_vertices max_vertices t.graph.n a.least a.most,
        le-leb t.m max_edges f,
        ordered_each t.graph.n (0, 0) (plan_of t).edges a.each,
        le-leb (0 + length (plan_bytes (plan_of t))) (length buffer) r,
      )

  pub written-whole : (written_plan buffer t ≡ Some (length (plan_bytes (plan_of t)))) × (with_plan buffer t ≡ plan_bytes (plan_of t) ++ drop (length (plan_bytes (plan_of t))) buffer)
  written-whole =
      let z : 0 + length (plan_bytes (plan_of t)) ≡ length (plan_bytes (plan_of t)) = omega arith in
      (rw can_write_lem, put_first buffer t can_write_lem ∙ rw z)

module _ (p : Plan) (a : Allowed p) (buffer : List ℕ) (room : length (plan_bytes p) ≤ length buffer) where
  can_again : can_write_plan buffer (table_of p) ≡ true
  can_again = can_write_lem (table_of p) (rw (planned p) a) buffer (rw (planned p) room)

  -- WHAT IS WRITTEN OF A PLAN BY VALUE ARE THE BYTES OF THE PLAN; THE REST OF THE BUFFER IS KEPT.
  pub written-again : (written_plan buffer (table_of p) ≡ Some (length (plan_bytes p))) × (with_plan buffer (table_of p) ≡ plan_bytes p ++ drop (length (plan_bytes p)) buffer)
  written-again =
      let z : 0 + length (plan_bytes p) ≡ length (plan_bytes p) = omega arith in
      (rw (can_again, planned p), put_first buffer (table_of p) can_again ∙ rw (planned p, z))

  pub read_again : leading_plan (with_plan buffer (table_of p)) ≡ record { answer = Accepted; plan = table_of p; next = length (plan_bytes p) }
  read_again = read_written buffer (table_of p) can_again ∙ rw (planned p)

-- .. so the plan by value of an accepted record is written as that record
pub record_again : (s : List ℕ) → Bytes s → (whole_plan s).answer ≡ Accepted → (buffer : List ℕ) → length s ≤ length buffer
    → (written_plan buffer (whole_plan s).plan ≡ Some (length s)) × (with_plan buffer (whole_plan s).plan ≡ s ++ drop (length s) buffer)
record_again s bytes e buffer h = let t = accepted s bytes e in of_plan t.0 t.1 s (whole_plan s).plan t.2 t.3 h
  where
    of_plan : (p : Plan) → Allowed p → (s : List ℕ) (g : PlanTable) → s ≡ plan_bytes p → g ≡ table_of p → length s ≤ length buffer
        → (written_plan buffer g ≡ Some (length s)) × (with_plan buffer g ≡ s ++ drop (length s) buffer)
    of_plan p a s g d f h = rw (f, d) (written-again p a buffer (rw (← d) h))
