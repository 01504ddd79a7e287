-- Reading an edge and a plan, one statement of the code after the other. Assumes nothing.
use Prim.Native.Nat.{ℕ, zero, suc, ◌<◌, ◌≤◌}
use mathlib.Core.List.{List, [], ◌∷◌}
use mathlib.Core.Bool.{Bool, true, false, cond}
use mathlib.Core.Path.{◌≡◌, refl, ap, ◌∙◌}
use native.Mathlib.Omega.{arith}
use lib.ListN.{length}
use lib.Dec.{ltb}
use borrow.Author.Tests.{lt-ltb, le-ltb}
use Rattle.record.specs.Read.{Each, Read, Read.Got, Read.Refused, on_read, ◌needs⟨◌⟩◌, ◌▸◌, ◌▹◌, into, many, or_kept, folded, ended, within}
use Rattle.record.specs.Number.{number, number_at, as_read}
use Rattle.std.specs.Prelude.{Ok, Err}
use Rattle.record.specs.Loop.{runs, finish}
use Rattle.record.specs.declared.Number.TheVariants.{Value}
use Rattle.record.specs.declared.Answer.{Answer}
use Rattle.record.specs.declared.Answer.TheVariants.{Accepted, PlanFault}
use Rattle.record.proofs.Bounds.{within-true}
use Rattle.record.proofs.Laws.{on_got, carry}
use Rattle.record.proofs.Loops.{needs_true, many-length, many-same, led-folded}
use Rattle.reading.specs.Plan.{Plan, EdgeAllowed, edge, plan, proper, follows}
use Rattle.graph.specs.Limits.{min_vertices, max_vertices, max_edges}
use Rattle.graph.specs.Rows.{joined}
use Rattle.reading.specs.Code.{graph_of, table_of, edge_read, edge_loop, plan_read, whole_plan, leading_plan, head_of, edge_after, edge_joined, edges_in, rows_left}
use Rattle.reading.specs.declared.PlanHead.{PlanHead}
use Rattle.reading.proofs.Results.{ok_told}
use Rattle.reading.proofs.EdgeTests.{proper-true}
use Rattle.reading.proofs.Doubles.{pairs_counted}

module _ (n : ℕ) (before : ℕ × ℕ) (s : List ℕ) (at : ℕ) where
  pub edge-first : {r p : ℕ} → as_read (number_at s at) ≡ Refused r p → edge n before s at ≡ Refused r p
  unfolding edge number ◌needs⟨◌⟩◌ ◌▸◌
  edge-first e = rw e

  pub edge-second : {u mid r p : ℕ} → Value u mid ≡ number_at s at → as_read (number_at s mid) ≡ Refused r p → edge n before s at ≡ Refused r p
  unfolding edge number ◌needs⟨◌⟩◌ ◌▸◌
  edge-second e f = rw (← e, f)

  pub edge-whole : {u mid v next : ℕ} → Value u mid ≡ number_at s at → Value v next ≡ number_at s mid
      → edge n before s at ≡ cond (proper n (u, v)) (cond (follows before (u, v)) (Got (u, v) next) (Refused 6 at)) (Refused 5 at)
  unfolding edge number ◌needs⟨◌⟩◌ ◌▸◌
  edge-whole {u} {mid} {v} {next} e f = rw (← e, ← f) (go (proper n (u, v)))
    where
      go : (b : Bool) → on_read (cond b (Got (u, v) next) (Refused 5 at)) (λ w z. cond (follows before w) (Got w z) (Refused 6 at))
          ≡ cond b (cond (follows before (u, v)) (Got (u, v) next) (Refused 6 at)) (Refused 5 at)
      go true = refl
      go false = refl

-- what an edge that was handed back, or a fault, tells of what was read
pub edge_got : (r : Read (ℕ × ℕ)) {e : ℕ × ℕ} {next : ℕ} → Ok (e, next) ≡ edge_read r → r ≡ Got e next
unfolding edge_read
edge_got (Got d z) {e} {next} k = let i : (d, z) ≡ (e, next) = cc in ap (λ (x : (ℕ × ℕ) × ℕ). Got x.0 x.1) i
edge_got (Refused r p) k = cc

pub edge-bad : (r : Read (ℕ × ℕ)) {a : Answer} → Err a ≡ edge_read r → (q : ℕ) × (p : ℕ) × (r ≡ Refused q p) × (a ≡ PlanFault q p)
unfolding edge_read
edge-bad (Got d z) k = cc
edge-bad (Refused q p) k = (q, p, refl, cc)

-- an edge that was read has passed the tests
edge-tested : (n : ℕ) (before : ℕ × ℕ) (s : List ℕ) (at : ℕ) {e : ℕ × ℕ} {next : ℕ} → edge n before s at ≡ Got e next → EdgeAllowed n before e
unfolding edge
edge-tested n before s at g =
    let a = needs_true ((number ▸ λ lower. number) needs⟨ 5 ⟩ proper n) 6 (follows before) {s = s} {at = at} g in
    let b = needs_true (number ▸ λ lower. number) 5 (proper n) {s = s} {at = at} a.0 in
    (b.1, a.1)

-- so it is within the limits
pub edge-low : (n : ℕ) (before : ℕ × ℕ) (s : List ℕ) (at : ℕ) {e : ℕ × ℕ} {next : ℕ} → edge n before s at ≡ Got e next → (e.0 < e.1) × (e.1 < n)
edge-low n before s at g = proper-true n _ (edge-tested n before s at g).0

edges-tested : (n k : ℕ) (before : ℕ × ℕ) (s : List ℕ) (at : ℕ) {l : List (ℕ × ℕ)} {next : ℕ} → many (edge n) (λ before e. e) k before s at ≡ Got l next
    → Each (EdgeAllowed n) (λ before e. e) before l
unfolding many Each
edges-tested n zero before s at g = carry (λ l z. Each (EdgeAllowed n) (λ before e. e) before l) g tt
edges-tested n (suc k) before s at g =
    let a = on_got (edge n before s at) _ g in
    let b = on_got (many (edge n) (λ before e. e) k a.0 s a.1) _ a.3 in
    carry (λ l z. Each (EdgeAllowed n) (λ before e. e) before l) b.3 (edge-tested n before s at a.2, edges-tested n k a.0 s a.1 b.2)

-- the numbers before the edges
module _ (s : List ℕ) where
  pub plan-first : {r p : ℕ} → as_read (number_at s 0) ≡ Refused r p → plan s 0 ≡ Refused r p
  unfolding plan number ◌needs⟨◌⟩◌ ◌▸◌ into
  plan-first e = rw e

  pub plan-range : {n mid : ℕ} → Value n mid ≡ number_at s 0 → within min_vertices max_vertices n ≡ false → plan s 0 ≡ Refused 3 0
  unfolding plan number ◌needs⟨◌⟩◌ ◌▸◌ into
  plan-range e f = rw (← e, f)

  module _ {n mid : ℕ} (e : Value n mid ≡ number_at s 0) (f : within min_vertices max_vertices n ≡ true) where
    pub plan-second : {r p : ℕ} → as_read (number_at s mid) ≡ Refused r p → plan s 0 ≡ Refused r p
    unfolding plan number ◌needs⟨◌⟩◌ ◌▸◌ ◌▹◌ into
    plan-second g = rw (← e, f, g)

    pub plan-many : {m at : ℕ} → Value m at ≡ number_at s mid → within 0 max_edges m ≡ false → plan s 0 ≡ Refused 4 mid
    unfolding plan number ◌needs⟨◌⟩◌ ◌▸◌ ◌▹◌ into
    plan-many g h = rw (← e, f, ← g, h)

    pub plan-edges : {m at : ℕ} → Value m at ≡ number_at s mid → within 0 max_edges m ≡ true
        → runs (edge_loop n m) m (0, 0) ((0, 0), 0) s at ≡ head_of (plan_read (plan s 0))
    unfolding plan number ◌needs⟨◌⟩◌ ◌▸◌ ◌▹◌ into runs plan_read table_of graph_of
    plan-edges {m} {at} g h = rw (← e, f, ← g, h) (go (many (edge n) (λ before e. e) m (0, 0) s at) refl)
      where
        paired : List (ℕ × ℕ) → ℕ → Read (ℕ × List (ℕ × ℕ))
        paired l next = Got (n, l) next

        go : (x : Read (List (ℕ × ℕ))) → many (edge n) (λ before e. e) m (0, 0) s at ≡ x
            → finish (edge_loop n m).step (edge_loop n m).ok (edge_loop n m).bad ((0, 0), 0) x
            ≡ head_of (plan_read (on_read (on_read x paired) (λ p next. Got (record { n = p.0; edges = p.1 }) next)))
        go (Got l next) k = rw (many-length (edge n) (λ before e. e) m (0, 0) s at k, pairs_counted n l (within-true min_vertices max_vertices n f).0 (edges-tested n m (0, 0) s at k) m)
        go (Refused r p) k = refl

-- what each of these statements leaves of the rows
module _ (rows s : List ℕ) where
  pub rows_first : {r p : ℕ} → as_read (number_at s 0) ≡ Refused r p → rows ≡ rows_left rows s
  unfolding rows_left number ◌needs⟨◌⟩◌
  rows_first e = rw e

  pub rows_range : {n mid : ℕ} → Value n mid ≡ number_at s 0 → within min_vertices max_vertices n ≡ false → rows ≡ rows_left rows s
  unfolding rows_left number ◌needs⟨◌⟩◌
  rows_range e f = rw (← e, f)

  module _ {n mid : ℕ} (e : Value n mid ≡ number_at s 0) (f : within min_vertices max_vertices n ≡ true) where
    pub rows_second : {r p : ℕ} → as_read (number_at s mid) ≡ Refused r p → rows ≡ rows_left rows s
    unfolding rows_left number ◌needs⟨◌⟩◌
    rows_second g = rw (← e, f, g)

    pub rows_many : {m at : ℕ} → Value m at ≡ number_at s mid → within 0 max_edges m ≡ false → rows ≡ rows_left rows s
    unfolding rows_left number ◌needs⟨◌⟩◌
    rows_many g h = rw (← e, f, ← g, h)

    pub rows_edges : {m at : ℕ} → Value m at ≡ number_at s mid → within 0 max_edges m ≡ true → edges_in n m rows s at ≡ rows_left rows s
    unfolding rows_left number ◌needs⟨◌⟩◌
    rows_edges g h = rw (← e, f, ← g, h)

folded-rows : (before : ℕ × ℕ) (rows : List ℕ) (es : List (ℕ × ℕ)) → (folded edge_joined (before, rows) es).1 ≡ folded joined rows es
unfolding folded
folded-rows before rows [] = refl
folded-rows before rows (e ∷ es) = folded-rows e (joined rows e) es

edges-got : (n m : ℕ) (rows s : List ℕ) (at : ℕ) {l : List (ℕ × ℕ)} {next : ℕ} → many (edge n) (λ before e. e) m (0, 0) s at ≡ Got l next → edges_in n m rows s at ≡ folded joined rows l
unfolding edges_in
edges-got n m rows s at {l} e =
    let k : many (edge_after n) edge_joined m ((0, 0), rows) s at ≡ many (edge n) (λ before e. e) m (0, 0) s at =
    many-same (λ st before. st.0 ≡ before) (edge_after n) edge_joined (edge n) (λ before e. e) (λ st u r s at. rw r) (λ st u r s at a mid e. refl) m ((0, 0), rows) (0, 0) refl s at
    in
    ap (λ (st : (ℕ × ℕ) × List ℕ). st.1) (led-folded (edge_after n) edge_joined m ((0, 0), rows) s at (k ∙ e)) ∙ folded-rows (0, 0) rows l

-- where the plan is read, all its edges are joined
pub rows_got : (rows s : List ℕ) {p : Plan} {next : ℕ} → plan s 0 ≡ Got p next → rows_left rows s ≡ folded joined rows p.edges
unfolding rows_left plan into ◌▸◌ ◌▹◌
rows_got rows s {p} {next} e =
    let a = on_got _ _ e in
    let b = on_got ((number needs⟨ 3 ⟩ within min_vertices max_vertices) s 0) _ a.2 in
    let c = on_got _ _ b.3 in
    let d = on_got ((number needs⟨ 4 ⟩ within 0 max_edges) s b.1) _ c.2 in
    let k : rows_left rows s ≡ folded joined rows c.0 =
    ap (λ (x : Read ℕ). or_kept x (λ n mid. or_kept ((number needs⟨ 4 ⟩ within 0 max_edges) s mid) (λ m at. edges_in n m rows s at) rows) rows) b.2
    ∙ ap (λ (x : Read ℕ). or_kept x (λ m at. edges_in b.0 m rows s at) rows) d.2
    ∙ edges-got b.0 d.0 rows s d.1 d.3
    in
    carry (λ p n. rows_left rows s ≡ folded joined rows p.edges) a.3 (carry (λ (x : ℕ × List (ℕ × ℕ)) n. rows_left rows s ≡ folded joined rows x.1) c.3 k)

-- a whole record, from what was read up to the last edge
module _ (s : List ℕ) where
  pub whole_fault : {a : Answer} → Err a ≡ head_of (leading_plan s) → Err a ≡ head_of (whole_plan s)
  unfolding ended plan_read
  whole_fault {a} e = go (plan s 0) e
    where
      go : (x : Read Plan) → Err a ≡ head_of (plan_read x) → Err a ≡ head_of (plan_read (on_read x (λ v next. cond (ltb next (length s)) (Refused 7 next) (Got v next))))
      go (Got p next) e = cc
      go (Refused q p) e = e

  module _ {h : PlanHead} (e : Ok h ≡ head_of (leading_plan s)) where
    pub whole_more : h.next < length s → Err (PlanFault 7 h.next) ≡ head_of (whole_plan s)
    unfolding ended plan_read
    whole_more f = go (plan s 0) e
      where
        go : (x : Read Plan) → Ok h ≡ head_of (plan_read x) → Err (PlanFault 7 h.next) ≡ head_of (plan_read (on_read x (λ v next. cond (ltb next (length s)) (Refused 7 next) (Got v next))))
        go (Got p next) e =
            let n : h.next ≡ next = ap (λ (q : PlanHead). q.next) (ok_told Accepted e).1 in
            let l : next < length s = omega arith in
            rw (lt-ltb next (length s) l, n)
        go (Refused q p) e = cc

    pub whole_done : length s ≤ h.next → Ok h ≡ head_of (whole_plan s)
    unfolding ended plan_read
    whole_done f = go (plan s 0) e
      where
        go : (x : Read Plan) → Ok h ≡ head_of (plan_read x) → Ok h ≡ head_of (plan_read (on_read x (λ v next. cond (ltb next (length s)) (Refused 7 next) (Got v next))))
        go (Got p next) e =
            let n : h.next ≡ next = ap (λ (q : PlanHead). q.next) (ok_told Accepted e).1 in
            let l : length s ≤ next = omega arith in
            rw (le-ltb next (length s) l) e
        go (Refused q p) e = e
