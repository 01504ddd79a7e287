-- Request 6: the list mends, the three records are what they should be, and when a mend is refused. Assumes nothing.
use Prim.Native.Nat.{ℕ, zero, suc, ◌+◌, ◌≤◌, ◌<◌}
use mathlib.Core.List.{List, [], ◌∷◌, ◌++◌, reverse}
use mathlib.Core.Path.{◌≡◌, refl, sym, ap, subst, fun_ext, ◌∙◌}
use mathlib.Core.Logic.{◌⊎◌, inl, inr, ⊎_elim, ⊎_map}
use mathlib.Core.Bool.{Bool, true, false, cond, not, ◌||◌, or_assoc, or-false}
use native.Mathlib.Omega.{arith}
use lib.Dec.{ltb, eqb}
use lib.ListN.{length, take, drop}
use lib.Seq.{take_at, drop-append_seam}
use borrow.Author.Tests.{eqb-true, eq-eqb, lt-ltb, le-ltb, not-true}
use Rattle.record.specs.Read.{Read, Read.Got, Read.Refused, ended}
use Rattle.record.specs.Write.{overwritten}
use Rattle.record.specs.declared.Answer.{Answer}
use Rattle.record.specs.declared.Answer.TheVariants.{Grade, PlanFault}
use Rattle.record.proofs.Laws.{ended-back}
use Rattle.connectivity.specs.Lists.{In, select}
use Rattle.connectivity.specs.Graph.{Graph, Simple, is_pair, listed, from_edges, HasConnectivity}
use Rattle.connectivity.specs.Connectivity.{connectivity}
use Rattle.connectivity.proofs.Lists.{in_left, in_right, in_append, and-true, select_in, clash}
use Rattle.connectivity.proofs.Edges.{listed_in, in_listed}
use Rattle.connectivity.proofs.Closure.{has-connectivity, connectivity-is}
use Rattle.graph.specs.Limits.{max_edges}
use Rattle.graph.proofs.Tests.{same_test}
use Rattle.reading.specs.Plan.{Plan, Allowed, plan, plan_bytes, follows}
use Rattle.reading.specs.Code.{graph_of, plan_read}
use Rattle.reading.proofs.Plans.{plan-law}
use Rattle.reading.proofs.Doubles.{plan-simple}
use Rattle.counting.proofs.Tally.{connectivity-most, one}
use Rattle.counting.proofs.Grading.{kind-connectivity}
use Rattle.checker.specs.Check.{plan_graph, check_of}
use Rattle.certifier.specs.declared.Made.{Made}
use Rattle.certifier.specs.Made.{grade_made, made, length_from, record_from, made_from, filled_from}
use Rattle.certifier.proofs.Room.{same_length, made-room}
use Rattle.striking.specs.MendList.{missing, with_pairs, mend_list}
use Rattle.striking.proofs.Remaining.{with-simple, remaining-none}
use Rattle.striking.proofs.Struck.{proposed_low, list_low, list_new, list_ascends, list_least}
use Rattle.mending.specs.Mend.{merged_into, merged, list_of, list_plan, mended_plan, Records, refusal, mend_records, records_of, records_read, records_from, Outcome, wrote, mend_from}
use Rattle.mending.proofs.Decided.{list_allowed, mended_allowed}
use Rattle.mending.proofs.Fits.{one_short, mend_short, mend_room, mend_either}
use Rattle.mending.proofs.Listed.{list_right}
use Rattle.claims.specs.Certified.{IsPlan, HasFigure}
use Rattle.claims.proofs.Demands.{figure_computed}
use Rattle.claims.proofs.Maker.{made-accepted, length_at, record_at}
use Rattle.claims.specs.Mending.{left_out, times, StillThree, ListMends, ListsMend, Begins, RecordsMend, TheRecordsMend, RefusedMends, MendWrites, WrittenMends}

-- ---- the list

-- one list of edges behind another: the graph of the first with the pairs of the second
listed-append : (es l : List (ℕ × ℕ)) (u v : ℕ) → listed (es ++ l) u v ≡ listed es u v || listed l u v
listed-append [] l u v = refl
listed-append (e ∷ es) l u v =
    ap (λ (b : Bool). is_pair e u v || (is_pair e v u || b)) (listed-append es l u v)
    ∙ ap (λ (b : Bool). is_pair e u v || b) (sym (or_assoc (is_pair e v u) (listed es u v) (listed l u v)))
    ∙ sym (or_assoc (is_pair e u v) (is_pair e v u || listed es u v) (listed l u v))

append_graph : (n : ℕ) (es l : List (ℕ × ℕ)) → from_edges n (es ++ l) ≡ with_pairs (from_edges n es) l
append_graph n es l = ap (λ (f : ℕ → ℕ → Bool). record { n = n; adj = f }) (fun_ext (λ u. fun_ext (λ v. listed-append es l u v)))

no_pairs : (g : Graph) → with_pairs g [] ≡ g
no_pairs g = ap (λ (f : ℕ → ℕ → Bool). record { n = g.n; adj = f }) (fun_ext (λ u. fun_ext (λ v. or-false (g.adj u v))))

-- a pair is itself
same_pair_lem : (e d : ℕ × ℕ) → d ≡ e → is_pair e d.0 d.1 ≡ true
same_pair_lem e d i = rw (eq-eqb e.0 d.0 (ap (λ (x : ℕ × ℕ). x.0) (sym i)), eq-eqb e.1 d.1 (ap (λ (x : ℕ × ℕ). x.1) (sym i)))

module _ (p : Plan) (a : Allowed p) where
  abbrev G : Graph
  G = from_edges p.n p.edges

  simple : Simple G
  simple = plan-simple p.n p.edges a.least a.each

  less-three : (e : ℕ × ℕ) → In e (list_of p) → (k : ℕ) → HasConnectivity (from_edges p.n (p.edges ++ left_out e (list_of p))) k → k < 3
  less-three e m k h =
      let l = left_out e (list_of p) in
      let low : (d : ℕ × ℕ) → In d l → (d.0 < d.1) × (d.1 < p.n) = λ d i. list_low G simple d (select_in (λ d. not (is_pair e d.0 d.1)) (list_of p) d i).0 in
      let c : k ≡ connectivity (with_pairs G l) = has-connectivity (with_pairs G l) (with-simple G simple l low) k (subst (λ (g : Graph). HasConnectivity g k) (append_graph p.n p.edges l) h) in
      let most : connectivity (from_edges p.n (p.edges ++ l)) ≤ 3 = connectivity-most (record { n = p.n; edges = p.edges ++ l }) in
      let t = (list_least G simple).tight e m l low (λ d i. let r = select_in (λ d. not (is_pair e d.0 d.1)) (list_of p) d i in (r.0, λ j. clash (same_pair_lem e d j) (not-true (is_pair e d.0 d.1) r.1))) in
      omega (arith, c, most, ap connectivity (append_graph p.n p.edges l), t)

  list_mends : ListMends p
  unfolding mend_list
  list_mends = record {
    with_all = subst (λ (g : Graph). HasConnectivity g 3) (sym (append_graph p.n p.edges (list_of p))) (connectivity-is (with_pairs G (list_of p)) (with-simple G simple (list_of p) (list_low G simple)) 3 (sym (list_least G simple).good));
    one_left_out = less-three;
    nothing_to_lay = λ h. remaining-none G simple (reverse (missing G)) (proposed_low G simple) (ap connectivity (no_pairs G) ∙ sym (has-connectivity G simple 3 h));
    no_double = λ e m i. clash (in_listed p.edges e.0 e.1 (inl i)) (list_new G simple e m);
    in_order = list_ascends G simple;
    pairs = list_low G simple;
  }

pub lists_mend : ListsMend
lists_mend = list_mends

pub still_three : StillThree
still_three p a l low = (
  (λ e. connectivity-is (with_pairs (G p a) l) (with-simple (G p a) (simple p a) l low) 3 (sym (eqb-true _ 3 e))),
  λ h. eq-eqb _ 3 (sym (has-connectivity (with_pairs (G p a) l) (with-simple (G p a) (simple p a) l low) 3 h)),
)

-- ---- refusals and what is written

begun : (buffer bytes : List ℕ) → Begins buffer bytes (overwritten buffer 0 bytes) (length bytes)
begun buffer bytes =
    let e : overwritten buffer 0 bytes ≡ bytes ++ drop (length bytes) buffer = let z : 0 + length bytes ≡ length bytes = omega arith in ap (λ (k : ℕ). bytes ++ drop k buffer) z in
    record {
      count = refl;
      front = ap (take (length bytes)) e ∙ take_at bytes (drop (length bytes) buffer) (length bytes) refl;
      behind = ap (drop (length bytes)) e ∙ drop-append_seam bytes (drop (length bytes) buffer);
    }

module _ (P list mended certificate : List ℕ) where
  abbrev x : Records
  x = records_from P

  pub written : length x.list ≤ length list → length x.mended ≤ length mended → length x.certificate ≤ length certificate → MendWrites P list mended certificate
  written a b c =
      let e = sym (mend_room P list mended certificate a b c) in
      record {
        answer = ap (λ (o : Outcome). o.answer.answer) (sym e);
        in_list = subst (λ (o : Outcome). Begins list x.list o.list o.answer.list) e (begun list x.list);
        in_mended = subst (λ (o : Outcome). Begins mended x.mended o.mended o.answer.mended) e (begun mended x.mended);
        in_certificate_lem = subst (λ (o : Outcome). Begins certificate x.certificate o.certificate o.answer.certificate) e (begun certificate x.certificate);
      }

pub written-mends : WrittenMends
written-mends = written

-- a refusal writes nothing: there are no records beside it
refused_none : (y : Read Plan) (r q : ℕ) → (records_read y).answer ≡ PlanFault r q → records_read y ≡ refusal r q
unfolding records_read records_of
refused_none (Got p next) r q e = go (ltb max_edges (length p.edges + length (list_of p))) e
  where
    go : (b : Bool) → (cond b (refusal 32 0) (mend_records p)).answer ≡ PlanFault r q → cond b (refusal 32 0) (mend_records p) ≡ refusal r q
    go true k = ap (λ (a : Answer). record { answer = a; list = []; mended = []; certificate = [] }) k
    go false k = let z : ◌≡◌ {A = ℕ} 0 1 = cc in absurd (omega arith)
refused_none (Refused r' q') r q e = ap (λ (a : Answer). record { answer = a; list = []; mended = []; certificate = [] }) e

-- a plan's fault is the mend's
fault_read : (y : Read Plan) (r q : ℕ) → (plan_read y).answer ≡ PlanFault r q → records_read y ≡ refusal r q
unfolding plan_read records_read
fault_read (Got p next) r q e = let z : ◌≡◌ {A = ℕ} 0 1 = cc in absurd (omega arith)
fault_read (Refused r' q') r q e = ap (λ (a : Answer). record { answer = a; list = []; mended = []; certificate = [] }) e

-- what is read of an allowed plan's record
read_records : (p : Plan) → Allowed p → records_from (plan_bytes p) ≡ records_of p
unfolding records_read
read_records p a = ap records_read (ended-back plan-law {v = p} refl a)

module _ (P list mended certificate : List ℕ) where
  refused-answer : (r q : ℕ) → records_from P ≡ refusal r q → (mend_from P list mended certificate).answer.answer ≡ PlanFault r q
  refused-answer r q e =
      ap (λ (o : Outcome). o.answer.answer) (mend_room P list mended certificate
      (subst (λ (y : Records). length y.list ≤ length list) (sym e) (omega arith)) (subst (λ (y : Records). length y.mended ≤ length mended) (sym e) (omega arith)) (subst (λ (y : Records). length y.certificate ≤ length certificate) (sym e) (omega arith)))
      ∙ ap (λ (y : Records). y.answer) e

  -- as they were, and nothing written
  abbrev Same : Outcome → Type 0
  Same o = (o.list ≡ list) × (o.mended ≡ mended) × (o.certificate ≡ certificate) × (o.answer.list ≡ 0) × (o.answer.mended ≡ 0) × (o.answer.certificate ≡ 0)

  kept : (r q : ℕ) → (mend_from P list mended certificate).answer.answer ≡ PlanFault r q → Same (mend_from P list mended certificate)
  kept r q = mend_either P list mended certificate (λ o. o.answer.answer ≡ PlanFault r q → Same o) (λ e. (refl, refl, refl, refl, refl, refl))
      (λ e. subst (λ (y : Records). Same (wrote y list mended certificate)) (sym (refused_none (ended plan P 0) r q e)) (refl, refl, refl, refl, refl, refl))

-- ---- the three records

-- an edge stands as often in two lists as one as in both
times-cons : (e d : ℕ × ℕ) (l : List (ℕ × ℕ)) → times e (d ∷ l) ≡ one (is_pair e d.0 d.1) + times e l
times-cons e d l = go (is_pair e d.0 d.1)
  where
    go : (b : Bool) → length (cond b (d ∷ select (λ c. is_pair e c.0 c.1) l) (select (λ c. is_pair e c.0 c.1) l)) ≡ cond b 1 0 + times e l
    go true = omega arith
    go false = omega arith

into-times : (e d : ℕ × ℕ) (later : List (ℕ × ℕ) → List (ℕ × ℕ)) (k : ℕ) → ((ms : List (ℕ × ℕ)) → times e (later ms) ≡ k + times e ms) → (ms : List (ℕ × ℕ))
    → times e (merged_into d later ms) ≡ one (is_pair e d.0 d.1) + (k + times e ms)
unfolding merged_into
into-times e d later k h [] = times-cons e d (later []) ∙ ap (λ (j : ℕ). one (is_pair e d.0 d.1) + j) (h [])
into-times e d later k h (m ∷ ms) = go (follows d m) (into-times e d later k h ms)
  where
    x : ℕ
    x = one (is_pair e d.0 d.1)

    y : ℕ
    y = one (is_pair e m.0 m.1)

    swap : (a b c f g : ℕ) → f ≡ b + g → a + (c + f) ≡ b + (a + (c + g))
    swap a b c f g i = omega arith

    go : (b : Bool) → times e (merged_into d later ms) ≡ x + (k + times e ms) → times e (cond b (d ∷ later (m ∷ ms)) (m ∷ merged_into d later ms)) ≡ x + (k + times e (m ∷ ms))
    go true i = times-cons e d (later (m ∷ ms)) ∙ ap (λ (j : ℕ). x + j) (h (m ∷ ms))
    go false i = times-cons e m (merged_into d later ms) ∙ ap (λ (j : ℕ). y + j) i ∙ sym (swap x y k (times e (m ∷ ms)) (times e ms) (times-cons e m ms))

merged-times : (e : ℕ × ℕ) (es ms : List (ℕ × ℕ)) → times e (merged es ms) ≡ times e es + times e ms
unfolding merged
merged-times e [] ms = omega arith
merged-times e (d ∷ es) ms =
    into-times e d (merged es) (times e es) (merged-times e es) ms ∙ sum (one (is_pair e d.0 d.1)) (times e es) (times e ms) (times e (d ∷ es)) (times-cons e d es)
  where
    sum : (a b c f : ℕ) → f ≡ a + b → a + (b + c) ≡ f + c
    sum a b c f i = omega arith

-- so it stands in them where it stands in one of both
stands : (e : ℕ × ℕ) (l : List (ℕ × ℕ)) → In e l → 0 < times e l
stands e [] x = elim x [ ]
stands e (d ∷ l) (inl i) = omega (arith, times-cons e d l, ap one (same_pair_lem e d (sym i)))
stands e (d ∷ l) (inr m) = omega (arith, times-cons e d l, stands e l m)

found : (e : ℕ × ℕ) (l : List (ℕ × ℕ)) → 0 < times e l → In e l
found e l h = go (select (λ c. is_pair e c.0 c.1) l) refl h
  where
    go : (k : List (ℕ × ℕ)) → select (λ c. is_pair e c.0 c.1) l ≡ k → 0 < length k → In e l
    go [] i h = absurd (omega arith)
    go (d ∷ k) i h =
        let r = select_in (λ c. is_pair e c.0 c.1) l d (rw i (inl refl)) in
        let b = and-true (eqb e.0 d.0) (eqb e.1 d.1) r.1 in
        let x = eqb-true e.0 d.0 b.0 in
        let y = eqb-true e.1 d.1 b.1 in
        subst (λ (c : ℕ × ℕ). In c l) (λ j. (sym x j, sym y j)) r.0

-- the graph of the mended plan is that of the plan's edges and the list's
merged-graph : (n : ℕ) (es l : List (ℕ × ℕ)) → from_edges n (merged es l) ≡ from_edges n (es ++ l)
merged-graph n es l = ap (λ (f : ℕ → ℕ → Bool). record { n = n; adj = f }) (fun_ext (λ u. fun_ext (λ v.
    same_test (listed (merged es l) u v) (listed (es ++ l) u v)
    (λ k. in_listed (es ++ l) u v (⊎_map (there (u, v)) (there (v, u)) (listed_in (merged es l) u v k)))
    (λ k. in_listed (merged es l) u v (⊎_map (back (u, v)) (back (v, u)) (listed_in (es ++ l) u v k))))))
  where
    or_both : (a b : ℕ) → 0 < a + b → (0 < a) ⊎ (0 < b)
    or_both zero b h = inr (omega arith)
    or_both (suc a) b h = inl (omega arith)

    there : (e : ℕ × ℕ) → In e (merged es l) → In e (es ++ l)
    there e m = ⊎_elim (λ k. in_left e es l (found e es k)) (λ k. in_right e es l (found e l k)) (or_both (times e es) (times e l) (omega (arith, merged-times e es l, stands e (merged es l) m)))

    back : (e : ℕ × ℕ) → In e (es ++ l) → In e (merged es l)
    back e m = found e (merged es l) (⊎_elim (λ k. omega (arith, merged-times e es l, stands e es k)) (λ k. omega (arith, merged-times e es l, stands e l k)) (in_append e es l m))

module _ (p : Plan) (a : Allowed p) (h : length p.edges + length (list_of p) ≤ 512) where
  abbrev M : Plan
  M = mended_plan p

  allowed : Allowed M
  allowed = mended_allowed list_right p a h

  records_are : records_from (plan_bytes p) ≡ mend_records p
  unfolding records_of
  records_are = read_records p a ∙ rw (le-ltb max_edges (length p.edges + length (list_of p)) h)

  figure : HasConnectivity (plan_graph M) 3
  figure = subst (λ (g : Graph). HasConnectivity g 3) (sym (merged-graph p.n p.edges (list_of p))) (list_mends p a).with_all

  grade : grade_made (graph_of M) ≡ 3
  unfolding graph_of
  grade = kind-connectivity M allowed ∙ sym ((figure_computed M allowed 3).0 figure)

  -- what the maker leaves in a buffer that is long enough
  makers : (buffer : List ℕ) → length (record_from (plan_bytes M)) ≤ length buffer → Begins buffer (record_from (plan_bytes M)) (filled_from (plan_bytes M) buffer) (made_from (plan_bytes M) buffer).length
  makers buffer l =
      let r = made-room (plan_bytes M) buffer (omega (arith, same_length (plan_bytes M))) in
      let n : (made_from (plan_bytes M) buffer).length ≡ length (record_from (plan_bytes M)) = ap (λ (m : Made). m.length) r.0 ∙ sym (same_length (plan_bytes M)) in
      subst (λ (k : ℕ). Begins buffer (record_from (plan_bytes M)) (filled_from (plan_bytes M) buffer) k) (sym n)
      (subst (λ (b : List ℕ). Begins buffer (record_from (plan_bytes M)) b (length (record_from (plan_bytes M)))) (sym r.1) (begun buffer (record_from (plan_bytes M))))

  abbrev Good : Records → Type 0
  Good x = (x.answer ≡ Grade 3) × (IsPlan x.list (list_plan p)) × (IsPlan x.mended M) × (HasFigure x.mended 3)
      × (length_from x.mended ≡ made (Grade 3) (length x.certificate)) × (check_of x.mended x.certificate ≡ Grade 3)
      × ((buffer : List ℕ) → length x.certificate ≤ length buffer → Begins buffer x.certificate (filled_from x.mended buffer) (made_from x.mended buffer).length)

  good : Good (mend_records p)
  good = (
    refl,
    record { allowed = list_allowed list_right p a (omega arith); bytes = refl },
    record { allowed = allowed; bytes = refl },
    record { plan = M; is_plan = record { allowed = allowed; bytes = refl }; figure = figure },
    length_at M allowed ∙ (λ i. made (Grade (grade i)) (length (sym (record_at M allowed) i))),
    ap (check_of (plan_bytes M)) (record_at M allowed) ∙ made-accepted M allowed ∙ ap Grade grade,
    makers,
  )

  records_mend : RecordsMend p
  records_mend =
      let g = subst Good (sym records_are) good in
      record { answer = g.0; list = g.1; mended = g.2; edges = λ e. merged-times e p.edges (list_of p); figure = g.3; graded = g.4; accepted = g.5; makers = g.6 }

pub the_records_mend : TheRecordsMend
the_records_mend = records_mend

-- ---- refusals

-- plan and list together have more than 512 cables
many : (p : Plan) → Allowed p → 512 < length p.edges + length (list_of p) → records_from (plan_bytes p) ≡ refusal 32 0
unfolding records_of
many p a h = read_records p a ∙ rw (lt-ltb max_edges (length p.edges + length (list_of p)) h)

pub refused-mends : RefusedMends
refused-mends P list mended certificate = record {
  fault = λ r q e. refused-answer P list mended certificate r q (fault_read (ended plan P 0) r q e);
  too_many = λ p i h. refused-answer P list mended certificate 32 0 (ap records_from i.bytes ∙ many p i.allowed h);
  too_short = λ p i h s. ap (λ (o : Outcome). o.answer.answer) (mend_short P list mended certificate (one_short P list mended certificate s));
  enough = λ p i h a b c. (written P list mended certificate a b c).answer ∙ ap (λ (s : List ℕ). (records_from s).answer) i.bytes ∙ (records_mend p i.allowed h).answer;
  kept = λ r q e. let k = kept P list mended certificate r q e in (k.0, k.1, k.2);
  nothing_told = λ r q e. let k = kept P list mended certificate r q e in (k.3, k.4, k.5);
}
