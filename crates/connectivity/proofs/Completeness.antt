-- Every graph has a certificate that keeps every rule. The certifier's way: a tree, or a side; ears, or a cut vertex; a build, or a
-- separation pair. Its steps stand in Search, FirstLinks, Progress and Recorded (the reroute), and here:
--   separated-side: a closed set is a side;  spanning_tree;  first_ear_lem, ear-step, all-ears;  finished_build.
use mathlib.Core.Path.{◌≡◌, refl, sym, ◌∙◌, subst, ap}
use mathlib.Core.Logic.{◌⊎◌, ⊎_map, inl, inr, ⊎_elim}
use mathlib.Core.List.{List, [], ◌∷◌, ◌++◌}
use mathlib.Core.Bool.{true}
use Prim.Native.Nat.{ℕ, ◌<◌, ◌+◌, zero, suc, ◌-◌, ◌≤◌, min}
use native.Mathlib.Omega.{arith}
use native.Mathlib.Decide.{ℕ_discrete}
use lib.ListN.{length, length-append}
use Rattle.connectivity.specs.Lists.{select, below, In, member, NoDup}
use Rattle.connectivity.specs.Graph.{Graph, Simple, Adj, edges, edge_count}
use Rattle.connectivity.specs.Connectivity.{connectivity}
use Rattle.connectivity.specs.Path.{Path, vertices, link, used_edges, edge, path_edges}
use Rattle.connectivity.specs.Build.{IsBranch, final}
use Rattle.connectivity.specs.Certificate.{Separation, Tree, Cycle, Ear, Ears, inside, Certificate, Rules, BuildRules, build, tree, separation, ears, grade}
use Rattle.connectivity.proofs.Lists.{ascending_below, select_in, in_below, clash, in_select, below_in, scan, in?, true?, either, in_member, member-in, out_member, at_most, in_single, at_least, nodup_append, in_append, beside, and_not?, in_two_swap}
use Rattle.connectivity.proofs.Paths.{nodup_inner, inner_in, two_vertices, edge-sorted, in_used, consecutive_path, edge-comm, built_vertices, length_path}
use Rattle.connectivity.proofs.Edges.{edge-high, edge-differ, path-low, edges-in}
use Rattle.connectivity.proofs.Start.{the_four, nodup_starts, start-path}
use Rattle.connectivity.proofs.Soundness.{named, tree_length, tree_nodup, tree_low, grade-connectivity}
use Rattle.connectivity.proofs.EdgeUse.{build-count, used_most}
use Rattle.connectivity.proofs.Search.{detour, detour-path, Searched, Found, detour-new, search}
use Rattle.connectivity.proofs.Recorded.{Recorded, recorded_path, rerouted, reroute, reroute-longer}
use Rattle.connectivity.proofs.Progress.{Separated, CutVertex, closed_separated, none-cut, Finished, SeparationPair, progress, Reroute, Next, finished, separated_by, extended, rerouted_at, separated_same}
use Rattle.connectivity.proofs.FirstLinks.{cycle-through, Around, OtherNeighbour, start-low, from_vertex, Begin, begun, broken}
use Rattle.connectivity.proofs.RecordedSteps.{build-of, BuildOf, branch_end, build-used}

-- A CLOSED SET IS A SIDE.
pub side-separation : (g : Graph) (X : List ℕ) (t : Separated g X) → Separation g X (select t.side (below g.n))
side-separation g X t = record {
  ascending = ascending_below t.side g.n;
  remaining = λ u h. let r = select_in t.side (below g.n) u h in (in_below g.n u r.0, λ k. clash r.1 (t.out u k));
  some_side = (t.w, into t.w t.w_low t.w_in);
  some_rest = (t.v, (t.v_left, λ h. clash (select_in t.side (below g.n) t.v h).1 t.v_out));
  no_edge = λ u v h r k. r.1 (into v r.0.0 (t.closed u v (select_in t.side (below g.n) u h).1 k r.0.1));
}
  where
    into : (u : ℕ) → u < g.n → t.side u ≡ true → In u (select t.side (below g.n))
    into u h e = in_select t.side (below g.n) u (below_in g.n u h) e

pub separated_side : (g : Graph) (X : List ℕ) → Separated g X → (S : List ℕ) × Separation g X S
separated_side g X t = (select t.side (below g.n), side-separation g X t)

module _ (g : Graph) (p : Simple g) where
  -- an edge out of T, or none
  abbrev ClosedList : List ℕ → Type 0
  ClosedList T = (u v : ℕ) → In u T → Adj g u v → In v T

  abbrev Exit : List ℕ → Type 0
  Exit T = (u : ℕ) × (v : ℕ) × In u T × Adj g u v × (¬ In v T)

  exit? : (T : List ℕ) → ClosedList T ⊎ Exit T
  exit? T = ⊎_map (λ f u v h k. f u (p.low u v k) v (edge-high g p u v k) h k) (λ r. (r.0, r.2.0, r.2.2.0, r.2.2.1, r.2.2.2))
      (scan (λ u. (v : ℕ) → v < g.n → In u T → Adj g u v → In v T) (λ u. (v : ℕ) × (v < g.n) × (In u T × Adj g u v × (¬ In v T))) (λ u. scan (λ v. In u T → Adj g u v → In v T) (λ v. In u T × Adj g u v × (¬ In v T)) (λ v. one u v (in? u T) (true? (g.adj u v)) (in? v T)) g.n) g.n)
    where
      one : (u v : ℕ) → Dec (In u T) → Dec (Adj g u v) → Dec (In v T) → (In u T → Adj g u v → In v T) ⊎ (In u T × Adj g u v × (¬ In v T))
      one u v (no h) k t = inl (λ a b. absurd (h a))
      one u v (yes h) (no k) t = inl (λ a b. absurd (k b))
      one u v (yes h) (yes k) (yes t) = inl (λ a b. t)
      one u v (yes h) (yes k) (no t) = inr (h, k, t)

  -- a closed list holds every vertex, or is a side
  all-or_separated : (T : List ℕ) (s : ℕ) → In s T → s < g.n → ClosedList T → ((z : ℕ) → z < g.n → In z T) ⊎ Separated g []
  all-or_separated T s hs low c = ⊎_map (λ f. f) apart (scan (λ z. In z T) (λ z. ¬ In z T) (λ z. either (in? z T)) g.n)
    where
      apart : ((z : ℕ) × (z < g.n) × (¬ In z T)) → Separated g []
      apart r = record {
        side = λ (w : ℕ). member w T;
        out = λ w k. absurd k;
        closed = λ u v e k n. in_member v T (c u v (member-in u T e) k);
        w = s;
        w_low = low;
        w_in = in_member s T hs;
        v = r.0;
        v_left = (r.1, λ k. k);
        v_out = out_member r.0 T r.2;
      }

  abbrev Fair : List ℕ → Type 0
  Fair T = NoDup T × ((w : ℕ) → In w T → w < g.n)

  -- 1. A SPANNING TREE, OR A SIDE
  abbrev Spans : List ℕ → Type 0
  Spans T = (ps : List (ℕ × ℕ)) × Tree g T ps × ((z : ℕ) → z < g.n → In z (named T ps))

  tree_run : (fuel : ℕ) (T : List ℕ) (s : ℕ) → In s T → Fair T → g.n < length T + fuel → Spans T ⊎ Separated g []
  tree_run zero T s hs t h = absurd (omega (arith, at_most g.n T t.0 t.1))
  tree_run (suc fuel) T s hs t h = ⊎_elim (λ c. ⊎_map (λ f. ([], tt, f)) (λ k. k) (all-or_separated T s hs (t.1 s hs) c)) (λ r. more r (tree_run fuel (r.1 ∷ T) s (inr hs) (fair r) (omega arith))) (exit? T)
    where
      fair : (r : Exit T) → Fair (r.1 ∷ T)
      fair r = ((r.4, t.0), λ w k. ⊎_elim (λ e. rw e (edge-high g p r.0 r.1 r.3)) (t.1 w) k)

      more : (r : Exit T) → Spans (r.1 ∷ T) ⊎ Separated g [] → Spans T ⊎ Separated g []
      more r = ⊎_map (λ s. ((r.1, r.0) ∷ s.0, (r.4, r.2, p.symmetric r.0 r.1 r.3, s.1), s.2)) (λ k. k)

  abbrev SpanningTree : Type 0
  SpanningTree = (ps : List (ℕ × ℕ)) × (length ps ≡ g.n - 1) × Tree g (0 ∷ []) ps

  pub spanning_tree : SpanningTree ⊎ Separated g []
  spanning_tree = ⊎_map (λ r. (r.0, size r.0 r.1 r.2, r.1)) (λ k. k) (tree_run g.n (0 ∷ []) 0 (inl refl) (((λ k. k), tt), zero_low) (omega arith))
    where
      zero_low : (w : ℕ) → In w (0 ∷ []) → w < g.n
      zero_low w h = omega (arith, p.big, in_single w 0 h)

      size : (ps : List (ℕ × ℕ)) → Tree g (0 ∷ []) ps → ((z : ℕ) → z < g.n → In z (named (0 ∷ []) ps)) → length ps ≡ g.n - 1
      size ps t f = omega (arith, tree_length (0 ∷ []) ps, at_most g.n (named (0 ∷ []) ps) (tree_nodup g p (0 ∷ []) ps t ((λ k. k), tt)) (tree_low g p (0 ∷ []) ps t zero_low), at_least g.n (named (0 ∷ []) ps) f)

  -- 2. EARS, OR A CUT VERTEX
  abbrev pub OtherIn : List ℕ → ℕ → ℕ → Type 0
  OtherIn B u v = In v B × (¬ (v ≡ u))

  detour-long : (P : Path) (x a : ℕ) → 3 ≤ length (vertices (link x (a ∷ P.inner) P.t))
  detour-long P x a = omega (arith, length-append P.inner (P.t ∷ []))

  -- the first ear: a cycle
  pub first_ear_lem : (a : ℕ) → a < g.n → ((P : Path) × Cycle g P) ⊎ CutVertex g
  first_ear_lem a la = ⊎_map (λ r. go r.0 r.1 r.2) (λ c. c) (cycle-through g p a la)
    where
      go : (x : ℕ) → Adj g a x → Around g p a la x → (P : Path) × Cycle g P
      go x kx f = (
        detour g p (OtherNeighbour g p a la x) a x kx f,
        record {
          is_path = detour-path g p (OtherNeighbour g p a la x) a x kx f (λ v h. edge-differ g p a v h.0);
          closes = p.symmetric a f.path.t f.goal.0;
          long = detour-long f.path a f.path.s;
        },
      )

  -- an edge from u in B to w outside, and a path from w to another vertex of B without u: an ear
  pub ear-step : (B : List ℕ) (u w : ℕ) → In u B → Adj g u w → ¬ In w B → (b : ℕ) → b < g.n → OtherIn B u b → Searched g (λ v. v ≡ w) (OtherIn B u) (λ v. In v (u ∷ [])) → ((P : Path) × Ear g B P) ⊎ CutVertex g
  ear-step B u w hu k nw b hb gb = ⊎_map found (λ c. (u, p.low u w k, closed_separated g (λ v. v ≡ w) (OtherIn B u) (u ∷ []) c w (edge-high g p u w k) refl b (hb, λ h. gb.1 (in_single b u h)) gb))
    where
      found : Found g (λ v. v ≡ w) (OtherIn B u) (λ v. In v (u ∷ [])) → (P : Path) × Ear g B P
      found f = (
        detour g p (OtherIn B u) u w k f,
        record {
          is_path = detour-path g p (OtherIn B u) u w k f (λ v h. h.1);
          from = hu;
          upto = f.goal.0;
          new = detour-new g p (OtherIn B u) u w k f B nw (λ v h n. (h, n));
          long = detour-long f.path u f.path.s;
        },
      )

  abbrev Covers : List ℕ → Type 0
  Covers B = (es : List Path) × Ears g B es × ((z : ℕ) → z < g.n → In z (inside B es))

  pub ear-fair : (B : List ℕ) (P : Path) → Ear g B P → Fair B → Fair (P.inner ++ B)
  ear-fair B P e t = (nodup_append P.inner B (nodup_inner P e.is_path.nodup) t.0 e.new, λ w h. ⊎_elim (λ k. path-low g p P e.is_path w (inner_in w P k)) (t.1 w) (in_append w P.inner B h))

  pub ear-grows : (B : List ℕ) (P : Path) → Ear g B P → length B < length (P.inner ++ B)
  ear-grows B P e = omega (arith, e.long, length-append P.inner B, length-append P.inner (P.t ∷ []))

  ears-run : (fuel : ℕ) (B : List ℕ) → 2 ≤ length B → Fair B → g.n < length B + fuel → Covers B ⊎ CutVertex g
  ears-run zero B two t h = absurd (omega (arith, at_most g.n B t.0 t.1))
  ears-run (suc fuel) B two t h = ⊎_elim stop (λ r. ⊎_elim (λ e. more e (ears-run fuel (e.0.inner ++ B) (omega (arith, ear-grows B e.0 e.1)) (ear-fair B e.0 e.1 t) (omega (arith, ear-grows B e.0 e.1)))) inr (step r)) (exit? B)
    where
      stop : ClosedList B → Covers B ⊎ CutVertex g
      stop c = let s = beside B [] t.0 (omega arith) in ⊎_map (λ f. ([], tt, f)) (none-cut g p) (all-or_separated B s.0 s.1 (t.1 s.0 s.1) c)

      step : Exit B → ((P : Path) × Ear g B P) ⊎ CutVertex g
      step r =
          let u = r.0 in
          let w = r.1 in
          let b = beside B (u ∷ []) t.0 (omega arith) in
          ear-step B u w r.2 r.3 r.4 b.0 (t.1 b.0 b.1) (b.1, λ e. b.2 (inl e)) (search g p (λ v. v ≡ w) (OtherIn B u) (λ v. In v (u ∷ [])) (λ v. ℕ_discrete v w) (λ v. and_not? (in? v B) (ℕ_discrete v u)) (λ v. in? v (u ∷ []))
          (λ v e o. r.4 (rw e at o.0)) (λ v e h. edge-differ g p u w r.3 (sym e ∙ in_single v u h)))

      more : (e : (P : Path) × Ear g B P) → Covers (e.0.inner ++ B) ⊎ CutVertex g → Covers B ⊎ CutVertex g
      more e = ⊎_map (λ c. (e.0 ∷ c.0, (e.1, c.1), c.2)) (λ k. k)

  pub record EarDecomposition : Type 0 where
    pub first : Path
    pub later : List Path
    pub cycle : Cycle g first
    pub are_ears : Ears g (vertices first) later
    pub all_in : (z : ℕ) → z < g.n → In z (inside (vertices first) later)
    pub count : suc (length later) ≤ g.n - 2

  pub ears-size : (B : List ℕ) (es : List Path) → Fair B → Ears g B es → Fair (inside B es) × (length B + length es ≤ length (inside B es))
  ears-size B [] t y = (t, omega arith)
  ears-size B (P ∷ es) t y = let r = ears-size (P.inner ++ B) es (ear-fair B P y.0 t) y.1 in (r.0, omega (arith, ear-grows B P y.0))

  pub all-ears : EarDecomposition ⊎ CutVertex g
  all-ears = ⊎_elim (λ r. go r.0 r.1) inr (first_ear_lem 0 (omega (arith, p.big)))
    where
      go : (P : Path) → Cycle g P → EarDecomposition ⊎ CutVertex g
      go P y = ⊎_map (λ c. record { first = P; later = c.0; cycle = y; are_ears = c.1; all_in = c.2; count = count c.0 c.1 }) (λ k. k) (ears-run (suc g.n) (vertices P) (two_vertices P) fair (omega arith))
        where
          fair : Fair (vertices P)
          fair = (y.is_path.nodup, path-low g p P y.is_path)

          count : (es : List Path) → Ears g (vertices P) es → suc (length es) ≤ g.n - 2
          count es k = let r = ears-size (vertices P) es fair k in omega (arith, y.long, r.1, at_most g.n (inside (vertices P) es) r.0.0 r.0.1)

  -- 3. A BUILD, OR A SEPARATION PAIR
  abbrev pub RuleKeeping : Type 0
  RuleKeeping = (x : Certificate) × Rules g x

  pub finished_rules : (ls : List Path) → Recorded (Adj g) ls → Finished g ls → (b : BuildOf (Adj g) ls) → BuildRules g b.subdivision.p b.subdivision.q b.subdivision.r b.subdivision.s b.start b.further
  finished_rules ls val fin b =
      let x = b.subdivision in
      let n = build-count g p b.start b.further x b.steps (branch b) (used b) in record {
        first = record {
          pq = x.pq;
          qr = x.qr;
          rs = x.rs;
          low = start-low g p (the_four x) b.start x.paths x.s (omega arith) (inr (inr (inr (inl refl))));
          shape = x.paths.shape;
          starts = nodup_starts (Adj g) (the_four x) b.start (start-path (Adj g) (the_four x) b.start x.paths) x.paths.nodup;
        };
        enough = omega (arith, n);
        count = omega (arith, n);
        steps = b.steps;
        all-branch = branch b;
      }
    where
      branch : (b : BuildOf (Adj g) ls) → (z : ℕ) → z < g.n → IsBranch z (final b.start b.further)
      branch b z h = subst (λ (k : List Path). IsBranch z k) (sym b.links) (branch_end (Adj g) ls (recorded_path (Adj g) ls val) z (fin.all-branch z h))

      edge-used : (e : ℕ × ℕ) → In e (edges g) → In e (used_edges ls)
      edge-used e h =
          let k = edges-in g e h in
          let r = fin.used e.0 e.1 k.1 in
          subst (λ (f : ℕ × ℕ). In f (used_edges ls)) (edge-sorted e.0 e.1 k.0) (in_used ls (edge e.0 e.1) r.0 r.1 (⊎_elim (consecutive_path r.0 e.0 e.1) (λ i. rw (edge-comm e.0 e.1) (consecutive_path r.0 e.1 e.0 i)) r.2))

      used : (b : BuildOf (Adj g) ls) → (e : ℕ × ℕ) → In e (edges g) → In e (used_edges (final b.start b.further))
      used b e h = subst (λ (k : List (ℕ × ℕ)). In e k) (sym (build-used (Adj g) ls b)) (edge-used e h)

  pub finished_build : (ls : List Path) → Recorded (Adj g) ls → Finished g ls → RuleKeeping
  finished_build ls val fin = let b = build-of (Adj g) ls val in let x = b.subdivision in (build x.p x.q x.r x.s b.start b.further, finished_rules ls val fin b)

  -- the record uses at most all edges, and every step uses more
  pub recorded_most : (ls : List Path) → Recorded (Adj g) ls → length (used_edges ls) ≤ edge_count g
  recorded_most ls val = let b = build-of (Adj g) ls val in omega (arith, ap length (build-used (Adj g) ls b), used_most g p b.start b.further b.subdivision b.steps)

  build-run : (fuel : ℕ) (ls : List Path) → Recorded (Adj g) ls → edge_count g < length (used_edges ls) + fuel → RuleKeeping ⊎ SeparationPair g
  build-run zero ls val h = absurd (omega (arith, recorded_most ls val))
  build-run (suc fuel) ls val h = go (progress g p ls val) (build-run fuel)
    where
      Run : Type 0
      Run = (ms : List Path) → Recorded (Adj g) ms → edge_count g < length (used_edges ms) + fuel → RuleKeeping ⊎ SeparationPair g

      again : Run → Reroute g ls → RuleKeeping ⊎ SeparationPair g
      again run r =
          let v = subst (λ (k : List Path). Recorded (Adj g) k) r.place val in
          let new : (w : ℕ) → In w r.q → ¬ In w (built_vertices (r.newer ++ (r.L ∷ r.older))) = subst (λ (k : List Path). (w : ℕ) → In w r.q → ¬ In w (built_vertices k)) r.place r.new in
          run (rerouted (Adj g) r.newer r.L r.older v r.x r.y r.consecutive r.q r.along r.nodup new)
          (reroute (Adj g) r.newer r.L r.older v r.x r.y r.consecutive r.q r.along r.nodup new)
          (omega (arith, r.some, ap (λ (k : List Path). length (used_edges k)) r.place, reroute-longer (Adj g) r.newer r.L r.older v r.x r.y r.consecutive r.q r.along r.nodup new))

      go : Next g ls → Run → RuleKeeping ⊎ SeparationPair g
      go (finished f) run = inl (finished_build ls val f)
      go (separated_by t) run = inr t
      go (extended P f) run = run (P ∷ ls) (inr (f, val)) (omega (arith, length-append (path_edges P) (used_edges ls), length_path P))
      go (rerouted_at r) run = again run r

  pub build-or_pair : RuleKeeping ⊎ SeparationPair g
  build-or_pair = go (from_vertex g p 0 (omega (arith, p.big)))
    where
      go : Begin g → RuleKeeping ⊎ SeparationPair g
      go (begun ls val) = build-run (suc (edge_count g)) ls val (omega arith)
      go (broken t) = inr t

  -- the certificates of kinds 1 and 2; the pair in the order of the record
  cut-certificate : SpanningTree → CutVertex g → RuleKeeping
  cut-certificate t c = let s = separated_side g (c.0 ∷ []) c.2 in (tree c.0 0 t.0 s.0, record { c_low = c.1; first_low = omega (arith, p.big); count = t.1; tree = t.2; separation = s.1 })

  pair-certificate : EarDecomposition → SeparationPair g → RuleKeeping
  pair-certificate o t = go (ℕ_discrete (min t.c t.d) t.c)
    where
      make : (c d : ℕ) → c < d → d < g.n → ((v : ℕ) → In v (c ∷ (d ∷ [])) → In v (t.c ∷ (t.d ∷ []))) → ((v : ℕ) → In v (t.c ∷ (t.d ∷ [])) → In v (c ∷ (d ∷ []))) → RuleKeeping
      make c d h low to from =
          let s = separated_side g (c ∷ (d ∷ [])) (separated_same g (t.c ∷ (t.d ∷ [])) (c ∷ (d ∷ [])) to from t.separated) in
          (ears c d o.first o.later s.0, record { order = h; low = low; count = o.count; first = o.cycle; ears = o.are_ears; all_in = o.all_in; separation = s.1 })

      go : Dec (min t.c t.d ≡ t.c) → RuleKeeping
      go (yes e) = make t.c t.d (omega (arith, t.differ)) t.d_low (λ v h. h) (λ v h. h)
      go (no e) = make t.d t.c (omega (arith, t.differ)) t.c_low (in_two_swap t.d t.c) (in_two_swap t.c t.d)

  -- EVERY GRAPH HAS A CERTIFICATE THAT KEEPS EVERY RULE.
  certify : RuleKeeping
  certify = ⊎_elim (λ t. ⊎_elim (λ o. ⊎_elim (λ x. x) (pair-certificate o) build-or_pair) (cut-certificate t) all-ears) (λ t. let s = separated_side g [] t in (separation s.0, s.1)) spanning_tree

  pub certificate-exists : (x : Certificate) × Rules g x × (grade x ≡ connectivity g)
  certificate-exists = (certify.0, certify.1, grade-connectivity g p certify.0 certify.1)
