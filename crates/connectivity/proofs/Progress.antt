-- One step of the certifier: a recorded build is finished, or a further path extends it, or a path is rerouted, or two vertices
-- separate the graph. The steps, each from the answer of a search:
--   (a) link-step: from the inner vertices of a link to the rest of the build, without the link's ends;
--   (b) out_step: along an edge out of the build and back to another of its vertices, or reroute;
--   (c) edge-step: an edge that is not used;
--   progress: one of them.
use mathlib.Core.Path.{◌≡◌, sym, ap, refl, subst, ◌∙◌}
use mathlib.Core.Logic.{◌≢◌, ⊎_elim, inr, inl, ◌⊎◌, ⊎_map}
use mathlib.Core.List.{List, ◌∷◌, [], ◌++◌, append_assoc}
use mathlib.Core.Bool.{Bool, false, true}
use Prim.Native.Nat.{ℕ, ◌<◌}
use native.Mathlib.Omega.{arith}
use native.Mathlib.Decide.{ℕ_discrete}
use lib.ListN.{length}
use Rattle.connectivity.specs.Lists.{In, NoDup}
use Rattle.connectivity.specs.Graph.{Graph, Adj, Remaining, Simple}
use Rattle.connectivity.specs.Path.{Path, Along, vertices, link, IsPath}
use Rattle.connectivity.proofs.Lists.{is_yes, no_false, clash, yes_true, true_yes, and_not?, true?, vertex-beside, in?, in_right, in_left, in_append, nodup_left, nodup_right, in_single, in_split, rev, nodup_rev, rev_in, length_rev, never?, scan, either, all-in?}
use Rattle.connectivity.proofs.Order.{Separates, Between, between_join, between-right}
use Rattle.connectivity.proofs.Paths.{Consecutive, built_vertices, branch_vertices, Neighbours, between-or_consecutive, built_in_lem, branch_built, in_built, inner_in, end_or_inner, ends_differ, inner_of, in_branch, nodup_inner, along-rev, last_of, last_of_lem, along-last}
use Rattle.connectivity.proofs.Edges.{path-low, edge-high}
use Rattle.connectivity.proofs.Search.{Found, Closed, Searched, search, detour-path, detour-new}
use Rattle.connectivity.proofs.Recorded.{Extends, Apart, Recorded, recorded_path, recorded_sole, branch_beside}

-- A CLOSED SET IS A SEPARATION: outside X no edge leaves it.
pub record Separated (g : Graph) (X : List ℕ) : Type 0 where
  pub side : ℕ → Bool
  pub out : (w : ℕ) → In w X → side w ≡ false
  pub closed : (u v : ℕ) → side u ≡ true → Adj g u v → ¬ In v X → side v ≡ true
  pub w : ℕ
  pub w_low : w < g.n
  pub w_in : side w ≡ true
  pub v : ℕ
  pub v_left : Remaining g X v
  pub v_out : side v ≡ false

pub closed_separated : (g : Graph) (S G : ℕ → Type 0) (X : List ℕ) → Closed g S G (λ z. In z X) → (w : ℕ) → w < g.n → S w → (v : ℕ) → Remaining g X v → G v → Separated g X
closed_separated g S G X c w hw sw v hv gv = record { side = c.side; out = c.gone; closed = c.closed; w = w; w_low = hw; w_in = c.seeds w sw; v = v; v_left = hv; v_out = c.goals v gv }

-- one vertex more may be removed
separated_more : (g : Graph) (X : List ℕ) (t : Separated g X) (d : ℕ) → d ≢ t.w → d ≢ t.v → Separated g (d ∷ X)
separated_more g X t d dw dv = record {
  side = λ (z : ℕ). is_yes (side? z);
  out = λ z h. no_false (side? z) (λ k. ⊎_elim k.1 (λ j. clash k.0 (t.out z j)) h);
  closed = λ x y h k n. yes_true (side? y) (t.closed x y (true_yes (side? x) h).0 k (λ j. n (inr j)), λ j. n (inl j));
  w = t.w;
  w_low = t.w_low;
  w_in = yes_true (side? t.w) (t.w_in, λ e. dw (sym e));
  v = t.v;
  v_left = (t.v_left.0, λ h. ⊎_elim (λ e. dv (sym e)) t.v_left.1 h);
  v_out = no_false (side? t.v) (λ k. clash k.0 t.v_out);
}
  where
    side? : (z : ℕ) → Dec ((t.side z ≡ true) × (¬ (z ≡ d)))
    side? z = and_not? (true? (t.side z)) (ℕ_discrete z d)

-- the order of the removed vertices does not matter
pub separated_same : (g : Graph) (X Y : List ℕ) → ((v : ℕ) → In v Y → In v X) → ((v : ℕ) → In v X → In v Y) → Separated g X → Separated g Y
separated_same g X Y to from t = record { side = t.side; out = λ w k. t.out w (to w k); closed = λ u v h k n. t.closed u v h k (λ j. n (from v j)); w = t.w; w_low = t.w_low; w_in = t.w_in; v = t.v; v_left = (t.v_left.0, λ k. t.v_left.1 (to t.v k)); v_out = t.v_out }

-- two vertices that separate the graph
pub record SeparationPair (g : Graph) : Type 0 where
  pub c : ℕ
  pub d : ℕ
  pub c_low : c < g.n
  pub d_low : d < g.n
  pub differ : c ≢ d
  pub separated : Separated g (c ∷ (d ∷ []))

abbrev pub CutVertex : Graph → Type 0
CutVertex g = (c : ℕ) × (c < g.n) × Separated g (c ∷ [])

module _ (g : Graph) (p : Simple g) where
  pub none-cut : Separated g [] → CutVertex g
  none-cut t = let c = vertex-beside g.n p.big t.w t.v t.v in (c.0, c.1, separated_more g [] t c.0 (λ e. c.2 (inl e)) (λ e. c.2 (inr (inl e))))

  pub cut-pair : CutVertex g → SeparationPair g
  cut-pair r =
      let t = r.2 in
      let d = vertex-beside g.n p.big r.0 t.w t.v in
      record { c = d.0; d = r.0; c_low = d.1; d_low = r.1; differ = λ e. d.2 (inl e); separated = separated_more g (r.0 ∷ []) t d.0 (λ e. d.2 (inr (inl e))) (λ e. d.2 (inr (inr (inl e)))) }

-- new vertices between two neighbours on a path of the record
pub record Reroute (g : Graph) (ls : List Path) : Type 0 where
  pub newer : List Path
  pub L : Path
  pub older : List Path
  pub place : ls ≡ newer ++ (L ∷ older)
  pub x : ℕ
  pub y : ℕ
  pub consecutive : Consecutive L x y
  pub q : List ℕ
  pub along : Along (Adj g) x q y
  pub nodup : NoDup q
  pub new : (w : ℕ) → In w q → ¬ In w (built_vertices ls)
  pub some : 0 < length q

pub record Finished (g : Graph) (ls : List Path) : Type 0 where
  pub all-branch : (z : ℕ) → z < g.n → In z (branch_vertices ls)
  pub used : (u v : ℕ) → Adj g u v → (M : Path) × In M ls × Neighbours M u v

pub data Next (g : Graph) (ls : List Path) : Type 0 where
  finished : Finished g ls → Next g ls
  extended : (P : Path) → Extends (Adj g) ls P → Next g ls
  rerouted_at : Reroute g ls → Next g ls
  separated_by : SeparationPair g → Next g ls

-- cutting a list at the last, and at the first, of its branch vertices
abbrev pub NoneIn : List ℕ → List ℕ → Type 0
NoneIn B l = (z : ℕ) → In z l → ¬ In z B

abbrev Last : List ℕ → List ℕ → Type 0
Last B l = (u : List ℕ) × (a : ℕ) × (m : List ℕ) × (l ≡ u ++ (a ∷ m)) × In a B × NoneIn B m

abbrev First : List ℕ → List ℕ → Type 0
First B l = (m : List ℕ) × (b : ℕ) × (v : List ℕ) × (l ≡ m ++ (b ∷ v)) × In b B × NoneIn B m

none-cons : (B : List ℕ) (a : ℕ) (l : List ℕ) → ¬ In a B → NoneIn B l → NoneIn B (a ∷ l)
none-cons B a l h f z (inl e) k = h (rw e at k)
none-cons B a l h f z (inr m) k = f z m k

last_branch : (B l : List ℕ) → NoneIn B l ⊎ Last B l
last_branch B [] = inl (λ z h k. h)
last_branch B (c ∷ l) = go (in? c B) (last_branch B l)
  where
    go : Dec (In c B) → NoneIn B l ⊎ Last B l → NoneIn B (c ∷ l) ⊎ Last B (c ∷ l)
    go d (inr r) = inr (c ∷ r.0, r.1, r.2, ap (λ (k : List ℕ). c ∷ k) r.3, r.4, r.5)
    go (yes h) (inl f) = inr ([], c, l, refl, h, f)
    go (no h) (inl f) = inl (none-cons B c l h f)

first_branch : (B l : List ℕ) → NoneIn B l ⊎ First B l
first_branch B [] = inl (λ z h k. h)
first_branch B (c ∷ l) = go (in? c B) (first_branch B l)
  where
    go : Dec (In c B) → NoneIn B l ⊎ First B l → NoneIn B (c ∷ l) ⊎ First B (c ∷ l)
    go (yes h) r = inr ([], c, l, refl, h, λ z k j. k)
    go (no h) (inl f) = inl (none-cons B c l h f)
    go (no h) (inr r) = inr (c ∷ r.0, r.1, r.2, ap (λ (k : List ℕ). c ∷ k) r.3, r.4, none-cons B c r.0 h r.5)

-- on each path that has both x and y a branch vertex stands between them, or they are neighbours on one
apart_or_consecutive : (B : List ℕ) (x y : ℕ) → x ≢ y → (ms : List Path) → ((M : Path) → In M ms → (z : ℕ) → In z (vertices M) → In z B)
    → ((M : Path) → In M ms → Apart B (vertices M) x y) ⊎ ((M : Path) × In M ms × Neighbours M x y)
apart_or_consecutive B x y ne [] f = inl (λ M h. absurd h)
apart_or_consecutive B x y ne (M ∷ ms) f = ⊎_elim (λ g. ⊎_map (λ p N h. ⊎_elim (λ e. rw e p) (g N) h) (λ k. (M, inl refl, k)) one) (λ r. inr (r.0, inr r.1, r.2)) (apart_or_consecutive B x y ne ms (λ N h. f N (inr h)))
  where
    one : Apart B (vertices M) x y ⊎ Neighbours M x y
    one = go (in? x (vertices M)) (in? y (vertices M))
      where
        go : Dec (In x (vertices M)) → Dec (In y (vertices M)) → Apart B (vertices M) x y ⊎ Neighbours M x y
        go (no h) d = inl (λ hx hy. absurd (h hx))
        go (yes h) (no k) = inl (λ hx hy. absurd (k hy))
        go (yes h) (yes k) = ⊎_map (λ b hx hy. (b.0, f M (inl refl) b.0 b.1, b.2)) (λ g. g) (between-or_consecutive M.s M.inner M.t x y h k ne)

module _ (g : Graph) (p : Simple g) (ls : List Path) (val : Recorded (Adj g) ls) where
  pub built_low : (w : ℕ) → In w (built_vertices ls) → w < g.n
  built_low w h = let r = built_in_lem ls w h in path-low g p r.0 (recorded_path (Adj g) ls val r.0 r.1) w r.2

  branch_low : (w : ℕ) → In w (branch_vertices ls) → w < g.n
  branch_low w h = built_low w (branch_built ls w h)

  -- (a) A LINK WITH AN INNER VERTEX: the part K of the path L, whose ends alone are branch vertices.
  module _ (L : Path) (h_l : In L ls) (K : Path) (u v : List ℕ) (cut : vertices L ≡ u ++ (vertices K ++ v)) (hs : In K.s (branch_vertices ls)) (ht : In K.t (branch_vertices ls)) (hm : NoneIn (branch_vertices ls) K.inner) where
    abbrev pub OffLink : ℕ → Type 0
    OffLink z = In z (built_vertices ls) × (¬ In z (vertices K))

    abbrev pub link_ends_of : List ℕ
    link_ends_of = K.s ∷ (K.t ∷ [])

    on_path_lem : (z : ℕ) → In z (vertices K) → In z (vertices L)
    on_path_lem z h = subst (λ (k : List ℕ). In z k) (sym cut) (in_right z u (vertices K ++ v) (in_left z (vertices K) v h))

    inside-outside : (x y : ℕ) → In x K.inner → ¬ In y (vertices K) → In y (vertices L) → (z : ℕ) × In z (branch_vertices ls) × Separates z x y (vertices L)
    inside-outside x y hx ny hy = ⊎_elim early (λ h. ⊎_elim (λ k. absurd (ny k)) late (in_append y (vertices K) v h)) (in_append y u (vertices K ++ v) (subst (λ (k : List ℕ). In y k) cut hy))
      where
        early : In y u → (z : ℕ) × In z (branch_vertices ls) × Separates z x y (vertices L)
        early h = (K.s, hs, inr (subst (λ (k : List ℕ). Between y K.s x k) (sym cut) (between_join y K.s x u (vertices K ++ v) h (inl (refl, in_left x (K.inner ++ (K.t ∷ [])) v (in_left x K.inner (K.t ∷ []) hx))))))

        late : In y v → (z : ℕ) × In z (branch_vertices ls) × Separates z x y (vertices L)
        late h = (K.t, ht, inl (subst (λ (k : List ℕ). Between x K.t y k) (sym cut) (between-right x K.t y u (vertices K ++ v) (inr (subst (λ (k : List ℕ). Between x K.t y k) (sym (append_assoc K.inner (K.t ∷ []) v)) (between_join x K.t y K.inner (K.t ∷ v) hx (inl (refl, h))))))))

    pub link-extends : (f : Found g (λ z. In z K.inner) OffLink (λ z. In z link_ends_of)) → Extends (Adj g) ls f.path
    link-extends f = record {
      is_path = f.is_path;
      from = in_built L ls f.path.s h_l (on_path_lem f.path.s (inner_in f.path.s K f.seed));
      upto = f.goal.0;
      new = λ z h k. (f.off z h).1 (k, λ j. ⊎_elim (λ e. (f.off z h).2 (⊎_map (λ i. i) inl e)) (f.off z h).0 (end_or_inner K z j));
      apart = λ M hM x y. same M x y (recorded_sole (Adj g) ls val M L hM h_l f.path.s x (on_path_lem f.path.s (inner_in f.path.s K f.seed)) (hm f.path.s f.seed));
    }
      where
        same : (M : Path) → In f.path.s (vertices M) → In f.path.t (vertices M) → M ≡ L → (z : ℕ) × In z (branch_vertices ls) × Separates z f.path.s f.path.t (vertices M)
        same M x y e = rw e (inside-outside f.path.s f.path.t f.seed f.goal.1 (rw e at y))

    pub link-step : (w : ℕ) → In w K.inner → Searched g (λ z. In z K.inner) OffLink (λ z. In z link_ends_of) → Next g ls
    link-step w hw (inl f) = extended f.path (link-extends f)
    link-step w hw (inr c) =
        let z = branch_beside (Adj g) ls val link_ends_of (omega arith) in
        separated_by (record {
          c = K.s;
          d = K.t;
          c_low = branch_low K.s hs;
          d_low = branch_low K.t ht;
          differ = ends;
          separated = closed_separated g (λ z. In z K.inner) OffLink link_ends_of c w (built_low w (in_built L ls w h_l (on_path_lem w (inner_in w K hw)))) hw z.0 (branch_low z.0 z.1, z.2)
              (branch_built ls z.0 z.1, λ h. ⊎_elim (λ e. z.2 (⊎_map (λ i. i) inl e)) (λ j. hm z.0 j z.1) (end_or_inner K z.0 h));
        })
      where
        ends : K.s ≢ K.t
        ends = ends_differ K (nodup_left (vertices K) v (nodup_right u (vertices K ++ v) (subst (λ (k : List ℕ). NoDup k) cut (recorded_path (Adj g) ls val L h_l).nodup)))

    link-search : (w : ℕ) → In w K.inner → Next g ls
    link-search w hw = link-step w hw (search g p (λ z. In z K.inner) OffLink (λ z. In z link_ends_of) (λ z. in? z K.inner) (λ z. and_not? (in? z (built_vertices ls)) (in? z (vertices K))) (λ z. in? z link_ends_of)
        (λ z h o. o.1 (inner_in z K h)) (λ z h k. hm z h (⊎_elim (λ e. rw e hs) (λ j. rw (in_single z K.t j) ht) k)))

  -- the link around a vertex that is no branch vertex
  around : (w : ℕ) → In w (built_vertices ls) → ¬ In w (branch_vertices ls) → Next g ls
  around w h nw =
      let r = built_in_lem ls w h in
      let L = r.0 in
      let k = in_split w L.inner (inner_of L w r.2 (λ e. nw (in_branch L ls w r.1 e))) in
      go L r.1 k.0 k.1 k.2 (last_branch (branch_vertices ls) (L.s ∷ k.0)) (first_branch (branch_vertices ls) (k.1 ++ (L.t ∷ [])))
    where
      go : (L : Path) → In L ls → (a b : List ℕ) → L.inner ≡ a ++ (w ∷ b) → NoneIn (branch_vertices ls) (L.s ∷ a) ⊎ Last (branch_vertices ls) (L.s ∷ a)
          → NoneIn (branch_vertices ls) (b ++ (L.t ∷ [])) ⊎ First (branch_vertices ls) (b ++ (L.t ∷ [])) → Next g ls
      go L h_l a b e (inl x) y = absurd (x L.s (inl refl) (in_branch L ls L.s h_l (inl refl)))
      go L h_l a b e (inr x) (inl y) = absurd (y L.t (in_right L.t b (L.t ∷ []) (inl refl)) (in_branch L ls L.t h_l (inr refl)))
      go L h_l a b e (inr x) (inr y) = link-search L h_l (link x.1 (x.2 ++ (w ∷ y.0)) y.1) x.0 y.2 cut x.4 y.4 none w (in_right w x.2 (w ∷ y.0) (inl refl))
        where
          cut : vertices L ≡ x.0 ++ (vertices (link x.1 (x.2 ++ (w ∷ y.0)) y.1) ++ y.2)
          cut = rw e (ap (λ (k : List ℕ). L.s ∷ k) (append_assoc a (w ∷ b) (L.t ∷ [])) ∙ ap (λ (k : List ℕ). (L.s ∷ a) ++ (w ∷ k)) y.3 ∙ ap (λ (k : List ℕ). k ++ (w ∷ (y.0 ++ (y.1 ∷ y.2)))) x.3 ∙ simp append_assoc)

          none : NoneIn (branch_vertices ls) (x.2 ++ (w ∷ y.0))
          none z h = ⊎_elim (x.5 z) (λ k. ⊎_elim (λ i. rw i nw) (y.5 z) k) (in_append z x.2 (w ∷ y.0) h)

  -- (b) and (c): every vertex of the build is a branch vertex
  module _ (all-branch : (z : ℕ) → In z (built_vertices ls) → In z (branch_vertices ls)) where
    pub told : (x y : ℕ) → x ≢ y → ((M : Path) → In M ls → Apart (branch_vertices ls) (vertices M) x y) ⊎ ((M : Path) × In M ls × Neighbours M x y)
    told x y ne = apart_or_consecutive (branch_vertices ls) x y ne ls (λ M h z k. all-branch z (in_built M ls z h k))

    -- a path outside the build, from x to y: it extends the build or is put in between x and y
    extend_or_reroute : (x : ℕ) (q : List ℕ) (y : ℕ) → IsPath (Adj g) (link x q y) → In x (built_vertices ls) → In y (built_vertices ls) → ((w : ℕ) → In w q → ¬ In w (built_vertices ls)) → 0 < length q → Next g ls
    extend_or_reroute x q y path hx hy new pos = ⊎_elim (λ a. extended (link x q y) (record { is_path = path; from = hx; upto = hy; new = new; apart = a }))
        (λ r. put r.0 (in_split r.0 ls r.1) r.2) (told x y (ends_differ (link x q y) path.nodup))
      where
        put : (M : Path) → ((a : List Path) × (b : List Path) × (ls ≡ a ++ (M ∷ b))) → Neighbours M x y → Next g ls
        put M r (inl k) = rerouted_at (record { newer = r.0; L = M; older = r.1; place = r.2; x = x; y = y; consecutive = k; q = q; along = path.along; nodup = nodup_inner (link x q y) path.nodup; new = new; some = pos })
        put M r (inr k) = rerouted_at
            (record { newer = r.0; L = M; older = r.1; place = r.2; x = y; y = x; consecutive = k; q = rev q; along = along-rev (Adj g) p.symmetric x q y path.along; nodup = nodup_rev q (nodup_inner (link x q y) path.nodup); new = λ w h. new w (rev_in w q h); some = rw length_rev pos })

    -- (b) AN EDGE OUT OF THE BUILD, from x to c
    module _ (x c : ℕ) (hx : In x (built_vertices ls)) (hc : ¬ In c (built_vertices ls)) (k : Adj g x c) where
      abbrev pub OtherBuilt : ℕ → Type 0
      OtherBuilt z = In z (built_vertices ls) × (¬ (z ≡ x))

      pub out_step_lem : Searched g (λ z. z ≡ c) OtherBuilt (λ z. In z (x ∷ [])) → Next g ls
      out_step_lem (inl f) = extend_or_reroute x (f.path.s ∷ f.path.inner) f.path.t (detour-path g p OtherBuilt x c k f (λ v h. h.1)) hx f.goal.0 (detour-new g p OtherBuilt x c k f (built_vertices ls) hc (λ v h n. (h, n))) (omega arith)
      out_step_lem (inr f) =
          let z = branch_beside (Adj g) ls val (x ∷ []) (omega arith) in
          separated_by (cut-pair g p (x, built_low x hx, closed_separated g (λ z. z ≡ c) OtherBuilt (x ∷ []) f c (edge-high g p x c k) refl z.0 (branch_low z.0 z.1, z.2) (branch_built ls z.0 z.1, λ e. z.2 (inl e))))

      out_search : Next g ls
      out_search = out_step_lem (search g p (λ z. z ≡ c) OtherBuilt (λ z. In z (x ∷ [])) (λ z. ℕ_discrete z c) (λ z. and_not? (in? z (built_vertices ls)) (ℕ_discrete z x)) (λ z. in? z (x ∷ []))
          (λ z e o. hc (rw e at o.0)) (λ z e j. hc (rw (sym e ∙ in_single z x j) hx)))

    outside : (w : ℕ) → w < g.n → ¬ In w (built_vertices ls) → Next g ls
    outside w low nw = go (search g p (λ z. z ≡ w) (λ z. In z (built_vertices ls)) (λ z. In z []) (λ z. ℕ_discrete z w) (λ z. in? z (built_vertices ls)) (λ z. never?) (λ z e h. nw (rw e at h)) (λ z e h. h))
      where
        go : Searched g (λ z. z ≡ w) (λ z. In z (built_vertices ls)) (λ z. In z []) → Next g ls
        go (inl f) =
            let last = last_of f.path.s f.path.inner in
            out_search f.path.t last f.goal (λ h. ⊎_elim (λ e. nw (subst (λ (k : ℕ). In k (built_vertices ls)) (e ∙ f.seed) h)) (λ m. (f.off last m).1 h) (last_of_lem f.path.s f.path.inner))
            (p.symmetric last f.path.t (along-last (Adj g) f.path.s f.path.inner f.path.t f.is_path.along))
        go (inr c) =
            let z = branch_beside (Adj g) ls val [] (omega arith) in
            separated_by (cut-pair g p (none-cut g p (closed_separated g (λ z. z ≡ w) (λ z. In z (built_vertices ls)) [] c w low refl z.0 (branch_low z.0 z.1, λ h. h) (branch_built ls z.0 z.1))))

    -- (c) EVERY VERTEX IS BUILT: an edge that is not used
    module _ (full : (z : ℕ) → z < g.n → In z (built_vertices ls)) where
      abbrev Used : ℕ → ℕ → Type 0
      Used u v = (M : Path) × In M ls × Neighbours M u v

      pub edge-step : (u v : ℕ) → Adj g u v → ((P : Path) × Extends (Adj g) ls P) ⊎ Used u v
      edge-step u v k = ⊎_map
          (λ a. (link u [] v, record { is_path = record { along = k; nodup = ((λ h. ne (in_single u v h)), ((λ h. h), tt)) }; from = full u (p.low u v k); upto = full v (edge-high g p u v k); new = λ w h. absurd h; apart = a }))
          (λ r. r) (told u v ne)
        where
          ne : u ≢ v
          ne e = p.irreflexive u (rw (← e) at k)

      edges-done : Next g ls
      edges-done = ⊎_elim (λ f. finished (record { all-branch = λ z h. all-branch z (full z h); used = λ u v k. f u (p.low u v k) v (edge-high g p u v k) k })) (λ r. extended r.2.2.0 r.2.2.1)
          (scan (λ u. (v : ℕ) → v < g.n → Adj g u v → Used u v) (λ u. (v : ℕ) × (v < g.n) × ((P : Path) × Extends (Adj g) ls P)) (λ u. scan (λ v. Adj g u v → Used u v) (λ v. (P : Path) × Extends (Adj g) ls P) (one u) g.n) g.n)
        where
          one : (u v : ℕ) → (Adj g u v → Used u v) ⊎ ((P : Path) × Extends (Adj g) ls P)
          one u v = ⊎_elim (λ k. ⊎_elim inr (λ r. inl (λ j. r)) (edge-step u v k)) (λ n. inl (λ j. absurd (n j))) (either (true? (g.adj u v)))

    spread : Next g ls
    spread = ⊎_elim edges-done (λ r. outside r.0 r.1 r.2) (scan (λ z. In z (built_vertices ls)) (λ z. ¬ In z (built_vertices ls)) (λ z. either (in? z (built_vertices ls))) g.n)

  -- PROGRESS.
  pub progress : Next g ls
  progress = ⊎_elim spread (λ r. around r.0 r.1 r.2) (all-in? (branch_vertices ls) (built_vertices ls))
