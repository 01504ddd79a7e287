-- One search serves everything: from the seeds S to the goals G, with the vertices R removed. Either a path is found, with none of
-- them strictly inside, or the set that was reached is closed: it is the side of a separation.
use mathlib.Core.Path.{◌≡◌, subst, sym, ◌∙◌, refl}
use mathlib.Core.Logic.{◌⊎◌, ⊎_elim, inr, inl, ◌≢◌}
use mathlib.Core.List.{List, ◌∷◌, ◌++◌, []}
use mathlib.Core.Bool.{Bool, true, false}
use Prim.Native.Nat.{ℕ, ◌<◌, ◌+◌, zero, suc}
use native.Mathlib.Omega.{arith}
use lib.ListN.{length}
use Rattle.connectivity.specs.Lists.{In, NoDup, select, below}
use Rattle.connectivity.specs.Graph.{Graph, Adj, Simple}
use Rattle.connectivity.specs.Path.{Path, IsPath, Along, link, vertices}
use Rattle.connectivity.proofs.Lists.{nodup_snoc, in_single, in_append, in?, true?, is_yes, yes_true, no_false, true_yes, or?, scan, at_most, select-nodup, nodup_below, in_below, select_in, in_select, below_in}
use Rattle.connectivity.proofs.Paths.{along-join, end_or_inner}
use Rattle.connectivity.proofs.Edges.{edge-high}

pub record Found (g : Graph) (S G R : ℕ → Type 0) : Type 0 where
  pub path : Path
  pub is_path : IsPath (Adj g) path
  pub seed : S path.s
  pub goal : G path.t
  pub off : (w : ℕ) → In w path.inner → (¬ S w) × (¬ G w) × (¬ R w)

pub record Closed (g : Graph) (S G R : ℕ → Type 0) : Type 0 where
  pub side : ℕ → Bool
  pub seeds : (w : ℕ) → S w → side w ≡ true
  pub goals : (w : ℕ) → G w → side w ≡ false
  pub gone : (w : ℕ) → R w → side w ≡ false
  pub closed : (u v : ℕ) → side u ≡ true → Adj g u v → ¬ R v → side v ≡ true

abbrev pub Searched : Graph → (S G R : ℕ → Type 0) → Type 0
Searched g S G R = Found g S G R ⊎ Closed g S G R

-- a path from a seed, through vertices reached, that ends in u
record Trail (g : Graph) (S G R : ℕ → Type 0) (T : List ℕ) (u : ℕ) : Type 0 where
  pub s : ℕ
  pub m : List ℕ
  pub seed : S s
  pub extends : (v : ℕ) → Adj g u v → Along (Adj g) s m v
  pub nodup : NoDup (s ∷ m)
  pub off : (w : ℕ) → In w m → (¬ S w) × (¬ G w) × (¬ R w)
  pub reached : (w : ℕ) → In w (s ∷ m) → In w T

record Reached (g : Graph) (S G R : ℕ → Type 0) (T : List ℕ) : Type 0 where
  pub nodup : NoDup T
  pub low : (w : ℕ) → In w T → w < g.n
  pub seeds : (w : ℕ) → w < g.n → S w → In w T
  pub clear : (w : ℕ) → In w T → (¬ G w) × (¬ R w)
  pub trail : (u : ℕ) → In u T → Trail g S G R T u

module _ (g : Graph) (p : Simple g) (S G R : ℕ → Type 0) (sdec : (w : ℕ) → Dec (S w)) (gdec : (w : ℕ) → Dec (G w)) (rdec : (w : ℕ) → Dec (R w))
    (sg : (w : ℕ) → S w → ¬ G w) (sr : (w : ℕ) → S w → ¬ R w) where
  module _ (T : List ℕ) (st : Reached g S G R T) where
    found : (u v : ℕ) → In u T → Adj g u v → ¬ In v T → G v → Found g S G R
    found u v hu k nv hg =
        let t = st.trail u hu in
        record { path = link t.s t.m v; is_path = record { along = t.extends v k; nodup = nodup_snoc (t.s ∷ t.m) v t.nodup (λ h. nv (t.reached v h)) }; seed = t.seed; goal = hg; off = t.off }

    more : (u v : ℕ) → In u T → Adj g u v → ¬ In v T → ¬ G v → ¬ R v → Reached g S G R (v ∷ T)
    more u v hu k nv ng nr = record {
      nodup = (nv, st.nodup);
      low = λ w h. ⊎_elim (λ e. rw e low) (st.low w) h;
      seeds = λ w h e. inr (st.seeds w h e);
      clear = λ w h. ⊎_elim (λ e. rw e (ng, nr)) (st.clear w) h;
      trail = trail;
    }
      where
        low : v < g.n
        low = edge-high g p u v k

        new : (t : Trail g S G R T u) → Trail g S G R (v ∷ T) v
        new t = record {
          s = t.s;
          m = t.m ++ (v ∷ []);
          seed = t.seed;
          extends = λ x j. along-join (Adj g) t.s t.m v [] x (t.extends v k) j;
          nodup = nodup_snoc (t.s ∷ t.m) v t.nodup (λ h. nv (t.reached v h));
          off = λ w h. ⊎_elim (t.off w) (λ j. rw (in_single w v j) ((λ s. nv (st.seeds v low s)), ng, nr)) (in_append w t.m (v ∷ []) h);
          reached = λ w h. ⊎_elim (λ j. inr (t.reached w j)) (λ j. inl (in_single w v j)) (in_append w (t.s ∷ t.m) (v ∷ []) h);
        }

        trail : (w : ℕ) → In w (v ∷ T) → Trail g S G R (v ∷ T) w
        trail w (inl e) = rw e (new (st.trail u hu))
        trail w (inr h) = let t = st.trail w h in record { s = t.s; m = t.m; seed = t.seed; extends = t.extends; nodup = t.nodup; off = t.off; reached = λ x j. inr (t.reached x j) }

    -- an edge from T to a vertex that is neither removed nor reached, or none
    abbrev Kept : ℕ → ℕ → Type 0
    Kept u v = In u T → Adj g u v → ¬ R v → In v T

    abbrev Leaves : ℕ → ℕ → Type 0
    Leaves u v = In u T × Adj g u v × (¬ R v) × (¬ In v T)

    kept? : (u v : ℕ) → Kept u v ⊎ Leaves u v
    kept? u v = go (in? u T) (true? (g.adj u v)) (rdec v) (in? v T)
      where
        go : Dec (In u T) → Dec (Adj g u v) → Dec (R v) → Dec (In v T) → Kept u v ⊎ Leaves u v
        go (no h) k r t = inl (λ a b c. absurd (h a))
        go (yes h) (no k) r t = inl (λ a b c. absurd (k b))
        go (yes h) (yes k) (yes r) t = inl (λ a b c. absurd (c r))
        go (yes h) (yes k) (no r) (yes t) = inl (λ a b c. t)
        go (yes h) (yes k) (no r) (no t) = inr (h, k, r, t)

    closed : ((u v : ℕ) → Adj g u v → Kept u v) → Closed g S G R
    closed f = record {
      side = λ (w : ℕ). is_yes (side? w);
      seeds = λ w e. yes_true (side? w) (inl e);
      goals = λ w e. no_false (side? w) (λ h. ⊎_elim (λ k. sg w k e) (λ k. (st.clear w k).0 e) h);
      gone = λ w e. no_false (side? w) (λ h. ⊎_elim (λ k. sr w k e) (λ k. (st.clear w k).1 e) h);
      closed = λ u v h k r. yes_true (side? v) (inr (f u v k (⊎_elim (st.seeds u (p.low u v k)) (λ j. j) (true_yes (side? u) h)) k r));
    }
      where
        side? : (w : ℕ) → Dec (S w ⊎ In w T)
        side? w = or? (sdec w) (in? w T)

    abbrev Grown : Type 0
    Grown = (v : ℕ) × Reached g S G R (v ∷ T)

    step : (Searched g S G R) ⊎ Grown
    step = ⊎_elim (λ f. inl (inr (closed (λ u v k. f u (p.low u v k) v (edge-high g p u v k))))) (λ r. take r.0 r.2.0 r.2.2 (gdec r.2.0))
        (scan (λ u. (v : ℕ) → v < g.n → Kept u v) (λ u. (v : ℕ) × (v < g.n) × Leaves u v) (λ u. scan (Kept u) (Leaves u) (kept? u) g.n) g.n)
      where
        take : (u v : ℕ) → Leaves u v → Dec (G v) → (Searched g S G R) ⊎ Grown
        take u v m (yes h) = inl (inl (found u v m.0 m.1 m.3 h))
        take u v m (no h) = inr (v, more u v m.0 m.1 m.3 h m.2)

  run : (fuel : ℕ) (T : List ℕ) → Reached g S G R T → g.n < length T + fuel → Searched g S G R
  run zero T st h = absurd (omega (arith, at_most g.n T st.nodup st.low))
  run (suc fuel) T st h = ⊎_elim (λ r. r) (λ r. run fuel (r.0 ∷ T) r.1 (omega arith)) (step T st)

  -- THE SEARCH.
  pub search : Searched g S G R
  search = run (suc g.n) (select (λ w. is_yes (sdec w)) (below g.n)) (record {
    nodup = select-nodup (λ w. is_yes (sdec w)) (below g.n) (nodup_below g.n);
    low = λ w h. in_below g.n w (select_in (λ w. is_yes (sdec w)) (below g.n) w h).0;
    seeds = λ w h e. in_select (λ w. is_yes (sdec w)) (below g.n) w (below_in g.n w h) (yes_true (sdec w) e);
    clear = λ w h. (sg w (seed w h), sr w (seed w h));
    trail = λ u h. record { s = u; m = []; seed = seed u h; extends = λ v k. k; nodup = ((λ k. k), tt); off = λ w k. absurd k; reached = λ w k. rw (in_single w u k) h };
  }) (omega arith)
    where
      seed : (w : ℕ) → In w (select (λ w. is_yes (sdec w)) (below g.n)) → S w
      seed w h = true_yes (sdec w) (select_in (λ w. is_yes (sdec w)) (below g.n) w h).1

-- a found path, and an edge before it
module _ (g : Graph) (p : Simple g) (G : ℕ → Type 0) (x c : ℕ) (k : Adj g x c) (f : Found g (λ v. v ≡ c) G (λ v. In v (x ∷ []))) where
  abbrev pub detour : Path
  detour = link x (f.path.s ∷ f.path.inner) f.path.t

  pub detour-path : ((v : ℕ) → G v → v ≢ x) → IsPath (Adj g) detour
  detour-path n = record { along = (rw f.seed k, f.is_path.along); nodup = (away, f.is_path.nodup) }
    where
      away : ¬ In x (vertices f.path)
      away h = ⊎_elim (λ e. ⊎_elim (λ (i : x ≡ f.path.s). p.irreflexive x (subst (λ (v : ℕ). Adj g x v) (sym (i ∙ f.seed)) k)) (λ i. n f.path.t f.goal (sym i)) e) (λ j. (f.off x j).2 (inl refl)) (end_or_inner f.path x h)

  -- its inner vertices are new, where G is another vertex of B
  pub detour-new : (B : List ℕ) → ¬ In c B → ((v : ℕ) → In v B → v ≢ x → G v) → (w : ℕ) → In w detour.inner → ¬ In w B
  detour-new B nc into w (inl e) h = nc (subst (λ (v : ℕ). In v B) (e ∙ f.seed) h)
  detour-new B nc into w (inr m) h = (f.off w m).1 (into w h (λ e. (f.off w m).2 (inl e)))
