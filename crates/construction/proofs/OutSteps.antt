-- Step (b), where every vertex of the build is a branch vertex: a path out of the build and back is appended, or put in between its
-- two ends; or at most one vertex cuts the graph; or every vertex is built.
use mathlib.Core.Path.{◌≡◌, refl, sym, ap, subst, ◌∙◌}
use mathlib.Core.Logic.{◌⊎◌, inl, inr, ⊎_elim, ◌≢◌}
use mathlib.Core.List.{List, [], ◌∷◌, ◌++◌, append_assoc}
use mathlib.Core.Bool.{Bool, true, false, cond}
use Prim.Native.Nat.{ℕ, ◌+◌, ◌≤◌, ◌<◌}
use native.Mathlib.Omega.{arith}
use lib.Dec.{ltb}
use lib.ListN.{length, get_or, length-append}
use lib.Seq.{get_or_at}
use borrow.Author.Tests.{lt-ltb, le-ltb}
use Rattle.vertexset.specs.Set.{has}
use Rattle.graph.specs.Limits.{max_edges}
use Rattle.graph.specs.Rows.{adjacent_in, rows_graph}
use Rattle.connectivity.specs.Lists.{In, NoDup}
use Rattle.connectivity.specs.Graph.{Adj, edge_count}
use Rattle.connectivity.specs.Path.{Path, link, vertices, Along, IsPath, used_edges}
use Rattle.connectivity.proofs.Lists.{in_split, clash, bool?, rev, rev_in, in_rev, nodup_rev, length_rev}
use Rattle.connectivity.proofs.Paths.{SamePair, Consecutive, Neighbours, consecutive_edge, built_vertices, branch_vertices, branch_built, nodup_inner, ends_differ, along-rev, inner_in, end_or_inner}
use Rattle.connectivity.proofs.Recorded.{Extends, recorded_path, branch_beside}
use Rattle.connectivity.proofs.Progress.{told}
use Rattle.connectivity.proofs.FirstLinks.{reversed}
use Rattle.construction.specs.Sets.{stop, minus, empty, last_of}
use Rattle.construction.specs.Ears.{no_cut, Found, near, detour}
use Rattle.construction.specs.Steps.{State, stopped, extended, pair_place, beside_place, turned, reroute, out_taken, out_step}
use Rattle.construction.specs.Certificate.{full_set}
use Rattle.construction.proofs.Basics.{Drawn, On, flatten}
use Rattle.construction.proofs.SetLaws.{sized_minus, on_low, on_minus, on_full, empty-none, last_snoc}
use Rattle.construction.proofs.Detours.{full_sized, no_cut_lem, OutAndBack, OneCut, detour-law}
use Rattle.construction.proofs.Flat.{newest_first, newest_in, Located, locate, consecutive_split, flat_place, rev_vertices, extends_reversed}
use Rattle.construction.proofs.Finding.{front_low, PairAt, pair-at, pair-low}
use Rattle.construction.proofs.StepLaws.{Going, Stepped, ends, cuts, below-stop, vertex-low, vertex-on, on_vertex, extended-step}
use Rattle.construction.proofs.Reroutes.{turned_same, turned-other, rerouted_step}

-- THE NEW VERTICES between a and b, which are x and y in the order of the path
record Between (rows : List ℕ) (n a b : ℕ) (q new : List ℕ) : Type 0 where
  pub along : Along (Adj (rows_graph n rows)) a new b
  pub nodup : NoDup new
  pub into : (w : ℕ) → In w new → In w q
  pub back : (w : ℕ) → In w q → In w new
  pub some : 0 < length new

-- from y over the new vertices to x
abbrev listed : ℕ → List ℕ → ℕ → List ℕ
listed x q y = y ∷ (rev q ++ (x ∷ []))

module _ (rows : List ℕ) (n : ℕ) (dr : Drawn rows n) (x : ℕ) (q : List ℕ) (y : ℕ) (path : IsPath (Adj (rows_graph n rows)) (link x q y)) (some : 0 < length q) where
  differ : x ≢ y
  differ = ends_differ (link x q y) path.nodup

  between : (a b : ℕ) → SamePair a b x y → Between rows n a b q (turned (listed x q y) a)
  between a b (inl e) = subst (λ (k : List ℕ). Between rows n a b q k) (sym (turned-other x y q a (λ h. differ (sym e.0 ∙ h)))) (record {
    along = rw (e.0, e.1) path.along;
    nodup = nodup_inner (link x q y) path.nodup;
    into = λ w h. h;
    back = λ w h. h;
    some = some;
  })
  between a b (inr e) = subst (λ (k : List ℕ). Between rows n a b q k) (sym (turned_same x y q a e.0)) (record {
    along = rw (e.0, e.1) (along-rev (Adj (rows_graph n rows)) dr.simple.symmetric x q y path.along);
    nodup = nodup_rev q (nodup_inner (link x q y) path.nodup);
    into = λ w h. rev_in w q h;
    back = λ w h. in_rev w q h;
    some = rw length_rev some;
  })

-- numbers alone: omega is slow beside sets
no_place : (p l : ℕ) → p < l → ¬ (p ≡ l)
no_place p l h e = omega arith

one_more : (u f p : ℕ) → u ≡ f + 1 → p ≡ f → u ≡ p + 1
one_more u f p h e = omega arith

same_most : (l : ℕ) → l ≤ l
same_most l = omega arith

-- what stands behind a vertex that is not the last of its path
right_head : (right : List ℕ) (behind : List Path) (b : ℕ) (back : List ℕ) → b ∷ back ≡ right ++ flatten behind → b ≢ stop → (r : List ℕ) × (right ≡ b ∷ r)
right_head [] [] b back e n = absurd (omega (arith, ap length e))
right_head [] (P ∷ behind) b back e n = absurd (n (cc))
right_head (c ∷ r) behind b back e n = let h : c ≡ b = cc in (r, ap (λ (k : ℕ). k ∷ r) h)

module _ (rows : List ℕ) (n : ℕ) (dr : Drawn rows n) (few : edge_count (rows_graph n rows) ≤ max_edges) (ms ps : List Path) (st : State) (go : Going rows n ms ps st) (all-branch : (w : ℕ) → On st.built w → On st.branch w) where
  abbrev Step : State → Type 0
  Step s = Stepped rows n ms (length (used_edges (newest_first ps))) s

  branch_all : (z : ℕ) → In z (built_vertices (newest_first ps)) → In z (branch_vertices (newest_first ps))
  branch_all z h = go.branch_on z (all-branch z (vertex-on rows n dr ms ps st go z h))

  -- put in behind the place k where there is one, else appended
  abbrev placed_at : List ℕ → ℕ → State
  placed_at l k = cond (ltb k (length st.flat)) (reroute st l k) (extended st l (length st.flat))

  placed-low : (l : List ℕ) (k : ℕ) → k < length st.flat → Step (reroute st l k) → Step (placed_at l k)
  placed-low l k h s = subst (λ (b : Bool). Step (cond b (reroute st l k) (extended st l (length st.flat)))) (sym (lt-ltb k (length st.flat) h)) s

  placed_end_lem : (l : List ℕ) → Step (extended st l (length st.flat)) → Step (placed_at l (length st.flat))
  placed_end_lem l s = subst (λ (b : Bool). Step (cond b (reroute st l (length st.flat)) (extended st l (length st.flat)))) (sym (le-ltb (length st.flat) (length st.flat) (same_most (length st.flat)))) s

  -- a path out and back
  module _ (x : ℕ) (q : List ℕ) (y : ℕ) (x_on : On st.built x) (y_on : On st.built y) (path : IsPath (Adj (rows_graph n rows)) (link x q y)) (some : 0 < length q) (new : (w : ℕ) → In w q → ¬ On st.built w) where
    not_stop : (z : ℕ) → On st.built z → z ≢ stop
    not_stop z h = below-stop z (on_low st.built z go.built_sized h)

    pair-on : (a b : ℕ) → SamePair a b x y → On st.built a × On st.built b
    pair-on a b (inl e) = (rw e.0 x_on, rw e.1 y_on)
    pair-on a b (inr e) = (rw e.0 y_on, rw e.1 x_on)

    -- PUT IN
    module _ (p : PairAt x y st.flat) where
      loc : Located ps p.front p.a (p.b ∷ p.back)
      loc = locate ps p.front p.a (p.b ∷ p.back) (sym go.same_flat ∙ p.is) (not_stop p.a (pair-on p.a p.b p.same).0)

      behind : (r : List ℕ) × (loc.right ≡ p.b ∷ r)
      behind = right_head loc.right loc.behind p.b p.back loc.back_is (not_stop p.b (pair-on p.a p.b p.same).1)

      a_there : get_or st.flat (pair_place x y st.flat) 0 ≡ p.a
      a_there = ap (λ (l : List ℕ). get_or l (pair_place x y st.flat) 0) p.is ∙ get_or_at p.front p.a (p.b ∷ p.back) 0 (pair_place x y st.flat) (sym p.place)

      abbrev put : List ℕ
      put = turned (listed x q y) (get_or st.flat (pair_place x y st.flat) 0)

      between-there : Between rows n p.a p.b q put
      between-there = subst (λ (z : ℕ). Between rows n p.a p.b q (turned (listed x q y) z)) (sym a_there) (between rows n dr x q y path some p.a p.b p.same)

      go_there : Going rows n ms (loc.before ++ (loc.path ∷ loc.behind)) st
      go_there = subst (λ (l : List Path). Going rows n ms l st) loc.place go

      cut-there : vertices loc.path ≡ loc.left ++ (p.a ∷ (p.b ∷ behind.0))
      cut-there = loc.cut ∙ ap (λ (l : List ℕ). loc.left ++ (p.a ∷ l)) behind.1

      put_new : (w : ℕ) → In w put → ¬ In w (built_vertices (newest_first (loc.before ++ (loc.path ∷ loc.behind))))
      put_new w h k = new w (between-there.into w h) (vertex-on rows n dr ms (loc.before ++ (loc.path ∷ loc.behind)) st go_there w k)

      up_to-a : length (flatten loc.before ++ (stop ∷ (loc.left ++ (p.a ∷ [])))) ≡ pair_place x y st.flat + 1
      up_to-a = one_more (length (flatten loc.before ++ (stop ∷ (loc.left ++ (p.a ∷ []))))) (length p.front) (pair_place x y st.flat)
          (ap length (sym (append_assoc (flatten loc.before) (stop ∷ loc.left) (p.a ∷ [])) ∙ ap (λ (l : List ℕ). l ++ (p.a ∷ [])) (sym loc.front_is)) ∙ length-append p.front (p.a ∷ [])) p.place

      listed_in : (w : ℕ) → In w (listed x q y) → In w st.flat ⊎ In w put
      listed_in w h = ⊎_elim (λ e. inl (⊎_elim (λ (i : w ≡ y). rw i (go.built_on y y_on)) (λ (i : w ≡ x). rw i (go.built_on x x_on)) e)) (λ k. inr (between-there.back w (rev_in w q k))) (end_or_inner (reversed (link x q y)) w h)

      in_listed : (w : ℕ) → In w put → In w (listed x q y)
      in_listed w h = inner_in w (reversed (link x q y)) (in_rev w q (between-there.into w h))

      put_step : Step (reroute st (listed x q y) (pair_place x y st.flat))
      put_step = subst (λ (l : List Path). Stepped rows n ms (length (used_edges (newest_first l))) (reroute st (listed x q y) (pair_place x y st.flat))) (sym loc.place)
          (rerouted_step rows n dr few ms loc.before loc.path loc.behind st go_there loc.left p.a p.b behind.0 cut-there put between-there.along between-there.nodup put_new (pair_place x y st.flat + 1) up_to-a all-branch (listed x q y) listed_in in_listed between-there.some)

    abbrev NotBeside : Type 0
    NotBeside = (M : Path) → In M (newest_first ps) → ¬ Neighbours M x y

    -- no path has them side by side where the list does not
    none_beside : pair_place x y st.flat ≡ length st.flat → NotBeside
    none_beside none M h = ⊎_elim (λ c. off x y c (inl (refl, refl))) (λ c. off y x c (inr (refl, refl)))
      where
        off : (a b : ℕ) → Consecutive M a b → SamePair a b x y → ⊥
        off a b c s = at (in_split M ps (newest_in ps M h)) (consecutive_split M a b c)
          where
            at : ((A : List Path) × (B : List Path) × (ps ≡ A ++ (M ∷ B))) → ((l : List ℕ) × (r : List ℕ) × (vertices M ≡ l ++ (a ∷ (b ∷ r)))) → ⊥
            at (A, B, e) (l, r, k) =
                let f : st.flat ≡ (flatten A ++ (stop ∷ l)) ++ (a ∷ (b ∷ (r ++ flatten B))) = go.same_flat ∙ ap flatten e ∙ flat_place A M B ∙ ap (λ (j : List ℕ). flatten A ++ (stop ∷ (j ++ flatten B))) k ∙ simp append_assoc in
                no_place (pair_place x y st.flat) (length st.flat) (subst (λ (j : List ℕ). pair_place x y j < length j) (sym f) (pair-low x y (flatten A ++ (stop ∷ l)) a b (r ++ flatten B) s)) none

    -- nor where no edge joins them
    no_edge_beside : adjacent_in rows x y ≡ false → NotBeside
    no_edge_beside e M h = ⊎_elim (λ c. clash (joins x y c) e) (λ c. clash (dr.simple.symmetric y x (joins y x c)) e)
      where
        joins : (a b : ℕ) → Consecutive M a b → Adj (rows_graph n rows) a b
        joins a b c = consecutive_edge (Adj (rows_graph n rows)) M a b (recorded_path (Adj (rows_graph n rows)) (newest_first ps) go.recorded M h) c

    -- APPENDED
    module _ (not-beside : NotBeside) where
      out_extends : Extends (Adj (rows_graph n rows)) (newest_first ps) (link x q y)
      out_extends = record {
        is_path = path;
        from = on_vertex rows n dr ms ps st go x x_on;
        upto = on_vertex rows n dr ms ps st go y y_on;
        new = λ w h k. new w h (vertex-on rows n dr ms ps st go w k);
        apart = ⊎_elim (λ f. f) (λ r. absurd (not-beside r.0 r.1 r.2))
            (told (rows_graph n rows) dr.simple (newest_first ps) go.recorded branch_all x y (ends_differ (link x q y) path.nodup));
      }

      back-extends : Extends (Adj (rows_graph n rows)) (newest_first ps) (reversed (link x q y))
      back-extends = extends_reversed (Adj (rows_graph n rows)) dr.simple.symmetric (newest_first ps) (link x q y) out_extends

      append_step : Step (placed_at (listed x q y) (length st.flat))
      append_step = placed_end_lem (listed x q y) (extended-step rows n dr few ms ps st go (reversed (link x q y)) back-extends (length st.flat) (same_most (length st.flat)) (λ w h k. all-branch w k) (listed x q y) refl)

    placed_pair : PairAt x y st.flat ⊎ (pair_place x y st.flat ≡ length st.flat) → Step (placed_at (listed x q y) (pair_place x y st.flat))
    placed_pair (inl p) = placed-low (listed x q y) (pair_place x y st.flat) (front_low (pair_place x y st.flat) (length p.front) (length st.flat) (length (p.b ∷ p.back)) p.place (ap length p.is ∙ length-append p.front (p.a ∷ (p.b ∷ p.back)))) (put_step p)
    placed_pair (inr e) = subst (λ (k : ℕ). Step (placed_at (listed x q y) k)) (sym e) (append_step (none_beside e))

    placed-listed : Step (placed_at (listed x q y) (beside_place rows x y st.flat))
    placed-listed = by (adjacent_in rows x y) refl
      where
        by : (b : Bool) → adjacent_in rows x y ≡ b → Step (placed_at (listed x q y) (cond b (pair_place x y st.flat) (length st.flat)))
        by true e = placed_pair (pair-at x y st.flat)
        by false e = append_step (no_edge_beside e)

    placed-path : (l : List ℕ) → l ≡ rev (vertices (link x q y)) → Step (placed_at l (beside_place rows (last_of l) (get_or l 0 0) st.flat))
    placed-path l e = subst (λ (k : List ℕ). Step (placed_at k (beside_place rows (last_of k) (get_or k 0 0) st.flat))) (sym (e ∙ rev_vertices (link x q y))) (subst (λ (z : ℕ). Step (placed_at (listed x q y) (beside_place rows z y st.flat))) (sym (last_snoc (y ∷ rev q) x)) placed-listed)

  -- the state for the answer of the detour, cut or not
  abbrev taken_by : Found → Bool → State
  taken_by f b = cond b (stopped st f.cut_by) (placed_at f.path (beside_place rows (last_of f.path) (get_or f.path 0 0) st.flat))

  detoured : OutAndBack rows n st.built (detour rows (near rows st.built) st.built) → Step (out_taken rows st (detour rows (near rows st.built) st.built))
  detoured d = subst (λ (b : Bool). Step (taken_by (detour rows (near rows st.built) st.built) b)) (sym d.not_cut) (placed-path d.x d.q d.y d.x_on d.y_on d.is_path d.some d.new (detour rows (near rows st.built) st.built).path d.same)

  detour-cuts : OneCut rows n (detour rows (near rows st.built) st.built).cut_by → Step (out_taken rows st (detour rows (near rows st.built) st.built))
  detour-cuts c = subst (λ (b : Bool). Step (taken_by (detour rows (near rows st.built) st.built) b)) (sym c.is.is_cut_lem) (cuts refl c.is)

  out_taken_lem : empty (minus (full_set n) st.built) ≡ false → Step (out_taken rows st (detour rows (near rows st.built) st.built))
  out_taken_lem e =
      let a = branch_beside (Adj (rows_graph n rows)) (newest_first ps) go.recorded [] (omega arith) in
      let b = branch_beside (Adj (rows_graph n rows)) (newest_first ps) go.recorded (a.0 ∷ []) (omega arith) in
      ⊎_elim detoured detour-cuts (detour-law rows n dr st.built go.built_sized (λ w h. vertex-low rows n dr ms ps st go w (on_vertex rows n dr ms ps st go w h)) a.0 b.0
      (vertex-on rows n dr ms ps st go a.0 (branch_built (newest_first ps) a.0 a.1)) (vertex-on rows n dr ms ps st go b.0 (branch_built (newest_first ps) b.0 b.1)) (λ i. b.2 (inl (sym i))) e)

  all-built : empty (minus (full_set n) st.built) ≡ true → Step (stopped st no_cut)
  all-built e = ends refl (record {
    not_cut = no_cut_lem;
    ps = ps;
    same_flat = go.same_flat;
    six = go.six;
    recorded = go.recorded;
    ends = go.ends;
    all-branch = λ w h. go.branch_on w (all-branch w (on w h));
  })
    where
      on : (w : ℕ) → w < n → On st.built w
      on w h = ⊎_elim (λ k. k) (λ k. absurd (empty-none (minus (full_set n) st.built) (sized_minus (full_set n) st.built (full_sized n) go.built_sized) e w (on_minus (full_set n) st.built (full_sized n) go.built_sized w (on_full n w dr.low h) (λ j. clash j k)))) (bool? (has st.built.words w))

  -- STEP (b)
  pub out_step_lem : Step (out_step rows (full_set n) st)
  unfolding out_step
  out_step_lem = ⊎_elim (λ e. subst Step (ap (λ (b : Bool). cond b (stopped st no_cut) (out_taken rows st (detour rows (near rows st.built) st.built))) (sym e)) (all-built e)) (λ e. subst Step (ap (λ (b : Bool). cond b (stopped st no_cut) (out_taken rows st (detour rows (near rows st.built) st.built))) (sym e)) (out_taken_lem e))
      (bool? (empty (minus (full_set n) st.built)))
