-- From the three paths of a start, which are a closed path through vertex 0, a third path and a path across, to its six links.
use Prim.Native.Nat.{ℕ, ◌+◌, ◌≤◌, ◌<◌}
use mathlib.Core.Path.{◌≡◌, refl, sym, ap, subst, ◌∙◌}
use mathlib.Core.Logic.{inl, inr, ⊎_elim, ◌≢◌}
use mathlib.Core.List.{List, [], ◌∷◌, ◌++◌, append_assoc}
use native.Mathlib.Omega.{arith}
use lib.ListN.{length, length-append}
use Rattle.vertexset.specs.declared.VertexSet.{VertexSet}
use Rattle.connectivity.specs.Lists.{In, NoDup}
use Rattle.connectivity.specs.Graph.{Graph, Adj, Simple}
use Rattle.connectivity.specs.Path.{Path, link, vertices, Along, IsPath, edge, edges_along, path_edges, used_edges}
use Rattle.connectivity.specs.Build.{four}
use Rattle.connectivity.proofs.Lists.{rev, length_rev, in_left, in_right, in_append, in_single, in_split, in_swap, in_rev, rev_in, nodup_right, nodup_append, nodup_swap, nodup_under, at_most}
use Rattle.connectivity.proofs.Paths.{edge_same, nodup_inner, used_in, in_used}
use Rattle.connectivity.proofs.Edges.{path-low, edge-high}
use Rattle.connectivity.proofs.EdgeUse.{edges-cut}
use Rattle.connectivity.proofs.Start.{StartPaths}
use Rattle.connectivity.proofs.FirstLinks.{reversed, six_between, six_paths_lem, three_nodup, two_arcs}
use Rattle.vertexset.specs.Set.{capacity}
use Rattle.construction.specs.Start.{three_paths}
use Rattle.graph.specs.Rows.{rows_graph}
use Rattle.construction.proofs.Basics.{Drawn, Sized, On}
use Rattle.construction.proofs.Places.{rev_rev}
use Rattle.construction.proofs.Table.{table_of, table_used, used_table, table_drawn}
use Rattle.construction.proofs.LinksIn.{edges-rev}
use Rattle.construction.proofs.LinkOrder.{Room, add_room, InOrder, in_order}

-- ---- the edges of a path

edges-back : (s : ℕ) (l : List ℕ) (t : ℕ) (e : ℕ × ℕ) → In e (edges_along t (rev l) s) → In e (edges_along s l t)
edges-back s l t e h = subst (λ (k : List ℕ). In e (edges_along s k t)) (rev_rev l) (edges-rev t (rev l) s e h)

module _ (E : ℕ → ℕ → Type 0) where
  along-of : (s : ℕ) (l : List ℕ) (t : ℕ) → ((x y : ℕ) → In (edge x y) (edges_along s l t) → E x y) → Along E s l t
  along-of s [] t f = f s t (inl refl)
  along-of s (a ∷ l) t f = (f s a (inl refl), along-of a l t (λ x y h. f x y (inr h)))

  of_along : ((u v : ℕ) → E u v → E v u) → (s : ℕ) (l : List ℕ) (t : ℕ) → Along E s l t → (x y : ℕ) → In (edge x y) (edges_along s l t) → E x y
  of_along esym s [] t w x y h = ⊎_elim (λ e. rw (e.0, e.1) w) (λ e. rw (e.0, e.1) (esym s t w)) (edge_same x y s t (in_single (edge x y) (edge s t) h))
  of_along esym s (a ∷ l) t w x y (inl k) = ⊎_elim (λ e. rw (e.0, e.1) w.0) (λ e. rw (e.0, e.1) (esym s a w.0)) (edge_same x y s a k)
  of_along esym s (a ∷ l) t w x y (inr h) = of_along esym a l t w.1 x y h

-- ---- three links between a and b, and a path R from inside the first to inside the second

abbrev pub four_paths : ℕ → ℕ → List ℕ → List ℕ → List ℕ → Path → List Path
four_paths a b p q r R = link a p b ∷ (link a q b ∷ (link a r b ∷ (R ∷ [])))

-- an edge of theirs is an edge of the six links
cut-edges : (a b : ℕ) (p₁ : List ℕ) (s : ℕ) (p₂ q₁ : List ℕ) (t : ℕ) (q₂ r l : List ℕ) (e : ℕ × ℕ) → In e (used_edges (four_paths a b (p₁ ++ (s ∷ p₂)) (q₁ ++ (t ∷ q₂)) r (link s l t))) → In e (used_edges (six_between a b p₁ s p₂ q₁ t q₂ r l))
cut-edges a b p₁ s p₂ q₁ t q₂ r l e h = let m = used_in (four_paths a b (p₁ ++ (s ∷ p₂)) (q₁ ++ (t ∷ q₂)) r (link s l t)) e h in go m.0 m.1 m.2
  where
    six : List Path
    six = six_between a b p₁ s p₂ q₁ t q₂ r l

    on : (M : Path) → In M six → In e (path_edges M) → In e (used_edges six)
    on M = in_used six e M

    halves : (u : List ℕ) (x : ℕ) (v : List ℕ) → In (link a u x) six → In (link x v b) six → In e (edges_along a (u ++ (x ∷ v)) b) → In e (used_edges six)
    halves u x v hu hv k = ⊎_elim (on (link a u x) hu) (on (link x v b) hv) (in_append e (edges_along a u x) (edges_along x v b) (subst (λ (m : List (ℕ × ℕ)). In e m) (edges-cut a u x v b) k))

    go : (M : Path) → In M (four_paths a b (p₁ ++ (s ∷ p₂)) (q₁ ++ (t ∷ q₂)) r (link s l t)) → In e (path_edges M) → In e (used_edges six)
    go M (inl i) k = halves p₁ s p₂ (inl refl) (inr (inr (inr (inr (inl refl))))) (rw i at k)
    go M (inr (inl i)) k = halves q₁ t q₂ (inr (inl refl)) (inr (inr (inr (inr (inr (inl refl)))))) (rw i at k)
    go M (inr (inr (inl i))) k = on (link a r b) (inr (inr (inl refl))) (rw i at k)
    go M (inr (inr (inr (inl i)))) k = on (link s l t) (inr (inr (inr (inl refl)))) (rw i at k)
    go M (inr (inr (inr (inr h)))) k = absurd h

-- THE SIX LINKS, IN ORDER, where a table holds the edges of these paths and no other
module _ (g : Graph) (simple : Simple g) (table : List ℕ) (drawn : Drawn table capacity) (a b : ℕ) (R : Path) (set : VertexSet) (sized : Sized set)
    (into : (w : ℕ) → In w (four a R.s R.t b) → On set w) (out : (w : ℕ) → On set w → In w (four a R.s R.t b)) where
  pub crossing : (p q r : List ℕ)
      → ((M : Path) → In M (four_paths a b p q r R) → Along (Adj g) M.s M.inner M.t)
      → ((M : Path) → In M (four_paths a b p q r R) → Along (Adj (rows_graph capacity table)) M.s M.inner M.t)
      → ((u v : ℕ) → Adj (rows_graph capacity table) u v → In (edge u v) (used_edges (four_paths a b p q r R)))
      → NoDup (R.inner ++ (p ++ (q ++ (r ++ (a ∷ (b ∷ [])))))) → In R.s p → In R.t q → InOrder g table set
  crossing p q r along along' only nd hs ht = go (in_split R.s p hs) (in_split R.t q ht)
    where
      go : ((p₁ : List ℕ) × (p₂ : List ℕ) × (p ≡ p₁ ++ (R.s ∷ p₂))) → ((q₁ : List ℕ) × (q₂ : List ℕ) × (q ≡ q₁ ++ (R.t ∷ q₂))) → InOrder g table set
      go (p₁, p₂, ep) (q₁, q₂, eq) = in_order g simple table drawn (four a R.s R.t b) refl (six_between a b p₁ R.s p₂ q₁ R.t q₂ r R.inner) (paths (Adj g) along) (paths (Adj (rows_graph capacity table)) along')
          (λ u v k. cut-edges a b p₁ R.s p₂ q₁ R.t q₂ r R.inner (edge u v) (rw (ep, eq) at (only u v k))) set sized into out
        where
          paths : (E : ℕ → ℕ → Type 0) → ((M : Path) → In M (four_paths a b p q r R) → Along E M.s M.inner M.t) → StartPaths E (four a R.s R.t b) (six_between a b p₁ R.s p₂ q₁ R.t q₂ r R.inner)
          paths E f = six_paths_lem E a b p₁ R.s p₂ q₁ R.t q₂ r R.inner (rw ep at (f (link a p b) (inl refl))) (rw eq at (f (link a q b) (inr (inl refl)))) (f (link a r b) (inr (inr (inl refl)))) (f R (inr (inr (inr (inl refl))))) (rw (ep, eq) at nd)

-- ---- the three paths

abbrev pub whole_paths : Path → Path → Path → List Path
whole_paths P Q R = link 0 (rev (vertices P)) 0 ∷ (link Q.t (rev (Q.s ∷ Q.inner)) 0 ∷ (reversed R ∷ []))

swap_in : {A : Type 0} (M x y z : A) (l : List A) → In M (x ∷ (y ∷ (z ∷ l))) → In M (x ∷ (z ∷ (y ∷ l)))
swap_in M x y z l (inl e) = inl e
swap_in M x y z l (inr (inl e)) = inr (inr (inl e))
swap_in M x y z l (inr (inr (inl e))) = inr (inl e)
swap_in M x y z l (inr (inr (inr h))) = inr (inr (inr h))

nodup_behind : (x q r e : List ℕ) → NoDup (x ++ (q ++ (r ++ e))) → NoDup (x ++ (r ++ (q ++ e)))
nodup_behind x q r e nd = nodup_under x (q ++ (r ++ e)) (r ++ (q ++ e)) nd (nodup_swap q r e (nodup_right x (q ++ (r ++ e)) nd)) (λ w h. in_swap w r q e h)

wrapped_short : (a : ℕ) (l : List ℕ) (c : ℕ) → length l ≤ capacity → length (a ∷ (rev l ++ (c ∷ []))) ≤ capacity + 2
wrapped_short a l c h = omega (arith, length-append (rev l) (c ∷ []), length_rev l)

-- THREE PATHS: a cycle through 0, given by the path P without 0; a third path, over Q; the path R across.
pub record Crossed (g : Graph) (P Q R : Path) : Type 0 where
  pub path-P : IsPath (Adj g) P
  pub ks : Adj g 0 P.s
  pub kt : Adj g 0 P.t
  pub off_P : ¬ In 0 (vertices P)
  pub path-Q : IsPath (Adj g) Q
  pub k_q : Adj g 0 Q.s
  pub off_Q : ¬ In 0 (Q.s ∷ Q.inner)
  pub apart : (w : ℕ) → In w (Q.s ∷ Q.inner) → ¬ In w (vertices P)
  pub meets : In Q.t (vertices P)
  pub path-R : IsPath (Adj g) R
  pub seed : In R.s (Q.s ∷ Q.inner)
  pub goal : In R.t (vertices P)
  pub differ : R.t ≢ Q.t
  pub off_R : (w : ℕ) → In w R.inner → (¬ In w (Q.s ∷ Q.inner)) × (¬ In w (vertices P)) × (w ≢ 0)

module _ (g : Graph) (simple : Simple g) (fits : g.n ≤ capacity) (P Q R : Path) (c : Crossed g P Q R) where
  path-short : (L : Path) → IsPath (Adj g) L → length (vertices L) ≤ capacity
  path-short L p = omega (arith, at_most g.n (vertices L) p.nodup (path-low g simple L p))

  pub whole_room : Room (three_paths (rev (vertices P) ++ (0 ∷ [])) (vertices (link Q.t (rev (Q.s ∷ Q.inner)) 0)) (vertices (reversed R))) (whole_paths P Q R) 3
  whole_room = add_room _ _ _ 2 (reversed R) (add_room _ _ _ 1 (link Q.t (rev (Q.s ∷ Q.inner)) 0) (add_room [] _ [] 0 (link 0 (rev (vertices P)) 0) (record { same = refl; short = omega arith }) (omega arith) refl
      (wrapped_short 0 (vertices P) 0 (path-short P c.path-P))) (omega arith) refl (wrapped_short Q.t (Q.s ∷ Q.inner) 0 (omega (arith, path-short Q c.path-Q, length-append Q.inner (Q.t ∷ [])))))
      (omega arith) refl (wrapped_short R.t R.inner R.s (omega (arith, path-short R c.path-R, length-append R.inner (R.t ∷ []))))

  module _ (u v : List ℕ) (cut : vertices P ≡ u ++ (Q.t ∷ v)) where
    abbrev p : List ℕ
    p = Q.s ∷ Q.inner

    abbrev arcs : List Path
    arcs = four_paths 0 Q.t p u (rev v) R

    -- they use the same edges
    down : (e : ℕ × ℕ) → In e (used_edges (whole_paths P Q R)) → In e (used_edges arcs)
    down e h = let m = used_in (whole_paths P Q R) e h in go m.0 m.1 m.2
      where
        on : (M : Path) → In M arcs → In e (path_edges M) → In e (used_edges arcs)
        on M = in_used arcs e M

        round : In e (edges_along 0 (vertices P) 0) → In e (used_edges arcs)
        round k = ⊎_elim (on (link 0 u Q.t) (inr (inl refl))) (λ j. on (link 0 (rev v) Q.t) (inr (inr (inl refl))) (edges-rev Q.t v 0 e j))
            (in_append e (edges_along 0 u Q.t) (edges_along Q.t v 0) (subst (λ (m : List (ℕ × ℕ)). In e m) (ap (λ (l : List ℕ). edges_along 0 l 0) cut ∙ edges-cut 0 u Q.t v 0) k))

        go : (M : Path) → In M (whole_paths P Q R) → In e (path_edges M) → In e (used_edges arcs)
        go M (inl i) k = round (edges-back 0 (vertices P) 0 e (rw i at k))
        go M (inr (inl i)) k = on (link 0 p Q.t) (inl refl) (edges-back 0 p Q.t e (rw i at k))
        go M (inr (inr (inl i))) k = on R (inr (inr (inr (inl refl)))) (edges-back R.s R.inner R.t e (rw i at k))
        go M (inr (inr (inr h))) k = absurd h

    up : (e : ℕ × ℕ) → In e (used_edges arcs) → In e (used_edges (whole_paths P Q R))
    up e h = let m = used_in arcs e h in go m.0 m.1 m.2
      where
        on : (M : Path) → In M (whole_paths P Q R) → In e (path_edges M) → In e (used_edges (whole_paths P Q R))
        on M = in_used (whole_paths P Q R) e M

        round : In e (edges_along 0 u Q.t ++ edges_along Q.t v 0) → In e (used_edges (whole_paths P Q R))
        round k = on (link 0 (rev (vertices P)) 0) (inl refl) (edges-rev 0 (vertices P) 0 e (subst (λ (m : List (ℕ × ℕ)). In e m) (sym (ap (λ (l : List ℕ). edges_along 0 l 0) cut ∙ edges-cut 0 u Q.t v 0)) k))

        go : (M : Path) → In M arcs → In e (path_edges M) → In e (used_edges (whole_paths P Q R))
        go M (inl i) k = on (link Q.t (rev p) 0) (inr (inl refl)) (edges-rev 0 p Q.t e (rw i at k))
        go M (inr (inl i)) k = round (in_left e (edges_along 0 u Q.t) (edges_along Q.t v 0) (rw i at k))
        go M (inr (inr (inl i))) k = round (in_right e (edges_along 0 u Q.t) (edges_along Q.t v 0) (edges-back Q.t v 0 e (rw i at k)))
        go M (inr (inr (inr (inl i)))) k = on (reversed R) (inr (inr (inl refl))) (edges-rev R.s R.inner R.t e (rw i at k))
        go M (inr (inr (inr (inr h)))) k = absurd h

    arc_along : (M : Path) → In M arcs → Along (Adj g) M.s M.inner M.t
    arc_along M (inl i) = rw i (c.k_q, c.path-Q.along)
    arc_along M (inr (inl i)) = rw i (two_arcs (Adj g) simple.symmetric 0 P c.ks c.path-P.along c.kt Q.t u v cut).0
    arc_along M (inr (inr (inl i))) = rw i (two_arcs (Adj g) simple.symmetric 0 P c.ks c.path-P.along c.kt Q.t u v cut).1
    arc_along M (inr (inr (inr (inl i)))) = rw i c.path-R.along
    arc_along M (inr (inr (inr (inr h)))) = absurd h

    arc_edge : (x y : ℕ) → In (edge x y) (used_edges arcs) → Adj g x y
    arc_edge x y h = let m = used_in arcs (edge x y) h in of_along (Adj g) simple.symmetric m.0.s m.0.inner m.0.t (arc_along m.0 m.1) x y m.2

    -- the table holds them
    abbrev table : List ℕ
    table = table_of (whole_paths P Q R)

    drawn : Drawn table capacity
    drawn = table_drawn (whole_paths P Q R) (λ z h. simple.irreflexive z (arc_edge z z (down (edge z z) h)))

    only : (x y : ℕ) → Adj (rows_graph capacity table) x y → In (edge x y) (used_edges arcs)
    only x y k = down (edge x y) (table_used (whole_paths P Q R) x y k).2

    below : (w : ℕ) → w < g.n → w < capacity
    below w h = omega arith

    table_along : (M : Path) → In M arcs → Along (Adj (rows_graph capacity table)) M.s M.inner M.t
    table_along M hM = along-of (Adj (rows_graph capacity table)) M.s M.inner M.t (λ x y k.
        let h = in_used arcs (edge x y) M hM k in
        let a = arc_edge x y h in
        used_table (whole_paths P Q R) x y (below x (simple.low x y a)) (below y (edge-high g simple x y a)) (up (edge x y) h))

    on_P : (w : ℕ) → In w (u ++ (Q.t ∷ v)) → In w (vertices P)
    on_P w h = subst (λ (k : List ℕ). In w k) (sym cut) h

    whole : NoDup (R.inner ++ (p ++ (u ++ (rev v ++ (0 ∷ (Q.t ∷ []))))))
    whole = nodup_append R.inner (p ++ (u ++ (rev v ++ (0 ∷ (Q.t ∷ []))))) (nodup_inner R c.path-R.nodup) (three_nodup 0 P Q c.path-P.nodup c.off_P c.path-Q.nodup c.off_Q c.apart u v cut)
        (λ w h k. ⊎_elim (c.off_R w h).0 (λ j. ⊎_elim (λ i. (c.off_R w h).1 (on_P w (in_left w u (Q.t ∷ v) i))) (λ i. ⊎_elim (λ m. (c.off_R w h).1 (on_P w (in_right w u (Q.t ∷ v) (inr (rev_in w v m)))))
        (λ m. ⊎_elim (c.off_R w h).2 (λ n. (c.off_R w h).1 (subst (λ (k : ℕ). In k (vertices P)) (sym (in_single w Q.t n)) c.meets)) m) (in_append w (rev v) (0 ∷ (Q.t ∷ [])) i)) (in_append w u (rev v ++ (0 ∷ (Q.t ∷ []))) j)) (in_append w p (u ++ (rev v ++ (0 ∷ (Q.t ∷ [])))) k))

    -- the two arcs of the cycle change places
    swapped : NoDup (R.inner ++ (p ++ (rev v ++ (u ++ (0 ∷ (Q.t ∷ []))))))
    swapped = subst (λ (k : List ℕ). NoDup k) (append_assoc R.inner p (rev v ++ (u ++ (0 ∷ (Q.t ∷ []))))) (nodup_behind (R.inner ++ p) u (rev v) (0 ∷ (Q.t ∷ []))
        (subst (λ (k : List ℕ). NoDup k) (sym (append_assoc R.inner p (u ++ (rev v ++ (0 ∷ (Q.t ∷ [])))))) whole))

    abbrev arcs' : List Path
    arcs' = four_paths 0 Q.t p (rev v) u R

    only' : (x y : ℕ) → Adj (rows_graph capacity table) x y → In (edge x y) (used_edges arcs')
    only' x y k = let m = used_in arcs (edge x y) (only x y k) in in_used arcs' (edge x y) m.0 (swap_in m.0 (link 0 p Q.t) (link 0 u Q.t) (link 0 (rev v) Q.t) (R ∷ []) m.1) m.2

    unswap : (M : Path) → In M arcs' → In M arcs
    unswap M = swap_in M (link 0 p Q.t) (link 0 (rev v) Q.t) (link 0 u Q.t) (R ∷ [])

    cut-order : (set : VertexSet) → Sized set → ((w : ℕ) → In w (four 0 R.s R.t Q.t) → On set w) → ((w : ℕ) → On set w → In w (four 0 R.s R.t Q.t)) → InOrder g table set
    cut-order set sized into out = ⊎_elim (λ h. crossing g simple table drawn 0 Q.t R set sized into out p u (rev v) arc_along table_along only whole c.seed h)
        (λ k. ⊎_elim (λ e. absurd (c.differ e)) (λ h. crossing g simple table drawn 0 Q.t R set sized into out p (rev v) u (λ M j. arc_along M (unswap M j)) (λ M j. table_along M (unswap M j)) only' swapped c.seed (in_rev R.t v h)) k)
        (in_append R.t u (Q.t ∷ v) (subst (λ (k : List ℕ). In R.t k) cut c.goal))

  -- THE SIX LINKS OF THE THREE PATHS, in order.
  pub crossed-order : (set : VertexSet) → Sized set → ((w : ℕ) → In w (four 0 R.s R.t Q.t) → On set w) → ((w : ℕ) → On set w → In w (four 0 R.s R.t Q.t)) → InOrder g (table_of (whole_paths P Q R)) set
  crossed-order set sized into out = let r = in_split Q.t (vertices P) c.meets in cut-order r.0 r.1 r.2 set sized into out
