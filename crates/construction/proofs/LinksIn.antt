-- The six links of a start, found again in the table of their edges: what a search finds there between two branch vertices,
-- without the other two, is the link between them.
use Prim.Native.Nat.{ℕ, ◌≤◌, ◌<◌}
use mathlib.Core.Path.{◌≡◌, refl, sym, ap, subst, ◌∙◌}
use mathlib.Core.Bool.{true}
use mathlib.Core.Logic.{◌⊎◌, inl, inr, ⊎_elim, ⊎_map, ◌≢◌}
use mathlib.Core.List.{List, [], ◌∷◌, ◌++◌, append_assoc}
use lib.ListN.{length}
use Rattle.vertexset.specs.declared.VertexSet.{VertexSet}
use Rattle.connectivity.specs.Lists.{In, NoDup}
use Rattle.connectivity.specs.Graph.{Graph, Adj}
use Rattle.connectivity.specs.Path.{Path, link, vertices, End, Along, IsPath, edge, edges_along, path_edges, used_edges}
use Rattle.connectivity.proofs.Lists.{rev, in_single, in_left, in_right, rev_in, nodup_left, at_most, clash}
use Rattle.connectivity.proofs.Paths.{last_of, head_of, last_end, edge_same, edge-comm, end_or_inner, inner_of, used_in, inner_vertices}
use Rattle.connectivity.proofs.Edges.{path-low}
use Rattle.connectivity.proofs.EdgeUse.{edges-cut}
use Rattle.connectivity.proofs.Search.{Closed}
use Rattle.connectivity.proofs.Start.{StartPaths, start-path, clear_start, end_start, inner_sole}
use Rattle.connectivity.proofs.FirstLinks.{OneOf, reversed, oriented}
use Rattle.construction.specs.Sets.{minus, single, pair}
use Rattle.construction.specs.Start.{link_in}
use Rattle.graph.specs.Rows.{rows_graph}
use Rattle.construction.proofs.Basics.{Drawn, Sized, On, Asked, Met, Shut}
use Rattle.construction.proofs.SetLaws.{sized_single, sized_pair, sized_minus, on_low, single-on, on_single, pair-on, on_pair, minus-on, on_minus}
use Rattle.construction.proofs.Searching.{explored}
use Rattle.construction.proofs.Places.{rev_rev}
use Rattle.construction.proofs.Flat.{rev_vertices, path-reversed}
use Rattle.vertexset.specs.Set.{capacity}

-- ---- the edges of a path at one of its vertices

pub edges-rev : (s : ℕ) (l : List ℕ) (t : ℕ) (e : ℕ × ℕ) → In e (edges_along s l t) → In e (edges_along t (rev l) s)
edges-rev s [] t e h = inl (in_single e (edge s t) h ∙ edge-comm s t)
edges-rev s (a ∷ l) t e (inl k) = subst (λ (m : List (ℕ × ℕ)). In e m) (sym (edges-cut t (rev l) a [] s)) (in_right e (edges_along t (rev l) a) (edge a s ∷ []) (inl (k ∙ edge-comm s a)))
edges-rev s (a ∷ l) t e (inr k) = subst (λ (m : List (ℕ × ℕ)). In e m) (sym (edges-cut t (rev l) a [] s)) (in_left e (edges_along t (rev l) a) (edge a s ∷ []) (edges-rev a l t e k))

edge-left : (s : ℕ) (l : List ℕ) (t x y : ℕ) → In (edge x y) (edges_along s l t) → In x (s ∷ (l ++ (t ∷ [])))
edge-left s [] t x y h = ⊎_elim (λ e. inl e.0) (λ e. inr (inl e.0)) (edge_same x y s t (in_single (edge x y) (edge s t) h))
edge-left s (a ∷ l) t x y (inl k) = ⊎_elim (λ e. inl e.0) (λ e. inr (inl e.0)) (edge_same x y s a k)
edge-left s (a ∷ l) t x y (inr k) = inr (edge-left a l t x y k)

-- at its beginning it has one edge, at an inner vertex two
other_end : (x y b : ℕ) → edge x y ≡ edge x b → y ≡ b
other_end x y b e = ⊎_elim (λ k. k.1) (λ k. k.1 ∙ k.0) (edge_same x y x b e)

first_edge : (x : ℕ) (m : List ℕ) (t y : ℕ) → NoDup (x ∷ (m ++ (t ∷ []))) → In (edge x y) (edges_along x m t) → y ≡ head_of m t
first_edge x [] t y nd h = other_end x y t (in_single (edge x y) (edge x t) h)
first_edge x (b ∷ m) t y nd (inl e) = other_end x y b e
first_edge x (b ∷ m) t y nd (inr k) = absurd (nd.0 (edge-left b m t x y k))

two_edges : (s : ℕ) (u : List ℕ) (x : ℕ) (m : List ℕ) (t y : ℕ) → NoDup (s ∷ ((u ++ (x ∷ m)) ++ (t ∷ []))) → In (edge x y) (edges_along s (u ++ (x ∷ m)) t) → (y ≡ last_of s u) ⊎ (y ≡ head_of m t)
two_edges s [] x m t y nd (inl e) = inl (other_end x y s (e ∙ edge-comm s x))
two_edges s [] x m t y nd (inr k) = inr (first_edge x m t y nd.1 k)
two_edges s (c ∷ u) x m t y nd (inl e) = absurd (⊎_elim (λ k. nd.0 (inr (later k))) (λ k. nd.1.0 (later k)) (⊎_map (λ k. sym k.0) (λ k. sym k.0) (edge_same x y s c e)))
  where
    later : {z : ℕ} → z ≡ x → In z ((u ++ (x ∷ m)) ++ (t ∷ []))
    later {z} k = in_left z (u ++ (x ∷ m)) (t ∷ []) (in_right z u (x ∷ m) (inl k))
two_edges s (c ∷ u) x m t y nd (inr k) = two_edges c u x m t y nd.1 k

along-first : (E : ℕ → ℕ → Type 0) (s : ℕ) (l : List ℕ) (t : ℕ) → Along E s l t → E s (head_of l t)
along-first E s [] t w = w
along-first E s (a ∷ l) t w = w.0

head_in : (l : List ℕ) (t : ℕ) → In (head_of l t) (l ++ (t ∷ []))
head_in [] t = inl refl
head_in (a ∷ l) t = inl refl

-- ---- paths along the links

pub reversed-one : (ls : List Path) (M : Path) → OneOf ls M → OneOf ls (reversed M)
reversed-one ls M (L, h, inl e) = (L, h, inr (ap reversed e))
reversed-one ls M (L, h, inr e) = (L, h, inl (ap reversed e ∙ ap (λ (l : List ℕ). link L.s l L.t) (rev_rev L.inner)))

module _ (E : ℕ → ℕ → Type 0) (esym : (u v : ℕ) → E u v → E v u) (B : List ℕ) (six : List Path) (x : StartPaths E B six) (only : (u v : ℕ) → E u v → In (edge u v) (used_edges six)) where
  pub one_path : (M : Path) → OneOf six M → IsPath E M
  one_path M (L, h, inl e) = rw e (start-path E B six x L h)
  one_path M (L, h, inr e) = rw e (path-reversed E esym L (start-path E B six x L h))

  one_edges : (M : Path) (o : OneOf six M) (e : ℕ × ℕ) → In e (path_edges o.0) → In e (path_edges M)
  one_edges M (L, h, inl i) e k = rw i k
  one_edges M (L, h, inr i) e k = rw i (edges-rev L.s L.inner L.t e k)

  one_inner : (M : Path) (o : OneOf six M) (w : ℕ) → In w M.inner → In w o.0.inner
  one_inner M (L, h, inl i) w k = rw i at k
  one_inner M (L, h, inr i) w k = rev_in w L.inner (rw i at k)

  one_end : (M : Path) → OneOf six M → In M.t B
  one_end M (L, h, inl i) = rw i (end_start E B six x L h L.t (inr refl))
  one_end M (L, h, inr i) = rw i (end_start E B six x L h L.s (inl refl))

  one_clear : (M : Path) → OneOf six M → (w : ℕ) → In w M.inner → ¬ In w B
  one_clear M o w k = clear_start E B six x o.0 o.1 w (one_inner M o w k)

  -- an edge at an inner vertex of a link is an edge of the link
  edge-inner : (M : Path) → OneOf six M → (w y : ℕ) → In w M.inner → E w y → In (edge w y) (path_edges M)
  edge-inner M o w y k e =
      let r = used_in six (edge w y) (only w y e) in
      let i = inner_of r.0 w (edge-left r.0.s r.0.inner r.0.t w y r.2) (λ j. one_clear M o w k (end_start E B six x r.0 r.1 w j)) in
      let same : r.0 ≡ o.0 = inner_sole six (nodup_left (inner_vertices six) B x.nodup) r.0 o.0 r.1 o.1 w i (one_inner M o w k) in
      one_edges M o (edge w y) (subst (λ (L : Path). In (edge w y) (path_edges L)) same r.2)

  -- a path that has begun on a link goes on along it
  follow : (M : Path) → OneOf six M → (u m l : List ℕ) (t v : ℕ) → M.inner ≡ u ++ m → v ≡ last_of M.s u → head_of l t ≡ head_of m M.t
      → NoDup (v ∷ (l ++ (t ∷ []))) → Along E v l t → ((w : ℕ) → In w l → ¬ In w B) → In t B → (l ≡ m) × (t ≡ M.t)
  follow M o u [] [] t v cut e h nd al off ht = (refl, h)
  follow M o u [] (y ∷ l) t v cut e h nd al off ht = absurd (off y (inl refl) (rw h (one_end M o)))
  follow M o u (b ∷ m) [] t v cut e h nd al off ht = absurd (one_clear M o b (rw cut (in_right b u (b ∷ m) (inl refl))) (rw h at ht))
  follow M o u (b ∷ m) (y ∷ l) t v cut e h nd al off ht = ⊎_elim (λ k. absurd (nd.0 (inr (subst (λ (w : ℕ). In w (l ++ (t ∷ []))) (k ∙ sym e) (head_in l t)))))
      (λ k. let r = follow M o (u ++ (b ∷ [])) m l t y (cut ∙ sym (append_assoc u (b ∷ []) m)) (h ∙ sym (last_end M.s u b)) k nd.1 al.1 (λ w j. off w (inr j)) ht in ((λ i. h i ∷ r.0 i), r.1)) two
    where
      here : In b M.inner
      here = rw cut (in_right b u (b ∷ m) (inl refl))

      two : (head_of l t ≡ last_of M.s u) ⊎ (head_of l t ≡ head_of m M.t)
      two = two_edges M.s u b m M.t (head_of l t) (subst (λ (k : List ℕ). NoDup (M.s ∷ (k ++ (M.t ∷ [])))) cut (one_path M o).nodup)
          (subst (λ (k : List ℕ). In (edge b (head_of l t)) (edges_along M.s k M.t)) cut (edge-inner M o b (head_of l t) here (subst (λ (k : ℕ). E k (head_of l t)) h (along-first E y l t al.1))))

  -- A PATH BETWEEN BRANCH VERTICES, WITH NONE INSIDE, IS ONE OF THE LINKS.
  pub path-one : (F : Path) → IsPath E F → In F.s B → In F.t B → ((w : ℕ) → In w F.inner → ¬ In w B) → OneOf six F
  path-one F p hs ht off =
      let y = head_of F.inner F.t in
      let r = used_in six (edge F.s y) (only F.s y (along-first E F.s F.inner F.t p.along)) in
      begin r.0 r.1 r.2 (end_or_inner r.0 F.s (edge-left r.0.s r.0.inner r.0.t F.s y r.2))
    where
      all : (M : Path) → OneOf six M → F.s ≡ M.s → In (edge F.s (head_of F.inner F.t)) (path_edges M) → OneOf six F
      all M o e k =
          let h = first_edge M.s M.inner M.t (head_of F.inner F.t) (one_path M o).nodup (subst (λ (v : ℕ). In (edge v (head_of F.inner F.t)) (path_edges M)) e k) in
          let r = follow M o [] M.inner F.inner F.t F.s refl e h p.nodup p.along off ht in
          subst (λ (L : Path). OneOf six L) (sym (λ i. link (e i) (r.0 i) (r.1 i))) o

      begin : (L : Path) → In L six → In (edge F.s (head_of F.inner F.t)) (path_edges L) → End F.s L ⊎ In F.s L.inner → OneOf six F
      begin L h k (inl (inl e)) = all L (L, h, inl refl) e k
      begin L h k (inl (inr e)) = all (reversed L) (L, h, inr refl) e (edges-rev L.s L.inner L.t (edge F.s (head_of F.inner F.t)) k)
      begin L h k (inr i) = absurd (clear_start E B six x L h F.s i hs)

-- a closed set that a path begins in and does not leave
walk : (g : Graph) (S G R : ℕ → Type 0) (c : Closed g S G R) (s : ℕ) (l : List ℕ) (t : ℕ) → c.side s ≡ true → Along (Adj g) s l t → ((z : ℕ) → In z l → ¬ R z) → ¬ R t → c.side t ≡ true
walk g S G R c s [] t h al off nt = c.closed s t h al nt
walk g S G R c s (a ∷ l) t h al off nt = walk g S G R c a l t (c.closed s a h al.0 (off a (inl refl))) al.1 (λ z k. off z (inr k)) nt

-- the link from u to w
pub record Linked (six : List Path) (table : List ℕ) (set : VertexSet) (u w : ℕ) : Type 0 where
  pub M : Path
  pub from : M.s ≡ u
  pub upto : M.t ≡ w
  pub one : OneOf six M
  pub same : link_in table set u w ≡ vertices M
  pub short : length (vertices M) ≤ capacity

module _ (table : List ℕ) (d : Drawn table capacity) (B : List ℕ) (six : List Path) (x : StartPaths (Adj (rows_graph capacity table)) B six)
    (only : (u v : ℕ) → Adj (rows_graph capacity table) u v → In (edge u v) (used_edges six))
    (set : VertexSet) (sized : Sized set) (into : (w : ℕ) → In w B → On set w) (out : (w : ℕ) → On set w → In w B) where
  module _ (u w : ℕ) (hu : In u B) (hw : In w B) (ne : u ≢ w) where
    abbrev others : VertexSet
    others = minus set (pair u w)

    low_u : u < capacity
    low_u = on_low set u sized (into u hu)

    low_w : w < capacity
    low_w = on_low set w sized (into w hw)

    stays : (z : ℕ) → (z ≡ u) ⊎ (z ≡ w) → ¬ On others z
    stays z e k = (minus-on set (pair u w) sized (sized_pair u w) z k).1 (⊎_elim (λ i. rw i (on_pair u w low_u low_w).0) (λ i. rw i (on_pair u w low_u low_w).1) e)

    asked : Asked capacity (single w) (single u) others
    asked = record {
      seeds_sized = sized_single w;
      goals_sized = sized_single u;
      removed-sized = sized_minus set (pair u w) sized (sized_pair u w);
      low = λ z h. rw (single-on w z h) low_w;
      no_goal = λ z h k. ne (sym (single-on u z k) ∙ single-on w z h);
      no_removed = λ z h. stays z (inr (single-on w z h));
      goal_stays = λ z h. stays z (inl (single-on u z h));
    }

    met : Met table capacity (single w) (single u) others → Linked six table set u w
    met m =
        let F = m.found.path in
        let o = reversed-one six F (path-one (Adj (rows_graph capacity table)) d.simple.symmetric B six x only F m.found.is_path (rw (single-on w F.s m.found.seed) hw) (rw (single-on u F.t m.found.goal) hu) clear) in
        let p = one_path (Adj (rows_graph capacity table)) d.simple.symmetric B six x only (reversed F) o in
        record {
          M = reversed F;
          from = single-on u F.t m.found.goal;
          upto = single-on w F.s m.found.seed;
          one = o;
          same = m.same ∙ rev_vertices F;
          short = at_most capacity (vertices (reversed F)) p.nodup (path-low (rows_graph capacity table) d.simple (reversed F) p);
        }
      where
        clear : (z : ℕ) → In z m.found.path.inner → ¬ In z B
        clear z h k =
            let f = m.found.off z h in
            f.2 (on_minus set (pair u w) sized (sized_pair u w) z (into z k) (λ j. ⊎_elim (λ i. f.1 (rw i (on_single u low_u))) (λ i. f.0 (rw i (on_single w low_w))) (pair-on u w z j)))

    -- a closed set would hold the whole link
    shut : Shut table capacity (single w) (single u) others → ⊥
    shut c =
        let r = oriented (rows_graph capacity table) d.simple B six x w u hw hu (λ e. ne (sym e)) in
        let M = r.0 in
        let end = walk (rows_graph capacity table) (On (single w)) (On (single u)) (On others) c.closed M.s M.inner M.t (c.closed.seeds M.s (rw r.1 (on_single w low_w)))
        (one_path (Adj (rows_graph capacity table)) d.simple.symmetric B six x only M r.3).along (λ z h k. one_clear (Adj (rows_graph capacity table)) d.simple.symmetric B six x only M r.3 z h (out z (minus-on set (pair u w) sized (sized_pair u w) z k).0))
        (stays M.t (inl r.2)) in
        clash end (c.closed.goals M.t (rw r.2 (on_single u low_u)))

    -- THE SEARCH FINDS THE LINK.
    pub linked : Linked six table set u w
    linked = ⊎_elim met (λ c. absurd (shut c)) (explored table capacity d (single w) (single u) others asked)
