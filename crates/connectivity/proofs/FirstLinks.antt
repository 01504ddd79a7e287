-- The certifier's start: from a vertex to three links between two vertices, from there to four branch vertices and six links, and
-- these in the order of the record; or two vertices separate the graph. Each step from the answer of a search:
--   few-neighbours: fewer than three neighbours separate their vertex;
--   cycle-step, cycle-through: a cycle through a vertex;  third-step: a third path from it to the cycle, which gives three links;
--   four-step: from inside one link to inside another, which gives four branch vertices and six links;
--   sorted-start: the six links sorted and oriented.
use mathlib.Core.Path.{◌≡◌, refl, subst, sym, ap, ◌∙◌}
use mathlib.Core.Logic.{◌⊎◌, inl, inr, ⊎_elim, ◌≢◌, ⊎_map}
use mathlib.Core.List.{List, [], ◌∷◌, ◌++◌, append_assoc}
use Prim.Native.Nat.{ℕ, ◌<◌, ◌≤◌}
use native.Mathlib.Omega.{arith}
use native.Mathlib.Decide.{ℕ_discrete}
use lib.ListN.{length, length-append}
use Rattle.connectivity.specs.Lists.{In, NoDup, member, below, select, Ascending}
use Rattle.connectivity.specs.Graph.{Graph, Simple, Adj}
use Rattle.connectivity.specs.Path.{Path, link, Along, IsPath, vertices}
use Rattle.connectivity.specs.Build.{four, end_pairs, six_pairs}
use Rattle.connectivity.proofs.Lists.{rev, rev_in, nodup_append, four-differ, nodup_rev, nodup_left, beside, ascending_below, member-in, select_in, fewer, select-nodup, nodup_below, in_select, below_in, in_member, nodup_count, in_append, in_left, in_right, nodup_right, nodup_apart, nodup_under, nodup_swap, in_swap, in_split, in?, length_below, is_yes, no_false, true_yes, yes_true, in_below, scan, either, and_not?, true?, length_rev, in_rev, in_single}
use Rattle.connectivity.proofs.Paths.{SamePair, inner_on, along-rev, in_ends, nodup_inner, same_trans, end_vertex, along-cut, in_inner, end_t, inner_in, along-join, end_s, ends_differ, end_or_inner, inner_vertices}
use Rattle.connectivity.proofs.Edges.{along-low, edge-differ, edge-high}
use Rattle.connectivity.proofs.Start.{StartPaths, Subdivision, six_nodup, clear_start, six_order, start-path, inner_sole, start-joined, start-differ}
use Rattle.connectivity.proofs.Search.{Searched, search, Found}
use Rattle.connectivity.proofs.Recorded.{Recorded}
use Rattle.connectivity.proofs.Progress.{SeparationPair, closed_separated, Separated, cut-pair, CutVertex, none-cut}

-- SORTED AND ORIENTED. The paths of the record are those found, some of them reversed.
abbrev pub reversed : Path → Path
reversed L = link L.t (rev L.inner) L.s

abbrev pub OneOf : List Path → Path → Type 0
OneOf ls M = (L : Path) × In L ls × ((M ≡ L) ⊎ (M ≡ reversed L))

one_inner : (L M : Path) → (M ≡ L) ⊎ (M ≡ reversed L) → (w : ℕ) → In w M.inner → In w L.inner
one_inner L M (inl e) w h = rw e at h
one_inner L M (inr e) w h = rev_in w L.inner (rw e at h)

one_ends : (L M : Path) → (M ≡ L) ⊎ (M ≡ reversed L) → SamePair L.s L.t M.s M.t
one_ends L M (inl e) = rw e (inl (refl, refl))
one_ends L M (inr e) = rw e (inr (refl, refl))

module _ (g : Graph) (p : Simple g) (B : List ℕ) (ls : List Path) (x : StartPaths (Adj g) B ls) where
  pub sorted-start : (a b c d : ℕ) → a < b → b < c → c < d → ((w : ℕ) → In w (four a b c d) → In w B) → (ms : List Path) → end_pairs ms ≡ six_pairs a b c d → ((M : Path) → In M ms → OneOf ls M) → Subdivision (Adj g) ms
  sorted-start a b c d ab bc cd four-in ms shape one = record {
    p = a;
    q = b;
    r = c;
    s = d;
    pq = ab;
    qr = bc;
    rs = cd;
    paths = record {
      shape = shape;
      along = λ M h. along M (one M h);
      nodup = nodup_append (inner_vertices ms) (four a b c d) (inner ms (λ M h. h) (subst (λ (k : List (ℕ × ℕ)). NoDup k) (sym shape) (six_nodup a b c d ab bc cd)))
          (four-differ a b c d ab bc cd) (λ w h k. let r = inner_on ms w h in off r.0 (one r.0 r.1) w r.2 (four-in w k));
    };
  }
    where
      along : (M : Path) → OneOf ls M → Along (Adj g) M.s M.inner M.t
      along M (L, h, inl e) = rw e (x.along L h)
      along M (L, h, inr e) = rw e (along-rev (Adj g) p.symmetric L.s L.inner L.t (x.along L h))

      off : (M : Path) → OneOf ls M → (w : ℕ) → In w M.inner → ¬ In w B
      off M r w h = clear_start (Adj g) B ls x r.0 r.1 w (one_inner r.0 M r.2 w h)

      order : (M : Path) → In M ms → M.s < M.t
      order M h = six_order a b c d M.s M.t ab bc cd (subst (λ (k : List (ℕ × ℕ)). In {A = ℕ × ℕ} (M.s, M.t) k) shape (in_ends ms M h))

      list : (M : Path) → OneOf ls M → NoDup M.inner
      list M (L, h, inl e) = rw e (nodup_inner L (start-path (Adj g) B ls x L h).nodup)
      list M (L, h, inr e) = rw e (nodup_rev L.inner (nodup_inner L (start-path (Adj g) B ls x L h).nodup))

      -- an inner vertex of two of them: they come from one path, so they have the same ends
      apart : (M N : Path) → In M ms → In N ms → (w : ℕ) → In w M.inner → In w N.inner → (M.s ≡ N.s) × (M.t ≡ N.t)
      apart M N hM hN w h k =
          let r = one M hM in
          let s = one N hN in
          let e : r.0 ≡ s.0 = inner_sole ls (nodup_left (inner_vertices ls) B x.nodup) r.0 s.0 r.1 s.1 w (one_inner r.0 M r.2 w h) (one_inner s.0 N s.2 w k) in
          ⊎_elim (λ j. j) (λ j. absurd (omega (arith, order M hM, order N hN, j.0, j.1))) (same_trans s.0.s s.0.t M.s M.t N.s N.t (rw e at (one_ends r.0 M r.2)) (one_ends s.0 N s.2))

      inner : (ns : List Path) → ((M : Path) → In M ns → In M ms) → NoDup (end_pairs ns) → NoDup (inner_vertices ns)
      inner [] f nd = tt
      inner (M ∷ ns) f nd = nodup_append M.inner (inner_vertices ns) (list M (one M (f M (inl refl)))) (inner ns (λ N h. f N (inr h)) nd.1) (λ w h k.
          let r = inner_on ns w k in
          let e = apart M r.0 (f M (inl refl)) (f r.0 (inr r.1)) w h r.2 in
          nd.0 (rw (e.0, e.1) (in_ends ns r.0 r.1)))

  -- such a list is there
  abbrev pub Oriented : ℕ → ℕ → Type 0
  Oriented u v = (M : Path) × (M.s ≡ u) × (M.t ≡ v) × OneOf ls M

  pub oriented : (u v : ℕ) → In u B → In v B → u ≢ v → Oriented u v
  oriented u v hu hv ne = let r = start-joined (Adj g) B ls x u v hu hv ne in ⊎_elim (λ (e : (u ≡ r.0.s) × (v ≡ r.0.t)). (r.0, sym e.0, sym e.1, (r.0, r.1, inl refl)))
      (λ (e : (u ≡ r.0.t) × (v ≡ r.0.s)). (reversed r.0, sym e.0, sym e.1, (r.0, r.1, inr refl))) r.2

  pub start-low : (w : ℕ) → 2 ≤ length B → In w B → w < g.n
  start-low w big h =
      let z = beside B (w ∷ []) (start-differ (Adj g) B ls x) (omega arith) in
      let r = start-joined (Adj g) B ls x z.0 w z.1 h (λ e. z.2 (inl e)) in
      along-low g p r.0.s r.0.inner r.0.t (x.along r.0 r.1) w (end_vertex w r.0 (⊎_elim (λ e. inr e.1) (λ e. inl e.1) r.2))

  pub sort_start : length B ≡ 4 → (ms : List Path) × Subdivision (Adj g) ms
  sort_start four-long = go sorted (ascending_below (λ w. member w B) g.n) size (λ w h. member-in w B (select_in (λ w. member w B) (below g.n) w h).1)
    where
      sorted : List ℕ
      sorted = select (λ w. member w B) (below g.n)

      size : length sorted ≡ 4
      size = omega (
        arith,
        four-long,
        fewer sorted B (select-nodup (λ w. member w B) (below g.n) (nodup_below g.n)) (λ w h. member-in w B (select_in (λ w. member w B) (below g.n) w h).1),
        fewer B sorted (start-differ (Adj g) B ls x) (λ w h. in_select (λ w. member w B) (below g.n) w (below_in g.n w (start-low w (omega arith) h)) (in_member w B h)),
      )

      go : (l : List ℕ) → Ascending l → length l ≡ 4 → ((w : ℕ) → In w l → In w B) → (ms : List Path) × Subdivision (Adj g) ms
      go [] up n f = absurd (omega arith)
      go (a ∷ []) up n f = absurd (omega arith)
      go (a ∷ (b ∷ [])) up n f = absurd (omega arith)
      go (a ∷ (b ∷ (c ∷ []))) up n f = absurd (omega arith)
      go (a ∷ (b ∷ (c ∷ (d ∷ (e ∷ l))))) up n f = absurd (omega arith)
      go (a ∷ (b ∷ (c ∷ (d ∷ [])))) up n f = make (get a b ha hb (λ e. omega arith)) (get a c ha hc (λ e. omega arith)) (get a d ha hd (λ e. omega arith)) (get b c hb hc (λ e. omega arith))
          (get b d hb hd (λ e. omega arith)) (get c d hc hd (λ e. omega arith))
        where
          ha : In a (four a b c d)
          ha = inl refl

          hb : In b (four a b c d)
          hb = inr (inl refl)

          hc : In c (four a b c d)
          hc = inr (inr (inl refl))

          hd : In d (four a b c d)
          hd = inr (inr (inr (inl refl)))

          get : (u v : ℕ) → In u (four a b c d) → In v (four a b c d) → u ≢ v → Oriented u v
          get u v hu hv ne = oriented u v (f u hu) (f v hv) ne

          make : Oriented a b → Oriented a c → Oriented a d → Oriented b c → Oriented b d → Oriented c d → (ms : List Path) × Subdivision (Adj g) ms
          make m1 m2 m3 m4 m5 m6 =
              let ms = m1.0 ∷ (m2.0 ∷ (m3.0 ∷ (m4.0 ∷ (m5.0 ∷ (m6.0 ∷ []))))) in
              (ms, sorted-start a b c d up.0 up.1.0 up.1.1.0 f ms (λ i. (m1.1 i, m1.2 i) ∷ ((m2.1 i, m2.2 i) ∷ ((m3.1 i, m3.2 i) ∷ ((m4.1 i, m4.2 i) ∷ ((m5.1 i, m5.2 i) ∷ ((m6.1 i, m6.2 i) ∷ [])))))) one)
            where
              one : (M : Path) → In M (m1.0 ∷ (m2.0 ∷ (m3.0 ∷ (m4.0 ∷ (m5.0 ∷ (m6.0 ∷ [])))))) → OneOf ls M
              one M (inl e) = rw e m1.3
              one M (inr (inl e)) = rw e m2.3
              one M (inr (inr (inl e))) = rw e m3.3
              one M (inr (inr (inr (inl e)))) = rw e m4.3
              one M (inr (inr (inr (inr (inl e))))) = rw e m5.3
              one M (inr (inr (inr (inr (inr (inl e)))))) = rw e m6.3
              one M (inr (inr (inr (inr (inr (inr h)))))) = absurd h

-- THREE LINKS between a and b that meet only there; a vertex x inside the first, and a vertex y inside another.
pub record ThreeLinks (g : Graph) : Type 0 where
  pub a : ℕ
  pub b : ℕ
  pub p : List ℕ
  pub q : List ℕ
  pub r : List ℕ
  pub along-p : Along (Adj g) a p b
  pub along-q : Along (Adj g) a q b
  pub along-r : Along (Adj g) a r b
  pub nodup : NoDup (p ++ (q ++ (r ++ (a ∷ (b ∷ [])))))
  pub x : ℕ
  pub x_in : In x p
  pub y : ℕ
  pub y_in : In y (q ++ r)

-- the certifier's start, or a separation pair
pub data Begin (g : Graph) : Type 0 where
  begun : (ls : List Path) → Recorded (Adj g) ls → Begin g
  broken : SeparationPair g → Begin g

recorded_start : (g : Graph) → ((ms : List Path) × Subdivision (Adj g) ms) → Begin g
recorded_start g ([], x) = absurd (omega (arith, ap length x.paths.shape))
recorded_start g (M ∷ ms, x) = begun (M ∷ ms) (inl x)

-- a path l from s inside one link to t inside another: six links between a, s, t, b
abbrev pub six_between : (a b : ℕ) (p₁ : List ℕ) (s : ℕ) (p₂ q₁ : List ℕ) (t : ℕ) (q₂ r l : List ℕ) → List Path
six_between a b p₁ s p₂ q₁ t q₂ r l = link a p₁ s ∷ (link a q₁ t ∷ (link a r b ∷ (link s l t ∷ (link s p₂ b ∷ (link t q₂ b ∷ [])))))

pub six_paths_lem : (E : ℕ → ℕ → Type 0) (a b : ℕ) (p₁ : List ℕ) (s : ℕ) (p₂ q₁ : List ℕ) (t : ℕ) (q₂ r l : List ℕ) → Along E a (p₁ ++ (s ∷ p₂)) b → Along E a (q₁ ++ (t ∷ q₂)) b → Along E a r b → Along E s l t
    → NoDup (l ++ ((p₁ ++ (s ∷ p₂)) ++ ((q₁ ++ (t ∷ q₂)) ++ (r ++ (a ∷ (b ∷ [])))))) → StartPaths E (four a s t b) (six_between a b p₁ s p₂ q₁ t q₂ r l)
six_paths_lem E a b p₁ s p₂ q₁ t q₂ r l ap aq ar al nd = record { shape = refl; along = along; nodup = nodup_count ℕ_discrete (inner_vertices six ++ four a s t b) old nd into (simp length-append (omega arith)) }
  where
    six : List Path
    six = six_between a b p₁ s p₂ q₁ t q₂ r l

    old : List ℕ
    old = l ++ ((p₁ ++ (s ∷ p₂)) ++ ((q₁ ++ (t ∷ q₂)) ++ (r ++ (a ∷ (b ∷ [])))))

    along : (M : Path) → In M six → Along E M.s M.inner M.t
    along M (inl e) = rw e (along-cut E a p₁ s p₂ b ap).0
    along M (inr (inl e)) = rw e (along-cut E a q₁ t q₂ b aq).0
    along M (inr (inr (inl e))) = rw e ar
    along M (inr (inr (inr (inl e)))) = rw e al
    along M (inr (inr (inr (inr (inl e))))) = rw e (along-cut E a p₁ s p₂ b ap).1
    along M (inr (inr (inr (inr (inr (inl e)))))) = rw e (along-cut E a q₁ t q₂ b aq).1
    along M (inr (inr (inr (inr (inr (inr h)))))) = absurd h

    into : (w : ℕ) → In w old → In w (inner_vertices six ++ four a s t b)
    into w h = ⊎_elim (inner (link s l t) (inr (inr (inr (inl refl)))))
        (λ k. ⊎_elim at_p (λ j. ⊎_elim at_q at_r (in_append w (q₁ ++ (t ∷ q₂)) (r ++ (a ∷ (b ∷ []))) j)) (in_append w (p₁ ++ (s ∷ p₂)) ((q₁ ++ (t ∷ q₂)) ++ (r ++ (a ∷ (b ∷ [])))) k))
        (in_append w l ((p₁ ++ (s ∷ p₂)) ++ ((q₁ ++ (t ∷ q₂)) ++ (r ++ (a ∷ (b ∷ []))))) h)
      where
        inner : (M : Path) → In M six → In w M.inner → In w (inner_vertices six ++ four a s t b)
        inner M h k = in_left w (inner_vertices six) (four a s t b) (in_inner M six w h k)

        branch : In w (four a s t b) → In w (inner_vertices six ++ four a s t b)
        branch h = in_right w (inner_vertices six) (four a s t b) h

        at_p : In w (p₁ ++ (s ∷ p₂)) → In w (inner_vertices six ++ four a s t b)
        at_p h = ⊎_elim (inner (link a p₁ s) (inl refl)) (λ k. ⊎_elim (λ e. branch (inr (inl e))) (inner (link s p₂ b) (inr (inr (inr (inr (inl refl)))))) k) (in_append w p₁ (s ∷ p₂) h)

        at_q : In w (q₁ ++ (t ∷ q₂)) → In w (inner_vertices six ++ four a s t b)
        at_q h = ⊎_elim (inner (link a q₁ t) (inr (inl refl))) (λ k. ⊎_elim (λ e. branch (inr (inr (inl e)))) (inner (link t q₂ b) (inr (inr (inr (inr (inr (inl refl))))))) k) (in_append w q₁ (t ∷ q₂) h)

        at_r : In w (r ++ (a ∷ (b ∷ []))) → In w (inner_vertices six ++ four a s t b)
        at_r h = ⊎_elim (inner (link a r b) (inr (inr (inl refl)))) (λ k. ⊎_elim (λ e. branch (inl e)) (λ j. branch (inr (inr (inr j)))) k) (in_append w r (a ∷ (b ∷ [])) h)

-- a cycle through a, given by the path P without a, and a path Q from a neighbour of a to the cycle: the three links
pub three_nodup : (a : ℕ) (P Q : Path) → NoDup (vertices P) → ¬ In a (vertices P) → NoDup (vertices Q) → ¬ In a (Q.s ∷ Q.inner) → ((w : ℕ) → In w (Q.s ∷ Q.inner) → ¬ In w (vertices P))
    → (u v : List ℕ) → vertices P ≡ u ++ (Q.t ∷ v) → NoDup ((Q.s ∷ Q.inner) ++ (u ++ (rev v ++ (a ∷ (Q.t ∷ [])))))
three_nodup a P Q nP na nQ aQ off u v e = nodup_count ℕ_discrete new ((Q.s ∷ Q.inner) ++ (a ∷ (u ++ (Q.t ∷ v)))) old into (simp (length-append, length_rev) (omega arith))
  where
    new : List ℕ
    new = (Q.s ∷ Q.inner) ++ (u ++ (rev v ++ (a ∷ (Q.t ∷ []))))

    on_P : (w : ℕ) → In w (u ++ (Q.t ∷ v)) → In w (vertices P)
    on_P w h = subst (λ (k : List ℕ). In w k) (sym e) h

    old : NoDup ((Q.s ∷ Q.inner) ++ (a ∷ (u ++ (Q.t ∷ v))))
    old = nodup_append (Q.s ∷ Q.inner) (a ∷ (u ++ (Q.t ∷ v))) (nodup_left (Q.s ∷ Q.inner) (Q.t ∷ []) nQ)
        ((λ h. na (on_P a h)), subst (λ (k : List ℕ). NoDup k) e nP) (λ w h k. ⊎_elim (λ i. aQ (subst (λ (m : ℕ). In m (Q.s ∷ Q.inner)) i h)) (λ j. off w h (on_P w j)) k)

    ends : (w : ℕ) → In w (a ∷ (Q.t ∷ [])) → In w new
    ends w h = in_right w (Q.s ∷ Q.inner) (u ++ (rev v ++ (a ∷ (Q.t ∷ [])))) (in_right w u (rev v ++ (a ∷ (Q.t ∷ []))) (in_right w (rev v) (a ∷ (Q.t ∷ [])) h))

    halves : (w : ℕ) → In w u ⊎ In w (rev v) → In w new
    halves w h = in_right w (Q.s ∷ Q.inner) (u ++ (rev v ++ (a ∷ (Q.t ∷ [])))) (⊎_elim (in_left w u (rev v ++ (a ∷ (Q.t ∷ [])))) (λ k. in_right w u (rev v ++ (a ∷ (Q.t ∷ []))) (in_left w (rev v) (a ∷ (Q.t ∷ [])) k)) h)

    into : (w : ℕ) → In w ((Q.s ∷ Q.inner) ++ (a ∷ (u ++ (Q.t ∷ v)))) → In w new
    into w h = ⊎_elim (in_left w (Q.s ∷ Q.inner) (u ++ (rev v ++ (a ∷ (Q.t ∷ [])))))
        (λ k. ⊎_elim (λ i. ends w (inl i)) (λ j. ⊎_elim (λ i. halves w (inl i)) (λ i. ⊎_elim (λ m. ends w (inr (inl m))) (λ m. halves w (inr (in_rev w v m))) i) (in_append w u (Q.t ∷ v) j)) k)
        (in_append w (Q.s ∷ Q.inner) (a ∷ (u ++ (Q.t ∷ v))) h)

pub two_arcs : (E : ℕ → ℕ → Type 0) → ((u v : ℕ) → E u v → E v u) → (a : ℕ) (P : Path) → E a P.s → Along E P.s P.inner P.t → E a P.t → (b : ℕ) (u v : List ℕ) → vertices P ≡ u ++ (b ∷ v) → Along E a u b × Along E a (rev v) b
two_arcs E esym a P ks path kt b u v e =
    let round : Along E a (vertices P) a = along-join E a (P.s ∷ P.inner) P.t [] a (ks, path) (esym a P.t kt) in
    let cut = along-cut E a u b v a (subst (λ (k : List ℕ). Along E a k a) e round) in
    (cut.0, along-rev E esym b v a cut.1)

module _ (g : Graph) (p : Simple g) where
  four-links : (a b : ℕ) (p₁ : List ℕ) (s : ℕ) (p₂ q₁ : List ℕ) (t : ℕ) (q₂ r l : List ℕ) → Along (Adj g) a (p₁ ++ (s ∷ p₂)) b → Along (Adj g) a (q₁ ++ (t ∷ q₂)) b → Along (Adj g) a r b → Along (Adj g) s l t
      → NoDup (l ++ ((p₁ ++ (s ∷ p₂)) ++ ((q₁ ++ (t ∷ q₂)) ++ (r ++ (a ∷ (b ∷ [])))))) → Begin g
  four-links a b p₁ s p₂ q₁ t q₂ r l ap aq ar al nd = recorded_start g (sort_start g p (four a s t b) (six_between a b p₁ s p₂ q₁ t q₂ r l) (six_paths_lem (Adj g) a b p₁ s p₂ q₁ t q₂ r l ap aq ar al nd) refl)

  -- FROM THREE LINKS TO FOUR BRANCH VERTICES
  module _ (th : ThreeLinks g) where
    abbrev pub OtherLinks : ℕ → Type 0
    OtherLinks z = In z (th.q ++ th.r)

    abbrev pub ends_of_both : List ℕ
    ends_of_both = th.a ∷ (th.b ∷ [])

    others_nodup : NoDup ((th.q ++ th.r) ++ ends_of_both)
    others_nodup = rw append_assoc (nodup_right th.p (th.q ++ (th.r ++ ends_of_both)) th.nodup)

    off_first : (z : ℕ) → In z th.p → ¬ In z ((th.q ++ th.r) ++ ends_of_both)
    off_first z h k = nodup_apart th.p (th.q ++ (th.r ++ ends_of_both)) th.nodup z h (rw append_assoc at k)

    pub four-step : Searched g (λ z. In z th.p) OtherLinks (λ z. In z ends_of_both) → Begin g
    four-step (inl f) = ⊎_elim (λ h. make th.q th.r th.along-q th.along-r whole h) (λ h. make th.r th.q th.along-r th.along-q swapped h) (in_append f.path.t th.q th.r f.goal)
      where
        whole : NoDup (f.path.inner ++ (th.p ++ (th.q ++ (th.r ++ ends_of_both))))
        whole = nodup_append f.path.inner (th.p ++ (th.q ++ (th.r ++ ends_of_both))) (nodup_inner f.path f.is_path.nodup) th.nodup
            (λ z h k. ⊎_elim (f.off z h).0 (λ j. ⊎_elim (f.off z h).1 (f.off z h).2 (in_append z (th.q ++ th.r) ends_of_both (rw append_assoc j))) (in_append z th.p (th.q ++ (th.r ++ ends_of_both)) k))

        -- q and r change places
        swapped : NoDup (f.path.inner ++ (th.p ++ (th.r ++ (th.q ++ ends_of_both))))
        swapped = nodup_under f.path.inner (th.p ++ (th.q ++ (th.r ++ ends_of_both))) (th.p ++ (th.r ++ (th.q ++ ends_of_both))) whole
            (nodup_under th.p (th.q ++ (th.r ++ ends_of_both)) (th.r ++ (th.q ++ ends_of_both)) th.nodup (nodup_swap th.q th.r ends_of_both (nodup_right th.p (th.q ++ (th.r ++ ends_of_both)) th.nodup)) back)
            (λ z h. ⊎_elim (in_left z th.p (th.q ++ (th.r ++ ends_of_both))) (λ k. in_right z th.p (th.q ++ (th.r ++ ends_of_both)) (back z k)) (in_append z th.p (th.r ++ (th.q ++ ends_of_both)) h))
          where
            back : (z : ℕ) → In z (th.r ++ (th.q ++ ends_of_both)) → In z (th.q ++ (th.r ++ ends_of_both))
            back z h = in_swap z th.r th.q ends_of_both h

        make : (q r : List ℕ) → Along (Adj g) th.a q th.b → Along (Adj g) th.a r th.b → NoDup (f.path.inner ++ (th.p ++ (q ++ (r ++ ends_of_both)))) → In f.path.t q → Begin g
        make q r aq ar nd h =
            let cp = in_split f.path.s th.p f.seed in
            let cq = in_split f.path.t q h in
            four-links th.a th.b cp.0 f.path.s cp.1 cq.0 f.path.t cq.1 r f.path.inner (rw cp.2 at th.along-p) (rw cq.2 at aq) ar f.is_path.along (rw (cp.2, cq.2) at nd)
    four-step (inr c) = broken (record {
      c = th.a;
      d = th.b;
      c_low = along-low g p th.a th.p th.b th.along-p th.a (inl refl);
      d_low = along-low g p th.a th.p th.b th.along-p th.b (end_t (link th.a th.p th.b));
      differ = λ e. (nodup_right (th.q ++ th.r) ends_of_both others_nodup).0 (inl e);
      separated = closed_separated g (λ z. In z th.p) OtherLinks ends_of_both c th.x
          (along-low g p th.a th.p th.b th.along-p th.x (inner_in th.x (link th.a th.p th.b) th.x_in)) th.x_in th.y
          (low, nodup_apart (th.q ++ th.r) ends_of_both others_nodup th.y th.y_in) th.y_in;
    })
      where
        low : th.y < g.n
        low = ⊎_elim (λ h. along-low g p th.a th.q th.b th.along-q th.y (inner_in th.y (link th.a th.q th.b) h))
            (λ h. along-low g p th.a th.r th.b th.along-r th.y (inner_in th.y (link th.a th.r th.b) h)) (in_append th.y th.q th.r th.y_in)

    four-search : Begin g
    four-search = four-step (search g p (λ z. In z th.p) OtherLinks (λ z. In z ends_of_both) (λ z. in? z th.p) (λ z. in? z (th.q ++ th.r)) (λ z. in? z ends_of_both)
        (λ z h k. off_first z h (in_left z (th.q ++ th.r) ends_of_both k)) (λ z h k. off_first z h (in_right z (th.q ++ th.r) ends_of_both k)))

  -- FEWER THAN THREE NEIGHBOURS separate their vertex
  pub few_neighbours : (a : ℕ) (X : List ℕ) → a < g.n → length X < 3 → ((v : ℕ) → Adj g a v → In v X) → ((v : ℕ) → In v X → Adj g a v) → Separated g X
  few_neighbours a X low few f back =
      let z = beside (below g.n) (a ∷ X) (nodup_below g.n) (omega (arith, length_below g.n, p.big)) in
      record {
        side = λ (z : ℕ). is_yes (ℕ_discrete z a);
        out = λ w h. no_false (ℕ_discrete w a) (edge-differ g p a w (back w h));
        closed = λ u v h k n. absurd (n (f v (rw (true_yes (ℕ_discrete u a) h) at k)));
        w = a;
        w_low = low;
        w_in = yes_true (ℕ_discrete a a) refl;
        v = z.0;
        v_left = (in_below g.n z.0 z.1, λ h. z.2 (inr h));
        v_out = no_false (ℕ_discrete z.0 a) (λ e. z.2 (inl e));
      }

  neighbour? : (a : ℕ) (X : List ℕ) → ((v : ℕ) → Adj g a v → In v X) ⊎ ((v : ℕ) × Adj g a v × (¬ In v X))
  neighbour? a X = ⊎_map (λ f v k. f v (edge-high g p a v k) k) (λ r. (r.0, r.2.0, r.2.1)) (scan (λ v. Adj g a v → In v X) (λ v. Adj g a v × (¬ In v X)) one g.n)
    where
      one : (v : ℕ) → (Adj g a v → In v X) ⊎ (Adj g a v × (¬ In v X))
      one v = ⊎_elim inr (λ n. inl (λ k. ⊎_elim (λ h. h) (λ h. absurd (n (k, h))) (either (in? v X)))) (either (and_not? (true? (g.adj a v)) (in? v X)))

  module _ (a : ℕ) (la : a < g.n) where
    -- a cycle through a, given by the path P without a, and a third edge of a, to z: three links
    module _ (P : Path) (path : IsPath (Adj g) P) (ks : Adj g a P.s) (kt : Adj g a P.t) (na : ¬ In a (vertices P)) (z : ℕ) (kz : Adj g a z) (nz : ¬ In z (vertices P)) where
      three_links : (Q : Path) → IsPath (Adj g) Q → Adj g a Q.s → ¬ In a (Q.s ∷ Q.inner) → ((w : ℕ) → In w (Q.s ∷ Q.inner) → ¬ In w (vertices P)) → (u v : List ℕ) → vertices P ≡ u ++ (Q.t ∷ v) → ThreeLinks g
      three_links Q pathQ k_q aQ off u v e =
          let arcs = two_arcs (Adj g) p.symmetric a P ks path.along kt Q.t u v e in
          let y = witness (ℕ_discrete P.s Q.t) in
          record {
            a = a;
            b = Q.t;
            p = Q.s ∷ Q.inner;
            q = u;
            r = rev v;
            along-p = (k_q, pathQ.along);
            along-q = arcs.0;
            along-r = arcs.1;
            nodup = three_nodup a P Q path.nodup na pathQ.nodup aQ off u v e;
            x = Q.s;
            x_in = inl refl;
            y = y.0;
            y_in = y.1;
          }
        where
          half : (w : ℕ) → In w (vertices P) → w ≢ Q.t → In w (u ++ rev v)
          half w h ne = ⊎_elim (in_left w u (rev v)) (λ k. ⊎_elim (λ i. absurd (ne i)) (λ m. in_right w u (rev v) (in_rev w v m)) k) (in_append w u (Q.t ∷ v) (subst (λ (k : List ℕ). In w k) e h))

          witness : Dec (P.s ≡ Q.t) → (y : ℕ) × In y (u ++ rev v)
          witness (no k) = (P.s, half P.s (end_s P) k)
          witness (yes k) = (P.t, half P.t (end_t P) (λ j. ends_differ P path.nodup (k ∙ sym j)))

      pub third_step : Searched g (λ v. v ≡ z) (λ v. In v (vertices P)) (λ v. In v (a ∷ [])) → Begin g
      third_step (inl f) =
          let c = in_split f.path.t (vertices P) f.goal in
          four-search (three_links f.path f.is_path (rw f.seed kz) far off c.0 c.1 c.2)
        where
          far : ¬ In a (f.path.s ∷ f.path.inner)
          far (inl e) = edge-differ g p a z kz (sym (e ∙ f.seed))
          far (inr h) = (f.off a h).2 (inl refl)

          off : (w : ℕ) → In w (f.path.s ∷ f.path.inner) → ¬ In w (vertices P)
          off w (inl e) k = nz (subst (λ (m : ℕ). In m (vertices P)) (e ∙ f.seed) k)
          off w (inr h) k = (f.off w h).1 k
      third_step (inr c) = broken
          (cut-pair g p (a, la, closed_separated g (λ v. v ≡ z) (λ v. In v (vertices P)) (a ∷ []) c z (edge-high g p a z kz) refl P.s (edge-high g p a P.s ks, λ h. edge-differ g p a P.s ks (in_single P.s a h)) (end_s P)))

      third_search_lem : Begin g
      third_search_lem = third_step (search g p (λ v. v ≡ z) (λ v. In v (vertices P)) (λ v. In v (a ∷ [])) (λ v. ℕ_discrete v z) (λ v. in? v (vertices P)) (λ v. in? v (a ∷ []))
          (λ v e h. nz (subst (λ (m : ℕ). In m (vertices P)) e h)) (λ v e h. edge-differ g p a z kz (sym e ∙ in_single v a h)))

    -- A CYCLE THROUGH a: from its neighbour x to another, without a; or a vertex separates the graph
    abbrev pub OtherNeighbour : ℕ → ℕ → Type 0
    OtherNeighbour x v = Adj g a v × (¬ (v ≡ x))

    abbrev pub Around : ℕ → Type 0
    Around x = Found g (λ v. v ≡ x) (OtherNeighbour x) (λ v. In v (a ∷ []))

    pub cycle-step : (x : ℕ) → Adj g a x → (y : ℕ) → OtherNeighbour x y → Searched g (λ v. v ≡ x) (OtherNeighbour x) (λ v. In v (a ∷ [])) → Around x ⊎ CutVertex g
    cycle-step x kx y hy = ⊎_map (λ f. f) (λ c. (a, la, closed_separated g (λ v. v ≡ x) (OtherNeighbour x) (a ∷ []) c x (edge-high g p a x kx) refl y (edge-high g p a y hy.0, λ h. edge-differ g p a y hy.0 (in_single y a h)) hy))

    pub cycle-through : ((x : ℕ) × Adj g a x × Around x) ⊎ CutVertex g
    cycle-through = ⊎_elim (λ f. inr (none-cut g p (few_neighbours a [] la (omega arith) f (λ v h. absurd h)))) (λ r. one r.0 r.1) (neighbour? a [])
      where
        next : (x : ℕ) → Adj g a x → (y : ℕ) → OtherNeighbour x y → Around x ⊎ CutVertex g
        next x kx y hy = cycle-step x kx y hy (search g p (λ v. v ≡ x) (OtherNeighbour x) (λ v. In v (a ∷ [])) (λ v. ℕ_discrete v x) (λ v. and_not? (true? (g.adj a v)) (ℕ_discrete v x)) (λ v. in? v (a ∷ []))
            (λ v e o. o.1 e) (λ v e h. edge-differ g p a x kx (sym e ∙ in_single v a h)))

        one : (x : ℕ) → Adj g a x → ((x : ℕ) × Adj g a x × Around x) ⊎ CutVertex g
        one x kx = ⊎_elim (λ f. inr (x, edge-high g p a x kx, few_neighbours a (x ∷ []) la (omega arith) f (λ v h. rw (in_single v x h) kx))) (λ r. ⊎_map (λ f. (x, kx, f)) (λ c. c) (next x kx r.0 (r.1, λ e. r.2 (inl e)))) (neighbour? a (x ∷ []))

    -- from the cycle to the start: there is a third neighbour, or the two on the cycle separate a
    from_cycle : (x : ℕ) → Adj g a x → Around x → Begin g
    from_cycle x kx f = ⊎_elim (λ h. broken (two h)) (λ r. third_search_lem f.path f.is_path ks f.goal.0 na r.0 r.1 (nz r.0 r.1 r.2)) (neighbour? a (f.path.s ∷ (f.path.t ∷ [])))
      where
        ks : Adj g a f.path.s
        ks = rw f.seed kx

        na : ¬ In a (vertices f.path)
        na h = ⊎_elim (λ e. ⊎_elim (λ i. edge-differ g p a f.path.s ks (sym i)) (λ i. edge-differ g p a f.path.t f.goal.0 (sym i)) e) (λ j. (f.off a j).2 (inl refl)) (end_or_inner f.path a h)

        nz : (z : ℕ) → Adj g a z → ¬ In z (f.path.s ∷ (f.path.t ∷ [])) → ¬ In z (vertices f.path)
        nz z kz h k = ⊎_elim (λ e. h (⊎_map (λ i. i) inl e)) (λ j. (f.off z j).1 (kz, (f.off z j).0)) (end_or_inner f.path z k)

        two : ((v : ℕ) → Adj g a v → In v (f.path.s ∷ (f.path.t ∷ []))) → SeparationPair g
        two h = record {
          c = f.path.s;
          d = f.path.t;
          c_low = edge-high g p a f.path.s ks;
          d_low = edge-high g p a f.path.t f.goal.0;
          differ = ends_differ f.path f.is_path.nodup;
          separated = few_neighbours a (f.path.s ∷ (f.path.t ∷ [])) la (omega arith) h (λ v k. ⊎_elim (λ e. rw e ks) (λ j. rw (in_single v f.path.t j) f.goal.0) k);
        }

    -- FROM ONE VERTEX TO THE START
    pub from_vertex : Begin g
    from_vertex = ⊎_elim (λ r. from_cycle r.0 r.1 r.2) (λ c. broken (cut-pair g p c)) cycle-through
