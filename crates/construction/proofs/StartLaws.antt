-- THE START IS RIGHT: four branch vertices and six links in the order of the record, or at most two vertices cut the graph.
use Prim.Native.Nat.{ℕ, ◌≤◌, ◌<◌}
use mathlib.Core.Path.{◌≡◌, refl, sym, ap, subst, ◌∙◌}
use mathlib.Core.Bool.{Bool, true, false, cond}
use mathlib.Core.Logic.{◌⊎◌, inl, inr, ⊎_elim, ⊎_map, ◌≢◌}
use mathlib.Core.List.{List, [], ◌∷◌, ◌++◌, append-nil}
use native.Mathlib.Omega.{arith}
use native.Mathlib.Decide.{ℕ_discrete}
use lib.Dec.{ltb}
use lib.ListN.{length}
use borrow.Author.Tests.{ltb-false}
use Rattle.vertexset.specs.Set.{count, inserted, capacity}
use Rattle.vertexset.specs.declared.VertexSet.{VertexSet}
use Rattle.graph.specs.Rows.{row_of, bare_rows, rows_graph}
use Rattle.connectivity.specs.Lists.{In}
use Rattle.connectivity.specs.Graph.{Graph, Adj}
use Rattle.connectivity.specs.Path.{Path, link, vertices, IsPath}
use Rattle.connectivity.specs.Build.{four}
use Rattle.connectivity.proofs.Lists.{rev, rev_in, in_rev, in_append, in_left, in_single, fewer, beside}
use Rattle.connectivity.proofs.Paths.{end_or_inner, end_s, end_t, ends_differ}
use Rattle.connectivity.proofs.Edges.{path-low, edge-high, edge-differ}
use Rattle.connectivity.proofs.Start.{Subdivision, the_four}
use Rattle.connectivity.proofs.FirstLinks.{reversed}
use Rattle.construction.specs.Sets.{minus, single, pair, set_of, members, least, last_of}
use Rattle.construction.specs.Search.{explore, route, reached}
use Rattle.construction.specs.Ears.{cut, is_cut, Found, found, failed, answered, cycle}
use Rattle.construction.specs.Start.{Begun, broken, marked, sorted, four_of, start_on, across, third_path, crossed, thirded, around, begin}
use Rattle.construction.proofs.Basics.{Drawn, Sized, On, IsCut, flatten, Asked, Met, Shut, Explored}
use Rattle.construction.proofs.SetLaws.{sized_single, sized_pair, sized_minus, sized_all, sized_empty, sized_inserted, sized_row, single-on, on_single, pair-on, on_pair, minus-on, on_minus, set_on, on_set, inserted-on, on_inserted, inserted-keep, row_on, members-in, members-nodup, members-count, least_on, least_first, last_snoc}
use Rattle.construction.proofs.Places.{rev_end}
use Rattle.construction.proofs.Flat.{rev_vertices}
use Rattle.construction.proofs.Searching.{explored}
use Rattle.construction.proofs.Detours.{ThroughZero, no_cut_lem, answer_found, answer_failed, shut_cut, low_capacity, single-members, cycle-law, few_cut}
use Rattle.construction.proofs.ThreePaths.{Crossed, whole_room, crossed-order}

-- A START: its six links in one list, and its four branch vertices
pub record StartedAs (rows : List ℕ) (n : ℕ) (b : Begun) : Type 0 where
  pub not_cut : is_cut b.cut_by ≡ false
  pub ms : List Path
  pub x : Subdivision (Adj (rows_graph n rows)) ms
  pub same_flat : b.flat ≡ flatten ms
  pub same_four : members b.four ≡ the_four x
  pub four-sized : Sized b.four

abbrev BegunLaw : List ℕ → ℕ → Begun → Type 0
BegunLaw rows n b = StartedAs rows n b ⊎ IsCut rows n b.cut_by

abbrev pub Started : List ℕ → ℕ → Type 0
Started rows n = StartedAs rows n (begin rows)

abbrev pub BeginLaw : List ℕ → ℕ → Type 0
BeginLaw rows n = Started rows n ⊎ IsCut rows n (begin rows).cut_by

-- ---- a stage of the start: it is cut, or goes on along what was found

abbrev stage : (List ℕ → Begun) → Found → Begun
stage next f = cond (is_cut f.cut_by) (broken f.cut_by) (next f.path)

stage_cut : (rows : List ℕ) (n : ℕ) (next : List ℕ → Begun) (f : Found) → IsCut rows n f.cut_by → BegunLaw rows n (stage next f)
stage_cut rows n next f h = inr (subst (λ (b : Bool). IsCut rows n (cond b (broken f.cut_by) (next f.path)).cut_by) (sym h.is_cut_lem) h)

stage_on : (rows : List ℕ) (n : ℕ) (next : List ℕ → Begun) (f : Found) → is_cut f.cut_by ≡ false → BegunLaw rows n (next f.path) → BegunLaw rows n (stage next f)
stage_on rows n next f e h = subst (λ (b : Bool). BegunLaw rows n (cond b (broken f.cut_by) (next f.path))) (sym e) h

stage_search : (rows : List ℕ) (n : ℕ) (next : List ℕ → Begun) (seeds goals removed : VertexSet) (more : List ℕ) → Explored rows n seeds goals removed
    → (Met rows n seeds goals removed → BegunLaw rows n (next (route (explore rows seeds goals removed) ++ more)))
    → (Shut rows n seeds goals removed → IsCut rows n (cut removed (reached (explore rows seeds goals removed) removed)))
    → BegunLaw rows n (stage next (answered (explore rows seeds goals removed) removed more))
stage_search rows n next seeds goals removed more (inl m) go shut = subst (λ (f : Found). BegunLaw rows n (stage next f)) (sym (answer_found (explore rows seeds goals removed) removed more m.is_found_lem))
    (stage_on rows n next (found (route (explore rows seeds goals removed) ++ more)) no_cut_lem (go m))
stage_search rows n next seeds goals removed more (inr s) go shut = subst (λ (f : Found). BegunLaw rows n (stage next f)) (sym (answer_failed (explore rows seeds goals removed) removed more s.not_found))
    (stage_cut rows n next (failed removed (reached (explore rows seeds goals removed) removed)) (shut s))

pair-members : (u v : ℕ) → length (members (pair u v)) ≤ 2
pair-members u v = fewer (members (pair u v)) (u ∷ (v ∷ [])) (members-nodup (pair u v)) (λ w h. ⊎_map (λ e. e) inl (pair-on u v w (members-in (pair u v) w h)))

sized_set : (l : List ℕ) → Sized (set_of l)
sized_set l = sized_all _ l sized_empty

module _ (rows : List ℕ) (n : ℕ) (d : Drawn rows n) where
  abbrev g : Graph
  g = rows_graph n rows

  low_of : (w : ℕ) → w < n → w < capacity
  low_of w h = low_capacity n w d.low h

  zero_low : 0 < n
  zero_low = omega (arith, d.simple.big)

  -- THE THREE PATHS ARE FOUND
  module _ (P Q R : Path) (c : Crossed g P Q R) where
    abbrev third₀ : List ℕ
    third₀ = vertices (link Q.t (rev (Q.s ∷ Q.inner)) 0)

    abbrev set₀ : VertexSet
    set₀ = four_of third₀ (vertices (reversed R))

    last_R : last_of (vertices (reversed R)) ≡ R.s
    last_R = last_snoc (R.t ∷ rev R.inner) R.s

    sized₁ : Sized (inserted (pair 0 Q.t) R.t)
    sized₁ = sized_inserted (pair 0 Q.t) R.t (sized_pair 0 Q.t)

    set_out : (w : ℕ) → On set₀ w → In w (four 0 R.s R.t Q.t)
    set_out w h = ⊎_elim (λ k. ⊎_elim (λ j. ⊎_elim inl (λ e. inr (inr (inr (inl e)))) (pair-on 0 Q.t w j)) (λ e. inr (inr (inl e))) (inserted-on (pair 0 Q.t) R.t w (sized_pair 0 Q.t) k))
        (λ e. inr (inl (e ∙ last_R))) (inserted-on (inserted (pair 0 Q.t) R.t) (last_of (vertices (reversed R))) w sized₁ h)

    low_Q : Q.t < capacity
    low_Q = low_of Q.t (path-low g d.simple Q c.path-Q Q.t (end_t Q))

    low_R : (w : ℕ) → In w (vertices R) → w < capacity
    low_R w h = low_of w (path-low g d.simple R c.path-R w h)

    set_into : (w : ℕ) → In w (four 0 R.s R.t Q.t) → On set₀ w
    set_into w h = go h
      where
        keep : On (inserted (pair 0 Q.t) R.t) w → On set₀ w
        keep = inserted-keep (inserted (pair 0 Q.t) R.t) (last_of (vertices (reversed R))) w sized₁

        old : On (pair 0 Q.t) w → On set₀ w
        old k = keep (inserted-keep (pair 0 Q.t) R.t w (sized_pair 0 Q.t) k)

        go : In w (four 0 R.s R.t Q.t) → On set₀ w
        go (inl e) = old (rw e (on_pair 0 Q.t (low_of 0 zero_low) low_Q).0)
        go (inr (inl e)) = subst (λ (z : ℕ). On set₀ z) (last_R ∙ sym e) (on_inserted (inserted (pair 0 Q.t) R.t) (last_of (vertices (reversed R))) sized₁ (rw last_R (low_R R.s (end_s R))))
        go (inr (inr (inl e))) = keep (rw e (on_inserted (pair 0 Q.t) R.t (sized_pair 0 Q.t) (low_R R.t (end_t R))))
        go (inr (inr (inr (inl e)))) = old (rw e (on_pair 0 Q.t (low_of 0 zero_low) low_Q).1)
        go (inr (inr (inr (inr k)))) = absurd k

    started : StartedAs rows n (start_on (rev (vertices P) ++ (0 ∷ [])) third₀ (vertices (reversed R)))
    started =
        let sized = sized_inserted (inserted (pair 0 Q.t) R.t) (last_of (vertices (reversed R))) sized₁ in
        let o = crossed-order g d.simple d.low P Q R c set₀ sized set_into set_out in
        record {
          not_cut = no_cut_lem;
          ms = o.ms;
          x = o.x;
          same_flat = ap (λ (l : List ℕ). sorted (marked bare_rows l) set₀) (whole_room g d.simple d.low P Q R c).same ∙ o.same_flat;
          same_four = o.same_four;
          four-sized = sized;
        }

  -- ---- a cycle through 0, given by the path P without 0

  module _ (P : Path) (path-P : IsPath (Adj g) P) (ks : Adj g 0 P.s) (kt : Adj g 0 P.t) (off_P : ¬ In 0 (vertices P)) where
    abbrev around₀ : List ℕ
    around₀ = rev (vertices P) ++ (0 ∷ [])

    low_P : (w : ℕ) → In w (vertices P) → w < n
    low_P = path-low g d.simple P path-P

    around-on : (w : ℕ) → On (set_of around₀) w → w ≢ 0 → In w (vertices P)
    around-on w h ne = ⊎_elim (rev_in w (vertices P)) (λ k. absurd (ne (in_single w 0 k))) (in_append w (rev (vertices P)) (0 ∷ []) (set_on around₀ w h))

    on_around : (w : ℕ) → In w (vertices P) → On (set_of around₀) w
    on_around w h = on_set around₀ w (low_of w (low_P w h)) (in_left w (rev (vertices P)) (0 ∷ []) (in_rev w (vertices P) h))

    not_zero : (w : ℕ) → In w (vertices P) → w ≢ 0
    not_zero w h e = off_P (subst (λ (k : ℕ). In k (vertices P)) e h)

    -- A THIRD PATH IS FOUND: from inside it across to the cycle
    module _ (Q : Path) (path-Q : IsPath (Adj g) Q) (k_q : Adj g 0 Q.s) (off_Q : ¬ In 0 (Q.s ∷ Q.inner)) (apart : (w : ℕ) → In w (Q.s ∷ Q.inner) → ¬ In w (vertices P)) (meets : In Q.t (vertices P)) where
      abbrev third₁ : List ℕ
      third₁ = vertices (link Q.t (rev (Q.s ∷ Q.inner)) 0)

      abbrev ends : VertexSet
      ends = pair 0 Q.t

      abbrev inside : VertexSet
      inside = minus (set_of third₁) ends

      abbrev others : VertexSet
      others = minus (set_of around₀) ends

      both : On ends 0 × On ends Q.t
      both = on_pair 0 Q.t (low_of 0 zero_low) (low_of Q.t (low_P Q.t meets))

      low_in : (w : ℕ) → In w (Q.s ∷ Q.inner) → w < n
      low_in w h = path-low g d.simple Q path-Q w (in_left w (Q.s ∷ Q.inner) (Q.t ∷ []) h)

      no_end : (w : ℕ) → w ≢ 0 → w ≢ Q.t → ¬ On ends w
      no_end w a b h = ⊎_elim a b (pair-on 0 Q.t w h)

      inside_on : (w : ℕ) → On inside w → In w (Q.s ∷ Q.inner)
      inside_on w h = go (set_on third₁ w r.0)
        where
          r : On (set_of third₁) w × (¬ On ends w)
          r = minus-on (set_of third₁) ends (sized_set third₁) (sized_pair 0 Q.t) w h

          go : In w third₁ → In w (Q.s ∷ Q.inner)
          go (inl e) = absurd (r.1 (rw e both.1))
          go (inr k) = ⊎_elim (rev_in w (Q.s ∷ Q.inner)) (λ j. absurd (r.1 (rw (in_single w 0 j) both.0))) (in_append w (rev (Q.s ∷ Q.inner)) (0 ∷ []) k)

      on_inside : (w : ℕ) → In w (Q.s ∷ Q.inner) → On inside w
      on_inside w h = on_minus (set_of third₁) ends (sized_set third₁) (sized_pair 0 Q.t) w
          (on_set third₁ w (low_of w (low_in w h)) (inr (in_left w (rev (Q.s ∷ Q.inner)) (0 ∷ []) (in_rev w (Q.s ∷ Q.inner) h)))) (no_end w (λ e. off_Q (subst (λ (k : ℕ). In k (Q.s ∷ Q.inner)) e h)) (λ e. apart w h (subst (λ (k : ℕ). In k (vertices P)) (sym e) meets)))

      others_on : (w : ℕ) → On others w → In w (vertices P) × (w ≢ Q.t)
      others_on w h =
          let r = minus-on (set_of around₀) ends (sized_set around₀) (sized_pair 0 Q.t) w h in
          (around-on w r.0 (λ e. r.1 (rw e both.0)), λ e. r.1 (rw e both.1))

      on_others : (w : ℕ) → In w (vertices P) → w ≢ Q.t → On others w
      on_others w h ne = on_minus (set_of around₀) ends (sized_set around₀) (sized_pair 0 Q.t) w (on_around w h) (no_end w (not_zero w h) ne)

      asked_across : Asked n inside others ends
      asked_across = record {
        seeds_sized = sized_minus (set_of third₁) ends (sized_set third₁) (sized_pair 0 Q.t);
        goals_sized = sized_minus (set_of around₀) ends (sized_set around₀) (sized_pair 0 Q.t);
        removed-sized = sized_pair 0 Q.t;
        low = λ w h. low_in w (inside_on w h);
        no_goal = λ w h k. apart w (inside_on w h) (others_on w k).0;
        no_removed = λ w h. (minus-on (set_of third₁) ends (sized_set third₁) (sized_pair 0 Q.t) w h).1;
        goal_stays = λ w h. (minus-on (set_of around₀) ends (sized_set around₀) (sized_pair 0 Q.t) w h).1;
      }

      met-across : Met rows n inside others ends → BegunLaw rows n (start_on around₀ third₁ (route (explore rows inside others ends) ++ []))
      met-across m = inl (subst (λ (l : List ℕ). StartedAs rows n (start_on around₀ third₁ l)) (sym (append-nil _ ∙ m.same ∙ rev_vertices R)) (started P Q R c))
        where
          R : Path
          R = m.found.path

          c : Crossed g P Q R
          c = record {
            path-P = path-P;
            ks = ks;
            kt = kt;
            off_P = off_P;
            path-Q = path-Q;
            k_q = k_q;
            off_Q = off_Q;
            apart = apart;
            meets = meets;
            path-R = m.found.is_path;
            seed = inside_on R.s m.found.seed;
            goal = (others_on R.t m.found.goal).0;
            differ = (others_on R.t m.found.goal).1;
            off_R = λ w h. let f = m.found.off w h in ((λ k. f.0 (on_inside w k)), (λ k. f.1 (on_others w k (λ e. f.2 (rw e both.1)))), λ e. f.2 (rw e both.0));
          }

      shut_across : Shut rows n inside others ends → IsCut rows n (cut ends (reached (explore rows inside others ends) ends))
      shut_across s = go (ℕ_discrete P.s Q.t)
        where
          low : (w : ℕ) → On ends w → w < n
          low w h = ⊎_elim (λ e. rw e zero_low) (λ e. rw e (low_P Q.t meets)) (pair-on 0 Q.t w h)

          at : (v : ℕ) → In v (vertices P) → v ≢ Q.t → IsCut rows n (cut ends (reached (explore rows inside others ends) ends))
          at v h ne = shut_cut rows n inside others ends asked_across s low (pair-members 0 Q.t) Q.s (on_inside Q.s (inl refl)) v (on_others v h ne) (low_P v h)

          go : Dec (P.s ≡ Q.t) → IsCut rows n (cut ends (reached (explore rows inside others ends) ends))
          go (no k) = at P.s (end_s P) k
          go (yes k) = at P.t (end_t P) (λ e. ends_differ P path-P.nodup (k ∙ sym e))

      across-law : BegunLaw rows n (crossed around₀ third₁ (across rows around₀ third₁))
      across-law = stage_search rows n (start_on around₀ third₁) inside others ends [] (explored rows n d inside others ends asked_across) met-across shut_across

    -- A CYCLE IS FOUND: a third path, from a neighbour of 0 that is not on the cycle
    module _ (three : ltb (count (row_of rows 0).words) 3 ≡ false) (inner_off : (w : ℕ) → In w P.inner → ¬ Adj g 0 w) where
      abbrev free : VertexSet
      free = minus (row_of rows 0) (set_of around₀)

      abbrev z : ℕ
      z = least free

      row_sized : Sized (row_of rows 0)
      row_sized = sized_row rows 0 d.words

      some_free : (y : ℕ) × On free y
      some_free = (y.0, on_minus (row_of rows 0) (set_of around₀) row_sized (sized_set around₀) y.0 (members-in (row_of rows 0) y.0 y.1) off)
        where
          enough : (k c : ℕ) → k ≡ c → ltb c 3 ≡ false → 2 < k
          enough k c e h = omega (arith, ltb-false c 3 h)

          y : (y : ℕ) × In y (members (row_of rows 0)) × (¬ In y (P.s ∷ (P.t ∷ [])))
          y = beside (members (row_of rows 0)) (P.s ∷ (P.t ∷ [])) (members-nodup (row_of rows 0)) (enough (length (members (row_of rows 0))) (count (row_of rows 0).words) (members-count (row_of rows 0) row_sized) three)

          k : Adj g 0 y.0
          k = row_on rows 0 y.0 (members-in (row_of rows 0) y.0 y.1)

          off : ¬ On (set_of around₀) y.0
          off h = ⊎_elim (λ e. y.2 (⊎_map (λ i. i) inl e)) (λ j. inner_off y.0 j k) (end_or_inner P y.0 (around-on y.0 h (edge-differ g d.simple 0 y.0 k)))

      z_on : On (row_of rows 0) z × (¬ On (set_of around₀) z)
      z_on = minus-on (row_of rows 0) (set_of around₀) row_sized (sized_set around₀) z (least_on free sized (least_first free sized some_free.0 some_free.1).1)
        where
          sized : Sized free
          sized = sized_minus (row_of rows 0) (set_of around₀) row_sized (sized_set around₀)

      kz : Adj g 0 z
      kz = row_on rows 0 z z_on.0

      nz : ¬ In z (vertices P)
      nz h = z_on.1 (on_around z h)

      abbrev rest : VertexSet
      rest = minus (set_of around₀) (single 0)

      on_zero : On (single 0) 0
      on_zero = on_single 0 (low_of 0 zero_low)

      rest-on : (w : ℕ) → On rest w → In w (vertices P)
      rest-on w h = let r = minus-on (set_of around₀) (single 0) (sized_set around₀) (sized_single 0) w h in around-on w r.0 (λ e. r.1 (rw e on_zero))

      on_rest : (w : ℕ) → In w (vertices P) → On rest w
      on_rest w h = on_minus (set_of around₀) (single 0) (sized_set around₀) (sized_single 0) w (on_around w h) (λ k. not_zero w h (single-on 0 w k))

      asked_third : Asked n (single z) rest (single 0)
      asked_third = record {
        seeds_sized = sized_single z;
        goals_sized = sized_minus (set_of around₀) (single 0) (sized_set around₀) (sized_single 0);
        removed-sized = sized_single 0;
        low = λ w h. rw (single-on z w h) (edge-high g d.simple 0 z kz);
        no_goal = λ w h k. nz (subst (λ (u : ℕ). In u (vertices P)) (single-on z w h) (rest-on w k));
        no_removed = λ w h k. edge-differ g d.simple 0 z kz (sym (single-on z w h) ∙ single-on 0 w k);
        goal_stays = λ w h. (minus-on (set_of around₀) (single 0) (sized_set around₀) (sized_single 0) w h).1;
      }

      abbrev then_across : List ℕ → Begun
      then_across l = crossed around₀ l (across rows around₀ l)

      met-third : Met rows n (single z) rest (single 0) → BegunLaw rows n (then_across (route (explore rows (single z) rest (single 0)) ++ (0 ∷ [])))
      met-third m = subst (λ (l : List ℕ). BegunLaw rows n (then_across l)) (sym (ap (λ (l : List ℕ). l ++ (0 ∷ [])) (m.same ∙ rev_end (Q.s ∷ Q.inner) Q.t)))
          (across-law Q m.found.is_path (rw from kz) far off (rest-on Q.t m.found.goal))
        where
          Q : Path
          Q = m.found.path

          from : Q.s ≡ z
          from = single-on z Q.s m.found.seed

          far : ¬ In 0 (Q.s ∷ Q.inner)
          far (inl e) = edge-differ g d.simple 0 z kz (sym (e ∙ from))
          far (inr h) = (m.found.off 0 h).2 on_zero

          off : (w : ℕ) → In w (Q.s ∷ Q.inner) → ¬ In w (vertices P)
          off w (inl e) k = nz (subst (λ (u : ℕ). In u (vertices P)) (e ∙ from) k)
          off w (inr h) k = (m.found.off w h).1 (on_rest w k)

      shut_third : Shut rows n (single z) rest (single 0) → IsCut rows n (cut (single 0) (reached (explore rows (single z) rest (single 0)) (single 0)))
      shut_third s = shut_cut rows n (single z) rest (single 0) asked_third s (λ w h. rw (single-on 0 w h) zero_low) (two (length (members (single 0))) (single-members 0)) z (on_single z (low_of z (edge-high g d.simple 0 z kz))) P.s (on_rest P.s (end_s P)) (low_P P.s (end_s P))
        where
          two : (k : ℕ) → k ≤ 1 → k ≤ 2
          two k h = omega arith

      third_law : BegunLaw rows n (thirded rows around₀ (third_path rows around₀))
      third_law = stage_search rows n then_across (single z) rest (single 0) (0 ∷ []) (explored rows n d (single z) rest (single 0) asked_third) met-third shut_third

  cycled_law : ltb (count (row_of rows 0).words) 3 ≡ false → BegunLaw rows n (around rows (cycle rows))
  cycled_law three = ⊎_elim (λ t. stage_on rows n next (cycle rows) t.not_cut (go t)) (λ c. stage_cut rows n next (cycle rows) c.is) (cycle-law rows n d)
    where
      next : List ℕ → Begun
      next l = thirded rows l (third_path rows l)

      go : ThroughZero rows n (cycle rows) → BegunLaw rows n (next (cycle rows).path)
      go t = subst (λ (l : List ℕ). BegunLaw rows n (next l)) (sym t.same) (third_law t.P t.is_path t.ks t.kt t.off three t.inner_off)

-- THE START IS RIGHT.
pub begin-law : (rows : List ℕ) (n : ℕ) → Drawn rows n → BeginLaw rows n
unfolding begin
begin-law rows n d = go (ltb (count (row_of rows 0).words) 3) refl
  where
    go : (b : Bool) → ltb (count (row_of rows 0).words) 3 ≡ b → BegunLaw rows n (cond b (broken (cut (row_of rows 0) (single 0))) (around rows (cycle rows)))
    go true e = inr (few_cut rows n d e)
    go false e = cycled_law rows n d e
