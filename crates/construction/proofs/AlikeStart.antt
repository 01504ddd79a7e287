-- The start of a build is alike under two bounds: where nothing is cut it has four branch vertices, so that every link has its ends.
use Prim.Native.Nat.{ℕ, ◌+◌, ◌<◌, ◌≤◌}
use mathlib.Core.Path.{◌≡◌, refl, sym, ap, subst, ◌∙◌}
use mathlib.Core.Bool.{Bool, true, false}
use mathlib.Core.Logic.{◌⊎◌, inl, inr, ⊎_elim}
use mathlib.Core.List.{List, [], ◌∷◌, ◌++◌, append-nil}
use native.Mathlib.Omega.{arith}
use native.Mathlib.Decide.{ℕ_discrete}
use lib.Dec.{ltb}
use lib.ListN.{length, get_or}
use borrow.Author.Tests.{ltb-true, ltb-false}
use Rattle.connectivity.specs.Lists.{In, NoDup}
use Rattle.connectivity.proofs.Lists.{clash, in_append, in_left, in_right, in_single, fewer, at_most, beside, below?}
use Rattle.construction.specs.Sets.{last_of}
use Rattle.construction.specs.Construction.{Bounds, VertexSet, Reach, Cut, Begun, broken, empty_set, minus, inserted, single, pair, set_of, members, count, next, least, next_after, explore, is_found, route, is_cut, cycle, add_link, sorted, three_paths, four_of, start_on, across, third_path, crossed, around, begin}
use Rattle.construction.proofs.Alike.{Sides, off_one, AlikeNumber, AlikeList, end, more, AlikeSet, AlikeTable, AlikeCut, known_choice, zero_alike, row_alike, empty-alike, minus-alike, inserted-alike, single-alike, pair-alike, set_alike, count-alike, least-alike, after_alike, no_cut_lem, cut-alike, at_alike, last_alike, add_alike, bare_alike, marked-alike}
use Rattle.construction.proofs.AlikeSearch.{AlikeReach, AlikeFound, next-meets, next-is, members-in, members-nodup, and_on, minus_is, explore-alike, rest, rest_in, at_goal, last_same, last_rest, last_seed, route-alike, answered-alike, uncut, found-path}
use Rattle.construction.proofs.AlikeEars.{on_inserted, inserted-keep, single-is, on_single, pair_is, all-is, on_all, cycle_search, cycle-search, cycle-alike, cycle-found}

pub record AlikeBegun (s : Sides) (e f : Begun) : Type 0 where
  pub four : AlikeSet s e.four f.four
  pub flat : AlikeList s e.flat f.flat
  pub cut_by : AlikeCut s e.cut_by f.cut_by

-- ---- four members, and the links between them

module _ {s : Sides} {p q : VertexSet} (h : AlikeSet s p q) where
  abbrev one : ℕ
  one = least s.a p

  abbrev two : ℕ
  two = next_after s.a p one

  abbrev three : ℕ
  three = next_after s.a p two

  abbrev last : ℕ
  last = next_after s.a p three

  here_or_after : (v w : ℕ) → p w ≡ true → v ≤ w → (w ≡ next s.a p v) ⊎ (next s.a p v + 1 ≤ w)
  here_or_after v w e l = elim (ℕ_discrete w (next s.a p v)) [ yes i ↦ inl i | no i ↦ inr (omega (arith, next-meets h v w e l)) ]

  -- members that are no more than three
  three_only : s.a.vertices ≤ last → (w : ℕ) → p w ≡ true → In w (one ∷ (two ∷ (three ∷ [])))
  three_only z w e =
      ⊎_elim inl (λ a. ⊎_elim (λ k. inr (inl k)) (λ b. ⊎_elim (λ k. inr (inr (inl k))) (λ c. absurd (omega (arith, next-meets h (three + 1) w e c, h.low w e))) (here_or_after (two + 1) w e b)) (here_or_after (one + 1) w e a)) (here_or_after 0 w e (omega arith))

  -- with four of them each next one is there
  four-there : (l : List ℕ) → NoDup l → 3 < length l → ((w : ℕ) → In w l → p w ≡ true) → (one < two) × (two < three) × (three < last) × (last < s.a.vertices)
  four-there l nd long on = go (below? last s.a.vertices)
    where
      go : Dec (last < s.a.vertices) → (one < two) × (two < three) × (three < last) × (last < s.a.vertices)
      go (no k) = absurd (omega (arith, fewer l (one ∷ (two ∷ (three ∷ []))) nd (λ w i. three_only (omega arith) w (on w i))))
      go (yes k) =
          let c = (next-is h (three + 1) k).1 in
          let b = (next-is h (two + 1) (omega arith)).1 in
          let a = (next-is h (one + 1) (omega arith)).1 in
          (omega arith, omega arith, omega arith, k)

module _ {s : Sides} {t r : ℕ → ℕ → Bool} (d : AlikeTable s t r) {p q : VertexSet} (h : AlikeSet s p q) (big : 2 ≤ s.n) where
  link-alike : {f g : List ℕ} {u v w z : ℕ} → AlikeList s f g → AlikeNumber s u v → AlikeNumber s w z → w < s.a.vertices → AlikeList s (add_link s.a t p f u w) (add_link s.b r q g v z)
  link-alike {w = w} f e k l =
      let m = explore-alike d (single-alike k) (single-alike e) (minus-alike h (pair-alike e k)) in
      add_alike f (route-alike m (m.visiting.seeded w (on_single s.a w l)) big)

  sorted-alike : (l : List ℕ) → NoDup l → 3 < length l → ((w : ℕ) → In w l → p w ≡ true) → AlikeList s (sorted s.a t p) (sorted s.b r q)
  unfolding sorted
  sorted-alike l nd long on =
      let f = four-there h l nd long on in
      let a = least-alike h in
      let b = after_alike h a in
      let c = after_alike h b in
      let e = after_alike h c in
      link-alike (link-alike (link-alike (link-alike (link-alike (link-alike end a b (omega arith)) a c (omega arith)) a e f.3) b c (omega arith)) b e f.3) c e f.3

broken-alike : {s : Sides} {c e : Cut} → AlikeCut s c e → AlikeBegun s (broken c) (broken e)
broken-alike h = record { four = empty-alike; flat = end; cut_by = h }

-- ---- the three paths of the start

-- the cycle misses a neighbour of 0
record Around (s : Sides) (adj : ℕ → ℕ → Bool) (C : List ℕ) : Type 0 where
  pub zero_in : set_of s.a C 0 ≡ true
  pub missed : ℕ
  pub is_missed : minus (adj 0) (set_of s.a C) missed ≡ true

-- the third path begins at another vertex of the cycle than 0, and its inner vertices, of which there is one, are not on the cycle
record Third (s : Sides) (C T : List ℕ) : Type 0 where
  pub begins : set_of s.a C (get_or T 0 0) ≡ true
  pub not_zero : get_or T 0 0 ≡ 0 → ⊥
  pub inner : ℕ
  pub inner_in : minus (set_of s.a T) (pair s.a 0 (get_or T 0 0)) inner ≡ true
  pub inner_off : (w : ℕ) → minus (set_of s.a T) (pair s.a 0 (get_or T 0 0)) w ≡ true → set_of s.a C w ≡ false

pub in_set : (b : Bounds) (l : List ℕ) (x : ℕ) → set_of b l x ≡ true → In x l
in_set b l x e = ⊎_elim (λ k. absurd (clash k refl)) (λ k. k) (all-is b empty_set l x e)

-- what stands in a path that was found
module _ {s : Sides} {t : ℕ → ℕ → Bool} {S G : VertexSet} {r q : Reach} (m : AlikeReach s t S G r q) (met : is_found s.a r ≡ true) (apart : (x : ℕ) → S x ≡ true → G x ≡ false) where
  rest-off : (w : ℕ) → In w (rest m) → G w ≡ false
  rest-off w k = m.visiting.no_goal apart w (rest_in m met w k)

module _ {s : Sides} {adj : ℕ → ℕ → Bool} (d : AlikeTable s adj adj) where
  first_apart : (x : ℕ) → single s.a (least s.a (adj 0)) x ≡ true → minus (adj 0) (single s.a (least s.a (adj 0))) x ≡ false
  first_apart x e = off_one (λ k. clash e (minus_is (adj 0) (single s.a (least s.a (adj 0))) x k).1)

  cycle-around : 3 ≤ count s.a (adj 0) → is_cut s.a (cycle s.a adj).cut_by ≡ false → Around s adj (cycle s.a adj).path
  cycle-around three u = record { zero_in = on_all s.a empty_set (cycle s.a adj).path 0 (omega arith) (subst (λ (l : List ℕ). In 0 l) (sym same) (in_right 0 (route s.a (cycle_search d)) (0 ∷ []) (inl refl))); missed = another.0; is_missed = and_on on_adj (off_one (λ k. on_cycle (subst (λ (l : List ℕ). In another.0 l) same (in_set s.a (cycle s.a adj).path another.0 k)))) }
    where
      met : is_found s.a (cycle_search d) ≡ true
      met = (cycle-found d u).0

      same : (cycle s.a adj).path ≡ route s.a (cycle_search d) ++ (0 ∷ [])
      same = (cycle-found d u).1

      another : (y : ℕ) × In y (members s.a (adj 0)) × (¬ In y ((cycle_search d).goal ∷ (least s.a (adj 0) ∷ [])))
      another = beside (members s.a (adj 0)) ((cycle_search d).goal ∷ (least s.a (adj 0) ∷ [])) (members-nodup (row_alike d 0)) (omega arith)

      on_adj : adj 0 another.0 ≡ true
      on_adj = members-in (row_alike d 0) another.0 another.1

      is_goal : minus (adj 0) (single s.a (least s.a (adj 0))) another.0 ≡ true
      is_goal = and_on on_adj (off_one (λ k. another.2 (inr (inl (single-is s.a (least s.a (adj 0)) another.0 k)))))

      -- 0 is its own least neighbour, where it is one
      not_zero : another.0 ≡ 0 → ⊥
      not_zero e = another.2 (inr (inl (omega (arith, next-meets (row_alike d 0) 0 0 (ap (adj 0) (sym e) ∙ on_adj) (omega arith)))))

      on_cycle : In another.0 (route s.a (cycle_search d) ++ (0 ∷ [])) → ⊥
      on_cycle (inl e) = another.2 (inl e)
      on_cycle (inr k) = ⊎_elim (λ j. clash is_goal (rest-off (cycle-search d) met first_apart another.0 j)) (λ j. not_zero (in_single another.0 0 j)) (in_append another.0 (rest (cycle-search d)) (0 ∷ []) k)

  -- the third path
  module _ {C D : List ℕ} (hc : AlikeList s C D) where
    abbrev z : ℕ
    z = least s.a (minus (adj 0) (set_of s.a C))

    abbrev third_search : Reach
    third_search = explore s.a adj (single s.a z) (minus (set_of s.a C) (single s.a 0)) (single s.a 0)

    third_search_lem : AlikeReach s adj (single s.a z) (minus (set_of s.a C) (single s.a 0)) third_search
        (explore s.b adj (single s.b (least s.b (minus (adj 0) (set_of s.b D)))) (minus (set_of s.b D) (single s.b 0)) (single s.b 0))
    third_search_lem = explore-alike d (single-alike (least-alike (minus-alike (row_alike d 0) (set_alike hc)))) (minus-alike (set_alike hc) (single-alike zero_alike)) (single-alike zero_alike)

    pub third_alike : AlikeFound s (third_path s.a adj C) (third_path s.b adj D)
    third_alike = answered-alike third_search_lem (single-alike zero_alike) (more zero_alike end)

    -- where the cycle misses a neighbour of 0 it goes there
    module _ (a : Around s adj C) where
      z_missed : (z < s.a.vertices) × (set_of s.a C z ≡ false)
      z_missed =
          let x = minus-alike (row_alike d 0) (set_alike hc) in
          let r = next-meets x 0 a.missed a.is_missed (omega arith) in
          (omega (arith, x.low a.missed a.is_missed), (minus_is (adj 0) (set_of s.a C) z r.2).1)

      z_not_zero : single s.a 0 z ≡ false
      z_not_zero = off_one (λ k. clash (ap (set_of s.a C) (single-is s.a 0 z k) ∙ a.zero_in) z_missed.1)

      third_apart : (x : ℕ) → single s.a z x ≡ true → minus (set_of s.a C) (single s.a 0) x ≡ false
      third_apart x e = off_one (λ k. clash (minus_is (set_of s.a C) (single s.a 0) x k).0 (ap (set_of s.a C) (single-is s.a z x e) ∙ z_missed.1))

      third_is : is_cut s.a (third_path s.a adj C).cut_by ≡ false → Third s C (third_path s.a adj C).path
      third_is u = subst (Third s C) (sym (found-path third_search_lem (single-alike zero_alike) (0 ∷ []) met)) (record {
        begins = goal.0;
        not_zero = λ e. clash (ap (single s.a 0) e ∙ on_single s.a 0 (omega arith)) goal.1;
        inner = z;
        inner_in = and_on (on_all s.a empty_set T z z_missed.0 (inr (in_left z (rest third_search_lem) (0 ∷ []) z_in))) (off_one (λ k. ⊎_elim (λ e. clash (ap (set_of s.a C) e ∙ a.zero_in) z_missed.1) (λ e. clash (ap (set_of s.a C) e ∙ goal.0) z_missed.1) (pair_is s.a 0 b z k)));
        inner_off = λ w e. let r = minus_is (set_of s.a T) (pair s.a 0 b) w e in off w (in_set s.a T w r.0) r.1;
      })
        where
          met : is_found s.a third_search ≡ true
          met = uncut third_search_lem (single-alike zero_alike) (0 ∷ []) z (on_single s.a z z_missed.0) z_not_zero u

          b : ℕ
          b = third_search.goal

          T : List ℕ
          T = route s.a third_search ++ (0 ∷ [])

          goal : (set_of s.a C third_search.goal ≡ true) × (single s.a 0 third_search.goal ≡ false)
          goal = minus_is (set_of s.a C) (single s.a 0) third_search.goal (at_goal third_search_lem met).1

          z_in : In z (rest third_search_lem)
          z_in = subst (λ (v : ℕ). In v (rest third_search_lem)) (single-is s.a z (last_of (rest third_search_lem)) (last_seed third_search_lem met)) (last_rest third_search_lem met)

          b_low : third_search.goal < s.a.vertices
          b_low = ltb-true third_search.goal s.a.vertices met

          off : (w : ℕ) → In w (route s.a third_search ++ (0 ∷ [])) → pair s.a 0 third_search.goal w ≡ false → set_of s.a C w ≡ false
          off w (inl e) f = absurd (clash (ap (pair s.a 0 third_search.goal) e ∙ on_inserted s.a (single s.a 0) third_search.goal b_low) f)
          off w (inr k) f = off_one (λ on. ⊎_elim (λ j. clash (and_on on (off_one (λ i. clash (inserted-keep s.a (single s.a 0) third_search.goal w i) f))) (rest-off third_search_lem met third_apart w j))
              (λ j. clash (ap (pair s.a 0 third_search.goal) (in_single w 0 j) ∙ inserted-keep s.a (single s.a 0) third_search.goal 0 (on_single s.a 0 (omega arith))) f) (in_append w (rest third_search_lem) (0 ∷ []) k))

  -- the path across
  module _ {C D T U : List ℕ} (hc : AlikeList s C D) (ht : AlikeList s T U) where
    abbrev ends : VertexSet
    ends = pair s.a 0 (get_or T 0 0)

    abbrev across_search : Reach
    across_search = explore s.a adj (minus (set_of s.a T) ends) (minus (set_of s.a C) ends) ends

    ends_alike : AlikeSet s ends (pair s.b 0 (get_or U 0 0))
    ends_alike = pair-alike zero_alike (at_alike ht 0)

    across-search : AlikeReach s adj (minus (set_of s.a T) ends) (minus (set_of s.a C) ends) across_search
        (explore s.b adj (minus (set_of s.b U) (pair s.b 0 (get_or U 0 0))) (minus (set_of s.b D) (pair s.b 0 (get_or U 0 0))) (pair s.b 0 (get_or U 0 0)))
    across-search = explore-alike d (minus-alike (set_alike ht) ends_alike) (minus-alike (set_alike hc) ends_alike) ends_alike

    pub across-alike : AlikeFound s (across s.a adj C T) (across s.b adj D U)
    across-alike = answered-alike across-search ends_alike end

    pub four-alike : {X Y : List ℕ} → AlikeList s X Y → AlikeSet s (four_of s.a T X) (four_of s.b U Y)
    four-alike hx = inserted-alike (inserted-alike ends_alike (at_alike hx 0)) (last_alike hx)

    pub paths_alike : {X Y : List ℕ} → AlikeList s X Y → AlikeList s (three_paths s.a C T X) (three_paths s.b D U Y)
    paths_alike hx = add_alike (add_alike (add_alike end (more zero_alike hc)) ht) hx

    module _ (a : Third s C T) where
      -- the four branch vertices are different ones
      module _ (met : is_found s.a across_search ≡ true) where
        abbrev X : List ℕ
        X = route s.a across_search

        goal_is : (set_of s.a C across_search.goal ≡ true) × (ends across_search.goal ≡ false)
        goal_is = minus_is (set_of s.a C) ends across_search.goal (at_goal across-search met).1

        abbrev seed : ℕ
        seed = last_of X

        seed_is : minus (set_of s.a T) ends seed ≡ true
        seed_is = ap (minus (set_of s.a T) ends) (last_same across-search met) ∙ last_seed across-search met

        on_ends : (ends 0 ≡ true) × (ends (get_or T 0 0) ≡ true)
        on_ends = (inserted-keep s.a (single s.a 0) (get_or T 0 0) 0 (on_single s.a 0 (omega arith)), on_inserted s.a (single s.a 0) (get_or T 0 0) (omega (arith, (set_alike hc).low (get_or T 0 0) a.begins)))

        abbrev branch : List ℕ
        branch = 0 ∷ (get_or T 0 0 ∷ (across_search.goal ∷ (seed ∷ [])))

        branch_nodup : NoDup branch
        branch_nodup = (zero_not, (begin-not, ((λ k. goal_not_seed (in_single _ _ k)), ((λ k. k), tt))))
          where
            goal_not_seed : across_search.goal ≡ seed → ⊥
            goal_not_seed e = clash (ap (set_of s.a C) (sym e) ∙ goal_is.0) (a.inner_off seed seed_is)

            not_end : (v : ℕ) → ends v ≡ true → In v (across_search.goal ∷ (seed ∷ [])) → ⊥
            not_end v on (inl e) = clash (ap ends (sym e) ∙ on) goal_is.1
            not_end v on (inr k) = clash (ap ends (sym (in_single v seed k)) ∙ on) (minus_is (set_of s.a T) ends seed seed_is).1

            zero_not : In 0 (get_or T 0 0 ∷ (across_search.goal ∷ (seed ∷ []))) → ⊥
            zero_not (inl e) = a.not_zero (sym e)
            zero_not (inr k) = not_end 0 on_ends.0 k

            begin-not : In (get_or T 0 0) (across_search.goal ∷ (seed ∷ [])) → ⊥
            begin-not = not_end (get_or T 0 0) on_ends.1

        kept : (w : ℕ) → ends w ≡ true → four_of s.a T X w ≡ true
        kept w e = inserted-keep s.a (inserted s.a ends across_search.goal) seed w (inserted-keep s.a ends across_search.goal w e)

        branch_on : (w : ℕ) → In w branch → four_of s.a T X w ≡ true
        branch_on w (inl e) = kept w (ap ends e ∙ on_ends.0)
        branch_on w (inr (inl e)) = kept w (ap ends e ∙ on_ends.1)
        branch_on w (inr (inr (inl e))) = inserted-keep s.a (inserted s.a ends across_search.goal) seed w (ap (inserted s.a ends across_search.goal) e ∙ on_inserted s.a ends across_search.goal (ltb-true across_search.goal s.a.vertices met))
        branch_on w (inr (inr (inr (inl e)))) = ap (four_of s.a T X) e ∙ on_inserted s.a (inserted s.a ends across_search.goal) seed (omega (arith, (minus-alike (set_alike ht) ends_alike).low seed seed_is))
        branch_on w (inr (inr (inr (inr k)))) = absurd k

      crossed-alike : 3 ≤ s.n → AlikeBegun s (crossed s.a C T (across s.a adj C T)) (crossed s.b D U (across s.b adj D U))
      crossed-alike big = known_choice (AlikeBegun s) (cut-alike across-alike.cut_by) (λ e. broken-alike across-alike.cut_by) (λ e. started e)
        where
          started : is_cut s.a (across s.a adj C T).cut_by ≡ false → AlikeBegun s (start_on s.a C T (across s.a adj C T).path) (start_on s.b D U (across s.b adj D U).path)
          started u =
              let met = uncut across-search ends_alike [] a.inner a.inner_in (minus_is (set_of s.a T) ends a.inner a.inner_in).1 u in
              let same = found-path across-search ends_alike [] met ∙ append-nil (X met) in
              let hx = across-alike.path in
              record {
                four = four-alike hx;
                flat = sorted-alike (marked-alike bare_alike (paths_alike hx)) (four-alike hx) (omega arith) (branch met) (branch_nodup met) (omega arith)
                    (λ w k. ap (λ (l : List ℕ). four_of s.a T l w) same ∙ branch_on met w k);
                cut_by = no_cut_lem;
              }

  begun-alike : 3 ≤ count s.a (adj 0) → AlikeBegun s (around s.a adj (cycle s.a adj)) (around s.b adj (cycle s.b adj))
  begun-alike three =
      let round = cycle-alike d in
      let big = at_most s.n (members s.a (adj 0)) (members-nodup (row_alike d 0)) (λ w k. (row_alike d 0).low w (members-in (row_alike d 0) w k)) in
      known_choice (AlikeBegun s) (cut-alike round.cut_by) (λ u. broken-alike round.cut_by)
      (λ u. let a = cycle-around three u in let t = third_alike round.path in
      known_choice (AlikeBegun s) (cut-alike t.cut_by) (λ v. broken-alike t.cut_by) (λ v. crossed-alike round.path t.path (third_is round.path a v) (omega arith)))

  -- THE START
  pub begin-alike : AlikeBegun s (begin s.a adj) (begin s.b adj)
  unfolding begin
  begin-alike = known_choice (AlikeBegun s) (λ i. ltb (count-alike (row_alike d 0) i) 3) (λ e. broken-alike (record { removed = row_alike d 0; side = single-alike zero_alike })) (λ e. begun-alike (ltb-false (count s.a (adj 0)) 3 e))
