-- A BUILD ENDS BY ITSELF: each step has a new vertex or a new branch vertex, so there are at most 2 n of them.
use Prim.Native.Nat.{ℕ, zero, suc, ◌+◌, ◌-◌, ◌<◌, ◌≤◌}
use mathlib.Core.Path.{◌≡◌, refl, sym, ap, subst, ◌∙◌}
use mathlib.Core.Bool.{Bool, true, false, cond, not}
use mathlib.Core.Logic.{◌⊎◌, inl, inr, ⊎_elim}
use mathlib.Core.List.{List, [], ◌∷◌, ◌++◌}
use native.Mathlib.Omega.{arith}
use lib.Dec.{ltb, leb, eqb}
use lib.ListN.{length, get_or, take, drop, length-drop, take-append-drop, get_or-eq_default}
use lib.Seq.{take-append-le, take-append_seam, get_or-append_seam, get_or-drop, take-add, take_all, take-take, length-take-le}
use borrow.Author.Tests.{ltb-true, ltb-false, not-false, not-true}
use Rattle.connectivity.specs.Lists.{In}
use Rattle.connectivity.proofs.Lists.{bool?, clash, in_append, in_left, in_right, rev_in, below?}
use Rattle.construction.specs.Sets.{last_of, place_of, reversed}
use Rattle.construction.specs.Search.{back}
use Rattle.construction.specs.Steps.{segment, turned}
use Rattle.construction.specs.Construction.{Bounds, VertexSet, Reach, Cut, Found, Begun, State, broken, stopped, cut, no_cut, empty_set, bare, minus, empty, single, count, least, next_after, cycle, marked, link_in, add_link, sorted, three_paths, four_of, start_on, across, third_path, around, begin, first_state, inserted, pair, set_of, add_path, put_in, extended, reroute, off_link, up_to, link_ends, link_step, beside_place, out_taken, near, detour, out_step, inner_place, step, steps, route, is_cut, explore}
use Rattle.construction.proofs.SetLaws.{rev_same, added-room, last_snoc}
use Rattle.construction.proofs.Places.{place_in, take_place, segment-place}
use Rattle.construction.proofs.Finding.{first_at, place_is, place_none, place_within, up_to-first}
use Rattle.construction.proofs.StepLaws.{take_in}
use Rattle.construction.proofs.Alike.{Sides, off_one, near-alike, AlikeNumber, AlikeList, zero_alike, single-alike, least-alike, after_alike, bare_alike, marked-alike, end, AlikeSet, AlikeTable, minus-alike, inserted-alike, pair-alike, all_alike, set_alike, at_alike, last_alike, segment-alike, known_choice}
use Rattle.construction.proofs.AlikeSearch.{both, nothing_left, and_on, minus_is, explore-alike, rest, last_rest, last_seed, answered-alike, uncut, found-path}
use Rattle.construction.proofs.AlikeEars.{on_single, cycle-alike, on_inserted, inserted-keep, pair_is, all_keep, on_all, detour-alike, detour-grows, left, fewer_left, no_more_left}
use Rattle.construction.proofs.AlikeStart.{in_set, third_alike, across-alike, four-alike, paths_alike}
use Rattle.construction.proofs.AlikeBuild.{AlikeState, up_to-alike, step-alike}

-- ---- the first place at which a test holds

place_at : (p : VertexSet) (l : List ℕ) → (p (get_or l (place_of p l) 0) ≡ true) ⊎ (length l ≤ place_of p l)
place_at p l = ⊎_elim
    (λ r. inl (ap p ((λ i. get_or (r.is i) (place_of p (r.is i)) 0) ∙ ap (λ (k : ℕ). get_or (r.front ++ (r.x ∷ r.back)) k 0) (place_is p r.front r.x r.back r.none r.holds) ∙ get_or-append_seam r.front r.x r.back 0) ∙ r.holds))
    (λ f. inr (omega (arith, place_none p l f))) (first_at p l)

before_place : (p : VertexSet) (l : List ℕ) (w : ℕ) → In w (take (place_of p l) l) → p w ≡ false
before_place p l w h = ⊎_elim
    (λ r. r.none w (subst (λ (k : List ℕ). In w k) ((λ i. take (place_of p (r.is i)) (r.is i)) ∙ ap (λ (k : ℕ). take k (r.front ++ (r.x ∷ r.back))) (place_is p r.front r.x r.back r.none r.holds) ∙ take-append_seam r.front (r.x ∷ r.back)) h))
    (λ f. f w (take_in w (place_of p l) l h)) (first_at p l)

-- it is past the first where the test fails there
place_past : (p : VertexSet) (l : List ℕ) → 0 < length l → p (get_or l 0 0) ≡ false → 0 < place_of p l
unfolding place_of
place_past p [] h e = absurd (omega arith)
place_past p (a ∷ l) h e = subst (λ (b : Bool). 0 < cond b 0 (place_of p l + 1)) (sym e) (omega arith)

-- what is taken of a path ends in the set
last_up_to : (p : VertexSet) (l : List ℕ) (w : ℕ) → In w l → p w ≡ true → p (last_of (up_to p l)) ≡ true
last_up_to p l w h k = ⊎_elim
    (λ r. ap (λ (m : List ℕ). p (last_of m)) (ap (up_to p) r.is ∙ up_to-first p r.front r.x r.back r.none r.holds) ∙ ap p (last_snoc r.front r.x) ∙ r.holds)
    (λ f. absurd (clash k (f w h))) (first_at p l)

drop_in : (w i : ℕ) (l : List ℕ) → In w (drop i l) → In w l
drop_in w i l h = subst (λ (k : List ℕ). In w k) (take-append-drop i l) (in_right w (take i l) (drop i l) h)

turned-in : (path : List ℕ) (z w : ℕ) → In w (turned path z) → In w path
turned-in path z w = go (segment path 1 (length path - 1)) (eqb z (get_or path 0 0)) (λ k. drop_in w 1 path (take_in w (length path - 1 - 1) (drop 1 path) k))
  where
    go : (m : List ℕ) (t : Bool) → (In w m → In w path) → In w (cond t m (reversed m)) → In w path
    go m true f k = f k
    go m false f k = f (rev_in w m (subst (λ (j : List ℕ). In w j) (rev_same m) k))

by_test : (P : State → Type 0) (t : Bool) (x y : State) → (t ≡ true → P x) → (t ≡ false → P y) → P (cond t x y)
by_test P true x y f g = f refl
by_test P false x y f g = g refl

-- a list to which a path is added, or put in, where there is room
by_room : (P : List ℕ → Type 0) (t : Bool) (l m : List ℕ) → P l → P m → P (cond t l m)
by_room P true l m h k = h
by_room P false l m h k = k

module _ (s : Sides) where
  added-in : (flat path : List ℕ) (w : ℕ) → In w (add_path s.a flat path) → w < s.n → In w flat ⊎ In w path
  added-in flat path w k low = by_room (λ (l : List ℕ). In w l → In w flat ⊎ In w path) (leb (length flat + length (s.a.vertices ∷ path)) s.a.numbers) (flat ++ (s.a.vertices ∷ path)) flat
      (λ j. ⊎_elim inl (λ z. inr (⊎_elim (λ e. absurd (omega arith)) (λ z. z) z)) (in_append w flat (s.a.vertices ∷ path) j)) inl k

  added-take : (flat path : List ℕ) (k : ℕ) → k ≤ length flat → take k (add_path s.a flat path) ≡ take k flat
  added-take flat path k h = by_room (λ (l : List ℕ). take k l ≡ take k flat) (leb (length flat + length (s.a.vertices ∷ path)) s.a.numbers) (flat ++ (s.a.vertices ∷ path)) flat (take-append-le k flat (s.a.vertices ∷ path) h) refl

  kept_in : (flat path : List ℕ) (w : ℕ) → In w flat → In w (add_path s.a flat path)
  kept_in flat path w k = by_room (λ (l : List ℕ). In w l) (leb (length flat + length (s.a.vertices ∷ path)) s.a.numbers) (flat ++ (s.a.vertices ∷ path)) flat (in_left w flat (s.a.vertices ∷ path) k) k

  put_in_lem : (flat new : List ℕ) (k w : ℕ) → In w (put_in s.a flat k new) → In w flat ⊎ In w new
  put_in_lem flat new k w j = by_room (λ (l : List ℕ). In w l → In w flat ⊎ In w new) (leb (length flat + length new) s.a.numbers) (take k flat ++ (new ++ drop k flat)) flat
      (λ z. ⊎_elim (λ a. inl (take_in w k flat a)) (λ b. ⊎_elim inr (λ c. inl (drop_in w k flat c)) (in_append w new (drop k flat) b)) (in_append w (take k flat) (new ++ drop k flat) z)) inl j

  put_take : (flat new : List ℕ) (k j : ℕ) → j ≤ k → k ≤ length flat → take j (put_in s.a flat k new) ≡ take j flat
  put_take flat new k j h i = by_room (λ (l : List ℕ). take j l ≡ take j flat) (leb (length flat + length new) s.a.numbers) (take k flat ++ (new ++ drop k flat)) flat
      (take-append-le j (take k flat) (new ++ drop k flat) (omega (arith, length-take-le k flat i)) ∙ take-take j k flat h) refl

  -- a list of paths begins with no vertex
  abbrev pub NoVertexFirst : List ℕ → Type 0
  NoVertexFirst l = (v : ℕ) → In v (take 1 l) → s.n ≤ v

  added-first : (flat path : List ℕ) → NoVertexFirst flat → NoVertexFirst (add_path s.a flat path)
  added-first [] path f = by_room NoVertexFirst (leb (0 + length (s.a.vertices ∷ path)) s.a.numbers) (s.a.vertices ∷ path) [] (λ v k. ⊎_elim (λ e. omega arith) (λ z. absurd z) k) f
  added-first (c ∷ flat) path f = λ v k. f v (subst (λ (l : List ℕ). In v l) (added-take (c ∷ flat) path 1 (omega arith)) k)

-- ---- what every step keeps

pub record Ongoing (s : Sides) (x : State) : Type 0 where
  pub zero_branch : x.branch 0 ≡ true
  pub some : ℕ
  pub some_built : x.built some ≡ true
  pub first : NoVertexFirst s x.flat
  pub flat_built : (v : ℕ) → In v x.flat → v < s.n → x.built v ≡ true
  pub passed : (v : ℕ) → In v (take x.at x.flat) → x.built v ≡ true → x.branch v ≡ true

module _ {s : Sides} {adj : ℕ → ℕ → Bool} (d : AlikeTable s adj adj) {full full' : VertexSet} (hf : AlikeSet s full full') (all : (w : ℕ) → w < s.n → full w ≡ true) where
  -- vertices that are not in, and vertices that are not branch vertices
  abbrev pub open_ones : State → ℕ
  open_ones x = left d hf x.built + left d hf x.branch

  -- a step ends the build, or keeps it with fewer open ones
  abbrev Kept : ℕ → State → Type 0
  Kept m z = (z.going ≡ false) ⊎ (Ongoing s z × (open_ones z < m))

  module _ {x y : State} (h : AlikeState s x y) (o : Ongoing s x) where
    abbrev inner : VertexSet
    inner = minus x.built x.branch

    not_inner : (w : ℕ) → inner w ≡ false → x.built w ≡ true → x.branch w ≡ true
    not_inner w e on = ⊎_elim (λ k. k) (λ k. absurd (clash (and_on on k) e)) (bool? (x.branch w))

    -- the state with a path more
    module _ {p q : List ℕ} (hp : AlikeList s p q) (i : ℕ) (fits : i ≤ length x.flat) (seen : (w : ℕ) → In w (take i x.flat) → x.built w ≡ true → x.branch w ≡ true) where
      branch_keep : (w : ℕ) → x.branch w ≡ true → (extended s.a x p i).branch w ≡ true
      branch_keep w e = inserted-keep s.a (inserted s.a x.branch (get_or p 0 0)) (last_of p) w (inserted-keep s.a x.branch (get_or p 0 0) w e)

      branch_alike : AlikeSet s (extended s.a x p i).branch (inserted s.b (inserted s.b y.branch (get_or q 0 0)) (last_of q))
      branch_alike = inserted-alike (inserted-alike h.branch (at_alike hp 0)) (last_alike hp)

      extended-ongoing : Ongoing s (extended s.a x p i)
      extended-ongoing = record {
        zero_branch = branch_keep 0 o.zero_branch;
        some = o.some;
        some_built = all_keep s.a x.built p o.some o.some_built;
        first = added-first s x.flat p o.first;
        flat_built = λ v k low. ⊎_elim (λ j. all_keep s.a x.built p v (o.flat_built v j low)) (on_all s.a x.built p v (omega arith)) (added-in s x.flat p v k low);
        passed = λ v k on. let j = subst (λ (l : List ℕ). In v l) (added-take s x.flat p i fits) k in
            branch_keep v (seen v j (o.flat_built v (take_in v i x.flat j) ((all_alike h.built hp).low v on)));
      }

      -- its last vertex was no branch vertex
      new_branch : (c : ℕ) → last_of p ≡ c → c < s.n → x.branch c ≡ false → Kept (open_ones x) (extended s.a x p i)
      new_branch c e low off =
          let on : (extended s.a x p i).branch c ≡ true = subst (λ (v : ℕ). inserted s.a (inserted s.a x.branch (get_or p 0 0)) v c ≡ true) (sym e) (on_inserted s.a (inserted s.a x.branch (get_or p 0 0)) c (omega arith)) in
          let less = fewer_left d hf h.branch branch_alike branch_keep c (and_on (all c low) off) on in
          let most = no_more_left d hf h.built (all_alike h.built hp) (all_keep s.a x.built p) in
          inr (extended-ongoing, omega arith)

      -- it has a new vertex
      new_vertex : (c : ℕ) → In c p → minus full x.built c ≡ true → Kept (open_ones x) (extended s.a x p i)
      new_vertex c k new =
          let less = fewer_left d hf h.built (all_alike h.built hp) (all_keep s.a x.built p) c new (on_all s.a x.built p c (omega (arith, (minus-alike hf h.built).low c new)) k) in
          let most = no_more_left d hf h.branch branch_alike branch_keep in
          inr (extended-ongoing, omega arith)

    -- ---- a link

    module _ (i : ℕ) (low : i < length x.flat) (is-inner : inner (get_or x.flat i 0) ≡ true) (seen : (w : ℕ) → In w (take i x.flat) → x.built w ≡ true → x.branch w ≡ true) where
      abbrev here_vertex : ℕ
      here_vertex = get_or x.flat i 0

      abbrev outer : VertexSet
      outer = λ w. not (inner w)

      abbrev run_length : ℕ
      run_length = place_of outer (drop i x.flat)

      here : get_or (drop i x.flat) 0 0 ≡ here_vertex
      here = get_or-drop i x.flat 0 0 ∙ ap (λ (j : ℕ). get_or x.flat j 0) (let e : i + 0 ≡ i = omega arith in e)

      some_run : 0 < run_length
      some_run = place_past outer (drop i x.flat) (omega (arith, length-drop i x.flat)) (ap outer here ∙ ap not is-inner)

      segment-inner : (w : ℕ) → In w (segment x.flat i (i + run_length)) → inner w ≡ true
      segment-inner w m = let e : i + run_length - i ≡ run_length = omega arith in not-false _ (before_place outer (drop i x.flat) w (subst (λ (j : ℕ). In w (take j (drop i x.flat))) e m))

      zero_outer : inner 0 ≡ false
      zero_outer = off_one (λ e. clash o.zero_branch (minus_is x.built x.branch 0 e).1)

      end_outer : inner (get_or x.flat (i + run_length) 0) ≡ false
      end_outer = ⊎_elim (λ e. ap inner (sym (get_or-drop i x.flat run_length 0)) ∙ not-true _ e)
          (λ e. ap inner (get_or-eq_default x.flat 0 {n = i + run_length} (omega (arith, length-drop i x.flat))) ∙ zero_outer) (place_at outer (drop i x.flat))

      positive : 0 < i
      positive = elim (below? i 1) [ yes e ↦ absurd (omega (arith, o.first here_vertex (take_place x.flat i 1 e low), (minus-alike h.built h.branch).low here_vertex is-inner)) | no e ↦ omega arith ]

      begun-outer : inner (get_or x.flat (i - 1) 0) ≡ false
      begun-outer = off_one (λ e. let r = minus_is x.built x.branch (get_or x.flat (i - 1) 0) e in let p = positive in clash (seen (get_or x.flat (i - 1) 0) (take_place x.flat (i - 1) i (omega arith) (omega arith)) r.0) r.1)

      not_end : link_ends s.a x.flat i (i + run_length) here_vertex ≡ false
      not_end = off_one (λ e. ⊎_elim (λ z. clash is-inner (ap inner z ∙ begun-outer)) (λ z. clash is-inner (ap inner z ∙ end_outer)) (pair_is s.a (get_or x.flat (i - 1) 0) (get_or x.flat (i + run_length) 0) here_vertex e))

      abbrev run : List ℕ
      run = segment x.flat i (i + run_length)

      -- the place before the run's end
      abbrev last_place : ℕ
      last_place = i + run_length - 1

      here_in : In here_vertex run
      here_in = segment-place x.flat i (i + run_length) i (omega arith) (omega (arith, some_run)) low

      last_in : In (get_or x.flat last_place 0) run
      last_in = segment-place x.flat i (i + run_length) last_place (omega (arith, some_run)) (omega (arith, some_run)) (omega (arith, some_run, place_within outer (drop i x.flat), length-drop i x.flat))

      seed_in : (v : ℕ) → pair s.a here_vertex (get_or x.flat last_place 0) v ≡ true → In v run
      seed_in v e = ⊎_elim (λ z. rw z here_in) (λ z. rw z last_in) (pair_is s.a here_vertex (get_or x.flat last_place 0) v e)

      abbrev off_link_lem : Found
      off_link_lem = off_link s.a adj x i (i + run_length)

      link-kept : Kept (open_ones x) (link_step s.a adj x i)
      unfolding link_step
      link-kept = by_test (Kept (open_ones x)) (is_cut s.a off_link_lem.cut_by) (stopped x off_link_lem.cut_by) (extended s.a x (up_to (set_of s.a run) off_link_lem.path) i) (λ u. inl refl) longer
        where
          longer : is_cut s.a off_link_lem.cut_by ≡ false → Kept (open_ones x) (extended s.a x (up_to (set_of s.a run) off_link_lem.path) i)
          longer u =
              let inside = set_alike (segment-alike i (i + run_length) h.flat) in
              let ends = pair-alike (at_alike h.flat (i - 1)) (at_alike h.flat (i + run_length)) in
              let m = explore-alike d (pair-alike (at_alike h.flat i) (at_alike h.flat last_place)) (minus-alike (minus-alike h.built inside) ends) ends in
              let v_low = (minus-alike h.built h.branch).low here_vertex is-inner in
              let met = uncut m ends [] here_vertex (inserted-keep s.a (single s.a here_vertex) (get_or x.flat last_place 0) here_vertex (on_single s.a here_vertex (omega arith))) not_end u in
              let in_run = seed_in (last_of (rest m)) (last_seed m met) in
              let seed-low = (minus-alike h.built h.branch).low (last_of (rest m)) (segment-inner (last_of (rest m)) in_run) in
              let on_path_lem : In (last_of (rest m)) off_link_lem.path = subst (λ (l : List ℕ). In (last_of (rest m)) l) (sym (found-path m ends [] met)) (inr (in_left (last_of (rest m)) (rest m) [] (last_rest m met))) in
              let c = last_of (up_to (set_of s.a run) off_link_lem.path) in
              let c-inner = segment-inner c (in_set s.a run c (last_up_to (set_of s.a run) off_link_lem.path (last_of (rest m)) on_path_lem (on_all s.a empty_set run (last_of (rest m)) (omega arith) in_run))) in
              new_branch (up_to-alike inside (answered-alike m ends end).path) i (omega arith) seen c refl
              ((minus-alike h.built h.branch).low c c-inner) (minus_is x.built x.branch c c-inner).1

    -- ---- out and back

    module _ (quiet : (w : ℕ) → In w x.flat → x.built w ≡ true → x.branch w ≡ true) where
      reroute-kept : {p q : List ℕ} → AlikeList s p q → (k : ℕ) → k < length x.flat → (c : ℕ) → In c p → minus full x.built c ≡ true → Kept (open_ones x) (reroute s.a x p k)
      reroute-kept {p} hp k low c on new =
          let less = fewer_left d hf h.built (all_alike h.built hp) (all_keep s.a x.built p) c new (on_all s.a x.built p c (omega (arith, (minus-alike hf h.built).low c new)) on) in
          inr (
            record {
              zero_branch = o.zero_branch;
              some = o.some;
              some_built = all_keep s.a x.built p o.some o.some_built;
              first = λ v j. o.first v (subst (λ (l : List ℕ). In v l) (put_take s x.flat (turned p (get_or x.flat k 0)) (k + 1) 1 (omega arith) (omega arith)) j);
              flat_built = λ v j l. ⊎_elim (λ z. all_keep s.a x.built p v (o.flat_built v z l)) (λ z. on_all s.a x.built p v (omega arith) (turned-in p (get_or x.flat k 0) v z)) (put_in_lem s x.flat (turned p (get_or x.flat k 0)) (k + 1) v j);
              passed = λ v j e. let z = take_in v (k + 1) x.flat (subst (λ (l : List ℕ). In v l) (put_take s x.flat (turned p (get_or x.flat k 0)) (k + 1) (k + 1) (omega arith) (omega arith)) j) in
                  quiet v z (o.flat_built v z ((all_alike h.built hp).low v e));
            },
            omega arith,
          )

      out_kept : Kept (open_ones x) (out_step s.a adj full x)
      unfolding out_step
      out_kept = by_test (Kept (open_ones x)) (empty s.a (minus full x.built)) (stopped x no_cut) (out_taken s.a adj x way) (λ e. inl refl) (λ e. by_test (Kept (open_ones x)) (is_cut s.a way.cut_by) (stopped x way.cut_by) _ (λ u. inl refl) longer)
        where
          way : Found
          way = detour s.a adj (near s.a adj x.built) x.built

          place : ℕ
          place = beside_place s.a adj (last_of way.path) (get_or way.path 0 0) x.flat

          longer : is_cut s.a way.cut_by ≡ false → Kept (open_ones x) (cond (ltb place (length x.flat)) (reroute s.a x way.path place) (extended s.a x way.path (length x.flat)))
          longer u =
              let hn = near-alike d h.built in
              let r = detour-grows d hn h.built o.some o.some_built u in
              let new : minus full x.built r.0 ≡ true = and_on (all r.0 r.2) r.3 in
              by_test (Kept (open_ones x)) (ltb place (length x.flat)) (reroute s.a x way.path place) (extended s.a x way.path (length x.flat))
              (λ e. reroute-kept (detour-alike d hn h.built).path place (ltb-true place (length x.flat) e) r.0 r.1 new)
              (λ e. new_vertex (detour-alike d hn h.built).path (length x.flat) (omega arith) (λ w j. quiet w (take_in w (length x.flat) x.flat j)) r.0 r.1 new)

    -- ONE STEP
    abbrev at_inner : ℕ
    at_inner = place_of inner (drop x.at x.flat)

    seen_to : (w : ℕ) → In w (take (x.at + at_inner) x.flat) → x.built w ≡ true → x.branch w ≡ true
    seen_to w j e = ⊎_elim (λ z. o.passed w z e) (λ z. not_inner w (before_place inner (drop x.at x.flat) w z) e) (in_append w (take x.at x.flat) (take at_inner (drop x.at x.flat)) (subst (λ (l : List ℕ). In w l) (take-add x.at at_inner x.flat) j))

    step_kept : Kept (open_ones x) (step s.a adj full x)
    unfolding step
    step_kept = by_test (Kept (open_ones x)) (ltb (inner_place s.a x) (length x.flat)) (link_step s.a adj x (inner_place s.a x)) (out_step s.a adj full x)
        (λ e. let low = ltb-true (inner_place s.a x) (length x.flat) e in link-kept (inner_place s.a x) low
        (⊎_elim (λ z. ap inner (sym (get_or-drop x.at x.flat at_inner 0)) ∙ z) (λ z. absurd (omega (arith, length-drop x.at x.flat))) (place_at inner (drop x.at x.flat))) seen_to)
        (λ e. out_kept (λ w j. seen_to w (subst (λ (l : List ℕ). In w l) (sym (take_all (inner_place s.a x) x.flat (ltb-false (inner_place s.a x) (length x.flat) e))) j)))

  -- ALL STEPS: with more than there are open ones it does not matter how many
  still : (b : Bounds) (g : VertexSet) (f : ℕ) (z : State) → z.going ≡ false → steps b adj g f z ≡ z
  unfolding steps
  still b g zero z e = refl
  still b g (suc f) z e = ap (λ (t : Bool). cond t (steps b adj g f (step b adj g z)) z) e

  pub steps-end : (f g : ℕ) {x y : State} → AlikeState s x y → Ongoing s x → open_ones x < f → open_ones x < g → AlikeState s (steps s.a adj full f x) (steps s.b adj full' g y)
  unfolding steps
  steps-end zero g h o i j = absurd (omega arith)
  steps-end (suc f) zero h o i j = absurd (omega arith)
  steps-end (suc f) (suc g) {x} {y} h o i j =
      let next = step-alike d hf h in
      known_choice (AlikeState s) h.going
      (λ e. ⊎_elim (λ z. both (AlikeState s) (sym (still s.a full f (step s.a adj full x) z)) (sym (still s.b full' g (step s.b adj full' y) (sym next.going ∙ z))) next) (λ z. steps-end f g next z.0 (omega arith) (omega arith)) (step_kept h o))
      (λ e. h)

-- ---- the first state

back-first : (k : ℕ) (order from : List ℕ) (seeds i : ℕ) → 0 < k → In (get_or order i 0) (back k order from seeds i)
unfolding back
back-first zero order from seeds i h = absurd (omega arith)
back-first (suc k) order from seeds i h = inl refl

back-short : (k : ℕ) (order from : List ℕ) (seeds i : ℕ) → length (back k order from seeds i) ≤ k
unfolding back
back-short zero order from seeds i = omega arith
back-short (suc k) order from seeds i = by_room (λ (l : List ℕ). suc (length l) ≤ suc k) (ltb i seeds) [] (back k order from seeds (get_or from i 0)) (omega arith) (omega (arith, back-short k order from seeds (get_or from i 0)))

-- where a start is not cut it is one of three paths
by_cut : (b : Bounds) (P : Begun → Type 0) (c : Cut) (z : Begun) → (is_cut b z.cut_by ≡ false → P z) → is_cut b (cond (is_cut b c) (broken c) z).cut_by ≡ false → P (cond (is_cut b c) (broken c) z)
by_cut b P c z f = go (is_cut b c) refl
  where
    go : (t : Bool) → is_cut b c ≡ t → is_cut b (cond t (broken c) z).cut_by ≡ false → P (cond t (broken c) z)
    go true e u = absurd (clash e u)
    go false e u = f u

-- paths in a list, with a vertex
record Links (s : Sides) (c : ℕ) (l : List ℕ) : Type 0 where
  pub has : In c l
  pub first : NoVertexFirst s l

module _ {s : Sides} (room : s.a.vertices + 2 ≤ s.a.numbers) where
  -- the first link has room, and a vertex
  link-vertex : {t r : ℕ → ℕ → Bool} {p q : VertexSet} → AlikeTable s t r → AlikeSet s p q → {u v w z : ℕ} → AlikeNumber s u v → AlikeNumber s w z → (c : ℕ) × (c < s.n) × In c (add_link s.a t p [] u w)
  link-vertex {t} {r} {p} {q} h k {u} {v} {w} {z} e f = (get_or search.order search.last 0, order_low search.last, subst (λ (l : List ℕ). In (get_or search.order search.last 0) l) (sym added-all) (inr (inr first)))
    where
      search : Reach
      search = explore s.a t (single s.a w) (single s.a u) (minus p (pair s.a u w))

      order_low : (i : ℕ) → get_or search.order i 0 < s.n
      order_low i =
          let m = explore-alike h (single-alike f) (single-alike e) (minus-alike k (pair-alike e f)) in
          elim (below? i (length search.order)) [ yes l ↦ m.visiting.low (get_or search.order i 0) (place_in search.order i l) | no l ↦ subst (λ (c : ℕ). c < s.n) (sym (get_or-eq_default search.order 0 {n = i} (omega arith))) s.some ]

      first : In (get_or search.order search.last 0) (back s.a.vertices search.order search.from search.seeds search.last)
      first = back-first s.a.vertices search.order search.from search.seeds search.last (omega arith)

      added-all : add_path s.a [] (route s.a search) ≡ s.a.vertices ∷ route s.a search
      added-all = added-room s.a.numbers [] (s.a.vertices ∷ route s.a search) (omega (arith, back-short s.a.vertices search.order search.from search.seeds search.last))

  more_links : (t : ℕ → ℕ → Bool) (p : VertexSet) {c : ℕ} {f : List ℕ} (u w : ℕ) → Links s c f → Links s c (add_link s.a t p f u w)
  more_links t p {c} {f} u w h = record { has = kept_in s f (link_in s.a t p u w) c h.has; first = added-first s f (link_in s.a t p u w) h.first }

  six_links_lem : {t r : ℕ → ℕ → Bool} {p q : VertexSet} → AlikeTable s t r → AlikeSet s p q → (c : ℕ) × (c < s.n) × Links s c (sorted s.a t p)
  unfolding sorted
  six_links_lem {t} {r} {p} {q} d h =
      let a = least s.a p in
      let b = next_after s.a p a in
      let c = next_after s.a p b in
      let e = next_after s.a p c in
      let v = link-vertex d h (least-alike h) (after_alike h (least-alike h)) in
      let one : Links s v.0 (add_link s.a t p [] a b) = record { has = v.2; first = added-first s [] (link_in s.a t p a b) (λ w k. absurd k) } in
      (v.0, v.1, more_links t p c e (more_links t p b e (more_links t p b c (more_links t p a e (more_links t p a c one)))))

  module _ {adj : ℕ → ℕ → Bool} (d : AlikeTable s adj adj) where
    started : {C D T U X Y : List ℕ} → AlikeList s C D → AlikeList s T U → AlikeList s X Y → Ongoing s (first_state s.a (start_on s.a C T X))
    started {C} {D} {T} {U} {X} {Y} hc ht hx =
        let c = six_links_lem (marked-alike bare_alike (paths_alike d hc ht hx)) (four-alike d hc ht hx) in
        let flat = sorted s.a (marked s.a bare (three_paths s.a C T X)) (four_of s.a T X) in
        record {
          zero_branch = inserted-keep s.a (inserted s.a (pair s.a 0 (get_or T 0 0)) (get_or X 0 0)) (last_of X) 0 (inserted-keep s.a (pair s.a 0 (get_or T 0 0)) (get_or X 0 0) 0 (inserted-keep s.a (single s.a 0) (get_or T 0 0) 0 (on_single s.a 0 (omega arith))));
          some = c.0;
          some_built = on_all s.a empty_set flat c.0 (omega (arith, c.1)) c.2.has;
          first = c.2.first;
          flat_built = λ v k low. on_all s.a empty_set flat v (omega arith) k;
          passed = λ v k. absurd k;
        }

    pub begin-ongoing : is_cut s.a (begin s.a adj).cut_by ≡ false → Ongoing s (first_state s.a (begin s.a adj))
    unfolding begin
    begin-ongoing = go (ltb (count s.a (adj 0)) 3)
      where
        later : is_cut s.a (around s.a adj (cycle s.a adj)).cut_by ≡ false → Ongoing s (first_state s.a (around s.a adj (cycle s.a adj)))
        later =
            let C = (cycle-alike d).path in
            let T = (third_alike d C).path in
            by_cut s.a (λ z. Ongoing s (first_state s.a z)) (cycle s.a adj).cut_by _ (by_cut s.a (λ z. Ongoing s (first_state s.a z)) (third_path s.a adj (cycle s.a adj).path).cut_by _
            (by_cut s.a (λ z. Ongoing s (first_state s.a z)) (across s.a adj (cycle s.a adj).path (third_path s.a adj (cycle s.a adj).path).path).cut_by _ (λ u. started C T (across-alike d C T).path)))

        go : (t : Bool) → is_cut s.a (cond t (broken (cut (adj 0) (single s.a 0))) (around s.a adj (cycle s.a adj))).cut_by ≡ false → Ongoing s (first_state s.a (cond t (broken (cut (adj 0) (single s.a 0))) (around s.a adj (cycle s.a adj))))
        go true u = absurd (clash (on_single s.a 0 (omega arith)) (nothing_left (single-alike (zero_alike {s = s})) (not-false _ u) 0))
        go false u = later u
