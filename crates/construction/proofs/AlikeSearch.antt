-- A search is alike under two bounds: it never has more than n vertices to visit, so neither list runs full and neither count runs out.
use Prim.Native.Nat.{ℕ, zero, suc, ◌+◌, ◌-◌, ◌<◌, ◌≤◌}
use mathlib.Core.Path.{◌≡◌, refl, sym, ap, subst, ◌∙◌}
use mathlib.Core.Bool.{Bool, true, false, cond, not, ◌&&◌, ◌||◌}
use mathlib.Core.Logic.{◌⊎◌, inl, inr, ⊎_elim}
use mathlib.Core.List.{List, [], ◌∷◌, ◌++◌}
use native.Mathlib.Omega.{arith}
use native.Mathlib.Decide.{ℕ_discrete}
use lib.Dec.{ltb}
use lib.ListN.{length, get_or, replicate, length-append, length-replicate, get_or-replicate, get_or-append, get_or-eq_default}
use borrow.Author.Tests.{ltb-true, ltb-false, le-ltb, not-false, not-true}
use Rattle.vertexset.specs.Set.{first_from}
use Rattle.connectivity.specs.Lists.{In, NoDup, select, below}
use Rattle.connectivity.proofs.Lists.{bool?, clash, or-true, true_or, and-true, any-true, true_any, below_in, select_in, in_select, select-nodup, nodup_below, nodup_append, in_append, in_left, at_most, below?}
use Rattle.construction.specs.Sets.{added, last_of}
use Rattle.construction.specs.Search.{back}
use Rattle.construction.specs.Construction.{Bounds, VertexSet, Reach, reach, Found, found, failed, cut, plus, minus, common, members, next, least, empty, visit, explore, is_found, route, reached, is_cut, answered}
use Rattle.construction.proofs.SetLaws.{added-room, last_in}
use Rattle.construction.proofs.Places.{place_in, in_place, place_past}
use Rattle.construction.proofs.Alike.{Sides, AlikeNumber, vertex, none, AlikeList, end, more, AlikeSet, AlikeTable, AlikeCut, known_choice, zero_alike, vertex-test, row_alike, minus-alike, common-alike, select-far, members_alike, least-alike, no_cut_lem, append_alike}

-- ---- members, and the least of them

next-found : (p : VertexSet) (z k v : ℕ) → first_from p z k v < z → (p (first_from p z k v) ≡ true) × (v ≤ first_from p z k v)
unfolding first_from
next-found p z zero v h = absurd (omega arith)
next-found p z (suc k) v h = go (p v) refl (next-found p z k (suc v)) h
  where
    go : {r : ℕ} (c : Bool) → p v ≡ c → (r < z → (p r ≡ true) × (suc v ≤ r)) → cond c v r < z → (p (cond c v r) ≡ true) × (v ≤ cond c v r)
    go true e f l = (e, omega arith)
    go false e f l = ((f l).0, omega (arith, (f l).1))

next-upto : (p : VertexSet) (z k v w : ℕ) → p w ≡ true → v ≤ w → w < v + k → first_from p z k v ≤ w
unfolding first_from
next-upto p z zero v w e l h = absurd (omega arith)
next-upto p z (suc k) v w e l h = go (p v) refl (λ i. next-upto p z k (suc v) w e i (omega arith))
  where
    go : {r : ℕ} (c : Bool) → p v ≡ c → (suc v ≤ w → r ≤ w) → cond c v r ≤ w
    go true d f = l
    go false d f = elim (ℕ_discrete v w) [ yes i ↦ absurd (clash (ap p i ∙ e) d) | no i ↦ f (omega arith) ]

module _ {s : Sides} {p q : VertexSet} (h : AlikeSet s p q) where
  -- a member that is not below v: the next one from v on is no later, and is a member
  pub next-meets : (v w : ℕ) → p w ≡ true → v ≤ w → (v ≤ next s.a p v) × (next s.a p v ≤ w) × (p (next s.a p v) ≡ true)
  next-meets v w e l =
      let upto = next-upto p s.a.vertices (s.a.vertices - v) v w e l (omega (arith, h.low w e)) in
      let r = next-found p s.a.vertices (s.a.vertices - v) v (omega (arith, h.low w e)) in
      (r.1, upto, r.0)

  pub next-is : (v : ℕ) → next s.a p v < s.a.vertices → (p (next s.a p v) ≡ true) × (v ≤ next s.a p v)
  next-is v = next-found p s.a.vertices (s.a.vertices - v) v

  least-none : ltb (least s.a p) s.a.vertices ≡ false → (w : ℕ) → p w ≡ false
  least-none e w = ⊎_elim (λ k. absurd (omega (arith, ltb-false (least s.a p) s.a.vertices e, next-meets 0 w k (omega arith), h.low w k))) (λ k. k) (bool? (p w))

  members-below : members s.a p ≡ select p (below s.n)
  members-below = select-far p s.n h.low (s.a.vertices - 0) s.n 0 (omega arith) (omega arith)

  pub members-in : (w : ℕ) → In w (members s.a p) → p w ≡ true
  members-in w k = (select_in p (below s.n) w (subst (λ (l : List ℕ). In w l) members-below k)).1

  pub in_members : (w : ℕ) → p w ≡ true → In w (members s.a p)
  in_members w e = subst (λ (l : List ℕ). In w l) (sym members-below) (in_select p (below s.n) w (below_in s.n w (h.low w e)) e)

  pub members-nodup : NoDup (members s.a p)
  members-nodup = subst (λ (l : List ℕ). NoDup l) (sym members-below) (select-nodup p (below s.n) (nodup_below s.n))

  pub some_left : empty s.a p ≡ false → (w : ℕ) × (p w ≡ true)
  some_left e = let r = any-true p (below s.a.vertices) (not-false _ e) in (r.0, r.2)

  pub nothing_left : empty s.a p ≡ true → (w : ℕ) → p w ≡ false
  nothing_left e w = ⊎_elim (λ k. absurd (clash (true_any p (below s.a.vertices) w (below_in s.a.vertices w (omega (arith, h.low w k))) k) (not-true _ e))) (λ k. k) (bool? (p w))

-- ---- a search underway

-- what holds when the places below h are visited; S are the seeds, G the goals
pub record Visiting (s : Sides) (t : ℕ → ℕ → Bool) (S G : VertexSet) (seeds : ℕ) (order from : List ℕ) (shut : VertexSet) (h : ℕ) : Type 0 where
  pub nodup : NoDup order
  pub low : (w : ℕ) → In w order → w < s.n
  pub same_length : length order ≡ length from
  pub begun : h ≤ length order
  pub seeds_fit : seeds ≤ length order
  pub seed_at : (i : ℕ) → i < seeds → S (get_or order i 0) ≡ true
  pub seed_in : (w : ℕ) → S w ≡ true → In w order
  pub seeded : (w : ℕ) → S w ≡ true → 0 < seeds
  pub earlier : (i : ℕ) → seeds ≤ i → i < length order → get_or from i 0 < i
  pub in_shut : (w : ℕ) → In w order → shut w ≡ true
  pub shut_low : (w : ℕ) → shut w ≡ true → w < s.n
  pub no_goal : ((x : ℕ) → S x ≡ true → G x ≡ false) → (w : ℕ) → In w order → G w ≡ false
  pub passed : (i : ℕ) → i < h → (w : ℕ) → t (get_or order i 0) w ≡ true → G w ≡ false

pub record AlikeReach (s : Sides) (t : ℕ → ℕ → Bool) (S G : VertexSet) (r q : Reach) : Type 0 where
  pub order : r.order ≡ q.order
  pub from : r.from ≡ q.from
  pub seeds : r.seeds ≡ q.seeds
  pub shut : AlikeSet s r.shut q.shut
  pub goal : AlikeNumber s r.goal q.goal
  pub last : r.last ≡ q.last
  pub visiting : Visiting s t S G r.seeds r.order r.from r.shut r.last
  pub ending : ((r.last < length r.order) × (G r.goal ≡ true)) ⊎ ((r.last ≡ length r.order) × (r.goal ≡ s.a.vertices))

pub both : {A B : Type 0} (R : A → B → Type 0) {x y : A} {z w : B} → x ≡ y → z ≡ w → R x z → R y w
both R {x} {y} {z} {w} d e h = subst (λ c. R y c) e (subst (λ c. R c z) d h)

or_right : (a b : Bool) → a ≡ true → a || b ≡ true
or_right true b e = refl
or_right false b e = absurd (clash e refl)

pub and_on : {a b : Bool} → a ≡ true → b ≡ false → a && not b ≡ true
and_on {a} {b} e f = λ i. (e ∙ refl) i && not (f i)

not_on : (b : Bool) → not b ≡ true → b ≡ false
not_on true e = absurd (clash e refl)
not_on false e = refl

pub minus_is : (p q : VertexSet) (x : ℕ) → minus p q x ≡ true → (p x ≡ true) × (q x ≡ false)
minus_is p q x e = let r = and-true (p x) (not (q x)) e in (r.0, not_on (q x) r.1)

pub common-is : (p q : VertexSet) (x : ℕ) → common p q x ≡ true → (p x ≡ true) × (q x ≡ true)
common-is p q x e = and-true (p x) (q x) e

module _ {s : Sides} {t : ℕ → ℕ → Bool} (d : AlikeTable s t t) {S G R : VertexSet} (hs : AlikeSet s S S) (hg : AlikeSet s G G) (hr : AlikeSet s R R) (seeds : ℕ) where
  -- one more is visited, and none of its neighbours is a goal
  module _ {order from : List ℕ} {shut : VertexSet} {h : ℕ} (v : Visiting s t S G seeds order from shut h) (here : h < length order) where
    abbrev row : VertexSet
    row = t (get_or order h 0)

    shut_alike : AlikeSet s shut shut
    shut_alike = record { same = refl; low = v.shut_low }

    fresh_alike : AlikeSet s (minus row shut) (minus row shut)
    fresh_alike = minus-alike (row_alike d (get_or order h 0)) shut_alike

    abbrev fresh : List ℕ
    fresh = members s.a (minus row shut)

    fresh_is : (w : ℕ) → In w fresh → (row w ≡ true) × (shut w ≡ false)
    fresh_is w k = minus_is row shut w (members-in fresh_alike w k)

    more_nodup : NoDup (order ++ fresh)
    more_nodup = nodup_append order fresh v.nodup (members-nodup fresh_alike) (λ w j k. clash (v.in_shut w j) (fresh_is w k).1)

    more_low : (w : ℕ) → In w (order ++ fresh) → w < s.n
    more_low w m = ⊎_elim (v.low w) (λ k. (d.low (get_or order h 0) w (fresh_is w k).0).1) (in_append w order fresh m)

    room : length order + length fresh ≤ s.n
    room = omega (arith, at_most s.n (order ++ fresh) more_nodup more_low, length-append order fresh)

    abbrev farther : List ℕ
    farther = from ++ replicate (length fresh) h

    more_earlier : (i : ℕ) → seeds ≤ i → i < length (order ++ fresh) → get_or farther i 0 < i
    more_earlier i l j = go (below? i (length order))
      where
        go : Dec (i < length order) → get_or farther i 0 < i
        go (yes k) = rw (get_or-append from (replicate (length fresh) h) 0 i (omega (arith, v.same_length))) (v.earlier i l k)
        go (no k) =
            rw (place_past from (replicate (length fresh) h) i (omega (arith, v.same_length)) ∙ get_or-replicate (length fresh) (i - length from) h 0 (omega (arith, v.same_length, length-append order fresh))) (omega arith)

    more_visited : ((w : ℕ) → row w ≡ true → G w ≡ false) → Visiting s t S G seeds (order ++ fresh) farther (plus shut row) (h + 1)
    more_visited g = record {
      nodup = more_nodup;
      low = more_low;
      same_length = omega (arith, length-append order fresh, length-append from (replicate (length fresh) h), length-replicate (length fresh) h, v.same_length);
      begun = omega (arith, length-append order fresh);
      seeds_fit = omega (arith, length-append order fresh, v.seeds_fit);
      seed_at = λ i l. rw (get_or-append order fresh 0 i (omega (arith, v.seeds_fit))) (v.seed_at i l);
      seed_in = λ w e. in_left w order fresh (v.seed_in w e);
      seeded = v.seeded;
      earlier = more_earlier;
      in_shut = λ w m. ⊎_elim (λ k. or_right (shut w) (row w) (v.in_shut w k)) (λ k. true_or (shut w) (row w) (fresh_is w k).0) (in_append w order fresh m);
      shut_low = λ w e. ⊎_elim (v.shut_low w) (λ k. (d.low (get_or order h 0) w k).1) (or-true (shut w) (row w) e);
      no_goal = λ a w m. ⊎_elim (v.no_goal a w) (λ k. g w (fresh_is w k).0) (in_append w order fresh m);
      passed = λ i l w e. go i l w (ℕ_discrete i h) (rw (get_or-append order fresh 0 i (omega arith)) at e);
    }
      where
        go : (i : ℕ) → i < h + 1 → (w : ℕ) → Dec (i ≡ h) → t (get_or order i 0) w ≡ true → G w ≡ false
        go i l w (yes z) k = g w (rw z at k)
        go i l w (no z) k = v.passed i (omega arith) w k

  ended : (b : Bounds) (k : ℕ) (order from : List ℕ) (shut : VertexSet) (h : ℕ) → length order ≤ h → visit b t G seeds k order from shut h ≡ reach order from seeds shut b.vertices h
  unfolding visit
  ended b zero order from shut h e = refl
  ended b (suc k) order from shut h e = rw (le-ltb h (length order) e)

  nothing_more : {order from : List ℕ} {shut : VertexSet} {h : ℕ} → Visiting s t S G seeds order from shut h → length order ≤ h
      → AlikeReach s t S G (reach order from seeds shut s.a.vertices h) (reach order from seeds shut s.b.vertices h)
  nothing_more v e = record {
    order = refl;
    from = refl;
    seeds = refl;
    shut = record { same = refl; low = v.shut_low };
    goal = none refl refl;
    last = refl;
    visiting = v;
    ending = inr (omega (arith, v.begun), refl);
  }

  met : {order from : List ℕ} {shut : VertexSet} {h : ℕ} → Visiting s t S G seeds order from shut h → h < length order
      → ltb (least s.a (common (t (get_or order h 0)) G)) s.a.vertices ≡ true
      → AlikeReach s t S G (reach order from seeds shut (least s.a (common (t (get_or order h 0)) G)) h) (reach order from seeds shut (least s.b (common (t (get_or order h 0)) G)) h)
  met {order} {from} {shut} {h} v here e =
      let goals = common-alike (row_alike d (get_or order h 0)) hg in
      let is = (next-is goals 0 (ltb-true (least s.a (common (t (get_or order h 0)) G)) s.a.vertices e)).0 in
      record {
        order = refl;
        from = refl;
        seeds = refl;
        shut = record { same = refl; low = v.shut_low };
        goal = least-alike goals;
        last = refl;
        visiting = v;
        ending = inl (here, (common-is (t (get_or order h 0)) G (least s.a (common (t (get_or order h 0)) G)) is).1);
      }

  goes_on : {order from : List ℕ} {shut : VertexSet} {h : ℕ} (v : Visiting s t S G seeds order from shut h) (here : h < length order) (k l : ℕ) → ((w : ℕ) → common (t (get_or order h 0)) G w ≡ false)
      → (Visiting s t S G seeds (order ++ fresh v here) (farther v here) (plus shut (row v here)) (h + 1)
      → AlikeReach s t S G (visit s.a t G seeds k (order ++ fresh v here) (farther v here) (plus shut (row v here)) (h + 1)) (visit s.b t G seeds l (order ++ fresh v here) (farther v here) (plus shut (row v here)) (h + 1)))
      → AlikeReach s t S G (visit s.a t G seeds k (added s.a.vertices order (members s.a (minus (row v here) shut))) (added s.a.vertices from (replicate (length (members s.a (minus (row v here) shut))) h)) (plus shut (row v here)) (h + 1))
      (visit s.b t G seeds l (added s.b.vertices order (members s.b (minus (row v here) shut))) (added s.b.vertices from (replicate (length (members s.b (minus (row v here) shut))) h)) (plus shut (row v here)) (h + 1))
  goes_on {order} {from} {shut} {h} v here k l g rest = both (AlikeReach s t S G) (grown s.a k s.low_a) (grown s.b l s.low_b ∙ other) (rest (more_visited v here (λ w e. no_goal w e (g w))))
    where
      no_goal : (w : ℕ) → row v here w ≡ true → row v here w && G w ≡ false → G w ≡ false
      no_goal w e f = (λ i. sym e i && G w) ∙ f

      grown : (b : Bounds) (k : ℕ) → s.n ≤ b.vertices → visit b t G seeds k (order ++ fresh v here) (farther v here) (plus shut (row v here)) (h + 1)
          ≡ visit b t G seeds k (added b.vertices order (fresh v here)) (added b.vertices from (replicate (length (fresh v here)) h)) (plus shut (row v here)) (h + 1)
      grown b k low =
          let o = added-room b.vertices order (fresh v here) (omega (arith, room v here)) in
          let f = added-room b.vertices from (replicate (length (fresh v here)) h) (omega (arith, room v here, v.same_length, length-replicate (length (fresh v here)) h)) in
          λ i. visit b t G seeds k (sym o i) (sym f i) (plus shut (row v here)) (h + 1)

      other : visit s.b t G seeds l (added s.b.vertices order (fresh v here)) (added s.b.vertices from (replicate (length (fresh v here)) h)) (plus shut (row v here)) (h + 1)
          ≡ visit s.b t G seeds l (added s.b.vertices order (members s.b (minus (row v here) shut))) (added s.b.vertices from (replicate (length (members s.b (minus (row v here) shut))) h)) (plus shut (row v here)) (h + 1)
      other = let m = members_alike (fresh_alike v here) in λ i. visit s.b t G seeds l (added s.b.vertices order (m i)) (added s.b.vertices from (replicate (length (m i)) h)) (plus shut (row v here)) (h + 1)

  visit-alike : (k l : ℕ) {order from : List ℕ} {shut : VertexSet} {h : ℕ} → Visiting s t S G seeds order from shut h → s.n ≤ h + k → s.n ≤ h + l
      → AlikeReach s t S G (visit s.a t G seeds k order from shut h) (visit s.b t G seeds l order from shut h)
  unfolding visit
  visit-alike zero l {order} {from} {shut} {h} v i j =
      let full : length order ≤ h = omega (arith, at_most s.n order v.nodup v.low) in
      both (AlikeReach s t S G) refl (sym (ended s.b l order from shut h full)) (nothing_more v full)
  visit-alike (suc k) zero {order} {from} {shut} {h} v i j =
      let full : length order ≤ h = omega (arith, at_most s.n order v.nodup v.low) in
      both (AlikeReach s t S G) (sym (ended s.a (suc k) order from shut h full)) refl (nothing_more v full)
  visit-alike (suc k) (suc l) {order} {from} {shut} {h} v i j =
      let goals = common-alike (row_alike d (get_or order h 0)) hg in
      ⊎_elim (λ e. rw e (known_choice (AlikeReach s t S G) (vertex-test (least-alike goals)) (met v (ltb-true h (length order) e)) (λ f. goes_on v (ltb-true h (length order) e) k l (least-none goals f) (λ w. visit-alike k l w (omega arith) (omega arith)))))
      (λ e. rw e (nothing_more v (ltb-false h (length order) e))) (bool? (ltb h (length order)))

  first_places : (l : List ℕ) → NoDup l → ((w : ℕ) → In w l → S w ≡ true) → ((w : ℕ) → S w ≡ true → In w l) → seeds ≡ length l → Visiting s t S G seeds l (replicate (length l) 0) (plus S R) 0
  first_places l nd sound all e = record {
    nodup = nd;
    low = λ w k. hs.low w (sound w k);
    same_length = sym (length-replicate (length l) 0);
    begun = omega arith;
    seeds_fit = omega arith;
    seed_at = λ i k. sound (get_or l i 0) (place_in l i (omega arith));
    seed_in = all;
    seeded = λ w k. let r = in_place w l (all w k) in omega arith;
    earlier = λ i k j. absurd (omega arith);
    in_shut = λ w k. or_right (S w) (R w) (sound w k);
    shut_low = λ w k. ⊎_elim (hs.low w) (hr.low w) (or-true (S w) (R w) k);
    no_goal = λ a w k. a w (sound w k);
    passed = λ i k. absurd (omega arith);
  }

itself : {s : Sides} {p q : VertexSet} → AlikeSet s p q → AlikeSet s p p
itself h = record { same = refl; low = h.low }

-- THE SEARCH
pub explore-alike : {s : Sides} {t u : ℕ → ℕ → Bool} {S G R S' G' R' : VertexSet} → AlikeTable s t u → AlikeSet s S S' → AlikeSet s G G' → AlikeSet s R R'
    → AlikeReach s t S G (explore s.a t S G R) (explore s.b u S' G' R')
unfolding explore
explore-alike {s} {t} {u} {S} {G} {R} d hs hg hr =
    let l = members_alike hs in
    both (AlikeReach s t S G) refl (λ i. visit s.b (d.same i) (hg.same i) (length (l i)) s.b.vertices (l i) (replicate (length (l i)) 0) (plus (hs.same i) (hr.same i)) 0)
    (visit-alike (record { same = refl; low = d.low }) (itself hs) (itself hg) (itself hr) (length (members s.a S)) s.a.vertices s.b.vertices
    (first_places (record { same = refl; low = d.low }) (itself hs) (itself hg) (itself hr) (length (members s.a S)) (members s.a S) (members-nodup hs) (members-in hs) (in_members hs) refl)
    (omega arith) (omega arith))

-- ---- back from a goal

back_some : (k : ℕ) (order from : List ℕ) (seeds i : ℕ) → 0 < k → 0 < length (back k order from seeds i)
unfolding back
back_some zero order from seeds i h = absurd (omega arith)
back_some (suc k) order from seeds i h = omega arith

last_more : (y : ℕ) (l : List ℕ) → 0 < length l → last_of (y ∷ l) ≡ last_of l
unfolding last_of
last_more y [] h = absurd (omega arith)
last_more y (a ∷ l) h = refl

some_last : (l : List ℕ) → 0 < length l → In (last_of l) l
some_last [] h = absurd (omega arith)
some_last (a ∷ l) h = last_in a l

module _ {s : Sides} {t : ℕ → ℕ → Bool} {S G : VertexSet} {seeds : ℕ} {order from : List ℕ} {shut : VertexSet} {h : ℕ} (v : Visiting s t S G seeds order from shut h) where
  back-alike : (k l i : ℕ) → i < k → i < l → i < length order → AlikeList s (back k order from seeds i) (back l order from seeds i)
  unfolding back
  back-alike zero l i a b e = absurd (omega arith)
  back-alike (suc k) zero i a b e = absurd (omega arith)
  back-alike (suc k) (suc l) i a b e =
      more (vertex refl (v.low (get_or order i 0) (place_in order i e)))
      (known_choice (AlikeList s) {t = ltb i seeds} refl (λ f. end) (λ f. let g = v.earlier i (ltb-false i seeds f) e in back-alike k l (get_or from i 0) (omega arith) (omega arith) (omega arith)))

  back_in : (k i w : ℕ) → i < length order → In w (back k order from seeds i) → In w order
  unfolding back
  back_in zero i w e m = absurd m
  back_in (suc k) i w e (inl m) = subst (λ (x : ℕ). In x order) (sym m) (place_in order i e)
  back_in (suc k) i w e (inr m) = go (back k order from seeds (get_or from i 0)) (ltb i seeds) refl m (λ l. back_in k (get_or from i 0) w l)
    where
      go : (l : List ℕ) (c : Bool) → ltb i seeds ≡ c → In w (cond c [] l) → (get_or from i 0 < length order → In w l → In w order) → In w order
      go l true f z g = absurd z
      go l false f z g = g (omega (arith, v.earlier i (ltb-false i seeds f) e)) z

  -- a way back ends at a seed
  back_last : (k i : ℕ) → i < k → i < length order → S (last_of (back k order from seeds i)) ≡ true
  unfolding back last_of
  back_last zero i a e = absurd (omega arith)
  back_last (suc k) i a e = go (ltb i seeds) refl (back_last k (get_or from i 0))
    where
      go : (c : Bool) → ltb i seeds ≡ c → (get_or from i 0 < k → get_or from i 0 < length order → S (last_of (back k order from seeds (get_or from i 0))) ≡ true)
          → S (last_of (get_or order i 0 ∷ cond c [] (back k order from seeds (get_or from i 0)))) ≡ true
      go true f g = v.seed_at i (ltb-true i seeds f)
      go false f g =
          let l = v.earlier i (ltb-false i seeds f) e in
          ap S (last_more (get_or order i 0) (back k order from seeds (get_or from i 0)) (back_some k order from seeds (get_or from i 0) (omega arith))) ∙ g (omega arith) (omega arith)

-- ---- the path that was found, and the answer

module _ {s : Sides} {t : ℕ → ℕ → Bool} {S G : VertexSet} {r q : Reach} (m : AlikeReach s t S G r q) where
  abbrev pub rest : List ℕ
  rest = back s.a.vertices r.order r.from r.seeds r.last

  few : length r.order ≤ s.n
  few = at_most s.n r.order m.visiting.nodup m.visiting.low

  other_route : route s.b (record { order = r.order; from = r.from; seeds = r.seeds; shut = q.shut; goal = q.goal; last = r.last }) ≡ route s.b q
  other_route = λ i. q.goal ∷ back s.b.vertices (m.order i) (m.from i) (m.seeds i) (m.last i)

  from_place : r.last < length r.order → AlikeList s (route s.a r) (route s.b q)
  from_place l = subst (λ (p : List ℕ). AlikeList s (route s.a r) p) other_route (more m.goal (back-alike m.visiting s.a.vertices s.b.vertices r.last (omega (arith, few)) (omega (arith, few)) l))

  -- where there was no goal it begins at no vertex, and goes on from the first seed
  from_none : 0 < r.seeds → 2 ≤ s.n → r.last ≡ length r.order → AlikeList s (route s.a r) (route s.b q)
  unfolding back
  from_none some two e = subst (λ (p : List ℕ). AlikeList s (route s.a r) p) other_route (more m.goal (from s.a.vertices s.b.vertices (omega arith) (omega arith)))
    where
      from : (k l : ℕ) → 2 ≤ k → 2 ≤ l → AlikeList s (back k r.order r.from r.seeds r.last) (back l r.order r.from r.seeds r.last)
      from zero l i j = absurd (omega arith)
      from (suc k) zero i j = absurd (omega arith)
      from (suc k) (suc l) i j =
          more (subst (λ (x : ℕ). AlikeNumber s x x) (sym (get_or-eq_default r.order 0 {n = r.last} (omega arith))) zero_alike)
          (known_choice (AlikeList s) {t = ltb r.last r.seeds} refl (λ f. end)
          (λ f. subst (λ (x : ℕ). AlikeList s (back k r.order r.from r.seeds x) (back l r.order r.from r.seeds x)) (sym (get_or-eq_default r.from 0 {n = r.last} (omega (arith, m.visiting.same_length))))
          (back-alike m.visiting k l 0 (omega arith) (omega arith) (omega (arith, m.visiting.seeds_fit)))))

  pub route-alike : 0 < r.seeds → 2 ≤ s.n → AlikeList s (route s.a r) (route s.b q)
  route-alike some two = ⊎_elim (λ e. from_place e.0) (λ e. from_none some two e.0) m.ending

  module _ (met : is_found s.a r ≡ true) where
    pub at_goal : (r.last < length r.order) × (G r.goal ≡ true)
    at_goal = ⊎_elim (λ e. e) (λ e. absurd (omega (arith, ltb-true r.goal s.a.vertices met, e.1))) m.ending

    pub rest_in : (w : ℕ) → In w rest → In w r.order
    rest_in w k = back_in m.visiting s.a.vertices r.last w at_goal.0 k

    rest_some : 0 < length rest
    rest_some = back_some s.a.vertices r.order r.from r.seeds r.last (omega arith)

    pub last_same : last_of (route s.a r) ≡ last_of rest
    last_same = last_more r.goal rest rest_some

    pub last_rest : In (last_of rest) rest
    last_rest = some_last rest rest_some

    pub last_seed : S (last_of rest) ≡ true
    last_seed = back_last m.visiting s.a.vertices r.last (omega (arith, few, at_goal.0)) at_goal.0

pub record AlikeFound (s : Sides) (f g : Found) : Type 0 where
  pub path : AlikeList s f.path g.path
  pub cut_by : AlikeCut s f.cut_by g.cut_by

module _ {s : Sides} {t : ℕ → ℕ → Bool} {S G R R' : VertexSet} {r q : Reach} (m : AlikeReach s t S G r q) (hr : AlikeSet s R R') where
  pub answered-alike : {k l : List ℕ} → AlikeList s k l → AlikeFound s (answered s.a r R k) (answered s.b q R' l)
  answered-alike h = known_choice (AlikeFound s) (vertex-test m.goal)
      (λ e. record { path = append_alike (from_place m (at_goal m e).0) h; cut_by = no_cut_lem })
      (λ e. record { path = end; cut_by = record { removed = hr; side = minus-alike m.shut hr } })

  -- where nothing is cut the path is there: a seed that is not removed would stand in the side
  pub uncut : (k : List ℕ) (w : ℕ) → S w ≡ true → R w ≡ false → is_cut s.a (answered s.a r R k).cut_by ≡ false → is_found s.a r ≡ true
  uncut k w i o e = go (is_found s.a r) refl
    where
      side : is_cut s.a (cut R (minus r.shut R)) ≡ false → ⊥
      side f = clash (and_on (m.visiting.in_shut w (m.visiting.seed_in w i)) o) (nothing_left (minus-alike m.shut hr) (not-false _ f) w)

      go : (c : Bool) → is_found s.a r ≡ c → c ≡ true
      go true f = refl
      go false f = absurd (side ((λ j. is_cut s.a (cond (sym f j) (found (route s.a r ++ k)) (failed R (reached s.a r R))).cut_by) ∙ e))

  pub found-path : (k : List ℕ) → is_found s.a r ≡ true → (answered s.a r R k).path ≡ route s.a r ++ k
  found-path k e = λ i. (cond (e i) (found (route s.a r ++ k)) (failed R (reached s.a r R))).path
