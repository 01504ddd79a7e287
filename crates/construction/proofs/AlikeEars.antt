-- The way out and back, the cycle through vertex 0 and the ears are alike under two bounds: each ear has a new vertex, so there are fewer than n.
use Prim.Native.Nat.{ℕ, zero, suc, ◌+◌, ◌<◌, ◌≤◌}
use mathlib.Core.Path.{◌≡◌, refl, sym, ap, subst, ◌∙◌}
use mathlib.Core.Bool.{Bool, true, false, cond, ◌&&◌, ◌||◌}
use mathlib.Core.Logic.{◌⊎◌, inl, inr, ⊎_elim}
use mathlib.Core.List.{List, [], ◌∷◌, ◌++◌}
use native.Mathlib.Omega.{arith}
use lib.Dec.{ltb, eqb}
use lib.ListN.{length}
use borrow.Author.Tests.{ltb-true, ltb-false, lt-ltb, eq-eqb, not-false}
use Rattle.record.specs.Read.{folded}
use Rattle.connectivity.specs.Lists.{In}
use Rattle.connectivity.proofs.Lists.{bool?, clash, true_or, in_left, in_right, fewer, at_most, beside}
use Rattle.construction.specs.Construction.{Bounds, VertexSet, Reach, Found, failed, Eared, eared, no_cut, empty_set, minus, inserted, single, pair, set_with_all, members, count, least, empty, explore, is_found, route, is_cut, answered, near, way_out, back_from, detour, cycle, ears_on, ears}
use Rattle.construction.proofs.Places.{in_place}
use Rattle.construction.proofs.Alike.{Sides, off_one, AlikeNumber, AlikeList, end, more, AlikeSet, AlikeTable, AlikeCut, known_choice, zero_alike, vertex-test, row_alike, row_at, near-alike, empty-alike, minus-alike, common-alike, inserted-is, single-alike, all_alike, count-alike, none_left, least-alike, no_cut_lem, cut-alike, add_alike}
use Rattle.construction.proofs.AlikeSearch.{AlikeReach, AlikeFound, next-meets, next-is, members-in, in_members, members-nodup, some_left, nothing_left, and_on, minus_is, common-is, explore-alike, rest, last_rest, last_seed, answered-alike, uncut, found-path, both}

-- ---- the members of small sets

module _ (b : Bounds) where
  pub on_inserted : (p : VertexSet) (v : ℕ) → v < b.vertices → inserted b p v v ≡ true
  on_inserted p v h = true_or (p v) _ (λ i. lt-ltb v b.vertices h i && eq-eqb v v refl i)

  pub inserted-keep : (p : VertexSet) (v x : ℕ) → p x ≡ true → inserted b p v x ≡ true
  inserted-keep p v x e = λ i. e i || (ltb v b.vertices && eqb x v)

  pub single-is : (v x : ℕ) → single b v x ≡ true → x ≡ v
  single-is v x e = ⊎_elim (λ k. absurd (clash k refl)) (λ k. k.1) (inserted-is b empty_set v x e)

  pub on_single : (v : ℕ) → v < b.vertices → single b v v ≡ true
  on_single v h = on_inserted empty_set v h

  pub pair_is : (u v x : ℕ) → pair b u v x ≡ true → (x ≡ u) ⊎ (x ≡ v)
  pair_is u v x e = ⊎_elim (λ k. inl (single-is u x k)) (λ k. inr k.1) (inserted-is b (single b u) v x e)

  pub all-is : (p : VertexSet) (l : List ℕ) (x : ℕ) → set_with_all b p l x ≡ true → (p x ≡ true) ⊎ In x l
  unfolding folded
  all-is p [] x e = inl e
  all-is p (v ∷ l) x e = ⊎_elim (λ k. ⊎_elim inl (λ j. inr (inl j.1)) (inserted-is b p v x k)) (λ k. inr (inr k)) (all-is (inserted b p v) l x e)

  pub all_keep : (p : VertexSet) (l : List ℕ) (x : ℕ) → p x ≡ true → set_with_all b p l x ≡ true
  unfolding folded
  all_keep p [] x e = e
  all_keep p (v ∷ l) x e = all_keep (inserted b p v) l x (inserted-keep p v x e)

  pub on_all : (p : VertexSet) (l : List ℕ) (x : ℕ) → x < b.vertices → In x l → set_with_all b p l x ≡ true
  unfolding folded
  on_all p [] x h k = absurd k
  on_all p (v ∷ l) x h (inl k) = all_keep (inserted b p v) l x (subst (λ (y : ℕ). inserted b p y x ≡ true) k (on_inserted p x h))
  on_all p (v ∷ l) x h (inr k) = on_all (inserted b p v) l x h k

-- ---- out and back

-- a choice that is not cut, where its second part would be
first_taken : (b : Bounds) (t : Bool) (f g : Found) → (is_cut b g.cut_by ≡ false → ⊥) → is_cut b (cond t f g).cut_by ≡ false → (t ≡ true) × (is_cut b f.cut_by ≡ false) × ((cond t f g).path ≡ f.path)
first_taken b true f g h e = (refl, e, refl)
first_taken b false f g h e = absurd (h e)

record AlikeEnds (s : Sides) (e f : ℕ × ℕ) : Type 0 where
  pub inside : AlikeNumber s e.0 f.0
  pub outside : AlikeNumber s e.1 f.1

pub record AlikeEared (s : Sides) (e f : Eared) : Type 0 where
  pub flat : AlikeList s e.flat f.flat
  pub count : e.count ≡ f.count
  pub cut_by : AlikeCut s e.cut_by f.cut_by

module _ {s : Sides} {adj : ℕ → ℕ → Bool} (d : AlikeTable s adj adj) where
  way_alike : {n n' p q : VertexSet} → AlikeSet s n n' → AlikeSet s p q → AlikeEnds s (way_out s.a adj n p) (way_out s.b adj n' q)
  way_alike hn h = let out = least-alike (minus-alike hn h) in record { inside = least-alike (common-alike (row_at d out) h); outside = out }

  return_alike : {p q : VertexSet} {e f : ℕ × ℕ} → AlikeSet s p q → AlikeEnds s e f → AlikeFound s (back_from s.a adj p e) (back_from s.b adj q f)
  return_alike h e =
      let x = single-alike e.inside in
      known_choice (AlikeFound s) (vertex-test e.inside)
      (λ z. answered-alike (explore-alike d (single-alike e.outside) (minus-alike h x) x) x (more e.inside end))
      (λ z. record { path = end; cut_by = record { removed = empty-alike; side = h } })

  module _ {n n' p q : VertexSet} (hn : AlikeSet s n n') (h : AlikeSet s p q) where
    pub detour-alike : AlikeFound s (detour s.a adj n p) (detour s.b adj n' q)
    unfolding detour
    detour-alike = return_alike h (way_alike hn h)

    -- the way out goes from the set to a new vertex
    way_is : ltb (way_out s.a adj n p).0 s.a.vertices ≡ true → (p (way_out s.a adj n p).0 ≡ true) × (minus n p (way_out s.a adj n p).1 ≡ true)
    way_is e =
        let c = (way_out s.a adj n p).1 in
        let x = (way_out s.a adj n p).0 in
        let r = common-is (adj c) p x (next-is (common-alike (row_alike d c) h) 0 (ltb-true x s.a.vertices e)).0 in
        (r.1, (next-is (minus-alike hn h) 0 (omega (arith, d.low c x r.0))).0)

    -- where a set is not empty and nothing is cut, the way has a vertex that the set has not
    back-grows : (e f : ℕ × ℕ) → AlikeEnds s e f → ((ltb e.0 s.a.vertices ≡ true) → (p e.0 ≡ true) × (minus n p e.1 ≡ true)) → (w : ℕ) → p w ≡ true → is_cut s.a (back_from s.a adj p e).cut_by ≡ false
        → In e.1 (back_from s.a adj p e).path × (minus n p e.1 ≡ true)
    back-grows e f he is w on u =
        let x = single-alike he.inside in
        let m = explore-alike d (single-alike he.outside) (minus-alike h x) x in
        let r = first_taken s.a (ltb e.0 s.a.vertices) _ (failed empty_set p) (λ k. clash on (nothing_left h (not-false _ k) w)) u in
        let new = (is r.0).1 in
        let c_low : e.1 < s.a.vertices = omega (arith, (minus-alike hn h).low e.1 new) in
        let apart : single s.a e.0 e.1 ≡ false = off_one (λ k. clash (is r.0).0 (ap p (sym (single-is s.a e.0 e.1 k)) ∙ (minus_is n p e.1 new).1)) in
        let met = uncut m x (e.0 ∷ []) e.1 (on_single s.a e.1 c_low) apart r.1 in
        let at = single-is s.a e.1 _ (last_seed m met) in
        (subst (λ (l : List ℕ). In e.1 l) (sym (r.2 ∙ found-path m x (e.0 ∷ []) met)) (inr (in_left e.1 (rest m) (e.0 ∷ []) (subst (λ (v : ℕ). In v (rest m)) at (last_rest m met)))), new)

    pub detour-grows : (w : ℕ) → p w ≡ true → is_cut s.a (detour s.a adj n p).cut_by ≡ false → (c : ℕ) × In c (detour s.a adj n p).path × (c < s.n) × (p c ≡ false)
    unfolding detour
    detour-grows w on u =
        let c = (way_out s.a adj n p).1 in
        let r = back-grows (way_out s.a adj n p) (way_out s.b adj n' q) (way_alike hn h) way_is w on u in
        (c, r.0, (minus-alike hn h).low c r.1, (minus_is n p c r.1).1)

  -- ---- a cycle through vertex 0

  abbrev first : ℕ
  first = least s.a (adj 0)

  abbrev pub cycle_search : Reach
  cycle_search = explore s.a adj (single s.a first) (minus (adj 0) (single s.a first)) (single s.a 0)

  pub cycle-search : AlikeReach s adj (single s.a first) (minus (adj 0) (single s.a first)) cycle_search
      (explore s.b adj (single s.b (least s.b (adj 0))) (minus (adj 0) (single s.b (least s.b (adj 0)))) (single s.b 0))
  cycle-search = let one = single-alike (least-alike (row_alike d 0)) in explore-alike d one (minus-alike (row_alike d 0) one) (single-alike zero_alike)

  pub cycle-alike : AlikeFound s (cycle s.a adj) (cycle s.b adj)
  unfolding cycle
  cycle-alike =
      known_choice (AlikeFound s) (λ i. ltb (count-alike (row_alike d 0) i) 2)
      (λ e. record { path = end; cut_by = record { removed = row_alike d 0; side = single-alike zero_alike } })
      (λ e. answered-alike cycle-search (single-alike zero_alike) (more zero_alike end))

  -- with two neighbours of 0 there is another than the least, so the search from 0 itself would meet it
  cycle-meets : 2 ≤ count s.a (adj 0) → is_cut s.a (answered s.a cycle_search (single s.a 0) (0 ∷ [])).cut_by ≡ false → is_found s.a cycle_search ≡ true
  cycle-meets two u = go (single s.a 0 first) refl
    where
      m : AlikeReach s adj (single s.a first) (minus (adj 0) (single s.a first)) cycle_search
          (explore s.b adj (single s.b (least s.b (adj 0))) (minus (adj 0) (single s.b (least s.b (adj 0)))) (single s.b 0))
      m = cycle-search

      another : (y : ℕ) × In y (members s.a (adj 0)) × (¬ In y (first ∷ []))
      another = beside (members s.a (adj 0)) (first ∷ []) (members-nodup (row_alike d 0)) (omega arith)

      on_first : single s.a first first ≡ true
      on_first = let y = another.0 in let e = members-in (row_alike d 0) y another.1 in on_single s.a first (omega (arith, next-meets (row_alike d 0) 0 y e (omega arith), (row_alike d 0).low y e))

      goal : minus (adj 0) (single s.a first) another.0 ≡ true
      goal = and_on (members-in (row_alike d 0) another.0 another.1) (off_one (λ k. another.2 (inl (single-is s.a first another.0 k))))

      go : (t : Bool) → single s.a 0 first ≡ t → is_found s.a cycle_search ≡ true
      go false e = uncut m (single-alike zero_alike) (0 ∷ []) first on_first e u
      go true e = ⊎_elim (λ k. k) (λ k. absurd (none-met k)) (bool? (is_found s.a cycle_search))
        where
          none-met : is_found s.a cycle_search ≡ false → ⊥
          none-met k =
              let r = in_place first cycle_search.order (m.visiting.seed_in first on_first) in
              let all : r.0 < cycle_search.last = ⊎_elim (λ z. absurd (omega (arith, ltb-false cycle_search.goal s.a.vertices k, (minus-alike (row_alike d 0) (single-alike (least-alike (row_alike d 0)))).low cycle_search.goal z.1))) (λ z. omega arith) m.ending in
              clash goal (m.visiting.passed r.0 all another.0 (ap (λ (v : ℕ). adj v another.0) (r.2 ∙ single-is s.a 0 first e) ∙ members-in (row_alike d 0) another.0 another.1))

  pub cycle-found : is_cut s.a (cycle s.a adj).cut_by ≡ false → (is_found s.a cycle_search ≡ true) × ((cycle s.a adj).path ≡ route s.a cycle_search ++ (0 ∷ []))
  unfolding cycle
  cycle-found u = go (ltb (count s.a (adj 0)) 2) refl u
    where
      go : (t : Bool) → ltb (count s.a (adj 0)) 2 ≡ t → is_cut s.a (cond t (failed (adj 0) (single s.a 0)) (answered s.a cycle_search (single s.a 0) (0 ∷ []))).cut_by ≡ false
          → (is_found s.a cycle_search ≡ true) × ((cond t (failed (adj 0) (single s.a 0)) (answered s.a cycle_search (single s.a 0) (0 ∷ []))).path ≡ route s.a cycle_search ++ (0 ∷ []))
      go true e k = absurd (clash (on_single s.a 0 (omega arith)) (nothing_left (single-alike (zero_alike {s = s})) (not-false _ k) 0))
      go false e k = let r = cycle-meets (ltb-false (count s.a (adj 0)) 2 e) k in (r, found-path cycle-search (single-alike zero_alike) (0 ∷ []) r)

  -- ---- ears

  module _ {full full' : VertexSet} (hf : AlikeSet s full full') where
    abbrev pub left : VertexSet → ℕ
    left p = length (members s.a (minus full p))

    pub few_left : {p q : VertexSet} → AlikeSet s p q → left p ≤ s.n
    few_left {p} h = at_most s.n (members s.a (minus full p)) (members-nodup (minus-alike hf h)) (λ w k. (minus-alike hf h).low w (members-in (minus-alike hf h) w k))

    -- one new vertex: fewer are left
    pub fewer_left : {p q r t : VertexSet} → AlikeSet s p q → AlikeSet s r t → ((w : ℕ) → p w ≡ true → r w ≡ true) → (c : ℕ) → minus full p c ≡ true → r c ≡ true → left r < left p
    fewer_left {p} {q} {r} {t} h k keep c new on =
        fewer (c ∷ members s.a (minus full r)) (members s.a (minus full p)) ((λ j. clash on (minus_is full r c (members-in (minus-alike hf k) c j)).1), members-nodup (minus-alike hf k)) sub
      where
        sub : (x : ℕ) → In x (c ∷ members s.a (minus full r)) → In x (members s.a (minus full p))
        sub x (inl e) = in_members (minus-alike hf h) x (ap (minus full p) e ∙ new)
        sub x (inr j) = let z = minus_is full r x (members-in (minus-alike hf k) x j) in in_members (minus-alike hf h) x (and_on z.0 (off_one (λ e. clash (keep x e) z.1)))

    pub no_more_left : {p q r t : VertexSet} → AlikeSet s p q → AlikeSet s r t → ((w : ℕ) → p w ≡ true → r w ≡ true) → left r ≤ left p
    no_more_left {p} {q} {r} h k keep =
        fewer (members s.a (minus full r)) (members s.a (minus full p)) (members-nodup (minus-alike hf k))
        (λ x j. let z = minus_is full r x (members-in (minus-alike hf k) x j) in in_members (minus-alike hf h) x (and_on z.0 (off_one (λ e. clash (keep x e) z.1))))

    ended : (b : Bounds) (f : ℕ) (flat : List ℕ) (k : ℕ) (p g : VertexSet) → empty b (minus g p) ≡ true → ears_on b adj g f flat k p ≡ eared flat k no_cut
    unfolding ears_on
    ended b zero flat k p g e = refl
    ended b (suc f) flat k p g e = rw e

    all_in : {p q : VertexSet} → AlikeSet s p q → left p ≤ 0 → empty s.a (minus full p) ≡ true
    all_in {p} h i = ⊎_elim (λ e. e) (λ e. let r = some_left (minus-alike hf h) e in let z = in_place r.0 (members s.a (minus full p)) (in_members (minus-alike hf h) r.0 r.1) in absurd (omega arith)) (bool? (empty s.a (minus full p)))

    zero_in : is_cut s.a (cycle s.a adj).cut_by ≡ false → In 0 (cycle s.a adj).path
    zero_in e = subst (λ (l : List ℕ). In 0 l) (sym (cycle-found e).1) (in_right 0 (route s.a cycle_search) (0 ∷ []) (inl refl))

    module _ (all : (w : ℕ) → w < s.n → full w ≡ true) where
      ears-on : (f g k : ℕ) {flat flat' : List ℕ} {p q : VertexSet} → AlikeList s flat flat' → AlikeSet s p q → (w : ℕ) → p w ≡ true → left p ≤ f → left p ≤ g
          → AlikeEared s (ears_on s.a adj full f flat k p) (ears_on s.b adj full' g flat' k q)
      unfolding ears_on
      ears-on zero g k {flat} {flat'} {p} {q} l h w on i j =
          both (AlikeEared s) refl (sym (ended s.b g flat' k q full' (sym (none_left (minus-alike hf h)) ∙ all_in h i))) (record { flat = l; count = refl; cut_by = no_cut_lem })
      ears-on (suc f) zero k {flat} {flat'} {p} {q} l h w on i j =
          both (AlikeEared s) (sym (ended s.a (suc f) flat k p full (all_in h j))) refl (record { flat = l; count = refl; cut_by = no_cut_lem })
      ears-on (suc f) (suc g) k {flat} {flat'} {p} {q} l h w on i j =
          let way = detour-alike (near-alike d h) h in
          known_choice (AlikeEared s) (none_left (minus-alike hf h))
          (λ e. record { flat = l; count = refl; cut_by = no_cut_lem })
          (λ e. known_choice (AlikeEared s) (cut-alike way.cut_by)
          (λ c. record { flat = l; count = refl; cut_by = way.cut_by })
          (λ c. let new = detour-grows (near-alike d h) h w on c in
          let less = fewer_left h (all_alike h way.path) (all_keep s.a p (detour s.a adj (near s.a adj p) p).path) new.0 (and_on (all new.0 new.2) new.3) (on_all s.a p (detour s.a adj (near s.a adj p) p).path new.0 (omega (arith, new.2)) new.1) in
          ears-on f g (k + 1) (add_alike l way.path) (all_alike h way.path) w (all_keep s.a p (detour s.a adj (near s.a adj p) p).path w on) (omega arith) (omega arith)))

      -- EARS
      pub ears-alike : AlikeEared s (ears s.a adj full) (ears s.b adj full')
      unfolding ears
      ears-alike =
          let round = cycle-alike in
          let on = all_alike empty-alike round.path in
          known_choice (AlikeEared s) (cut-alike round.cut_by)
          (λ e. record { flat = end; count = refl; cut_by = round.cut_by })
          (λ e. ears-on s.a.vertices s.b.vertices 1 (add_alike end round.path) on 0 (on_all s.a empty_set (cycle s.a adj).path 0 (omega arith) (zero_in e)) (omega (arith, few_left on)) (omega (arith, few_left on)))
