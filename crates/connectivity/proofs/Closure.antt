-- The function `connectivity` gives the number of the definition.
use mathlib.Core.Path.{refl, ◌≡◌, ap, ◌∙◌, subst}
use mathlib.Core.Logic.{⊎_elim, inl, inr, ◌≢◌}
use mathlib.Core.List.{List, ◌++◌, [], ◌∷◌}
use mathlib.Core.Bool.{Bool, not, ◌&&◌, true, false, cond}
use Prim.Native.Nat.{ℕ, ◌<◌, zero, suc, ◌+◌, min}
use native.Mathlib.Omega.{arith}
use native.Mathlib.Decide.{ℕ_discrete}
use lib.ListN.{length, length-append}
use Rattle.connectivity.specs.Lists.{member, any, In, below, NoDup, select, all}
use Rattle.connectivity.specs.Graph.{Graph, Adj, Walk, hop, stay, Simple, Remaining, AllConnected, HasConnectivity, Separator}
use Rattle.connectivity.specs.Connectivity.{frontier, closure, all_connected, reaches_all, reached_from, without_two, connectivity, without_one}
use Rattle.connectivity.proofs.Lists.{select_in, in_below, clash, member-out, any-true, in_select, below_in, out_member, true_any, nodup_append, select-nodup, nodup_below, in_append, at_most, in_right, either, in?, in_member, in_single, member-in, all_true, all-false, in_two_swap}
use Rattle.connectivity.proofs.Walks.{walk_trans, walk_back, walk_wider}
use Rattle.connectivity.proofs.Edges.{edge-high}
use Rattle.connectivity.proofs.Separators.{no_separator_0, no_separator_1, separator_1, separator_2, has-0, separator_0, has_1, has-2, has-3, no_separator_2, connectivity-unique}

module _ (g : Graph) (X : List ℕ) where
  abbrev open? : List ℕ → ℕ → Bool
  open? T v = not (member v X) && (not (member v T) && any (λ u. g.adj u v) T)

  frontier-in : (T : List ℕ) (v : ℕ) → In v (frontier g X T) → (v < g.n) × (¬ In v X) × (¬ In v T) × ((u : ℕ) × In u T × Adj g u v)
  frontier-in T v h =
      let r = select_in (open? T) (below g.n) v h in
      go (member v X) refl (member v T) refl r.1 (in_below g.n v r.0)
    where
      go : (a : Bool) → member v X ≡ a → (b : Bool) → member v T ≡ b → not a && (not b && any (λ u. g.adj u v) T) ≡ true → v < g.n → (v < g.n) × (¬ In v X) × (¬ In v T) × ((u : ℕ) × In u T × Adj g u v)
      go true i b j e l = absurd (clash e refl)
      go false i true j e l = absurd (clash e refl)
      go false i false j e l = (l, member-out v X i, member-out v T j, any-true (λ u. g.adj u v) T e)

  in_frontier : (T : List ℕ) (u v : ℕ) → v < g.n → ¬ In v X → ¬ In v T → In u T → Adj g u v → In v (frontier g X T)
  in_frontier T u v l a b hu k = in_select (open? T) (below g.n) v (below_in g.n v l) (rw (out_member v X a, out_member v T b) (true_any (λ u. g.adj u v) T u hu k))

  abbrev Fair : List ℕ → Type 0
  Fair T = NoDup T × ((w : ℕ) → In w T → w < g.n)

  fair_step : (T : List ℕ) → Fair T → Fair (frontier g X T ++ T)
  fair_step T t = (
    nodup_append (frontier g X T) T (select-nodup (open? T) (below g.n) (nodup_below g.n)) t.0 (λ v h. (frontier-in T v h).2),
    λ w h. ⊎_elim (λ k. (frontier-in T w k).0) (t.1 w) (in_append w (frontier g X T) T h),
  )

  -- enough layers close the set
  still : (f : ℕ) (T : List ℕ) → closure g X f [] T ≡ T
  still zero T = refl
  still (suc f) T = refl

  closed : (f v : ℕ) (F T : List ℕ) → Fair (v ∷ (F ++ T)) → g.n < length (v ∷ (F ++ T)) + f → frontier g X (closure g X f (v ∷ F) T) ≡ []
  closed zero v F T t h = absurd (omega (arith, at_most g.n (v ∷ (F ++ T)) t.0 t.1))
  closed (suc f) v F T t h = go (frontier g X (v ∷ (F ++ T))) refl (λ w G. closed f w G (v ∷ (F ++ T)))
    where
      go : (N : List ℕ) → frontier g X (v ∷ (F ++ T)) ≡ N
          → ((w : ℕ) (G : List ℕ) → Fair (w ∷ (G ++ (v ∷ (F ++ T)))) → g.n < length (w ∷ (G ++ (v ∷ (F ++ T)))) + f → frontier g X (closure g X f (w ∷ G) (v ∷ (F ++ T))) ≡ [])
          → frontier g X (closure g X f N (v ∷ (F ++ T))) ≡ []
      go [] e ih = ap (frontier g X) (still f (v ∷ (F ++ T))) ∙ e
      go (w ∷ G) e ih = ih w G (subst (λ (N : List ℕ). Fair (N ++ (v ∷ (F ++ T)))) e (fair_step (v ∷ (F ++ T)) t)) (omega (arith, length-append G (v ∷ (F ++ T))))

  closure-keeps : (f : ℕ) (F T : List ℕ) (w : ℕ) → In w (F ++ T) → In w (closure g X f F T)
  closure-keeps zero F T w h = h
  closure-keeps (suc f) [] T w h = h
  closure-keeps (suc f) (v ∷ F) T w h = closure-keeps f (frontier g X (v ∷ (F ++ T))) (v ∷ (F ++ T)) w (in_right w (frontier g X (v ∷ (F ++ T))) (v ∷ (F ++ T)) h)

  -- what is in the closure is reached by a walk, and a walk does not leave it
  abbrev Walked : ℕ → List ℕ → Type 0
  Walked s T = (w : ℕ) → In w T → Walk g X s w × (¬ In w X)

  closure-walk : (s f : ℕ) (F T : List ℕ) → Walked s (F ++ T) → Walked s (closure g X f F T)
  closure-walk s zero F T q = q
  closure-walk s (suc f) [] T q = q
  closure-walk s (suc f) (v ∷ F) T q = closure-walk s f (frontier g X (v ∷ (F ++ T))) (v ∷ (F ++ T)) (λ w k. ⊎_elim (more w) (q w) (in_append w (frontier g X (v ∷ (F ++ T))) (v ∷ (F ++ T)) k))
    where
      more : (w : ℕ) → In w (frontier g X (v ∷ (F ++ T))) → Walk g X s w × (¬ In w X)
      more w k = let r = frontier-in (v ∷ (F ++ T)) w k in let u = r.3 in let p = q u.0 u.1 in (walk_trans p.0 (hop u.2 p.1 r.1 stay), r.1)

  walk_stays : (T : List ℕ) → Simple g → frontier g X T ≡ [] → {u v : ℕ} → Walk g X u v → In u T → In v T
  walk_stays T p e stay h = h
  walk_stays T p e (hop {u = u} {v = v} k a b j) h = walk_stays T p e j (⊎_elim (λ i. i) (λ i. absurd (subst (λ (F : List ℕ). In v F) e (in_frontier T u v (edge-high g p u v k) b i h k))) (either (in? v T)))

  remaining-in : (v : ℕ) → In v (select (λ v. not (member v X)) (below g.n)) → Remaining g X v
  remaining-in v h = let r = select_in (λ v. not (member v X)) (below g.n) v h in (in_below g.n v r.0, λ k. clash r.1 (ap not (in_member v X k)))

  in_remaining : (v : ℕ) → Remaining g X v → In v (select (λ v. not (member v X)) (below g.n))
  in_remaining v h = in_select (λ v. not (member v X)) (below g.n) v (below_in g.n v h.0) (ap not (out_member v X h.1))

  module _ (p : Simple g) where
    pub connected_true : all_connected g X ≡ true → AllConnected g X
    connected_true e u v hu hv = go (select (λ v. not (member v X)) (below g.n)) e remaining-in (in_remaining u hu) (in_remaining v hv)
      where
        go : (l : List ℕ) → reaches_all g X l ≡ true → ((v : ℕ) → In v l → Remaining g X v) → In u l → In v l → Walk g X u v
        go [] e f a b = absurd a
        go (s ∷ l) e f a b = walk_trans (walk_back p (from u a)) (from v b)
          where
            first : (x : ℕ) → In x (s ∷ []) → Walk g X s x × (¬ In x X)
            first x i = rw (in_single x s i) (stay, (f s (inl refl)).1)

            from : (w : ℕ) → In w (s ∷ l) → Walk g X s w
            from w (inl k) = rw k stay
            from w (inr k) = (closure-walk s g.n (s ∷ []) [] first w (member-in w (reached_from g X s) (all_true (λ v. member v (reached_from g X s)) l e w k))).0

    pub connected_false : all_connected g X ≡ false → ¬ AllConnected g X
    connected_false e a = go (select (λ v. not (member v X)) (below g.n)) e remaining-in
      where
        go : (l : List ℕ) → reaches_all g X l ≡ false → ((v : ℕ) → In v l → Remaining g X v) → ⊥
        go [] e f = clash refl e
        go (s ∷ l) e f =
            let r = all-false (λ v. member v (reached_from g X s)) l e in
            let T = reached_from g X s in
            let low = (f s (inl refl)).0 in
            member-out r.0 T r.2 (walk_stays T p (closed g.n s [] [] (((λ k. k), tt), λ w h. omega (arith, in_single w s h, low)) (omega arith)) (a s r.0 (f s (inl refl)) (f r.0 (inr r.1))) (closure-keeps g.n (s ∷ []) [] s (inl refl)))

-- THE FUNCTION AND THE DEFINITION AGREE.
module _ (g : Graph) (p : Simple g) where
  two_connected : without_two g ≡ true → (c d : ℕ) → c < g.n → d < g.n → c ≢ d → AllConnected g (c ∷ (d ∷ []))
  two_connected e c d hc hd ne = go (ℕ_discrete (min c d) d)
    where
      test : (c d : ℕ) → c < g.n → d < c → AllConnected g (c ∷ (d ∷ []))
      test c d hc h = connected_true g (c ∷ (d ∷ [])) p (all_true (λ d. all_connected g (c ∷ (d ∷ []))) (below c) (all_true (λ c. all (λ d. all_connected g (c ∷ (d ∷ []))) (below c)) (below g.n) e c (below_in g.n c hc)) d (below_in c d h))

      go : Dec (min c d ≡ d) → AllConnected g (c ∷ (d ∷ []))
      go (yes k) = test c d hc (omega arith)
      go (no k) = λ u v hu hv. walk_wider (in_two_swap c d) (test d c hd (omega arith) u v (hu.0, λ k. hu.1 (in_two_swap d c u k)) (hv.0, λ k. hv.1 (in_two_swap d c v k)))

  pub connectivity-has : HasConnectivity g (connectivity g)
  connectivity-has = go (all_connected g []) refl (without_one g) refl (without_two g) refl
    where
      no_0 : all_connected g [] ≡ true → ¬ Separator g 0
      no_0 e = no_separator_0 g (connected_true g [] p e)

      no_1 : without_one g ≡ true → ¬ Separator g 1
      no_1 e = no_separator_1 g (λ c h. connected_true g (c ∷ []) p (all_true (λ c. all_connected g (c ∷ [])) (below g.n) e c (below_in g.n c h)))

      some_1 : without_one g ≡ false → Separator g 1
      some_1 e = let r = all-false (λ c. all_connected g (c ∷ [])) (below g.n) e in separator_1 g r.0 (in_below g.n r.0 r.1) (connected_false g (r.0 ∷ []) p r.2)

      some_2 : without_two g ≡ false → Separator g 2
      some_2 e =
          let r = all-false (λ c. all (λ d. all_connected g (c ∷ (d ∷ []))) (below c)) (below g.n) e in
          let s = all-false (λ d. all_connected g (r.0 ∷ (d ∷ []))) (below r.0) r.2 in
          let c_low = in_below g.n r.0 r.1 in
          let d_low = in_below r.0 s.0 s.1 in
          separator_2 g r.0 s.0 c_low (omega arith) (λ k. omega arith) (connected_false g (r.0 ∷ (s.0 ∷ [])) p s.2)

      go : (a : Bool) → all_connected g [] ≡ a → (b : Bool) → without_one g ≡ b → (c : Bool) → without_two g ≡ c → HasConnectivity g (cond a (cond b (cond c 3 2) 1) 0)
      go false i b j c k = has-0 g (separator_0 g (connected_false g [] p i))
      go true i false j c k = has_1 g (no_0 i) (some_1 j)
      go true i true j false k = has-2 g (no_0 i) (no_1 j) (some_2 k)
      go true i true j true k = has-3 g (no_0 i) (no_1 j) (no_separator_2 g (two_connected k))

  pub has-connectivity : (k : ℕ) → HasConnectivity g k → k ≡ connectivity g
  has-connectivity k f = connectivity-unique g k (connectivity g) f connectivity-has

  pub connectivity-is : (k : ℕ) → k ≡ connectivity g → HasConnectivity g k
  connectivity-is k e = rw e connectivity-has
