-- WHAT THE TEST OF LOCAL CONNECTIVITY MEANS: two vertices stay connected whatever k others are removed, or some k part them. Assumes nothing.
use Prim.Native.Nat.{ℕ, zero, suc, ◌≤◌, ◌<◌}
use mathlib.Core.Path.{◌≡◌, refl, sym, ap, subst, ◌∙◌}
use mathlib.Core.Logic.{◌⊎◌, ◌≢◌, inl, inr, ⊎_elim}
use mathlib.Core.Bool.{Bool, true, false, ◌&&◌}
use mathlib.Core.List.{List, [], ◌∷◌, ◌++◌}
use native.Mathlib.Omega.{arith}
use lib.Dec.{eqb}
use lib.ListN.{length, length-append}
use borrow.Author.Tests.{eqb-true, eqb-false}
use Rattle.vertexset.specs.Set.{inserted}
use Rattle.vertexset.specs.declared.VertexSet.{VertexSet}
use Rattle.graph.specs.Rows.{rows_graph}
use Rattle.connectivity.specs.Lists.{In, NoDup}
use Rattle.connectivity.specs.Graph.{Graph, Adj, Walk}
use Rattle.connectivity.specs.Path.{End, vertices}
use Rattle.connectivity.proofs.Lists.{clash, and-true, or-true, all_true, all-false, in_split, in_single, rev_in, in_rev, or-false}
use Rattle.connectivity.proofs.Order.{in_insert, insert_in}
use Rattle.connectivity.proofs.Paths.{end_or_inner, inner_in, inner_of, inner_not_end, along-edge}
use Rattle.connectivity.proofs.Search.{Found}
use Rattle.construction.specs.Sets.{single}
use Rattle.construction.specs.Search.{is_found, route}
use Rattle.construction.proofs.Basics.{Drawn, Sized, On, Asked, Met, Shut, Explored}
use Rattle.construction.proofs.SetLaws.{sized_single, sized_inserted, single-on, on_single, inserted-on, on_inserted, inserted-keep}
use Rattle.construction.proofs.Searching.{explored}
use Rattle.local.specs.Withstands.{between, withstands}
use Rattle.local.proofs.Trying.{tried}
use Rattle.local.proofs.Walking.{along-walk, closed_walk, apart?}

-- some k or fewer vertices, others than the two and the removed ones, leave no walk
pub record Parted (rows : List ℕ) (n u v k : ℕ) (removed : VertexSet) : Type 0 where
  pub X : List ℕ
  pub nodup : NoDup X
  pub few : length X ≤ k
  pub low : (w : ℕ) → In w X → w < n
  pub not_u : ¬ In u X
  pub not_v : ¬ In v X
  pub new : (w : ℕ) → In w X → ¬ On removed w
  pub apart : (Y : List ℕ) → ((w : ℕ) → On removed w ⊎ In w X → In w Y) → ¬ Walk (rows_graph n rows) Y v u

-- ---- what the test says

and-false : (a b : Bool) → a ≡ true → a && b ≡ false → b ≡ false
and-false true b t e = e
and-false false b t e = absurd (clash t refl)

module _ (rows : List ℕ) (u v : ℕ) (removed : VertexSet) where
  true_found : (k : ℕ) → withstands k rows u v removed ≡ true → is_found (between rows u v removed) ≡ true
  unfolding withstands
  true_found zero e = e
  true_found (suc k) e = (and-true (is_found (between rows u v removed)) _ e).0

  true_tried : (k : ℕ) → withstands (suc k) rows u v removed ≡ true → (c : ℕ) → In c (route (between rows u v removed)) → c ≢ u → c ≢ v → withstands k rows u v (inserted removed c) ≡ true
  unfolding withstands
  true_tried k e c m a b = last (all_true (tried k rows u v removed) (route (between rows u v removed)) (and-true (is_found (between rows u v removed)) _ e).1 c m)
    where
      last : tried k rows u v removed c ≡ true → withstands k rows u v (inserted removed c) ≡ true
      last t = ⊎_elim (λ j. absurd (a (eqb-true c u j))) (λ j. ⊎_elim (λ i. absurd (b (eqb-true c v i))) (λ i. i) (or-true (eqb c v) _ j)) (or-true (eqb c u) _ t)

  -- some vertex of the path fails
  false_tried : (k : ℕ) → is_found (between rows u v removed) ≡ true → withstands (suc k) rows u v removed ≡ false
      → (c : ℕ) × In c (route (between rows u v removed)) × (c ≢ u) × (c ≢ v) × (withstands k rows u v (inserted removed c) ≡ false)
  unfolding withstands
  false_tried k t e =
      let r = all-false (tried k rows u v removed) (route (between rows u v removed)) (and-false (is_found (between rows u v removed)) _ t e) in
      let a = or-false (eqb r.0 u) _ r.2 in
      let b = or-false (eqb r.0 v) _ a.1 in
      (r.0, r.1, eqb-false r.0 u a.0, eqb-false r.0 v b.0, b.1)

  zero_found : is_found (between rows u v removed) ≡ true → ¬ (withstands 0 rows u v removed ≡ false)
  unfolding withstands
  zero_found t e = clash t e

module _ (rows : List ℕ) (n : ℕ) (d : Drawn rows n) (u v : ℕ) (lu : u < n) (lv : v < n) (ne : u ≢ v) where
  abbrev G : Graph
  G = rows_graph n rows

  -- whatever k vertices X are removed beside the removed ones, a walk is left
  abbrev pub Kept : ℕ → VertexSet → Type 0
  Kept k removed = (X : List ℕ) → length X ≤ k → ¬ In u X → ¬ In v X → (Y : List ℕ) → ((w : ℕ) → In w Y → On removed w ⊎ In w X) → Walk G Y v u

  module _ (removed : VertexSet) (z : Sized removed) (ou : ¬ On removed u) (ov : ¬ On removed v) where
    asked : Asked n (single v) (single u) removed
    asked = record {
      seeds_sized = sized_single v;
      goals_sized = sized_single u;
      removed-sized = z;
      low = λ w o. rw (single-on v w o) lv;
      no_goal = λ w o k. ne (sym (single-on u w k) ∙ single-on v w o);
      no_removed = λ w o k. ov (rw (single-on v w o) at k);
      goal_stays = λ w o k. ou (rw (single-on u w o) at k);
    }

    outcome : Explored rows n (single v) (single u) removed
    outcome = explored rows n d (single v) (single u) removed asked

    -- a closed set parts the two
    shut : (k : ℕ) → Shut rows n (single v) (single u) removed → Parted rows n u v k removed
    shut k s = record {
      X = [];
      nodup = tt;
      few = omega arith;
      low = λ w h. absurd h;
      not_u = λ h. h;
      not_v = λ h. h;
      new = λ w h. absurd h;
      apart = λ Y i r. clash (closed_walk s.closed (λ w o. i w (inl o)) r (s.closed.seeds v (on_single v (omega (arith, d.low))))) (s.closed.goals u (on_single u (omega (arith, d.low))));
    }

    -- a path from v to u
    module _ (f : Found G (On (single v)) (On (single u)) (On removed)) where
      first_is : f.path.s ≡ v
      first_is = single-on v f.path.s f.seed

      last_is : f.path.t ≡ u
      last_is = single-on u f.path.t f.goal

      inside : (c : ℕ) → In c f.path.inner → (c ≢ u) × (c ≢ v) × (c < n) × (¬ On removed c)
      inside c m = (
        (λ e. inner_not_end f.path f.is_path.nodup c m (inr (e ∙ sym last_is))),
        (λ e. inner_not_end f.path f.is_path.nodup c m (inl (e ∙ sym first_is))),
        low,
        (f.off c m).2,
      )
        where
          low : c < n
          low = let r = along-edge (Adj G) d.simple.symmetric f.path.s f.path.inner f.path.t f.is_path.along c (inner_in c f.path m) in d.simple.low c r.0 r.1

      stands : (Y : List ℕ) → ¬ In u Y → ¬ In v Y → ((c : ℕ) → In c f.path.inner → ¬ In c Y) → Walk G Y v u
      stands Y yu yv yi = subst (λ (x : ℕ). Walk G Y x u) first_is (subst (λ (x : ℕ). Walk G Y f.path.s x) last_is (along-walk G Y f.path.s f.path.inner f.path.t f.is_path.along off))
        where
          off : (w : ℕ) → In w (vertices f.path) → ¬ In w Y
          off w m = ⊎_elim (λ e. end e) (yi w) (end_or_inner f.path w m)
            where
              end : End w f.path → ¬ In w Y
              end (inl e) k = yv (rw (e ∙ first_is) at k)
              end (inr e) k = yu (rw (e ∙ last_is) at k)

    -- what a vertex inside adds to the removed ones
    module _ (c : ℕ) (cu : c ≢ u) (cv : c ≢ v) where
      more_u : ¬ On (inserted removed c) u
      more_u o = ⊎_elim ou (λ e. cu (sym e)) (inserted-on removed c u z o)

      more_v : ¬ On (inserted removed c) v
      more_v o = ⊎_elim ov (λ e. cv (sym e)) (inserted-on removed c v z o)

      more_parted : (k : ℕ) → c < n → ¬ On removed c → Parted rows n u v k (inserted removed c) → Parted rows n u v (suc k) removed
      more_parted k low o r = record {
        X = c ∷ r.X;
        nodup = ((λ m. r.new c m (on_inserted removed c z (omega (arith, d.low)))), r.nodup);
        few = omega (arith, r.few);
        low = λ w m. ⊎_elim (λ e. rw e low) (r.low w) m;
        not_u = λ m. ⊎_elim (λ e. cu (sym e)) r.not_u m;
        not_v = λ m. ⊎_elim (λ e. cv (sym e)) r.not_v m;
        new = λ w m k. ⊎_elim (λ e. o (rw e at k)) (λ j. r.new w j (inserted-keep removed c w z k)) m;
        apart = λ Y i. r.apart Y (λ w m. ⊎_elim (λ j. ⊎_elim (λ y. i w (inl y)) (λ y. i w (inr (inl y))) (inserted-on removed c w z j)) (λ j. i w (inr (inr j))) m);
      }

    module _ (m : Met rows n (single v) (single u) removed) where
      on_route : (c : ℕ) → In c m.found.path.inner → In c (route (between rows u v removed))
      on_route c b = subst (λ (l : List ℕ). In c l) (sym m.same) (in_rev c (vertices m.found.path) (inner_in c m.found.path b))

      route-inside : (c : ℕ) → In c (route (between rows u v removed)) → c ≢ u → c ≢ v → In c m.found.path.inner
      route-inside c b cu cv = inner_of m.found.path c (rev_in c (vertices m.found.path) (subst (λ (l : List ℕ). In c l) m.same b))
          (λ e. ⊎_elim (λ j. cv (j ∙ first_is m.found)) (λ j. cu (j ∙ last_is m.found)) e)

      -- the path is left, or one of X stands inside it
      left : (X Y : List ℕ) → ¬ In u X → ¬ In v X → ((w : ℕ) → In w Y → On removed w ⊎ In w X) → ((c : ℕ) → In c m.found.path.inner → In c X → Walk G Y v u) → Walk G Y v u
      left X Y xu xv i hit = ⊎_elim keeps (λ r. hit r.0 r.1 r.2) (apart? X m.found.path.inner)
        where
          outside : (w : ℕ) → ¬ On removed w → ¬ In w X → ¬ In w Y
          outside w o x y = ⊎_elim o x (i w y)

          keeps : ((c : ℕ) → In c m.found.path.inner → ¬ In c X) → Walk G Y v u
          keeps f = stands m.found Y (outside u ou xu) (outside v ov xv) (λ c l. outside c (inside m.found c l).3 (f c l))

    -- one of X stands inside: the others are one fewer
    hit : (k c : ℕ) → c < n → Kept k (inserted removed c) → (X : List ℕ) → length X ≤ suc k → ¬ In u X → ¬ In v X → In c X
        → (Y : List ℕ) → ((w : ℕ) → In w Y → On removed w ⊎ In w X) → Walk G Y v u
    hit k c low more X h xu xv x Y i = let s = in_split c X x in go s.0 s.1 s.2
      where
        go : (p q : List ℕ) → X ≡ p ++ (c ∷ q) → Walk G Y v u
        go p q e =
            more (p ++ q) (omega (arith, ap length e, length-append p (c ∷ q), length-append p q)) (λ y. xu (back u y)) (λ y. xv (back v y)) Y
            (λ w y. ⊎_elim (λ r. inl (inserted-keep removed c w z r)) (other w) (i w y))
          where
            back : (w : ℕ) → In w (p ++ q) → In w X
            back w y = subst (λ (l : List ℕ). In w l) (sym e) (in_insert w p (c ∷ []) q y)

            other : (w : ℕ) → In w X → On (inserted removed c) w ⊎ In w (p ++ q)
            other w y = ⊎_elim inr (λ r. inl (subst (λ (a : ℕ). On (inserted removed c) a) (sym (in_single w c r)) (on_inserted removed c z (omega (arith, d.low)))))
                (insert_in w p (c ∷ []) q (subst (λ (l : List ℕ). In w l) e y))

  -- WHAT WITHSTANDS k MORE VERTICES: whatever k are removed beside, a walk is left
  pub withstands-true : (k : ℕ) (removed : VertexSet) → Sized removed → ¬ On removed u → ¬ On removed v → withstands k rows u v removed ≡ true → Kept k removed
  withstands-true zero removed z ou ov e X h xu xv Y i =
      ⊎_elim (λ m. left removed z ou ov m X Y xu xv i (λ c b x. absurd (none c X h x))) (λ s. absurd (clash (true_found rows u v removed 0 e) s.not_found)) (outcome removed z ou ov)
    where
      none : (c : ℕ) (l : List ℕ) → length l ≤ 0 → ¬ In c l
      none c [] g y = y
      none c (a ∷ l) g y = omega arith
  withstands-true (suc k) removed z ou ov e X h xu xv Y i =
      ⊎_elim
      (λ m. left removed z ou ov m X Y xu xv i (λ c b x.
      let o = inside removed z ou ov m.found c b in
      hit removed z ou ov k c o.2 (withstands-true k (inserted removed c) (sized_inserted removed c z) (more_u removed z ou ov c o.0 o.1) (more_v removed z ou ov c o.0 o.1)
      (true_tried rows u v removed k e c (on_route removed z ou ov m c b) o.0 o.1)) X h xu xv x Y i))
      (λ s. absurd (clash (true_found rows u v removed (suc k) e) s.not_found))
      (outcome removed z ou ov)

  -- WHAT DOES NOT: some k or fewer leave no walk
  pub withstands-false : (k : ℕ) (removed : VertexSet) → Sized removed → ¬ On removed u → ¬ On removed v → withstands k rows u v removed ≡ false → Parted rows n u v k removed
  withstands-false zero removed z ou ov e = ⊎_elim (λ m. absurd (zero_found rows u v removed m.is_found_lem e)) (shut removed z ou ov 0) (outcome removed z ou ov)
  withstands-false (suc k) removed z ou ov e =
      ⊎_elim
      (λ m.
      let r = false_tried rows u v removed k m.is_found_lem e in
      let o = inside removed z ou ov m.found r.0 (route-inside removed z ou ov m r.0 r.1 r.2 r.3) in
      more_parted removed z ou ov r.0 r.2 r.3 k o.2 o.3
      (withstands-false k (inserted removed r.0) (sized_inserted removed r.0 z) (more_u removed z ou ov r.0 r.2 r.3) (more_v removed z ou ov r.0 r.2 r.3) r.4))
      (shut removed z ou ov (suc k))
      (outcome removed z ou ov)
