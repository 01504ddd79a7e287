-- The link at work: its run in the list of paths, and what is left of it when a path from its first or its last inner vertex is taken. Assumes nothing.
use Rattle.std.specs.Prelude.{Option, None, Some, IfSome, position}
use Rattle.std.specs.List.{prefix_len}
use Rattle.std.proofs.lemmas.List.Sums.{passes_at_first}
use Prim.Native.Nat.{ℕ, zero, suc, ◌+◌, ◌-◌, ◌≤◌, ◌<◌}
use mathlib.Core.Path.{◌≡◌, refl, sym, ap, subst, ◌∙◌}
use mathlib.Core.Bool.{Bool, true, false, cond, not}
use mathlib.Core.Logic.{◌⊎◌, inl, inr, ⊎_elim}
use mathlib.Core.List.{List, [], ◌∷◌, ◌++◌}
use native.Mathlib.Numerals.{add-one}
use native.Mathlib.Omega.{arith}
use native.Mathlib.Decide.{ℕ_discrete}
use lib.Dec.{leb}
use lib.ListN.{length, take, drop, get_or, length-append, length-take, length-drop, get_or-append}
use lib.Seq.{get_or-take, get_or-drop, length-take-le, take_all}
use Rattle.vertexset.specs.Set.{has, inserted, empty_set, count, capacity, none}
use Rattle.vertexset.specs.declared.VertexSet.{VertexSet}
use Rattle.vertexset.proofs.Laws as laws
use Rattle.connectivity.specs.Lists.{In, NoDup}
use Rattle.connectivity.proofs.Lists.{bool?, clash, nodup_count}
use Rattle.construction.specs.Sets.{stop, minus, single, set_with_all, set_of, members, place_of, last_of}
use Rattle.construction.specs.Ears.{path_space, add_path}
use Rattle.construction.specs.Steps.{State, extended, segment, up_to}
use Rattle.construction.proofs.Basics.{Sized, On}
use Rattle.construction.proofs.Finding.{end_high, place_within, place_none}
use Rattle.construction.proofs.Places.{in_place, same_place, segment-place}
use Rattle.construction.proofs.Near.{same_test}
use Rattle.construction.proofs.SetLaws.{sized_empty, sized_inserted, sized_all, sized_minus, sized_single, on_low, minus-on, on_minus, inserted-on, on_inserted, inserted-keep, single-on, on_single, on_all, set_on, on_set, members-in, members-nodup, members-count}
use Rattle.stepping.specs.Code.{Spans, IsNext, Works, Left}
use Rattle.stepping.specs.declared.Work.{Work}
use Rattle.std.proofs.lemmas.Bool.{not-false}
use Rattle.stepping.proofs.Lists.{place_is, place_here, place_turn, placed_at, not_placed}

-- ---- the first place from i on at which a test holds

module _ (p : ℕ → Bool) (l : List ℕ) where
  -- it holds at k, and at no place before
  place_from : (d i k : ℕ) → i + d ≡ k → k < length l → ((m : ℕ) → i ≤ m → m < k → p (get_or l m 0) ≡ false) → p (get_or l k 0) ≡ true → k ≡ i + place_of p (drop i l)
  place_from zero i k e h f t =
      let z : k ≡ i = omega arith in
      z ∙ place_here p l i (omega arith) (subst (λ (m : ℕ). p (get_or l m 0) ≡ true) z t)
  place_from (suc d) i k e h f t =
      place_from d (i + 1) k (omega arith) h (λ m a b. f m (omega arith) b) t ∙ place_turn p l i (omega arith) (f i (omega arith) (omega arith))

  place_low : (i m : ℕ) → i ≤ m → m < i + place_of p (drop i l) → i < length l
  place_low i m a h = omega (arith, place_within p (drop i l), length-drop i l)

  before_place : (d i m : ℕ) → i + d ≡ m → m < i + place_of p (drop i l) → p (get_or l m 0) ≡ false
  before_place zero i m e h =
      let z : i ≡ m = omega arith in
      ⊎_elim (λ t. absurd (omega (arith, place_here p l i (place_low i m (omega arith) h) t))) (λ t. subst (λ (k : ℕ). p (get_or l k 0) ≡ false) z t) (bool? (p (get_or l i 0)))
  before_place (suc d) i m e h =
      ⊎_elim (λ t. absurd (omega (arith, place_here p l i (place_low i m (omega arith) h) t)))
      (λ t. before_place d (i + 1) m (omega arith) (omega (arith, place_turn p l i (place_low i m (omega arith) h) t))) (bool? (p (get_or l i 0)))

place_holds : (p : ℕ → Bool) (l : List ℕ) → place_of p l < length l → p (get_or l (place_of p l) 0) ≡ true
place_holds p l h = rw (place_is p l) (passes_at_first p l 0 (rw (place_is p l) at h))

-- ---- a part of a list, by its places

segment-get : (l : List ℕ) (i j m : ℕ) → i ≤ m → m < j → get_or (segment l i j) (m - i) 0 ≡ get_or l m 0
segment-get l i j m a b =
    let z : i + (m - i) ≡ m = omega arith in
    get_or-take (j - i) (drop i l) (m - i) 0 (omega arith) ∙ get_or-drop i l (m - i) 0 ∙ ap (λ (k : ℕ). get_or l k 0) z

segment-length : (l : List ℕ) (i j : ℕ) → j ≤ length l → length (segment l i j) ≡ j - i
segment-length l i j h = length-take-le (j - i) (drop i l) (omega (arith, length-drop i l))

segment-at : (l : List ℕ) (i j v : ℕ) → In v (segment l i j) → (m : ℕ) × (i ≤ m) × (m < j) × (get_or l m 0 ≡ v)
segment-at l i j v h =
    let r = in_place v (segment l i j) h in
    let n : r.0 < j - i = omega (arith, length-take (j - i) (drop i l)) in
    (i + r.0, omega arith, omega arith, sym (get_or-take (j - i) (drop i l) r.0 0 n ∙ get_or-drop i l r.0 0) ∙ r.2)

segment-once : (l : List ℕ) (i j : ℕ) → j ≤ length l → NoDup (segment l i j) → (m k : ℕ) → i ≤ m → m < j → i ≤ k → k < j → get_or l m 0 ≡ get_or l k 0 → m ≡ k
segment-once l i j h nd m k a b c d e =
    let n = segment-length l i j h in
    let s : m - i ≡ k - i = same_place (segment l i j) nd (m - i) (k - i) (omega arith) (omega arith) (segment-get l i j m a b ∙ e ∙ sym (segment-get l i j k c d)) in
    omega arith

-- as many members as places: nothing stands twice
counted : (l : List ℕ) → count (set_of l).words ≡ length l → NoDup l
counted l e =
    nodup_count ℕ_discrete l (members (set_of l)) (members-nodup (set_of l)) (λ x k. set_on l x (members-in (set_of l) x k)) (end_high _ (length l) (members-count (set_of l) (sized_all empty_set l sized_empty) ∙ e))

same_on : (a b : VertexSet) → Sized a → Sized b → ((v : ℕ) → On a v → On b v) → ((v : ℕ) → On b v → On a v) → a ≡ b
same_on a b h k f g =
    ap (λ (ws : List ℕ). record { words = ws }) (laws.same_members a.words b.words (h.size ∙ sym k.size) h.words k.words (λ v low. same_test _ _ (f v) (g v)))

minus-off : (a b : VertexSet) → Sized a → Sized b → (v : ℕ) → On b v → has (minus a b).words v ≡ false
minus-off a b h k v e = ⊎_elim (λ t. absurd ((minus-on a b h k v t).1 e)) (λ t. t) (bool? (has (minus a b).words v))

-- ---- the run from a place on

-- as many vertices as std's prefix has
run_is : (t : ℕ → Bool) (l : List ℕ) → prefix_len t l ≡ place_of (λ v. not (t v)) l
unfolding place_of
run_is t [] = refl
run_is t (a ∷ l) = go (t a) (run_is t l)
  where
    go : (b : Bool) → prefix_len t l ≡ place_of (λ v. not (t v)) l → cond b (1 + prefix_len t l) 0 ≡ cond (not b) 0 (place_of (λ v. not (t v)) l + 1)
    go true e = omega arith
    go false e = refl

module _ (list : List ℕ) (set : VertexSet) (first : ℕ) {count : ℕ} (e : count ≡ prefix_len (has set.words) (take (length list - first) (drop first list))) where
  run_count : count ≡ prefix_len (has set.words) (drop first list)
  run_count = e ∙ ap (prefix_len (has set.words)) (take_all (length list - first) (drop first list) (omega (arith, length-drop first list)))

  pub run_spans : {none link : VertexSet} → none ≡ empty_set → link ≡ set_with_all none (segment list first (first + count)) → Spans list set (record { first = first; end = first + count; link = link })
  run_spans z q = record { run = ap (λ (k : ℕ). first + k) (run_count ∙ run_is (has set.words) (drop first list)); link = rw z at q }

-- a run that begins at a member is not empty
run_past : (p : ℕ → Bool) (l : List ℕ) (at i : ℕ) → i ≡ at + place_of p (drop at l) → i < length l → i < i + place_of (λ v. not (p v)) (drop i l)
run_past p l at i e h =
    let t : p (get_or l (at + place_of p (drop at l)) 0) ≡ true = subst (λ (v : ℕ). p v ≡ true) (get_or-drop at l (place_of p (drop at l)) 0) (place_holds p (drop at l) (omega (arith, length-drop at l))) in
    omega (arith, place_turn (λ v. not (p v)) l i h (ap (λ (k : ℕ). not (p (get_or l k 0))) e ∙ ap not t))

-- ---- the link at work

module _ (flat : List ℕ) (inner : VertexSet) (at : ℕ) where
  pub none-inner : none inner.words ≡ true → length flat ≤ at + place_of (has inner.words) (drop at flat)
  none-inner e = omega (arith, place_none (has inner.words) (drop at flat) (λ v k. laws.none_has inner.words e v), length-drop at flat)

  -- the list from that place on
  module _ {rest : List ℕ} (r : rest ≡ take (length flat - at) (drop at flat)) where
    rest_is : rest ≡ drop at flat
    rest_is = r ∙ take_all (length flat - at) (drop at flat) (omega (arith, length-drop at flat))

    pub none-found : None ≡ position (has inner.words) rest → length flat ≤ at + place_of (has inner.words) (drop at flat)
    none-found e = omega (arith, not_placed (has inner.words) (drop at flat) (rw rest_is at (sym e)), length-drop at flat)

    -- the run from the first inner vertex on
    pub run_works : {k : ℕ} → Some k ≡ position (has inner.words) rest → (w : Work) → w.first ≡ at + k → Spans flat inner w → IsNext flat inner at w
    run_works {k} h w e s =
        let p = placed_at (has inner.words) (drop at flat) k (rw rest_is at (sym h)) in
        let q : w.first ≡ at + place_of (has inner.words) (drop at flat) = omega (arith, p) in
        record { some = omega (arith, s.run, run_past (has inner.words) flat at w.first q (omega (arith, p, length-drop at flat))); place = q; spans = s }

pub span_low : (flat : List ℕ) (inner : VertexSet) (w : Work) → w.first < w.end → Spans flat inner w → (w.first < length flat) × (w.end ≤ length flat)
span_low flat inner w h s = let r = s.run in omega (arith, place_within (λ v. not (has inner.words v)) (drop w.first flat), length-drop w.first flat)

-- a path that is cut where it reaches the set is a single vertex where it begins in it
up_to-first : (set : VertexSet) (path : List ℕ) → On set (get_or (up_to set path) 0 0) → get_or (up_to set path) 0 0 ≡ last_of (up_to set path)
unfolding place_of last_of
up_to-first set [] h = refl
up_to-first set (a ∷ l) h = go (has set.words a) refl h
  where
    go : (b : Bool) → has set.words a ≡ b → On set (get_or (take (cond b 0 (place_of (has set.words) l + 1) + 1) (a ∷ l)) 0 0)
        → get_or (take (cond b 0 (place_of (has set.words) l + 1) + 1) (a ∷ l)) 0 0 ≡ last_of (take (cond b 0 (place_of (has set.words) l + 1) + 1) (a ∷ l))
    go true e k = refl
    go false e k = absurd (clash (rw (add-one (place_of (has set.words) l + 1)) at k) e)

pub goal_alone : (set : VertexSet) (path : List ℕ) {l : List ℕ} → l ≡ up_to set path → On set (get_or l 0 0) → get_or l 0 0 ≡ last_of l
goal_alone set path e = subst (λ (l : List ℕ). On set (get_or l 0 0) → get_or l 0 0 ≡ last_of l) (sym e) (up_to-first set path)

-- ---- what is left of it: without the place q, its first or its last, the places i to j are the places f to e

record Apart (i j q f e : ℕ) : Type 0 where
  within : (m : ℕ) → f ≤ m → m < e → (i ≤ m) × ((m < j) × (¬ (m ≡ q)))
  others : (m : ℕ) → i ≤ m → m < j → ¬ (m ≡ q) → (f ≤ m) × (m < e)
  before : (m : ℕ) → i ≤ m → m < f → m ≡ q
  start : i ≤ f
  stops : (e ≡ q) ⊎ (e ≡ j)
  taken : (i ≤ q) × (q < j)

no_first : (i j f e : ℕ) → i < j → f ≡ i + 1 → e ≡ j → Apart i j i f e
no_first i j f e h a b = record {
  within = λ m c d. (omega arith, (omega arith, λ k. omega arith));
  others = λ m c d n. let k : ¬ (m ≡ i) = n in omega arith;
  before = λ m c d. omega arith;
  start = omega arith;
  stops = inr b;
  taken = omega arith;
}

no_last : (i j f e : ℕ) → i < j → f ≡ i → e ≡ j - 1 → Apart i j (j - 1) f e
no_last i j f e h a b = record {
  within = λ m c d. (omega arith, (omega arith, λ k. omega arith));
  others = λ m c d n. let k : ¬ (m ≡ j - 1) = n in omega arith;
  before = λ m c d. omega arith;
  start = omega arith;
  stops = inl b;
  taken = omega arith;
}

-- the test holds at all its places but q, and not behind them
module _ (p : ℕ → Bool) (l : List ℕ) (i j q f e : ℕ) (a : Apart i j q f e) (up : f < e) (low : j < length l)
    (stays : (m : ℕ) → i ≤ m → m < j → ¬ (m ≡ q) → p (get_or l m 0) ≡ true) (gone : p (get_or l q 0) ≡ false) (off : p (get_or l j 0) ≡ false) where
  holds : (m : ℕ) → f ≤ m → m < e → p (get_or l m 0) ≡ true
  holds m c d = let r = a.within m c d in stays m r.0 r.1.0 r.1.1

  ends : p (get_or l e 0) ≡ false
  ends = ⊎_elim (λ z. subst (λ (k : ℕ). p (get_or l k 0) ≡ false) (sym z) gone) (λ z. subst (λ (k : ℕ). p (get_or l k 0) ≡ false) (sym z) off) a.stops

  end_low : e ≤ j
  end_low = let t = a.taken in ⊎_elim (λ z. omega arith) (λ z. omega arith) a.stops

  next_place : f ≡ i + place_of p (drop i l)
  next_place =
      let s = a.start in
      let n = end_low in
      place_from p l (f - i) i f (omega arith) (omega arith) (λ m c d. subst (λ (k : ℕ). p (get_or l k 0) ≡ false) (sym (a.before m c d)) gone) (holds f (omega arith) up)

  next-end : e ≡ f + place_of (λ v. not (p v)) (drop f l)
  next-end = let n = end_low in place_from (λ v. not (p v)) l (e - f) f e (omega arith) (omega arith) (λ m c d. ap not (holds m c d)) (ap not ends)

-- the paths that were there stay where they are
kept_at : (flat path : List ℕ) (m : ℕ) → m < length flat → get_or (add_path flat path) m 0 ≡ get_or flat m 0
kept_at flat path m h = go (leb (length flat + length (stop ∷ path)) path_space)
  where
    go : (b : Bool) → get_or (cond b (flat ++ (stop ∷ path)) flat) m 0 ≡ get_or flat m 0
    go true = get_or-append flat (stop ∷ path) 0 m h
    go false = refl

longer : (flat path : List ℕ) → length flat ≤ length (add_path flat path)
longer flat path = go (leb (length flat + length (stop ∷ path)) path_space)
  where
    go : (b : Bool) → length flat ≤ length (cond b (flat ++ (stop ∷ path)) flat)
    go true = omega (arith, length-append flat (stop ∷ path))
    go false = omega arith

-- the build's vertices, its branch vertices and its inner vertices with the path
abbrev branch_with : State → List ℕ → VertexSet
branch_with st path = inserted (inserted st.branch (get_or path 0 0)) (last_of path)

abbrev inner_with : State → List ℕ → VertexSet
inner_with st path = minus (set_with_all st.built path) (branch_with st path)

module _ (st : State) (sb : Sized st.branch) (su : Sized st.built) (w : Work) (up : w.first < w.end) (s : Spans st.flat (minus st.built st.branch) w) where
  fits : (w.first < length st.flat) × (w.end ≤ length st.flat)
  fits = span_low st.flat (minus st.built st.branch) w up s

  inside : (m : ℕ) → w.first ≤ m → m < w.end → On (minus st.built st.branch) (get_or st.flat m 0)
  inside m a b =
      not-false _ (before_place (λ v. not (has (minus st.built st.branch).words v)) st.flat (m - w.first) w.first m (omega arith) (subst (λ (k : ℕ). m < k) s.run b))

  vertex-low : (m : ℕ) → w.first ≤ m → m < w.end → get_or st.flat m 0 < capacity
  vertex-low m a b = on_low (minus st.built st.branch) (get_or st.flat m 0) (sized_minus st.built st.branch su sb) (inside m a b)

  in_run : (m : ℕ) → w.first ≤ m → m < w.end → On (set_of (segment st.flat w.first w.end)) (get_or st.flat m 0)
  in_run m a b =
      on_set (segment st.flat w.first w.end) (get_or st.flat m 0) (vertex-low m a b) (segment-place st.flat w.first w.end m a b (omega (arith, fits)))

  module _ (path : List ℕ) (goal : On w.link (get_or path 0 0) → get_or path 0 0 ≡ last_of path) (r : Work) (l : Left st.flat st.branch w (last_of path) r)
      (q : ℕ) (x : last_of path ≡ get_or st.flat q 0) (a : Apart w.first w.end q r.first r.end) where
    once : NoDup (segment st.flat w.first w.end)
    once = counted (segment st.flat w.first w.end) (ap (λ (k : VertexSet). count k.words) (sym s.link) ∙ l.once ∙ sym (segment-length st.flat w.first w.end fits.1))

    other : (m : ℕ) → w.first ≤ m → m < w.end → ¬ (m ≡ q) → ¬ (get_or st.flat m 0 ≡ last_of path)
    other m b c n e = n (segment-once st.flat w.first w.end fits.1 once m q b c a.taken.0 a.taken.1 (e ∙ x))

    taken-low : last_of path < capacity
    taken-low = subst (λ (v : ℕ). v < capacity) (sym x) (vertex-low q a.taken.0 a.taken.1)

    sized_one : Sized (inserted st.branch (get_or path 0 0))
    sized_one = sized_inserted st.branch (get_or path 0 0) sb

    sized_branch : Sized (branch_with st path)
    sized_branch = sized_inserted (inserted st.branch (get_or path 0 0)) (last_of path) sized_one

    sized_built : Sized (set_with_all st.built path)
    sized_built = sized_all st.built path su

    -- another one becomes no branch vertex
    not_branch : (m : ℕ) → w.first ≤ m → m < w.end → ¬ (m ≡ q) → ¬ On (branch_with st path) (get_or st.flat m 0)
    not_branch m b c n k =
        ⊎_elim
        (λ y. ⊎_elim (λ z. (minus-on st.built st.branch su sb (get_or st.flat m 0) (inside m b c)).1 z)
        (λ z. other m b c n (z ∙ goal (subst (λ (v : ℕ). On w.link v) z (subst (λ (k : VertexSet). On k (get_or st.flat m 0)) (sym s.link) (in_run m b c)))))
        (inserted-on st.branch (get_or path 0 0) (get_or st.flat m 0) sb y))
        (λ z. other m b c n z) (inserted-on (inserted st.branch (get_or path 0 0)) (last_of path) (get_or st.flat m 0) sized_one k)

    at_place : (m : ℕ) → m < length st.flat → (b : Bool) → has (inner_with st path).words (get_or st.flat m 0) ≡ b → has (inner_with st path).words (get_or (add_path st.flat path) m 0) ≡ b
    at_place m h b e = ap (λ (v : ℕ). has (inner_with st path).words v) (kept_at st.flat path m h) ∙ e

    stays : (m : ℕ) → w.first ≤ m → m < w.end → ¬ (m ≡ q) → has (inner_with st path).words (get_or (add_path st.flat path) m 0) ≡ true
    stays m b c n =
        at_place m (omega (arith, fits)) true
        (on_minus (set_with_all st.built path) (branch_with st path) sized_built sized_branch (get_or st.flat m 0)
        (on_all st.built path (get_or st.flat m 0) su (vertex-low m b c) (inl (minus-on st.built st.branch su sb (get_or st.flat m 0) (inside m b c)).0)) (not_branch m b c n))

    gone : has (inner_with st path).words (get_or (add_path st.flat path) q 0) ≡ false
    gone =
        at_place q (omega (arith, fits, a.taken)) false
        (ap (λ (v : ℕ). has (inner_with st path).words v) (sym x)
        ∙ minus-off (set_with_all st.built path) (branch_with st path) sized_built sized_branch (last_of path) (on_inserted (inserted st.branch (get_or path 0 0)) (last_of path) sized_one taken-low))

    off : has (inner_with st path).words (get_or (add_path st.flat path) w.end 0) ≡ false
    off =
        at_place w.end l.low false
        (minus-off (set_with_all st.built path) (branch_with st path) sized_built sized_branch (get_or st.flat w.end 0)
        (inserted-keep (inserted st.branch (get_or path 0 0)) (last_of path) _ sized_one (inserted-keep st.branch (get_or path 0 0) _ sb l.behind)))

    sized_run : (k : List ℕ) → Sized (set_of k)
    sized_run k = sized_all empty_set k sized_empty

    out_of : (v : ℕ) → On (minus (set_of (segment st.flat w.first w.end)) (single (last_of path))) v → On (set_of (segment (add_path st.flat path) r.first r.end)) v
    out_of v k =
        let t = minus-on (set_of (segment st.flat w.first w.end)) (single (last_of path)) (sized_run _) (sized_single (last_of path)) v k in
        let m = segment-at st.flat w.first w.end v (set_on (segment st.flat w.first w.end) v t.0) in
        let n : ¬ (m.0 ≡ q) = λ z. t.1 (subst (λ (y : ℕ). On (single (last_of path)) y) (x ∙ ap (λ (y : ℕ). get_or st.flat y 0) (sym z) ∙ m.3) (on_single (last_of path) taken-low)) in
        let o = a.others m.0 m.1 m.2 n in
        let h : m.0 < length st.flat = omega (arith, fits) in
        let z : get_or (add_path st.flat path) m.0 0 ≡ v = kept_at st.flat path m.0 h ∙ m.3 in
        on_set (segment (add_path st.flat path) r.first r.end) v (subst (λ (y : ℕ). y < capacity) m.3 (vertex-low m.0 m.1 m.2))
        (subst (λ (y : ℕ). In y (segment (add_path st.flat path) r.first r.end)) z (segment-place (add_path st.flat path) r.first r.end m.0 o.0 o.1 (omega (arith, longer st.flat path))))

    back_in : (v : ℕ) → On (set_of (segment (add_path st.flat path) r.first r.end)) v → On (minus (set_of (segment st.flat w.first w.end)) (single (last_of path))) v
    back_in v k =
        let m = segment-at (add_path st.flat path) r.first r.end v (set_on (segment (add_path st.flat path) r.first r.end) v k) in
        let o = a.within m.0 m.1 m.2 in
        let z : get_or st.flat m.0 0 ≡ v = sym (kept_at st.flat path m.0 (omega (arith, fits, o.1.0))) ∙ m.3 in
        on_minus (set_of (segment st.flat w.first w.end)) (single (last_of path)) (sized_run _) (sized_single (last_of path)) v
        (subst (λ (y : ℕ). On (set_of (segment st.flat w.first w.end)) y) z (in_run m.0 o.0 o.1.0))
        (λ y. other m.0 o.0 o.1.0 o.1.1 (z ∙ single-on (last_of path) v y))

    link_left : r.link ≡ set_of (segment (add_path st.flat path) r.first r.end)
    link_left =
        l.link ∙ ap (λ (k : VertexSet). minus k (single (last_of path))) s.link
        ∙ same_on (minus (set_of (segment st.flat w.first w.end)) (single (last_of path))) (set_of (segment (add_path st.flat path) r.first r.end)) (sized_minus _ _ (sized_run _) (sized_single (last_of path))) (sized_run _) out_of back_in

    shorter : IsNext (add_path st.flat path) (inner_with st path) w.first r
    shorter =
        let low : w.end < length (add_path st.flat path) = omega (arith, l.low, longer st.flat path) in
        record {
          some = l.some;
          place = next_place (has (inner_with st path).words) (add_path st.flat path) w.first w.end q r.first r.end a l.some low stays gone off;
          spans = record { run = next-end (has (inner_with st path).words) (add_path st.flat path) w.first w.end q r.first r.end a l.some low stays gone off; link = link_left };
        }

  pub left_works : (path : List ℕ) → (On w.link (get_or path 0 0) → get_or path 0 0 ≡ last_of path) → (work : Option Work) → IfSome work (λ r. Left st.flat st.branch w (last_of path) r) → Works (extended st path w.first) work
  left_works path goal None h = tt
  left_works path goal (Some r) l =
      ⊎_elim (λ p. shorter path goal r l w.first p.0 (no_first w.first w.end r.first r.end up p.1.0 p.1.1))
      (λ p. shorter path goal r l (w.end - 1) p.0 (no_last w.first w.end r.first r.end up p.1.0 p.1.1)) l.places
