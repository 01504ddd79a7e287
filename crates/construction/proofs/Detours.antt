-- A way out of a set of vertices and back, and a cycle through vertex 0: each is found, or at most one vertex cuts the graph.
use Prim.Native.Nat.{ℕ, suc, ◌≤◌, ◌<◌}
use mathlib.Core.Path.{◌≡◌, refl, sym, ap, subst, ◌∙◌}
use mathlib.Core.Bool.{Bool, true, false, cond, not}
use mathlib.Core.Logic.{◌⊎◌, inl, inr, ⊎_elim, ◌≢◌}
use mathlib.Core.List.{List, [], ◌∷◌, ◌++◌}
use native.Mathlib.Omega.{arith}
use native.Mathlib.Decide.{ℕ_discrete}
use lib.Dec.{ltb}
use lib.ListN.{length}
use borrow.Author.Tests.{lt-ltb, ltb-true, ltb-false}
use Rattle.vertexset.specs.Set.{has, empty_set, count, none, capacity}
use Rattle.vertexset.specs.declared.VertexSet.{VertexSet}
use Rattle.graph.specs.Rows.{row_of, adjacent_in, rows_graph}
use Rattle.connectivity.specs.Lists.{In, below}
use Rattle.connectivity.specs.Graph.{Adj}
use Rattle.connectivity.specs.Path.{Path, link, vertices, IsPath}
use Rattle.connectivity.proofs.Lists.{rev, fewer, beside, clash, bool?, nodup_below, length_below, in_below}
use Rattle.connectivity.proofs.Paths.{end_or_inner}
use Rattle.connectivity.proofs.Edges.{edge-high, edge-differ}
use Rattle.construction.specs.Sets.{minus, common, single, members, least, empty}
use Rattle.construction.specs.Search.{Reach, explore, is_found, route, reached}
use Rattle.construction.specs.Ears.{Cut, cut, no_cut, is_cut, Found, found, failed, answered, near, way_out, back_from, detour, cycle}
use Rattle.construction.specs.Certificate.{full_set}
use Rattle.construction.proofs.Basics.{Drawn, Sized, On, IsCut, Asked, Met, Shut}
use Rattle.construction.proofs.SetLaws.{sized_empty, sized_minus, sized_single, sized_row, sized_all, on_low, minus-on, on_minus, common-on, on_common, empty-on, single-on, on_single, full_on, members-in, in_members, members-nodup, members-count, least_on, least_first, least-none, empty-some, not_empty, row_on, on_row}
use Rattle.construction.proofs.Near.{sized_near, near_on, on_near}
use Rattle.construction.proofs.Searching.{explored}

-- at most one vertex cuts
pub record OneCut (rows : List ℕ) (n : ℕ) (c : Cut) : Type 0 where
  pub is : IsCut rows n c
  pub one : length (members c.removed) ≤ 1

-- a path from x over new vertices to y, listed from y
pub record OutAndBack (rows : List ℕ) (n : ℕ) (set : VertexSet) (f : Found) : Type 0 where
  pub not_cut : is_cut f.cut_by ≡ false
  pub x : ℕ
  pub y : ℕ
  pub q : List ℕ
  pub x_on : On set x
  pub y_on : On set y
  pub is_path : IsPath (Adj (rows_graph n rows)) (link x q y)
  pub some : 0 < length q
  pub new : (w : ℕ) → In w q → ¬ On set w
  pub same : f.path ≡ rev (vertices (link x q y))

abbrev pub Detoured : List ℕ → ℕ → VertexSet → Type 0
Detoured rows n set = OutAndBack rows n set (detour rows (near rows set) set)

abbrev pub DetourCut : List ℕ → ℕ → VertexSet → Type 0
DetourCut rows n set = OneCut rows n (detour rows (near rows set) set).cut_by

abbrev pub DetourLaw : List ℕ → ℕ → VertexSet → Type 0
DetourLaw rows n set = Detoured rows n set ⊎ DetourCut rows n set

-- a path P between two neighbours of 0, listed from its end, and then 0
pub record ThroughZero (rows : List ℕ) (n : ℕ) (f : Found) : Type 0 where
  pub not_cut : is_cut f.cut_by ≡ false
  pub P : Path
  pub is_path : IsPath (Adj (rows_graph n rows)) P
  pub from : P.s ≡ least (row_of rows 0)
  pub ks : Adj (rows_graph n rows) 0 P.s
  pub kt : Adj (rows_graph n rows) 0 P.t
  pub off : ¬ In 0 (vertices P)
  pub inner_off : (w : ℕ) → In w P.inner → ¬ Adj (rows_graph n rows) 0 w
  pub same : f.path ≡ rev (vertices P) ++ (0 ∷ [])

abbrev pub Cycled : List ℕ → ℕ → Type 0
Cycled rows n = ThroughZero rows n (cycle rows)

abbrev pub CycleCut : List ℕ → ℕ → Type 0
CycleCut rows n = OneCut rows n (cycle rows).cut_by

abbrev pub CycleLaw : List ℕ → ℕ → Type 0
CycleLaw rows n = Cycled rows n ⊎ CycleCut rows n

pub no_cut_lem : is_cut no_cut ≡ false
unfolding none
no_cut_lem = refl

-- the two answers of a search
pub answer_found : (r : Reach) (removed : VertexSet) (more : List ℕ) → is_found r ≡ true → answered r removed more ≡ found (route r ++ more)
answer_found r removed more e = ap (λ (b : Bool). cond b (found (route r ++ more)) (failed removed (reached r removed))) e

pub answer_failed : (r : Reach) (removed : VertexSet) (more : List ℕ) → is_found r ≡ false → answered r removed more ≡ failed removed (reached r removed)
answer_failed r removed more e = ap (λ (b : Bool). cond b (found (route r ++ more)) (failed removed (reached r removed))) e

-- A SEARCH THAT FOUND NOTHING IS A CUT, where a seed and a goal are vertices and at most two vertices were removed
pub shut_cut : (rows : List ℕ) (n : ℕ) (seeds goals removed : VertexSet) → Asked n seeds goals removed → Shut rows n seeds goals removed
    → ((w : ℕ) → On removed w → w < n) → length (members removed) ≤ 2 → (s : ℕ) → On seeds s → (v : ℕ) → On goals v → v < n
    → IsCut rows n (cut removed (reached (explore rows seeds goals removed) removed))
shut_cut rows n seeds goals removed a t low few s hs v hv lv = record {
  is_cut_lem = ap not (not_empty (reached r removed) s side-sized (ap (λ (p : ℕ → Bool). p s) (sym t.same) ∙ t.closed.seeds s hs));
  removed-sized = a.removed-sized;
  side-sized = side-sized;
  low = low;
  side-low = t.low;
  few = few;
  separated = record {
    side = t.closed.side;
    out = λ w h. t.closed.gone w (members-in removed w h);
    closed = λ u w e k no. t.closed.closed u w e k (λ h. no (in_members removed w a.removed-sized h));
    w = s;
    w_low = a.low s hs;
    w_in = t.closed.seeds s hs;
    v = v;
    v_left = (lv, λ h. a.goal_stays v hv (members-in removed v h));
    v_out = t.closed.goals v hv;
  };
  same_side = t.same;
}
  where
    r : Reach
    r = explore rows seeds goals removed

    side-sized : Sized (reached r removed)
    side-sized = sized_minus r.shut removed t.sized a.removed-sized

-- numbers alone: omega is slow beside sets
one_two : (k : ℕ) → k ≤ 1 → k ≤ 2
one_two k h = omega arith

pub low_capacity : (n w : ℕ) → n ≤ capacity → w < n → w < capacity
low_capacity n w h k = omega arith

at_most_of : (k c m : ℕ) → k ≡ c → ltb c (suc m) ≡ true → k ≤ m
at_most_of k c m i e = omega (arith, ltb-true c (suc m) e)

at_least_of : (k c m : ℕ) → k ≡ c → ltb c m ≡ false → m ≤ k
at_least_of k c m i e = omega (arith, ltb-false c m e)

one_left : (k l n : ℕ) → k ≤ 2 → 4 ≤ n → l ≡ n → suc k < l
one_left k l n h big e = omega arith

pub full_sized : (n : ℕ) → Sized (full_set n)
full_sized n = sized_all empty_set (below n) sized_empty

pub single-members : (x : ℕ) → length (members (single x)) ≤ 1
single-members x = fewer (members (single x)) (x ∷ []) (members-nodup (single x)) (λ w h. inl (single-on x w (members-in (single x) w h)))

empty-members : length (members empty_set) ≤ 0
empty-members = fewer (members empty_set) [] (members-nodup empty_set) (λ w h. empty-on w (members-in empty_set w h))

off_false : (s : VertexSet) (x : ℕ) → ¬ On s x → has s.words x ≡ false
off_false s x h = ⊎_elim (λ e. absurd (h e)) (λ e. e) (bool? (has s.words x))

-- an edge from inside the set to outside; or no edge leaves it
abbrev Way : List ℕ → VertexSet → ℕ × ℕ → Type 0
Way rows set e =
    ((ltb e.0 capacity ≡ true) × On set e.0 × (¬ On set e.1) × (adjacent_in rows e.0 e.1 ≡ true))
    ⊎ ((ltb e.0 capacity ≡ false) × ((x c : ℕ) → On set x → adjacent_in rows x c ≡ true → On set c))

way_out_lem : (rows : List ℕ) (n : ℕ) → Drawn rows n → (set : VertexSet) → Sized set → Way rows set (way_out rows (near rows set) set)
way_out_lem rows n d set s = go (ltb c capacity) refl
  where
    out : VertexSet
    out = minus (near rows set) set

    sized_out : Sized out
    sized_out = sized_minus (near rows set) set (sized_near rows d.words set) s

    c : ℕ
    c = least out

    both : VertexSet
    both = common (row_of rows c) set

    row : Sized (row_of rows c)
    row = sized_row rows c d.words

    sized_both : Sized both
    sized_both = sized_minus (row_of rows c) (minus (row_of rows c) set) row (sized_minus (row_of rows c) set row s)

    -- c is outside, next to v
    found-way : ¬ On set c → (v : ℕ) → On set v → adjacent_in rows v c ≡ true → Way rows set (least both, c)
    found-way hc v h k =
        let e = (least_first both sized_both v (on_common (row_of rows c) set row s v (on_row rows c v (d.simple.symmetric v c k)) h)).1 in
        let r = common-on (row_of rows c) set row s (least both) (least_on both sized_both e) in
        inl (e, r.1, hc, d.simple.symmetric c (least both) (row_on rows c (least both) r.0))

    -- past the rows there are no neighbours
    no_way : ltb c capacity ≡ false → ltb (least both) capacity ≡ false
    no_way e = ⊎_elim (λ k. absurd (clash (lt-ltb c capacity (low_capacity n c d.low (d.simple.low c (least both) (row_on rows c (least both) (common-on (row_of rows c) set row s (least both) (least_on both sized_both k)).0)))) e)) (λ k. k) (bool? (ltb (least both) capacity))

    shut : ltb c capacity ≡ false → (x w : ℕ) → On set x → adjacent_in rows x w ≡ true → On set w
    shut e x w h k = ⊎_elim (λ i. i) (λ i. absurd (least-none out sized_out e w (on_minus (near rows set) set (sized_near rows d.words set) s w (on_near rows set x w s h k) (λ j. clash j i)))) (bool? (has set.words w))

    go : (b : Bool) → ltb c capacity ≡ b → Way rows set (least both, c)
    go true e =
        let r = minus-on (near rows set) set (sized_near rows d.words set) s c (least_on out sized_out e) in
        let v = near_on rows set c r.0 in
        found-way r.1 v.0 v.1 v.2
    go false e = inr (no_way e, shut e)

module _ (rows : List ℕ) (n : ℕ) (d : Drawn rows n) (set : VertexSet) (s : Sized set) (low : (w : ℕ) → On set w → w < n) where
  abbrev Answer : Found → Type 0
  Answer f = OutAndBack rows n set f ⊎ OneCut rows n f.cut_by

  -- an edge from x in the set to c outside, and another vertex b of the set
  module _ (x c : ℕ) (hx : On set x) (lc : c < n) (hc : ¬ On set c) (k : Adj (rows_graph n rows) x c) where
    abbrev goals : VertexSet
    goals = minus set (single x)

    goal_on : (w : ℕ) → On goals w → On set w × (¬ On (single x) w)
    goal_on w h = minus-on set (single x) s (sized_single x) w h

    on_goal : (w : ℕ) → On set w → w ≢ x → On goals w
    on_goal w h ne = on_minus set (single x) s (sized_single x) w h (λ i. ne (single-on x w i))

    asked : Asked n (single c) goals (single x)
    asked = record {
      seeds_sized = sized_single c;
      goals_sized = sized_minus set (single x) s (sized_single x);
      removed-sized = sized_single x;
      low = λ w h. rw (single-on c w h) lc;
      no_goal = λ w h i. hc (subst (λ (v : ℕ). On set v) (single-on c w h) (goal_on w i).0);
      no_removed = λ w h i. hc (subst (λ (v : ℕ). On set v) (sym (single-on x w i) ∙ single-on c w h) hx);
      goal_stays = λ w h. (goal_on w h).1;
    }

    met : Met rows n (single c) goals (single x) → OutAndBack rows n set (found (route (explore rows (single c) goals (single x)) ++ (x ∷ [])))
    met m = record {
      not_cut = no_cut_lem;
      x = x;
      y = P.t;
      q = P.s ∷ P.inner;
      x_on = hx;
      y_on = (goal_on P.t m.found.goal).0;
      is_path = record { along = (subst (λ (v : ℕ). Adj (rows_graph n rows) x v) (sym start) k, m.found.is_path.along); nodup = (away, m.found.is_path.nodup) };
      some = omega arith;
      new = new;
      same = ap (λ (l : List ℕ). l ++ (x ∷ [])) m.same;
    }
      where
        P : Path
        P = m.found.path

        start : P.s ≡ c
        start = single-on c P.s m.found.seed

        here : On (single x) x
        here = on_single x (on_low set x s hx)

        away : ¬ In x (vertices P)
        away h = ⊎_elim
            (λ e. ⊎_elim (λ i. hc (subst (λ (v : ℕ). On set v) (i ∙ start) hx)) (λ i. (goal_on P.t m.found.goal).1 (subst (λ (v : ℕ). On (single x) v) i here)) e)
            (λ i. (m.found.off x i).2 here) (end_or_inner P x h)

        new : (w : ℕ) → In w (P.s ∷ P.inner) → ¬ On set w
        new w (inl i) h = hc (subst (λ (v : ℕ). On set v) (i ∙ start) h)
        new w (inr i) h = (m.found.off w i).1 (on_goal w h (λ e. (m.found.off w i).2 (rw e here)))

    back : (b : ℕ) → On set b → b ≢ x → Answer (answered (explore rows (single c) goals (single x)) (single x) (x ∷ []))
    back b hb ne = ⊎_elim
        (λ m. inl (subst (λ (f : Found). OutAndBack rows n set f) (sym (answer_found r (single x) (x ∷ []) m.is_found_lem)) (met m)))
        (λ t. inr (subst (λ (f : Found). OneCut rows n f.cut_by) (sym (answer_failed r (single x) (x ∷ []) t.not_found)) (record { is = separates t; one = single-members x }))) (explored rows n d (single c) goals (single x) asked)
      where
        r : Reach
        r = explore rows (single c) goals (single x)

        separates : Shut rows n (single c) goals (single x) → IsCut rows n (cut (single x) (reached r (single x)))
        separates t = shut_cut rows n (single c) goals (single x) asked t (λ w h. rw (single-on x w h) (low x hx)) (one_two (length (members (single x))) (single-members x)) c (on_single c (low_capacity n c d.low lc)) b (on_goal b hb ne) (low b hb)

  -- no edge leaves the set
  closed_set : (a z : ℕ) → On set a → On (minus (full_set n) set) z → ((x c : ℕ) → On set x → adjacent_in rows x c ≡ true → On set c) → OneCut rows n (cut empty_set set)
  closed_set a z ha hz into = record {
    is = record {
      is_cut_lem = ap not (not_empty set a s ha);
      removed-sized = sized_empty;
      side-sized = s;
      low = λ w h. absurd (empty-on w h);
      side-low = low;
      few = omega (arith, empty-members);
      separated = record {
        side = has set.words;
        out = λ w h. absurd (empty-on w (members-in empty_set w h));
        closed = λ u v e k no. into u v e k;
        w = a;
        w_low = low a ha;
        w_in = ha;
        v = z;
        v_left = (full_on n z outside.0, λ h. empty-on z (members-in empty_set z h));
        v_out = off_false set z outside.1;
      };
      same_side = refl;
    };
    one = omega (arith, empty-members);
  }
    where
      outside : On (full_set n) z × (¬ On set z)
      outside = minus-on (full_set n) set (full_sized n) s z hz

  some_way : (a b : ℕ) → On set a → On set b → a ≢ b → (x c : ℕ) → On set x → ¬ On set c → adjacent_in rows x c ≡ true → Answer (answered (explore rows (single c) (minus set (single x)) (single x)) (single x) (x ∷ []))
  some_way a b ha hb ne x c hx hc k = other (ℕ_discrete a x)
    where
      lc : c < n
      lc = edge-high (rows_graph n rows) d.simple x c k

      other : Dec (a ≡ x) → Answer (answered (explore rows (single c) (minus set (single x)) (single x)) (single x) (x ∷ []))
      other (no i) = back x c hx lc hc k a ha i
      other (yes i) = back x c hx lc hc k b hb (λ j. ne (i ∙ sym j))

  detoured : (a b : ℕ) → On set a → On set b → a ≢ b → (z : ℕ) → On (minus (full_set n) set) z → (e : ℕ × ℕ) → Way rows set e → Answer (back_from rows set e)
  detoured a b ha hb ne z hz e w = ⊎_elim
      (λ h. subst (λ (f : Found). Answer f) (sym (ap turn h.0)) (some_way a b ha hb ne e.0 e.1 h.1 h.2 h.3))
      (λ h. subst (λ (f : Found). Answer f) (sym (ap turn h.0)) (inr (closed_set a z ha hz h.1))) w
    where
      turn : Bool → Found
      turn t = cond t (answered (explore rows (single e.1) (minus set (single e.0)) (single e.0)) (single e.0) (e.0 ∷ [])) (failed empty_set set)

-- OUT AND BACK
pub detour-law : (rows : List ℕ) (n : ℕ) → Drawn rows n → (set : VertexSet) → Sized set → ((w : ℕ) → On set w → w < n) → (a b : ℕ) → On set a → On set b → a ≢ b → empty (minus (full_set n) set) ≡ false → DetourLaw rows n set
unfolding detour
detour-law rows n d set s low a b ha hb ne some =
    let z = empty-some (minus (full_set n) set) (sized_minus (full_set n) set (full_sized n) s) some in
    detoured rows n d set s low a b ha hb ne z.0 z.1 (way_out rows (near rows set) set) (way_out_lem rows n d set s)

module _ (rows : List ℕ) (n : ℕ) (d : Drawn rows n) where
  abbrev row : VertexSet
  row = row_of rows 0

  row_sized : Sized row
  row_sized = sized_row rows 0 d.words

  row_adj : (w : ℕ) → On row w → Adj (rows_graph n rows) 0 w
  row_adj w h = row_on rows 0 w h

  zero_low : 0 < n
  zero_low = omega (arith, d.simple.big)

  zero_on : On (single 0) 0
  zero_on = on_single 0 (low_capacity n 0 d.low zero_low)

  zero_off : (w : ℕ) → On row w → ¬ On (single 0) w
  zero_off w h k = edge-differ (rows_graph n rows) d.simple 0 w (row_adj w h) (single-on 0 w k)

  row_count : length (members row) ≡ count row.words
  row_count = members-count row row_sized

  -- a vertex that is neither 0 nor next to it
  far : length (members row) ≤ 2 → (v : ℕ) × In v (below n) × (¬ In v (0 ∷ members row))
  far few = beside (below n) (0 ∷ members row) (nodup_below n) (one_left (length (members row)) (length (below n)) n few d.simple.big (length_below n))

  row_cut : length (members row) ≤ 2 → IsCut rows n (cut row (single 0))
  row_cut few = record {
    is_cut_lem = ap not (not_empty (single 0) 0 (sized_single 0) zero_on);
    removed-sized = row_sized;
    side-sized = sized_single 0;
    low = λ w h. edge-high (rows_graph n rows) d.simple 0 w (row_adj w h);
    side-low = λ w h. subst (λ (z : ℕ). z < n) (sym (single-on 0 w h)) zero_low;
    few = few;
    separated = record {
      side = has (single 0).words;
      out = λ w h. off_false (single 0) w (zero_off w (members-in row w h));
      closed = λ u v e k no. absurd (no (in_members row v row_sized (on_row rows 0 v (subst (λ (z : ℕ). Adj (rows_graph n rows) z v) (single-on 0 u e) k))));
      w = 0;
      w_low = zero_low;
      w_in = zero_on;
      v = (far few).0;
      v_left = (in_below n (far few).0 (far few).1, λ h. (far few).2 (inr h));
      v_out = off_false (single 0) (far few).0 (λ h. (far few).2 (inl (single-on 0 (far few).0 h)));
    };
    same_side = refl;
  }

  abbrev CycleAnswer : Found → Type 0
  CycleAnswer f = ThroughZero rows n f ⊎ OneCut rows n f.cut_by

  -- a cycle through 0 and its least neighbour x; y is another neighbour
  module _ (x : ℕ) (least-x : x ≡ least row) (hx : On row x) where
    abbrev others : VertexSet
    others = minus row (single x)

    other_on : (w : ℕ) → On others w → On row w × (¬ On (single x) w)
    other_on w h = minus-on row (single x) row_sized (sized_single x) w h

    on_other : (w : ℕ) → On row w → ¬ On (single x) w → On others w
    on_other w h k = on_minus row (single x) row_sized (sized_single x) w h k

    cycle-asked : Asked n (single x) others (single 0)
    cycle-asked = record {
      seeds_sized = sized_single x;
      goals_sized = sized_minus row (single x) row_sized (sized_single x);
      removed-sized = sized_single 0;
      low = λ w h. rw (single-on x w h) (edge-high (rows_graph n rows) d.simple 0 x (row_adj x hx));
      no_goal = λ w h i. (other_on w i).1 h;
      no_removed = λ w h i. zero_off w (rw (single-on x w h) hx) i;
      goal_stays = λ w h. zero_off w (other_on w h).0;
    }

    cycle-met : Met rows n (single x) others (single 0) → ThroughZero rows n (found (route (explore rows (single x) others (single 0)) ++ (0 ∷ [])))
    cycle-met m = record {
      not_cut = no_cut_lem;
      P = P;
      is_path = m.found.is_path;
      from = start ∙ least-x;
      ks = ks;
      kt = kt;
      off = off;
      inner_off = λ w h k. (m.found.off w h).1 (on_other w (on_row rows 0 w k) (m.found.off w h).0);
      same = ap (λ (l : List ℕ). l ++ (0 ∷ [])) m.same;
    }
      where
        P : Path
        P = m.found.path

        start : P.s ≡ x
        start = single-on x P.s m.found.seed

        ks : Adj (rows_graph n rows) 0 P.s
        ks = subst (λ (v : ℕ). Adj (rows_graph n rows) 0 v) (sym start) (row_adj x hx)

        kt : Adj (rows_graph n rows) 0 P.t
        kt = row_adj P.t (other_on P.t m.found.goal).0

        off : ¬ In 0 (vertices P)
        off h = ⊎_elim
            (λ e. ⊎_elim (λ i. edge-differ (rows_graph n rows) d.simple 0 P.s ks (sym i)) (λ i. edge-differ (rows_graph n rows) d.simple 0 P.t kt (sym i)) e)
            (λ i. (m.found.off 0 i).2 zero_on) (end_or_inner P 0 h)

    cycle-back : (y : ℕ) → On row y → y ≢ x → CycleAnswer (answered (explore rows (single x) others (single 0)) (single 0) (0 ∷ []))
    cycle-back y hy ne = ⊎_elim
        (λ m. inl (subst (λ (f : Found). ThroughZero rows n f) (sym (answer_found r (single 0) (0 ∷ []) m.is_found_lem)) (cycle-met m)))
        (λ t. inr (subst (λ (f : Found). OneCut rows n f.cut_by) (sym (answer_failed r (single 0) (0 ∷ []) t.not_found)) (record { is = separates t; one = single-members 0 }))) (explored rows n d (single x) others (single 0) cycle-asked)
      where
        r : Reach
        r = explore rows (single x) others (single 0)

        separates : Shut rows n (single x) others (single 0) → IsCut rows n (cut (single 0) (reached r (single 0)))
        separates t = shut_cut rows n (single x) others (single 0) cycle-asked t (λ w h. rw (single-on 0 w h) zero_low) (one_two (length (members (single 0))) (single-members 0)) x (on_single x (on_low row x row_sized hx)) y
            (on_other y hy (λ h. ne (single-on x y h))) (edge-high (rows_graph n rows) d.simple 0 y (row_adj y hy))

  few_around : ltb (count row.words) 2 ≡ true → OneCut rows n (cut row (single 0))
  few_around e = let few = at_most_of (length (members row)) (count row.words) 1 row_count e in record { is = row_cut (one_two (length (members row)) few); one = few }

  abbrev turned : Found
  turned = answered (explore rows (single (least row)) (minus row (single (least row))) (single 0)) (single 0) (0 ∷ [])

  many-around : ltb (count row.words) 2 ≡ false → CycleAnswer turned
  many-around e =
      let y = beside (members row) (least row ∷ []) (members-nodup row) (at_least_of (length (members row)) (count row.words) 2 row_count e) in
      let hy = members-in row y.0 y.1 in
      cycle-back (least row) refl (least_on row row_sized (least_first row row_sized y.0 hy).1) y.0 hy (λ i. y.2 (inl i))

  around : CycleAnswer (cond (ltb (count row.words) 2) (failed row (single 0)) turned)
  around = ⊎_elim (λ e. subst (λ (b : Bool). CycleAnswer (cond b (failed row (single 0)) turned)) (sym e) (inr (few_around e))) (λ e. subst (λ (b : Bool). CycleAnswer (cond b (failed row (single 0)) turned)) (sym e) (many-around e)) (bool? (ltb (count row.words) 2))

-- A CYCLE THROUGH VERTEX 0
pub cycle-law : (rows : List ℕ) (n : ℕ) → Drawn rows n → CycleLaw rows n
unfolding cycle
cycle-law rows n d = around rows n d

pub few_cut : (rows : List ℕ) (n : ℕ) → Drawn rows n → ltb (count (row_of rows 0).words) 3 ≡ true → IsCut rows n (cut (row_of rows 0) (single 0))
few_cut rows n d e = row_cut rows n d (at_most_of (length (members (row_of rows 0))) (count (row_of rows 0).words) 2 (row_count rows n d) e)
