-- Step (a): the first inner vertex of a build stands on a link; from inside it a path leads off the link, or its two ends cut the graph.
use mathlib.Core.Path.{◌≡◌, refl, sym, ap, subst, ◌∙◌}
use mathlib.Core.Logic.{◌⊎◌, inl, inr, ⊎_elim, ⊎_map}
use mathlib.Core.List.{List, [], ◌∷◌, ◌++◌, append_assoc, append-nil}
use mathlib.Core.Bool.{Bool, true, false, cond, not}
use Prim.Native.Nat.{ℕ, suc, ◌+◌, ◌-◌, ◌≤◌, ◌<◌}
use native.Mathlib.Omega.{arith}
use lib.ListN.{length, take, drop, get_or, length-append, length-drop, take-append-drop}
use lib.Seq.{take_at, drop_at, get_or_at, length-take-le}
use borrow.Author.Tests.{not-true, not-false}
use Rattle.vertexset.specs.Set.{has, capacity}
use Rattle.vertexset.specs.declared.VertexSet.{VertexSet}
use Rattle.graph.specs.Limits.{max_edges}
use Rattle.connectivity.specs.Lists.{In}
use Rattle.connectivity.specs.Graph.{Adj, edge_count}
use Rattle.connectivity.specs.Path.{Path, link, vertices, used_edges}
use Rattle.connectivity.proofs.Lists.{rev, in_left, in_right, in_append, in_single, clash, bool?, fewer}
use Rattle.connectivity.proofs.Paths.{built_vertices, branch_vertices, in_built, in_branch, branch_built, inner_in, end_s, end_t, end_or_inner}
use Rattle.connectivity.proofs.Recorded.{Extends, branch_beside}
use Rattle.connectivity.proofs.Search as searching
use Rattle.connectivity.proofs.Progress.{NoneIn, link-extends}
use Rattle.connectivity.proofs.FirstLinks.{reversed}
use Rattle.construction.specs.Sets.{stop, minus, pair, set_of, members, place_of}
use Rattle.construction.specs.Search.{explore, route, reached}
use Rattle.construction.specs.Ears.{cut, is_cut, Found, found, failed, answered}
use Rattle.construction.specs.Steps.{State, stopped, extended, segment, off_link, up_to, link_taken, run_end, inner_place}
use Rattle.graph.specs.Rows.{rows_graph}
use Rattle.construction.proofs.Basics.{Drawn, Sized, On, IsCut, flatten, Asked, Met, Shut}
use Rattle.construction.proofs.SetLaws.{sized_empty, sized_all, sized_minus, sized_pair, on_low, minus-on, on_minus, set_on, on_set, pair-on, on_pair, members-in, members-nodup}
use Rattle.construction.proofs.Places.{segment-place}
use Rattle.construction.proofs.Searching.{explored, found_as}
use Rattle.construction.proofs.Detours.{no_cut_lem, answer_found, answer_failed, shut_cut, low_capacity}
use Rattle.construction.proofs.Flat.{newest_first, in_newest, Located, locate, rev_vertices, extends_reversed}
use Rattle.construction.proofs.Finding.{FirstAt, first_at, place_is, place_none}
use Rattle.construction.proofs.Leaving.{Leaving, leaving}
use Rattle.construction.proofs.StepLaws.{Going, Stepped, cuts, below-stop, vertex-low, vertex-on, on_vertex, extended-step}

-- the first inner vertex, or none: every vertex of the build is a branch vertex
pub record InnerFirst (st : State) : Type 0 where
  pub front : List ℕ
  pub w : ℕ
  pub back : List ℕ
  pub is : st.flat ≡ front ++ (w ∷ back)
  pub inner : On (minus st.built st.branch) w
  pub seen : (v : ℕ) → In v front → On st.built v → On st.branch v
  pub place : inner_place st ≡ length front

pub record NoInner (st : State) : Type 0 where
  pub all-branch : (v : ℕ) → On st.built v → On st.branch v
  pub place : inner_place st ≡ length st.flat

-- numbers alone: omega is slow beside sets
past : (at p f l k : ℕ) → p ≡ f → l ≡ k + f → k ≡ at → at + p ≡ l
past at p f l k h j e = omega arith

to_end : (at p d l : ℕ) → p ≡ d → d ≡ l - at → at ≤ l → at + p ≡ l
to_end at p d l h j e = omega arith

module _ (rows : List ℕ) (n : ℕ) (ms ps : List Path) (st : State) (go : Going rows n ms ps st) where
  not_inner : (v : ℕ) → has (minus st.built st.branch).words v ≡ false → On st.built v → On st.branch v
  not_inner v e h = ⊎_elim (λ k. k) (λ k. absurd (clash (on_minus st.built st.branch go.built_sized go.branch_sized v h (λ j. clash j k)) e)) (bool? (has st.branch.words v))

  pub find_inner : InnerFirst st ⊎ NoInner st
  find_inner = ⊎_map some none (first_at inner? (drop st.at st.flat))
    where
      inner? : ℕ → Bool
      inner? = has (minus st.built st.branch).words

      some : FirstAt inner? (drop st.at st.flat) → InnerFirst st
      some r = record {
        front = take st.at st.flat ++ r.front;
        w = r.x;
        back = r.back;
        is = sym (take-append-drop st.at st.flat) ∙ ap (λ (k : List ℕ). take st.at st.flat ++ k) r.is ∙ sym (append_assoc (take st.at st.flat) r.front (r.x ∷ r.back));
        inner = r.holds;
        seen = λ v h. ⊎_elim (go.passed v) (λ k. not_inner v (r.none v k)) (in_append v (take st.at st.flat) r.front h);
        place = past st.at (place_of inner? (drop st.at st.flat)) (length r.front) (length (take st.at st.flat ++ r.front)) (length (take st.at st.flat))
            (ap (place_of inner?) r.is ∙ place_is inner? r.front r.x r.back r.none r.holds) (length-append (take st.at st.flat) r.front) (length-take-le st.at st.flat go.fits);
      }

      none : ((w : ℕ) → In w (drop st.at st.flat) → inner? w ≡ false) → NoInner st
      none f = record {
        all-branch = λ v h. ⊎_elim (λ k. go.passed v k h) (λ k. not_inner v (f v k) h) (in_append v (take st.at st.flat) (drop st.at st.flat) (subst (λ (l : List ℕ). In v l) (sym (take-append-drop st.at st.flat)) (go.built_on v h)));
        place = to_end st.at (place_of inner? (drop st.at st.flat)) (length (drop st.at st.flat)) (length st.flat) (place_none inner? (drop st.at st.flat) f) (length-drop st.at st.flat) go.fits;
      }

-- the places of a link in the list
back_one : (i f : ℕ) → i ≡ f + 1 → f ≡ i - 1
back_one i f e = omega arith

just_run : (i r : ℕ) → r ≡ (i + r) - i
just_run i r = omega arith

some_run : (w : ℕ) (l : List ℕ) → In w l → 0 < length l
some_run w [] h = absurd h
some_run w (a ∷ l) h = omega arith

run_fits : (i r j l e k : ℕ) → j ≡ i + r → l ≡ i + (r + suc e) → k < j → k < l
run_fits i r j l e k h g c = omega arith

run_places : (i r j : ℕ) → j ≡ i + r → 0 < r → (i ≤ i) × (i < j) × (i ≤ j - 1) × (j - 1 < j)
run_places i r j h c = omega arith

module _ (F : List ℕ) (a : ℕ) (run : List ℕ) (b : ℕ) (rest : List ℕ) where
  abbrev up_to_run : List ℕ
  up_to_run = F ++ (a ∷ [])

  run_on : drop (length up_to_run) (up_to_run ++ (run ++ (b ∷ rest))) ≡ run ++ (b ∷ rest)
  run_on = drop_at up_to_run (run ++ (b ∷ rest)) (length up_to_run) refl

  run_segment : segment (up_to_run ++ (run ++ (b ∷ rest))) (length up_to_run) (length up_to_run + length run) ≡ run
  run_segment = ap (take ((length up_to_run + length run) - length up_to_run)) run_on ∙ take_at run (b ∷ rest) ((length up_to_run + length run) - length up_to_run) (just_run (length up_to_run) (length run))

  before_run : get_or (up_to_run ++ (run ++ (b ∷ rest))) (length up_to_run - 1) 0 ≡ a
  before_run = ap (λ (l : List ℕ). get_or l (length up_to_run - 1) 0) (append_assoc F (a ∷ []) (run ++ (b ∷ rest))) ∙ get_or_at F a (run ++ (b ∷ rest)) 0 (length up_to_run - 1) (back_one (length up_to_run) (length F) (length-append F (a ∷ [])))

  behind_run : get_or (up_to_run ++ (run ++ (b ∷ rest))) (length up_to_run + length run) 0 ≡ b
  behind_run = ap (λ (l : List ℕ). get_or l (length up_to_run + length run) 0) (sym (append_assoc up_to_run run (b ∷ rest))) ∙ get_or_at (up_to_run ++ run) b rest 0 (length up_to_run + length run) (length-append up_to_run run)

-- A LINK WITH INNER VERTICES, a, run, b, of which the run stands at the places from i on
pub record LinkAt (ps : List Path) (st : State) (i : ℕ) : Type 0 where
  pub L : Path
  pub h_l : In L (newest_first ps)
  pub K : Path
  pub u : List ℕ
  pub v : List ℕ
  pub is : vertices L ≡ u ++ (vertices K ++ v)
  pub hs : In K.s (branch_vertices (newest_first ps))
  pub ht : In K.t (branch_vertices (newest_first ps))
  pub hm : NoneIn (branch_vertices (newest_first ps)) K.inner
  pub first_in : In (get_or st.flat i 0) K.inner
  pub last_in : In (get_or st.flat (run_end st.flat (minus st.built st.branch) i - 1) 0) K.inner
  pub inner_is : segment st.flat i (run_end st.flat (minus st.built st.branch) i) ≡ K.inner
  pub s_is : get_or st.flat (i - 1) 0 ≡ K.s
  pub t_is : get_or st.flat (run_end st.flat (minus st.built st.branch) i) 0 ≡ K.t

last_of_lem : (l : List ℕ) → (l ≡ []) ⊎ ((u : List ℕ) × (a : ℕ) × (l ≡ u ++ (a ∷ [])))
last_of_lem [] = inl refl
last_of_lem (c ∷ l) = inr (⊎_elim (λ e. ([], c, ap (λ (k : List ℕ). c ∷ k) e)) (λ r. (c ∷ r.0, r.1, ap (λ (k : List ℕ). c ∷ k) r.2)) (last_of_lem l))

-- the last of a list stands behind every part of it
last_behind : (m : List ℕ) (t : ℕ) (front : List ℕ) (w : ℕ) (back : List ℕ) → m ++ (t ∷ []) ≡ front ++ (w ∷ back) → In t (w ∷ back)
last_behind [] t [] w back e = inl (cc)
last_behind [] t (c ∷ front) w back e = absurd (omega (arith, ap length e, length-append front (w ∷ back)))
last_behind (x ∷ m) t [] w back e = let k : m ++ (t ∷ []) ≡ back = cc in inr (subst (λ (l : List ℕ). In t l) k (in_right t m (t ∷ []) (inl refl)))
last_behind (x ∷ m) t (c ∷ front) w back e = last_behind m t front w back (cc)

module _ (rows : List ℕ) (n : ℕ) (dr : Drawn rows n) (ms ps : List Path) (st : State) (go : Going rows n ms ps st) (r : InnerFirst st) where
  abbrev inner? : ℕ → Bool
  inner? = has (minus st.built st.branch).words

  abbrev outer? : ℕ → Bool
  outer? v = not (inner? v)

  loc : Located ps r.front r.w r.back
  loc = locate ps r.front r.w r.back (sym go.same_flat ∙ r.is) (below-stop r.w (on_low (minus st.built st.branch) r.w (sized_minus st.built st.branch go.built_sized go.branch_sized) r.inner))

  on_record : In loc.path (newest_first ps)
  on_record = in_newest ps loc.path (subst (λ (k : List Path). In loc.path k) (sym loc.place) (in_right loc.path loc.before (loc.path ∷ loc.behind) (inl refl)))

  inner_off : (z : ℕ) → inner? z ≡ true → ¬ In z (branch_vertices (newest_first ps))
  inner_off z h k = (minus-on st.built st.branch go.built_sized go.branch_sized z h).1 (go.on_branch z k)

  path-built : (z : ℕ) → In z (vertices loc.path) → On st.built z
  path-built z h = vertex-on rows n dr ms ps st go z (in_built loc.path (newest_first ps) z on_record h)

  -- the path begins before w and ends behind it
  left_some : ¬ (loc.left ≡ [])
  left_some e = inner_off r.w r.inner (in_branch loc.path (newest_first ps) r.w on_record (inl w_first))
    where
      w_first : r.w ≡ loc.path.s
      w_first = let h : vertices loc.path ≡ r.w ∷ loc.right = loc.cut ∙ ap (λ (j : List ℕ). j ++ (r.w ∷ loc.right)) e in cc

  run_ends : ¬ ((z : ℕ) → In z (r.w ∷ loc.right) → outer? z ≡ false)
  run_ends f = inner_off loc.path.t (not-false (inner? loc.path.t) (f loc.path.t (last_behind (loc.path.s ∷ loc.path.inner) loc.path.t loc.left r.w loc.right loc.cut)))
      (in_branch loc.path (newest_first ps) loc.path.t on_record (inr refl))

  module _ (u : List ℕ) (a : ℕ) (left_is : loc.left ≡ u ++ (a ∷ [])) (f : FirstAt outer? (r.w ∷ loc.right)) where
    abbrev F : List ℕ
    F = flatten loc.before ++ (stop ∷ u)

    abbrev rest : List ℕ
    rest = f.back ++ flatten loc.behind

    front_is : r.front ≡ F ++ (a ∷ [])
    front_is = loc.front_is ∙ ap (λ (k : List ℕ). flatten loc.before ++ (stop ∷ k)) left_is ∙ sym (append_assoc (flatten loc.before) (stop ∷ u) (a ∷ []))

    flat_is : st.flat ≡ (F ++ (a ∷ [])) ++ (f.front ++ (f.x ∷ rest))
    flat_is = r.is ∙ (λ i. front_is i ++ (r.w ∷ loc.back_is i)) ∙ ap (λ (k : List ℕ). (F ++ (a ∷ [])) ++ (k ++ flatten loc.behind)) f.is ∙ ap (λ (k : List ℕ). (F ++ (a ∷ [])) ++ k) (append_assoc f.front (f.x ∷ f.back) (flatten loc.behind))

    path-is : vertices loc.path ≡ u ++ (vertices (link a f.front f.x) ++ f.back)
    path-is = loc.cut ∙ (λ i. left_is i ++ f.is i) ∙ simp append_assoc

    on_link : (z : ℕ) → In z (vertices (link a f.front f.x)) → In z (vertices loc.path)
    on_link z h = subst (λ (k : List ℕ). In z k) (sym path-is) (in_right z u (vertices (link a f.front f.x) ++ f.back) (in_left z (vertices (link a f.front f.x)) f.back h))

    a_branch : In a (branch_vertices (newest_first ps))
    a_branch = go.branch_on a (r.seen a (subst (λ (k : List ℕ). In a k) (sym front_is) (in_right a F (a ∷ []) (inl refl))) (path-built a (on_link a (end_s (link a f.front f.x)))))

    b_branch : In f.x (branch_vertices (newest_first ps))
    b_branch = go.branch_on f.x (not_inner rows n ms ps st go f.x (not-true (inner? f.x) f.holds) (path-built f.x (on_link f.x (end_t (link a f.front f.x)))))

    run_off : NoneIn (branch_vertices (newest_first ps)) f.front
    run_off z h = inner_off z (not-false (inner? z) (f.none z h))

    w_in : In r.w f.front
    w_in = first f.front f.is
      where
        first : (l : List ℕ) → r.w ∷ loc.right ≡ l ++ (f.x ∷ f.back) → In r.w l
        first [] e = let k : r.w ≡ f.x = cc in absurd (clash (subst (λ (z : ℕ). inner? z ≡ true) k r.inner) (not-true (inner? f.x) f.holds))
        first (c ∷ l) e = inl (cc)

    -- the places at which the run begins, and behind it
    abbrev begins : ℕ
    begins = length (F ++ (a ∷ []))

    abbrev ends : ℕ
    ends = run_end st.flat (minus st.built st.branch) begins

    run_end_lem : ends ≡ begins + length f.front
    run_end_lem = ap (λ (l : List ℕ). begins + place_of outer? (drop begins l)) flat_is ∙ ap (λ (l : List ℕ). begins + place_of outer? l) (run_on F a f.front f.x rest) ∙ ap (λ (k : ℕ). begins + k) (place_is outer? f.front f.x rest f.none f.holds)

    run_is : segment st.flat begins ends ≡ f.front
    run_is = (λ i. segment (flat_is i) begins (run_end_lem i)) ∙ run_segment F a f.front f.x rest

    flat_length : length st.flat ≡ begins + (length f.front + suc (length rest))
    flat_length = ap length flat_is ∙ length-append (F ++ (a ∷ [])) (f.front ++ (f.x ∷ rest)) ∙ ap (λ (k : ℕ). begins + k) (length-append f.front (f.x ∷ rest))

    in_run : (k : ℕ) → begins ≤ k → k < ends → In (get_or st.flat k 0) f.front
    in_run k low high = subst (λ (l : List ℕ). In (get_or st.flat k 0) l) run_is (segment-place st.flat begins ends k low high (run_fits begins (length f.front) ends (length st.flat) (length rest) k run_end_lem flat_length high))

    link-there : LinkAt ps st begins
    link-there =
        let places = run_places begins (length f.front) ends run_end_lem (some_run r.w f.front w_in) in
        record {
          L = loc.path;
          h_l = on_record;
          K = link a f.front f.x;
          u = u;
          v = f.back;
          is = path-is;
          hs = a_branch;
          ht = b_branch;
          hm = run_off;
          first_in = in_run begins places.0 places.1;
          last_in = in_run (ends - 1) places.2 places.3;
          inner_is = run_is;
          s_is = ap (λ (l : List ℕ). get_or l (begins - 1) 0) flat_is ∙ before_run F a f.front f.x rest;
          t_is = (λ i. get_or (flat_is i) (run_end_lem i) 0) ∙ behind_run F a f.front f.x rest;
        }

  pub link_at : LinkAt ps st (inner_place st)
  link_at = ⊎_elim (λ e. absurd (left_some e)) (λ k. ⊎_elim (λ f. subst (λ (i : ℕ). LinkAt ps st i) (sym (r.place ∙ ap length (front_is k.0 k.1 k.2 f))) (link-there k.0 k.1 k.2 f)) (λ f. absurd (run_ends f)) (first_at outer? (r.w ∷ loc.right))) (last_of_lem loc.left)

-- THE SEARCH FROM INSIDE A LINK
abbrev link_search : List ℕ → VertexSet → VertexSet → List ℕ → ℕ → ℕ → Found
link_search rows seeds built run a b = answered (explore rows seeds (minus (minus built (set_of run)) (pair a b)) (pair a b)) (pair a b) []

pair-few : (a b : ℕ) → length (members (pair a b)) ≤ 2
pair-few a b = fewer (members (pair a b)) (a ∷ (b ∷ [])) (members-nodup (pair a b)) (λ w h. ⊎_map (λ e. e) inl (pair-on a b w (members-in (pair a b) w h)))

module _ (rows : List ℕ) (n : ℕ) (dr : Drawn rows n) (few : edge_count (rows_graph n rows) ≤ max_edges) (ms ps : List Path) (st : State) (go : Going rows n ms ps st) (i : ℕ) (k : LinkAt ps st i) where
  abbrev K : Path
  K = k.K

  -- the link's outermost inner vertices
  abbrev first : ℕ
  first = get_or st.flat i 0

  abbrev last : ℕ
  last = get_or st.flat (run_end st.flat (minus st.built st.branch) i - 1) 0

  abbrev seeds : VertexSet
  seeds = pair first last

  abbrev inside : VertexSet
  inside = set_of K.inner

  abbrev removed : VertexSet
  removed = pair K.s K.t

  abbrev goals : VertexSet
  goals = minus (minus st.built inside) removed

  link-built : (z : ℕ) → In z (vertices K) → In z (built_vertices (newest_first ps))
  link-built z h = in_built k.L (newest_first ps) z k.h_l (subst (λ (l : List ℕ). In z l) (sym k.is) (in_right z k.u (vertices K ++ k.v) (in_left z (vertices K) k.v h)))

  link-low : (z : ℕ) → In z (vertices K) → z < n
  link-low z h = vertex-low rows n dr ms ps st go z (link-built z h)

  link_fits : (z : ℕ) → In z (vertices K) → z < capacity
  link_fits z h = low_capacity n z dr.low (link-low z h)

  inside-sized : Sized inside
  inside-sized = sized_all _ K.inner sized_empty

  removed-sized : Sized removed
  removed-sized = sized_pair K.s K.t

  rest-sized : Sized (minus st.built inside)
  rest-sized = sized_minus st.built inside go.built_sized inside-sized

  inside-in : (z : ℕ) → On inside z → In z K.inner
  inside-in z h = set_on K.inner z h

  in_inside : (z : ℕ) → In z K.inner → On inside z
  in_inside z h = on_set K.inner z (link_fits z (inner_in z K h)) h

  seed_in : (z : ℕ) → On seeds z → In z K.inner
  seed_in z h = ⊎_elim (λ e. rw e k.first_in) (λ e. rw e k.last_in) (pair-on first last z h)

  first_seed : On seeds first
  first_seed = (on_pair first last (link_fits first (inner_in first K k.first_in)) (link_fits last (inner_in last K k.last_in))).0

  removed-in : (z : ℕ) → On removed z → In z (K.s ∷ (K.t ∷ []))
  removed-in z h = ⊎_map (λ e. e) inl (pair-on K.s K.t z h)

  in_removed : (z : ℕ) → In z (K.s ∷ (K.t ∷ [])) → On removed z
  in_removed z (inl e) = subst (λ (y : ℕ). On removed y) (sym e) (on_pair K.s K.t (link_fits K.s (end_s K)) (link_fits K.t (end_t K))).0
  in_removed z (inr h) = subst (λ (y : ℕ). On removed y) (sym (in_single z K.t h)) (on_pair K.s K.t (link_fits K.s (end_s K)) (link_fits K.t (end_t K))).1

  goal_on : (z : ℕ) → On goals z → On st.built z × (¬ On inside z) × (¬ On removed z)
  goal_on z h =
      let r = minus-on (minus st.built inside) removed rest-sized removed-sized z h in
      let s = minus-on st.built inside go.built_sized inside-sized z r.0 in
      (s.0, s.1, r.1)

  on_goal : (z : ℕ) → On st.built z → ¬ On inside z → ¬ On removed z → On goals z
  on_goal z h a b = on_minus (minus st.built inside) removed rest-sized removed-sized z (on_minus st.built inside go.built_sized inside-sized z h a) b

  end_branch : (z : ℕ) → On removed z → In z (branch_vertices (newest_first ps))
  end_branch z h = ⊎_elim (λ e. rw e k.hs) (λ e. rw e k.ht) (pair-on K.s K.t z h)

  asked : Asked n seeds goals removed
  asked = record {
    seeds_sized = sized_pair first last;
    goals_sized = sized_minus (minus st.built inside) removed rest-sized removed-sized;
    removed-sized = removed-sized;
    low = λ z h. link-low z (inner_in z K (seed_in z h));
    no_goal = λ z h j. (goal_on z j).1 (in_inside z (seed_in z h));
    no_removed = λ z h j. k.hm z (seed_in z h) (end_branch z j);
    goal_stays = λ z h. (goal_on z h).2;
  }

  off : (z : ℕ) → In z (vertices K) → ¬ On inside z → ¬ On removed z → ⊥
  off z h a b = ⊎_elim (λ e. b (in_removed z (⊎_map (λ j. j) inl e))) (λ j. a (in_inside z j)) (end_or_inner K z h)

  -- the path that was found, from where it leaves the link
  leaves : (m : Met rows n seeds goals removed) → Leaving (rows_graph n rows) (On goals) (On removed) (has inside.words) (rev (vertices m.found.path))
  leaves m = leaving (rows_graph n rows) (On seeds) (On goals) (On removed) m.found (has inside.words) (in_inside m.found.path.s (seed_in m.found.path.s m.found.seed))
      (⊎_elim (λ h. absurd ((goal_on m.found.path.t m.found.goal).1 h)) (λ h. h) (bool? (has inside.words m.found.path.t)))

  -- it extends the record, listed from its end too
  leaves_extends : (f : searching.Found (rows_graph n rows) (On inside) (On goals) (On removed)) → Extends (Adj (rows_graph n rows)) (newest_first ps) (reversed f.path)
  leaves_extends f = extends_reversed (Adj (rows_graph n rows)) dr.simple.symmetric (newest_first ps) f.path
      (link-extends (rows_graph n rows) dr.simple (newest_first ps) go.recorded k.L k.h_l K k.u k.v k.is k.hs k.ht k.hm
      (found_as (rows_graph n rows) (On inside) (On goals) (On removed) (λ z. In z K.inner) (λ z. In z (built_vertices (newest_first ps)) × (¬ In z (vertices K))) (λ z. In z (K.s ∷ (K.t ∷ []))) f inside-in in_inside
      (λ z h. (on_vertex rows n dr ms ps st go z (goal_on z h).0, λ j. off z j (goal_on z h).1 (goal_on z h).2))
      (λ z h. on_goal z (vertex-on rows n dr ms ps st go z h.0) (λ j. h.1 (inner_in z K (inside-in z j))) (λ j. h.1 (end_on z (removed-in z j)))) in_removed))
    where
      end_on : (z : ℕ) → In z (K.s ∷ (K.t ∷ [])) → In z (vertices K)
      end_on z (inl e) = inl e
      end_on z (inr h) = subst (λ (k : ℕ). In k (vertices K)) (sym (in_single z K.t h)) (end_t K)

  shut_separates : Shut rows n seeds goals removed → IsCut rows n (cut removed (reached (explore rows seeds goals removed) removed))
  shut_separates t =
      let z = branch_beside (Adj (rows_graph n rows)) (newest_first ps) go.recorded (K.s ∷ (K.t ∷ [])) (omega arith) in
      let y = branch_built (newest_first ps) z.0 z.1 in
      shut_cut rows n seeds goals removed asked t (λ x h. vertex-low rows n dr ms ps st go x (branch_built (newest_first ps) x (end_branch x h))) (pair-few K.s K.t) first first_seed z.0
      (on_goal z.0 (vertex-on rows n dr ms ps st go z.0 y) (λ h. k.hm z.0 (inside-in z.0 h) z.1) (λ h. z.2 (removed-in z.0 h))) (vertex-low rows n dr ms ps st go z.0 y)

  module _ (fit : i ≤ length st.flat) (seen : (w : ℕ) → In w (take i st.flat) → On st.built w → On st.branch w) where
    -- the link's inner vertices, and what the search answered
    abbrev Taken : List ℕ → Found → Type 0
    Taken run f = Stepped rows n ms (length (used_edges (newest_first ps))) (cond (is_cut f.cut_by) (stopped st f.cut_by) (extended st (up_to (set_of run) f.path) i))

    take_found : (m : Met rows n seeds goals removed) → Taken K.inner (found (route (explore rows seeds goals removed) ++ []))
    take_found m =
        let path = route (explore rows seeds goals removed) ++ [] in
        let l = leaves m in
        subst (λ (s : State). Stepped rows n ms (length (used_edges (newest_first ps))) s) (ap (λ (b : Bool). cond b (stopped st (found path).cut_by) (extended st (up_to inside path) i)) (sym no_cut_lem))
        (extended-step rows n dr few ms ps st go (reversed l.found.path) (leaves_extends l.found) i fit seen (up_to inside path)
        (ap (up_to inside) (append-nil (route (explore rows seeds goals removed)) ∙ m.same) ∙ l.same ∙ rev_vertices l.found.path))

    take_shut : (t : Shut rows n seeds goals removed) → Taken K.inner (failed removed (reached (explore rows seeds goals removed) removed))
    take_shut t =
        let c = cut removed (reached (explore rows seeds goals removed) removed) in
        subst (λ (s : State). Stepped rows n ms (length (used_edges (newest_first ps))) s) (ap (λ (b : Bool). cond b (stopped st c) (extended st (up_to inside []) i)) (sym (shut_separates t).is_cut_lem)) (cuts refl (shut_separates t))

    take_answer : Taken K.inner (answered (explore rows seeds goals removed) removed [])
    take_answer = ⊎_elim (λ m. subst (Taken K.inner) (sym (answer_found (explore rows seeds goals removed) removed [] m.is_found_lem)) (take_found m)) (λ t. subst (Taken K.inner) (sym (answer_failed (explore rows seeds goals removed) removed [] t.not_found)) (take_shut t)) (explored rows n dr seeds goals removed asked)

    -- STEP (a)
    pub link-taken : Stepped rows n ms (length (used_edges (newest_first ps))) (link_taken st i (run_end st.flat (minus st.built st.branch) i) (off_link rows st i (run_end st.flat (minus st.built st.branch) i)))
    link-taken = subst (λ (r : List ℕ × Found). Taken r.0 r.1) (λ t. (sym k.inner_is t, link_search rows seeds st.built (sym k.inner_is t) (sym k.s_is t) (sym k.t_is t))) take_answer
