-- What a search found, as the code answers it: a path, or the cut; and how those take it that go on where nothing is cut. Assumes nothing.
use Prim.Native.Nat.{ℕ, ◌≤◌, ◌<◌}
use mathlib.Core.Logic.{◌≢◌, ◌⊎◌, inl, inr}
use mathlib.Core.Path.{◌≡◌, refl, sym, ap, subst, ◌∙◌}
use mathlib.Core.Bool.{Bool, true, false, cond}
use mathlib.Core.List.{List, [], ◌∷◌, ◌++◌, append-nil}
use native.Mathlib.Omega.{arith}
use lib.Dec.{ltb, eqb}
use lib.ListN.{length}
use borrow.Author.Tests.{lt-ltb, le-ltb, eq-eqb, eqb-true}
use Rattle.std.specs.Prelude.{Option, Some, None, Result, Ok, Err}
use Rattle.vertexset.specs.Set.{none, empty_set, count, capacity}
use Rattle.vertexset.specs.declared.VertexSet.{VertexSet}
use Rattle.graph.specs.Rows.{row_of}
use Rattle.search.specs.Code.{Vertices, path_of, path_room, search_space, left_in, answer_in, no_reach, route_in}
use Rattle.search.specs.declared.Reach.{Reach}
use Rattle.search.proofs.Lent.{answer_is, routed}
use Rattle.construction.specs.Sets.{minus, single, least}
use Rattle.construction.specs.Search as searching
use Rattle.construction.specs.Search.{explore, route, is_found, reached}
use Rattle.construction.specs.Ears as construction
use Rattle.construction.specs.Ears.{is_cut, found, failed, answered, way_out, detour, cycle}
use Rattle.detours.specs.Code.{cut_of, found_by, found_of, settled_of, settled, way_of, answered_in, back_by, detour_by, detour_in, cycle_by, cycle_in}
use Rattle.detours.specs.declared.Cut.{Cut}
use Rattle.detours.proofs.Routes.{route-short}

abbrev pub Found : Type 0
Found = Result Vertices Cut

-- ---- the two answers

module _ (f : construction.Found) where
  pub found_path : {p : Vertices} → Ok p ≡ found_of f → p.items ≡ f.path
  found_path {p} e = go f.path e
    where
      go : (l : List ℕ) → Ok p ≡ found_by l f.cut_by → p.items ≡ l
      go [] q = cc
      go (v ∷ l) q = let y : p ≡ path_of (v ∷ l) = cc in ap (λ (z : Vertices). z.items) y

  found_some : {p : Vertices} → Ok p ≡ found_of f → f.path ≡ [] → ⊥
  found_some {p} e h = go (e ∙ ap (λ (l : List ℕ). found_by l f.cut_by) h)
    where
      go : Ok p ≡ found_by [] f.cut_by → ⊥
      go q = cc

-- a route is never empty
found_route : (m : searching.Reach) (more : List ℕ) {p : Vertices} → p.items ≡ route m ++ more → Ok p ≡ found_of (found (route m ++ more))
found_route m more e = ap (λ (k : List ℕ). Ok (path_of k)) e

-- ---- the same, for those that go on where nothing is cut

module _ (f : construction.Found) where
  abbrev by_test : Bool → Found
  by_test b = cond b (Err (cut_of f.cut_by)) (Ok (path_of f.path))

  told_by : {b : Bool} {x : Found} → is_cut f.cut_by ≡ b → x ≡ settled_of f → x ≡ by_test b
  told_by t e = e ∙ ap by_test t

  pub ok_test : {p : Vertices} → Ok p ≡ settled_of f → is_cut f.cut_by ≡ false
  ok_test {p} e = go (is_cut f.cut_by) refl
    where
      go : (b : Bool) → is_cut f.cut_by ≡ b → is_cut f.cut_by ≡ false
      go true t = let z = told_by t e in cc
      go false t = t

  pub ok_path : {p : Vertices} → Ok p ≡ settled_of f → p.items ≡ f.path
  ok_path {p} e = let z = told_by (ok_test e) e in let y : p ≡ path_of f.path = cc in ap (λ (v : Vertices). v.items) y

  pub err_test : {c : Cut} → Err c ≡ settled_of f → is_cut f.cut_by ≡ true
  err_test {c} e = go (is_cut f.cut_by) refl
    where
      go : (b : Bool) → is_cut f.cut_by ≡ b → is_cut f.cut_by ≡ true
      go true t = t
      go false t = let z = told_by t e in cc

  pub err_cut : {c : Cut} → Err c ≡ settled_of f → c ≡ cut_of f.cut_by
  err_cut {c} e = let z = told_by (err_test e) e in cc

pub found_ok : (l : List ℕ) {p : Vertices} → p.items ≡ l → Ok p ≡ settled_of (found l)
unfolding none
found_ok l e = ap (λ (k : List ℕ). Ok (path_of k)) e

-- an answer has a path or a cut, and never both
abbrev pub Either : construction.Found → Type 0
Either f = (f.path ≡ []) ⊎ (is_cut f.cut_by ≡ false)

settled-is : (l : List ℕ) (c : construction.Cut) → Either (record { path = l; cut_by = c }) → settled (found_by l c) ≡ settled_of (record { path = l; cut_by = c })
settled-is [] c h = refl
settled-is (v ∷ l) c (inl e) = cc
settled-is (v ∷ l) c (inr t) = rw t

settles : (f : construction.Found) → Either f → settled (found_of f) ≡ settled_of f
settles f h = settled-is f.path f.cut_by h

module _ (m : searching.Reach) (removed : VertexSet) (more : List ℕ) where
  pub either_answered : Either (answered m removed more)
  unfolding none
  either_answered = go (is_found m)
    where
      go : (b : Bool) → Either (cond b (found (route m ++ more)) (failed removed (reached m removed)))
      go true = inr refl
      go false = inl refl

-- ---- a space of the right size, and one of another

-- no path, and nobody on a side
abbrev nothing : VertexSet → construction.Found
nothing removed = failed removed (minus empty_set removed)

module _ (space : List ℕ) (m : searching.Reach) (removed : VertexSet) (more : List ℕ) where
  by_size : {b : Bool} → eqb (length space) search_space ≡ b → cond b (answered m removed more) (nothing removed) ≡ answered_in space m removed more
  by_size t = ap (λ (b : Bool). cond b (answered m removed more) (nothing removed)) (sym t)

  pub answered-sized : length space ≡ search_space → answered_in space m removed more ≡ answered m removed more
  answered-sized h = sym (by_size (eq-eqb (length space) search_space h))

  by_found : {b : Bool} → is_found m ≡ b → cond b (found (route m ++ more)) (failed removed (reached m removed)) ≡ answered m removed more
  by_found t = ap (λ (b : Bool). cond b (found (route m ++ more)) (failed removed (reached m removed))) (sym t)

-- what is settled of an answer, in any space
module _ (space : List ℕ) where
  either_in : (m : searching.Reach) (removed : VertexSet) (more : List ℕ) → Either (answered_in space m removed more)
  either_in m removed more = go (eqb (length space) search_space)
    where
      go : (b : Bool) → Either (cond b (answered m removed more) (nothing removed))
      go true = either_answered m removed more
      go false = inl refl

  pub answered-settles : (m : searching.Reach) (removed : VertexSet) (more : List ℕ) → settled (found_of (answered_in space m removed more)) ≡ settled_of (answered_in space m removed more)
  answered-settles m removed more = settles (answered_in space m removed more) (either_in m removed more)

unsized : (space : List ℕ) (m : searching.Reach) → eqb (length space) search_space ≡ false → {r : Reach} → r ≡ answer_in space m → r ≡ no_reach
unsized space m t e = e ∙ rw t

-- ---- a search, answered

module _ (rows space : List ℕ) (seeds goals removed : VertexSet) {r : Reach} (e : r ≡ answer_in space (explore rows seeds goals removed)) where
  abbrev here : searching.Reach
  here = explore rows seeds goals removed

  met : length space ≡ search_space → r.goal < capacity → is_found here ≡ true
  met size h = lt-ltb here.goal capacity (subst (λ (x : Reach). x.goal < capacity) (answer_is rows space seeds goals removed size e) h)

  pub path_in : {out : List ℕ} → out ≡ left_in space here → {p : Vertices} → r.goal < capacity → p.items ≡ route_in out r
      → Ok p ≡ found_of (answered_in space here removed [])
  path_in {out} o {p} h q = go (eqb (length space) search_space) refl
    where
      go : (b : Bool) → eqb (length space) search_space ≡ b → Ok p ≡ found_of (answered_in space here removed [])
      go true t =
          let size : length space ≡ search_space = eqb-true (length space) search_space t in
          let w : p.items ≡ route here ++ [] = q ∙ routed rows space seeds goals removed size o e ∙ sym (append-nil (route here)) in
          found_route here [] w ∙ ap found_of (by_found space here removed [] (met size h) ∙ by_size space here removed [] t)
      go false t = let z = ap (λ (x : Reach). x.goal) (unsized space here t e) in absurd (omega arith)

  pub found_in : {out : List ℕ} → out ≡ left_in space here → {p : Vertices} → r.goal < capacity → p.items ≡ route_in out r
      → Ok p ≡ settled_of (answered_in space here removed [])
  found_in o h q = ap settled (path_in o h q) ∙ answered-settles space here removed []

-- ---- one vertex more; a search that failed leaves no path

-- there is no path, whatever goes on; or the path that goes on
data Goes (m : searching.Reach) (x : ℕ) (f g : construction.Found) : Type 0 where
  stays : f.path ≡ [] → g ≡ f → Goes m x f g
  goes : f ≡ found (route m) → g ≡ found (route m ++ (x ∷ [])) → Goes m x f g

module _ (space : List ℕ) (m : searching.Reach) (removed : VertexSet) (x : ℕ) where
  abbrev one : construction.Found
  one = answered_in space m removed []

  abbrev two : construction.Found
  two = answered_in space m removed (x ∷ [])

  ways : Goes m x one two
  ways = go (eqb (length space) search_space) refl (is_found m) refl
    where
      go : (b : Bool) → eqb (length space) search_space ≡ b → (d : Bool) → is_found m ≡ d → Goes m x one two
      go true t true u = goes
          (sym (by_found space m removed [] u ∙ by_size space m removed [] t) ∙ ap found (append-nil (route m)))
          (sym (by_found space m removed (x ∷ []) u ∙ by_size space m removed (x ∷ []) t))
      go true t false u =
          let o = by_found space m removed [] u ∙ by_size space m removed [] t in
          stays (ap (λ (y : construction.Found). y.path) (sym o)) (sym (by_found space m removed (x ∷ []) u ∙ by_size space m removed (x ∷ []) t) ∙ o)
      go false t d u =
          stays (ap (λ (y : construction.Found). y.path) (sym (by_size space m removed [] t))) (sym (by_size space m removed (x ∷ []) t) ∙ by_size space m removed [] t)

  module _ {p : Vertices} (e : Ok p ≡ found_of one) where
    pub grows_room : length p.items < path_room
    grows_room = go ways
      where
        go : Goes m x one two → length p.items < path_room
        go (stays a b) = absurd (found_some one e a)
        go (goes a b) = let z = ap length (found_path one e ∙ ap (λ (y : construction.Found). y.path) a) in omega (arith, route-short m)

    pub grows_on : {q : Vertices} → q.items ≡ p.items ++ (x ∷ []) → Ok q ≡ found_of two
    grows_on {q} k = go ways
      where
        go : Goes m x one two → Ok q ≡ found_of two
        go (stays a b) = absurd (found_some one e a)
        go (goes a b) = found_route m (x ∷ []) (k ∙ ap (λ (l : List ℕ). l ++ (x ∷ [])) (found_path one e ∙ ap (λ (y : construction.Found). y.path) a)) ∙ ap found_of (sym b)

  pub grows_none : {c : Cut} → Err c ≡ found_of one → Err c ≡ found_of two
  grows_none {c} e = go ways
    where
      go : Goes m x one two → Err c ≡ found_of two
      go (stays a b) = e ∙ ap found_of (sym b)
      go (goes a b) = let z : Err c ≡ found_of (found (route m)) = e ∙ ap found_of a in cc

  -- the same of what is settled, be the path empty
  module _ {p : Vertices} (e : Ok p ≡ settled_of one) where
    pub goes_room : length p.items < path_room
    goes_room = go ways
      where
        go : Goes m x one two → length p.items < path_room
        go (stays a b) = let z = ap length (ok_path one e ∙ a) in omega arith
        go (goes a b) = let z = ap length (ok_path one e ∙ ap (λ (y : construction.Found). y.path) a) in omega (arith, route-short m)

    pub goes_none : length p.items ≡ 0 → Ok p ≡ settled_of two
    goes_none h = go ways
      where
        go : Goes m x one two → Ok p ≡ settled_of two
        go (stays a b) = e ∙ ap settled_of (sym b)
        go (goes a b) = let z = sym h ∙ ap length (ok_path one e ∙ ap (λ (y : construction.Found). y.path) a) in absurd (omega arith)

    pub goes_on : length p.items ≢ 0 → {q : Vertices} → q.items ≡ p.items ++ (x ∷ []) → Ok q ≡ settled_of two
    goes_on h {q} k = go ways
      where
        go : Goes m x one two → Ok q ≡ settled_of two
        go (stays a b) = absurd (h (ap length (ok_path one e ∙ a)))
        go (goes a b) =
            found_ok (route m ++ (x ∷ [])) (k ∙ ap (λ (l : List ℕ). l ++ (x ∷ [])) (ok_path one e ∙ ap (λ (y : construction.Found). y.path) a)) ∙ ap settled_of (sym b)

-- ---- out and back: what comes of the search, whatever is asked of it

module _ (e : ℕ × ℕ) where
  abbrev way_by : Bool → Option (ℕ × ℕ)
  way_by b = cond b (Some e) None

  no_way : None ≡ way_of e → ltb e.0 capacity ≡ false
  no_way h = go (ltb e.0 capacity) refl
    where
      go : (b : Bool) → ltb e.0 capacity ≡ b → ltb e.0 capacity ≡ false
      go true t = let z = h ∙ ap way_by t in cc
      go false t = t

  some_way : {w : ℕ × ℕ} → Some w ≡ way_of e → (ltb e.0 capacity ≡ true) × (w ≡ e)
  some_way {w} h = go (ltb e.0 capacity) refl
    where
      go : (b : Bool) → ltb e.0 capacity ≡ b → (ltb e.0 capacity ≡ true) × (w ≡ e)
      go true t = let z = h ∙ ap way_by t in (t, cc)
      go false t = let z = h ∙ ap way_by t in cc

module _ {A : Type 0} (told : searching.Reach → VertexSet → List ℕ → A) (none : A) (rows : List ℕ) where
  back_on : (set : VertexSet) (e w : ℕ × ℕ) → Some w ≡ way_of e
      → told (explore rows (single w.1) (minus set (single w.0)) (single w.0)) (single w.0) (w.0 ∷ []) ≡ back_by told none rows set e
  back_on set e w h = let k : (ltb e.0 capacity ≡ true) × (w ≡ e) = some_way e h in rw (k.0, k.1)

  back_none : (set : VertexSet) (e : ℕ × ℕ) → None ≡ way_of e → none ≡ back_by told none rows set e
  back_none set e h = rw (no_way e h)

  module _ (n set : VertexSet) where
    pub detour-found : {x y : ℕ} → Some (x, y) ≡ way_of (way_out rows n set) → (a b g : VertexSet) → a ≡ single y → b ≡ single x → g ≡ minus set b
        → told (explore rows a g (single x)) (single x) (x ∷ []) ≡ detour_by told none rows n set
    unfolding detour_by
    detour-found {x} {y} h a b g p q r = rw (p, r, q) (back_on set (way_out rows n set) (x, y) h)

    pub detour-none : None ≡ way_of (way_out rows n set) → none ≡ detour_by told none rows n set
    unfolding detour_by
    detour-none h = back_none set (way_out rows n set) h

  -- ---- and around vertex 0

  module _ (row : VertexSet) (e : row ≡ row_of rows 0) (n : ℕ) (k : n ≡ count row.words) where
    counted : n ≡ count (row_of rows 0).words
    counted = k ∙ ap (λ (s : VertexSet). count s.words) e

    pub cycle-few : n < 2 → none ≡ cycle_by told none rows
    unfolding cycle_by
    cycle-few h = rw (← counted, lt-ltb n 2 h)

    pub cycle-found : (x : ℕ) (a b g : VertexSet) → 2 ≤ n → x ≡ least row → a ≡ single x → b ≡ single x → g ≡ minus row b
        → told (explore rows a g (single 0)) (single 0) (0 ∷ []) ≡ cycle_by told none rows
    unfolding cycle_by
    cycle-found x a b g h l p q r = rw (← counted, le-ltb n 2 h, p, r, q, l, e)

-- ---- what is settled of these two, in any space

module _ (space rows : List ℕ) where
  either_back : (set : VertexSet) (e : ℕ × ℕ) → Either (back_by (answered_in space) (failed empty_set set) rows set e)
  either_back set e = go (ltb e.0 capacity)
    where
      go : (b : Bool) → Either (cond b (answered_in space (explore rows (single e.1) (minus set (single e.0)) (single e.0)) (single e.0) (e.0 ∷ [])) (failed empty_set set))
      go true = either_in space (explore rows (single e.1) (minus set (single e.0)) (single e.0)) (single e.0) (e.0 ∷ [])
      go false = inl refl

  either_detour : (n set : VertexSet) → Either (detour_in space rows n set)
  unfolding detour_by
  either_detour n set = either_back set (way_out rows n set)

  either_cycle : Either (cycle_in space rows)
  unfolding cycle_by
  either_cycle = go (ltb (count (row_of rows 0).words) 2)
    where
      go : (b : Bool) → Either (cond b (failed (row_of rows 0) (single 0))
          (answered_in space (explore rows (single (least (row_of rows 0))) (minus (row_of rows 0) (single (least (row_of rows 0)))) (single 0)) (single 0) (0 ∷ [])))
      go true = inl refl
      go false = either_in space (explore rows (single (least (row_of rows 0))) (minus (row_of rows 0) (single (least (row_of rows 0)))) (single 0)) (single 0) (0 ∷ [])

  pub detour-settles : (n set : VertexSet) → settled (found_of (detour_in space rows n set)) ≡ settled_of (detour_in space rows n set)
  detour-settles n set = settles (detour_in space rows n set) (either_detour n set)

  pub cycle-settles : settled (found_of (cycle_in space rows)) ≡ settled_of (cycle_in space rows)
  cycle-settles = settles (cycle_in space rows) either_cycle

-- ---- in a space of the right size the definition's answer comes

module _ (space : List ℕ) (size : length space ≡ search_space) (rows : List ℕ) where
  told-sized : answered_in space ≡ answered
  told-sized i m removed more = answered-sized space m removed more size i

  pub detour-sized : (n set : VertexSet) → detour_in space rows n set ≡ detour rows n set
  unfolding detour detour_by
  detour-sized n set = ap (λ (told : searching.Reach → VertexSet → List ℕ → construction.Found). back_by told (failed empty_set set) rows set (way_out rows n set)) told-sized

  pub cycle-sized : cycle_in space rows ≡ cycle rows
  unfolding cycle cycle_by
  cycle-sized =
      ap (λ (told : searching.Reach → VertexSet → List ℕ → construction.Found).
      cond (ltb (count (row_of rows 0).words) 2) (failed (row_of rows 0) (single 0)) (told (explore rows (single (least (row_of rows 0))) (minus (row_of rows 0) (single (least (row_of rows 0)))) (single 0)) (single 0) (0 ∷ [])))
      told-sized

  pub detour-told : (n set : VertexSet) {f : Found} → f ≡ settled_of (detour_in space rows n set) → f ≡ settled_of (detour rows n set)
  detour-told n set e = e ∙ ap settled_of (detour-sized n set)

  pub cycle-told : {f : Found} → f ≡ settled_of (cycle_in space rows) → f ≡ settled_of (cycle rows)
  cycle-told e = e ∙ ap settled_of cycle-sized

  -- the same, from the search's own answer
  pub detour-settled : (n set : VertexSet) {x s : Found} → x ≡ found_of (detour_in space rows n set) → s ≡ settled x → s ≡ settled_of (detour rows n set)
  detour-settled n set e q = detour-told n set (q ∙ ap settled e ∙ detour-settles space rows n set)

  pub cycle-settled : {x s : Found} → x ≡ found_of (cycle_in space rows) → s ≡ settled x → s ≡ settled_of (cycle rows)
  cycle-settled e q = cycle-told (q ∙ ap settled e ∙ cycle-settles space rows)

pub answered-told : (space : List ℕ) → length space ≡ search_space → (m : searching.Reach) (removed : VertexSet) (more : List ℕ) {f : Found}
    → f ≡ settled_of (answered_in space m removed more) → f ≡ settled_of (answered m removed more)
answered-told space size m removed more e = e ∙ ap settled_of (answered-sized space m removed more size)

pub answered-settled : (space : List ℕ) → length space ≡ search_space → (m : searching.Reach) (removed : VertexSet) (more : List ℕ) {f : construction.Found} → answered m removed more ≡ f → {x s : Found}
    → x ≡ found_of (answered_in space m removed more) → s ≡ settled x → s ≡ settled_of f
answered-settled space size m removed more w e q = answered-told space size m removed more (q ∙ ap settled e ∙ answered-settles space m removed more) ∙ ap settled_of w
