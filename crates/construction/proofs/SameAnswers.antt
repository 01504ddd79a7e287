-- The search, the ears and the start give the same answers on rows and on the adjacency test that they stand for.
use Prim.Native.Nat.{ℕ, zero, suc, ◌+◌}
use mathlib.Core.Path.{◌≡◌, refl}
use mathlib.Core.Bool.{Bool, not}
use mathlib.Core.List.{List, [], ◌∷◌, ◌++◌}
use lib.Dec.{ltb}
use lib.ListN.{length, get_or, replicate}
use Rattle.vertexset.specs.declared.VertexSet.{VertexSet}
use Rattle.construction.specs.Sets.{stop, added, last_of}
use Rattle.construction.specs.Search.{Reach, visit, explore, route, back}
use Rattle.construction.specs.Ears.{Cut, no_cut, is_cut, Found, answered, way_out, back_from, detour, cycle, path_space, add_path, Eared, ears_on, ears}
use Rattle.construction.specs.Start.{Begun, broken, add_link, sorted, four_of, start_on, across, third_path, crossed, thirded, around, begin}
use Rattle.construction.specs.Steps.{State}
use Rattle.construction.specs.Construction as plain
use Rattle.construction.proofs.Standing.{Stands, Draws, choice, row_stands, empty_stands, plus-stands, minus-stands, common-stands, inserted-stands, single-stands, pair-stands, all-stands, set_stands, near-stands, members-same, count_same, least-same, after_same, empty-same, marked-drawn, code_bounds}
use Rattle.vertexset.specs.Set.{capacity}

-- ---- answers that are the same but for the words

pub record SameReach (r : Reach) (q : plain.Reach) : Type 0 where
  pub order : r.order ≡ q.order
  pub from : r.from ≡ q.from
  pub seeds : r.seeds ≡ q.seeds
  pub shut : Stands r.shut q.shut
  pub goal : r.goal ≡ q.goal
  pub last : r.last ≡ q.last

pub record SameCut (c : Cut) (d : plain.Cut) : Type 0 where
  pub removed : Stands c.removed d.removed
  pub side : Stands c.side d.side

pub record SameFound (f : Found) (g : plain.Found) : Type 0 where
  pub path : f.path ≡ g.path
  pub cut_by : SameCut f.cut_by g.cut_by

pub record SameEared (e : Eared) (f : plain.Eared) : Type 0 where
  pub flat : e.flat ≡ f.flat
  pub count : e.count ≡ f.count
  pub cut_by : SameCut e.cut_by f.cut_by

pub record SameBegun (s : Begun) (t : plain.Begun) : Type 0 where
  pub four : Stands s.four t.four
  pub flat : s.flat ≡ t.flat
  pub cut_by : SameCut s.cut_by t.cut_by

pub record SameState (s : State) (t : plain.State) : Type 0 where
  pub flat : s.flat ≡ t.flat
  pub branch : Stands s.branch t.branch
  pub built : Stands s.built t.built
  pub at : s.at ≡ t.at
  pub going : s.going ≡ t.going
  pub cut_by : SameCut s.cut_by t.cut_by

pub no_cut_lem : SameCut no_cut plain.no_cut
no_cut_lem = record { removed = empty_stands; side = empty_stands }

pub cut-same : {c : Cut} {d : plain.Cut} → SameCut c d → is_cut c ≡ plain.is_cut code_bounds d
cut-same h = λ i. not (empty-same h.side i)

route-same : {r : Reach} {q : plain.Reach} → SameReach r q → route r ≡ plain.route code_bounds q
route-same h = λ i. h.goal i ∷ back capacity (h.order i) (h.from i) (h.seeds i) (h.last i)

pub answered-same : {r : Reach} {q : plain.Reach} {removed : VertexSet} {m : ℕ → Bool} → SameReach r q → Stands removed m → {k l : List ℕ} → k ≡ l → SameFound (answered r removed k) (plain.answered code_bounds q m l)
answered-same h m e = choice SameFound (λ i. ltb (h.goal i) capacity)
    (record { path = λ i. route-same h i ++ e i; cut_by = no_cut_lem })
    (record { path = refl; cut_by = record { removed = m; side = minus-stands h.shut m } })

pub add_same : {f g k l : List ℕ} → f ≡ g → k ≡ l → add_path f k ≡ plain.add_path code_bounds g l
add_same d e = λ i. added path_space (d i) (stop ∷ e i)

module _ {rows : List ℕ} {adj : ℕ → ℕ → Bool} (d : Draws rows adj) where
  -- ---- the search

  visit-same : (k : ℕ) {goals shut : VertexSet} {g s : ℕ → Bool} {seeds seeds' : ℕ} {order order' from from' : List ℕ}
      → Stands goals g → seeds ≡ seeds' → order ≡ order' → from ≡ from' → Stands shut s → (h : ℕ)
      → SameReach (visit rows goals seeds k order from shut h) (plain.visit code_bounds adj g seeds' k order' from' s h)
  unfolding visit plain.visit
  visit-same zero hg e o f hs h = record { order = o; from = f; seeds = e; shut = hs; goal = refl; last = refl }
  visit-same (suc k) hg e o f hs h =
      let next = row_stands d (λ i. get_or (o i) h 0) in
      let goal = least-same (common-stands next hg) in
      let new = members-same (minus-stands next hs) in
      choice SameReach (λ i. ltb h (length (o i)))
      (choice SameReach (λ i. ltb (goal i) capacity)
      (record { order = o; from = f; seeds = e; shut = hs; goal = goal; last = refl })
      (visit-same k hg e (λ i. added capacity (o i) (new i)) (λ i. added capacity (f i) (replicate (length (new i)) h)) (plus-stands hs next) (h + 1)))
      (record { order = o; from = f; seeds = e; shut = hs; goal = refl; last = refl })

  pub explore-same : {seeds goals removed : VertexSet} {s g m : ℕ → Bool} → Stands seeds s → Stands goals g → Stands removed m
      → SameReach (explore rows seeds goals removed) (plain.explore code_bounds adj s g m)
  unfolding explore plain.explore
  explore-same hs hg hm =
      let all = members-same hs in
      visit-same capacity hg (λ i. length (all i)) all (λ i. replicate (length (all i)) 0) (plus-stands hs hm) 0

  -- ---- ears

  way_same : {n set : VertexSet} {m s : ℕ → Bool} → Stands n m → Stands set s → way_out rows n set ≡ plain.way_out code_bounds adj m s
  way_same hn hs =
      let outside = least-same (minus-stands hn hs) in
      let inside = least-same (common-stands (row_stands d outside) hs) in
      λ i. (inside i, outside i)

  back-same : {set : VertexSet} {s : ℕ → Bool} {e f : ℕ × ℕ} → Stands set s → e ≡ f → SameFound (back_from rows set e) (plain.back_from code_bounds adj s f)
  back-same h e =
      let x = single-stands (λ i. (e i).0) in
      choice SameFound (λ i. ltb (e i).0 capacity)
      (answered-same (explore-same (single-stands (λ i. (e i).1)) (minus-stands h x) x) x (λ i. (e i).0 ∷ []))
      (record { path = refl; cut_by = record { removed = empty_stands; side = h } })

  pub detour-same : {n set : VertexSet} {m s : ℕ → Bool} → Stands n m → Stands set s → SameFound (detour rows n set) (plain.detour code_bounds adj m s)
  unfolding detour plain.detour
  detour-same hn hs = back-same hs (way_same hn hs)

  cycle-same : SameFound (cycle rows) (plain.cycle code_bounds adj)
  unfolding cycle plain.cycle
  cycle-same =
      let zero_row = row_stands d {u = 0} refl in
      let first = single-stands (least-same zero_row) in
      let start = single-stands {v = 0} refl in
      choice SameFound (λ i. ltb (count_same zero_row i) 2)
      (record { path = refl; cut_by = record { removed = zero_row; side = start } })
      (answered-same (explore-same first (minus-stands zero_row first) start) start refl)

  ears-on : (f : ℕ) {full set : VertexSet} {p s : ℕ → Bool} {flat flat' : List ℕ} (k : ℕ) → Stands full p → flat ≡ flat' → Stands set s
      → SameEared (ears_on rows full f flat k set) (plain.ears_on code_bounds adj p f flat' k s)
  unfolding ears_on plain.ears_on
  ears-on zero k hf e hs = record { flat = e; count = refl; cut_by = no_cut_lem }
  ears-on (suc f) k hf e hs =
      let way = detour-same (near-stands d hs) hs in
      choice SameEared (empty-same (minus-stands hf hs))
      (record { flat = e; count = refl; cut_by = no_cut_lem })
      (choice SameEared (cut-same way.cut_by)
      (record { flat = e; count = refl; cut_by = way.cut_by })
      (ears-on f (k + 1) hf (add_same e way.path) (all-stands hs way.path)))

  pub ears-same : {full : VertexSet} {p : ℕ → Bool} → Stands full p → SameEared (ears rows full) (plain.ears code_bounds adj p)
  unfolding ears plain.ears
  ears-same h =
      choice SameEared (cut-same cycle-same.cut_by)
      (record { flat = refl; count = refl; cut_by = cycle-same.cut_by })
      (ears-on capacity 1 h (add_same {f = []} refl cycle-same.path) (all-stands empty_stands cycle-same.path))

  -- ---- the start

  link-same : {four : VertexSet} {f : ℕ → Bool} {g h : List ℕ} {u v w z : ℕ} → Stands four f → g ≡ h → u ≡ v → w ≡ z → add_link rows four g u w ≡ plain.add_link code_bounds adj f h v z
  link-same hf g e k = add_same g (route-same (explore-same (single-stands k) (single-stands e) (minus-stands hf (pair-stands e k))))

  sorted-same : {four : VertexSet} {f : ℕ → Bool} → Stands four f → sorted rows four ≡ plain.sorted code_bounds adj f
  unfolding sorted plain.sorted
  sorted-same h =
      let p = least-same h in
      let q = after_same h p in
      let r = after_same h q in
      let s = after_same h r in
      link-same h (link-same h (link-same h (link-same h (link-same h (link-same {g = []} h refl p q) p r) p s) q r) q s) r s

four_same : {t u a c : List ℕ} → t ≡ u → a ≡ c → Stands (four_of t a) (plain.four_of code_bounds u c)
four_same t a = inserted-stands (inserted-stands (pair-stands {u = 0} refl (λ i. get_or (t i) 0 0)) (λ i. get_or (a i) 0 0)) (λ i. last_of (a i))

-- the links of a start stand in the table of its three paths
start-same : {r s t u a c : List ℕ} → r ≡ s → t ≡ u → a ≡ c → SameBegun (start_on r t a) (plain.start_on code_bounds s u c)
start-same r t a = record {
  four = four_same t a;
  flat = sorted-same (marked-drawn (add_same (add_same (add_same {f = []} refl (λ i. 0 ∷ r i)) t) a)) (four_same t a);
  cut_by = no_cut_lem;
}

pub broken-same : {c : Cut} {e : plain.Cut} → SameCut c e → SameBegun (broken c) (plain.broken e)
broken-same h = record { four = empty_stands; flat = refl; cut_by = h }

crossed-same : {r s t u : List ℕ} {f : Found} {g : plain.Found} → r ≡ s → t ≡ u → SameFound f g → SameBegun (crossed r t f) (plain.crossed code_bounds s u g)
crossed-same r t h = choice SameBegun (cut-same h.cut_by) (broken-same h.cut_by) (start-same r t h.path)

module _ {rows : List ℕ} {adj : ℕ → ℕ → Bool} (d : Draws rows adj) where
  across-same : {r s t u : List ℕ} → r ≡ s → t ≡ u → SameFound (across rows r t) (plain.across code_bounds adj s u)
  across-same r t =
      let ends = pair-stands {u = 0} refl (λ i. get_or (t i) 0 0) in
      answered-same (explore-same d (minus-stands (set_stands t) ends) (minus-stands (set_stands r) ends) ends) ends refl

  third_same : {r s : List ℕ} → r ≡ s → SameFound (third_path rows r) (plain.third_path code_bounds adj s)
  third_same r =
      let start = single-stands {v = 0} refl in
      let out = single-stands (least-same (minus-stands (row_stands d {u = 0} refl) (set_stands r))) in
      answered-same (explore-same d out (minus-stands (set_stands r) start) start) start refl

  thirded-same : {r s : List ℕ} {f : Found} {g : plain.Found} → r ≡ s → SameFound f g → SameBegun (thirded rows r f) (plain.thirded code_bounds adj s g)
  thirded-same r h = choice SameBegun (cut-same h.cut_by) (broken-same h.cut_by) (crossed-same r h.path (across-same r h.path))

  around-same : {f : Found} {g : plain.Found} → SameFound f g → SameBegun (around rows f) (plain.around code_bounds adj g)
  around-same h = choice SameBegun (cut-same h.cut_by) (broken-same h.cut_by) (thirded-same h.path (third_same h.path))

  pub begin-same : SameBegun (begin rows) (plain.begin code_bounds adj)
  unfolding begin plain.begin
  begin-same =
      let zero_row = row_stands d {u = 0} refl in
      choice SameBegun (λ i. ltb (count_same zero_row i) 3) (broken-same (record { removed = zero_row; side = single-stands {v = 0} refl })) (around-same (cycle-same d))
