-- The invariant of a search: what stands at the places of `order` and `from`, and what is shut. It holds where the search begins,
-- each visit keeps it, and where the search ends it met a goal or visited all that it reached.
use mathlib.Core.Path.{◌≡◌, refl, sym, ◌∙◌}
use mathlib.Core.Logic.{inl, inr, ◌⊎◌, ⊎_elim}
use mathlib.Core.Bool.{Bool, true, false, cond}
use mathlib.Core.List.{List, ◌++◌}
use Prim.Native.Nat.{ℕ, ◌≤◌, ◌<◌, ◌+◌, ◌-◌, zero, suc}
use native.Mathlib.Omega.{arith}
use native.Mathlib.Decide.{ℕ_discrete}
use lib.Dec.{ltb}
use lib.ListN.{length, get_or, replicate, length-append, length-replicate, get_or-replicate, get_or-append}
use borrow.Author.Tests.{ltb-true, ltb-false}
use Rattle.vertexset.specs.Set.{has, capacity}
use Rattle.vertexset.specs.declared.VertexSet.{VertexSet}
use Rattle.graph.specs.Rows.{adjacent_in, row_of, rows_graph}
use Rattle.connectivity.specs.Lists.{In, NoDup}
use Rattle.connectivity.proofs.Lists.{in_append, in_left, in_right, nodup_append, at_most, below?, true?}
use Rattle.connectivity.proofs.Edges.{edge-high}
use Rattle.construction.specs.Sets.{plus, minus, common, members, least, added}
use Rattle.construction.specs.Search.{Reach, reach, visit, explore}
use Rattle.construction.proofs.Basics.{Drawn, Sized, On, Asked}
use Rattle.construction.proofs.Places.{place_in, in_place, same_place, place_past}
use Rattle.construction.proofs.SetLaws.{sized_plus, sized_minus, sized_row, plus-on, on_plus, minus-on, on_minus, common-on, on_common, members-in, in_members, members-nodup, least_on, least-none, row_on, on_row, added-room}

-- the vertex at the place i was reached from one that stands before it and is among the h visited
pub record From (rows order from : List ℕ) (h i : ℕ) : Type 0 where
  pub earlier : get_or from i 0 < i
  pub visited : get_or from i 0 < h
  pub edge : adjacent_in rows (get_or order (get_or from i 0) 0) (get_or order i 0) ≡ true

-- h vertices are visited, and s seeds stand first
pub record Visited (rows : List ℕ) (n : ℕ) (seeds goals removed : VertexSet) (s : ℕ) (order from : List ℕ) (shut : VertexSet) (h : ℕ) : Type 0 where
  pub nodup : NoDup order
  pub low : (w : ℕ) → In w order → w < n
  pub same_length : length order ≡ length from
  pub begun : h ≤ length order
  pub seeds_fit : s ≤ length order
  pub seed_at : (i : ℕ) → i < s → On seeds (get_or order i 0)
  pub seed_place : (w : ℕ) → On seeds w → (i : ℕ) × (i < s) × (get_or order i 0 ≡ w)
  pub reached : (i : ℕ) → s ≤ i → i < length order → From rows order from h i
  pub sized : Sized shut
  pub shut_in : (w : ℕ) → On shut w → In w order ⊎ On removed w
  pub in_shut : (w : ℕ) → In w order → On shut w
  pub removed-shut : (w : ℕ) → On removed w → On shut w
  pub no_goal : (w : ℕ) → In w order → ¬ On goals w
  pub no_removed : (w : ℕ) → In w order → ¬ On removed w
  pub done : (i : ℕ) → i < h → (v : ℕ) → adjacent_in rows (get_or order i 0) v ≡ true → ¬ On removed v → In v order

-- a goal is next to the vertex at the last place
pub record AtGoal (rows : List ℕ) (goals : VertexSet) (r : Reach) : Type 0 where
  pub found : r.goal < capacity
  pub goal : On goals r.goal
  pub here : r.last < length r.order
  pub edge : adjacent_in rows (get_or r.order r.last 0) r.goal ≡ true

-- every vertex reached is visited
pub record AtEnd (r : Reach) : Type 0 where
  pub none : r.goal ≡ capacity
  pub all : r.last ≡ length r.order

pub record Ended (rows : List ℕ) (n : ℕ) (seeds goals removed : VertexSet) (r : Reach) : Type 0 where
  pub visited : Visited rows n seeds goals removed r.seeds r.order r.from r.shut r.last
  pub ending : AtGoal rows goals r ⊎ AtEnd r

-- the list has the members of the set, each once
record Lists (s : VertexSet) (l : List ℕ) : Type 0 where
  pub nodup : NoDup l
  pub sound : (w : ℕ) → In w l → On s w
  pub all : (w : ℕ) → On s w → In w l

-- The laws below are about any such list: `members` of a set unfolds to as many tests as a set has places.
listed : (s : VertexSet) → Sized s → Lists s (members s)
listed s z = record { nodup = members-nodup s; sound = members-in s; all = λ w. in_members s w z }

choose : (P : Reach → Type 0) (b : Bool) (x y : Reach) → (b ≡ true → P x) → (b ≡ false → P y) → P (cond b x y)
choose P true x y f g = f refl
choose P false x y f g = g refl

-- what one visit does: nothing where all are visited; else it ends at a goal or goes on
module _ (rows : List ℕ) (goals : VertexSet) (s k : ℕ) (order from : List ℕ) (shut : VertexSet) (h : ℕ) where
  abbrev row : VertexSet
  row = row_of rows (get_or order h 0)

  abbrev nothing : Reach
  nothing = reach order from s shut capacity h

  abbrev ended : Reach
  ended = reach order from s shut (least (common row goals)) h

  abbrev going : Reach
  going = visit rows goals s k (added capacity order (members (minus row shut))) (added capacity from (replicate (length (members (minus row shut))) h)) (plus shut row) (h + 1)

  visit-one : (P : Reach → Type 0) → (ltb h (length order) ≡ false → P nothing) → (ltb h (length order) ≡ true → ltb (least (common row goals)) capacity ≡ true → P ended)
      → (ltb h (length order) ≡ true → ltb (least (common row goals)) capacity ≡ false → P going) → P (visit rows goals s (suc k) order from shut h)
  unfolding visit
  visit-one P none goal more =
      choose P (ltb h (length order)) (cond (ltb (least (common row goals)) capacity) ended going) nothing
      (λ e. choose P (ltb (least (common row goals)) capacity) ended going (goal e) (more e)) none

-- a place that was there, and a new one
from_kept : (rows order from p q : List ℕ) (h i : ℕ) → length order ≡ length from → i < length order → From rows order from h i → From rows (order ++ p) (from ++ q) (h + 1) i
from_kept rows order from p q h i e l f =
    let g : get_or (from ++ q) i 0 ≡ get_or from i 0 = get_or-append from q 0 i (omega arith) in
    record {
      earlier = rw g f.earlier;
      visited = rw g (omega arith);
      edge = rw (g, get_or-append order p 0 i l, get_or-append order p 0 (get_or from i 0) (omega arith)) f.edge;
    }

from_new : (rows order from fresh : List ℕ) (h i : ℕ) → length order ≡ length from → h < length order → length order ≤ i → i < length order + length fresh
    → ((w : ℕ) → In w fresh → adjacent_in rows (get_or order h 0) w ≡ true) → From rows (order ++ fresh) (from ++ replicate (length fresh) h) (h + 1) i
from_new rows order from fresh h i e here l m f =
    let g : get_or (from ++ replicate (length fresh) h) i 0 ≡ h = place_past from (replicate (length fresh) h) i (omega arith) ∙ get_or-replicate (length fresh) (i - length from) h 0 (omega arith) in
    record {
      earlier = rw g (omega arith);
      visited = rw g (omega arith);
      edge = rw (g, get_or-append order fresh 0 h here, place_past order fresh i l) (f (get_or fresh (i - length order) 0) (place_in fresh (i - length order) (omega arith)));
    }

module _ (rows : List ℕ) (n : ℕ) (d : Drawn rows n) (seeds goals removed : VertexSet) (a : Asked n seeds goals removed) where
  -- the places of the seeds
  first_places : (l : List ℕ) → Lists seeds l → Visited rows n seeds goals removed (length l) l (replicate (length l) 0) (plus seeds removed) 0
  first_places l m = record {
    nodup = m.nodup;
    low = λ w k. a.low w (m.sound w k);
    same_length = sym (length-replicate (length l) 0);
    begun = omega arith;
    seeds_fit = omega arith;
    seed_at = λ i k. m.sound (get_or l i 0) (place_in l i k);
    seed_place = λ w o. in_place w l (m.all w o);
    reached = λ i k j. absurd (omega arith);
    sized = sized_plus seeds removed a.seeds_sized a.removed-sized;
    shut_in = λ w o. ⊎_elim (λ k. inl (m.all w k)) inr (plus-on seeds removed a.seeds_sized a.removed-sized w o);
    in_shut = λ w k. on_plus seeds removed a.seeds_sized a.removed-sized w (inl (m.sound w k));
    removed-shut = λ w o. on_plus seeds removed a.seeds_sized a.removed-sized w (inr o);
    no_goal = λ w k. a.no_goal w (m.sound w k);
    no_removed = λ w k. a.no_removed w (m.sound w k);
    done = λ i k. absurd (omega arith);
  }

  -- the goals among the neighbours
  module _ (u : ℕ) where
    goals_sized : Sized (common (row_of rows u) goals)
    goals_sized = sized_minus (row_of rows u) (minus (row_of rows u) goals) (sized_row rows u d.words) (sized_minus (row_of rows u) goals (sized_row rows u d.words) a.goals_sized)

    no_goals : ltb (least (common (row_of rows u) goals)) capacity ≡ false → (w : ℕ) → On (row_of rows u) w → ¬ On goals w
    no_goals e w o g = least-none (common (row_of rows u) goals) goals_sized e w (on_common (row_of rows u) goals (sized_row rows u d.words) a.goals_sized w o g)

    one_goal : ltb (least (common (row_of rows u) goals)) capacity ≡ true → On (row_of rows u) (least (common (row_of rows u) goals)) × On goals (least (common (row_of rows u) goals))
    one_goal e = common-on (row_of rows u) goals (sized_row rows u d.words) a.goals_sized (least (common (row_of rows u) goals)) (least_on (common (row_of rows u) goals) goals_sized e)

  at_goal : (s : ℕ) (order from : List ℕ) (shut : VertexSet) (h : ℕ) → h < length order → ltb (least (common (row_of rows (get_or order h 0)) goals)) capacity ≡ true
      → AtGoal rows goals (reach order from s shut (least (common (row_of rows (get_or order h 0)) goals)) h)
  at_goal s order from shut h l e = record {
    found = ltb-true (least (common (row_of rows (get_or order h 0)) goals)) capacity e;
    goal = (one_goal (get_or order h 0) e).1;
    here = l;
    edge = row_on rows (get_or order h 0) (least (common (row_of rows (get_or order h 0)) goals)) (one_goal (get_or order h 0) e).0;
  }

  -- one more is visited
  module _ (s : ℕ) (order from : List ℕ) (shut : VertexSet) (h : ℕ) (v : Visited rows n seeds goals removed s order from shut h) (here : h < length order)
      (fresh : List ℕ) (m : Lists (minus (row_of rows (get_or order h 0)) shut) fresh) where
    abbrev at : ℕ
    at = get_or order h 0

    abbrev next : VertexSet
    next = row_of rows at

    next-sized : Sized next
    next-sized = sized_row rows at d.words

    fresh_on : (w : ℕ) → In w fresh → On next w × (¬ On shut w)
    fresh_on w k = minus-on next shut next-sized v.sized w (m.sound w k)

    fresh_edge : (w : ℕ) → In w fresh → adjacent_in rows at w ≡ true
    fresh_edge w k = row_on rows at w (fresh_on w k).0

    more_nodup : NoDup (order ++ fresh)
    more_nodup = nodup_append order fresh v.nodup m.nodup (λ w j k. (fresh_on w k).1 (v.in_shut w j))

    more_low : (w : ℕ) → In w (order ++ fresh) → w < n
    more_low w m = ⊎_elim (v.low w) (λ k. edge-high (rows_graph n rows) d.simple at w (fresh_edge w k)) (in_append w order fresh m)

    room : length order + length fresh ≤ capacity
    room = omega (arith, at_most n (order ++ fresh) more_nodup more_low, length-append order fresh, d.low)

    more_sized : Sized (plus shut next)
    more_sized = sized_plus shut next v.sized next-sized

    more_shut : (w : ℕ) → On shut w ⊎ On next w → On (plus shut next) w
    more_shut = on_plus shut next v.sized next-sized

    old : (w : ℕ) → On shut w → In w (order ++ fresh) ⊎ On removed w
    old w o = ⊎_elim (λ m. inl (in_left w order fresh m)) inr (v.shut_in w o)

    is_fresh : (w : ℕ) → On next w → ¬ On shut w → In w fresh
    is_fresh w o k = m.all w (on_minus next shut next-sized v.sized w o k)

    neighbour : (w : ℕ) → On next w → In w (order ++ fresh) ⊎ On removed w
    neighbour w o = go (true? (has shut.words w))
      where
        go : Dec (On shut w) → In w (order ++ fresh) ⊎ On removed w
        go (yes m) = old w m
        go (no m) = inl (in_right w order fresh (is_fresh w o m))

    more_in : (w : ℕ) → On (plus shut next) w → In w (order ++ fresh) ⊎ On removed w
    more_in w o = ⊎_elim (old w) (neighbour w) (plus-on shut next v.sized next-sized w o)

    more_done : (i : ℕ) → i < h + 1 → (w : ℕ) → adjacent_in rows (get_or (order ++ fresh) i 0) w ≡ true → ¬ On removed w → In w (order ++ fresh)
    more_done i l w e r = go (ℕ_discrete i h) (rw (get_or-append order fresh 0 i (omega arith)) at e)
      where
        go : Dec (i ≡ h) → adjacent_in rows (get_or order i 0) w ≡ true → In w (order ++ fresh)
        go (yes j) k = ⊎_elim (λ m. m) (λ m. absurd (r m)) (neighbour w (on_row rows at w (rw j at k)))
        go (no j) k = in_left w order fresh (v.done i (omega arith) w k r)

    abbrev farther : List ℕ
    farther = from ++ replicate (length fresh) h

    more_reached : (i : ℕ) → s ≤ i → i < length (order ++ fresh) → From rows (order ++ fresh) farther (h + 1) i
    more_reached i l j = go (below? i (length order))
      where
        go : Dec (i < length order) → From rows (order ++ fresh) farther (h + 1) i
        go (yes k) = from_kept rows order from fresh (replicate (length fresh) h) h i v.same_length k (v.reached i l k)
        go (no k) = from_new rows order from fresh h i v.same_length here (omega arith) (omega (arith, length-append order fresh)) fresh_edge

    more : ((w : ℕ) → On next w → ¬ On goals w) → Visited rows n seeds goals removed s (order ++ fresh) farther (plus shut next) (h + 1)
    more g = record {
      nodup = more_nodup;
      low = more_low;
      same_length = omega (arith, length-append order fresh, length-append from (replicate (length fresh) h), length-replicate (length fresh) h, v.same_length);
      begun = omega (arith, length-append order fresh);
      seeds_fit = omega (arith, length-append order fresh, v.seeds_fit);
      seed_at = λ i l. rw (get_or-append order fresh 0 i (omega (arith, v.seeds_fit))) (v.seed_at i l);
      seed_place = λ w o. let r = v.seed_place w o in (r.0, r.1, get_or-append order fresh 0 r.0 (omega (arith, v.seeds_fit)) ∙ r.2);
      reached = more_reached;
      sized = more_sized;
      shut_in = more_in;
      in_shut = λ w m. more_shut w (⊎_elim (λ k. inl (v.in_shut w k)) (λ k. inr (fresh_on w k).0) (in_append w order fresh m));
      removed-shut = λ w o. more_shut w (inl (v.removed-shut w o));
      no_goal = λ w m. ⊎_elim (v.no_goal w) (λ k. g w (fresh_on w k).0) (in_append w order fresh m);
      no_removed = λ w m. ⊎_elim (v.no_removed w) (λ k o. (fresh_on w k).1 (v.removed-shut w o)) (in_append w order fresh m);
      done = more_done;
    }

    -- and so the search goes on
    goes_on : (k : ℕ) → ((w : ℕ) → On next w → ¬ On goals w)
        → ((o f : List ℕ) (t : VertexSet) (j : ℕ) → Visited rows n seeds goals removed s o f t j → j ≡ h + 1 → Ended rows n seeds goals removed (visit rows goals s k o f t j))
        → Ended rows n seeds goals removed (visit rows goals s k (added capacity order fresh) (added capacity from (replicate (length fresh) h)) (plus shut next) (h + 1))
    goes_on k g rest = rw (added-room capacity order fresh room, added-room capacity from (replicate (length fresh) h) (omega (arith, room, v.same_length, length-replicate (length fresh) h)))
        (rest (order ++ fresh) farther (plus shut next) (h + 1) (more g) refl)

  -- THE SEARCH FROM HERE: h are visited, and k visits are left
  runs : (s k : ℕ) (order from : List ℕ) (shut : VertexSet) (h : ℕ) → Visited rows n seeds goals removed s order from shut h → h + k ≡ capacity
      → Ended rows n seeds goals removed (visit rows goals s k order from shut h)
  unfolding visit
  runs s zero order from shut h v e = record { visited = v; ending = inr (record { none = refl; all = omega (arith, v.begun, at_most n order v.nodup v.low, d.low) }) }
  runs s (suc k) order from shut h v e = visit-one rows goals s k order from shut h (Ended rows n seeds goals removed)
      (λ i. record { visited = v; ending = inr (record { none = refl; all = omega (arith, v.begun, ltb-false h (length order) i) }) })
      (λ i j. record { visited = v; ending = inl (at_goal s order from shut h (ltb-true h (length order) i) j) })
      (λ i j. goes_on s order from shut h v (ltb-true h (length order) i) (members (minus (row_of rows (get_or order h 0)) shut))
      (listed (minus (row_of rows (get_or order h 0)) shut) (sized_minus (row_of rows (get_or order h 0)) shut (sized_row rows (get_or order h 0) d.words) v.sized))
      k (no_goals (get_or order h 0) j) (λ o f t l w c. runs s k o f t l w (omega arith)))

  pub visited : Ended rows n seeds goals removed (explore rows seeds goals removed)
  unfolding explore
  visited = runs (length (members seeds)) capacity (members seeds) (replicate (length (members seeds)) 0) (plus seeds removed) 0 (first_places (members seeds) (listed seeds a.seeds_sized)) refl

-- where one vertex is the seed, it stands alone at the first place
module _ (rows : List ℕ) (n : ℕ) (seeds goals removed : VertexSet) (s : ℕ) (order from : List ℕ) (shut : VertexSet) (h : ℕ) (v : Visited rows n seeds goals removed s order from shut h)
    (z : ℕ) (is : On seeds z) (only : (w : ℕ) → On seeds w → w ≡ z) where
  pub one_seed : s ≡ 1
  one_seed = let r = v.seed_place z is in go (below? 1 s) r.0 r.1
    where
      go : Dec (1 < s) → (i : ℕ) → i < s → s ≡ 1
      go (yes l) i k = absurd (omega (arith, v.seeds_fit, same_place order v.nodup 0 1 (omega (arith, v.seeds_fit)) (omega (arith, v.seeds_fit)) (only (get_or order 0 0) (v.seed_at 0 (omega arith)) ∙ sym (only (get_or order 1 0) (v.seed_at 1 l)))))
      go (no l) i k = omega arith

  pub seed_first : get_or order 0 0 ≡ z
  seed_first = only (get_or order 0 0) (v.seed_at 0 (omega (arith, one_seed)))
