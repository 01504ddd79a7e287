-- The loop of the search: the space holds the lists of the definition, and what is left of the definition's visits gives the same.
-- Assumes nothing.
use Prim.Native.Nat.{ℕ, zero, suc, ◌+◌, ◌-◌, ◌≤◌, ◌<◌}
use mathlib.Core.Path.{◌≡◌, refl, sym, ap, ◌∙◌}
use mathlib.Core.Bool.{Bool, true, false, cond}
use mathlib.Core.List.{List, []}
use native.Mathlib.Omega.{arith}
use lib.Dec.{ltb, leb}
use lib.ListN.{length, get_or, take, drop, replicate, length-replicate, length-drop, take-append-drop}
use lib.Seq.{length-take-le, take-take}
use borrow.Author.Tests.{lt-ltb, le-ltb, le-leb, eq-eqb, ne_eqb}
use Rattle.vertexset.specs.Set.{empty_set, capacity}
use Rattle.vertexset.specs.declared.VertexSet.{VertexSet}
use Rattle.graph.specs.Rows.{row_of}
use Rattle.construction.specs.Sets.{plus, minus, common, members, least, added}
use Rattle.construction.specs.Search.{Reach, reach, visit, explore}
use Rattle.search.specs.Code.{reach_of, search_space, space_after, left_in, answer_in, reached_after, reached_end, visits_in}
use Rattle.search.specs.declared.Reach as code
use Rattle.search.proofs.Members.{members-low}
use Rattle.search.proofs.Placed.{added-length}
use Rattle.search.proofs.Sizes.{Sized, grown_same, explore-sized}
use Rattle.search.proofs.Spaces.{fronted, fronted_same, both, both_length, both_at, both_order, both_from, both_again, both_put, both_end}

true_arm : {b : Bool} (x y : Reach) → b ≡ true → cond b x y ≡ x
true_arm x y e = rw e

false_arm : {b : Bool} (x y : Reach) → b ≡ false → cond b x y ≡ y
false_arm x y e = rw e

-- ---- the definition's visit

module _ (rows : List ℕ) (goals : VertexSet) (seeds k : ℕ) (order from : List ℕ) (shut : VertexSet) (h : ℕ) where
  visit-stop : length order ≤ h → visit rows goals seeds k order from shut h ≡ reach order from seeds shut capacity h
  unfolding visit
  visit-stop e = go k
    where
      go : (j : ℕ) → visit rows goals seeds j order from shut h ≡ reach order from seeds shut capacity h
      go zero = refl
      go (suc j) = false_arm _ _ (le-ltb h (length order) e)

  module _ (b : h < length order) where
    visit-goal : ltb (least (common (row_of rows (get_or order h 0)) goals)) capacity ≡ true
        → visit rows goals seeds (suc k) order from shut h ≡ reach order from seeds shut (least (common (row_of rows (get_or order h 0)) goals)) h
    unfolding visit
    visit-goal e = true_arm _ _ (lt-ltb h (length order) b) ∙ true_arm _ _ e

    visit-on : ltb (least (common (row_of rows (get_or order h 0)) goals)) capacity ≡ false
        → visit rows goals seeds (suc k) order from shut h
        ≡ visit rows goals seeds k (added capacity order (members (minus (row_of rows (get_or order h 0)) shut)))
        (added capacity from (replicate (length (members (minus (row_of rows (get_or order h 0)) shut))) h))
        (plus shut (row_of rows (get_or order h 0))) (h + 1)
    unfolding visit
    visit-on e = true_arm _ _ (lt-ltb h (length order) b) ∙ false_arm _ _ e

-- ---- the loop

abbrev pub first : List ℕ → List ℕ
first space = take capacity space

abbrev pub second : List ℕ → List ℕ
second space = drop capacity space

-- in the loop: the lists at the front of the two halves, and the definition from here on
pub record Visiting (space rows : List ℕ) (goals : VertexSet) (seeds : ℕ) (whole : Reach) (now : List ℕ) (count : ℕ) (shut : VertexSet) (head : ℕ) : Type 0 where
  pub size : length space ≡ search_space
  pub reached : List ℕ
  pub places : List ℕ
  pub now_is : now ≡ both (first space) (second space) reached places
  pub count-is : count ≡ length reached
  pub same : length places ≡ length reached
  pub low : length reached ≤ capacity
  pub left : visit rows goals seeds (capacity - head) reached places shut head ≡ whole

module _ (space : List ℕ) (size : length space ≡ search_space) where
  pub first_size : length (first space) ≡ capacity
  first_size = length-take-le capacity space (omega arith)

  pub second_size : length (second space) ≡ capacity
  second_size = omega (arith, length-drop capacity space)

  -- what stands at the front of the halves already
  module _ (k : ℕ) (low : k ≤ capacity) where
    order_size : length (take k space) ≡ k
    order_size = length-take-le k space (omega arith)

    from_size : length (take k (second space)) ≡ k
    from_size = length-take-le k (second space) (omega (arith, second_size))

    as_it_is : both (first space) (second space) (take k space) (take k (second space)) ≡ space
    as_it_is =
        let f : fronted (first space) (take k space) ≡ first space = ap (fronted (first space)) (sym (take-take k capacity space low)) ∙ fronted_same (first space) k (omega (arith, first_size)) in
        rw (f, fronted_same (second space) k (omega (arith, second_size))) (take-append-drop capacity space)

    pub begun : (rows : List ℕ) (goals shut : VertexSet) → Visiting space rows goals k (visits_in rows goals k space shut) space k shut 0
    begun rows goals shut = record {
      size = size;
      reached = take k space;
      places = take k (second space);
      now_is = sym as_it_is;
      count-is = sym order_size;
      same = from_size ∙ sym order_size;
      low = omega (arith, order_size);
      left = refl;
    }

-- the nearest goal, as the code finds it
pub goal_of : (row goals : VertexSet) {rest both : VertexSet} {r : ℕ} → rest ≡ minus row goals → both ≡ minus row rest → r ≡ least both → r ≡ least (common row goals)
goal_of row goals p q e = e ∙ ap least (q ∙ ap (minus row) p)

module _ {space rows : List ℕ} {goals : VertexSet} {seeds : ℕ} {whole : Reach} {now : List ℕ} {count : ℕ} {shut : VertexSet} {head : ℕ}
    (v : Visiting space rows goals seeds whole now count shut head) where
  abbrev one : length (first space) ≡ capacity
  one = first_size space v.size

  abbrev two : length (second space) ≡ capacity
  two = second_size space v.size

  pub now_length : length now ≡ search_space
  now_length = ap length v.now_is ∙ both_length (first space) (second space) one two v.reached v.places v.same v.low

  -- the answer, and what stands in the space then
  answer : (goal : ℕ) → whole ≡ reach v.reached v.places seeds shut goal head
      → (now ≡ space_after space whole) × (◌≡◌ {A = code.Reach} (record { count = count; seeds = seeds; shut = shut; goal = goal; last = head }) (reach_of whole))
  answer goal e = (v.now_is ∙ ap (space_after space) (sym e), rw v.count-is (ap reach_of (sym e)))

  pub ended : count ≤ head → (now ≡ space_after space whole) × (◌≡◌ {A = code.Reach} (record { count = count; seeds = seeds; shut = shut; goal = capacity; last = head }) (reach_of whole))
  ended h = answer capacity (sym v.left ∙ visit-stop rows goals seeds (capacity - head) v.reached v.places shut head (omega (arith, v.count-is)))

  module _ (inside : head < count) where
    here : head < length v.reached
    here = omega (arith, v.count-is)

    -- a place in the space
    pub head_low : head < capacity
    head_low = omega (arith, here, v.low)

    module _ (row : VertexSet) (r : row ≡ row_of rows (get_or now head 0)) (goal : ℕ) (g : goal ≡ least (common row goals)) where
      fuel : capacity - head ≡ suc (capacity - (head + 1))
      fuel = omega (arith, head_low)

      row_is : row_of rows (get_or v.reached head 0) ≡ row
      row_is =
          ap (row_of rows)
          (sym (both_at (first space) (second space) one two v.reached v.places v.same v.low head here)
          ∙ ap (λ (a : List ℕ). get_or a head 0) (sym v.now_is)) ∙ sym r

      goal_is : least (common (row_of rows (get_or v.reached head 0)) goals) ≡ goal
      goal_is = ap (λ (s : VertexSet). least (common s goals)) row_is ∙ sym g

      now_left : visit rows goals seeds (suc (capacity - (head + 1))) v.reached v.places shut head ≡ whole
      now_left = ap (λ (k : ℕ). visit rows goals seeds k v.reached v.places shut head) (sym fuel) ∙ v.left

      pub found : goal < capacity → (now ≡ space_after space whole) × (◌≡◌ {A = code.Reach} (record { count = count; seeds = seeds; shut = shut; goal = goal; last = head }) (reach_of whole))
      found h = answer goal
          (sym now_left
          ∙ visit-goal rows goals seeds (capacity - (head + 1)) v.reached v.places shut head here (ap (λ (n : ℕ). ltb n capacity) goal_is ∙ lt-ltb goal capacity h)
          ∙ ap (λ (n : ℕ). reach v.reached v.places seeds shut n head) goal_is)

      -- a visit that finds no goal
      module _ (past : capacity ≤ goal) (new : VertexSet) (w : new ≡ minus row shut) {out : List ℕ} {next : ℕ} {out-shut : VertexSet}
          (p : out ≡ reached_after now count (members new) head) (q : next ≡ reached_end count (members new)) (s : out-shut ≡ plus shut row) where
        new_is : minus (row_of rows (get_or v.reached head 0)) shut ≡ new
        new_is = ap (λ (x : VertexSet). minus x shut) row_is ∙ sym w

        shut_is : plus shut (row_of rows (get_or v.reached head 0)) ≡ out-shut
        shut_is = ap (plus shut) row_is ∙ sym s

        then_left : visit rows goals seeds (capacity - (head + 1)) (added capacity v.reached (members new)) (added capacity v.places (replicate (length (members new)) head)) out-shut (head + 1) ≡ whole
        then_left =
            sym (visit-on rows goals seeds (capacity - (head + 1)) v.reached v.places shut head here (ap (λ (n : ℕ). ltb n capacity) goal_is ∙ le-ltb goal capacity past)
            ∙ ap (λ (x : VertexSet). visit rows goals seeds (capacity - (head + 1)) (added capacity v.reached (members x)) (added capacity v.places (replicate (length (members x)) head))
            (plus shut (row_of rows (get_or v.reached head 0))) (head + 1)) new_is
            ∙ ap (λ (x : VertexSet). visit rows goals seeds (capacity - (head + 1)) (added capacity v.reached (members new)) (added capacity v.places (replicate (length (members new)) head)) x (head + 1)) shut_is)
            ∙ now_left

        put : (ms : List ℕ) → out ≡ reached_after now count ms head → out ≡ both (first space) (second space) (added capacity v.reached ms) (added capacity v.places (replicate (length ms) head))
        put ms e =
            e ∙ ap (λ (a : List ℕ). reached_after a count ms head) v.now_is ∙ ap (λ (n : ℕ). reached_after (both (first space) (second space) v.reached v.places) n ms head) v.count-is
            ∙ both_put (first space) (second space) one two v.reached v.places v.same v.low ms head

        put_end : (ms : List ℕ) → next ≡ reached_end count ms → next ≡ length (added capacity v.reached ms)
        put_end ms e =
            e ∙ ap (λ (n : ℕ). reached_end n ms) v.count-is ∙ both_end (first space) (second space) one two v.reached v.places v.same v.low ms head

        pub again : Visiting space rows goals seeds whole out next out-shut (head + 1)
        again = record {
          size = v.size;
          reached = added capacity v.reached (members new);
          places = added capacity v.places (replicate (length (members new)) head);
          now_is = put (members new) p;
          count-is = put_end (members new) q;
          same = grown_same v.reached v.places (members new) head v.same;
          low = added-length capacity v.reached (members new) v.low;
          left = then_left;
        }

-- ---- the whole search: the seeds are put, then come the visits

module _ (space : List ℕ) (size : length space ≡ search_space) (l : List ℕ) (low : length l ≤ capacity) {start : List ℕ} {count : ℕ}
    (p : start ≡ reached_after space 0 l 0) (q : count ≡ reached_end 0 l) where
  abbrev zeros : List ℕ
  zeros = replicate (length l) 0

  zeros-size : length zeros ≡ length l
  zeros-size = length-replicate {A = ℕ} (length l) 0

  fits : leb (0 + length l) capacity ≡ true
  fits = le-leb (0 + length l) capacity (omega arith)

  added-first : (k : List ℕ) → length k ≤ capacity → added capacity [] k ≡ k
  added-first k h = rw (le-leb (0 + length k) capacity (let z : 0 + length k ≤ capacity = omega arith in z))

  start_is : start ≡ both (first space) (second space) l zeros
  start_is =
      p ∙ ap (λ (a : List ℕ). reached_after a 0 l 0) (sym (take-append-drop capacity space))
      ∙ both_put (first space) (second space) (first_size space size) (second_size space size) [] [] refl (omega arith) l 0
      ∙ ap (λ (r : List ℕ). both (first space) (second space) r (added capacity [] zeros)) (added-first l low)
      ∙ ap (λ (r : List ℕ). both (first space) (second space) l r) (added-first zeros (omega (arith, zeros-size)))

  count-is : count ≡ length l
  count-is = q ∙ rw fits (omega arith)

  pub count_low : count ≤ capacity
  count_low = omega (arith, count-is)

  all-visits : (rows : List ℕ) (goals shut : VertexSet) → visits_in rows goals count start shut ≡ visit rows goals (length l) capacity l zeros shut 0
  all-visits rows goals shut =
      ap (λ (n : ℕ). visits_in rows goals n start shut) count-is ∙ ap (λ (a : List ℕ). visits_in rows goals (length l) a shut) start_is
      ∙ rw (both_order (first space) (second space) (first_size space size) (second_size space size) l zeros zeros-size low, both_from (first space) (second space) (first_size space size) (second_size space size) l zeros zeros-size low)

  -- what the seeds wrote is written over, or kept
  over_seeds : (r : Reach) → Sized (length l) r → space_after start r ≡ space_after space r
  over_seeds r s =
      ap (λ (a : List ℕ). space_after a r) start_is
      ∙ both_again (first space) (second space) (first_size space size) (second_size space size) l zeros zeros-size low r.order r.from s.same s.most

module _ (rows space : List ℕ) (seeds goals removed : VertexSet) (size : length space ≡ search_space) {start : List ℕ} {count : ℕ} {shut : VertexSet}
    (p : start ≡ reached_after space 0 (members seeds) 0) (q : count ≡ reached_end 0 (members seeds)) (s : shut ≡ plus seeds removed) where
  explored : visits_in rows goals count start shut ≡ explore rows seeds goals removed
  unfolding explore
  explored = ap (visits_in rows goals count start) s ∙ all-visits space size (members seeds) (members-low seeds) p q rows goals (plus seeds removed)

  pub explored_all : {out : List ℕ} {r : code.Reach} → (out ≡ space_after start (visits_in rows goals count start shut)) × (r ≡ reach_of (visits_in rows goals count start shut))
      → (out ≡ left_in space (explore rows seeds goals removed)) × (r ≡ answer_in space (explore rows seeds goals removed))
  explored_all (a, b) = rw (eq-eqb (length space) search_space size)
      (a ∙ ap (space_after start) explored ∙ over_seeds space size (members seeds) (members-low seeds) p q _ (explore-sized rows seeds goals removed), b ∙ ap reach_of explored)

pub explored_none : (space : List ℕ) (x : Reach) → (length space ≡ search_space → ⊥) → {none : VertexSet} → none ≡ empty_set
    → (space ≡ left_in space x) × (◌≡◌ {A = code.Reach} (record { count = 0; seeds = 0; shut = none; goal = capacity; last = 0 }) (answer_in space x))
explored_none space x h e = rw (ne_eqb (length space) search_space h, e) (refl, refl)
