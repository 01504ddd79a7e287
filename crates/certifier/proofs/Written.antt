-- What the functions that write have put into an array so far, and what is left to put. Assumes nothing.
use Prim.Native.Nat.{ℕ, zero, suc, ◌+◌, ◌-◌, ◌*◌, ◌≤◌, ◌<◌}
use mathlib.Core.Path.{◌≡◌, refl, sym, ap, subst, ◌∙◌}
use mathlib.Core.Bool.{Bool, true, false, cond}
use mathlib.Core.List.{List, [], ◌∷◌, ◌++◌, append_assoc}
use native.Mathlib.Numerals.{add-one}
use native.Mathlib.Omega.{arith}
use Rattle.std.specs.Prelude.{Option, Some, IsSome}
use lib.Dec.{eqb}
use lib.ListN.{length, get_or, set, take, drop, replicate, length-append, length-take, length-set, length-drop, drop_of_length-le, take-append-drop}
use lib.Seq.{drop-cons, take-suc, append_snoc, set_at, get_or_at, length-take-le}
use borrow.Author.Tests.{eq-eqb, ne_eqb}
use Rattle.record.specs.Number.{number_bytes, list_bytes}
use Rattle.record.specs.Write.{has_room, overwritten, can_write, written_number, with_number}
use Rattle.record.proofs.Write.{can_write_lem, put_told, few_bytes, overwritten-none, overwritten-length, overwritten-more}
use Rattle.vertexset.specs.Set.{empty_set, has, capacity}
use Rattle.vertexset.specs.declared.VertexSet.{VertexSet}
use Rattle.connectivity.specs.Lists.{up_from, select}
use Rattle.connectivity.proofs.Lists.{length_below, select_short}
use Rattle.construction.specs.Sets.{stop, single, members}
use Rattle.construction.specs.Ears.{path_space}
use Rattle.construction.specs.Certificate.{lengthened, pairs_from, tree_numbers}
use Rattle.search.specs.Arrays.{placed, placed_end}
use Rattle.search.proofs.Filling.{Filling, fill_start, fill_turn, fill_done}
use Rattle.search.proofs.Sizes.{explore-sized}
use Rattle.detours.specs.declared.Ears.{Ears}
use Rattle.detours.proofs.Filled.{Put, Filled, filled_put, filled_first, first_put, first_end}
use Rattle.certifier.specs.declared.Numbers.{Numbers}
use Rattle.certifier.specs.Code.{number_room, numbers_of, first_search, evidence_in, Small}

-- ---- each stop becomes the length of the path behind it

abbrev on_test : Bool → ℕ → List ℕ × ℕ → List ℕ × ℕ
on_test b v r = cond b (r.1 ∷ r.0, 0) (v ∷ r.0, r.1 + 1)

pub lengthened-size : (l : List ℕ) → length (lengthened l).0 ≡ length l
unfolding lengthened
lengthened-size [] = refl
lengthened-size (v ∷ l) = go (eqb v stop) (lengthened-size l)
  where
    go : (b : Bool) → length (lengthened l).0 ≡ length l → length (on_test b v (lengthened l)).0 ≡ suc (length l)
    go true e = ap suc e
    go false e = ap suc e

run_short : (l : List ℕ) → (lengthened l).1 ≤ length l
unfolding lengthened
run_short [] = omega arith
run_short (v ∷ l) = go (eqb v stop) (run_short l)
  where
    go : (b : Bool) → (lengthened l).1 ≤ length l → (on_test b v (lengthened l)).1 ≤ suc (length l)
    go true e = omega arith
    go false e = omega arith

lengthened-stop : (v : ℕ) (l : List ℕ) → v ≡ stop → lengthened (v ∷ l) ≡ ((lengthened l).1 ∷ (lengthened l).0, 0)
unfolding lengthened
lengthened-stop v l e = rw (eq-eqb v stop e)

lengthened-on : (v : ℕ) (l : List ℕ) → (v ≡ stop → ⊥) → lengthened (v ∷ l) ≡ (v ∷ (lengthened l).0, (lengthened l).1 + 1)
unfolding lengthened
lengthened-on v l e = rw (ne_eqb v stop e)

-- the places from i on are done, and k is the length of what stands there before the first stop
pub record Lengthening (list out : List ℕ) (k i : ℕ) : Type 0 where
  pub within : i ≤ length list
  pub done : out ≡ take i list ++ (lengthened (drop i list)).0
  pub run : k ≡ (lengthened (drop i list)).1

module _ (list : List ℕ) where
  pub lengthen_start : Lengthening list list 0 (length list)
  unfolding lengthened
  lengthen_start =
      let h : length list ≤ length list = omega arith in
      let z : drop (length list) list ≡ [] = drop_of_length-le list h in
      let t : take (length list) list ++ [] ≡ list = ap (λ (l : List ℕ). take (length list) list ++ l) (sym z) ∙ take-append-drop (length list) list in
      record { within = h; done = rw z (sym t); run = rw z }

  module _ {out : List ℕ} {k i : ℕ} (f : Lengthening list out k i) where
    pub lengthen_run : k + i ≤ length list
    lengthen_run = omega (arith, f.run, f.within, run_short (drop i list), length-drop i list)

    pub lengthen_end : i ≤ 0 → out ≡ (lengthened list).0
    lengthen_end h = let z : i ≡ 0 = omega arith in f.done ∙ ap (λ (n : ℕ). take n list ++ (lengthened (drop n list)).0) z

    pub lengthen_length : length out ≡ length list
    lengthen_length =
        omega (arith, f.within, ap length f.done, length-append (take i list) (lengthened (drop i list)).0, length-take-le i list f.within, lengthened-size (drop i list), length-drop i list)

  module _ {out : List ℕ} {k j : ℕ} (f : Lengthening list out k (suc j)) where
    low : j < length list
    low = omega (arith, f.within)

    here : drop j list ≡ get_or list j 0 ∷ drop (suc j) list
    here = drop-cons list j 0 low

    split : out ≡ take j list ++ (get_or list j 0 ∷ (lengthened (drop (suc j) list)).0)
    split = f.done ∙ ap (λ (l : List ℕ). l ++ (lengthened (drop (suc j) list)).0) (take-suc list j 0 low) ∙ append_snoc (take j list) (get_or list j 0) (lengthened (drop (suc j) list)).0

    front : length (take j list) ≡ j
    front = length-take-le j list (let z : j ≤ length list = omega (arith, low) in z)

    same_here : get_or out j 0 ≡ get_or list j 0
    same_here = ap (λ (l : List ℕ). get_or l j 0) split ∙ get_or_at (take j list) (get_or list j 0) _ 0 j front

    stop-here : get_or out j 0 ≡ stop → Lengthening list (set out j k) 0 j
    stop-here e =
        let v : get_or list j 0 ≡ stop = sym same_here ∙ e in
        record {
          within = omega (arith, low);
          done =
              ap (λ (l : List ℕ). set l j k) split ∙ set_at (take j list) (get_or list j 0) _ k j front
              ∙ rw (here, lengthened-stop (get_or list j 0) (drop (suc j) list) v, f.run);
          run = rw (here, lengthened-stop (get_or list j 0) (drop (suc j) list) v);
        }

    on_here : (get_or out j 0 ≡ stop → ⊥) → Lengthening list out (k + 1) j
    on_here e =
        let v : get_or list j 0 ≡ stop → ⊥ = λ h. e (same_here ∙ h) in
        record {
          within = omega (arith, low);
          done = split ∙ rw (here, lengthened-on (get_or list j 0) (drop (suc j) list) v);
          run = rw (here, lengthened-on (get_or list j 0) (drop (suc j) list) v) (ap (λ (n : ℕ). n + 1) f.run);
        }

  module _ {out : List ℕ} {k i : ℕ} (f : Lengthening list out k i) (h : 0 < i) where
    at_suc : Lengthening list out k (suc (i - 1))
    at_suc = let z : i ≡ suc (i - 1) = omega arith in subst (λ (n : ℕ). Lengthening list out k n) z f

    pub lengthen_stop : get_or out (i - 1) 0 ≡ stop → Lengthening list (set out (i - 1) k) 0 (i - 1)
    lengthen_stop e = stop-here at_suc e

    pub lengthen_on : (get_or out (i - 1) 0 ≡ stop → ⊥) → Lengthening list out (k + 1) (i - 1)
    lengthen_on e = on_here at_suc e

-- ---- numbers as bytes

abbrev bytes_of : List ℕ → List ℕ
bytes_of l = list_bytes number_bytes l

bytes_next : (list : List ℕ) (i : ℕ) → i < length list → bytes_of (drop i list) ≡ number_bytes (get_or list i 0) ++ bytes_of (drop (i + 1) list)
unfolding list_bytes
bytes_next list i h = rw (add-one i, drop-cons list i 0 h)

bytes_none : (list : List ℕ) (i : ℕ) → length list ≤ i → bytes_of (drop i list) ≡ []
unfolding list_bytes
bytes_none list i h = rw (drop_of_length-le list h)

-- what was counted, and the bytes of what is left, are the bytes of all; no number takes more than two
pub record Counting (list : List ℕ) (bytes i : ℕ) : Type 0 where
  pub sum : bytes + length (bytes_of (drop i list)) ≡ length (bytes_of list)
  pub low : bytes ≤ 2 * i
  pub within : i ≤ length list

pub count-few : (v : ℕ) {n : ℕ} → n ≡ length (number_bytes v) → n ≤ 2
count-few v e = omega (arith, few_bytes v)

module _ (list : List ℕ) where
  pub count-start : Counting list 0 0
  count-start = record { sum = omega arith; low = omega arith; within = omega arith }

  module _ {bytes i : ℕ} (f : Counting list bytes i) where
    pub count_turn : i < length list → {n : ℕ} → n ≡ length (number_bytes (get_or list i 0)) → Counting list (bytes + n) (i + 1)
    count_turn h e = record {
      sum = omega (arith, f.sum, ap length (bytes_next list i h), length-append (number_bytes (get_or list i 0)) (bytes_of (drop (i + 1) list)));
      low = omega (arith, f.low, count-few (get_or list i 0) e);
      within = omega arith;
    }

    pub count-end : length list ≤ i → bytes ≡ length (bytes_of list)
    count-end h = omega (arith, f.sum, ap length (bytes_none list i h))

-- with what is left written from the place on the buffer is what it is to be
pub record Writing (buffer list out : List ℕ) (at i : ℕ) : Type 0 where
  pub long : length out ≡ length buffer
  pub place : at + length (bytes_of (drop i list)) ≡ length (bytes_of list)
  pub done : overwritten out at (bytes_of (drop i list)) ≡ overwritten buffer 0 (bytes_of list)

module _ (buffer list : List ℕ) where
  pub write_start : Writing buffer list buffer 0 0
  write_start = record { long = refl; place = omega arith; done = refl }

  module _ {out : List ℕ} {at i : ℕ} (f : Writing buffer list out at i) where
    pub write_end : length list ≤ i → out ≡ overwritten buffer 0 (bytes_of list)
    write_end h = sym (overwritten-none out at) ∙ ap (overwritten out at) (sym (bytes_none list i h)) ∙ f.done

    module _ (room : length (bytes_of list) ≤ length buffer) (h : i < length list) where
      fits : at + length (number_bytes (get_or list i 0)) ≤ length out
      fits = omega (arith, f.place, f.long, ap length (bytes_next list i h), length-append (number_bytes (get_or list i 0)) (bytes_of (drop (i + 1) list)))

      module _ (small : Small list) {x : Option ℕ} (e : x ≡ written_number out at (get_or list i 0)) where
        can : can_write out at (get_or list i 0) ≡ true
        can = can_write_lem out at (get_or list i 0) (small i) fits

        pub write_some : IsSome x
        write_some = rw (e, can)

        pub write_turn : {next : ℕ} {more : List ℕ} → x ≡ Some next → more ≡ with_number out at (get_or list i 0) → Writing buffer list more next (i + 1)
        write_turn {next} {more} q m =
            let v = get_or list i 0 in
            let p = put_told out at v can e q m in
            record {
              long = ap length p.1 ∙ overwritten-length out at (number_bytes v) fits ∙ f.long;
              place = omega (arith, p.0, f.place, ap length (bytes_next list i h), length-append (number_bytes v) (bytes_of (drop (i + 1) list)));
              done = rw (p.0, p.1) (overwritten-more out at (number_bytes v) fits (bytes_of (drop (i + 1) list)) ∙ ap (overwritten out at) (sym (bytes_next list i h)) ∙ f.done);
            }

-- ---- the pairs of the tree

pub pairs_length : (order from : List ℕ) (k i : ℕ) → length (pairs_from order from k i) ≡ 2 * k
unfolding pairs_from
pairs_length order from zero i = refl
pairs_length order from (suc k) i = omega (arith, pairs_length order from k (i + 1))

module _ (order from items : List ℕ) (at : ℕ) (l : List ℕ) (count i : ℕ) {end : ℕ} {out : List ℕ} (f : Filling items at l (pairs_from order from (count - i) i) end out) where
  pairs_end : count ≤ i → (out ≡ placed items at l) × (end ≡ placed_end items at l)
  unfolding pairs_from
  pairs_end h =
      let z : count - i ≡ 0 = omega arith in
      fill_done items at l (subst (λ (k : ℕ). Filling items at l (pairs_from order from k i) end out) z f)

  module _ (h : i < count) where
    two : Filling items at l (get_or order i 0 ∷ (get_or order (get_or from i 0) 0 ∷ pairs_from order from (count - (i + 1)) (i + 1))) end out
    unfolding pairs_from
    two = let z : count - i ≡ suc (count - (i + 1)) = omega arith in subst (λ (k : ℕ). Filling items at l (pairs_from order from k i) end out) z f

    pub tree_turn : {a b : ℕ} → a ≡ get_or order i 0 → b ≡ get_or order (get_or from i 0) 0
        → Filling items at l (pairs_from order from (count - (i + 1)) (i + 1)) (end + 2) (set (set out end a) (end + 1) b)
    tree_turn {a} {b} p q =
        let z : end + 1 + 1 ≡ end + 2 = omega arith in
        rw (p, q, ← z) (fill_turn items at l (fill_turn items at l two))

-- vertex 0 alone, and then the pairs
module _ (order from items : List ℕ) (at count : ℕ) (few : count ≤ capacity) (room : at + 2 * capacity ≤ length items) where
  abbrev pairs : List ℕ
  pairs = pairs_from order from (count - 1) 1

  pairs_fit : at + suc (length pairs) ≤ length items
  pairs_fit = omega (arith, pairs_length order from (count - 1) 1)

  pub tree_start : Filling (set items at 0) (at + 1) pairs pairs (at + 1) (set items at 0)
  tree_start = fill_start (set items at 0) (at + 1) pairs (omega (arith, pairs_fit, length-set items at 0))

  module _ (i : ℕ) {end : ℕ} {out : List ℕ} (f : Filling (set items at 0) (at + 1) pairs (pairs_from order from (count - i) i) end out) where
    pub tree_end : count ≤ i → (out ≡ placed items at (0 ∷ pairs)) × (end ≡ placed_end items at (0 ∷ pairs))
    tree_end h =
        let r = pairs_end order from (set items at 0) (at + 1) pairs count i f h in
        (r.0 ∙ first_put items at 0 pairs pairs_fit, r.1 ∙ first_end items at 0 pairs pairs_fit)

-- ---- what stands between the removed vertices and the side

put_as : (items : List ℕ) (at : ℕ) (out : List ℕ) (end : ℕ) {l m : List ℕ} → l ≡ m → Put items at out end m → Put items at out end l
put_as items at out end e p = subst (λ (k : List ℕ). Put items at out end k) (sym e) p

put_nothing : (items : List ℕ) (at : ℕ) → Put items at items at []
put_nothing items at = go (has_room items at [])
  where
    go : (b : Bool) → (items ≡ cond b (overwritten items at []) items) × (at ≡ cond b (at + 0) at)
    go true = (sym (overwritten-none items at), omega arith)
    go false = (refl, refl)

module _ (rows : List ℕ) (e : Ears) (k : ℕ) where
  nothing_in : k ≡ 0 → evidence_in rows e k ≡ []
  nothing_in h = rw (eq-eqb k 0 h)

  tree_in_lem : (k ≡ 0 → ⊥) → k ≡ 1 → evidence_in rows e k ≡ tree_numbers (first_search rows)
  tree_in_lem h i = rw (ne_eqb k 0 h, eq-eqb k 1 i)

  ears-in : (k ≡ 0 → ⊥) → (k ≡ 1 → ⊥) → evidence_in rows e k ≡ e.count ∷ (lengthened (take e.len e.flat)).0
  ears-in h i = rw (ne_eqb k 0 h, ne_eqb k 1 i)

  module _ (items : List ℕ) (at : ℕ) where
    pub evidence-none : k ≡ 0 → Put items at items at (evidence_in rows e k)
    evidence-none h = put_as items at items at (nothing_in h) (put_nothing items at)

    pub evidence-tree : (k ≡ 0 → ⊥) → k ≡ 1 → {l out : List ℕ} {end : ℕ} → l ≡ tree_numbers (first_search rows) → Put items at out end l → Put items at out end (evidence_in rows e k)
    evidence-tree h i {l} {out} {end} q p = put_as items at out end (tree_in_lem h i ∙ sym q) p

    pub evidence-ears : (k ≡ 0 → ⊥) → (k ≡ 1 → ⊥) → at + 1 + e.len ≤ length items
        → {list out : List ℕ} {end : ℕ} → list ≡ (lengthened (take e.len e.flat)).0
        → Put (set items at e.count) (at + 1) out end list → Put items at out end (evidence_in rows e k)
    evidence-ears h i room {list} {out} {end} f p =
        let r : at + suc (length list) ≤ length items = omega (arith, ap length f, lengthened-size (take e.len e.flat), length-take e.len e.flat) in
        put_as items at out end (ears-in h i ∙ ap (λ (m : List ℕ). e.count ∷ m) (sym f))
        (p.0 ∙ first_put items at e.count list r, p.1 ∙ first_end items at e.count list r)

  pub evidence-short : e.len ≤ path_space → length (evidence_in rows e k) ≤ 1 + path_space
  evidence-short i = go (eqb k 0) (eqb k 1)
    where
      go : (a b : Bool) → length (cond a [] (cond b (tree_numbers (first_search rows)) (e.count ∷ (lengthened (take e.len e.flat)).0))) ≤ 1 + path_space
      go true b = omega arith
      go false true =
          let t = first_search rows in
          omega (arith, pairs_length t.order t.from (length t.order - 1) 1, (explore-sized rows (single 0) empty_set empty_set).low)
      go false false = omega (arith, lengthened-size (take e.len e.flat), length-take e.len e.flat)

-- ---- the numbers of a certificate

selected_short : (p : ℕ → Bool) (z : ℕ) → length (select p (up_from 0 z)) ≤ z
selected_short p z = omega (arith, select_short p (up_from 0 z), length_below z)

pub members-short : (s : VertexSet) → length (members s) ≤ capacity
members-short s = selected_short (has s.words) capacity

pub numbers_are : {items : List ℕ} {count : ℕ} {l : List ℕ} → Filled number_room items count l → ◌≡◌ {A = Numbers} (record { items = items; count = count }) (numbers_of l)
numbers_are f = rw (f.array, f.size)

-- a number, and one list behind it
pub numbers_first : (v : ℕ) (l : List ℕ) → length l ≤ capacity → {out : List ℕ} {end : ℕ} → Put (set (replicate number_room 0) 0 v) 1 out end l → Filled number_room out end (v ∷ l)
numbers_first v l h p = filled_put (filled_first number_room v (omega arith)) l (omega arith) p.0 p.1

pub numbers_room : (v : ℕ) (l : List ℕ) → length l ≤ capacity → {out : List ℕ} {end : ℕ} → Put (set (replicate number_room 0) 0 v) 1 out end l → end + 1 + path_space ≤ number_room
numbers_room v l h p = let f = numbers_first v l h p in omega (arith, f.size)

pub build-filled : (v : ℕ) (l k : List ℕ) → length l ≤ capacity → length k ≤ path_space → {mid out : List ℕ} {at end : ℕ}
    → Put (set (replicate number_room 0) 0 v) 1 mid at l → Put mid at out end k → Filled number_room out end (v ∷ (l ++ k))
build-filled v l k h i p q = filled_put (numbers_first v l h p) k (omega arith) q.0 q.1

pub cut-filled : (v w : ℕ) (l e k : List ℕ) → length l ≤ capacity → length e ≤ 1 + path_space → length k ≤ capacity → {a b c out : List ℕ} {at bt ct end : ℕ}
    → Put (set (replicate number_room 0) 0 v) 1 a at l → Put a at b bt e → Put b bt c ct (w ∷ []) → Put c ct out end k
    → Filled number_room out end (v ∷ (l ++ (e ++ (w ∷ k))))
cut-filled v w l e k hl he hk {out = out} {end = end} p q r s =
    let f = numbers_first v l hl p in
    let g = filled_put f e (omega arith) q.0 q.1 in
    let h = filled_put g (w ∷ []) (omega (arith, length-append l e)) r.0 r.1 in
    let i = filled_put h k (omega (arith, length-append l e, length-append (l ++ e) (w ∷ []))) s.0 s.1 in
    let z : (l ++ e) ++ (w ∷ []) ++ k ≡ l ++ (e ++ (w ∷ k)) = append_snoc (l ++ e) w k ∙ append_assoc l e (w ∷ k) in
    subst (λ (m : List ℕ). Filled number_room out end (v ∷ m)) z i

pub cut-are : (rows : List ℕ) (e : Ears) (v w : ℕ) (l k : List ℕ) → v ≡ length l → w ≡ length k → e.len ≤ path_space → length l ≤ capacity → length k ≤ capacity
    → {a b c out : List ℕ} {at bt ct end : ℕ} → Put (set (replicate number_room 0) 0 v) 1 a at l → Put a at b bt (evidence_in rows e v) → Put b bt c ct (w ∷ []) → Put c ct out end k
    → ◌≡◌ {A = Numbers} (record { items = out; count = end }) (numbers_of (length l ∷ (l ++ (evidence_in rows e (length l) ++ (length k ∷ k)))))
cut-are rows e v w l k ev ew he hl hk p q r s =
    numbers_are (cut-filled v w l (evidence_in rows e v) k hl (evidence-short rows e v he) hk p q r s)
    ∙ ap (λ (n : ℕ). numbers_of (n ∷ (l ++ (evidence_in rows e n ++ (w ∷ k))))) ev ∙ ap (λ (n : ℕ). numbers_of (length l ∷ (l ++ (evidence_in rows e (length l) ++ (n ∷ k))))) ew
