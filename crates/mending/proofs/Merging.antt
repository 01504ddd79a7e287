-- Two arrays of edges as one: of which the next edge is, and what the loop over both knows. Assumes nothing.
use Prim.Native.Nat.{ℕ, ◌+◌, ◌-◌, ◌*◌, ◌<◌, ◌≤◌}
use mathlib.Core.List.{List, [], ◌∷◌, ◌++◌, append-nil}
use mathlib.Core.Bool.{Bool, true, false}
use mathlib.Core.Path.{◌≡◌, refl, sym, ap, ◌∙◌}
use native.Mathlib.Omega.{arith}
use lib.Dec.{ltb}
use lib.ListN.{length, set, take, length-append, length-set}
use lib.Seq.{append_snoc, take_all}
use borrow.Author.Tests.{ltb-true, ltb-false}
use Rattle.connectivity.proofs.Lists.{clash}
use Rattle.search.proofs.Placed.{padded-none}
use Rattle.graph.specs.Limits.{max_edges}
use Rattle.reading.specs.Plan.{follows}
use Rattle.reading.specs.Code.{end_count, no_ends, ends_array}
use Rattle.writing.specs.Write.{edge_at, edges_of}
use Rattle.writing.proofs.Edges.{left_all, left_here, left_none}
use Rattle.striking.specs.Code.{edges_held}
use Rattle.striking.proofs.Listing.{lay_edge}
use Rattle.mending.specs.Mend.{merged}
use Rattle.mending.specs.Code.{edges_ahead, takes_first}
use Rattle.mending.proofs.Merged.{merged-first, merged-second}

-- which list the next edge is of, by how far both are taken
module _ (a b : List ℕ) (i m j k : ℕ) where
  pub first_none : m ≤ i → false ≡ takes_first (edges_ahead a i m) (edges_ahead b j k)
  first_none h = rw (left_none a m h)

  pub second_none : i < m → k ≤ j → true ≡ takes_first (edges_ahead a i m) (edges_ahead b j k)
  second_none h l = rw (left_here a m h, left_none b k l)

  pub both_next : i < m → j < k → follows (edge_at a i) (edge_at b j) ≡ takes_first (edges_ahead a i m) (edges_ahead b j k)
  both_next h l = rw (left_here a m h, left_here b k l)

  takes_there : takes_first (edges_ahead a i m) (edges_ahead b j k) ≡ true → i < m
  takes_there t = go (ltb i m) refl
    where
      go : (y : Bool) → ltb i m ≡ y → i < m
      go true e = ltb-true _ _ e
      go false e = absurd (clash t (sym (first_none (ltb-false _ _ e))))

  leaves_there : i ≤ m → i + j < m + k → takes_first (edges_ahead a i m) (edges_ahead b j k) ≡ false → j < k
  leaves_there f h t = go (ltb j k) refl
    where
      go : (y : Bool) → ltb j k ≡ y → j < k
      go true e = ltb-true _ _ e
      go false e = let l : k ≤ j = ltb-false _ _ e in absurd (clash (sym (second_none (omega arith) l)) t)

module _ (a : List ℕ) (m : ℕ) (b : List ℕ) (k : ℕ) where
  -- after i edges of the first and at of both: these stand in the array, and with what is ahead they are all
  pub record Merging (ends : List ℕ) (i at : ℕ) : Type 0 where
    pub done : List (ℕ × ℕ)
    pub held : ends ≡ ends_array done
    pub long : length ends ≡ end_count
    pub count : length done ≡ at
    pub first : i ≤ m
    pub both : i ≤ at
    pub second : at ≤ i + k
    pub all : done ++ merged (edges_ahead a i m) (edges_ahead b (at - i) k) ≡ merged (edges_of a m) (edges_of b k)

  pub merge_start : length no_ends ≡ end_count → Merging no_ends 0 0
  merge_start l = record {
    done = [];
    held = sym (padded-none end_count);
    long = l;
    count = refl;
    first = omega arith;
    both = omega arith;
    second = omega arith;
    all = rw (left_all a m, left_all b k);
  }

  module _ {ends : List ℕ} {i at : ℕ} (c : Merging ends i at) (h : at < m + k) (few : m + k ≤ max_edges) where
    -- the array with one edge more
    abbrev next : ℕ × ℕ → List ℕ
    next e = set (set ends (2 * at) e.0) (2 * at + 1) e.1

    next-held : (e : ℕ × ℕ) → next e ≡ ends_array (c.done ++ (e ∷ []))
    next-held e =
        ap (λ (l : List ℕ). set (set l (2 * at) e.0) (2 * at + 1) e.1) c.held
        ∙ ap (λ (n : ℕ). set (set (ends_array c.done) (2 * n) e.0) (2 * n + 1) e.1) (sym c.count)
        ∙ lay_edge c.done e.0 e.1 (omega (arith, c.count))

    next-long : (e : ℕ × ℕ) → length (next e) ≡ end_count
    next-long e = length-set (set ends (2 * at) e.0) _ e.1 ∙ length-set ends _ e.0 ∙ c.long

    pub merge_first : takes_first (edges_ahead a i m) (edges_ahead b (at - i) k) ≡ true → Merging (next (edge_at a i)) (i + 1) (at + 1)
    merge_first t =
        let l = takes_there a b i m (at - i) k t in
        let s : takes_first (edge_at a i ∷ edges_ahead a (i + 1) m) (edges_ahead b (at - i) k) ≡ true = rw (left_here a m l) at t in
        let z : at + 1 - (i + 1) ≡ at - i = omega arith in
        record {
          done = c.done ++ (edge_at a i ∷ []);
          held = next-held (edge_at a i);
          long = next-long (edge_at a i);
          count = omega (arith, c.count, length-append c.done (edge_at a i ∷ []));
          first = omega arith;
          both = omega (arith, c.both);
          second = omega (arith, c.second);
          all = ap (λ (j : ℕ). c.done ++ (edge_at a i ∷ []) ++ merged (edges_ahead a (i + 1) m) (edges_ahead b j k)) z
              ∙ append_snoc c.done (edge_at a i) _
              ∙ ap (λ (x : List (ℕ × ℕ)). c.done ++ x) (sym (merged-first (edge_at a i) (edges_ahead a (i + 1) m) (edges_ahead b (at - i) k) s))
              ∙ ap (λ (x : List (ℕ × ℕ)). c.done ++ merged x (edges_ahead b (at - i) k)) (sym (left_here a m l)) ∙ c.all;
        }

    pub merge_second : takes_first (edges_ahead a i m) (edges_ahead b (at - i) k) ≡ false → Merging (next (edge_at b (at - i))) i (at + 1)
    merge_second t =
        let l = leaves_there a b i m (at - i) k c.first (omega (arith, c.both)) t in
        let s : takes_first (edges_ahead a i m) (edge_at b (at - i) ∷ edges_ahead b (at - i + 1) k) ≡ false = rw (left_here b k l) at t in
        let z : at + 1 - i ≡ at - i + 1 = omega (arith, c.both) in
        record {
          done = c.done ++ (edge_at b (at - i) ∷ []);
          held = next-held (edge_at b (at - i));
          long = next-long (edge_at b (at - i));
          count = omega (arith, c.count, length-append c.done (edge_at b (at - i) ∷ []));
          first = c.first;
          both = omega (arith, c.both);
          second = omega (arith, c.both);
          all = ap (λ (j : ℕ). c.done ++ (edge_at b (at - i) ∷ []) ++ merged (edges_ahead a i m) (edges_ahead b j k)) z
              ∙ append_snoc c.done (edge_at b (at - i)) _
              ∙ ap (λ (x : List (ℕ × ℕ)). c.done ++ x) (sym (merged-second (edges_ahead a i m) (edge_at b (at - i)) (edges_ahead b (at - i + 1) k) s))
              ∙ ap (λ (x : List (ℕ × ℕ)). c.done ++ merged (edges_ahead a i m) x) (sym (left_here b k l)) ∙ c.all;
        }

  pub merge_end : {ends : List ℕ} {i at : ℕ} → Merging ends i at → m + k ≤ at → m + k ≤ max_edges → record { ends = ends; count = m + k } ≡ edges_held (merged (edges_of a m) (edges_of b k))
  unfolding merged
  merge_end {ends} {i} {at} c h few =
      let x : m ≤ i = omega (arith, c.first, c.second) in
      let y : k ≤ at - i = omega (arith, c.first, c.second) in
      let e : c.done ≡ merged (edges_of a m) (edges_of b k) =
      sym (append-nil c.done) ∙ ap (λ (l : List (ℕ × ℕ)). c.done ++ l) (sym (rw (left_none a m x, left_none b k y))) ∙ c.all in
      let n : m + k ≡ length c.done = omega (arith, c.count, c.first, c.second) in
      let t : take max_edges c.done ≡ c.done = take_all max_edges c.done (omega arith) in
      ap (λ (l : List ℕ). record { ends = l; count = m + k }) (c.held ∙ ap ends_array (sym t))
      ∙ ap (λ (x : ℕ). record { ends = ends_array (take max_edges c.done); count = x }) n
      ∙ ap edges_held e
