-- The tree of the first search, from vertex 0: it reaches every vertex, or what it reached is the side of a separation.
use Prim.Native.Nat.{ℕ, zero, suc, ◌+◌, ◌-◌, ◌≤◌, ◌<◌}
use mathlib.Core.Path.{◌≡◌, refl, sym, ap, subst, ◌∙◌}
use mathlib.Core.Bool.{true, false, not}
use mathlib.Core.Logic.{inl, inr, ⊎_elim}
use mathlib.Core.List.{List, [], ◌∷◌}
use native.Mathlib.Omega.{arith}
use native.Mathlib.Decide.{ℕ_discrete}
use lib.Count.{ones}
use lib.ListN.{length, get_or}
use Rattle.vertexset.specs.Set.{has, empty_set, count}
use Rattle.graph.specs.Rows.{adjacent_in, rows_graph}
use Rattle.certificates.specs.Lengths.{pair_numbers}
use Rattle.connectivity.specs.Lists.{In, NoDup, below}
use Rattle.connectivity.specs.Graph.{Graph, Adj, Simple}
use Rattle.connectivity.specs.Certificate.{Tree}
use Rattle.connectivity.proofs.Lists.{at_most, at_least, true?, bool?}
use Rattle.connectivity.proofs.Progress.{Separated}
use Rattle.construction.specs.Sets.{single, members, minus, empty}
use Rattle.construction.specs.Search.{Reach, explore}
use Rattle.construction.specs.Ears.{cut}
use Rattle.construction.specs.Certificate.{pairs_from, full_set}
use Rattle.construction.proofs.Basics.{Drawn, Sized, On, IsCut, Asked}
use Rattle.construction.proofs.SetLaws.{sized_empty, sized_single, sized_minus, sized_all, empty-on, single-on, on_single, on_full, full_on, on_minus, minus-on, members-in, members-count, empty-none, empty-some, not_empty}
use Rattle.construction.proofs.Places.{place_in, in_place, same_place}
use Rattle.construction.proofs.Visits.{Visited, Ended, visited, one_seed, seed_first}

abbrev pub tree_of : List ℕ → Reach
tree_of rows = explore rows (single 0) empty_set empty_set

-- the pairs of a tree, as pairs
abbrev pub pairs_of : List ℕ → List ℕ → ℕ → ℕ → List (ℕ × ℕ)
pairs_of order from zero i = []
pairs_of order from (suc k) i = (get_or order i 0, get_or order (get_or from i 0) 0) ∷ pairs_of order from k (i + 1)

pub tree_numbers_lem : (order from : List ℕ) (k i : ℕ) → pairs_from order from k i ≡ pair_numbers (pairs_of order from k i)
unfolding pairs_from
tree_numbers_lem order from zero i = refl
tree_numbers_lem order from (suc k) i =
    ap (λ (r : List ℕ). get_or order i 0 ∷ (get_or order (get_or from i 0) 0 ∷ r)) (tree_numbers_lem order from k (i + 1))

pub length_pairs : (order from : List ℕ) (k i : ℕ) → length (pairs_of order from k i) ≡ k
length_pairs order from zero i = refl
length_pairs order from (suc k) i = ap suc (length_pairs order from k (i + 1))

no_count : count empty_set.words ≡ 0
unfolding count ones
no_count = refl

pub sized_full : (n : ℕ) → Sized (full_set n)
sized_full n = sized_all empty_set (below n) sized_empty

module _ (g : Graph) (p : Simple g) (order from : List ℕ) (nd : NoDup order)
    (edge : (i : ℕ) → 1 ≤ i → i < length order → (get_or from i 0 < i) × Adj g (get_or order (get_or from i 0) 0) (get_or order i 0)) where
  -- what is named stands before the place i
  tree_from : (k i : ℕ) (named : List ℕ) → i + k ≡ length order → 1 ≤ i
      → ((w : ℕ) → In w named → (j : ℕ) × (j < i) × (get_or order j 0 ≡ w)) → ((j : ℕ) → j < i → In (get_or order j 0) named) → Tree g named (pairs_of order from k i)
  tree_from zero i named e l f h = tt
  tree_from (suc k) i named e l f h =
      (new, h (get_or from i 0) here.0, p.symmetric _ _ here.1, tree_from k (i + 1) (get_or order i 0 ∷ named) (omega arith) (omega arith) more less)
    where
      here : (get_or from i 0 < i) × Adj g (get_or order (get_or from i 0) 0) (get_or order i 0)
      here = edge i l (omega arith)

      new : ¬ In (get_or order i 0) named
      new m = let r = f (get_or order i 0) m in omega (arith, same_place order nd r.0 i (omega arith) (omega arith) r.2)

      more : (w : ℕ) → In w (get_or order i 0 ∷ named) → (j : ℕ) × (j < i + 1) × (get_or order j 0 ≡ w)
      more w (inl q) = (i, omega arith, sym q)
      more w (inr m) = let r = f w m in (r.0, omega arith, r.2)

      less : (j : ℕ) → j < i + 1 → In (get_or order j 0) (get_or order i 0 ∷ named)
      less j q = go (ℕ_discrete j i)
        where
          go : Dec (j ≡ i) → In (get_or order j 0) (get_or order i 0 ∷ named)
          go (yes r) = inl (ap (λ (x : ℕ). get_or order x 0) r)
          go (no r) = inr (h j (omega arith))

module _ (rows : List ℕ) (n : ℕ) (d : Drawn rows n) where
  asked : Asked n (single 0) empty_set empty_set
  asked = record {
    seeds_sized = sized_single 0;
    goals_sized = sized_empty;
    removed-sized = sized_empty;
    low = λ w o. omega (arith, single-on 0 w o, d.simple.big);
    no_goal = λ w o. empty-on w;
    no_removed = λ w o. empty-on w;
    goal_stays = λ w o. empty-on w;
  }

  ended : Ended rows n (single 0) empty_set empty_set (tree_of rows)
  ended = visited rows n d (single 0) empty_set empty_set asked

  abbrev v : Visited rows n (single 0) empty_set empty_set (tree_of rows).seeds (tree_of rows).order (tree_of rows).from (tree_of rows).shut (tree_of rows).last
  v = ended.visited

  one : (tree_of rows).seeds ≡ 1
  one = one_seed rows n (single 0) empty_set empty_set _ _ _ _ _ v 0 (on_single 0 (omega arith)) (single-on 0)

  first : get_or (tree_of rows).order 0 0 ≡ 0
  first = seed_first rows n (single 0) empty_set empty_set _ _ _ _ _ v 0 (on_single 0 (omega arith)) (single-on 0)

  edge : (i : ℕ) → 1 ≤ i → i < length (tree_of rows).order
      → (get_or (tree_of rows).from i 0 < i) × Adj (rows_graph n rows) (get_or (tree_of rows).order (get_or (tree_of rows).from i 0) 0) (get_or (tree_of rows).order i 0)
  edge i l m = let r = v.reached i (omega (arith, one)) m in (r.earlier, r.edge)

  some : 1 + (length (tree_of rows).order - 1) ≡ length (tree_of rows).order
  some = omega (arith, v.seeds_fit, one)

  pub tree_of_lem : Tree (rows_graph n rows) (0 ∷ []) (pairs_of (tree_of rows).order (tree_of rows).from (length (tree_of rows).order - 1) 1)
  tree_of_lem = tree_from (rows_graph n rows) d.simple (tree_of rows).order (tree_of rows).from v.nodup edge (length (tree_of rows).order - 1) 1 (0 ∷ []) some (omega arith) before named
    where
      before : (w : ℕ) → In w (0 ∷ []) → (j : ℕ) × (j < 1) × (get_or (tree_of rows).order j 0 ≡ w)
      before w (inl e) = (0, omega arith, first ∙ sym e)
      before w (inr m) = absurd m

      named : (j : ℕ) → j < 1 → In (get_or (tree_of rows).order j 0) (0 ∷ [])
      named zero l = inl first
      named (suc j) l = absurd (omega arith)

  shut_order : (w : ℕ) → On (tree_of rows).shut w → In w (tree_of rows).order
  shut_order w o = ⊎_elim (λ m. m) (λ m. absurd (empty-on w m)) (v.shut_in w o)

  sized_left : Sized (minus (full_set n) (tree_of rows).shut)
  sized_left = sized_minus (full_set n) (tree_of rows).shut (sized_full n) v.sized

  pub tree_count : empty (minus (full_set n) (tree_of rows).shut) ≡ true
      → length (pairs_of (tree_of rows).order (tree_of rows).from (length (tree_of rows).order - 1) 1) ≡ n - 1
  tree_count e = length_pairs _ _ _ 1 ∙ ap (λ (k : ℕ). k - 1) all-reached
    where
      reached : (w : ℕ) → w < n → In w (tree_of rows).order
      reached w l = go (true? (has (tree_of rows).shut.words w))
        where
          go : Dec (On (tree_of rows).shut w) → In w (tree_of rows).order
          go (yes o) = shut_order w o
          go (no o) = absurd (empty-none _ sized_left e w (on_minus (full_set n) (tree_of rows).shut (sized_full n) v.sized w (on_full n w d.low l) o))

      all-reached : length (tree_of rows).order ≡ n
      all-reached = omega (arith, at_most n (tree_of rows).order v.nodup v.low, at_least n (tree_of rows).order reached)

  -- no edge leaves what was reached
  all-visited : (tree_of rows).last ≡ length (tree_of rows).order
  all-visited = ⊎_elim (λ r. absurd (empty-on (tree_of rows).goal r.goal)) (λ r. r.all) ended.ending

  closed : (x y : ℕ) → On (tree_of rows).shut x → adjacent_in rows x y ≡ true → On (tree_of rows).shut y
  closed x y o e =
      let r = in_place x (tree_of rows).order (shut_order x o) in
      v.in_shut y (v.done r.0 (omega (arith, all-visited)) y (rw r.2 e) (empty-on y))

  pub tree_cut : empty (minus (full_set n) (tree_of rows).shut) ≡ false → IsCut rows n (cut empty_set (tree_of rows).shut)
  tree_cut e = record {
    is_cut_lem = ap not (not_empty (tree_of rows).shut 0 v.sized zero_in);
    removed-sized = sized_empty;
    side-sized = v.sized;
    low = λ w o. absurd (empty-on w o);
    side-low = λ w o. v.low w (shut_order w o);
    few = omega (arith, members-count empty_set sized_empty, no_count);
    separated = apart;
    same_side = refl;
  }
    where
      zero_in : On (tree_of rows).shut 0
      zero_in = v.in_shut 0 (subst (λ (w : ℕ). In w (tree_of rows).order) first (place_in (tree_of rows).order 0 (omega (arith, v.seeds_fit, one))))

      out : (x : ℕ) × On (minus (full_set n) (tree_of rows).shut) x
      out = empty-some _ sized_left e

      left : On (full_set n) out.0 × (¬ On (tree_of rows).shut out.0)
      left = minus-on (full_set n) (tree_of rows).shut (sized_full n) v.sized out.0 out.1

      apart : Separated (rows_graph n rows) (members empty_set)
      apart = record {
        side = has (tree_of rows).shut.words;
        out = λ w m. absurd (empty-on w (members-in empty_set w m));
        closed = λ x y o k m. closed x y o k;
        w = 0;
        w_low = omega (arith, d.simple.big);
        w_in = zero_in;
        v = out.0;
        v_left = (full_on n out.0 left.0, λ m. empty-on out.0 (members-in empty_set out.0 m));
        v_out = ⊎_elim (λ o. absurd (left.1 o)) (λ o. o) (bool? (has (tree_of rows).shut.words out.0));
      }
