-- No edge between the side and the rest: what the walk through the side finds out. Assumes nothing.
use Prim.Native.Nat.{ℕ, ◌-◌, ◌*◌, ◌<◌, ◌≤◌}
use mathlib.Core.List.{List}
use mathlib.Core.Bool.{Bool, true, false, ◌&&◌, ◌||◌, not}
use mathlib.Core.Logic.{inl, inr, ⊎_elim}
use mathlib.Core.Path.{◌≡◌, sym, ap, ◌∙◌}
use native.Mathlib.Omega.{arith}
use lib.ListN.{length}
use borrow.Author.Tests.{not-true}
use Rattle.vertexset.specs.Set.{Words, has, word_count, wordwise, less, subset_of, capacity}
use Rattle.vertexset.specs.Walk.{walk_from, going, meets, met, stepped}
use Rattle.vertexset.specs.declared.Cursor.{Cursor}
use Rattle.vertexset.specs.declared.VertexSet.{VertexSet}
use Rattle.vertexset.proofs.Laws.{has-minus, wordwise-length}
use Rattle.vertexset.proofs.Walks.{Walks, ahead, ahead_from, walks_over, walks_meets, walks_passes}
use Rattle.graph.specs.Rows.{adjacent_in, row_of, rows_graph}
use Rattle.graph.proofs.Rows.{row_adjacent}
use Rattle.connectivity.specs.Lists.{all, select, below}
use Rattle.connectivity.proofs.Lists.{and-true, true_or, bool?, clash, all_true, all-false, in_select, select_in, below_in, in_below}
use Rattle.certificates.specs.Tests.{all_below, rest, no_edge_between}
use Rattle.certificates.proofs.Decide.{Decides, same_test, decide_same, decide_test, decide_and, decide_or, decide_not, decide_all}
use Rattle.paths.proofs.Sets.{decide_subset}
use Rattle.sides.specs.Code.{misses_row, none_between, RestOf, Low}
use Rattle.sides.proofs.Sets.{rest-low, left_rest}

off : (b : Bool) → ¬ (b ≡ true) → b ≡ false
off b n = not-true b ((decide_not (decide_test b)).passes n)

-- ---- one vertex of the side

decide_misses : (rows : List ℕ) (left : ℕ → Bool) (u : ℕ) → Decides (misses_row rows left u) ((v : ℕ) → v < capacity → ¬ ((left v ≡ true) × (adjacent_in rows u v ≡ true)))
unfolding misses_row
decide_misses rows left u = decide_all (λ v. decide_not (decide_and (decide_test (left v)) (decide_test (adjacent_in rows u v)))) capacity

-- the rest loses nothing by taking out a row
pub misses_same : (rows : List ℕ) (u : ℕ) (left row : VertexSet) → length left.words ≡ word_count → length row.words ≡ word_count → Words left.words → row ≡ row_of rows u
    → subset_of left.words (wordwise less left row).words ≡ misses_row rows (has left.words) u
misses_same rows u left row l m w e =
    let after : (v : ℕ) → has (wordwise less left row).words v ≡ has left.words v && not (adjacent_in rows u v) =
    λ v. has-minus _ _ (l ∙ sym m) v ∙ ap (λ b. has left.words v && not b) (ap (λ (s : VertexSet). has s.words v) e ∙ row_adjacent rows u v) in
    same_test
    (decide_same (decide_subset left.words _ (l ∙ sym (wordwise-length less left row l m)) w)
    (λ f v i p. clash p.1 (not-true _ (and-true (has left.words v) _ (sym (after v) ∙ f v (omega arith) p.0)).1))
    (λ f v i p. after v ∙ rw (p, off _ (λ t. f v (omega arith) (p, t)))))
    (decide_misses rows (has left.words) u)

-- ---- all of them

pub between-same : (rows : List ℕ) (n : ℕ) → n ≤ capacity → (removed side left : List ℕ) → RestOf n removed side left → Low n side
    → none_between rows (has side) (has left) ≡ no_edge_between (rows_graph n rows) (has removed) (has side)
unfolding none_between
between-same rows n small removed side left r low = same_test
    (decide_same (decide_all (λ u. decide_or (decide_not (decide_test (has side u))) (decide_misses rows (has left) u)) capacity)
    (λ f u i v j p. ⊎_elim (λ k. k p.0) (λ k. k v (omega arith) (left_rest n removed side left r v j ∙ p.1.0, p.1.1)) (f u (omega arith)))
    (λ f u i. ⊎_elim
    (λ t. inr (λ v j p. let k = rest-low n removed side left r v p.0 in f u (low u t) v k (t, (sym (left_rest n removed side left r v k) ∙ p.0, p.1))))
    (λ t. inl (λ s. clash s t))
    (bool? (has side u))))
    (decide_all (λ u. decide_all (λ v. decide_not (decide_and (decide_test (has side u)) (decide_and (decide_test (rest (has removed) (has side) v)) (decide_test (adjacent_in rows u v))))) n) n)

-- ---- the walk: what it has ahead of it misses the rest exactly where all of the side does

-- over a variable, since the numbers below capacity are many to compute
all-selected : (p m : ℕ → Bool) (n : ℕ) → all m (select p (below n)) ≡ all_below n (λ u. not (p u) || m u)
all-selected p m n = same_test
    (record { holds = holds; passes = passes })
    (decide_all (λ u. decide_test (not (p u) || m u)) n)
  where
    holds : all m (select p (below n)) ≡ true → (u : ℕ) → u < n → not (p u) || m u ≡ true
    holds e u i = ⊎_elim
        (λ t. true_or (not (p u)) (m u) (all_true m (select p (below n)) e u (in_select p (below n) u (below_in n u i) t)))
        (λ f. rw f)
        (bool? (p u))

    passes : ((u : ℕ) → u < n → not (p u) || m u ≡ true) → all m (select p (below n)) ≡ true
    passes f = ⊎_elim
        (λ t. t)
        (λ e. let a = all-false m (select p (below n)) e in let s = select_in p (below n) a.0 a.1 in
        absurd (clash (f a.0 (in_below n a.0 s.0)) (rw (s.1, a.2))))
        (bool? (all m (select p (below n))))

module _ (rows side : List ℕ) (left : ℕ → Bool) where
  pub clear_begin : length side ≡ word_count → {w : Cursor} → w ≡ walk_from side 0 → all (misses_row rows left) (ahead side w) ≡ none_between rows (has side) left
  unfolding none_between
  clear_begin l e =
      let n : 64 * length side - 0 ≡ capacity = omega arith in
      ap (λ (w : Cursor). all (misses_row rows left) (ahead side w)) e
      ∙ ap (all (misses_row rows left)) (ahead_from side 0)
      ∙ all-selected (has side) (misses_row rows left) (64 * length side - 0)
      ∙ ap (λ (k : ℕ). all_below k (λ u. not (has side u) || misses_row rows left u)) n

  module _ {w : Cursor} (o : Walks side w) (e : all (misses_row rows left) (ahead side w) ≡ none_between rows (has side) left) where
    pub clear_over : going word_count w ≡ false → true ≡ none_between rows (has side) left
    clear_over g = sym (ap (all (misses_row rows left)) (walks_over o g)) ∙ e

    module _ (g : going word_count w ≡ true) {r : Cursor} (s : r ≡ stepped side w) where
      pub met_all : meets w ≡ true → {b : Bool} → misses_row rows left (met w) ≡ b → (b && all (misses_row rows left) (ahead side r)) ≡ none_between rows (has side) left
      met_all m f = ap (λ (b : Bool). b && all (misses_row rows left) (ahead side r)) (sym f) ∙ sym (ap (all (misses_row rows left)) (walks_meets o g s m)) ∙ e

      pub clear_passes : meets w ≡ false → all (misses_row rows left) (ahead side r) ≡ none_between rows (has side) left
      clear_passes m = sym (ap (all (misses_row rows left)) (walks_passes o g s m)) ∙ e
