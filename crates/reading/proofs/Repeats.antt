-- An edge joined once more changes no row, so a plan and the plan with each double written once have the same rows. Assumes nothing.
use Prim.Native.Nat.{ℕ, ◌+◌, ◌*◌, ◌<◌, ◌≤◌}
use mathlib.Core.List.{List, [], ◌∷◌}
use mathlib.Core.Bool.{Bool, true, false, cond, ◌||◌, and-false, or-true}
use mathlib.Core.Path.{◌≡◌, refl, ap, ◌∙◌}
use native.Mathlib.Omega.{arith}
use lib.Dec.{eqb}
use lib.ListN.{length, length-set, length-replicate}
use borrow.Author.Tests.{eq-eqb, ne_eqb}
use Rattle.record.specs.Read.{Each, folded}
use Rattle.vertexset.specs.Set.{has, with_bit, capacity}
use Rattle.vertexset.proofs.Laws.{has-insert, insert_again}
use Rattle.connectivity.specs.Graph.{is_pair}
use Rattle.connectivity.proofs.TopologicalGraph.{is_pair_lem}
use Rattle.graph.specs.Rows.{row_words, joined, bare_rows}
use Rattle.reading.specs.Plan.{Plan, Allowed, EdgeAllowed, once_after, once}
use Rattle.reading.proofs.EdgeTests.{proper-true}

-- two bits set once more
set_again : (ws : List ℕ) (u v : ℕ) → u < 64 * length ws → v < 64 * length ws → with_bit (with_bit (with_bit (with_bit ws u) v) u) v ≡ with_bit (with_bit ws u) v
set_again ws u v h k =
    ap (λ (r : List ℕ). with_bit r v) (insert_again (with_bit (with_bit ws u) v) u (simp length-set h) first) ∙ insert_again (with_bit (with_bit ws u) v) v (simp length-set k) second
  where
    both : (x : ℕ) → has (with_bit (with_bit ws u) v) x ≡ (has ws x || eqb x u) || eqb x v
    both x =
        ap (λ (f : ℕ → Bool). f x) (has-insert (with_bit ws u) v (simp length-set k))
        ∙ ap (λ (f : ℕ → Bool). f x || eqb x v) (has-insert ws u h)

    first : has (with_bit (with_bit ws u) v) u ≡ true
    first = both u ∙ rw (eq-eqb u u refl, or-true)

    second : has (with_bit (with_bit ws u) v) v ≡ true
    second = both v ∙ rw (eq-eqb v v refl, or-true)

joined-again : (rows : List ℕ) (e : ℕ × ℕ) → length rows ≡ row_words → e.0 < capacity → e.1 < capacity → joined (joined rows e) e ≡ joined rows e
joined-again rows e l h k = set_again rows (e.0 * capacity + e.1) (e.1 * capacity + e.0) (omega arith) (omega arith)

-- where the edge before is joined already, an edge equal to it may be left out
rows_after : (n : ℕ) → n ≤ capacity → (before : ℕ × ℕ) (es : List (ℕ × ℕ)) (rows : List ℕ) → length rows ≡ row_words
    → Each (EdgeAllowed n) (λ before e. e) before es → joined rows before ≡ rows → folded joined rows (once_after before es) ≡ folded joined rows es
unfolding folded once_after Each
rows_after n b before [] rows l h k = refl
rows_after n b before (e ∷ es) rows l h k = go (is_pair before e.0 e.1) refl (λ r m. rows_after n b e es r m h.1)
  where
    go : (t : Bool) → is_pair before e.0 e.1 ≡ t → ((r : List ℕ) → length r ≡ row_words → joined r e ≡ r → folded joined r (once_after e es) ≡ folded joined r es)
        → folded joined rows (cond t (once_after e es) (e ∷ once_after e es)) ≡ folded joined (joined rows e) es
    go true t ih =
        let s : joined rows e ≡ rows = rw (← is_pair_lem before e t) k in
        rw s (ih rows l s)
    go false t ih =
        let q = proper-true n e h.0.0 in
        ih (joined rows e) (simp length-set l) (joined-again rows e l (omega arith) (omega arith))

-- THE PLAN WITH EACH DOUBLE WRITTEN ONCE HAS THE PLAN'S ROWS.
pub rows_once : (p : Plan) → Allowed p → folded joined bare_rows (once p).edges ≡ folded joined bare_rows p.edges
unfolding folded once_after Each
rows_once p a = go p.edges a.each
  where
    go : (es : List (ℕ × ℕ)) → Each (EdgeAllowed p.n) (λ before e. e) (0, 0) es → folded joined bare_rows (once_after (0, 0) es) ≡ folded joined bare_rows es
    go [] h = refl
    go (e ∷ es) h =
        let q = proper-true p.n e h.0.0 in
        let l = length-replicate {A = ℕ} row_words 0 in
        let m : is_pair (0, 0) e.0 e.1 ≡ false = rw (ne_eqb 0 e.1 (λ z. omega arith)) (and-false (eqb 0 e.0)) in
        rw m (rows_after p.n (omega arith) e es (joined bare_rows e) (simp length-set l) h.1 (joined-again bare_rows e l (omega arith) (omega arith)))
