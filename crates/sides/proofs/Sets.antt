-- Sides and rests as vertex sets, beside the tests of a certificate. Assumes nothing.
use Prim.Native.Nat.{ℕ, zero, suc, ◌+◌, ◌*◌, ◌<◌, ◌≤◌}
use mathlib.Core.List.{List, [], ◌∷◌}
use mathlib.Core.Bool.{Bool, true, false, cond, ◌&&◌, ◌||◌, not, false≢true, and_assoc}
use mathlib.Core.Path.{◌≡◌, refl, sym, ap, ◌∙◌}
use native.Mathlib.Nat.{add-zero}
use native.Mathlib.Omega.{arith}
use native.Mathlib.Decide.{ℕ_discrete}
use lib.Dec.{ltb}
use lib.ListN.{length}
use borrow.Author.Tests.{lt-ltb, ltb-true, ne_eqb}
use Rattle.record.proofs.Loops.{All}
use Rattle.vertexset.specs.Set.{Words, has, empty_set, inserted, below_set, word_count, wordwise, less, count, capacity}
use Rattle.vertexset.specs.declared.VertexSet.{VertexSet}
use Rattle.vertexset.proofs.Laws.{has-minus, empty-has, inserted-has, inserted-length, wordwise-length, count-tally}
use Rattle.vertexset.proofs.Below.{below_length, below-has}
use Rattle.connectivity.specs.Lists.{member}
use Rattle.connectivity.proofs.Lists.{and-true}
use Rattle.certificates.specs.Tests.{nobody, with, some_below, rest}
use Rattle.certificates.proofs.Decide.{Decides, same_test, decide_same, decide_test, decide_some}
use Rattle.sides.specs.Code.{RestOf, Low}
use Rattle.vertexset.proofs.Bit.{tally}

pub member-all : (Q : ℕ → Type 0) (l : List ℕ) → All Q l → (x : ℕ) → member x l ≡ true → Q x
unfolding All
member-all Q [] q x e = absurd (false≢true e)
member-all Q (a ∷ l) q x e = elim (ℕ_discrete x a) [
  | yes f ↦ rw f q.0
  | no n ↦ member-all Q l q.1 x (rw (ne_eqb x a n) at e)
]

-- ---- a vertex more

module _ (set : VertexSet) {after : VertexSet} (l : length set.words ≡ word_count) where
  pub more_length : (v : ℕ) → after ≡ inserted set v → length after.words ≡ word_count
  more_length v e = ap (λ (s : VertexSet). length s.words) e ∙ inserted-length set v l

  pub more_has : {v : ℕ} → after ≡ inserted set v → v < 64 * word_count → has after.words ≡ with (has set.words) v
  more_has {v} e h = ap (λ (s : VertexSet). has s.words) e ∙ inserted-has set v l h

pub one_has : {set after : VertexSet} {v : ℕ} → set ≡ empty_set → after ≡ inserted set v → v < 64 * word_count → has after.words ≡ with nobody v
one_has {v = v} e f h = more_has empty_set refl (f ∙ ap (λ (s : VertexSet). inserted s v) e) h ∙ ap (λ (p : ℕ → Bool). with p v) empty-has

-- ---- a set holds a vertex where its size is not 0

decide_members : (n : ℕ) (p : ℕ → Bool) → Decides (some_below n p) ((v : ℕ) × (v < n) × (p v ≡ true))
decide_members n p = decide_some (λ v. decide_test (p v)) n

tally_some : (p : ℕ → Bool) (k : ℕ) → ltb 0 (tally p k) ≡ some_below k p
unfolding tally some_below
tally_some p zero = refl
tally_some p (suc k) = go (p k) (tally p k) (tally_some p k)
  where
    go : (b : Bool) (t : ℕ) → ltb 0 t ≡ some_below k p → ltb 0 (t + cond b 1 0) ≡ b || some_below k p
    go true t e = lt-ltb 0 (t + 1) (omega arith)
    go false t e = rw (add-zero t) e

pub size_some : (ws : List ℕ) → Words ws → (n : ℕ) → n ≤ 64 * length ws → Low n ws → ltb 0 (count ws) ≡ some_below n (has ws)
size_some ws w n small low = rw (count-tally ws w) (tally_some (has ws) (64 * length ws)) ∙ same_test (decide_members (64 * length ws) (has ws))
    (decide_same (decide_members n (has ws)) (λ m. let i = m.1 in (m.0, omega arith, m.2)) (λ m. (m.0, low m.0 m.2, m.2)))

-- ---- the rest

pub rest-made : (n : ℕ) → n ≤ capacity → (removed side : VertexSet) → length removed.words ≡ word_count → length side.words ≡ word_count
    → RestOf n removed.words side.words (wordwise less (wordwise less (below_set n) removed) side).words
rest-made n small removed side l m x =
    let k = wordwise-length less (below_set n) removed (below_length n) l in
    has-minus _ _ (k ∙ sym m) x
    ∙ ap (λ b. b && not (has side.words x)) (has-minus _ _ (below_length n ∙ sym l) x ∙ ap (λ b. b && not (has removed.words x)) (below-has n small x))
    ∙ and_assoc (ltb x n) (not (has removed.words x)) (not (has side.words x))

module _ (n : ℕ) (removed side left : List ℕ) (r : RestOf n removed side left) where
  pub rest-low : Low n left
  rest-low x t = ltb-true x n (and-true (ltb x n) _ (sym (r x) ∙ t)).0

  pub left_rest : (x : ℕ) → x < n → has left x ≡ rest (has removed) (has side) x
  left_rest x h = r x ∙ rw (lt-ltb x n h)

  pub rest_some : some_below n (has left) ≡ some_below n (rest (has removed) (has side))
  rest_some = same_test (decide_members n (has left)) (decide_same (decide_members n (rest (has removed) (has side)))
      (λ m. (m.0, m.1, left_rest m.0 m.1 ∙ m.2)) (λ m. (m.0, m.1, sym (left_rest m.0 m.1) ∙ m.2)))
