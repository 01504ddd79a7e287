-- The vertices of a path as a set, and a test of all vertices. Assumes nothing.
use Prim.Native.Nat.{ℕ, ◌*◌, ◌/◌, ◌%◌, ◌^◌, ◌<◌, ◌≤◌}
use mathlib.Core.List.{List, [], ◌∷◌}
use mathlib.Core.Bool.{Bool, true, false, ◌||◌, not, or-false, or_assoc}
use mathlib.Core.Path.{◌≡◌, refl, sym, ap, ◌∙◌}
use native.Mathlib.Omega.{arith}
use native.Mathlib.Decide.{ℕ_discrete}
use lib.ListN.{length, get_or}
use lib.Dec.{eqb}
use lib.Bits.{bit_or}
use borrow.Author.Tests.{lt-ltb, ltb-true}
use lib.Seq.{set_out}
use Rattle.record.specs.Read.{folded}
use Rattle.record.proofs.Loops.{All}
use Rattle.vertexset.specs.Set.{Words, has, empty_set, inserted, below_set, subset_of, word_count, capacity}
use Rattle.vertexset.specs.declared.VertexSet.{VertexSet}
use Rattle.vertexset.proofs.Laws.{empty-has, inserted-has, inserted-length, has-past, subset_has, has-subset}
use Rattle.vertexset.proofs.Below.{below_length, below-small, below-has}
use Rattle.connectivity.specs.Lists.{member}
use Rattle.connectivity.proofs.Lists.{clash}
use Rattle.certificates.specs.Tests.{all_below}
use Rattle.certificates.proofs.Decide.{Decides, same_test, decide_same, decide_test, decide_false, decide_all}

-- a set by its words, which the code changes in place
abbrev pub of_words : List ℕ → VertexSet
of_words ws = record { words = ws }

-- a vertex past the words changes nothing
pub past_same : (ws : List ℕ) (v : ℕ) → length ws ≤ v / 64 → inserted (of_words ws) v ≡ of_words ws
past_same ws v h = ap of_words (set_out ws (v / 64) (bit_or (get_or ws (v / 64) 0) (2 ^ (v % 64))) h)

-- a bit that is 0 is not 1
pub bit_clear : (x : ℕ) → eqb (x % 2) 0 ≡ not (eqb (x % 2) 1)
bit_clear x = elim (ℕ_discrete (x % 2) 0) [
  | yes e ↦ rw e
  | no n ↦ let e : x % 2 ≡ 1 = omega arith in rw e
]

pub taken-length : (B : VertexSet) (l : List ℕ) → length B.words ≡ word_count → length (folded inserted B l).words ≡ word_count
unfolding folded
taken-length B [] h = h
taken-length B (v ∷ l) h = taken-length (inserted B v) l (inserted-length B v h)

pub taken-has : (B : VertexSet) (l : List ℕ) (x : ℕ) → length B.words ≡ word_count → All (λ v. v < 64 * word_count) l
    → has (folded inserted B l).words x ≡ (has B.words x || member x l)
unfolding folded All
taken-has B [] x h q = sym (or-false _)
taken-has B (v ∷ l) x h q =
    taken-has (inserted B v) l x (inserted-length B v h) q.1
    ∙ ap (λ (f : ℕ → Bool). f x || member x l) (inserted-has B v h q.0)
    ∙ or_assoc (has B.words x) (eqb x v) (member x l)

pub listed_has : (l : List ℕ) (x : ℕ) → All (λ v. v < 64 * word_count) l → has (folded inserted empty_set l).words x ≡ member x l
listed_has l x q = taken-has empty_set l x refl q ∙ ap (λ (f : ℕ → Bool). f x || member x l) empty-has

-- ---- every vertex below n is in a set

pub decide_subset : (xs ys : List ℕ) → length xs ≡ length ys → Words xs → Decides (subset_of xs ys) ((x : ℕ) → x < 64 * length xs → has xs x ≡ true → has ys x ≡ true)
decide_subset xs ys l w = record { holds = λ e x i m. subset_has xs ys l e x m; passes = has-subset xs ys l w }

pub all-within : (n : ℕ) → n ≤ capacity → (ws : List ℕ) → length ws ≡ word_count → subset_of (below_set n).words ws ≡ all_below n (has ws)
all-within n small ws l = same_test
    (decide_same (decide_subset (below_set n).words ws (below_length n ∙ sym l) (below-small n))
    (λ f v h. f v (omega (arith, below_length n)) (below-has n small v ∙ lt-ltb v n h))
    (λ f v i m. f v (ltb-true v n (sym (below-has n small v) ∙ m))))
    (decide_all (λ v. decide_test (has ws v)) n)

-- no set holds a vertex past its words
pub all_past : (n : ℕ) → capacity < n → (ws : List ℕ) → length ws ≡ word_count → false ≡ all_below n (has ws)
all_past n h ws l = same_test decide_false
    (decide_same (decide_all (λ v. decide_test (has ws v)) n) (λ f. clash (f capacity h) (has-past ws capacity (omega arith))) (λ p. absurd p))
