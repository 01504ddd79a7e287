-- The vertices below a number as words: which bits of which word are 1, at any number of words. Assumes nothing.
use mathlib.Core.Path.{◌≡◌, refl, sym, ap, ◌∙◌}
use mathlib.Core.Bool.{true, false}
use mathlib.Core.List.{List}
use Prim.Native.Nat.{ℕ, zero, suc, ◌+◌, ◌*◌, ◌-◌, ◌/◌, ◌%◌, ◌^◌, ◌<◌, ◌≤◌, min}
use native.Mathlib.Nat.{two-pow-succ, one-mul, div-eq_of_lt}
use native.Mathlib.Decide.{ℕ_discrete}
use native.Mathlib.Omega.{arith}
use lib.Dec.{ltb, lit<}
use lib.ListN.{length, get_or, replicate, length-set, length-replicate, get_or-replicate, get_or-eq_default}
use lib.Pow.{pow_pos, pow_mono, ones_split, ones_lt, high}
use lib.Seq.{get_or-set_same, get_or-set_other}
use lib.Bits.{bit_or, or_shifted_r}
use borrow.Author.Tests.{lt-ltb, le-ltb}
use Rattle.connectivity.proofs.Lists.{below?}
use Rattle.vertexset.specs.Set.{Words, word_count, capacity, has, with_bit, below_set}
use Rattle.vertexset.proofs.Bit.{on}
use Rattle.vertexset.proofs.Laws.{has-past, inserted-length}

-- ---- the lowest bits of a word

-- how many bits of word i stand for vertices below n
abbrev pub lows : ℕ → ℕ → ℕ
lows n i = min (n - 64 * i) 64

low_on : (j k : ℕ) → on (2 ^ (suc j + k) - 1) k ≡ true
low_on j k =
    let odd : (2 ^ suc j - 1) % 2 ≡ 1 = omega (arith, two-pow-succ j, pow_pos j) in
    rw (ones_split (suc j) k, high (2 ^ suc j - 1) k (ones_lt k), odd)

low_off : (m k : ℕ) → m ≤ k → on (2 ^ m - 1) k ≡ false
low_off m k h =
    let l : 2 ^ m - 1 < 2 ^ k = omega (arith, ones_lt m, pow_mono h) in
    rw (div-eq_of_lt l)

on_lows : (m k : ℕ) → on (2 ^ m - 1) k ≡ ltb k m
on_lows m k = elim (below? k m) [
  | yes h ↦ let e : m ≡ suc (m - suc k) + k = omega arith in ap (λ i. on (2 ^ i - 1) k) e ∙ low_on (m - suc k) k ∙ sym (lt-ltb k m h)
  | no n ↦ low_off m k (omega arith) ∙ sym (le-ltb k m (omega arith))
]

-- ---- word by word

-- each word holds the vertices below n
abbrev Lows : ℕ → List ℕ → Type 0
Lows n ws = (i : ℕ) → i < length ws → get_or ws i 0 ≡ 2 ^ lows n i - 1

lows_none : (c : ℕ) → Lows 0 (replicate c 0)
lows_none c i h =
    let z : lows 0 i ≡ 0 = omega arith in
    get_or-replicate c i 0 0 (rw length-replicate at h) ∙ rw z

-- a bit above the lowest ones
one_more : (m : ℕ) → bit_or (2 ^ m - 1) (2 ^ m) ≡ 2 ^ suc m - 1
one_more m =
    ap (bit_or (2 ^ m - 1)) (sym (one-mul (2 ^ m))) ∙ or_shifted_r 1 m (2 ^ m - 1) (ones_lt m) ∙ omega (arith, two-pow-succ m, pow_pos m)

lows_more : (n : ℕ) (ws : List ℕ) → Lows n ws → Lows (suc n) (with_bit ws n)
lows_more n ws h i l = elim (ℕ_discrete i (n / 64)) [
  | yes e ↦
      let k : n / 64 < length ws = rw (length-set, e) at l in
      let a : lows n (n / 64) ≡ n % 64 = omega arith in
      let b : lows (suc n) (n / 64) ≡ suc (n % 64) = omega arith in
      rw (e, get_or-set_same ws (n / 64) _ 0 k, h (n / 64) k, a, b) (one_more (n % 64))
  | no d ↦
      let k : i < length ws = rw length-set at l in
      let s : lows n i ≡ lows (suc n) i = omega arith in
      rw (get_or-set_other ws (n / 64) i _ 0 d, h i k, s)
]

-- of the vertices that the words can hold, those below n are members
lows_has : (n : ℕ) (ws : List ℕ) → Lows n ws → (x : ℕ) → x < 64 * length ws → has ws x ≡ ltb x n
lows_has n ws h x l = rw (h (x / 64) (omega arith)) (on_lows (lows n (x / 64)) (x % 64) ∙ same (below? x n)) where
  same : Dec (x < n) → ltb (x % 64) (lows n (x / 64)) ≡ ltb x n
  same (yes k) = rw (lt-ltb x n k, lt-ltb (x % 64) (lows n (x / 64)) (omega arith))
  same (no k) = rw (le-ltb x n (omega arith), le-ltb (x % 64) (lows n (x / 64)) (omega arith))

lows_small : (n : ℕ) (ws : List ℕ) → Lows n ws → Words ws
lows_small n ws h i = elim (below? i (length ws)) [
  | yes l ↦ rw (h i l) (omega (arith, ones_lt (lows n i), pow_mono {i = lows n i} {j = 64} (omega arith)))
  | no l ↦ rw (get_or-eq_default ws 0 {n = i} (omega arith)) (lit< tt)
]

-- ---- the set

pub below_length : (n : ℕ) → length (below_set n).words ≡ word_count
unfolding below_set
below_length zero = refl
below_length (suc n) = inserted-length (below_set n) n (below_length n)

below-lows : (n : ℕ) → Lows n (below_set n).words
unfolding below_set
below-lows zero = lows_none word_count
below-lows (suc n) = lows_more n (below_set n).words (below-lows n)

pub below_word : (n i : ℕ) → i < word_count → get_or (below_set n).words i 0 ≡ 2 ^ lows n i - 1
below_word n i h = below-lows n i (omega (arith, below_length n))

pub below-small : (n : ℕ) → Words (below_set n).words
below-small n = lows_small n (below_set n).words (below-lows n)

pub below-has : (n : ℕ) → n ≤ capacity → (x : ℕ) → has (below_set n).words x ≡ ltb x n
below-has n h x = elim (below? x capacity) [
  | yes l ↦ lows_has n (below_set n).words (below-lows n) x (omega (arith, below_length n))
  | no l ↦ has-past (below_set n).words x (omega (arith, below_length n)) ∙ sym (le-ltb x n (omega arith))
]
