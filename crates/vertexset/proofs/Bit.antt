-- The bits of a number: what the operations do to them, and that they determine it. Assumes nothing.
use mathlib.Core.Path.{◌≡◌, refl, sym, ◌∙◌}
use mathlib.Core.Bool.{Bool, true, false, cond, not, ◌&&◌, ◌||◌, true≢false, false≢true}
use mathlib.Core.Logic.{◌⊎◌, inl, inr, ⊎_elim}
use Prim.Native.Nat.{ℕ, zero, suc, ◌+◌, ◌-◌, ◌*◌, ◌/◌, ◌%◌, ◌^◌, ◌<◌, ◌≤◌}
use native.Mathlib.Nat.{two-pow-succ, mod-lt, one-mul, zero-div, div-one, add_comm, add_assoc, pow-suc, mul-mod_left}
use native.Mathlib.Numerals.{add-one}
use native.Mathlib.Omega.{arith}
use lib.Dec.{eqb, lit<, eqb-zero-suc, eqb-suc-zero, eqb-suc-suc}
use lib.Pow.{shr-shr, shr_lt, shl-shr, shl_exact}
use lib.Bits.{bit_or, bit_and, bit_xor, or_shr, and_shr, xor_shr, or_mod, and_mod, xor_mod, and_step, xor_step, and_self, xor_zero_r}
use lib.Count.{ones, ones_step, count_trailing_zeros, under}
use Rattle.vertexset.specs.Set.{less}

-- of how many numbers below n p holds
unfoldable pub tally : (ℕ → Bool) → ℕ → ℕ
tally p zero = 0
tally p (suc n) = tally p n + cond (p n) 1 0

-- bit k of w is 1
abbrev pub on : ℕ → ℕ → Bool
on w k = eqb (w / 2 ^ k % 2) 1

-- what holds of 0 and 1 holds of the lowest bit of any number
by_bit : (P : ℕ → Type 0) → P 0 → P 1 → (a : ℕ) → P (a % 2)
by_bit P z o a = go (a % 2) (mod-lt a (lit< tt)) where
  go : (n : ℕ) → n < 2 → P n
  go zero h = z
  go (suc zero) h = o
  go (suc (suc n)) h = absurd (omega arith)

by_bits : (P : ℕ → ℕ → Type 0) → P 0 0 → P 0 1 → P 1 0 → P 1 1 → (a b : ℕ) → P (a % 2) (b % 2)
by_bits P zz zo oz oo a b = by_bit (λ p. P p (b % 2)) (by_bit (P 0) zz zo b) (by_bit (P 1) oz oo b) a

pub on_or : (a b k : ℕ) → on (bit_or a b) k ≡ (on a k || on b k)
on_or a b k =
    rw (or_shr, or_mod (a / 2 ^ k) (b / 2 ^ k) 1)
    (by_bits (λ p q. eqb (bit_or p q) 1 ≡ (eqb p 1 || eqb q 1)) refl refl refl refl (a / 2 ^ k) (b / 2 ^ k))

pub on_less : (a b k : ℕ) → on (less a b) k ≡ (on a k && not (on b k))
on_less a b k =
    rw (xor_shr, and_shr, xor_mod (a / 2 ^ k) (bit_and (a / 2 ^ k) (b / 2 ^ k)) 1, and_mod (a / 2 ^ k) (b / 2 ^ k) 1)
    (by_bits (λ p q. eqb (less p q) 1 ≡ (eqb p 1 && not (eqb q 1))) refl refl refl refl (a / 2 ^ k) (b / 2 ^ k))

pub on_xor : (a b k : ℕ) → on (bit_xor a b) k ≡ cond (on b k) (not (on a k)) (on a k)
on_xor a b k =
    rw (xor_shr, xor_mod (a / 2 ^ k) (b / 2 ^ k) 1)
    (by_bits (λ p q. eqb (bit_xor p q) 1 ≡ cond (eqb q 1) (not (eqb p 1)) (eqb p 1)) refl refl refl refl (a / 2 ^ k) (b / 2 ^ k))

-- bit k + 1 of a number is bit k of its half
on_half : (w k : ℕ) → on w (suc k) ≡ on (w / 2) k
on_half w k = rw (← add-one k, add_comm k 1, ← shr-shr w 1 k)

half_lt : (n w : ℕ) → w < 2 ^ suc n → w / 2 < 2 ^ n
half_lt n w h = shr_lt n 1 (rw (add-one n) h)

pub on_zero : (k : ℕ) → on 0 k ≡ false
on_zero k = rw zero-div

pub on_pow : (j k : ℕ) → on (2 ^ j) k ≡ eqb j k
on_pow zero zero = refl
on_pow zero (suc k) = rw (on_half 1 k, on_zero k) (sym (eqb-zero-suc k))
on_pow (suc j) zero = rw (div-one, pow-suc, mul-mod_left (2 ^ j) 2) (sym (eqb-suc-zero j))
on_pow (suc j) (suc k) = rw (on_half (2 ^ suc j) k, pow-suc, shl-shr (2 ^ j) 1, eqb-suc-suc j k) (on_pow j k)

-- the code's bit of a vertex
pub bit_of_lem : (v : ℕ) → 1 * 2 ^ (v % 64) % 2 ^ 64 ≡ 2 ^ (v % 64)
bit_of_lem v = rw (shl_exact {a = 1} 1 (v % 64) 64 (lit< tt) (omega arith), one-mul)

-- numbers below 2 ^ n with the same n bits are equal
pub same_bits : (n a b : ℕ) → a < 2 ^ n → b < 2 ^ n → ((k : ℕ) → k < n → on a k ≡ on b k) → a ≡ b
same_bits zero a b ha hb same = omega arith
same_bits (suc n) a b ha hb same =
    let upper : (k : ℕ) → k < n → on (a / 2) k ≡ on (b / 2) k = λ k l. sym (on_half a k) ∙ same (suc k) (omega arith) ∙ on_half b k in
    let halves : a / 2 ≡ b / 2 = same_bits n (a / 2) (b / 2) (half_lt n a ha) (half_lt n b hb) upper in
    let first : eqb (a % 2) 1 ≡ eqb (b % 2) 1 = rw (div-one a, div-one b) at (same 0 (omega arith)) in
    let lowest : a % 2 ≡ b % 2 = by_bits (λ p q. eqb p 1 ≡ eqb q 1 → p ≡ q) (λ e. refl) (λ e. absurd (false≢true e)) (λ e. absurd (true≢false e)) (λ e. refl) a b first in
    omega arith

-- ---- counting

tally_front : (p : ℕ → Bool) (n : ℕ) → tally p (suc n) ≡ cond (p 0) 1 0 + tally (λ k. p (suc k)) n
unfolding tally
tally_front p zero = add_comm 0 _
tally_front p (suc n) = rw (tally_front p n) (add_assoc _ _ _)

pub tally_same : (p q : ℕ → Bool) (n : ℕ) → ((k : ℕ) → k < n → p k ≡ q k) → tally p n ≡ tally q n
unfolding tally
tally_same p q zero same = refl
tally_same p q (suc n) same = rw (same n (omega arith), tally_same p q n (λ k l. same k (omega arith)))

-- a number below 2 ^ n has as many ones as bits that are 1
pub ones_tally : (n w : ℕ) → w < 2 ^ n → ones w ≡ tally (on w) n
unfolding tally ones
ones_tally zero w h = let e : w ≡ 0 = omega arith in rw e
ones_tally (suc n) w h =
    let lowest : w % 2 ≡ cond (eqb (w % 2) 1) 1 0 = by_bit (λ p. p ≡ cond (eqb p 1) 1 0) refl refl w in
    rw (
      tally_front (on w) n,
      ones_step w,
      ones_tally n (w / 2) (half_lt n w h),
      tally_same (on (w / 2)) (λ k. on w (suc k)) n (λ k l. sym (on_half w k)),
      div-one w,
      ← lowest,
    )

-- ---- the lowest bit that is 1

-- an even number has one zero more than its half, an odd one none
trailing_step : (n w : ℕ) → ((w % 2 ≡ 0) × (count_trailing_zeros (suc n) w ≡ suc (count_trailing_zeros n (w / 2)))) ⊎ ((w % 2 ≡ 1) × (count_trailing_zeros (suc n) w ≡ 0))
unfolding count_trailing_zeros
trailing_step n w =
    let t = count_trailing_zeros n (w / 2) in
    by_bit (λ p. ((p ≡ 0) × (under p t ≡ suc t)) ⊎ ((p ≡ 1) × (under p t ≡ 0))) (inl (refl, refl)) (inr (refl, refl)) w

pub trailing_below : (n w k : ℕ) → k < count_trailing_zeros n w → on w k ≡ false
unfolding count_trailing_zeros
trailing_below zero w k h = absurd (omega arith)
trailing_below (suc n) w zero h = ⊎_elim (λ e. rw (div-one w, e.0)) (λ o. absurd (omega arith)) (trailing_step n w)
trailing_below (suc n) w (suc k) h =
    ⊎_elim (λ e. on_half w k ∙ trailing_below n (w / 2) k (omega arith)) (λ o. absurd (omega arith)) (trailing_step n w)

pub trailing_at : (n w : ℕ) → count_trailing_zeros n w < n → on w (count_trailing_zeros n w) ≡ true
trailing_at zero w h = absurd (omega arith)
trailing_at (suc n) w h =
    ⊎_elim (λ e. rw e.1 (on_half w (count_trailing_zeros n (w / 2)) ∙ trailing_at n (w / 2) (omega arith))) (λ o. rw (o.1, div-one w, o.0)) (trailing_step n w)

-- a number below 2 ^ m that is not 0 has such a bit below m
pub trailing_low : (m n w : ℕ) → m ≤ n → w < 2 ^ m → ¬ (w ≡ 0) → count_trailing_zeros n w < m
trailing_low zero n w l h z = absurd (z (omega arith))
trailing_low (suc m) zero w l h z = absurd (omega arith)
trailing_low (suc m) (suc n) w l h z =
    ⊎_elim (λ e. omega (arith, trailing_low m n (w / 2) (omega arith) (half_lt m w h) (λ y. z (omega arith)))) (λ o. omega arith) (trailing_step n w)

-- without its lowest bit a number shares with the one below it all its bits but that
pub out_lowest : (n w : ℕ) → ¬ (w ≡ 0) → count_trailing_zeros n w < n → bit_and w (w - 1) ≡ bit_xor w (2 ^ count_trailing_zeros n w)
out_lowest zero w z h = absurd (omega arith)
out_lowest (suc n) w z h = ⊎_elim (λ e. even e (out_lowest n (w / 2) (λ y. z (omega (arith, e.0))) (omega (arith, e.1)))) odd (trailing_step n w)
  where
    odd : (w % 2 ≡ 1) × (count_trailing_zeros (suc n) w ≡ 0) → bit_and w (w - 1) ≡ bit_xor w (2 ^ count_trailing_zeros (suc n) w)
    odd o =
        let half : (w - 1) / 2 ≡ w / 2 = omega arith in
        let low : (w - 1) % 2 ≡ 0 = omega arith in
        rw (o.1, and_step w (w - 1), xor_step w 1, half, low, o.0, and_self, xor_zero_r)

    even : (w % 2 ≡ 0) × (count_trailing_zeros (suc n) w ≡ suc (count_trailing_zeros n (w / 2))) → bit_and (w / 2) (w / 2 - 1) ≡ bit_xor (w / 2) (2 ^ count_trailing_zeros n (w / 2))
        → bit_and w (w - 1) ≡ bit_xor w (2 ^ count_trailing_zeros (suc n) w)
    even e later =
        let t = count_trailing_zeros n (w / 2) in
        let half : (w - 1) / 2 ≡ w / 2 - 1 = omega arith in
        let low : (w - 1) % 2 ≡ 1 = omega (arith, z) in
        let half_pow : 2 ^ suc t / 2 ≡ 2 ^ t = omega (arith, two-pow-succ t) in
        let low-pow : 2 ^ suc t % 2 ≡ 0 = omega (arith, two-pow-succ t) in
        rw (e.1, and_step w (w - 1), xor_step w (2 ^ suc t), half, low, e.0, half_pow, low-pow, later)
