-- What a walk has ahead of it, and how many steps that takes, at any number of words. Assumes nothing.
use mathlib.Core.Path.{◌≡◌, refl, sym, ap, ◌∙◌}
use mathlib.Core.Bool.{Bool, true, false, not, ◌&&◌, and-true, and-false, false≢true, cond}
use mathlib.Core.List.{List, [], ◌∷◌}
use Prim.Native.Nat.{ℕ, zero, suc, ◌+◌, ◌*◌, ◌-◌, ◌/◌, ◌%◌, ◌^◌, ◌<◌, ◌≤◌}
use native.Mathlib.Nat.{mul-mod_left, pow-suc, mul_assoc}
use native.Mathlib.Decide.{ℕ_discrete}
use native.Mathlib.Omega.{arith}
use lib.Dec.{eqb, ltb, lit<}
use lib.Pow.{pow-add, pow-lt, shl-shr, shr-shr, split}
use lib.ListN.{length, get_or, set}
use lib.Seq.{get_or-set_same, get_or-set_other, set-get_or}
use lib.Bits.{bit_xor, xor_lt}
use lib.Count.{count_trailing_zeros}
use borrow.Author.Tests.{eq-eqb, ne_eqb, eqb-true, ltb-true, ltb-false, not-false}
use Rattle.connectivity.specs.Lists.{select, up_from}
use Rattle.vertexset.specs.declared.Cursor.{Cursor}
use Rattle.vertexset.specs.Set.{Words, word_count, has, count, first_from, next}
use Rattle.vertexset.specs.Walk.{standing, walk_from, going, meets, met, stepped, steps, walked}
use Rattle.vertexset.proofs.Bit.{on, on_zero, on_pow, on_xor, tally, trailing_below, trailing_at, trailing_low}
use Rattle.vertexset.proofs.Laws.{at_word_lem, count-tally}

-- ---- the bits of a word from a place on, and without one of them

on_shifted : (a k j : ℕ) → k ≤ j → on (a * 2 ^ k) j ≡ on a (j - k)
on_shifted a k j h =
    let e : k + (j - k) ≡ j = omega arith in
    ap (λ (n : ℕ). eqb (n % 2) 1) (ap (λ (n : ℕ). a * 2 ^ k / 2 ^ n) (sym e) ∙ sym (shr-shr (a * 2 ^ k) k (j - k)) ∙ ap (λ (n : ℕ). n / 2 ^ (j - k)) (shl-shr a k))

pub on_from : (w k j : ℕ) → k ≤ j → on (w / 2 ^ k * 2 ^ k) j ≡ on w j
on_from w k j h =
    let e : k + (j - k) ≡ j = omega arith in
    on_shifted (w / 2 ^ k) k j h ∙ ap (λ (n : ℕ). eqb (n % 2) 1) (shr-shr w k (j - k) ∙ ap (λ (n : ℕ). w / 2 ^ n) e)

pub on_before : (w k j : ℕ) → j < k → on (w / 2 ^ k * 2 ^ k) j ≡ false
on_before w k j h =
    let d = k - suc j in
    let e : suc d + j ≡ k = omega arith in
    let split-up : w / 2 ^ k * 2 ^ k ≡ w / 2 ^ k * 2 ^ suc d * 2 ^ j =
    ap (λ (n : ℕ). w / 2 ^ k * n) (ap (λ (n : ℕ). 2 ^ n) (sym e) ∙ pow-add 2 (suc d) j) ∙ sym (mul_assoc (w / 2 ^ k) (2 ^ suc d) (2 ^ j)) in
    let even : w / 2 ^ k * 2 ^ suc d ≡ w / 2 ^ k * 2 ^ d * 2 = ap (λ (n : ℕ). w / 2 ^ k * n) (pow-suc 2 d) ∙ sym (mul_assoc (w / 2 ^ k) (2 ^ d) 2) in
    ap (λ (n : ℕ). eqb (n % 2) 1) (ap (λ (n : ℕ). n / 2 ^ j) split-up ∙ shl-shr (w / 2 ^ k * 2 ^ suc d) j ∙ even)
    ∙ ap (λ (n : ℕ). eqb n 1) (mul-mod_left (w / 2 ^ k * 2 ^ d) 2)

pub from_small : (w k : ℕ) → w < 2 ^ 64 → w / 2 ^ k * 2 ^ k < 2 ^ 64
from_small w k h = omega (arith, split w k)

-- a bit that was 1 is taken out, and no other
on_out : (w t k : ℕ) → on w t ≡ true → on (bit_xor w (2 ^ t)) k ≡ (on w k && not (eqb k t))
on_out w t k h = elim (ℕ_discrete k t) [
  | yes e ↦ rw (e, on_xor w (2 ^ t) t, on_pow t t, eq-eqb t t refl, h)
  | no n ↦ rw (on_xor w (2 ^ t) k, on_pow t k, ne_eqb t k (λ e. n (sym e)), ne_eqb k t n) (sym (and-true _))
]

-- ---- selecting from a row of numbers

select-skip : (p : ℕ → Bool) (d a n : ℕ) → ((j : ℕ) → j < d → p (a + j) ≡ false) → select p (up_from a (n + d)) ≡ select p (up_from (a + d) n)
select-skip p zero a n h =
    let e : a + 0 ≡ a = omega arith in
    let f : n + 0 ≡ n = omega arith in
    rw (e, f)
select-skip p (suc d) a n h =
    let z : a + 0 ≡ a = omega arith in
    let first : p a ≡ false = ap p (sym z) ∙ h 0 (omega arith) in
    let e : suc a + d ≡ a + suc d = omega arith in
    let m : n + suc d ≡ suc (n + d) = omega arith in
    rw (m, first)
    (select-skip p d (suc a) n (λ j l. let f : suc a + j ≡ a + suc j = omega arith in ap p f ∙ h (suc j) (omega arith)) ∙ ap (λ (b : ℕ). select p (up_from b n)) e)

select-same : (p q : ℕ → Bool) (n a : ℕ) → ((x : ℕ) → a ≤ x → p x ≡ q x) → select p (up_from a n) ≡ select q (up_from a n)
select-same p q zero a h = refl
select-same p q (suc n) a h = rw (h a (omega arith), select-same p q n (suc a) (λ x l. h x (omega arith)))

select-first : (p : ℕ → Bool) (a n : ℕ) → p a ≡ true → select p (up_from a (suc n)) ≡ a ∷ select p (up_from (suc a) n)
select-first p a n h = rw h

-- ---- what a walk has ahead of it

-- the members that it has still to meet: those left in the word at work, and those of the words behind it
unfoldable pub ahead : List ℕ → Cursor → List ℕ
ahead ws w = select (has (set ws w.word w.rest)) (up_from (64 * w.word) (64 * (length ws - w.word)))

-- the steps that it has still to take
abbrev pub left : List ℕ → Cursor → ℕ
left ws w = length (ahead ws w) + (length ws - w.word)

module _ (ws : List ℕ) (i r : ℕ) (h : i < length ws) where
  here : (j : ℕ) → j < 64 → has (set ws i r) (64 * i + j) ≡ on r j
  here j l =
      let e : 64 * i + j ≡ i * 64 + j = omega arith in
      ap (has (set ws i r)) e ∙ at_word_lem (set ws i r) i j l ∙ ap (λ (n : ℕ). on n j) (get_or-set_same ws i r 0 h)

  -- behind that word nothing changes
  elsewhere : (x : ℕ) → 64 * i + 64 ≤ x → has (set ws i r) x ≡ has ws x
  elsewhere x l = let n : ¬ (x / 64 ≡ i) = λ e. omega arith in ap (λ (m : ℕ). on m (x % 64)) (get_or-set_other ws i (x / 64) r 0 n)

  -- two rests with the same bits from j on
  same_from : (q j : ℕ) → ((k : ℕ) → j ≤ k → k < 64 → on r k ≡ on q k) → (x : ℕ) → 64 * i + j ≤ x → has (set ws i r) x ≡ has (set ws i q) x
  same_from q j same x l = elim (ℕ_discrete (x / 64) i) [
    | yes e ↦ rw (e, get_or-set_same ws i r 0 h, get_or-set_same ws i q 0 h) (same (x % 64) (omega arith) (omega arith))
    | no n ↦ rw (get_or-set_other ws i (x / 64) r 0 n, get_or-set_other ws i (x / 64) q 0 n)
  ]

module _ (ws : List ℕ) where
  pub ahead_standing : (i k : ℕ) → k < 64 → ahead ws (standing ws i k) ≡ select (has ws) (up_from (64 * i + k) (64 * (length ws - i) - k))
  unfolding ahead
  ahead_standing i k l = go (ltb i (length ws)) refl where
    go : (b : Bool) → ltb i (length ws) ≡ b
        → ahead ws (cond b (record { word = i; rest = get_or ws i 0 / 2 ^ k * 2 ^ k }) (record { word = length ws; rest = 0 })) ≡ select (has ws) (up_from (64 * i + k) (64 * (length ws - i) - k))
    go true e =
        let h : i < length ws = ltb-true i (length ws) e in
        let r = get_or ws i 0 / 2 ^ k * 2 ^ k in
        let n : 64 * (length ws - i) ≡ 64 * (length ws - i) - k + k = omega arith in
        let same : (x : ℕ) → 64 * i + k ≤ x → has (set ws i r) x ≡ has (set ws i (get_or ws i 0)) x = same_from ws i r h (get_or ws i 0) k (λ j a b. on_from (get_or ws i 0) k j a) in
        ap (λ (m : ℕ). select (has (set ws i r)) (up_from (64 * i) m)) n
        ∙ select-skip (has (set ws i r)) k (64 * i) (64 * (length ws - i) - k) (λ j a. here ws i r h j (omega arith) ∙ on_before (get_or ws i 0) k j a)
        ∙ select-same (has (set ws i r)) (has (set ws i (get_or ws i 0))) (64 * (length ws - i) - k) (64 * i + k) same
        ∙ ap (λ (l : List ℕ). select (has l) (up_from (64 * i + k) (64 * (length ws - i) - k))) (set-get_or ws i 0)
    go false e =
        let h : length ws ≤ i = ltb-false i (length ws) e in
        let none : 64 * (length ws - i) - k ≡ 0 = omega arith in
        let over : 64 * (length ws - length ws) ≡ 0 = omega arith in
        rw (none, over)

  pub ahead_from : (v : ℕ) → ahead ws (walk_from ws v) ≡ select (has ws) (up_from v (64 * length ws - v))
  ahead_from v =
      let at : 64 * (v / 64) + v % 64 ≡ v = omega arith in
      let n : 64 * (length ws - v / 64) - v % 64 ≡ 64 * length ws - v = omega arith in
      ahead_standing (v / 64) (v % 64) (omega arith) ∙ rw (at, n)

  module _ (w : Cursor) where
    pub ahead_over : length ws ≤ w.word → ahead ws w ≡ []
    unfolding ahead
    ahead_over h = let over : 64 * (length ws - w.word) ≡ 0 = omega arith in rw over

    module _ (h : w.word < length ws) where
      pub ahead_passes : w.rest ≡ 0 → ahead ws w ≡ ahead ws (standing ws (w.word + 1) 0)
      unfolding ahead
      ahead_passes z =
          let i = w.word in
          let n : 64 * (length ws - i) ≡ 64 * (length ws - (i + 1)) + 64 = omega arith in
          let a : 64 * i + 64 ≡ 64 * (i + 1) + 0 = omega arith in
          let m : 64 * (length ws - (i + 1)) ≡ 64 * (length ws - (i + 1)) - 0 = omega arith in
          ap (λ (m : ℕ). select (has (set ws i w.rest)) (up_from (64 * i) m)) n
          ∙ select-skip (has (set ws i w.rest)) 64 (64 * i) (64 * (length ws - (i + 1)))
          (λ j l. here ws i w.rest h j l ∙ ap (λ (r : ℕ). on r j) z ∙ on_zero j)
          ∙ select-same (has (set ws i w.rest)) (has ws) (64 * (length ws - (i + 1))) (64 * i + 64) (elsewhere ws i w.rest h)
          ∙ ap (λ (x : ℕ). select (has ws) (up_from x (64 * (length ws - (i + 1))))) a
          ∙ ap (λ (x : ℕ). select (has ws) (up_from (64 * (i + 1) + 0) x)) m
          ∙ sym (ahead_standing (i + 1) 0 (omega arith))

      module _ (small : w.rest < 2 ^ 64) (z : ¬ (w.rest ≡ 0)) where
        low : count_trailing_zeros 64 w.rest < 64
        low = trailing_low 64 64 w.rest (omega arith) small z

        bit : on w.rest (count_trailing_zeros 64 w.rest) ≡ true
        bit = trailing_at 64 w.rest low

        -- behind the lowest bit
        abbrev onward : Cursor
        onward = record { word = w.word; rest = bit_xor w.rest (2 ^ count_trailing_zeros 64 w.rest) }

        gone : (j : ℕ) → j < suc (count_trailing_zeros 64 w.rest) → on onward.rest j ≡ false
        gone j l = elim (ℕ_discrete j (count_trailing_zeros 64 w.rest)) [
          | yes e ↦ rw (on_out w.rest (count_trailing_zeros 64 w.rest) j bit, eq-eqb _ _ e) (and-false (on w.rest j))
          | no n ↦ rw (on_out w.rest (count_trailing_zeros 64 w.rest) j bit, trailing_below 64 w.rest j (omega arith))
        ]

        kept : (k : ℕ) → suc (count_trailing_zeros 64 w.rest) ≤ k → k < 64 → on w.rest k ≡ on onward.rest k
        kept k l b =
            let n : ¬ (k ≡ count_trailing_zeros 64 w.rest) = λ e. omega arith in
            sym (on_out w.rest (count_trailing_zeros 64 w.rest) k bit ∙ rw (ne_eqb _ _ n) (and-true _))

        pub ahead_meets : ahead ws w ≡ met w ∷ ahead ws onward
        unfolding ahead
        ahead_meets =
            let i = w.word in
            let t = count_trailing_zeros 64 w.rest in
            let p = has (set ws i w.rest) in
            let q = has (set ws i onward.rest) in
            let m = 64 * (length ws - i) - suc t in
            let n : 64 * (length ws - i) ≡ suc m + t = omega (arith, low) in
            let n' : 64 * (length ws - i) ≡ m + suc t = omega (arith, low) in
            let s : suc (64 * i + t) ≡ 64 * i + suc t = omega arith in
            let first : p (64 * i + t) ≡ true = here ws i w.rest h t low ∙ bit in
            ap (λ (k : ℕ). select p (up_from (64 * i) k)) n
            ∙ select-skip p t (64 * i) (suc m) (λ j l. here ws i w.rest h j (omega (arith, low)) ∙ trailing_below 64 w.rest j l)
            ∙ select-first p (64 * i + t) m first
            ∙ ap (λ (l : List ℕ). (64 * i + t) ∷ l)
            (ap (λ (a : ℕ). select p (up_from a m)) s
            ∙ select-same p q m (64 * i + suc t) (same_from ws i w.rest h onward.rest (suc t) kept)
            ∙ sym (select-skip q (suc t) (64 * i) m (λ j l. here ws i onward.rest h j (omega (arith, low)) ∙ gone j l))
            ∙ ap (λ (k : ℕ). select q (up_from (64 * i) k)) (sym n'))

-- ---- one step

standing-word : (ws : List ℕ) (i k : ℕ) → i ≤ length ws → (standing ws i k).word ≡ i
standing-word ws i k h = go (ltb i (length ws)) refl where
  go : (b : Bool) → ltb i (length ws) ≡ b → ◌≡◌ {A = ℕ} (cond {A = Cursor} b (record { word = i; rest = get_or ws i 0 / 2 ^ k * 2 ^ k }) (record { word = length ws; rest = 0 })).word i
  go true e = refl
  go false e = omega (arith, ltb-false i (length ws) e)

standing-small : (ws : List ℕ) → Words ws → (i k : ℕ) → (standing ws i k).rest < 2 ^ 64
standing-small ws f i k = go (ltb i (length ws)) where
  go : (b : Bool) → (cond {A = Cursor} b (record { word = i; rest = get_or ws i 0 / 2 ^ k * 2 ^ k }) (record { word = length ws; rest = 0 })).rest < 2 ^ 64
  go true = from_small (get_or ws i 0) k (f i)
  go false = lit< tt

-- the words from the first one at work on
pub from_words : (ws : List ℕ) (v : ℕ) → length ws - (walk_from ws v).word ≡ length ws - v / 64
from_words ws v = go (ltb (v / 64) (length ws)) refl where
  go : (b : Bool) → ltb (v / 64) (length ws) ≡ b
      → length ws - (cond {A = Cursor} b (record { word = v / 64; rest = get_or ws (v / 64) 0 / 2 ^ (v % 64) * 2 ^ (v % 64) }) (record { word = length ws; rest = 0 })).word ≡ length ws - v / 64
  go true e = refl
  go false e = omega (arith, ltb-false (v / 64) (length ws) e)

pub from_walk_small : (ws : List ℕ) → Words ws → (v : ℕ) → (walk_from ws v).rest < 2 ^ 64
from_walk_small ws f v = standing-small ws f (v / 64) (v % 64)

more : (n : ℕ) → not (eqb n 0) ≡ true → ¬ (n ≡ 0)
more n h e = false≢true (sym (ap not (eq-eqb n 0 e)) ∙ h)

nothing : (n : ℕ) → not (eqb n 0) ≡ false → n ≡ 0
nothing n h = eqb-true n 0 (not-false (eqb n 0) h)

module _ (ws : List ℕ) (w : Cursor) (small : w.rest < 2 ^ 64) where
  pub step_small : Words ws → (stepped ws w).rest < 2 ^ 64
  step_small f = go (meets w) refl where
    go : (b : Bool) → meets w ≡ b → (cond b (record { word = w.word; rest = bit_xor w.rest (2 ^ count_trailing_zeros 64 w.rest) }) (standing ws (w.word + 1) 0)).rest < 2 ^ 64
    go true e = xor_lt 64 w.rest (2 ^ count_trailing_zeros 64 w.rest) small (pow-lt (trailing_low 64 64 w.rest (omega arith) small (more w.rest e)))
    go false e = standing-small ws f (w.word + 1) 0

  module _ (h : w.word < length ws) where
    pub step-meets : meets w ≡ true → ahead ws w ≡ met w ∷ ahead ws (stepped ws w)
    step-meets e = rw e (ahead_meets ws w h small (more w.rest e))

    pub step-passes : meets w ≡ false → ahead ws w ≡ ahead ws (stepped ws w)
    step-passes e = rw e (ahead_passes ws w h (nothing w.rest e))

    pub step_left : left ws w ≡ suc (left ws (stepped ws w))
    step_left = go (meets w) refl where
      go : (b : Bool) → meets w ≡ b → left ws w ≡ suc (left ws (cond b (record { word = w.word; rest = bit_xor w.rest (2 ^ count_trailing_zeros 64 w.rest) }) (standing ws (w.word + 1) 0)))
      go true e = omega (arith, ap length (ahead_meets ws w h small (more w.rest e)))
      go false e = omega (arith, ap length (ahead_passes ws w h (nothing w.rest e)), standing-word ws (w.word + 1) 0 (omega arith))

-- ---- how many steps a walk takes, and what it meets

pub steps-left : (ws : List ℕ) → Words ws → (k : ℕ) (w : Cursor) → w.rest < 2 ^ 64 → steps ws k w ≤ left ws w
unfolding steps
steps-left ws f zero w small = omega arith
steps-left ws f (suc k) w small = go (going (length ws) w) refl (steps-left ws f k (stepped ws w) (step_small ws w small f)) where
  go : (b : Bool) → going (length ws) w ≡ b → steps ws k (stepped ws w) ≤ left ws (stepped ws w) → cond b (suc (steps ws k (stepped ws w))) 0 ≤ left ws w
  go true e later = omega (arith, step_left ws w small (ltb-true w.word (length ws) e))
  go false e later = omega arith

pub steps-just : (ws : List ℕ) → Words ws → (k : ℕ) (w : Cursor) → w.rest < 2 ^ 64 → left ws w ≤ k → steps ws k w ≡ left ws w
unfolding steps
steps-just ws f zero w small l = omega arith
steps-just ws f (suc k) w small l = go (going (length ws) w) refl (steps-just ws f k (stepped ws w) (step_small ws w small f)) where
  go : (b : Bool) → going (length ws) w ≡ b → (left ws (stepped ws w) ≤ k → steps ws k (stepped ws w) ≡ left ws (stepped ws w)) → cond b (suc (steps ws k (stepped ws w))) 0 ≡ left ws w
  go true e later =
      let s = step_left ws w small (ltb-true w.word (length ws) e) in
      let m : left ws (stepped ws w) ≤ k = omega arith in
      omega (arith, later m)
  go false e later = let h = ltb-false w.word (length ws) e in omega (arith, ap length (ahead_over ws w h))

pub walked-ahead : (ws : List ℕ) → Words ws → (k : ℕ) (w : Cursor) → w.rest < 2 ^ 64 → left ws w ≤ k → walked ws k w ≡ ahead ws w
unfolding walked
walked-ahead ws f zero w small l = sym (ahead_over ws w (omega arith))
walked-ahead ws f (suc k) w small l = go (going (length ws) w) refl (walked-ahead ws f k (stepped ws w) (step_small ws w small f)) where
  turn : w.word < length ws → (b : Bool) → meets w ≡ b → walked ws k (stepped ws w) ≡ ahead ws (stepped ws w)
      → cond b (met w ∷ walked ws k (stepped ws w)) (walked ws k (stepped ws w)) ≡ ahead ws w
  turn h true e later = ap (λ (l : List ℕ). met w ∷ l) later ∙ sym (step-meets ws w small h e)
  turn h false e later = later ∙ sym (step-passes ws w small h e)

  go : (b : Bool) → going (length ws) w ≡ b → (left ws (stepped ws w) ≤ k → walked ws k (stepped ws w) ≡ ahead ws (stepped ws w))
      → cond b (cond (meets w) (met w ∷ walked ws k (stepped ws w)) (walked ws k (stepped ws w))) [] ≡ ahead ws w
  go true e later =
      let h = ltb-true w.word (length ws) e in
      turn h (meets w) refl (later (omega (arith, step_left ws w small h)))
  go false e later = sym (ahead_over ws w (ltb-false w.word (length ws) e))

-- ---- there are as many members as bits that are 1

pub tally_select : (p : ℕ → Bool) (k a : ℕ) → tally p (a + k) ≡ tally p a + length (select p (up_from a k))
unfolding tally
tally_select p zero a = let e : a + 0 ≡ a = omega arith in rw e (omega arith)
tally_select p (suc k) a = ap (tally p) (let e : a + suc k ≡ suc a + k = omega arith in e) ∙ tally_select p k (suc a) ∙ go (p a)
  where
    go : (b : Bool) → tally p a + cond b 1 0 + length (select p (up_from (suc a) k))
        ≡ tally p a + length (cond b (a ∷ select p (up_from (suc a) k)) (select p (up_from (suc a) k)))
    go true = omega arith
    go false = omega arith

pub members-count : (ws : List ℕ) → Words ws → (v : ℕ) → length (select (has ws) (up_from v (64 * length ws - v))) ≤ count ws
members-count ws f v = go (ltb v (64 * length ws)) refl where
  go : (b : Bool) → ltb v (64 * length ws) ≡ b → length (select (has ws) (up_from v (64 * length ws - v))) ≤ count ws
  go true e =
      let h = ltb-true v (64 * length ws) e in
      let s : v + (64 * length ws - v) ≡ 64 * length ws = omega arith in
      omega (arith, tally_select (has ws) (64 * length ws - v) v, ap (tally (has ws)) s, count-tally ws f)
  go false e = let z : 64 * length ws - v ≡ 0 = omega (arith, ltb-false v (64 * length ws) e) in rw z (omega arith)

-- ---- a walk as loops carry it, through a set of the code

pub record Walks (ws : List ℕ) (w : Cursor) : Type 0 where
  pub long : length ws ≡ word_count
  pub words : Words ws
  pub small : w.rest < 2 ^ 64

pub walks_begin : (ws : List ℕ) → length ws ≡ word_count → Words ws → (v : ℕ) {r : Cursor} → r ≡ walk_from ws v → Walks ws r
walks_begin ws l f v e = record { long = l; words = f; small = rw e (from_walk_small ws f v) }

module _ {ws : List ℕ} {w : Cursor} (o : Walks ws w) where
  pub walks_over : going word_count w ≡ false → ahead ws w ≡ []
  walks_over g = ahead_over ws w (omega (arith, o.long, ltb-false w.word word_count g))

  module _ {r : Cursor} (e : r ≡ stepped ws w) where
    pub walks_on : Walks ws r
    walks_on = record { long = o.long; words = o.words; small = rw e (step_small ws w o.small o.words) }

  module _ (g : going word_count w ≡ true) where
    within : w.word < length ws
    within = omega (arith, o.long, ltb-true w.word word_count g)

    module _ {r : Cursor} (e : r ≡ stepped ws w) where
      pub walks_meets : meets w ≡ true → ahead ws w ≡ met w ∷ ahead ws r
      walks_meets m = rw e (step-meets ws w o.small within m)

      pub walks_passes : meets w ≡ false → ahead ws w ≡ ahead ws r
      walks_passes m = rw e (step-passes ws w o.small within m)

      pub walks_less : left ws r < left ws w
      walks_less = rw e (omega (arith, step_left ws w o.small within))

-- ---- the next member is the first that a walk meets

-- the first of a list, or else z
unfoldable pub first_of : ℕ → List ℕ → ℕ
first_of z [] = z
first_of z (a ∷ l) = a

first_select : (p : ℕ → Bool) (z n v : ℕ) → first_from p z n v ≡ first_of z (select p (up_from v n))
unfolding first_from first_of
first_select p z zero v = refl
first_select p z (suc n) v = go (p v) (first_select p z n (suc v)) where
  go : (b : Bool) → first_from p z n (suc v) ≡ first_of z (select p (up_from (suc v) n))
      → cond b v (first_from p z n (suc v)) ≡ first_of z (cond b (v ∷ select p (up_from (suc v) n)) (select p (up_from (suc v) n)))
  go true later = refl
  go false later = later

next-ahead : (ws : List ℕ) (v : ℕ) → next ws v ≡ first_of (64 * length ws) (ahead ws (walk_from ws v))
next-ahead ws v = first_select (has ws) (64 * length ws) (64 * length ws - v) v ∙ ap (first_of (64 * length ws)) (sym (ahead_from ws v))

pub next-begin : (ws : List ℕ) → length ws ≡ word_count → (v : ℕ) {r : Cursor} → r ≡ walk_from ws v → first_of (64 * word_count) (ahead ws r) ≡ next ws v
next-begin ws l v {r} e = ap (λ (n : ℕ). first_of (64 * n) (ahead ws r)) (sym l) ∙ ap (λ (w : Cursor). first_of (64 * length ws) (ahead ws w)) e ∙ sym (next-ahead ws v)
