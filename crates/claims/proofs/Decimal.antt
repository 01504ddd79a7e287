-- A number in decimal is read back from a line, where a byte below the digits stands behind it. Assumes nothing.
use Prim.Native.Nat.{ℕ, zero, suc, ◌+◌, ◌-◌, ◌*◌, ◌/◌, ◌%◌, ◌≤◌, ◌<◌}
use mathlib.Core.List.{List, [], ◌∷◌, ◌++◌, append_assoc}
use mathlib.Core.Bool.{Bool, true, false, cond}
use mathlib.Core.Path.{◌≡◌, refl, sym, ap, ◌∙◌}
use native.Mathlib.Omega.{arith}
use lib.Dec.{ltb}
use borrow.Author.Tests.{lt-ltb, le-ltb, ltb-false}
use Rattle.lines.specs.Lines.{digits_in, decimal}

-- the number that the bytes from 48 on at the front say, behind the digits of a number so far, and the bytes behind them
read_from : ℕ → List ℕ → ℕ × List ℕ
read_from n [] = (n, [])
read_from n (d ∷ l) = cond (ltb d 48) (n, d ∷ l) (read_from (10 * n + (d - 48)) l)

read_digit : (n d : ℕ) (l : List ℕ) → read_from n ((48 + d) ∷ l) ≡ read_from (10 * n + d) l
unfolding read_from
read_digit n d l = let z : 48 + d - 48 ≡ d = omega arith in rw (le-ltb (48 + d) 48 (omega arith), z)

read_stop : (n d : ℕ) (l : List ℕ) → d < 48 → ◌≡◌ {A = ℕ × List ℕ} (read_from n (d ∷ l)) (n, d ∷ l)
unfolding read_from
read_stop n d l h = rw (lt-ltb d 48 h)

-- enough digits are allowed for
read_digits : (j n : ℕ) (l : List ℕ) → n < j → read_from 0 (digits_in j n ++ l) ≡ read_from n l
unfolding digits_in
read_digits zero n l h = absurd (omega arith)
read_digits (suc j) n l h = go (ltb n 10) refl (λ h. read_digits j (n / 10) ((48 + n % 10) ∷ l) h)
  where
    go : (t : Bool) → ltb n 10 ≡ t → (n / 10 < j → read_from 0 (digits_in j (n / 10) ++ ((48 + n % 10) ∷ l)) ≡ read_from (n / 10) ((48 + n % 10) ∷ l))
        → read_from 0 (cond t ((48 + n) ∷ []) (digits_in j (n / 10) ++ ((48 + n % 10) ∷ [])) ++ l) ≡ read_from n l
    go true e s = read_digit 0 n l ∙ (let z : 10 * 0 + n ≡ n = omega arith in rw z)
    go false e s =
        let b : 10 ≤ n = ltb-false n 10 e in
        let z : 10 * (n / 10) + n % 10 ≡ n = omega arith in
        rw (append_assoc (digits_in j (n / 10)) ((48 + n % 10) ∷ []) l) (s (omega arith) ∙ read_digit (n / 10) (n % 10) l ∙ rw z)

-- so two numbers with such bytes behind them are told apart
pub decimal-apart : (n k c d : ℕ) (r t : List ℕ) → c < 48 → d < 48 → decimal n ++ (c ∷ r) ≡ decimal k ++ (d ∷ t) → (n ≡ k) × (r ≡ t)
decimal-apart n k c d r t h i e =
    let x : ◌≡◌ {A = ℕ × List ℕ} (n, c ∷ r) (k, d ∷ t) =
    sym (read_digits (suc n) n (c ∷ r) (omega arith) ∙ read_stop n c r h) ∙ ap (read_from 0) e ∙ read_digits (suc k) k (d ∷ t) (omega arith) ∙ read_stop k d t i in
    let y : c ∷ r ≡ d ∷ t = ap (λ (p : ℕ × List ℕ). p.1) x in
    (ap (λ (p : ℕ × List ℕ). p.0) x, cc)
