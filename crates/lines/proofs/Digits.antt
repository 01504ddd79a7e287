-- The digits that std writes are the number in decimal, and how many they are. Assumes nothing.
use Prim.Native.Nat.{ℕ, zero, suc, ◌+◌, ◌/◌, ◌%◌, ◌^◌, ◌≤◌, ◌<◌}
use mathlib.Core.List.{List, [], ◌∷◌, ◌++◌}
use mathlib.Core.Bool.{Bool, true, false}
use mathlib.Core.Path.{◌≡◌, refl, sym, ap, ◌∙◌}
use native.Mathlib.Omega.{arith}
use lib.ListN.{length, length-append}
use lib.Dec.{ltb}
use borrow.Author.Tests.{lt-ltb, le-ltb, ltb-true, ltb-false}
use Rattle.std.specs.Fmt.{decimal as printed}
use Rattle.std.proofs.lemmas.Fmt.{decimal_digit, decimal_step}
use Rattle.lines.specs.Lines.{digits_in, decimal}

one_digit : (j n : ℕ) → n < 10 → digits_in (suc j) n ≡ (48 + n) ∷ []
unfolding digits_in
one_digit j n h = rw (lt-ltb n 10 h)

more_digits : (j n : ℕ) → 10 ≤ n → digits_in (suc j) n ≡ digits_in j (n / 10) ++ ((48 + n % 10) ∷ [])
unfolding digits_in
more_digits j n h = rw (le-ltb n 10 h)

-- enough digits are allowed for
same_digits : (j n : ℕ) → n < j → n < 2 ^ 64 → printed n ≡ digits_in j n
same_digits zero n h f = absurd (omega arith)
same_digits (suc j) n h f = go (ltb n 10) refl (λ c. same_digits j (n / 10) (omega arith) (omega arith))
  where
    go : (t : Bool) → ltb n 10 ≡ t → (10 ≤ n → printed (n / 10) ≡ digits_in j (n / 10)) → printed n ≡ digits_in (suc j) n
    go true e s = let c = ltb-true _ _ e in decimal_digit n c ∙ sym (one_digit j n c)
    go false e s = let c = ltb-false _ _ e in decimal_step n c f ∙ ap (λ (r : List ℕ). r ++ ((48 + n % 10) ∷ [])) (s c) ∙ sym (more_digits j n c)

-- what std prints for a number is the number in decimal
pub decimal-printed : (n : ℕ) → n < 2 ^ 64 → printed n ≡ decimal n
decimal-printed n f = same_digits (suc n) n (omega arith) f

short_in : (k j n : ℕ) → n < j → n < 10 ^ suc k → length (digits_in j n) ≤ suc k
short_in k zero n h b = absurd (omega arith)
short_in zero (suc j) n h b = let c : n < 10 = b in omega (arith, ap length (one_digit j n c))
short_in (suc k) (suc j) n h b = go (ltb n 10) refl (λ c. short_in k j (n / 10) (omega arith) (omega (arith, b)))
  where
    go : (t : Bool) → ltb n 10 ≡ t → (10 ≤ n → length (digits_in j (n / 10)) ≤ suc k) → length (digits_in (suc j) n) ≤ suc (suc k)
    go true e s = omega (arith, ap length (one_digit j n (ltb-true _ _ e)))
    go false e s =
        let c : 10 ≤ n = ltb-false _ _ e in
        omega (arith, s c, ap length (more_digits j n c), length-append (digits_in j (n / 10)) ((48 + n % 10) ∷ []))

-- a number below a power of ten has no more digits than it has factors
pub decimal-short : (k n : ℕ) → n < 10 ^ suc k → length (decimal n) ≤ suc k
decimal-short k n b = short_in k (suc n) n (omega arith) b

-- the definition, at a number
pub decimal-4096 : decimal 4096 ≡ 52 ∷ 48 ∷ 57 ∷ 54 ∷ []
unfolding digits_in
decimal-4096 = refl
