-- One byte more than a limit tells as much of an input as all of it, where every longer input gives the same.
use Rattle.std.proofs.Common.{◌≡◌, ℕ, suc, ◌<◌, inl, inr, List, Option, None, Some, IfSome, length, take, arith, sym, ap, ◌∙◌, subst}
use Rattle.std.proofs.lemmas.Bool.{cases_lt}
use Rattle.std.proofs.lemmas.List.{take_all, length-take-le}

-- k is the limit, and `long` what f makes of every longer input
module _ {A : Type 0} (k : ℕ) (f : List ℕ → A) (long : A) (h : (s : List ℕ) → k < length s → f s ≡ long) where
  pub limited : (s : List ℕ) → f (take (suc k) s) ≡ f s
  limited s = elim (cases_lt k (length s)) [
    | inl l ↦ (let e = length-take-le (suc k) s (omega arith) in h (take (suc k) s) (omega arith) ∙ sym (h s l))
    | inr l ↦ ap f (take_all (suc k) s (omega arith))
  ]

  -- what holds of what is made of the bytes that were read holds of what is made of the whole input
  pub of_input : (input : Option (List ℕ)) (s : List ℕ) → IfSome input (λ xs. s ≡ take (suc k) xs) → (P : A → Type 0) {x : A} → x ≡ f s → P x → IfSome input (λ xs. P (f xs))
  of_input None s e P b p = tt
  of_input (Some xs) s e P b p = subst P (b ∙ ap f e ∙ limited xs) p
