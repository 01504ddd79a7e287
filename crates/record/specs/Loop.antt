-- What a loop that reads items one after the other gives: the contracts of such loops cite it.
use Rattle.std.specs.Prelude.{ℕ, List}
use Rattle.record.specs.Read.{Read, Read.Got, Read.Refused, Reader, many, folded}

abbrev pub finish : {A T R : Type 0} → (T → A → T) → (T → ℕ → R) → (ℕ → ℕ → R) → T → Read (List A) → R
finish step ok bad t (Got l next) = ok (folded step t l) next
finish step ok bad t (Refused r p) = bad r p

-- the loop keeps a value, which each item takes on by a step; ok and bad make its result
pub record Loop (S A T R : Type 0) : Type 0 where
  pub item : S → Reader A
  pub after : S → A → S
  pub step : T → A → T
  pub ok : T → ℕ → R
  pub bad : ℕ → ℕ → R

-- what the loop gives with k items left, from the state st and from t on
unfoldable pub runs : {S A T R : Type 0} → Loop S A T R → ℕ → S → T → List ℕ → ℕ → R
runs L k st t s at = finish L.step L.ok L.bad t (many L.item L.after k st s at)
