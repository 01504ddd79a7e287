-- Lists: membership, no duplicates, ascending order, and the same as tests that compute.
use Rattle.std.specs.Prelude.{◌≡◌, ◌⊎◌, List, [], ◌∷◌, Bool, false, ◌||◌, true, ◌&&◌, cond, ℕ, ◌<◌, zero, suc, eqb}

-- a stands in the list
abbrev pub In : {A : Type 0} → A → List A → Type 0
In a [] = ⊥
In a (b ∷ l) = (a ≡ b) ⊎ In a l

-- nothing stands in the list twice
abbrev pub NoDup : {A : Type 0} → List A → Type 0
NoDup [] = Unit {0}
NoDup (b ∷ l) = (¬ In b l) × NoDup l

-- each number is above the one before it
abbrev pub Ascending : List ℕ → Type 0
Ascending [] = Unit {0}
Ascending (a ∷ []) = Unit {0}
Ascending (a ∷ (b ∷ l)) = (a < b) × Ascending (b ∷ l)

-- k numbers from a on; the numbers below n
abbrev pub up_from : ℕ → ℕ → List ℕ
up_from a zero = []
up_from a (suc k) = a ∷ up_from (suc a) k

abbrev pub below : ℕ → List ℕ
below n = up_from 0 n

-- tests over a list of numbers
abbrev pub member : ℕ → List ℕ → Bool
member x [] = false
member x (a ∷ l) = eqb x a || member x l

abbrev pub any : (ℕ → Bool) → List ℕ → Bool
any p [] = false
any p (a ∷ l) = p a || any p l

abbrev pub all : (ℕ → Bool) → List ℕ → Bool
all p [] = true
all p (a ∷ l) = p a && all p l

-- those of a list that pass a test
abbrev pub select : {A : Type 0} → (A → Bool) → List A → List A
select p [] = []
select p (a ∷ l) = cond (p a) (a ∷ select p l) (select p l)
