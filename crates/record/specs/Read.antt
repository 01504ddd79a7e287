-- Reading a record: from a place on, a value and the place after it, or a refusal with the papers' number and its place.
use Rattle.std.specs.Prelude.{ℕ, zero, suc, ◌<◌, List, [], ◌∷◌, Bool, cond, ◌&&◌, length, get_or, ltb, leb}

pub data Read (A : Type 0) : Type 0 where
  Got : A → ℕ → Read A
  Refused : ℕ → ℕ → Read A

-- a reader is given the record's bytes and a place
abbrev pub Reader : Type 0 → Type 0
Reader A = List ℕ → ℕ → Read A

-- a value goes on, a refusal stays
abbrev pub on_read : {A B : Type 0} → Read A → (A → ℕ → Read B) → Read B
on_read (Got v next) f = f v next
on_read (Refused r p) f = Refused r p

-- an item is read whole, then tested; where the test fails it is refused by that number at its first byte
infixl 20 ◌needs⟨◌⟩◌
unfoldable pub ◌needs⟨◌⟩◌ : {A : Type 0} → Reader A → ℕ → (A → Bool) → Reader A
(R needs⟨ r ⟩ ok) s at = on_read (R s at) (λ v next. cond (ok v) (Got v next) (Refused r at))

-- one item, then another that may depend on it
infixr 15 ◌▸◌
unfoldable pub ◌▸◌ : {A : Type 0} {B : A → Type 0} → Reader A → ((a : A) → Reader (B a)) → Reader ((a : A) × B a)
(R ▸ f) s at = on_read (R s at) (λ a mid. on_read (f a s mid) (λ b next. Got (a, b) next))

-- a number that says what comes after it, and is not kept
infixr 15 ◌▹◌
unfoldable pub ◌▹◌ : {A B : Type 0} → Reader A → (A → Reader B) → Reader B
(R ▹ f) s at = on_read (R s at) (λ a mid. f a s mid)

-- k items, each read beside a state that the items before it have led to
unfoldable pub many : {S A : Type 0} → (S → Reader A) → (S → A → S) → ℕ → S → Reader (List A)
many item after zero st s at = Got [] at
many item after (suc k) st s at =
    on_read (item st s at) (λ a mid. on_read (many item after k (after st a) s mid) (λ l next. Got (a ∷ l) next))

-- what comes after a value, or what a refusal keeps
abbrev pub or_kept : {A B : Type 0} → Read A → (A → ℕ → B) → B → B
or_kept (Got v next) f kept = f v next
or_kept (Refused r p) f kept = kept

-- the state that the items before a fault, or all of them, have led to
unfoldable pub led : {S A : Type 0} → (S → Reader A) → (S → A → S) → ℕ → S → List ℕ → ℕ → S
led item after zero st s at = st
led item after (suc k) st s at = or_kept (item st s at) (λ a mid. led item after k (after st a) s mid) st

-- a count, then that many items
abbrev pub counted : {S A : Type 0} → Reader ℕ → (S → Reader A) → (S → A → S) → S → Reader (List A)
counted count item after st = count ▹ λ k. many item after k st

-- the value put together
unfoldable pub into : {A B : Type 0} → (A → B) → Reader A → Reader B
into f R s at = on_read (R s at) (λ a next. Got (f a) next)

-- a test that reads nothing; its place is the one after what was read
unfoldable pub check : ℕ → Bool → Reader (Unit {0})
check r ok s at = cond ok (Got tt at) (Refused r at)

-- a number within its bounds
abbrev pub within : ℕ → ℕ → ℕ → Bool
within least most k = leb least k && leb k most

-- 7: nothing may be left
unfoldable pub ended : {A : Type 0} → Reader A → Reader A
ended R s at = on_read (R s at) (λ v next. cond (ltb next (length s)) (Refused 7 next) (Got v next))

-- every element is a byte
abbrev pub Bytes : List ℕ → Type 0
Bytes s = (i : ℕ) → get_or s i 0 < 256

-- each item is in order beside the state that those before it have led to
unfoldable pub Each : {S A : Type 0} → (S → A → Type 0) → (S → A → S) → S → List A → Type 0
Each Ok after st [] = Unit {0}
Each Ok after st (a ∷ l) = (Ok st a) × (Each Ok after (after st a) l)

-- the items of a list taken in one after the other
unfoldable pub folded : {S A : Type 0} → (S → A → S) → S → List A → S
folded after st [] = st
folded after st (a ∷ l) = folded after (after st a) l
