-- A number that is no value is a fault, an answer that does not accept is another: what the other arm of a `let .. else` knows.
-- Assumes nothing.
use Prim.Native.Nat.{ℕ}
use mathlib.Core.List.{List}
use mathlib.Core.Bool.{Bool, cond}
use mathlib.Core.Path.{◌≡◌, refl}
use Rattle.record.specs.Read.{Read.Got, Read.Refused, ◌needs⟨◌⟩◌}
use Rattle.record.specs.Number.{number, number_at, as_read, fault_number, fault_place}
use Rattle.record.specs.declared.Answer.{Answer}
use Rattle.record.specs.declared.Answer.TheVariants.{Accepted}
use Rattle.record.specs.declared.Number.{Number}
use Rattle.record.specs.declared.Number.TheVariants.{Value, Ended, Padded, Overlong}

-- what the else of `let Number::Value(..) = x else` knows
abbrev pub NoValue : Number → Type 0
NoValue x = (v next : ℕ) → x ≡ Value v next → ⊥

pub no_value : (x : Number) → NoValue x → as_read x ≡ Refused (fault_number x) (fault_place x)
no_value (Value v next) k = absurd (k v next refl)
no_value (Ended p) k = refl
no_value (Padded p) k = refl
no_value (Overlong p) k = refl

-- the same of the number at a place: the number and the place are those of the answers plan_fault and certificate_fault
pub unread : {x : Number} (s : List ℕ) (at : ℕ) → x ≡ number_at s at → NoValue x → as_read (number_at s at) ≡ Refused (fault_number x) (fault_place x)
unread {x} s at e k = rw (← e) (no_value x k)

-- a number that is tested once it is read
module _ (r : ℕ) (ok : ℕ → Bool) (s : List ℕ) (at : ℕ) where
  pub tested_unread : {q p : ℕ} → as_read (number_at s at) ≡ Refused q p → (number needs⟨ r ⟩ ok) s at ≡ Refused q p
  unfolding number ◌needs⟨◌⟩◌
  tested_unread e = rw e

  pub tested_value : {v next : ℕ} {b : Bool} → Value v next ≡ number_at s at → ok v ≡ b → (number needs⟨ r ⟩ ok) s at ≡ cond b (Got v next) (Refused r at)
  unfolding number ◌needs⟨◌⟩◌
  tested_value e f = rw (← e, f)

-- what the else of `let Answer::Accepted = a else` knows
abbrev pub NotAccepted : Answer → Type 0
NotAccepted a = a ≡ Accepted → ⊥

pub not_accepted : (a : Answer) → NotAccepted a → a ≡ Accepted → ⊥
not_accepted a k = k
