-- A number of a record: groups of seven bits, lowest group first; a byte of 128 or more says that another follows.
use Rattle.std.specs.Prelude.{ℕ, zero, suc, ◌+◌, ◌-◌, ◌*◌, ◌/◌, ◌%◌, ◌^◌, List, [], ◌∷◌, ◌++◌, cond, length, get_or, ltb, eqb}
use Rattle.record.specs.Read.{Read, Read.Got, Read.Refused, Reader}
use Rattle.record.specs.declared.Number.{Number}
use Rattle.record.specs.declared.Number.TheVariants.{Value, Ended, Padded, Overlong}

-- the byte at a place, if the record has one there
abbrev pub on_byte : List ℕ → ℕ → (ℕ → Number) → Number
on_byte s at f = cond (ltb at (length s)) (f (get_or s at 0)) (Ended (length s))

-- a higher part that was read goes on, a fault stays
abbrev pub on_higher : Number → (ℕ → ℕ → Number) → Number
on_higher (Value v next) f = f v next
on_higher (Ended p) f = Ended p
on_higher (Padded p) f = Padded p
on_higher (Overlong p) f = Overlong p

-- the byte b at a place: the last group, or one with more groups above it
abbrev pub group : (List ℕ → ℕ → Number) → List ℕ → ℕ → ℕ → Number
group higher s at b = cond (ltb b 128) (Value b (at + 1)) (on_higher (higher s (at + 1)) (λ v next. Value (b - 128 + v * 128) next))

-- at most k groups above the first, of a number that begins at start: a byte of 0 there is padding
unfoldable pub higher_groups : ℕ → ℕ → List ℕ → ℕ → Number
higher_groups zero start s at = Overlong start
higher_groups (suc k) start s at = on_byte s at (λ b. cond (eqb b 0) (Padded start) (group (higher_groups k start) s at b))

-- a number of at most k groups at a place
unfoldable pub number_in : ℕ → List ℕ → ℕ → Number
number_in zero s at = Overlong at
number_in (suc k) s at = on_byte s at (λ b. group (higher_groups k at) s at b)

-- document 01: a number has one or two bytes
abbrev pub max_groups : ℕ
max_groups = 2

-- so every number is below
abbrev pub number_limit : ℕ
number_limit = 128 ^ max_groups

abbrev pub number_at : List ℕ → ℕ → Number
number_at s at = number_in max_groups s at

-- the papers' number and place for each fault: 1 at the record's length; at the number's first byte 2 for a second byte of 0, and by request 7 of document 02
-- "number 33 takes a second byte of 128 or more"
abbrev pub fault_number : Number → ℕ
fault_number (Value v next) = 0
fault_number (Ended p) = 1
fault_number (Padded p) = 2
fault_number (Overlong p) = 33

abbrev pub fault_place : Number → ℕ
fault_place (Value v next) = 0
fault_place (Ended p) = p
fault_place (Padded p) = p
fault_place (Overlong p) = p

abbrev pub as_read : Number → Read ℕ
as_read (Value v next) = Got v next
as_read (Ended p) = Refused (fault_number (Ended p)) p
as_read (Padded p) = Refused (fault_number (Padded p)) p
as_read (Overlong p) = Refused (fault_number (Overlong p)) p

-- the reader of one number
unfoldable pub number : Reader ℕ
number s at = as_read (number_at s at)

-- the shortest form of a number of at most k groups
unfoldable pub groups_of : ℕ → ℕ → List ℕ
groups_of zero v = []
groups_of (suc k) v = cond (ltb v 128) (v ∷ []) ((v % 128 + 128) ∷ groups_of k (v / 128))

-- the bytes of a number
abbrev pub number_bytes : ℕ → List ℕ
number_bytes v = groups_of max_groups v

-- the bytes of one item after the other
unfoldable pub list_bytes : {A : Type 0} → (A → List ℕ) → List A → List ℕ
list_bytes bytes [] = []
list_bytes bytes (a ∷ l) = bytes a ++ list_bytes bytes l
