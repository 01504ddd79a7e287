-- How a reader ends: within the record, or refused by one of the numbers listed for it, at a place within the record. One law for each way of
-- putting readers together. Assumes nothing.
use Prim.Native.Nat.{ℕ, zero, suc, ◌+◌, ◌-◌, ◌*◌, ◌<◌, ◌≤◌}
use mathlib.Core.List.{List}
use mathlib.Core.Bool.{Bool, true, false, cond}
use mathlib.Core.Path.{◌≡◌, refl}
use native.Mathlib.Omega.{arith}
use lib.ListN.{length, get_or}
use lib.Dec.{ltb, eqb}
use borrow.Author.Tests.{ltb-true}
use Rattle.record.specs.Read.{Read, Read.Got, Read.Refused, Reader, on_read, ◌needs⟨◌⟩◌, ◌▸◌, ◌▹◌, into, many, counted, check, ended}
use Rattle.record.specs.Number.{number, number_in, higher_groups, max_groups, on_byte, on_higher, group, as_read}
use Rattle.record.specs.declared.Number.{Number}
use Rattle.record.specs.declared.Number.TheVariants.{Value, Ended, Padded, Overlong}

-- what was read ends within the record; a refusal is by a listed number, at a place within the record
abbrev pub Ends : {A : Type 0} → (ℕ → Type 0) → List ℕ → Read A → Type 0
Ends N s (Got v next) = next ≤ length s
Ends N s (Refused r p) = N r × (p ≤ length s)

-- N lists the reader's numbers
pub record Listed (N : ℕ → Type 0) {A : Type 0} (R : Reader A) : Type 0 where
  pub ends : (s : List ℕ) (at : ℕ) → at ≤ length s → Ends N s (R s at)

-- NUMBERS, over the number of groups: every place lies within the record
abbrev Placed : List ℕ → Number → Type 0
Placed s (Value v next) = next ≤ length s
Placed s (Ended p) = p ≤ length s
Placed s (Padded p) = p ≤ length s
Placed s (Overlong p) = p ≤ length s

placed-byte : (s : List ℕ) (at : ℕ) (f : ℕ → Number) → (at < length s → Placed s (f (get_or s at 0))) → Placed s (on_byte s at f)
placed-byte s at f h = go (ltb at (length s)) refl
  where
    go : (b : Bool) → ltb at (length s) ≡ b → Placed s (cond b (f (get_or s at 0)) (Ended (length s)))
    go true e = h (ltb-true _ _ e)
    go false e = omega arith

placed-test : (s : List ℕ) (b : Bool) (x y : Number) → Placed s x → Placed s y → Placed s (cond b x y)
placed-test s true x y p q = p
placed-test s false x y p q = q

placed-group : (s : List ℕ) (at b : ℕ) (higher : List ℕ → ℕ → Number) → at < length s → Placed s (higher s (at + 1)) → Placed s (group higher s at b)
placed-group s at b higher i h = placed-test s (ltb b 128) _ _ (omega arith) (go (higher s (at + 1)) h)
  where
    go : (x : Number) → Placed s x → Placed s (on_higher x (λ v next. Value (b - 128 + v * 128) next))
    go (Value v next) p = p
    go (Ended q) p = p
    go (Padded q) p = p
    go (Overlong q) p = p

placed-higher : (s : List ℕ) (start : ℕ) → start ≤ length s → (k at : ℕ) → Placed s (higher_groups k start s at)
unfolding higher_groups
placed-higher s start h zero at = h
placed-higher s start h (suc k) at =
    placed-byte s at (λ b. cond (eqb b 0) (Padded start) (group (higher_groups k start) s at b)) (λ i.
    placed-test s (eqb (get_or s at 0) 0) (Padded start) (group (higher_groups k start) s at (get_or s at 0)) h (placed-group s at (get_or s at 0) (higher_groups k start) i (placed-higher s start h k (at + 1))))

placed-number : (s : List ℕ) (at : ℕ) → at ≤ length s → (k : ℕ) → Placed s (number_in k s at)
unfolding number_in
placed-number s at h zero = h
placed-number s at h (suc k) =
    placed-byte s at (group (higher_groups k at) s at) (λ i. placed-group s at (get_or s at 0) (higher_groups k at) i (placed-higher s at h k (at + 1)))

pub number-listed : {N : ℕ → Type 0} → N 1 → N 2 → N 33 → Listed N number
unfolding number
number-listed {N} one two long = record { ends = λ s at h. go s (number_in max_groups s at) (placed-number s at h max_groups) }
  where
    go : (s : List ℕ) (x : Number) → Placed s x → Ends N s (as_read x)
    go s (Value v next) p = p
    go s (Ended q) p = (one, p)
    go s (Padded q) p = (two, p)
    go s (Overlong q) p = (long, p)

-- what goes on, and what is tested
module _ (N : ℕ → Type 0) (s : List ℕ) where
  ends_on : {A B : Type 0} (x : Read A) (f : A → ℕ → Read B) → Ends N s x → ((v : A) (next : ℕ) → next ≤ length s → Ends N s (f v next)) → Ends N s (on_read x f)
  ends_on (Got v next) f p h = h v next p
  ends_on (Refused r q) f p h = p

  ends_test : {A : Type 0} (b : Bool) (x y : Read A) → Ends N s x → Ends N s y → Ends N s (cond b x y)
  ends_test true x y p q = p
  ends_test false x y p q = q

module _ {N : ℕ → Type 0} {A : Type 0} {R : Reader A} (h : Listed N R) where
  pub needs_listed : (r : ℕ) (ok : A → Bool) → N r → Listed N (R needs⟨ r ⟩ ok)
  unfolding ◌needs⟨◌⟩◌
  needs_listed r ok n = record {
    ends = λ s at i. ends_on N s (R s at) _ (h.ends s at i) (λ v next j. ends_test N s (ok v) (Got v next) (Refused r at) j (n, i));
  }

  pub pair-listed : {B : A → Type 0} {f : (a : A) → Reader (B a)} → ((a : A) → Listed N (f a)) → Listed N (R ▸ f)
  unfolding ◌▸◌
  pair-listed {f = f} k = record {
    ends = λ s at i. ends_on N s (R s at) _ (h.ends s at i) (λ a mid j. ends_on N s (f a s mid) _ ((k a).ends s mid j) (λ b next l. l));
  }

  pub leads_listed : {B : Type 0} {f : A → Reader B} → ((a : A) → Listed N (f a)) → Listed N (R ▹ f)
  unfolding ◌▹◌
  leads_listed k = record { ends = λ s at i. ends_on N s (R s at) _ (h.ends s at i) (λ a mid j. (k a).ends s mid j) }

  pub into-listed : {B : Type 0} (f : A → B) → Listed N (into f R)
  unfolding into
  into-listed f = record { ends = λ s at i. ends_on N s (R s at) _ (h.ends s at i) (λ a next j. j) }

  -- nothing left: 7
  pub ended-listed : N 7 → Listed N (ended R)
  unfolding ended
  ended-listed n = record {
    ends = λ s at i. ends_on N s (R s at) _ (h.ends s at i) (λ v next j. ends_test N s (ltb next (length s)) (Refused 7 next) (Got v next) (n, j) j);
  }

module _ {N : ℕ → Type 0} {S A : Type 0} {item : S → Reader A} (after : S → A → S) (h : (st : S) → Listed N (item st)) where
  pub many-listed : (k : ℕ) (st : S) → Listed N (many item after k st)
  unfolding many
  many-listed zero st = record { ends = λ s at i. i }
  many-listed (suc k) st = record {
    ends = λ s at i. ends_on N s (item st s at) _ ((h st).ends s at i) (λ a mid j.
        ends_on N s (many item after k (after st a) s mid) _ ((many-listed k (after st a)).ends s mid j) (λ l next m. m));
  }

  pub counted-listed : {count : Reader ℕ} → Listed N count → (st : S) → Listed N (counted count item after st)
  counted-listed c st = leads_listed c (λ k. many-listed k st)

pub check-listed : {N : ℕ → Type 0} (r : ℕ) (ok : Bool) → N r → Listed N (check r ok)
unfolding check
check-listed {N} r ok n = record { ends = λ s at i. ends_test N s ok (Got tt at) (Refused r at) i (n, i) }

-- a longer list
pub wider_listed : {N M : ℕ → Type 0} {A : Type 0} {R : Reader A} → ((r : ℕ) → N r → M r) → Listed N R → Listed M R
wider_listed {N} {M} {A} {R} w h = record { ends = λ s at i. go s (R s at) (h.ends s at i) }
  where
    go : (s : List ℕ) (x : Read A) → Ends N s x → Ends M s x
    go s (Got v next) p = p
    go s (Refused r q) p = (w r p.0, p.1)
