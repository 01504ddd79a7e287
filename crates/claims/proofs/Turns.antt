-- What every reader does with the faults of a number: it stops there and passes the fault on, and before that it needs no byte from there on; and what it gave before request 7. One law for
-- each way of putting readers together. Assumes nothing.
use Prim.Native.Nat.{ℕ, zero, suc, ◌-◌, ◌<◌, ◌≤◌}
use mathlib.Core.List.{List, [], ◌∷◌}
use mathlib.Core.Bool.{Bool, true, false, cond, not, ◌||◌}
use mathlib.Core.Path.{◌≡◌, refl, sym, ap, ◌∙◌, subst}
use mathlib.Core.Logic.{◌⊎◌, inl, inr, ◌≢◌}
use native.Mathlib.Omega.{arith}
use lib.ListN.{length, get_or, take, length-take}
use lib.Seq.{get_or-take}
use lib.Dec.{ltb, eqb}
use borrow.Author.Tests.{ltb-true, ltb-false, ne_eqb}
use Rattle.record.specs.Read.{Read, Read.Got, Read.Refused, Reader, on_read, ◌needs⟨◌⟩◌, ◌▸◌, ◌▹◌, into, many, counted, check}
use Rattle.record.specs.Number.{number, number_at, as_read}
use Rattle.record.specs.declared.Number.{Number}
use Rattle.record.specs.declared.Number.TheVariants.{Value, Ended, Padded, Overlong}
use Rattle.record.proofs.Laws.{on_got, carry}
use Rattle.claims.specs.Earlier as earlier
use Rattle.claims.specs.Numbers.{number_before, read_before}
use Rattle.claims.proofs.Groups.{Grouped, number-grouped, number-there, number-none}

-- ---- readings that begin at a place

-- the numbers of a number's own faults, and those of a test
abbrev pub OfNumber : ℕ → Type 0
OfNumber r = (r ≡ 2) ⊎ (r ≡ 33)

abbrev pub is_test : ℕ → Bool
is_test r = not (eqb r 1 || (eqb r 2 || eqb r 33))

-- from at up to next numbers were read: the last of them ends there, with a byte below 128
pub record Stands (s : List ℕ) (at next : ℕ) : Type 0 where
  pub up : at ≤ next
  pub within : at ≤ length s → next ≤ length s
  pub ends : at < next → get_or s (next - 1) 0 < 128

-- what a reading from at on gives, now and before: what was read stands there, and needs no byte behind it; a fault of a number is that of the number there, and without that number the record ends;
-- a record that ends before a number gets that number's fault once it has one
pub record Turn {A : Type 0} (at : ℕ) (before now : List ℕ → Read A) : Type 0 where
  pub same : (s : List ℕ) → before s ≡ read_before (now s)
  pub stands : (s : List ℕ) {v : A} {next : ℕ} → now s ≡ Got v next → Stands s at next
  pub cut : (s : List ℕ) (p : ℕ) {v : A} {next : ℕ} → now s ≡ Got v next → next ≤ p → now (take p s) ≡ Got v next
  pub grown : (s : List ℕ) (p : ℕ) {v : A} {next : ℕ} → now (take p s) ≡ Got v next → now s ≡ Got v next
  pub fault : (s : List ℕ) (r p : ℕ) → OfNumber r → now s ≡ Refused r p → (number s p ≡ Refused r p) × (now (take p s) ≡ Refused 1 p) × (Stands s at p)
  pub due : (s : List ℕ) (p : ℕ) {q r t : ℕ} → now (take p s) ≡ Refused 1 q → at ≤ p → p ≤ length s → (at < p → get_or s (p - 1) 0 < 128) → number s p ≡ Refused r t → now s ≡ Refused r t

abbrev pub Turns : {A : Type 0} → Reader A → Reader A → Type 0
Turns before now = (at : ℕ) → Turn at (λ s. before s at) (λ s. now s at)

stands_none : (s : List ℕ) (at : ℕ) → Stands s at at
stands_none s at = record { up = omega arith; within = λ h. h; ends = λ h. absurd (omega arith) }

stands_join : {s : List ℕ} {a b c : ℕ} → Stands s a b → Stands s b c → Stands s a c
stands_join {s} {a} {b} {c} x y =
    let u = x.up in
    let v = y.up in
    record { up = omega arith; within = λ h. y.within (x.within h); ends = λ h. go (ltb b c) refl h }
  where
    go : (t : Bool) → ltb b c ≡ t → a < c → get_or s (c - 1) 0 < 128
    go true e h = y.ends (ltb-true _ _ e)
    go false e h = let i : c ≤ b = ltb-false _ _ e in let j = y.up in let z : b ≡ c = omega arith in subst (λ (k : ℕ). get_or s (k - 1) 0 < 128) z (x.ends (omega arith))

-- ---- a number

pub refused-number : {A : Type 0} {r t p q : ℕ} → ◌≡◌ {A = Read A} (Refused r p) (Refused t q) → (r ≡ t) × (p ≡ q)
refused-number e = (cc, cc)

pub got_refused : {A : Type 0} {v : A} {next r p : ℕ} → ◌≡◌ {A = Read A} (Got v next) (Refused r p) → ⊥
got_refused e = let z : ◌≡◌ {A = ℕ} 0 1 = cc in omega arith

-- what was read of a number, and its faults
read_value : (x : Number) {v next : ℕ} → as_read x ≡ Got v next → x ≡ Value v next
read_value (Value w n) {v} {next} e = carry (λ (a b : ℕ). ◌≡◌ {A = Number} (Value w n) (Value a b)) e refl
read_value (Ended p) e = absurd (got_refused (sym e))
read_value (Padded p) e = absurd (got_refused (sym e))
read_value (Overlong p) e = absurd (got_refused (sym e))

read_ended : (x : Number) {q : ℕ} → as_read x ≡ Refused 1 q → x ≡ Ended q
read_ended (Value w n) e = absurd (got_refused e)
read_ended (Ended p) e = ap Ended (refused-number e).1
read_ended (Padded p) e = let z = (refused-number e).0 in absurd (omega arith)
read_ended (Overlong p) e = let z = (refused-number e).0 in absurd (omega arith)

pub read_padded : (x : Number) {p : ℕ} → as_read x ≡ Refused 2 p → x ≡ Padded p
read_padded (Value w n) e = absurd (got_refused e)
read_padded (Ended q) e = let z = (refused-number e).0 in absurd (omega arith)
read_padded (Padded q) e = ap Padded (refused-number e).1
read_padded (Overlong q) e = let z = (refused-number e).0 in absurd (omega arith)

pub read_overlong : (x : Number) {p : ℕ} → as_read x ≡ Refused 33 p → x ≡ Overlong p
read_overlong (Value w n) e = absurd (got_refused e)
read_overlong (Ended q) e = let z = (refused-number e).0 in absurd (omega arith)
read_overlong (Padded q) e = let z = (refused-number e).0 in absurd (omega arith)
read_overlong (Overlong q) e = ap Overlong (refused-number e).1

read_fault : (x : Number) (r : ℕ) {p : ℕ} → OfNumber r → as_read x ≡ Refused r p → (x ≡ Padded p) ⊎ (x ≡ Overlong p)
read_fault x r {p} (inl o) e = inl (read_padded x (e ∙ ap (λ (k : ℕ). Refused k p) o))
read_fault x r {p} (inr o) e = inr (read_overlong x (e ∙ ap (λ (k : ℕ). Refused k p) o))

-- one group at least, and at most as many as document 01 allows
module _ (at : ℕ) where
  h : Grouped at at (λ s. number_at s at)
  h = number-grouped 1 at

  number_same : (s : List ℕ) → earlier.number s at ≡ read_before (number s at)
  unfolding number earlier.number
  number_same s = go (number_at s at)
    where
      go : (x : Number) → earlier.as_read x ≡ read_before (as_read x)
      go (Value v next) = refl
      go (Ended p) = refl
      go (Padded p) = refl
      go (Overlong p) = refl

  number-stands : (s : List ℕ) {v next : ℕ} → number s at ≡ Got v next → Stands s at next
  unfolding number
  number-stands s e = let r = h.value s (read_value (number_at s at) e) in let u = r.0 in record { up = omega arith; within = λ i. r.1; ends = λ i. r.2 }

  -- where the first p bytes hold what is read, they read alike
  number_cut : (s : List ℕ) (p : ℕ) {v next : ℕ} → number s at ≡ Got v next → next ≤ p → number (take p s) at ≡ Got v next
  unfolding number
  number_cut s p {v} {next} e k =
      let x = read_value (number_at s at) e in
      let n = (h.value s x).1 in
      let l = length-take p s in
      ap as_read (h.alike s (take p s) x (λ i j. get_or-take p s i 0 (omega arith)) (omega arith))

  number-grown : (s : List ℕ) (p : ℕ) {v next : ℕ} → number (take p s) at ≡ Got v next → number s at ≡ Got v next
  unfolding number
  number-grown s p {v} {next} e =
      let x = read_value (number_at (take p s) at) e in
      let n = (h.value (take p s) x).1 in
      let l = length-take p s in
      ap as_read (h.alike (take p s) s x (λ i j. sym (get_or-take p s i 0 (omega arith))) (omega arith))

  number-fault : (s : List ℕ) (r p : ℕ) → OfNumber r → number s at ≡ Refused r p → (number s p ≡ Refused r p) × (number (take p s) at ≡ Refused 1 p) × (Stands s at p)
  unfolding number
  number-fault s r p o e =
      let x = read_fault (number_at s at) r o e in
      let z : p ≡ at = h.fault s p x in
      let i : at < length s = number-there 1 at s p x in
      let l = length-take p s in
      let n : length (take p s) ≡ p = omega arith in
      (rw z (e ∙ rw z), ap as_read (number-none 1 at (take p s) (omega arith)) ∙ ap (Refused 1) n, rw z (stands_none s at))

  number-due : (s : List ℕ) (p : ℕ) {q r t : ℕ} → number (take p s) at ≡ Refused 1 q → at ≤ p → p ≤ length s → (at < p → get_or s (p - 1) 0 < 128) → number s p ≡ Refused r t → number s at ≡ Refused r t
  unfolding number
  number-due s p {q} {r} {t} e i j k f =
      let l = length-take p s in
      let n : length (take p s) ≡ p = omega arith in
      go (ltb at p) refl n (h.ended (take p s) (read_ended (number_at (take p s) at) e)).1
    where
      go : (b : Bool) → ltb at p ≡ b → length (take p s) ≡ p → (at < length (take p s) → 128 ≤ get_or (take p s) (length (take p s) - 1) 0) → as_read (number_at s at) ≡ Refused r t
      go false c n byte = let y : p ≤ at = ltb-false _ _ c in let z : at ≡ p = omega arith in rw z f
      go true c n byte =
          let y : at < p = ltb-true _ _ c in
          let b : 128 ≤ get_or (take p s) (p - 1) 0 = rw n at (byte (omega arith)) in
          let g = get_or-take p s (p - 1) 0 (omega arith) in
          let d = k y in
          absurd (omega arith)

pub number-turns : Turns earlier.number number
number-turns at = record { same = number_same at; stands = number-stands at; cut = number_cut at; grown = number-grown at; fault = number-fault at; due = number-due at }

-- ---- readings put together

-- nothing more is read
done_turn : {A : Type 0} (at : ℕ) (v : A) → Turn at (λ s. Got v at) (λ s. Got v at)
done_turn at v = record {
  same = λ s. refl;
  stands = λ s e. carry (λ w n. Stands s at n) e (stands_none s at);
  cut = λ s p e i. e;
  grown = λ s p e. e;
  fault = λ s r p o e. absurd (got_refused e);
  due = λ s p e i j k f. absurd (got_refused e);
}

module _ (r : ℕ) (h : is_test r ≡ true) where
  not_of_number : ((r ≡ 1) ⊎ OfNumber r) → ⊥
  not_of_number (inl e) = let z : is_test r ≡ false = rw e in let y : ◌≡◌ {A = ℕ} 0 1 = cc in omega arith
  not_of_number (inr (inl e)) = let z : is_test r ≡ false = rw e in let y : ◌≡◌ {A = ℕ} 0 1 = cc in omega arith
  not_of_number (inr (inr e)) = let z : is_test r ≡ false = rw e in let y : ◌≡◌ {A = ℕ} 0 1 = cc in omega arith

  before_same : number_before r ≡ r
  before_same = let n : r ≢ 33 = λ e. not_of_number (inr (inr e)) in rw (ne_eqb r 33 n)

  -- a test that fails
  refused-turn : {A : Type 0} (at place : ℕ) → Turn {A = A} at (λ s. Refused r place) (λ s. Refused r place)
  refused-turn at place = record {
    same = λ s. rw before_same;
    stands = λ s e. absurd (got_refused (sym e));
    cut = λ s p e i. e;
    grown = λ s p e. e;
    fault = λ s q p o e. absurd (not_of_number (inr (subst OfNumber (sym (refused-number e).0) o)));
    due = λ s p e i j k f. absurd (not_of_number (inl (refused-number e).0));
  }

  test_turn : {A : Type 0} (at place : ℕ) (b : Bool) (v : A) → Turn at (λ s. cond b (Got v at) (Refused r place)) (λ s. cond b (Got v at) (Refused r place))
  test_turn at place true v = done_turn at v
  test_turn at place false v = refused-turn at place

-- one reading, then another from where it ends
module _ {A B : Type 0} {at : ℕ} {F₀ F : List ℕ → Read A} (h : Turn at F₀ F) {G₀ G : A → ℕ → List ℕ → Read B} (k : (a : A) (mid : ℕ) → Turn mid (G₀ a mid) (G a mid)) where
  abbrev Then : List ℕ → Read B
  Then s = on_read (F s) (λ a mid. G a mid s)

  then_same : (s : List ℕ) → on_read (F₀ s) (λ a mid. G₀ a mid s) ≡ read_before (Then s)
  then_same s = ap (λ (x : Read A). on_read x (λ a mid. G₀ a mid s)) (h.same s) ∙ go (F s)
    where
      go : (x : Read A) → on_read (read_before x) (λ a mid. G₀ a mid s) ≡ read_before (on_read x (λ a mid. G a mid s))
      go (Got a mid) = (k a mid).same s
      go (Refused r p) = refl

  then_stands : (s : List ℕ) {v : B} {next : ℕ} → Then s ≡ Got v next → Stands s at next
  then_stands s e = let g = on_got (F s) _ e in stands_join (h.stands s g.2) ((k g.0 g.1).stands s g.3)

  then_cut : (s : List ℕ) (p : ℕ) {v : B} {next : ℕ} → Then s ≡ Got v next → next ≤ p → Then (take p s) ≡ Got v next
  then_cut s p e i =
      let g = on_got (F s) _ e in
      let u = ((k g.0 g.1).stands s g.3).up in
      rw (h.cut s p g.2 (omega arith)) ((k g.0 g.1).cut s p g.3 i)

  then_grown : (s : List ℕ) (p : ℕ) {v : B} {next : ℕ} → Then (take p s) ≡ Got v next → Then s ≡ Got v next
  then_grown s p e = let g = on_got (F (take p s)) _ e in rw (h.grown s p g.2) ((k g.0 g.1).grown s p g.3)

  then_fault : (s : List ℕ) (r p : ℕ) → OfNumber r → Then s ≡ Refused r p → (number s p ≡ Refused r p) × (Then (take p s) ≡ Refused 1 p) × (Stands s at p)
  then_fault s r p o e = go (F s) refl e
    where
      go : (x : Read A) → F s ≡ x → on_read x (λ a mid. G a mid s) ≡ Refused r p → (number s p ≡ Refused r p) × (Then (take p s) ≡ Refused 1 p) × (Stands s at p)
      go (Got a mid) f e =
          let g = (k a mid).fault s r p o e in
          let c = h.cut s p f g.2.up in
          (g.0, rw c g.1, stands_join (h.stands s f) g.2)
      go (Refused q t) f e =
          let z = refused-number e in
          let f' : F s ≡ Refused r p = f ∙ (λ i. Refused (z.0 i) (z.1 i)) in
          let g = h.fault s r p o f' in
          (g.0, rw g.1, g.2)

  then_due : (s : List ℕ) (p : ℕ) {q r t : ℕ} → Then (take p s) ≡ Refused 1 q → at ≤ p → p ≤ length s → (at < p → get_or s (p - 1) 0 < 128) → number s p ≡ Refused r t → Then s ≡ Refused r t
  then_due s p {q} {r} {t} e i j b f = go (F (take p s)) refl e
    where
      go : (x : Read A) → F (take p s) ≡ x → on_read x (λ a mid. G a mid (take p s)) ≡ Refused 1 q → Then s ≡ Refused r t
      go (Got a mid) g e =
          let w = h.stands (take p s) g in
          let l = length-take p s in
          let u = w.up in
          let m : mid ≤ length (take p s) = w.within (omega arith) in
          rw (h.grown s p g) ((k a mid).due s p e (omega arith) j (λ y. b (omega arith)) f)
      go (Refused n o) g e =
          let z = (refused-number e).0 in
          let g' : F (take p s) ≡ Refused 1 o = g ∙ ap (λ (n : ℕ). Refused n o) z in
          rw (h.due s p g' i j b f)

  then_turn : Turn at (λ s. on_read (F₀ s) (λ a mid. G₀ a mid s)) Then
  then_turn = record { same = then_same; stands = then_stands; cut = then_cut; grown = then_grown; fault = then_fault; due = then_due }

-- the ways of putting readers together
module _ {A : Type 0} {R₀ R : Reader A} (h : Turns R₀ R) where
  pub needs_turns : (r : ℕ) (ok : A → Bool) → is_test r ≡ true → Turns (R₀ needs⟨ r ⟩ ok) (R needs⟨ r ⟩ ok)
  unfolding ◌needs⟨◌⟩◌
  needs_turns r ok t at = then_turn (h at) (λ v next. test_turn r t next at (ok v) v)

  pub leads_turns : {B : Type 0} {f₀ f : A → Reader B} → ((a : A) → Turns (f₀ a) (f a)) → Turns (R₀ ▹ f₀) (R ▹ f)
  unfolding ◌▹◌
  leads_turns {f₀ = f₀} {f} k at = then_turn (h at) {G₀ = λ a mid s. f₀ a s mid} {G = λ a mid s. f a s mid} (λ a mid. k a mid)

  pub pair_turns : {B : A → Type 0} {f₀ f : (a : A) → Reader (B a)} → ((a : A) → Turns (f₀ a) (f a)) → Turns (R₀ ▸ f₀) (R ▸ f)
  unfolding ◌▸◌
  pair_turns {B = B} {f₀} {f} k at = then_turn (h at) {G₀ = λ a mid s. on_read (f₀ a s mid) (λ b next. Got (a, b) next)} {G = λ a mid s. on_read (f a s mid) (λ b next. Got (a, b) next)}
      (λ a mid. then_turn (k a mid) {G₀ = λ b next s. Got (a, b) next} {G = λ b next s. Got (a, b) next} (λ b next. done_turn next (a, b)))

  pub into-turns : {B : Type 0} (f : A → B) → Turns (into f R₀) (into f R)
  unfolding into
  into-turns f at = then_turn (h at) {G₀ = λ a next s. Got (f a) next} {G = λ a next s. Got (f a) next} (λ a next. done_turn next (f a))

module _ {S A : Type 0} {item₀ item : S → Reader A} (after : S → A → S) (h : (st : S) → Turns (item₀ st) (item st)) where
  pub many-turns : (k : ℕ) (st : S) → Turns (many item₀ after k st) (many item after k st)
  unfolding many
  many-turns zero st at = done_turn at []
  many-turns (suc k) st at =
      then_turn (h st at)
      {G₀ = λ a mid s. on_read (many item₀ after k (after st a) s mid) (λ l next. Got (a ∷ l) next)} {G = λ a mid s. on_read (many item after k (after st a) s mid) (λ l next. Got (a ∷ l) next)}
      (λ a mid. then_turn (many-turns k (after st a) mid) {G₀ = λ l next s. Got (a ∷ l) next} {G = λ l next s. Got (a ∷ l) next} (λ l next. done_turn next (a ∷ l)))

  pub counted-turns : {count₀ count : Reader ℕ} → Turns count₀ count → (st : S) → Turns (counted count₀ item₀ after st) (counted count item after st)
  counted-turns c st = leads_turns c (λ k. many-turns k st)

pub check-turns : (r : ℕ) (ok : Bool) → is_test r ≡ true → Turns (check r ok) (check r ok)
unfolding check
check-turns r ok t at = test_turn r t at at ok tt

pub refused-turns : {A : Type 0} (r : ℕ) → is_test r ≡ true → Turns {A = A} (λ s at. Refused r at) (λ s at. Refused r at)
refused-turns r t at = refused-turn r t at at
