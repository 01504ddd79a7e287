-- Numbers over the number of groups: what was read ends with a byte below 128 and is read alike in every record that has these bytes; where a fault stands, and what it says of the bytes. Assumes nothing.
use Prim.Native.Nat.{ℕ, zero, suc, ◌+◌, ◌-◌, ◌*◌, ◌<◌, ◌≤◌}
use mathlib.Core.List.{List}
use mathlib.Core.Bool.{Bool, true, false, cond, not, ◌&&◌}
use mathlib.Core.Path.{◌≡◌, refl, sym, ap, ◌∙◌, subst}
use mathlib.Core.Logic.{◌⊎◌, inr, ⊎_elim}
use native.Mathlib.Omega.{arith}
use lib.ListN.{length, get_or}
use lib.Dec.{ltb, eqb}
use borrow.Author.Tests.{ltb-true, ltb-false, eqb-true, lt-ltb, le-ltb, ne_eqb}
use Rattle.record.specs.Number.{number_in, higher_groups, on_byte, on_higher, group}
use Rattle.record.specs.declared.Number.{Number}
use Rattle.record.specs.declared.Number.TheVariants.{Value, Ended, Padded, Overlong}

-- a group of a number that begins at start, the first one or a higher one, with at most k groups above it
abbrev pub group_at : Bool → ℕ → ℕ → List ℕ → ℕ → Number
group_at first k start s at = on_byte s at (λ b. cond (not first && eqb b 0) (Padded start) (group (higher_groups k start) s at b))

-- what stands there
pub data Group (first : Bool) (k start : ℕ) (s : List ℕ) (at : ℕ) : Number → Type 0 where
  none : length s ≤ at → Group first k start s at (Ended (length s))
  pad : at < length s → get_or s at 0 ≡ 0 → first ≡ false → Group first k start s at (Padded start)
  last : at < length s → get_or s at 0 < 128 → not first && eqb (get_or s at 0) 0 ≡ false → Group first k start s at (Value (get_or s at 0) (at + 1))
  more : at < length s → 128 ≤ get_or s at 0 → Group first k start s at (on_higher (higher_groups k start s (at + 1)) (λ v next. Value (get_or s at 0 - 128 + v * 128) next))

module _ (first : Bool) (k start : ℕ) (s : List ℕ) (at : ℕ) where
  big : 128 ≤ get_or s at 0 → not first && eqb (get_or s at 0) 0 ≡ false
  big h = go first
    where
      go : (f : Bool) → not f && eqb (get_or s at 0) 0 ≡ false
      go true = refl
      go false = ne_eqb (get_or s at 0) 0 (λ e. omega arith)

  pub at_none : length s ≤ at → group_at first k start s at ≡ Ended (length s)
  at_none h = rw (le-ltb at (length s) h)

  pub at_pad : at < length s → get_or s at 0 ≡ 0 → first ≡ false → group_at first k start s at ≡ Padded start
  at_pad h z f = rw (lt-ltb at (length s) h, f, z)

  pub at_last : at < length s → get_or s at 0 < 128 → not first && eqb (get_or s at 0) 0 ≡ false → group_at first k start s at ≡ Value (get_or s at 0) (at + 1)
  at_last h a t = rw (lt-ltb at (length s) h, t, lt-ltb (get_or s at 0) 128 a)

  pub at_more : at < length s → 128 ≤ get_or s at 0 → group_at first k start s at ≡ on_higher (higher_groups k start s (at + 1)) (λ v next. Value (get_or s at 0 - 128 + v * 128) next)
  at_more h a = rw (lt-ltb at (length s) h, big a, le-ltb (get_or s at 0) 128 a)

  pub see : Group first k start s at (group_at first k start s at)
  see = there (ltb at (length s)) refl
    where
      zero_byte : at < length s → (f : Bool) → first ≡ f → eqb (get_or s at 0) 0 ≡ true → Group first k start s at (group_at first k start s at)
      zero_byte h false e z = subst (Group first k start s at) (sym (at_pad h (eqb-true _ _ z) e)) (pad h (eqb-true _ _ z) e)
      zero_byte h true e z =
          let y : get_or s at 0 ≡ 0 = eqb-true _ _ z in
          let a : get_or s at 0 < 128 = omega arith in
          let t : not first && eqb (get_or s at 0) 0 ≡ false = rw e in
          subst (Group first k start s at) (sym (at_last h a t)) (last h a t)

      small : at < length s → get_or s at 0 < 128 → (b : Bool) → eqb (get_or s at 0) 0 ≡ b → Group first k start s at (group_at first k start s at)
      small h a true z = zero_byte h first refl z
      small h a false z = let t : not first && eqb (get_or s at 0) 0 ≡ false = both first z in subst (Group first k start s at) (sym (at_last h a t)) (last h a t)
        where
          both : (f : Bool) → eqb (get_or s at 0) 0 ≡ false → not f && eqb (get_or s at 0) 0 ≡ false
          both true z = refl
          both false z = z

      there : (b : Bool) → ltb at (length s) ≡ b → Group first k start s at (group_at first k start s at)
      there false e = let h : length s ≤ at = ltb-false _ _ e in subst (Group first k start s at) (sym (at_none h)) (none h)
      there true e = size (ltb (get_or s at 0) 128) refl
        where
          size : (b : Bool) → ltb (get_or s at 0) 128 ≡ b → Group first k start s at (group_at first k start s at)
          size true f = small (ltb-true _ _ e) (ltb-true _ _ f) (eqb (get_or s at 0) 0) refl
          size false f = let h : at < length s = ltb-true _ _ e in let a : 128 ≤ get_or s at 0 = ltb-false _ _ f in subst (Group first k start s at) (sym (at_more h a)) (more h a)

-- two of the four cases are never the same
abbrev case : Number → ℕ
case (Value v next) = 0
case (Ended p) = 1
case (Padded p) = 2
case (Overlong p) = 3

apart : {x y : Number} (i j : ℕ) → case x ≡ i → case y ≡ j → (i ≡ j → ⊥) → x ≡ y → ⊥
apart i j a b n e = n (sym a ∙ ap case e ∙ b)

above_value : (x : Number) (f : ℕ → ℕ → ℕ) {v next : ℕ} → on_higher x (λ w mid. Value (f w mid) mid) ≡ Value v next → (w : ℕ) × (x ≡ Value w next) × (f w next ≡ v)
above_value (Value w mid) f {v} {next} e = let z : mid ≡ next = cc in (w, ap (Value w) z, ap (f w) (sym z) ∙ cc)
above_value (Ended p) f e = absurd (apart 1 0 refl refl (λ z. omega arith) e)
above_value (Padded p) f e = absurd (apart 2 0 refl refl (λ z. omega arith) e)
above_value (Overlong p) f e = absurd (apart 3 0 refl refl (λ z. omega arith) e)

above_fault : (x : Number) (f : ℕ → ℕ → ℕ) {p : ℕ} → (on_higher x (λ w mid. Value (f w mid) mid) ≡ Padded p) ⊎ (on_higher x (λ w mid. Value (f w mid) mid) ≡ Overlong p) → (x ≡ Padded p) ⊎ (x ≡ Overlong p)
above_fault (Value w mid) f e = absurd (⊎_elim (apart 0 2 refl refl (λ z. omega arith)) (apart 0 3 refl refl (λ z. omega arith)) e)
above_fault (Ended q) f e = e
above_fault (Padded q) f e = e
above_fault (Overlong q) f e = e

above_ended : (x : Number) (f : ℕ → ℕ → ℕ) {q : ℕ} → on_higher x (λ w mid. Value (f w mid) mid) ≡ Ended q → x ≡ Ended q
above_ended (Value w mid) f e = absurd (apart 0 1 refl refl (λ z. omega arith) e)
above_ended (Ended q) f e = e
above_ended (Padded q) f e = e
above_ended (Overlong q) f e = e

-- ---- the laws of a reading from at on of groups of a number that begins at start

pub record Grouped (start at : ℕ) (X : List ℕ → Number) : Type 0 where
  pub value : (s : List ℕ) {v next : ℕ} → X s ≡ Value v next → (at < next) × (next ≤ length s) × (get_or s (next - 1) 0 < 128)
  pub alike : (s t : List ℕ) {v next : ℕ} → X s ≡ Value v next → ((i : ℕ) → i < next → get_or t i 0 ≡ get_or s i 0) → next ≤ length t → X t ≡ Value v next
  pub fault : (s : List ℕ) (p : ℕ) → (X s ≡ Padded p) ⊎ (X s ≡ Overlong p) → p ≡ start
  pub ended : (s : List ℕ) {q : ℕ} → X s ≡ Ended q → (q ≡ length s) × (at < length s → 128 ≤ get_or s (length s - 1) 0)

-- too many groups
long_grouped : (start at : ℕ) → Grouped start at (λ s. Overlong start)
long_grouped start at = record {
  value = λ s e. absurd (apart 3 0 refl refl (λ z. omega arith) e);
  alike = λ s t e f i. absurd (apart 3 0 refl refl (λ z. omega arith) e);
  fault = λ s p e. ⊎_elim (λ e. absurd (apart 3 2 refl refl (λ z. omega arith) e)) (λ e. cc) e;
  ended = λ s e. absurd (apart 3 1 refl refl (λ z. omega arith) e);
}

module _ (first : Bool) (k start at : ℕ) (h : Grouped start (at + 1) (λ s. higher_groups k start s (at + 1))) where
  group-value : (s : List ℕ) {v next : ℕ} → group_at first k start s at ≡ Value v next → (at < next) × (next ≤ length s) × (get_or s (next - 1) 0 < 128)
  group-value s {v} {next} e = go (group_at first k start s at) (see first k start s at) e
    where
      go : (x : Number) → Group first k start s at x → x ≡ Value v next → (at < next) × (next ≤ length s) × (get_or s (next - 1) 0 < 128)
      go x (none i) e = absurd (apart 1 0 refl refl (λ z. omega arith) e)
      go x (pad i b c) e = absurd (apart 2 0 refl refl (λ z. omega arith) e)
      go x (last i a t) e =
          let n : at + 1 ≡ next = cc in
          let z : next - 1 ≡ at = omega arith in
          (omega arith, omega arith, rw z a)
      go x (more i a) e =
          let w = above_value (higher_groups k start s (at + 1)) (λ w mid. get_or s at 0 - 128 + w * 128) e in
          let r = h.value s w.1 in
          let u = r.0 in
          (omega arith, r.1, r.2)

  group-alike : (s t : List ℕ) {v next : ℕ} → group_at first k start s at ≡ Value v next → ((i : ℕ) → i < next → get_or t i 0 ≡ get_or s i 0) → next ≤ length t → group_at first k start t at ≡ Value v next
  group-alike s t {v} {next} e same l = go (group_at first k start s at) (see first k start s at) e
    where
      go : (x : Number) → Group first k start s at x → x ≡ Value v next → group_at first k start t at ≡ Value v next
      go x (none i) e = absurd (apart 1 0 refl refl (λ z. omega arith) e)
      go x (pad i b c) e = absurd (apart 2 0 refl refl (λ z. omega arith) e)
      go x (last i a c) e =
          let n : at + 1 ≡ next = cc in
          let g = same at (omega arith) in
          at_last first k start t at (omega arith) (omega arith) (rw g c) ∙ rw g e
      go x (more i a) e =
          let w = above_value (higher_groups k start s (at + 1)) (λ w mid. get_or s at 0 - 128 + w * 128) e in
          let u = (h.value s w.1).0 in
          let g = same at (omega arith) in
          let r = h.alike s t w.1 same l in
          at_more first k start t at (omega arith) (omega arith) ∙ rw (r, g, w.2)

  group-fault : (s : List ℕ) (p : ℕ) → (group_at first k start s at ≡ Padded p) ⊎ (group_at first k start s at ≡ Overlong p) → p ≡ start
  group-fault s p e = go (group_at first k start s at) (see first k start s at) e
    where
      go : (x : Number) → Group first k start s at x → (x ≡ Padded p) ⊎ (x ≡ Overlong p) → p ≡ start
      go x (none i) e = absurd (⊎_elim (apart 1 2 refl refl (λ z. omega arith)) (apart 1 3 refl refl (λ z. omega arith)) e)
      go x (pad i b c) e = ⊎_elim (λ e. cc) (λ e. absurd (apart 2 3 refl refl (λ z. omega arith) e)) e
      go x (last i a t) e = absurd (⊎_elim (apart 0 2 refl refl (λ z. omega arith)) (apart 0 3 refl refl (λ z. omega arith)) e)
      go x (more i a) e = h.fault s p (above_fault (higher_groups k start s (at + 1)) (λ w mid. get_or s at 0 - 128 + w * 128) e)

  group-ended : (s : List ℕ) {q : ℕ} → group_at first k start s at ≡ Ended q → (q ≡ length s) × (at < length s → 128 ≤ get_or s (length s - 1) 0)
  group-ended s {q} e = go (group_at first k start s at) (see first k start s at) e
    where
      go : (x : Number) → Group first k start s at x → x ≡ Ended q → (q ≡ length s) × (at < length s → 128 ≤ get_or s (length s - 1) 0)
      go x (none i) e = (cc, λ j. absurd (omega arith))
      go x (pad i b c) e = absurd (apart 2 1 refl refl (λ z. omega arith) e)
      go x (last i a t) e = absurd (apart 0 1 refl refl (λ z. omega arith) e)
      go x (more i a) e = let r = h.ended s (above_ended (higher_groups k start s (at + 1)) (λ w mid. get_or s at 0 - 128 + w * 128) e) in (r.0, λ j. byte (ltb (at + 1) (length s)) refl r.1)
        where
          byte : (b : Bool) → ltb (at + 1) (length s) ≡ b → (at + 1 < length s → 128 ≤ get_or s (length s - 1) 0) → 128 ≤ get_or s (length s - 1) 0
          byte true e r = r (ltb-true _ _ e)
          byte false e r = let l : length s ≤ at + 1 = ltb-false _ _ e in let z : length s - 1 ≡ at = omega arith in rw z a

  group-grouped : Grouped start at (λ s. group_at first k start s at)
  group-grouped = record { value = group-value; alike = group-alike; fault = group-fault; ended = group-ended }

higher_grouped : (k start at : ℕ) → Grouped start at (λ s. higher_groups k start s at)
unfolding higher_groups
higher_grouped zero start at = long_grouped start at
higher_grouped (suc k) start at = group-grouped false k start at (higher_grouped k start (at + 1))

pub number-grouped : (k at : ℕ) → Grouped at at (λ s. number_in (suc k) s at)
unfolding number_in
number-grouped k at = group-grouped true k at at (higher_grouped k at (at + 1))

-- a number's fault stands within the record, and where the record ends before a number, its reading ends
pub number-there : (k at : ℕ) (s : List ℕ) (p : ℕ) → (number_in (suc k) s at ≡ Padded p) ⊎ (number_in (suc k) s at ≡ Overlong p) → at < length s
unfolding number_in
number-there k at s p e = go (number_in (suc k) s at) (see true k at s at) e
  where
    go : (x : Number) → Group true k at s at x → (x ≡ Padded p) ⊎ (x ≡ Overlong p) → at < length s
    go x (none i) e = absurd (⊎_elim (apart 1 2 refl refl (λ z. omega arith)) (apart 1 3 refl refl (λ z. omega arith)) e)
    go x (pad i b c) e = i
    go x (last i a t) e = i
    go x (more i a) e = i

pub number-none : (k at : ℕ) (s : List ℕ) → length s ≤ at → number_in (suc k) s at ≡ Ended (length s)
unfolding number_in
number-none k at s h = at_none true k at s at h

-- ---- which bytes a fault says there are

-- k bytes from at on, each of which says that another follows
abbrev pub Runs : ℕ → List ℕ → ℕ → Type 0
Runs k s at = (i : ℕ) → i < k → (at + i < length s) × (128 ≤ get_or s (at + i) 0)

runs-more : (k : ℕ) (s : List ℕ) (at : ℕ) → at < length s → 128 ≤ get_or s at 0 → Runs k s (at + 1) → Runs (suc k) s at
runs-more k s at h a r zero i = let z : at + 0 ≡ at = omega arith in rw z (h, a)
runs-more k s at h a r (suc i) j = let z : at + suc i ≡ at + 1 + i = omega arith in rw z (r i (omega arith))

runs-less : (k : ℕ) (s : List ℕ) (at : ℕ) → Runs (suc k) s at → (at < length s) × (128 ≤ get_or s at 0) × (Runs k s (at + 1))
runs-less k s at r =
    let z : at + 0 ≡ at = omega arith in
    let f : (at + 0 < length s) × (128 ≤ get_or s (at + 0) 0) = r 0 (omega arith) in
    let g : (at < length s) × (128 ≤ get_or s at 0) = rw z at f in
    (g.0, g.1, λ i h. let y : at + suc i ≡ at + 1 + i = omega arith in rw (← y) (r (suc i) (omega arith)))

module _ (start : ℕ) (s : List ℕ) where
  long_there : (first : Bool) (k at p : ℕ) → (higher_groups k start s (at + 1) ≡ Overlong p → Runs k s (at + 1)) → group_at first k start s at ≡ Overlong p → Runs (suc k) s at
  long_there first k at p r e = go (group_at first k start s at) (see first k start s at) e
    where
      go : (x : Number) → Group first k start s at x → x ≡ Overlong p → Runs (suc k) s at
      go x (none i) e = absurd (apart 1 3 refl refl (λ z. omega arith) e)
      go x (pad i b c) e = absurd (apart 2 3 refl refl (λ z. omega arith) e)
      go x (last i a t) e = absurd (apart 0 3 refl refl (λ z. omega arith) e)
      go x (more i a) e = runs-more k s at i a (⊎_elim (λ f. absurd (over (higher_groups k start s (at + 1)) e f)) r (above_fault (higher_groups k start s (at + 1)) (λ w mid. get_or s at 0 - 128 + w * 128) (inr e)))
        where
          over : (y : Number) → on_higher y (λ v next. Value (get_or s at 0 - 128 + v * 128) next) ≡ Overlong p → y ≡ Padded p → ⊥
          over (Value v next) e f = apart 0 2 refl refl (λ z. omega arith) f
          over (Ended q) e f = apart 1 2 refl refl (λ z. omega arith) f
          over (Padded q) e f = apart 2 3 refl refl (λ z. omega arith) e
          over (Overlong q) e f = apart 3 2 refl refl (λ z. omega arith) f

  higher_there : (k at p : ℕ) → higher_groups k start s at ≡ Overlong p → Runs k s at
  unfolding higher_groups
  higher_there zero at p e = λ i h. absurd (omega arith)
  higher_there (suc k) at p e = long_there false k at p (higher_there k (at + 1) p) e

  long_back : (first : Bool) (k at : ℕ) → higher_groups k start s (at + 1) ≡ Overlong start → at < length s → 128 ≤ get_or s at 0 → group_at first k start s at ≡ Overlong start
  long_back first k at e h a = at_more first k start s at h a ∙ rw e

  higher_back : (k at : ℕ) → Runs k s at → higher_groups k start s at ≡ Overlong start
  unfolding higher_groups
  higher_back zero at r = refl
  higher_back (suc k) at r = let f = runs-less k s at r in long_back false k at (higher_back k (at + 1) f.2) f.0 f.1

-- a number goes on after its last group exactly where each of as many bytes as it may have says that another follows
pub too_long-there : (k at : ℕ) (s : List ℕ) (p : ℕ) → number_in (suc k) s at ≡ Overlong p → Runs (suc k) s at
unfolding number_in
too_long-there k at s p e = long_there at s true k at p (higher_there at s k (at + 1) p) e

pub too_long-back : (k at : ℕ) (s : List ℕ) → Runs (suc k) s at → number_in (suc k) s at ≡ Overlong at
unfolding number_in
too_long-back k at s r = let f = runs-less k s at r in long_back at s true k at (higher_back at s k (at + 1) f.2) f.0 f.1

-- .. and a number is padded exactly where some such bytes, fewer than it may have, are followed by a byte of 0
module _ (start : ℕ) (s : List ℕ) where
  kept : (y : Number) (f : ℕ → ℕ → ℕ) {p : ℕ} → on_higher y (λ v next. Value (f v next) next) ≡ Padded p → y ≡ Padded p
  kept (Value v next) f e = absurd (apart 0 2 refl refl (λ z. omega arith) e)
  kept (Ended q) f e = e
  kept (Padded q) f e = e
  kept (Overlong q) f e = e

  -- j bytes, then 0
  abbrev Zero : ℕ → ℕ → Type 0
  Zero j at = (Runs j s at) × (at + j < length s) × (get_or s (at + j) 0 ≡ 0)

  zero_more : (j at : ℕ) → at < length s → 128 ≤ get_or s at 0 → Zero j (at + 1) → Zero (suc j) at
  zero_more j at i a x = let z : at + suc j ≡ at + 1 + j = omega arith in (runs-more j s at i a x.0, rw z x.1, rw z x.2)

  zero_less : (j at : ℕ) → Zero (suc j) at → (at < length s) × (128 ≤ get_or s at 0) × (Zero j (at + 1))
  zero_less j at x = let r = runs-less j s at x.0 in let z : at + suc j ≡ at + 1 + j = omega arith in (r.0, r.1, (r.2, rw (← z) x.1, rw (← z) x.2))

  pad_there : (k at p : ℕ) → higher_groups k start s at ≡ Padded p → (j : ℕ) × (j < k) × (Zero j at)
  unfolding higher_groups
  pad_there zero at p e = absurd (apart 3 2 refl refl (λ z. omega arith) e)
  pad_there (suc k) at p e = go (pad_there k (at + 1) p) (higher_groups (suc k) start s at) (see false k start s at) e
    where
      go : (higher_groups k start s (at + 1) ≡ Padded p → (j : ℕ) × (j < k) × (Zero j (at + 1))) → (x : Number) → Group false k start s at x → x ≡ Padded p → (j : ℕ) × (j < suc k) × (Zero j at)
      go above x (none i) e = absurd (apart 1 2 refl refl (λ z. omega arith) e)
      go above x (pad i b c) e = let z : at + 0 ≡ at = omega arith in (0, let y : 0 < suc k = omega arith in y, (λ l h. absurd (omega arith), rw z i, rw z b))
      go above x (last i a t) e = absurd (apart 0 2 refl refl (λ z. omega arith) e)
      go above x (more i a) e =
          let r = above (kept (higher_groups k start s (at + 1)) (λ w mid. get_or s at 0 - 128 + w * 128) e) in
          let h = r.1 in
          (suc r.0, let y : suc r.0 < suc k = omega arith in y, zero_more r.0 at i a r.2)

  pad_back : (k at j : ℕ) → j < k → Zero j at → higher_groups k start s at ≡ Padded start
  unfolding higher_groups
  pad_back zero at j h x = absurd (omega arith)
  pad_back (suc k) at zero h x = let z : at + 0 ≡ at = omega arith in at_pad false k start s at (rw (← z) x.1) (rw (← z) x.2) refl
  pad_back (suc k) at (suc j) h x = let r = zero_less j at x in at_more false k start s at r.0 r.1 ∙ rw (pad_back k (at + 1) j (omega arith) r.2)

pub padded-there : (k at : ℕ) (s : List ℕ) (p : ℕ) → number_in (suc k) s at ≡ Padded p → (j : ℕ) × (j < k) × (Zero at s (suc j) at)
unfolding number_in
padded-there k at s p e = go (number_in (suc k) s at) (see true k at s at) e
  where
    go : (x : Number) → Group true k at s at x → x ≡ Padded p → (j : ℕ) × (j < k) × (Zero at s (suc j) at)
    go x (none i) e = absurd (apart 1 2 refl refl (λ z. omega arith) e)
    go x (pad i b c) e = let z : ◌≡◌ {A = ℕ} 0 1 = cc in absurd (omega arith)
    go x (last i a t) e = absurd (apart 0 2 refl refl (λ z. omega arith) e)
    go x (more i a) e =
        let r = pad_there at s k (at + 1) p (kept at s (higher_groups k at s (at + 1)) (λ w mid. get_or s at 0 - 128 + w * 128) e) in
        (r.0, r.1, zero_more at s r.0 at i a r.2)

pub padded-back : (k at : ℕ) (s : List ℕ) (j : ℕ) → j < k → Zero at s (suc j) at → number_in (suc k) s at ≡ Padded at
unfolding number_in
padded-back k at s j h x = let r = zero_less at s j at x in at_more true k at s at r.0 r.1 ∙ rw (pad_back at s k (at + 1) j h r.2)
