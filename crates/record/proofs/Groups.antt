-- Numbers over the number of groups: the shortest form is the only one that is read, and what is written is read back. Assumes nothing.
use Prim.Native.Nat.{ℕ, zero, suc, ◌+◌, ◌-◌, ◌*◌, ◌/◌, ◌%◌, ◌^◌, ◌<◌, ◌≤◌}
use mathlib.Core.List.{List, [], ◌∷◌}
use mathlib.Core.Bool.{Bool, true, false, cond}
use mathlib.Core.Path.{◌≡◌, refl, ap, subst}
use native.Mathlib.Omega.{arith}
use native.Mathlib.Nat.{pow-suc, one-le-pow}
use lib.ListN.{length, get_or}
use lib.Dec.{ltb, eqb, lit<}
use borrow.Author.Tests.{ltb-true, ltb-false, eqb-false, lt-ltb, le-ltb, ne_eqb}
use Rattle.record.specs.Read.{Read.Got, Bytes}
use Rattle.record.specs.Number.{on_byte, on_higher, group, higher_groups, number_in, max_groups, as_read, number, groups_of, number_bytes, number_limit}
use Rattle.record.specs.declared.Number.{Number}
use Rattle.record.specs.declared.Number.TheVariants.{Value, Ended, Padded, Overlong}
use Rattle.record.proofs.Laws.{Spans, Spans.none, Spans.more, Reads, drop_spans}

-- the bytes from at up to next are the shortest form of v in at most k groups
pub record Written (k : ℕ) (s : List ℕ) (at v next : ℕ) : Type 0 where
  pub bytes : Spans s at (groups_of k v) next
  pub fits : v < 128 ^ k

-- what holds of a value holds of any that equals it
abbrev valued : (ℕ → ℕ → Type 0) → Number → Type 0
valued P (Value v n) = P v n
valued P (Ended p) = ⊥
valued P (Padded p) = ⊥
valued P (Overlong p) = ⊥

same_value : (P : ℕ → ℕ → Type 0) {a b m n : ℕ} → Value a m ≡ Value b n → P a m → P b n
same_value P e p = subst (valued P) e p

-- a group that was read: the last one, or one with a value above it
on_byte_lem : (s : List ℕ) (at : ℕ) (f : ℕ → Number) {v next : ℕ} → on_byte s at f ≡ Value v next → (at < length s) × (f (get_or s at 0) ≡ Value v next)
on_byte_lem s at f {v} {next} e = go (ltb at (length s)) refl e
  where
    go : (b : Bool) → ltb at (length s) ≡ b → cond b (f (get_or s at 0)) (Ended (length s)) ≡ Value v next → (at < length s) × (f (get_or s at 0) ≡ Value v next)
    go true t e = (ltb-true _ _ t, e)
    go false t e = let z : ◌≡◌ {A = ℕ} 0 1 = cc in absurd (omega arith)

on_higher_lem : (x : Number) (f : ℕ → ℕ → Number) {v next : ℕ} → on_higher x f ≡ Value v next → (w : ℕ) × (mid : ℕ) × (x ≡ Value w mid) × (f w mid ≡ Value v next)
on_higher_lem (Value w mid) f e = (w, mid, refl, e)
on_higher_lem (Ended p) f e = let z : ◌≡◌ {A = ℕ} 0 1 = cc in absurd (omega arith)
on_higher_lem (Padded p) f e = let z : ◌≡◌ {A = ℕ} 0 1 = cc in absurd (omega arith)
on_higher_lem (Overlong p) f e = let z : ◌≡◌ {A = ℕ} 0 1 = cc in absurd (omega arith)

-- what the groups above give, with at most k of them
abbrev Above : ℕ → (List ℕ → ℕ → Number) → List ℕ → Type 0
Above k higher s = (at v next : ℕ) → higher s at ≡ Value v next → (Written k s at v next) × (0 < v)

group-there : (k : ℕ) (higher : List ℕ → ℕ → Number) (s : List ℕ) (at : ℕ) {v next : ℕ} → at < length s → get_or s at 0 < 256 → Above k higher s
    → group higher s at (get_or s at 0) ≡ Value v next → (Written (suc k) s at v next) × ((get_or s at 0 ≡ 0 → ⊥) → 0 < v)
unfolding groups_of
group-there k higher s at {v} {next} i small above e = go (ltb b 128) refl e
  where
    b : ℕ
    b = get_or s at 0

    Goal : ℕ → ℕ → Type 0
    Goal w n = (Written (suc k) s at w n) × ((b ≡ 0 → ⊥) → 0 < w)

    last : b < 128 → Goal b (at + 1)
    last h =
        let p : 1 ≤ 128 ^ k = one-le-pow k 128 (lit< tt) in
        (record { bytes = rw (lt-ltb b 128 h) (more i refl none); fits = rw (pow-suc 128 k) (omega arith) }, λ z. omega arith)

    above_last : (w mid : ℕ) → 128 ≤ b → Written k s (at + 1) w mid → 0 < w → Goal (b - 128 + w * 128) mid
    above_last w mid h p q =
        let f : w < 128 ^ k = p.fits in
        let l : 128 ≤ b - 128 + w * 128 = omega arith in
        let m : (b - 128 + w * 128) % 128 + 128 ≡ b = omega arith in
        let d : (b - 128 + w * 128) / 128 ≡ w = omega arith in
        (record { bytes = rw (le-ltb (b - 128 + w * 128) 128 l, m, d) (more i refl p.bytes); fits = rw (pow-suc 128 k) (omega arith) }, λ z. omega arith)

    go : (t : Bool) → ltb b 128 ≡ t → cond t (Value b (at + 1)) (on_higher (higher s (at + 1)) (λ v next. Value (b - 128 + v * 128) next)) ≡ Value v next → Goal v next
    go true t e = same_value Goal e (last (ltb-true _ _ t))
    go false t e =
        let r = on_higher_lem (higher s (at + 1)) (λ v next. Value (b - 128 + v * 128) next) e in
        let a = above (at + 1) r.0 r.1 r.2 in
        same_value Goal r.3 (above_last r.0 r.1 (ltb-false _ _ t) a.0 a.1)

higher_there : (k start : ℕ) (s : List ℕ) → Bytes s → Above k (higher_groups k start) s
unfolding higher_groups
higher_there zero start s small at v next e = let z : ◌≡◌ {A = ℕ} 0 1 = cc in absurd (omega arith)
higher_there (suc k) start s small at v next e =
    let b = on_byte_lem s at (λ b. cond (eqb b 0) (Padded start) (group (higher_groups k start) s at b)) e in
    go (eqb (get_or s at 0) 0) refl b.0 (higher_there k start s small) b.1
  where
    go : (t : Bool) → eqb (get_or s at 0) 0 ≡ t → at < length s → Above k (higher_groups k start) s → cond t (Padded start) (group (higher_groups k start) s at (get_or s at 0)) ≡ Value v next
        → (Written (suc k) s at v next) × (0 < v)
    go true t i above e = let z : ◌≡◌ {A = ℕ} 0 1 = cc in absurd (omega arith)
    go false t i above e =
        let r = group-there k (higher_groups k start) s at i (small at) above e in
        (r.0, r.1 (eqb-false _ _ t))

-- a number that is read stands there in its shortest form
pub number-there : (k : ℕ) (s : List ℕ) (at v next : ℕ) → Bytes s → number_in k s at ≡ Value v next → Written k s at v next
unfolding number_in
number-there zero s at v next small e = let z : ◌≡◌ {A = ℕ} 0 1 = cc in absurd (omega arith)
number-there (suc k) s at v next small e =
    let b = on_byte_lem s at (λ b. group (higher_groups k at) s at b) e in
    (group-there k (higher_groups k at) s at b.0 (small at) (higher_there k at s small) b.1).0

-- the other way: a shortest form of at most k + 1 groups is read, whatever follows
first_byte : {s : List ℕ} {at next b : ℕ} {bs : List ℕ} → Spans s at (b ∷ bs) next → (at < length s) × (get_or s at 0 ≡ b) × (Spans s (at + 1) bs next)
first_byte (more i e p) = (i, e, p)

nothing : {s : List ℕ} {at next : ℕ} → Spans s at [] next → next ≡ at
nothing none = refl

group-back : (k : ℕ) (higher : List ℕ → ℕ → Number) (s : List ℕ) (at v next : ℕ) → v < 128 ^ suc k
    → ((w : ℕ) → Spans s (at + 1) (groups_of k w) next → w < 128 ^ k → 0 < w → higher s (at + 1) ≡ Value w next)
    → Spans s at (groups_of (suc k) v) next
    → (at < length s) × (group higher s at (get_or s at 0) ≡ Value v next) × (0 < v → get_or s at 0 ≡ 0 → ⊥)
unfolding groups_of
group-back k higher s at v next fits above p = go (ltb v 128) refl p
  where
    go : (t : Bool) → ltb v 128 ≡ t → Spans s at (cond t (v ∷ []) ((v % 128 + 128) ∷ groups_of k (v / 128))) next
        → (at < length s) × (group higher s at (get_or s at 0) ≡ Value v next) × (0 < v → get_or s at 0 ≡ 0 → ⊥)
    go true t p =
        let b = first_byte p in
        (b.0, rw (b.1, t, nothing b.2), λ h z. omega (arith, b.1))
    go false t p =
        let b = first_byte p in
        let l : 128 ≤ v = ltb-false _ _ t in
        let q : 0 < v / 128 = omega arith in
        let f : v / 128 < 128 ^ k = let z : v < 128 ^ k * 128 = rw (← pow-suc 128 k) fits in omega arith in
        let e : v % 128 + 128 - 128 + v / 128 * 128 ≡ v = omega arith in
        let m : 128 ≤ v % 128 + 128 = omega arith in
        (b.0, rw (b.1, le-ltb (v % 128 + 128) 128 m, above (v / 128) b.2 f q, e), λ h z. omega (arith, b.1))

higher_back : (k start : ℕ) (s : List ℕ) (at v next : ℕ) → Spans s at (groups_of k v) next → v < 128 ^ k → 0 < v → higher_groups k start s at ≡ Value v next
unfolding higher_groups
higher_back zero start s at v next p f h = absurd (let z : v < 1 = f in omega arith)
higher_back (suc k) start s at v next p f h =
    let r = group-back k (higher_groups k start) s at v next f (λ w q g i. higher_back k start s (at + 1) w next q g i) p in
    rw (lt-ltb _ _ r.0, ne_eqb _ _ (r.2 h), r.1)

pub number-back : (k : ℕ) (s : List ℕ) (at v next : ℕ) → 0 < k → Written k s at v next → number_in k s at ≡ Value v next
unfolding number_in
number-back zero s at v next h p = absurd (omega arith)
number-back (suc k) s at v next h p =
    let r = group-back k (higher_groups k at) s at v next p.fits (λ w q g i. higher_back k at s (at + 1) w next q g i) p.bytes in
    rw (lt-ltb _ _ r.0, r.1)

-- the reader of one number takes exactly the shortest form of a number below 128 ^ k
value_read : (x : Number) {v next : ℕ} → as_read x ≡ Got v next → x ≡ Value v next
value_read (Value w n) {v} {next} e = let a : w ≡ v = cc in let b : n ≡ next = cc in cc
value_read (Ended p) e = let z : ◌≡◌ {A = ℕ} 0 1 = cc in absurd (omega arith)
value_read (Padded p) e = let z : ◌≡◌ {A = ℕ} 0 1 = cc in absurd (omega arith)
value_read (Overlong p) e = let z : ◌≡◌ {A = ℕ} 0 1 = cc in absurd (omega arith)

pub number-law : Reads number number_bytes (λ v. v < number_limit)
unfolding number
number-law = record {
  there = λ {s} {at} {next} {v} small e. let r = number-there max_groups s at v next small (value_read _ e) in (r.bytes, r.fits);
  back = λ {s} {at} {next} {v} p i. ap as_read (number-back max_groups s at v next (lit< tt) (record { bytes = p; fits = i }));
}

-- two numbers with the same shortest form are the same
pub groups_unique : (k : ℕ) (v w : ℕ) → 0 < k → v < 128 ^ k → w < 128 ^ k → groups_of k v ≡ groups_of k w → v ≡ w
groups_unique k v w h f g e =
    let z : 0 ≤ length (groups_of k v) = omega arith in
    let a = number-back k (groups_of k v) 0 v (length (groups_of k v)) h (record { bytes = drop_spans (groups_of k v) (groups_of k v) 0 z refl; fits = f }) in
    let b = number-back k (groups_of k v) 0 w (length (groups_of k v)) h (record { bytes = drop_spans (groups_of k v) (groups_of k w) 0 z e; fits = g }) in
    cc
