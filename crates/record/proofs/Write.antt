-- What writing a number does, by whether there is room. Assumes nothing.
use Prim.Native.Nat.{ℕ, ◌+◌, ◌%◌, ◌/◌, ◌^◌, ◌<◌, ◌≤◌}
use mathlib.Core.List.{List, [], ◌∷◌, ◌++◌, append_assoc, append-nil}
use mathlib.Core.Bool.{Bool, true, false, cond, and-false}
use mathlib.Core.Path.{◌≡◌, refl, sym, ap, ◌∙◌}
use Rattle.std.specs.Prelude.{Option, Some, None}
use native.Mathlib.Nat.{add-zero}
use native.Mathlib.Omega.{arith}
use lib.ListN.{length, get_or, take, drop, length-append, length-drop, take-append-drop}
use lib.Dec.{ltb}
use lib.Seq.{sets, sets-eq, append_snoc, get_or_at, length-take-le, take_at, drop_at, drop-drop}
use borrow.Author.Tests.{ltb-true, ltb-false, lt-ltb, le-ltb, le-leb, lt-leb}
use Rattle.record.specs.Number.{groups_of, number_bytes, number_in, number_limit}
use Rattle.record.specs.Write.{can_write, written_number, with_number, overwritten}
use Rattle.record.specs.declared.Number.TheVariants.{Value}
use Rattle.record.proofs.Laws.{Spans, Spans.none, Spans.more}
use Rattle.record.proofs.Groups.{number-back}

pub one_byte : (v : ℕ) → v < 128 → number_bytes v ≡ v ∷ []
unfolding groups_of
one_byte v h = rw (lt-ltb v 128 h)

pub two_bytes : (v : ℕ) → 128 ≤ v → v < number_limit → number_bytes v ≡ (v % 128 + 128) ∷ (v / 128) ∷ []
unfolding groups_of
two_bytes v h i = let j : v / 128 < 128 = omega arith in rw (le-ltb v 128 h, lt-ltb (v / 128) 128 j)

-- a number takes at least a byte
pub some_bytes : (v : ℕ) → 1 ≤ length (number_bytes v)
unfolding groups_of
some_bytes v = go (ltb v 128) (groups_of 1 (v / 128))
  where
    go : (b : Bool) (l : List ℕ) → 1 ≤ length (cond b (v ∷ []) ((v % 128 + 128) ∷ l))
    go true l = omega arith
    go false l = omega arith

-- and two from 128 on
pub long_bytes : (v : ℕ) → 128 ≤ v → length (number_bytes v) ≡ 2
unfolding groups_of
long_bytes v h = rw (le-ltb v 128 h) (go (ltb (v / 128) 128))
  where
    go : (b : Bool) → length ((v % 128 + 128) ∷ cond b (v / 128 ∷ []) ((v / 128 % 128 + 128) ∷ [])) ≡ 2
    go true = refl
    go false = refl

pub few_bytes : (v : ℕ) → length (number_bytes v) ≤ 2
few_bytes v = go (ltb v 128) refl
  where
    go : (b : Bool) → ltb v 128 ≡ b → length (number_bytes v) ≤ 2
    go true e = omega (arith, ap length (one_byte v (ltb-true _ _ e)))
    go false e = omega (arith, long_bytes v (ltb-false _ _ e))

module _ (buffer : List ℕ) (at v : ℕ) where
  pub no_room : can_write buffer at v ≡ false → (None ≡ written_number buffer at v) × (buffer ≡ with_number buffer at v)
  no_room e = (rw e, rw e)

  pub too_large : number_limit ≤ v → can_write buffer at v ≡ false
  too_large h = rw (le-ltb v number_limit h)

  pub too_short : length buffer < at + length (number_bytes v) → can_write buffer at v ≡ false
  too_short h = rw (lt-leb (at + length (number_bytes v)) (length buffer) h) (and-false (ltb v number_limit))

  pub can_write_lem : v < number_limit → at + length (number_bytes v) ≤ length buffer → can_write buffer at v ≡ true
  can_write_lem h r = rw (lt-ltb v number_limit h, le-leb (at + length (number_bytes v)) (length buffer) r)

  -- what a caller who has seen to the room gets
  pub put_told : can_write buffer at v ≡ true → {x : Option ℕ} {next : ℕ} {out : List ℕ} → x ≡ written_number buffer at v → x ≡ Some next → out ≡ with_number buffer at v
      → (next ≡ at + length (number_bytes v)) × (out ≡ overwritten buffer at (number_bytes v))
  put_told e {x} {next} a b c =
      let f : Some next ≡ Some (at + length (number_bytes v)) = sym b ∙ a ∙ rw e in
      (cc, c ∙ rw e)

  pub put_fails : can_write buffer at v ≡ true → {x : Option ℕ} → x ≡ written_number buffer at v → x ≡ None → ⊥
  put_fails e a b =
      let f : None ≡ Some (at + length (number_bytes v)) = sym b ∙ a ∙ rw e in
      let z : ◌≡◌ {A = ℕ} 0 1 = cc in omega arith

  pub room : {bytes : List ℕ} → number_bytes v ≡ bytes → v < number_limit → at + length bytes ≤ length buffer
      → (Some (at + length bytes) ≡ written_number buffer at v) × (sets buffer at bytes ≡ with_number buffer at v)
  room {bytes} e h r =
      (rw (e, lt-ltb v number_limit h, le-leb (at + length bytes) (length buffer) r), rw (e, lt-ltb v number_limit h, le-leb (at + length bytes) (length buffer) r) (sets-eq bytes buffer at r))

-- bytes that stand between others
pub spans_between : (p bs q : List ℕ) (at : ℕ) → length p ≡ at → Spans (p ++ bs ++ q) at bs (at + length bs)
spans_between p [] q at e = let z : at ≡ at + 0 = omega arith in rw (← z) none
spans_between p (b ∷ bs) q at e =
    let i : at < length (p ++ (b ∷ bs) ++ q) = omega (arith, length-append (p ++ (b ∷ bs)) q, length-append p (b ∷ bs)) in
    let f : p ++ (b ∷ []) ++ bs ++ q ≡ p ++ (b ∷ bs) ++ q = ap (λ (l : List ℕ). l ++ q) (append_snoc p b bs) in
    let n : length (p ++ (b ∷ [])) ≡ at + 1 = omega (arith, length-append p (b ∷ [])) in
    let g : get_or (p ++ (b ∷ bs) ++ q) at 0 ≡ b = ap (λ (l : List ℕ). get_or l at 0) (append_assoc p (b ∷ bs) q) ∙ get_or_at p b (bs ++ q) 0 at e in
    let z : at + length (b ∷ bs) ≡ at + 1 + length bs = omega arith in
    let t : Spans (p ++ (b ∷ bs) ++ q) (at + 1) bs (at + 1 + length bs) = rw (← f) (spans_between (p ++ (b ∷ [])) bs q (at + 1) n) in
    rw z (more i g t)

-- what was written stands there
pub overwritten-spans : (buffer : List ℕ) (at : ℕ) (bytes : List ℕ) → at + length bytes ≤ length buffer → Spans (overwritten buffer at bytes) at bytes (at + length bytes)
overwritten-spans buffer at bytes h = spans_between (take at buffer) bytes (drop (at + length bytes) buffer) at (length-take-le at buffer (let z : at ≤ length buffer = omega arith in z))

-- a number that was written is read back, with the place after it, whatever stands behind
pub read_back : (k : ℕ) (buffer : List ℕ) (at v : ℕ) → 0 < k → v < 128 ^ k → at + length (groups_of k v) ≤ length buffer
    → number_in k (overwritten buffer at (groups_of k v)) at ≡ Value v (at + length (groups_of k v))
read_back k buffer at v h f r = number-back k _ at v _ h (record { bytes = overwritten-spans buffer at (groups_of k v) r; fits = f })

-- the buffer keeps its length; nothing written changes nothing; bytes after bytes are written as one
module _ (buffer : List ℕ) (at : ℕ) where
  pub overwritten-none : overwritten buffer at [] ≡ buffer
  overwritten-none = rw (add-zero at, append-nil (take at buffer)) (take-append-drop at buffer)

  module _ (xs : List ℕ) (h : at + length xs ≤ length buffer) where
    front_length : length (take at buffer ++ xs) ≡ at + length xs
    front_length = let z : at ≤ length buffer = omega arith in simp length-append (ap (λ n. n + length xs) (length-take-le at buffer z))

    pub overwritten-length : length (overwritten buffer at xs) ≡ length buffer
    overwritten-length = omega (arith, length-append (take at buffer ++ xs) (drop (at + length xs) buffer), front_length, length-drop (at + length xs) buffer)

    pub overwritten-more : (ys : List ℕ) → overwritten (overwritten buffer at xs) (at + length xs) ys ≡ overwritten buffer at (xs ++ ys)
    overwritten-more ys =
        let n : at + length (xs ++ ys) ≡ at + length xs + length ys = omega (arith, length-append xs ys) in
        let d : drop (at + length xs + length ys) (overwritten buffer at xs) ≡ drop (at + length xs + length ys) buffer =
        sym (drop-drop (length ys) (at + length xs) (overwritten buffer at xs))
        ∙ ap (drop (length ys)) (drop_at (take at buffer ++ xs) (drop (at + length xs) buffer) (at + length xs) front_length)
        ∙ drop-drop (length ys) (at + length xs) buffer in
        rw (d, take_at (take at buffer ++ xs) (drop (at + length xs) buffer) (at + length xs) front_length, n, append_assoc (take at buffer) xs ys)

    -- one writing after the other
    module _ (ys : List ℕ) {out : List ℕ} {mid : ℕ} (p : (mid ≡ at + length xs) × (out ≡ overwritten buffer at xs)) where
      pub both_room : at + length (xs ++ ys) ≤ length buffer → mid + length ys ≤ length out
      both_room r = omega (arith, p.0, ap length p.1, overwritten-length, length-append xs ys)

      pub both_put : {last : List ℕ} {next : ℕ} → (next ≡ mid + length ys) × (last ≡ overwritten out mid ys) → (next ≡ at + length (xs ++ ys)) × (last ≡ overwritten buffer at (xs ++ ys))
      both_put q = (omega (arith, p.0, q.0, length-append xs ys), q.1 ∙ rw (p.0, p.1) (overwritten-more ys))
