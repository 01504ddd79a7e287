-- Bytes put into a buffer, one after the other. Assumes nothing.
use Prim.Native.Nat.{ℕ, ◌+◌, ◌≤◌, ◌<◌}
use mathlib.Core.List.{List, [], ◌++◌, append_assoc}
use mathlib.Core.Bool.{Bool, true, false}
use mathlib.Core.Path.{◌≡◌, refl, sym, ap, ◌∙◌}
use native.Mathlib.Omega.{arith}
use lib.ListN.{length, take, drop, length-append}
use lib.Seq.{length-take-le, take_at}
use borrow.Author.Tests.{le-leb, lt-leb, leb-true}
use Rattle.record.specs.Write.{overwritten, has_room}
use Rattle.record.proofs.Write.{overwritten-none, overwritten-length, both_room, both_put}
use Rattle.lines.specs.Lines.{place_after, written, longest}

-- what is put, with the place behind it
abbrev pub Put : List ℕ → ℕ → List ℕ → ℕ → List ℕ → Type 0
Put buffer at bytes next out = (next ≡ place_after buffer at bytes) × (out ≡ written buffer at bytes)

module _ (buffer : List ℕ) (at : ℕ) (bytes : List ℕ) where
  pub unput : length buffer < at + length bytes → Put buffer at bytes at buffer
  unput h = let e : has_room buffer at bytes ≡ false = lt-leb (at + length bytes) (length buffer) h in (rw e, rw e)

  module _ (h : at + length bytes ≤ length buffer) where
    room : has_room buffer at bytes ≡ true
    room = le-leb (at + length bytes) (length buffer) h

    pub put_told : {next : ℕ} {out : List ℕ} → Put buffer at bytes next out → (next ≡ at + length bytes) × (out ≡ overwritten buffer at bytes)
    put_told p = (p.0 ∙ rw room, p.1 ∙ rw room)

-- the buffer keeps its length, and the place behind what is put counts bytes of it, where the place before it does
module _ (buffer : List ℕ) (at : ℕ) (bytes : List ℕ) {next : ℕ} {out : List ℕ} (p : Put buffer at bytes next out) where
  sized : (t : Bool) → has_room buffer at bytes ≡ t → (length out ≡ length buffer) × (at ≤ length buffer → next ≤ length buffer)
  sized true e =
      let r = leb-true (at + length bytes) (length buffer) e in
      let t = put_told buffer at bytes r p in
      (ap length t.1 ∙ overwritten-length buffer at bytes r, λ h. omega (arith, r, t.0))
  sized false e = let o : out ≡ buffer = p.1 ∙ rw e in let n : next ≡ at = p.0 ∙ rw e in (ap length o, λ h. omega (arith, h, n))

  pub put_length : length out ≡ length buffer
  put_length = (sized (has_room buffer at bytes) refl).0

  pub put_counts : at ≤ length buffer → (next ≤ length out) × (next ≡ length (take next out))
  put_counts h =
      let l : next ≤ length out = omega (arith, put_length, (sized (has_room buffer at bytes) refl).1 h) in
      (l, sym (length-take-le next out l))

-- the same bytes, said otherwise
pub put_as : (buffer : List ℕ) (at : ℕ) {xs ys : List ℕ} → xs ≡ ys → {next : ℕ} {out : List ℕ} → Put buffer at xs next out → Put buffer at ys next out
put_as buffer at e p = (p.0 ∙ ap (place_after buffer at) e, p.1 ∙ ap (written buffer at) e)

-- and no more of them than a program's buffer has room for
pub put_short : {room : ℕ} (buffer : List ℕ) {xs ys : List ℕ} → xs ≡ ys → {next : ℕ} {out : List ℕ} → Put buffer 0 xs next out → length xs ≤ room
    → (next ≡ place_after buffer 0 ys) × ((out ≡ written buffer 0 ys) × (length ys ≤ room))
put_short buffer {xs} {ys} e p l = let q = put_as buffer 0 e p in (q.0, (q.1, omega (arith, l, ap length e)))

-- nothing is put
pub put_none : (buffer : List ℕ) (at : ℕ) → Put buffer at [] at buffer
put_none buffer at = go (has_room buffer at []) refl
  where
    go : (t : Bool) → has_room buffer at [] ≡ t → Put buffer at [] at buffer
    go true e = (let z : at ≡ at + 0 = omega arith in z ∙ rw e, sym (overwritten-none buffer at) ∙ rw e)
    go false e = (rw e, rw e)

-- two after each other are put as one, where both have room
pub put_more : (buffer : List ℕ) (at : ℕ) (xs ys : List ℕ) → at + length (xs ++ ys) ≤ length buffer → {mid next : ℕ} {out last : List ℕ}
    → Put buffer at xs mid out → Put out mid ys next last → Put buffer at (xs ++ ys) next last
put_more buffer at xs ys h {mid} {next} {out} {last} p q =
    let r : at + length xs ≤ length buffer = omega (arith, length-append xs ys) in
    let t = put_told buffer at xs r p in
    let u = put_told out mid ys (both_room buffer at xs r ys t h) q in
    let b = both_put buffer at xs r ys t u in
    (b.0 ∙ rw (room buffer at (xs ++ ys) h), b.1 ∙ rw (room buffer at (xs ++ ys) h))

-- a line that is put, and that has room in every buffer that a program lends
abbrev pub Lined : List ℕ → ℕ → List ℕ → ℕ → List ℕ → Type 0
Lined buffer at line next out = (next ≡ place_after buffer at line) × ((out ≡ written buffer at line) × (length line ≤ longest))

module _ (buffer : List ℕ) (at : ℕ) {next : ℕ} {out : List ℕ} where
  pub lined : (line : List ℕ) → Put buffer at line next out → length line ≤ longest → Lined buffer at line next out
  lined line p l = (p.0, (p.1, l))

-- a text put piece by piece
pub data Puts (buffer : List ℕ) (at : ℕ) : List ℕ → ℕ → List ℕ → Type 0 where
  none : Puts buffer at [] at buffer
  more : {text : List ℕ} {mid : ℕ} {out : List ℕ} → Puts buffer at text mid out → (bytes : List ℕ) {next : ℕ} {last : List ℕ} → Put out mid bytes next last → Puts buffer at (text ++ bytes) next last

-- a label and what stands behind it, as one piece
pub more_both : {buffer : List ℕ} {at : ℕ} {text : List ℕ} {mid : ℕ} {out : List ℕ} → Puts buffer at text mid out → (xs ys : List ℕ) {next : ℕ} {last : List ℕ}
    → Put out mid (xs ++ ys) next last → Puts buffer at (text ++ xs ++ ys) next last
more_both {buffer} {at} {text} t xs ys {next} {last} p = rw (append_assoc text xs ys) (Puts.more t (xs ++ ys) p)

-- THE LAW of pieces: a text that has room is put whole
pub puts_whole : {buffer : List ℕ} {at : ℕ} {text : List ℕ} {next : ℕ} {last : List ℕ} → Puts buffer at text next last → at + length text ≤ length buffer → Put buffer at text next last
puts_whole {buffer} {at} Puts.none h = put_none buffer at
puts_whole {buffer} {at} (Puts.more {text} t bytes p) h = put_more buffer at text bytes h (puts_whole t (omega (arith, length-append text bytes))) p

-- the text stands at the start of the buffer
pub record Begins (text : List ℕ) (next : ℕ) (buffer : List ℕ) : Type 0 where
  pub within : next ≤ length buffer
  pub long : next ≡ length (take next buffer)
  pub front : take next buffer ≡ text

pub begins : {buffer text : List ℕ} {next : ℕ} {last : List ℕ} → Puts buffer 0 text next last → length text ≤ length buffer → Begins text next last
begins {buffer} {text} {next} {last} t h =
    let r : 0 + length text ≤ length buffer = omega arith in
    let z : 0 + length text ≡ length text = omega arith in
    let p = puts_whole t r in
    let c = put_counts buffer 0 text p (omega arith) in
    let q = put_told buffer 0 text r p in
    record { within = c.0; long = c.1; front = rw (q.0, q.1, z) (take_at text (drop (length text) buffer) (length text) refl) }

-- what a program writes is the whole line
pub lined_begins : (buffer line : List ℕ) {next : ℕ} {last : List ℕ} → longest ≤ length buffer → Lined buffer 0 line next last → Begins line next last
lined_begins buffer line h p = begins {buffer = buffer} (Puts.more Puts.none line (p.0, p.1.0)) (omega (arith, h, p.1.1))
