-- Writing an answer byte by byte. Assumes nothing.
use Prim.Native.Nat.{ℕ, zero, suc, ◌+◌, ◌*◌, ◌%◌, ◌/◌, ◌^◌, ◌<◌, ◌≤◌}
use mathlib.Core.List.{List, ◌∷◌}
use mathlib.Core.Bool.{Bool, true, false}
use mathlib.Core.Path.{◌≡◌, refl, sym, ap, ◌∙◌}
use native.Mathlib.Nat.{div-div-eq-div-mul, pow-suc}
use native.Mathlib.Omega.{arith}
use lib.ListN.{length}
use lib.Seq.{take_all}
use borrow.Rule.Slice.PartMut.{put_mid}
use Rattle.std.proofs.lemmas.Slice.{put_mid-paste}
use Rattle.std.specs.Int.{w64, to_le_bytes, bytes_low_first}
use borrow.Author.Tests.{le-leb, lt-leb, leb-true}
use Rattle.record.specs.Write.{overwritten}
use Rattle.record.specs.declared.Answer.{Answer}
use Rattle.record.proofs.Write.{overwritten-length}
use Rattle.script.specs.Replay.{answer_word, word_bytes, answer_bytes, has_room_for, with_answer, answered}

pub word-length : (k w : ℕ) → length (word_bytes k w) ≡ k
unfolding word_bytes
word-length zero w = refl
word-length (suc k) w = ap suc (word-length k (w / 256))

-- the bytes of a word as the library's method gives them, those from byte i on
low_first : (k i n w : ℕ) → w ≡ n / 256 ^ i → bytes_low_first i k n ≡ word_bytes k w
unfolding word_bytes
low_first zero i n w e = refl
low_first (suc k) zero n w e =
    let z : w ≡ n = omega (arith, e) in
    rw z (ap (λ l. n % 256 ∷ l) (low_first k 1 n (n / 256) refl))
low_first (suc k) (suc i) n w e =
    rw e (ap (λ l. n / 256 ^ suc i % 256 ∷ l) (low_first k (suc (suc i)) n (n / 256 ^ suc i / 256) (div-div-eq-div-mul n (256 ^ suc i) 256 ∙ ap (λ m. n / m) (sym (pow-suc 256 (suc i))))))

-- a part of the buffer that is now these bytes
pub put_part : (buffer : List ℕ) (at k : ℕ) {bytes new : List ℕ} → new ≡ bytes → k ≡ length bytes → put_mid at k buffer new ≡ overwritten buffer at bytes
put_part buffer at k {bytes} e f = put_mid-paste at k buffer _ bytes (length bytes) e (sym f) refl ∙ rw (take_all (length bytes) bytes (omega arith))

pub word_put : (buffer : List ℕ) (at k w : ℕ) {new : List ℕ} → new ≡ to_le_bytes w64 w → k ≡ 8 → put_mid at k buffer new ≡ overwritten buffer at (word_bytes 8 w)
word_put buffer at k w e f = put_part buffer at k (e ∙ low_first 8 0 w w (omega arith)) (f ∙ sym (word-length 8 w))

-- an answer with room for it, and one without
module _ (buffer : List ℕ) (count : ℕ) (a : Answer) where
  abbrev pub Put : Bool → List ℕ → Type 0
  Put put out = (put ≡ has_room_for buffer count) × (out ≡ answered buffer count a)

  pub answer_unput : length buffer / 8 ≤ count → Put false buffer
  answer_unput h = let e : has_room_for buffer count ≡ false = lt-leb (8 * count + 8) (length buffer) (omega (arith, h)) in (sym e, rw e)

  pub answer_put : count < length buffer / 8 → {out : List ℕ} → out ≡ with_answer buffer count a → Put true out
  answer_put h o = let e : has_room_for buffer count ≡ true = le-leb (8 * count + 8) (length buffer) (omega (arith, h)) in (sym e, o ∙ rw e)

  module _ {put : Bool} {out : List ℕ} (q : Put put out) where
    pub unput_same : put ≡ false → (has_room_for buffer count ≡ false) × (out ≡ buffer)
    unput_same f = let e : has_room_for buffer count ≡ false = sym q.0 ∙ f in (e, q.1 ∙ rw e)

    pub put_room : put ≡ true → 8 * count + 8 ≤ length buffer
    put_room f = leb-true (8 * count + 8) (length buffer) (sym q.0 ∙ f)

    pub put_after : put ≡ true → (has_room_for buffer count ≡ true) × (out ≡ with_answer buffer count a)
    put_after f = let e : has_room_for buffer count ≡ true = sym q.0 ∙ f in (e, q.1 ∙ rw e)

    pub put_length : put ≡ true → length out ≡ length buffer
    put_length f =
        let r = put_room f in
        let l = word-length 8 (answer_word a) in
        ap length (put_after f).1 ∙ overwritten-length buffer (8 * count) (answer_bytes a) (omega (arith, r, l))
