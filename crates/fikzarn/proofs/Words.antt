-- The word for what the maker or a mend gave, by its answer. Assumes nothing.
use Prim.Native.Nat.{ℕ, ◌+◌, ◌*◌, ◌%◌, ◌<◌}
use mathlib.Core.Path.{◌≡◌, refl, sym, ap, ◌∙◌}
use native.Mathlib.Omega.{arith}
use Rattle.record.specs.declared.Answer.{Answer}
use Rattle.record.specs.declared.Answer.TheVariants.{Accepted, Grade, PlanFault, CertificateFault}
use Rattle.mending.specs.declared.Mended.{Mended}
use Rattle.script.specs.Replay.{answer_word}
use Rattle.fikzarn.specs.Words.{grade_word, lengths_place, mended_word}

-- an answer x that is a, beside what a grade has in the place, and its word
pub told-word : (place : ℕ) {x a : Answer} → x ≡ a → {w : ℕ} → w ≡ grade_word a place → w ≡ grade_word x place
told-word place f g = g ∙ ap (λ (y : Answer). grade_word y place) (sym f)

-- an answer that is no grade has its own word
pub other_word : (place : ℕ) (x : Answer) → ((k : ℕ) → x ≡ Grade k → ⊥) → {w : ℕ} → w ≡ answer_word x → w ≡ grade_word x place
other_word place Accepted n e = e
other_word place (Grade k) n e = absurd (n k refl)
other_word place (PlanFault r p) n e = e
other_word place (CertificateFault r p) n e = e

-- three lengths of 16 bits have room in the place
pub lengths_word : (m : Mended) {k : ℕ} → m.answer ≡ Grade k → 1 + 256 * k + 65536 * lengths_place m ≡ mended_word m
lengths_word m {k} f =
    let h : lengths_place m < 281474976710656 = omega arith in
    told-word (lengths_place m) f (ap (λ (p : ℕ). 1 + 256 * k + 65536 * p) (sym (uncut (lengths_place m) h)))
  where
    uncut : (p : ℕ) → p < 281474976710656 → p % 281474976710656 ≡ p
    uncut p h = omega arith
