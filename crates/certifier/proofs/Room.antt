-- What the maker answers and writes, by whether the buffer is long enough. Assumes nothing.
use Prim.Native.Nat.{ℕ, ◌≤◌, ◌<◌}
use mathlib.Core.Bool.{Bool, true, false}
use mathlib.Core.List.{List}
use mathlib.Core.Path.{◌≡◌, refl, sym, ap, ◌∙◌}
use native.Mathlib.Omega.{arith}
use lib.Dec.{ltb}
use lib.ListN.{length}
use borrow.Author.Tests.{lt-ltb, le-ltb, ltb-true, ltb-false}
use Rattle.record.specs.Write.{overwritten}
use Rattle.record.specs.declared.Answer.{Answer}
use Rattle.record.specs.declared.Answer.TheVariants.{Accepted, Grade, PlanFault, CertificateFault}
use Rattle.record.proofs.Write.{overwritten-length}
use Rattle.graph.specs.declared.GraphTable.{GraphTable}
use Rattle.reading.specs.Code.{whole_plan}
use Rattle.certifier.specs.declared.Made.{Made}
use Rattle.certifier.specs.Made.{made, length_by, length_from, record_by, record_from, fitted, made_from, filled_by, filled_from}

-- the length that is answered is that of what is written
record_length : (a : Answer) (g : GraphTable) → length (record_by a g) ≡ (length_by a g).length
unfolding length_by record_by
record_length Accepted g = refl
record_length (Grade k) g = refl
record_length (PlanFault r p) g = refl
record_length (CertificateFault r p) g = refl

pub same_length : (s : List ℕ) → length (record_from s) ≡ (length_from s).length
same_length s = record_length (whole_plan s).answer (whole_plan s).plan.graph

module _ (s buffer : List ℕ) where
  pub made-room : (length_from s).length ≤ length buffer → (made_from s buffer ≡ length_from s) × (filled_from s buffer ≡ overwritten buffer 0 (record_from s))
  unfolding fitted filled_by
  made-room h =
      let l : length (record_from s) ≤ length buffer = omega (arith, same_length s) in
      (rw (le-ltb (length buffer) (length_from s).length h), rw (le-ltb (length buffer) (length (record_from s)) l))

  pub made_none : length buffer < (length_from s).length → (made_from s buffer ≡ made (PlanFault 30 0) 0) × (filled_from s buffer ≡ buffer)
  unfolding fitted filled_by
  made_none h =
      let l : length buffer < length (record_from s) = omega (arith, same_length s) in
      (rw (lt-ltb (length buffer) (length_from s).length h), rw (lt-ltb (length buffer) (length (record_from s)) l))

  -- what holds in both cases holds
  pub by_room : {X : Type 0} → (length buffer < (length_from s).length → X) → ((length_from s).length ≤ length buffer → X) → X
  by_room {X} short long = go (ltb (length buffer) (length_from s).length) refl
    where
      go : (b : Bool) → ltb (length buffer) (length_from s).length ≡ b → X
      go true t = short (ltb-true _ _ t)
      go false t = long (ltb-false _ _ t)

  -- a grade is only answered where there is room
  pub made-graded : {k : ℕ} → (made_from s buffer).answer ≡ Grade k → (length_from s).answer ≡ Grade k
  made-graded e = by_room
      (λ h. let f = ap (λ (m : Made). m.answer) (made_none h).0 in let z : ◌≡◌ {A = ℕ} 0 1 = cc in absurd (omega arith))
      (λ h. ap (λ (m : Made). m.answer) (sym (made-room h).0) ∙ e)

  -- the length is within the buffer, which stays as long as it was
  pub made-within : ((made_from s buffer).length ≤ length buffer) × (length (filled_from s buffer) ≡ length buffer)
  made-within = by_room
      (λ h. let w = made_none h in (omega (arith, ap (λ (m : Made). m.length) w.0), ap length w.1))
      (λ h. let w = made-room h in
      (omega (arith, ap (λ (m : Made). m.length) w.0), ap length w.1 ∙ overwritten-length buffer 0 (record_from s) (omega (arith, same_length s))))
