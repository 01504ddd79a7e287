-- The word and the buffer for a plan, by what reading it gave. Assumes nothing.
use Prim.Native.Nat.{ℕ}
use mathlib.Core.List.{List}
use mathlib.Core.Path.{◌≡◌, refl, sym, ap, ◌∙◌}
use Rattle.std.specs.Prelude.{Ok, Err}
use Rattle.record.specs.declared.Answer.{Answer}
use Rattle.record.specs.declared.Answer.TheVariants.{Accepted, Grade, PlanFault, CertificateFault}
use Rattle.record.proofs.Faults.{NotAccepted}
use Rattle.reading.specs.Code.{whole_plan, plan_result}
use Rattle.reading.specs.declared.PlanRead.{PlanRead}
use Rattle.reading.proofs.Results.{ok_told, err_told}
use Rattle.writing.specs.Write.{with_plan}
use Rattle.script.specs.Replay.{answer_word}
use Rattle.fikzarn.specs.Words.{rewritten, plan_rewritten}

-- only a plan that is accepted is written again
kept : (a : Answer) → NotAccepted a → (buffer written : List ℕ) → buffer ≡ rewritten a buffer written
kept Accepted n buffer written = absurd (n refl)
kept (Grade k) n buffer written = refl
kept (PlanFault r p) n buffer written = refl
kept (CertificateFault r p) n buffer written = refl

module _ (s out : List ℕ) {w : ℕ} where
  pub plan_there : {r : PlanRead} → Ok r ≡ plan_result (whole_plan s) → w ≡ answer_word Accepted → {after : List ℕ} → after ≡ with_plan out r.plan
      → (w ≡ answer_word (whole_plan s).answer) × (after ≡ plan_rewritten s out)
  plan_there e f g =
      let t = ok_told (whole_plan s).answer e in
      (f ∙ ap answer_word (sym t.0), g ∙ ap (λ (q : PlanRead). with_plan out q.plan) t.1 ∙ sym (ap (λ (a : Answer). rewritten a out (with_plan out (whole_plan s).plan)) t.0))

  pub plan-refused : {a : Answer} → Err a ≡ plan_result (whole_plan s) → w ≡ answer_word a → (w ≡ answer_word (whole_plan s).answer) × (out ≡ plan_rewritten s out)
  plan-refused e f =
      let t = err_told (whole_plan s).answer _ e in
      (f ∙ ap answer_word (sym t.0), kept (whole_plan s).answer t.1 out (with_plan out (whole_plan s).plan))
