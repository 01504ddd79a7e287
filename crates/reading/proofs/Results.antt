-- What a result tells of the answer and the value that it was made of. Assumes nothing.
use mathlib.Core.Path.{◌≡◌, refl}
use Rattle.std.specs.Prelude.{Ok, Err}
use Rattle.record.specs.declared.Answer.{Answer}
use Rattle.record.specs.declared.Answer.TheVariants.{Accepted, Grade, PlanFault, CertificateFault}
use Rattle.record.proofs.Faults.{NotAccepted}
use Rattle.reading.specs.Code.{value_or}

pub ok_told : {A : Type 0} (a : Answer) {v w : A} → Ok w ≡ value_or a v → (a ≡ Accepted) × (w ≡ v)
ok_told Accepted e = (refl, cc)
ok_told (Grade k) e = cc
ok_told (PlanFault r p) e = cc
ok_told (CertificateFault r p) e = cc

pub err_told : {A : Type 0} (a : Answer) (v : A) {b : Answer} → Err b ≡ value_or a v → (a ≡ b) × NotAccepted a
err_told Accepted v e = cc
err_told (Grade k) v e = (cc, λ f. cc)
err_told (PlanFault r p) v e = (cc, λ f. cc)
err_told (CertificateFault r p) v e = (cc, λ f. cc)
