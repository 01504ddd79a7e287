-- How long all that is printed is. Assumes nothing.
use Prim.Native.Nat.{ℕ, ◌≤◌}
use mathlib.Core.List.{List, ◌++◌}
use mathlib.Core.Path.{◌≡◌, refl, ap}
use native.Mathlib.Omega.{arith}
use lib.ListN.{length, length-append}
use Rattle.record.specs.Read.{Bytes, Read, Read.Got, Read.Refused, ended}
use Rattle.record.specs.declared.Answer.TheVariants.{Accepted, Grade}
use Rattle.reading.specs.Plan.{Plan, plan}
use Rattle.reading.specs.Code.{plan_read}
use Rattle.reading.proofs.Plans.{accepted}
use Rattle.reading.proofs.Lengths.{plan-short}
use Rattle.certifier.specs.Made.{certificate_room, length_by, made_from}
use Rattle.certifier.proofs.Room.{made-graded}
use Rattle.certifybytes.specs.Bytes.{room, zeros}

-- only an accepted plan gets a grade
grade-accepted : (x : Read Plan) (k : ℕ) → (length_by (plan_read x).answer (plan_read x).plan.graph).answer ≡ Grade k → (plan_read x).answer ≡ Accepted
unfolding length_by plan_read
grade-accepted (Got p next) k e = refl
grade-accepted (Refused r q) k e = let z : ◌≡◌ {A = ℕ} 0 1 = cc in absurd (omega arith)

pub made-short : (s certificate : List ℕ) (k : ℕ) → Bytes s → (made_from s zeros).answer ≡ Grade k → length certificate ≤ certificate_room → length (s ++ certificate) ≤ room
made-short s certificate k b e h =
    let a = accepted s b (grade-accepted (ended plan s 0) k (made-graded s zeros e)) in
    omega (arith, h, plan-short a.0 a.1, ap length a.2, length-append s certificate)
