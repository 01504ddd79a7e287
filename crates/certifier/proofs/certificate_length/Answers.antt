-- `certifier::certificate_length` meets its contract: no certificate is longer than the buffer that it makes. Assumes nothing.

use Prim.Native.Nat.{ℕ, ◌≤◌}
use mathlib.Core.Path.{◌∙◌}
use native.Mathlib.Omega.{arith}
use lib.ListN.{length, replicate, length-replicate}
use Rattle.record.specs.Read.{Bytes}
use Rattle.certifier.specs.Made.{certificate_room, length_from}
use Rattle.certifier.proofs.Room.{made-room}
use Rattle.certifier.proofs.Drafts.{length_most}
use Rattle.certifier.proofs.certificate_length.Goals as goal

pub returns : goal.returns
returns c = let a = c.args in
    let bytes : Bytes a.plan.now = λ i. omega (arith, c.shared_slice_known-1.given i) in
    let l : (length_from a.plan.now).length ≤ length {A = ℕ} (replicate certificate_room 0) = omega (arith, length_most a.plan.now bytes, length-replicate {A = ℕ} certificate_room 0) in
    c.certify.ensures.value ∙ (made-room a.plan.now (replicate certificate_room 0) l).0
