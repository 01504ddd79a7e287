-- `fikzarn::fikzarn_session` meets its contract. Assumes nothing.

use mathlib.Core.Path.{◌≡◌, ap, ◌∙◌}
use native.Mathlib.Omega.{arith}
use Rattle.script.specs.declared.Replayed.{Replayed}
use Rattle.script.specs.Replay.{replay_of, status_number}
use Rattle.script.proofs.Calls.{status_back}
use Rattle.fikzarn.proofs.fikzarn_session.Goals as goal

pub returns : goal.returns
returns c = let e = c.replay-replayed.ensures in
    let a = c.args in
    let status : c.number.result ≡ (replay_of a.script.now a.out.now).status = c.number.ensures ∙ ap (λ (r : Replayed). status_number r.status) e.value ∙ status_back a.script.now a.out.now in
    let count = ap (λ (r : Replayed). r.count) e.value in
    record { value = omega (arith, status, count); out_after = e.out_after }
