-- `ears::read_all_ears` meets its contract: what is left to read gives the same from here as from the start. Assumes nothing.

use Prim.Native.Nat.{◌+◌, ◌-◌}
use mathlib.Core.Path.{◌≡◌, refl, ◌∙◌}
use native.Mathlib.Omega.{arith}
use Rattle.record.proofs.Loops.{turn_start, turn_go, turn_stop, turn_done}
use Rattle.paths.proofs.Told.{told-exit}
use Rattle.ears.proofs.Ear.{ear-told}
use Rattle.ears.proofs.In.{ears-begin}
use Rattle.ears.proofs.read_all_ears.Goals as goal

pub loop-init : goal.loop-init
loop-init c = let z : c.args.count - 0 ≡ c.args.count = omega arith in
    rw z (turn_start _ _ _ _ c.none-ears.ensures c.none-ears.ensures ∙ ears-begin _ c.requires _ _ _)

pub returns-in_err-x : goal.returns-in_err-x
returns-in_err-x c = let f = told-exit _ c.from_residual.result _ c.in_err-x.ensures c.from_residual.ensures.1 in
    f.3 ∙ turn_stop _ _ _ (omega arith) _ _ _ f.2 ∙ c.loop.invariant

pub loop-preserved : goal.loop-preserved
loop-preserved c = let k = c.args.count - c.loop.counter in
    let z : c.args.count - (c.loop.counter + 1) ≡ k - 1 = omega arith in
    let t = ear-told c.loop.ears _ c.in_ok-x.ensures in
    rw z (turn_go _ _ k (omega arith) _ _ t.1 t.2 t.2 ∙ c.loop.invariant)

pub returns-then-not-all_below : goal.returns-then-not-all_below
returns-then-not-all_below c = rw (← c.if-not-all_below.ensures) refl ∙ turn_done _ _ _ (omega arith) _ _ _ ∙ c.loop.invariant

pub returns : goal.returns
returns c = rw (← c.if-not-all_below.ensures) refl ∙ turn_done _ _ _ (omega arith) _ _ _ ∙ c.loop.invariant
