-- `build::read_further` meets its contract: what is left to read gives the same from here as from the start. Assumes nothing.

use mathlib.Core.Path.{sym, ◌∙◌}
use native.Mathlib.Omega.{arith}
use Rattle.build.proofs.Taking.{exit}
use Rattle.build.proofs.Turns.{further_stop, further_go, further_done, further_open}
use Rattle.build.proofs.read_further.Goals as goal

pub returns-in_err-x : goal.returns-in_err-x
returns-in_err-x c = let e = c.in_err-x.ensures in
    exit c.from_residual.result c.from_residual.ensures.1 ∙ further_stop _ _ _ _ _ _ _ c.requires c.loop-test.true e.pointers_after e.linked_after e.value ∙ c.loop.invariant

pub loop-preserved : goal.loop-preserved
loop-preserved c = let e = c.in_ok-x.ensures in
    further_go _ _ _ _ _ _ _ c.requires c.loop-test.true e.pointers_after e.linked_after e.value ∙ c.loop.invariant

pub returns-then-not-all_below : goal.returns-then-not-all_below
returns-then-not-all_below c = further_open _ _ _ _ _ _ (omega arith) (sym c.if-not-all_below.ensures) ∙ c.loop.invariant

pub returns : goal.returns
returns c = further_done _ _ _ _ _ _ (omega arith) (sym c.if-not-all_below.ensures) ∙ c.loop.invariant
