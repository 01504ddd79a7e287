-- `stepping::all_steps` meets its contract: the steps that are left give the state that all steps give. Assumes nothing.

use native.Mathlib.Omega.{arith}
use Rattle.stepping.proofs.Stepping.{steps-stopped, steps-none, steps-turn}
use Rattle.stepping.proofs.all_steps.Goals as goal

pub returns-then-not-s : goal.returns-then-not-s
returns-then-not-s c = let l = c.loop in
    let a = c.args in
    steps-stopped a.rows.now a.full l.flat l.s.progress l.invariant.0.0 _ l.invariant.0.1 c.if-not-s.true

pub loop-preserved : goal.loop-preserved
loop-preserved c = let l = c.loop in
    let a = c.args in
    let n = c.step-s.ensures in
    (steps-turn a.rows.now a.full l.flat l.s.progress l.invariant.0.0 _ l.invariant.0.1 (omega arith) c.if-not-s.false n.shows, n.works)

pub returns : goal.returns
returns c = let l = c.loop in
    let a = c.args in
    steps-none a.rows.now a.full l.flat l.s.progress l.invariant.0.0 _ l.invariant.0.1 (omega arith)
