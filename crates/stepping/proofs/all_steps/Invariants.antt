use Prim.Native.Nat.{◌+◌, ◌-◌}
use mathlib.Core.Path.{◌≡◌}
use Rattle.graph.specs.Limits.{max_edges}
use Rattle.construction.specs.Steps.{steps}
use Rattle.stepping.specs.Code.{state_in, Holds, Works}
use Rattle.stepping.proofs.all_steps.Given as goal

abbrev pub invariant-loop : goal.invariant-loop
invariant-loop l = (Holds l.rows l.flat l.s.progress × (steps l.rows l.full (max_edges + 1 - l.counter) (state_in l.flat l.s.progress) ≡ steps l.rows l.full (max_edges + 1) (state_in l.initial.flat l.initial.s.progress)))
    × Works (state_in l.flat l.s.progress) l.s.work
