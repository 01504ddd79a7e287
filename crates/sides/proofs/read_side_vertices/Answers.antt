-- `sides::read_side_vertices` meets its contract: what is left to read gives the same from here as from the start. Assumes nothing.

use Prim.Native.Nat.{◌+◌, ◌-◌}
use mathlib.Core.Path.{◌≡◌, ◌∙◌}
use native.Mathlib.Omega.{arith}
use native.Mathlib.Numerals.{add-one}
use borrow.Author.Rules.{rules}
use Rattle.record.proofs.Loops.{turn_go, turn_stop, turn_done}
use Rattle.paths.proofs.Told.{told-exit, item-ok}
use Rattle.sides.proofs.Reading.{side_vertex-low}
use Rattle.sides.proofs.read_side_vertices.Goals as goal

pub returns-in_err-x : goal.returns-in_err-x
returns-in_err-x c = let f = told-exit _ c.from_residual.result _ c.in_err-x.ensures c.from_residual.ensures.1 in
    f.3 ∙ turn_stop _ _ _ (omega arith) _ _ _ f.2 ∙ c.loop.invariant

pub overflow_add-least : goal.overflow_add-least
overflow_add-least c = let z = side_vertex-low _ _ _ _ _ _ _ (item-ok _ c.in_ok-x.ensures) in
    search rules

pub loop-preserved : goal.loop-preserved
loop-preserved c = let k = c.args.count - c.loop.counter in
    let z : c.args.count - (c.loop.counter + 1) ≡ k - 1 = omega arith in
    rw z (turn_go _ _ k (omega arith) _ _ (item-ok _ c.in_ok-x.ensures) (add-one _) c.insert-set.ensures ∙ c.loop.invariant)

pub returns : goal.returns
returns c = turn_done _ _ _ (omega arith) _ _ _ ∙ c.loop.invariant
