-- `sides::read_pairs` meets its contract: the set holds the vertices that were named. Assumes nothing.

use Prim.Native.Nat.{◌+◌, ◌-◌, ◌<◌, ◌*◌}
use mathlib.Core.Path.{◌≡◌, ◌∙◌, refl}
use lib.ListN.{length}
use native.Mathlib.Omega.{arith}
use borrow.Author.Rules.{rules}
use Rattle.record.proofs.Loops.{turn_start, turn_go, turn_stop, turn_done}
use Rattle.vertexset.specs.Set.{word_count}
use Rattle.paths.proofs.Told.{told-exit}
use Rattle.sides.proofs.Sets.{one_has, more_has, more_length}
use Rattle.sides.proofs.Reading.{pair-ok, pair-low}
use Rattle.sides.proofs.read_pairs.Goals as goal

pub loop-init : goal.loop-init
loop-init c = let h : c.args.first < 64 * word_count = omega arith in
    let z : c.args.count - 0 ≡ c.args.count = omega arith in
    (search rules, rw z (turn_start _ _ _ _ (one_has c.empty.ensures c.insert-named.ensures h) refl))

pub returns-in_err-x : goal.returns-in_err-x
returns-in_err-x c = let f = told-exit _ c.from_residual.result _ c.in_err-x.ensures c.from_residual.ensures.1 in
    f.3 ∙ turn_stop _ _ _ (omega arith) _ _ _ f.2 ∙ c.loop.invariant.1

pub loop-preserved : goal.loop-preserved
loop-preserved c = let named = c.loop.named in
    let l : length named.words ≡ word_count = c.loop.invariant.0 in
    let k = c.args.count - c.loop.counter in
    let m : c.args.count - (c.loop.counter + 1) ≡ k - 1 = omega arith in
    let q = pair-ok _ c.in_ok-x.ensures in
    let z = pair-low _ _ _ _ _ q.1 in
    let w : c.in_ok-x.x.value < 64 * word_count = omega arith in
    (more_length named l _ c.insert-named-in-loop.ensures, rw m (turn_go _ _ k (omega arith) _ _ q.1 (more_has named l c.insert-named-in-loop.ensures w) refl ∙ c.loop.invariant.1))

pub returns : goal.returns
returns c = turn_done _ _ _ (omega arith) _ _ _ ∙ c.loop.invariant.1
