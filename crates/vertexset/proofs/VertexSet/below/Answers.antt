-- `VertexSet::below` meets its contract: the words in front of i are those of the set. Assumes nothing.

use mathlib.Core.Path.{refl, sym, ap, ◌∙◌}
use Prim.Native.Nat.{◌<◌, ◌≤◌}
use native.Mathlib.Omega.{arith}
use native.Mathlib.Numerals.{add-one}
use lib.ListN.{length, length-set}
use lib.Seq.{take-suc, take-suc-set, take_all}
use Rattle.vertexset.specs.Set.{below_set}
use Rattle.vertexset.proofs.Below.{below_length}
use Rattle.vertexset.proofs.VertexSet.below.Goals as goal

pub loop-i-init : goal.loop-i-init
loop-i-init c = (refl, refl)

pub loop-i-preserved : goal.loop-i-preserved
loop-i-preserved c = let l = c.loop-i in
    let n = c.args.n in
    let long = below_length n in
    let h : l.i < length l.word-items = omega arith in
    let k : l.i < length (below_set n).words = omega arith in
    (simp length-set l.invariant.0, rw (add-one, take-suc-set, take-suc (below_set n).words l.i 0, l.invariant.1, c.word_below.ensures))

pub returns : goal.returns
returns c = let l = c.loop-i in
    let n = c.args.n in
    let long = below_length n in
    let h : length l.word-items ≤ l.i = omega arith in
    let k : length (below_set n).words ≤ l.i = omega arith in
    ap (λ ws. record { words = ws }) (sym (take_all l.i l.word-items h) ∙ l.invariant.1 ∙ take_all l.i (below_set n).words k)
