-- `graph::row` meets its contract: the words are copied one after the other. Assumes nothing.

use Prim.Native.Nat.{◌<◌}
use mathlib.Core.Path.{ap, ◌∙◌}
use lib.ListN.{length, length-set}
use native.Mathlib.Omega.{arith}
use borrow.Author.Tests.{lt-ltb, le-ltb}
use Rattle.vertexset.specs.declared.VertexSet.{VertexSet}
use Rattle.graph.proofs.Rows.{copy_more, copied}
use Rattle.graph.proofs.row.Goals as goal

pub returns-then-u-ge-CAPACITY : goal.returns-then-u-ge-CAPACITY
returns-then-u-ge-CAPACITY c = c.empty-set.ensures ∙ rw (le-ltb _ _ c.if-u-ge-CAPACITY.true)

pub loop-i-init : goal.loop-i-init
loop-i-init c = (ap (λ (s : VertexSet). length s.words) c.empty-set.ensures, λ k h. absurd (omega arith))

pub loop-i-preserved : goal.loop-i-preserved
loop-i-preserved c = let l = c.loop-i in
    let i : l.i < length l.set.words = omega (arith, l.invariant.0) in
    (simp length-set l.invariant.0, copy_more l.set.words _ _ i l.invariant.1)

pub returns : goal.returns
returns c = let l = c.loop-i in
    rw (lt-ltb _ _ c.if-u-ge-CAPACITY.false) (ap (λ ws. record { words = ws }) (copied _ _ _ l.invariant.0 (λ k h. l.invariant.1 k (omega arith))))
