-- `VertexSet::change` meets its contract: the word of v is changed when it is passed, and no other. Assumes nothing.

use mathlib.Core.Path.{◌≡◌, ap, ◌∙◌}
use Prim.Native.Nat.{◌≤◌, ◌+◌, ◌/◌, ◌%◌, ◌^◌}
use native.Mathlib.Omega.{arith}
use lib.ListN.{length, get_or}
use borrow.Author.Rules.{rules}
use borrow.Author.Tests.{lt-ltb, le-ltb}
use Rattle.vertexset.specs.declared.VertexSet.{VertexSet}
use Rattle.vertexset.proofs.Bit.{bit_of_lem}
use Rattle.vertexset.proofs.Passed.{other, all-passed}
use Rattle.vertexset.proofs.VertexSet.change.Goals as goal
use Rattle.vertexset.proofs.VertexSet.change.Goals.{then-i-k, else-i-k}

pub loop-i-init : goal.loop-i-init
loop-i-init g c = λ f a. rw (le-ltb (c.args.v / 64) 0 (omega arith))

pub loop-i-preserved : goal.loop-i-preserved
loop-i-preserved g c = λ f a.
    let l = c.loop-i in
    let v = c.args.v in
    elim c.if-i-k.branch [
      | then-i-k w ↦
          let e : l.i ≡ v / 64 = w.if-i-k.true in
          let z : l.self.words ≡ c.args.self.words = l.invariant f a ∙ rw (le-ltb (v / 64) l.i (omega arith)) in
          let r : w.f.result ≡ f (get_or l.self.words l.i 0) (2 ^ (v % 64)) = a _ _ _ w.f.ensures ∙ rw (bit_of_lem v) in
          ap (λ (s : VertexSet). s.words) w.self-is ∙ rw (r, lt-ltb (v / 64) (l.i + 1) (omega arith), z, e)
      | else-i-k w ↦ ap (λ (s : VertexSet). s.words) w.self-is ∙ l.invariant f a ∙ rw (other (v / 64) l.i w.if-i-k.false)
    ]

pub returns : goal.returns
returns g c = λ f a.
    let l = c.loop-i in
    let n : length c.args.self.words ≤ l.i = search rules in
    ap (λ ws. record { words = ws }) (l.invariant f a ∙ all-passed f c.args.self.words c.args.v l.i n)
