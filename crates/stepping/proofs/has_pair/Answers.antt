-- `stepping::has_pair` meets its contract: what was met so far, or what is left, tells of the whole list. Assumes nothing.

use Prim.Native.Nat.{◌+◌, ◌-◌}
use mathlib.Core.Path.{◌≡◌, sym, ap, ◌∙◌}
use mathlib.Core.Bool.{Bool, ◌||◌, or-false, or_assoc}
use native.Mathlib.Omega.{arith}
use lib.ListN.{drop, get_or}
use Rattle.stepping.specs.Code.{has_pair}
use Rattle.stepping.proofs.Lists.{two_are}
use Rattle.stepping.proofs.Pairs.{has-turn, has_end}
use Rattle.stepping.proofs.has_pair.Goals as goal

pub loop-i-preserved : goal.loop-i-preserved
loop-i-preserved c = let l = c.loop-i in
    let a = c.args in
    let list = a.list.now in
    let z : l.i + 1 - 1 ≡ l.i = omega arith in
    let both = two_are a.x a.y (get_or list (l.i - 1) 0) (get_or list l.i 0) in
    rw z (or_assoc l.hit both (has_pair a.x a.y (drop l.i list)) ∙ ap (λ (b : Bool). l.hit || b) (sym (has-turn a.x a.y list (l.i - 1) l.i (omega arith) c.loop-i-test.true)) ∙ l.invariant)

pub returns : goal.returns
returns c = let l = c.loop-i in
    let a = c.args in
    sym (ap (λ (b : Bool). l.hit || b) (has_end a.x a.y a.list.now (l.i - 1) l.i (omega arith) c.loop-i-test.false) ∙ or-false l.hit) ∙ l.invariant
