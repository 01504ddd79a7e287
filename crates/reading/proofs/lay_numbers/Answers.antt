-- `reading::lay_numbers` meets its contract: what is left to read leads to the same array from here as from the start. Assumes nothing.

use Prim.Native.Nat.{ℕ, ◌-◌}
use mathlib.Core.List.{List}
use mathlib.Core.Path.{◌≡◌, ap, ◌∙◌}
use native.Mathlib.Omega.{arith}
use Rattle.reading.specs.Code.{numbers_in}
use Rattle.reading.proofs.Ends.{lay_go, lay_stop, lay_done}
use Rattle.reading.proofs.lay_numbers.Goals as goal

pub loop-i-init : goal.loop-i-init
loop-i-init c = let a = c.args in let z : a.count - 0 ≡ a.count = omega arith in rw z

pub returns-in_default : goal.returns-in_default
unfolding numbers_in
returns-in_default c = let l = c.loop-i in
    let a = c.args in
    ap (λ (st : ℕ × List ℕ). st.1) (lay_stop a.s.now l.at (a.count - l.i) l.i l.ends c.read_number.ensures c.in_default.not-Value ∙ l.invariant)

pub loop-i-preserved : goal.loop-i-preserved
loop-i-preserved c = let l = c.loop-i in
    let a = c.args in
    lay_go a.s.now l.at a.count l.i c.loop-i-test.true l.ends c.in-Value.ensures ∙ l.invariant

pub returns : goal.returns
unfolding numbers_in
returns c = let l = c.loop-i in
    let a = c.args in
    ap (λ (st : ℕ × List ℕ). st.1) (lay_done a.s.now l.at a.count l.i l.ends c.loop-i-test.false ∙ l.invariant)
