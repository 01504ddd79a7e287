-- `paths::read_rest` meets its contract: what is left to read gives the same from here as from the start. Assumes nothing.

use Prim.Native.Nat.{ℕ, ◌+◌, ◌-◌, ◌<◌}
use mathlib.Core.Path.{◌≡◌, refl, sym, ◌∙◌}
use native.Mathlib.Decide.{ℕ_discrete}
use lib.Dec.{eqb}
use borrow.Author.Tests.{eq-eqb, ne_eqb}
use native.Mathlib.Omega.{arith}
use borrow.Author.Rules.{rules}
use lib.ListN.{length-set}
use Rattle.record.proofs.Loops.{turn_start, turn_go, turn_stop, turn_done}
use Rattle.vertexset.proofs.Bit.{bit_of_lem}
use Rattle.paths.proofs.Told.{told-exit, item-ok}
use Rattle.paths.proofs.Reading.{vertex-low}
use Rattle.paths.proofs.Sets.{bit_clear}
use Rattle.paths.proofs.read_rest.Goals as goal

-- the last vertex is the one that leaves none
last-left : (i len : ℕ) → i < len → eqb (i + 1) len ≡ eqb (len - i) 1
last-left i len h = elim (ℕ_discrete (i + 1) len) [
  | yes e ↦ let z : len - i ≡ 1 = omega arith in eq-eqb (i + 1) len e ∙ sym (eq-eqb (len - i) 1 z)
  | no k ↦ rw (ne_eqb (i + 1) len k, ne_eqb (len - i) 1 (λ z. k (omega arith)))
]

pub loop-i-init : goal.loop-i-init
loop-i-init c = (search rules, turn_start _ _ _ _ refl (rw (c.insert-begun.ensures, c.empty.ensures)))

pub returns-in_err-x : goal.returns-in_err-x
returns-in_err-x c = let f = told-exit _ c.from_residual.result _ c.in_err-x.ensures c.from_residual.ensures.1 in
    f.3 ∙ turn_stop _ _ _ (omega arith) _ _ _ f.2 ∙ c.loop-i.invariant.1

pub bounds-words-word : goal.bounds-words-word
bounds-words-word c = let a = c.args in
    omega (arith, vertex-low a.n _ _ (item-ok _ c.in_ok-x.ensures))

pub bounds-words-word-in-loop-i : goal.bounds-words-word-in-loop-i
bounds-words-word-in-loop-i c = let a = c.args in
    omega (arith, vertex-low a.n _ _ (item-ok _ c.in_ok-x.ensures))

pub loop-i-preserved : goal.loop-i-preserved
loop-i-preserved c = let l = c.loop-i in
    let v = c.in_ok-x.x.value in
    let z : c.args.len - (l.i + 1) ≡ c.args.len - l.i - 1 = omega arith in (
      simp length-set l.invariant.0,
      rw (z, bit_of_lem v, bit_clear, c.contains.ensures, c.adjacent-along.ensures, last-left l.i c.args.len c.loop-i-test.true)
          (turn_go _ _ (c.args.len - l.i) (omega arith) _ _ (item-ok _ c.in_ok-x.ensures) refl refl ∙ l.invariant.1),
    )

pub returns : goal.returns
returns c = turn_done _ _ _ (omega arith) _ _ _ ∙ c.loop-i.invariant.1
