-- `paths::with_path` meets its contract: what is left to take in gives the same from here as from the start. Assumes nothing.

use Prim.Native.Nat.{◌+◌, ◌-◌}
use mathlib.Core.Path.{◌≡◌, refl, sym, ◌∙◌}
use native.Mathlib.Omega.{arith}
use borrow.Author.Rules.{rules}
use lib.ListN.{length-set}
use Rattle.record.proofs.Loops.{turn_go, turn_stop, turn_done}
use Rattle.vertexset.proofs.Bit.{bit_of_lem}
use Rattle.paths.proofs.Told.{told-err, item-ok}
use Rattle.paths.proofs.Reading.{set_none, set_rest}
use Rattle.paths.proofs.Sets.{past_same}
use Rattle.paths.proofs.with_path.Goals as goal
use Rattle.paths.proofs.with_path.Goals.{then-v-lt-CAPACITY, else-v-lt-CAPACITY}

pub returns-in_default : goal.returns-in_default
returns-in_default c = let h = c.in_default in set_none _ _ _ _ (told-err _ _ h.ensures).2

pub loop-init : goal.loop-init
loop-init c = let z : c.in-Ok.x.value - 0 ≡ c.in-Ok.x.value = omega arith in
    (search rules, rw z (set_rest _ _ _ _ (item-ok _ c.in-Ok.ensures)))

pub returns-in_default-read_vertex : goal.returns-in_default-read_vertex
returns-in_default-read_vertex c = let l = c.loop in
    turn_stop _ _ _ (omega arith) _ _ _ (told-err _ _ c.in_default-read_vertex.ensures).2 ∙ l.invariant.1

pub loop-preserved : goal.loop-preserved
loop-preserved c = let l = c.loop in
    let v = c.in-Ok-read_vertex.y.value in
    let k = c.in-Ok.x.value - l.counter in
    let z : c.in-Ok.x.value - (l.counter + 1) ≡ k - 1 = omega arith in
    let e = item-ok _ c.in-Ok-read_vertex.ensures in
    elim c.if-v-lt-CAPACITY.branch [
      | then-v-lt-CAPACITY w ↦ rw w.words-is (simp length-set l.invariant.0, rw (z, bit_of_lem v) (turn_go _ _ k (omega arith) _ _ e refl refl ∙ l.invariant.1))
      | else-v-lt-CAPACITY w ↦ rw w.words-is (l.invariant.0, rw z (turn_go _ _ k (omega arith) _ _ e refl (sym (past_same l.words v (omega (arith, l.invariant.0)))) ∙ l.invariant.1))
    ]

pub returns : goal.returns
returns c = turn_done _ _ _ (omega arith) _ _ _ ∙ c.loop.invariant.1
