-- `ears::read_ears` meets its contract: each item that can't be read, or fails its test, ends the reading. Assumes nothing.

use Prim.Native.Nat.{◌*◌, ◌<◌}
use mathlib.Core.Path.{◌∙◌, sym, ap}
use borrow.Author.Tests.{lt-leb}
use native.Mathlib.Omega.{arith}
use Rattle.record.specs.Read.{Read.Got}
use Rattle.record.proofs.Loops.{needs_bad}
use Rattle.vertexset.specs.Set.{word_count}
use Rattle.paths.specs.Items.{told}
use Rattle.paths.proofs.Told.{told-ok, told-exit, item-ok}
use Rattle.paths.proofs.Reading.{vertex-low}
use Rattle.ears.proofs.Body.{lost_pair, higher_got, higher_not, ears-first, ears-second, ears-count, ears-all, ears-side}
use Rattle.ears.proofs.read_ears.Goals as goal

pub returns-then-n-gt-CAPACITY : goal.returns-then-n-gt-CAPACITY
unfolding told
returns-then-n-gt-CAPACITY c = rw (lt-leb _ _ c.if-n-gt-CAPACITY.true)

pub returns-in_err-first : goal.returns-in_err-first
returns-in_err-first c = let f = told-exit _ c.from_residual.result _ c.in_err-first.ensures c.from_residual.ensures.1 in
    f.3 ∙ ears-first _ _ _ c.if-n-gt-CAPACITY.false f.2

pub returns-in_err-second : goal.returns-in_err-second
returns-in_err-second c = let f = told-exit _ c.from_residual-in_err-second.result _ c.in_err-second.ensures c.from_residual-in_err-second.ensures.1 in
    f.3 ∙ ears-second _ _ _ c.if-n-gt-CAPACITY.false (item-ok _ c.in_ok-first.ensures) (needs_bad _ _ _ f.2)

pub returns-then-second-first : goal.returns-then-second-first
returns-then-second-first c =
    ears-second _ _ _ c.if-n-gt-CAPACITY.false (item-ok _ c.in_ok-first.ensures) (higher_not _ _ _ _ (item-ok _ c.in_ok-second.ensures) c.if-second-first.true)

pub overflow_sub-n : goal.overflow_sub-n
overflow_sub-n c = omega (arith, vertex-low _ _ _ (item-ok _ c.in_ok-second.ensures))

pub returns-in_err-count : goal.returns-in_err-count
returns-in_err-count c = let f = told-exit _ c.from_residual-in_err-count.result _ c.in_err-count.ensures c.from_residual-in_err-count.ensures.1 in
    f.3 ∙ ears-count _ _ _ c.if-n-gt-CAPACITY.false (item-ok _ c.in_ok-first.ensures) (higher_got _ _ _ _ (item-ok _ c.in_ok-second.ensures) c.if-second-first.false) f.2

pub returns-in_err-next : goal.returns-in_err-next
returns-in_err-next c = let f = told-exit _ c.from_residual-in_err-next.result _ c.in_err-next.ensures c.from_residual-in_err-next.ensures.1 in
    f.3 ∙ ears-all _ _ _ c.if-n-gt-CAPACITY.false (item-ok _ c.in_ok-first.ensures) (higher_got _ _ _ _ (item-ok _ c.in_ok-second.ensures) c.if-second-first.false)
    (item-ok _ c.in_ok-count.ensures) f.2

pub returns : goal.returns
returns c = let n = c.if-n-gt-CAPACITY.false in
    let e = item-ok _ c.in_ok-first.ensures in
    let f = item-ok _ c.in_ok-second.ensures in
    let p : c.in_ok-first.first.value < 64 * word_count = omega (arith, vertex-low _ _ _ e) in
    let q : c.in_ok-second.second.value < 64 * word_count = omega (arith, vertex-low _ _ _ f) in
    let k = told-ok _ _ c.in_ok-next.ensures in
    c.read_side.ensures
    ∙ ears-side _ _ _ n e (higher_got _ _ _ _ f c.if-second-first.false) (item-ok _ c.in_ok-count.ensures)
    (lost_pair c.empty.ensures c.insert.ensures c.insert-removed.ensures p q) (k.2 ∙ ap (Got k.0) (sym k.3))
