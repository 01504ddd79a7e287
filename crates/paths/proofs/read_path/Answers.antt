-- `paths::read_path` meets its contract: a number that can't be read, or is out of its range, ends the reading. Assumes nothing.

use Prim.Native.Nat.{◌≤◌}
use mathlib.Core.Path.{◌∙◌, sym, ap}
use borrow.Author.Tests.{le-leb, lt-leb}
use native.Mathlib.Omega.{arith}
use Rattle.vertexset.specs.Set.{capacity}
use Rattle.paths.specs.Items.{told}
use Rattle.paths.specs.Paths.{path_read}
use Rattle.paths.proofs.Told.{told-exit, item-ok}
use Rattle.paths.proofs.Reading.{ranged_low, path-length, path-first, path-rest}
use Rattle.paths.proofs.read_path.Goals as goal

pub returns-then-n-gt-CAPACITY : goal.returns-then-n-gt-CAPACITY
unfolding told
returns-then-n-gt-CAPACITY c = rw (lt-leb _ _ c.if-n-gt-CAPACITY.true)

pub returns-in_err-x : goal.returns-in_err-x
unfolding told
returns-in_err-x c = let f = told-exit _ c.from_residual.result _ c.in_err-x.ensures c.from_residual.ensures.1 in
    f.3 ∙ rw (le-leb _ _ c.if-n-gt-CAPACITY.false) (ap (path_read _ _) (sym (path-length _ _ _ _ f.2)))

pub returns-in_err-y : goal.returns-in_err-y
unfolding told
returns-in_err-y c = let a = c.args in
    let f = told-exit _ c.from_residual-in_err-y.result _ c.in_err-y.ensures c.from_residual-in_err-y.ensures.1 in
    let e = item-ok _ c.in_ok-x.ensures in
    let two : 2 ≤ c.in_ok-x.x.value = omega (arith, ranged_low a.least a.n _ _ e) in
    f.3 ∙ rw (le-leb _ _ c.if-n-gt-CAPACITY.false) (ap (path_read _ _) (sym (path-first _ _ _ _ e two f.2)))

pub read_rest-requires : goal.read_rest-requires
read_rest-requires c = let a = c.args in
    omega (arith, ranged_low a.least a.n _ _ (item-ok _ c.in_ok-x.ensures))

pub returns : goal.returns
returns c = let a = c.args in
    let e = item-ok _ c.in_ok-x.ensures in
    let two : 2 ≤ c.in_ok-x.x.value = omega (arith, ranged_low a.least a.n _ _ e) in
    let h : a.n ≤ capacity = omega arith in
    c.read_rest.ensures ∙ rw (le-leb _ _ h) (path-rest _ _ _ _ e two _ _ h (item-ok _ c.in_ok-y.ensures))
