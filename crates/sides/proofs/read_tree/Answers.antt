-- `sides::read_tree` meets its contract: an item that is refused ends the reading. Assumes nothing.

use Prim.Native.Nat.{ℕ}
use mathlib.Core.Bool.{Bool}
use mathlib.Core.Path.{◌≡◌, ◌∙◌, ap, sym}
use native.Mathlib.Omega.{arith}
use Rattle.record.specs.Read.{Read.Got}
use Rattle.vertexset.specs.Set.{has}
use Rattle.certificates.specs.Tests.{with, nobody}
use Rattle.certificates.specs.Records.{side, body}
use Rattle.paths.specs.Items.{end_read, limited}
use Rattle.graph.specs.Rows.{rows_graph}
use Rattle.paths.proofs.Told.{told-ok, told-exit, item-ok}
use Rattle.paths.proofs.Reading.{vertex-low}
use Rattle.sides.proofs.Sets.{one_has}
use Rattle.sides.proofs.Reading.{over_limit, in_limit, tree_removed, tree_first, tree_pairs, tree_side, runs-told}
use Rattle.sides.proofs.read_tree.Goals as goal

pub returns-then-n-gt-CAPACITY : goal.returns-then-n-gt-CAPACITY
returns-then-n-gt-CAPACITY c = let a = c.args in
    over_limit a.n a.s.now a.at (body (rows_graph a.n a.rows.now) 1) c.if-n-gt-CAPACITY.true

pub returns-in_err-removed : goal.returns-in_err-removed
returns-in_err-removed c = let a = c.args in
    let g = rows_graph a.n a.rows.now in
    let f = told-exit _ c.from_residual.result _ c.in_err-removed.ensures c.from_residual.ensures.1 in
    f.3 ∙ tree_removed g a.s.now a.at f.2 ∙ in_limit a.n a.s.now a.at (body g 1) c.if-n-gt-CAPACITY.false

pub returns-in_err-first : goal.returns-in_err-first
returns-in_err-first c = let a = c.args in
    let g = rows_graph a.n a.rows.now in
    let f = told-exit _ c.from_residual-in_err-first.result _ c.in_err-first.ensures c.from_residual-in_err-first.ensures.1 in
    f.3 ∙ tree_first g a.s.now a.at (item-ok _ c.in_ok-removed.ensures) f.2 ∙ in_limit a.n a.s.now a.at (body g 1) c.if-n-gt-CAPACITY.false

pub overflow_sub-n : goal.overflow_sub-n
overflow_sub-n c = let l = vertex-low _ _ _ (item-ok _ c.in_ok-first.ensures) in
    omega arith

pub read_pairs-requires : goal.read_pairs-requires
read_pairs-requires c = let l = vertex-low _ _ _ (item-ok _ c.in_ok-first.ensures) in
    (omega arith, l)

pub returns-in_err-next : goal.returns-in_err-next
returns-in_err-next c = let a = c.args in
    let g = rows_graph a.n a.rows.now in
    let f = told-exit _ c.from_residual-in_err-next.result _ (c.in_err-next.ensures ∙ runs-told _ _ _ _ _ _ _ _ _) c.from_residual-in_err-next.ensures.1 in
    f.3 ∙ tree_pairs g a.s.now a.at (item-ok _ c.in_ok-removed.ensures) (item-ok _ c.in_ok-first.ensures) f.2
    ∙ in_limit a.n a.s.now a.at (body g 1) c.if-n-gt-CAPACITY.false

pub returns : goal.returns
returns c = let a = c.args in
    let g = rows_graph a.n a.rows.now in
    let removed = c.in_ok-removed.removed.value in
    let next = c.in_ok-next.next in
    let v = item-ok _ c.in_ok-removed.ensures in
    let l = vertex-low _ _ _ v in
    let e : has c.insert.result.words ≡ with nobody removed = one_has c.empty.ensures c.insert.ensures (omega arith) in
    let t = told-ok _ _ (c.in_ok-next.ensures ∙ runs-told _ _ _ _ _ _ _ _ _) in
    c.read_side.ensures
    ∙ ap (λ (p : ℕ → Bool). end_read (limited a.n (side g p) a.s.now next)) e
    ∙ sym (in_limit a.n a.s.now next (side g (with nobody removed)) c.if-n-gt-CAPACITY.false)
    ∙ tree_side g a.s.now a.at v (item-ok _ c.in_ok-first.ensures) (t.2 ∙ ap (Got t.0) (sym t.3))
    ∙ in_limit a.n a.s.now a.at (body g 1) c.if-n-gt-CAPACITY.false
