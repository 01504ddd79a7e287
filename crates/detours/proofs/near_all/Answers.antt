-- `detours::near_all` meets its contract: the rest of the list, taken in from here, gives the whole. Assumes nothing.

use Prim.Native.Nat.{ℕ}
use mathlib.Core.Path.{sym, ◌∙◌}
use Rattle.vertexset.specs.declared.VertexSet.{VertexSet}
use Rattle.graph.specs.Rows.{row_of}
use Rattle.construction.specs.Sets.{plus}
use Rattle.detours.proofs.Lists.{fold_turn, fold_end}
use Rattle.detours.proofs.near_all.Goals as goal

pub loop-v-preserved : goal.loop-v-preserved
loop-v-preserved c = let l = c.loop-v in
    let a = c.args in
    rw (c.union-all.ensures, c.row.ensures) (sym (fold_turn (λ (s : VertexSet) (v : ℕ). plus s (row_of a.rows.now v)) l.all a.list.now l.v-index c.loop-v-test.true) ∙ l.invariant)

pub returns : goal.returns
returns c = let l = c.loop-v in
    let a = c.args in
    sym (fold_end (λ (s : VertexSet) (v : ℕ). plus s (row_of a.rows.now v)) l.all a.list.now l.v-index c.loop-v-test.false) ∙ l.invariant
