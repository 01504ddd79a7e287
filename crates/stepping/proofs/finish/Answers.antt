-- `stepping::finish` meets its contract: the paths so far, with the edges of the vertices that are left, are the whole. Assumes nothing.

use Rattle.stepping.proofs.Edges.{rows_start, rows_turn, rows_end}
use Rattle.stepping.proofs.finish.Goals as goal

pub loop-u-init : goal.loop-u-init
loop-u-init c = let a = c.args in
    rows_start a.rows.now a.n a.flat.now a.from c.requires c.mark.ensures

pub loop-u-preserved : goal.loop-u-preserved
loop-u-preserved c = let l = c.loop-u in
    rows_turn _ _ l.invariant c.loop-u-test.true c.row.ensures c.row-in-loop-u.ensures c.minus-left.ensures c.add_edges-len.ensures

pub returns : goal.returns
returns c = rows_end _ _ c.loop-u.invariant c.loop-u-test.false
