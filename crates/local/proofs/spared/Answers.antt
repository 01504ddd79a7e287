-- `local::spared` meets its contract. Assumes nothing.

use Rattle.local.proofs.Near.{near-many, near-few}
use Rattle.local.proofs.spared.Goals as goal

pub returns-then-size-ge3 : goal.returns-then-size-ge3
returns-then-size-ge3 c = let a = c.args in
    near-many a.rows.now a.u a.v c.row-row.ensures c.row.ensures c.minus-others.ensures c.minus.ensures c.size.ensures c.if-size-ge3.true

pub returns : goal.returns
returns c = let a = c.args in
    near-few a.rows.now a.u a.v c.row-row.ensures c.row.ensures c.minus-others.ensures c.minus.ensures c.size.ensures c.if-size-ge3.false c.empty.ensures c.withstands.ensures
