-- `sides::read_side` meets its contract: a side is read whole, then tested. Assumes nothing.

use mathlib.Core.Path.{◌∙◌}
use Rattle.vertexset.specs.Set.{has}
use Rattle.certificates.specs.Records.{side}
use Rattle.graph.specs.Rows.{rows_graph}
use Rattle.paths.proofs.Told.{told-exit, item-ok}
use Rattle.sides.proofs.Reading.{over_limit, in_limit, count-refused, side-refused, side-read, runs-told}
use Rattle.sides.proofs.read_side.Goals as goal

pub returns-then-n-gt-CAPACITY : goal.returns-then-n-gt-CAPACITY
returns-then-n-gt-CAPACITY c = let a = c.args in
    over_limit a.n a.s.now a.at (side (rows_graph a.n a.rows.now) (has a.removed.words)) c.if-n-gt-CAPACITY.true

pub returns-in_err-count : goal.returns-in_err-count
returns-in_err-count c = let a = c.args in
    let g = rows_graph a.n a.rows.now in
    let f = told-exit _ c.from_residual.result _ c.in_err-count.ensures c.from_residual.ensures.1 in
    f.3 ∙ count-refused g (has a.removed.words) a.s.now a.at f.2 ∙ in_limit a.n a.s.now a.at (side g (has a.removed.words)) c.if-n-gt-CAPACITY.false

pub returns-in_err-read : goal.returns-in_err-read
returns-in_err-read c = let a = c.args in
    let g = rows_graph a.n a.rows.now in
    let f = told-exit _ c.from_residual-in_err-read.result _ (c.in_err-read.ensures ∙ runs-told _ _ _ _ _ _ _ _ _) c.from_residual-in_err-read.ensures.1 in
    f.3 ∙ side-refused g (has a.removed.words) a.s.now a.at (item-ok _ c.in_ok-count.ensures) f.2
    ∙ in_limit a.n a.s.now a.at (side g (has a.removed.words)) c.if-n-gt-CAPACITY.false

pub tested_side-requires : goal.tested_side-requires
tested_side-requires c = let a = c.args in
    let g = rows_graph a.n a.rows.now in
    (c.if-n-gt-CAPACITY.false, (side-read g (has a.removed.words) a.s.now a.at (item-ok _ c.in_ok-count.ensures) c.if-n-gt-CAPACITY.false c.in_ok-read.ensures).0)

pub returns : goal.returns
returns c = let a = c.args in
    let g = rows_graph a.n a.rows.now in
    c.tested_side.ensures
    ∙ (side-read g (has a.removed.words) a.s.now a.at (item-ok _ c.in_ok-count.ensures) c.if-n-gt-CAPACITY.false c.in_ok-read.ensures).1
    ∙ in_limit a.n a.s.now a.at (side g (has a.removed.words)) c.if-n-gt-CAPACITY.false
