-- `sides::tested_side` meets its contract: the tests that led to a return pick the case. Assumes nothing.

use mathlib.Core.Path.{refl, sym}
use Rattle.vertexset.specs.Set.{has}
use Rattle.graph.specs.Rows.{rows_graph}
use Rattle.sides.proofs.Sets.{rest-low}
use Rattle.sides.proofs.Reading.{side-empty, side-tests}
use Rattle.sides.proofs.tested_side.Goals as goal

pub returns-then-not-holds_one : goal.returns-then-not-holds_one
returns-then-not-holds_one c = let a = c.args in
    side-empty (rows_graph a.n a.rows.now) (has a.removed.words) (has a.side.words) a.at a.next (sym c.if-not-holds_one.ensures)

pub holds_one-requires-2 : goal.holds_one-requires-2
holds_one-requires-2 c = let a = c.args in
    (c.requires.0, rest-low a.n a.removed.words a.side.words c.rest_of-rest.result.words c.rest_of-rest.ensures)

pub returns-then-not-holds_one-2 : goal.returns-then-not-holds_one-2
returns-then-not-holds_one-2 c = let a = c.args in
    side-tests a.rows.now a.n c.requires.0 a.removed.words a.side.words c.rest_of-rest.result.words c.rest_of-rest.ensures c.requires.1 a.at a.next
    c.if-not-holds_one.ensures c.if-not-holds_one-2.ensures refl

pub returns-then-not-none_between : goal.returns-then-not-none_between
returns-then-not-none_between c = let a = c.args in
    side-tests a.rows.now a.n c.requires.0 a.removed.words a.side.words c.rest_of-rest.result.words c.rest_of-rest.ensures c.requires.1 a.at a.next
    c.if-not-holds_one.ensures c.if-not-holds_one-2.ensures c.if-not-none_between.ensures

pub returns : goal.returns
returns c = let a = c.args in
    side-tests a.rows.now a.n c.requires.0 a.removed.words a.side.words c.rest_of-rest.result.words c.rest_of-rest.ensures c.requires.1 a.at a.next
    c.if-not-holds_one.ensures c.if-not-holds_one-2.ensures c.if-not-none_between.ensures
