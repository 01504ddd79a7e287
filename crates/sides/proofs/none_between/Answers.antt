-- `sides::none_between` meets its contract: what the walk has ahead of it misses the rest exactly where all of the side does. Assumes nothing.

use mathlib.Core.Path.{◌≡◌, sym, ap, ◌∙◌}
use lib.ListN.{length, get_or}
use mir.Val.{Fits}
use mir.Syntax.{w64}
use borrow.Author.Rules.{rules}
use Rattle.vertexset.specs.Set.{Words, has, word_count}
use Rattle.vertexset.proofs.Walks.{walks_begin, walks_on, walks_less}
use Rattle.sides.specs.Code.{misses_row}
use Rattle.sides.proofs.Between.{clear_begin, clear_over, clear_passes, met_all}
use Rattle.sides.proofs.none_between.Goals as goal

pub loop-side-init : goal.loop-side-init
loop-side-init c = let a = c.args in
    let ws = a.side.words in
    let l : length ws ≡ word_count = search rules in
    let f : Words ws = λ i. let f : Fits w64 (get_or ws i 0) = search rules in f.fits in
    (walks_begin ws l f 0 c.walk_from-walk.ensures, clear_begin a.rows.now ws (has a.rest.words) l c.walk_from-walk.ensures)

pub returns-then-not-misses : goal.returns-then-not-misses
returns-then-not-misses c = let a = c.args in
    met_all a.rows.now a.side.words (has a.rest.words) c.loop-side.invariant.0 c.loop-side.invariant.1 (sym c.going.ensures ∙ c.loop-side-test.true) c.step-walk.ensures
    (sym c.meets.ensures ∙ c.if-meets.true)
    (ap (misses_row a.rows.now (has a.rest.words)) (sym c.member.ensures) ∙ sym c.if-not-misses.ensures)

pub loop-side-smaller-else-not-misses : goal.loop-side-smaller-else-not-misses
loop-side-smaller-else-not-misses c = walks_less c.loop-side.invariant.0 (sym c.going.ensures ∙ c.loop-side-test.true) c.step-walk.ensures

pub loop-side-preserved-else-not-misses : goal.loop-side-preserved-else-not-misses
loop-side-preserved-else-not-misses c = let a = c.args in
    let t = met_all a.rows.now a.side.words (has a.rest.words) c.loop-side.invariant.0 c.loop-side.invariant.1 (sym c.going.ensures ∙ c.loop-side-test.true) c.step-walk.ensures
    (sym c.meets.ensures ∙ c.if-meets.true)
    (ap (misses_row a.rows.now (has a.rest.words)) (sym c.member.ensures) ∙ sym c.if-not-misses.ensures) in
    (walks_on c.loop-side.invariant.0 c.step-walk.ensures, t)

pub loop-side-smaller : goal.loop-side-smaller
loop-side-smaller c = walks_less c.loop-side.invariant.0 (sym c.going.ensures ∙ c.loop-side-test.true) c.step-walk.ensures

pub loop-side-preserved : goal.loop-side-preserved
loop-side-preserved c = let a = c.args in
    let t = clear_passes a.rows.now a.side.words (has a.rest.words) c.loop-side.invariant.0 c.loop-side.invariant.1 (sym c.going.ensures ∙ c.loop-side-test.true) c.step-walk.ensures
    (sym c.meets.ensures ∙ c.if-meets.false) in
    (walks_on c.loop-side.invariant.0 c.step-walk.ensures, t)

pub returns : goal.returns
returns c = let a = c.args in
    clear_over a.rows.now a.side.words (has a.rest.words) c.loop-side.invariant.0 c.loop-side.invariant.1 (sym c.going.ensures ∙ c.loop-side-test.false)
