-- `detours::more_ears` meets its contract: the ears that are left give the whole. Assumes nothing.

use mathlib.Core.Path.{◌∙◌}
use borrow.Author.Rules.{rules}
use Rattle.detours.proofs.Answered.{detour-settled}
use Rattle.detours.proofs.Earing.{first_ear_lem, earing_end, earing_full, earing_cut, earing_on}
use Rattle.detours.proofs.more_ears.Goals as goal

pub loop-init : goal.loop-init
loop-init c = let a = c.args in
    first_ear_lem a.rows.now a.full a.first.now c.add_path-len.ensures.flat_after c.add_path-len.ensures.value c.empty.ensures c.with_all-set.ensures c.empty-2.ensures c.near_all-near.ensures

pub returns-then-is_empty : goal.returns-then-is_empty
returns-then-is_empty c = c.ears_of.ensures
    ∙ earing_full c.loop.invariant c.loop-test.true c.minus.ensures c.is_empty.ensures c.if-is_empty.true c.none.ensures

pub returns-in-Err : goal.returns-in-Err
returns-in-Err c = let a = c.args in
    c.ears_of-in-Err.ensures
    ∙ earing_cut c.loop.invariant c.loop-test.true c.minus.ensures c.is_empty.ensures c.if-is_empty.false
    (detour-settled c.loop.space (search rules) a.rows.now c.loop.near c.loop.set c.detour.ensures.value c.in-Err.ensures)

pub loop-preserved : goal.loop-preserved
loop-preserved c = let a = c.args in
    earing_on c.loop.invariant c.loop-test.true c.minus.ensures c.is_empty.ensures c.if-is_empty.false
    (detour-settled c.loop.space (search rules) a.rows.now c.loop.near c.loop.set c.detour.ensures.value c.in-Ok.ensures) c.as_slice-path.ensures.value
    c.add_path-len-in-loop.ensures.flat_after c.add_path-len-in-loop.ensures.value c.with_all-set-in-loop.ensures c.near_all-near-in-loop.ensures

pub returns : goal.returns
returns c = c.ears_of-2.ensures ∙ earing_end c.loop.invariant c.loop-test.false c.none-2.ensures
