-- `stepping::build` meets its contract. Assumes nothing.

use mathlib.Core.List.{[]}
use Rattle.construction.specs.Sets.{added}
use Rattle.construction.specs.Ears.{path_space}
use Rattle.construction.specs.Start.{begun}
use Rattle.construction.specs.Steps as construction
use Rattle.stepping.proofs.States.{shows_holds}
use Rattle.stepping.proofs.Building.{first_holds, build-shows, build-cut, build-done}
use Rattle.stepping.proofs.build.Goals as goal

pub all_steps-b-requires : goal.all_steps-b-requires
all_steps-b-requires c = let a = c.args in
    first_holds a.list.now c.put_all-len.ensures.after c.put_all-len.ensures.value a.rows.now a.full a.four c.empty.ensures c.with_all.ensures c.empty-2.ensures c.near_all.ensures c.none.ensures

pub returns-then-is_cut : goal.returns-then-is_cut
returns-then-is_cut c = let a = c.args in
    let h = build-shows a.list.now c.put_all-len.ensures.after c.put_all-len.ensures.value a.rows.now a.full a.four c.empty.ensures c.with_all.ensures c.empty-2.ensures c.near_all.ensures c.none.ensures c.all_steps-b.ensures in
    build-cut a.rows.now a.n (construction.build a.rows.now a.full (begun a.four (added path_space [] a.list.now))) h c.is_cut.ensures c.if-is_cut.true

pub finish-len-requires : goal.finish-len-requires
finish-len-requires c = let a = c.args in
    let h = build-shows a.list.now c.put_all-len.ensures.after c.put_all-len.ensures.value a.rows.now a.full a.four c.empty.ensures c.with_all.ensures c.empty-2.ensures c.near_all.ensures c.none.ensures c.all_steps-b.ensures in
    (shows_holds a.rows.now c.all_steps-b.new.flat c.all_steps-b.result (construction.build a.rows.now a.full (begun a.four (added path_space [] a.list.now))) h).kept

pub returns-else-is_cut : goal.returns-else-is_cut
returns-else-is_cut c = let a = c.args in
    let h = build-shows a.list.now c.put_all-len.ensures.after c.put_all-len.ensures.value a.rows.now a.full a.four c.empty.ensures c.with_all.ensures c.empty-2.ensures c.near_all.ensures c.none.ensures c.all_steps-b.ensures in
    build-done a.rows.now a.n (construction.build a.rows.now a.full (begun a.four (added path_space [] a.list.now))) h c.is_cut.ensures c.if-is_cut.false c.finish-len.ensures
