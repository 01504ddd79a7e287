-- `stepping::link_step` meets its contract. Assumes nothing.

use lib.ListN.{get_or}
use mir.Val.{Fits}
use mir.Syntax.{w64}
use borrow.Author.Rules.{rules}
use Rattle.construction.proofs.Basics.{Sized}
use Rattle.stepping.proofs.Stepping.{link-inner, link-found, link-stops, link-goes, link-works}
use Rattle.stepping.proofs.link_step.Goals as goal

pub returns-in-Err-clause-shows : goal.returns-in-Err-clause-shows
returns-in-Err-clause-shows c = let a = c.args in
    link-stops a.rows.now a.flat.now a.b c.requires.0 a.w.first
    (link-found a.rows.now a.flat.now a.b c.requires.0 a.w.first c.requires.1.1.run c.in-Err.ensures) c.stopped.ensures

pub returns-clause-shows : goal.returns-clause-shows
returns-clause-shows c = let a = c.args in
    link-goes a.rows.now a.flat.now a.b c.requires.0 a.w.first
    (link-found a.rows.now a.flat.now a.b c.requires.0 a.w.first c.requires.1.1.run c.in-Ok.ensures)
    (link-inner a.rows.now a.flat.now a.b c.requires.0 a.w.first c.requires.1.1.run c.requires.1.1.link)
    c.as_slice.ensures.value c.up_to-path.ensures c.extend-progress.ensures

pub returns-clause-works : goal.returns-clause-works
returns-clause-works c = let a = c.args in
    -- what is known of the two sets' words: too deep for the search to find it
    let gb = c.well_formed.1.1.1.0.1.1.0.1.1.0 in
    let gu = c.well_formed.1.1.1.0.1.1.1.0.1.1.0 in
    let sb : Sized a.b.branch = record { size = search rules; words = λ i. let k : Fits w64 (get_or a.b.branch.words i 0) = search rules in k.fits } in
    let su : Sized a.b.built = record { size = search rules; words = λ i. let k : Fits w64 (get_or a.b.built.words i 0) = search rules in k.fits } in
    link-works a.rows.now a.flat.now a.b a.w sb su c.requires.1.0 c.requires.1.1 c.as_slice.result.now c.up_to-path.ensures c.last_of.ensures c.work_left-work.result c.work_left-work.ensures c.extend-progress.ensures
