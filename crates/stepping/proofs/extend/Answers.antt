-- `stepping::extend` meets its contract. Assumes nothing.

use lib.ListN.{get_or}
use mir.Val.{Fits}
use mir.Syntax.{w64}
use borrow.Author.Rules.{rules}
use Rattle.construction.proofs.Basics.{Sized}
use Rattle.stepping.proofs.States.{extend_shows}
use Rattle.stepping.proofs.extend.Goals as goal

pub returns : goal.returns
returns c = let a = c.args in
    let p = c.add_path-len in
    let last = c.last_of in
    let first = c.number_at in
    let i1 = c.insert in
    let i2 = c.insert-2 in
    -- what is known of the set's words: too deep for the search to find it
    let g = c.well_formed.1.1.0.1.1.1.0.1.1.0 in
    let sized : Sized a.b.built = record { size = search rules; words = λ i. let f : Fits w64 (get_or a.b.built.words i 0) = search rules in f.fits } in
    extend_shows a.rows.now a.flat.now a.b a.path.now c.requires sized c.with_all.ensures c.near_all.ensures c.none.ensures a.at p.ensures.flat_after p.ensures.value
    (rw (i2.ensures, i1.ensures, last.ensures, first.ensures))
