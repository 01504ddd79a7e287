-- `stepping::reroute` meets its contract. Assumes nothing.

use Prim.Native.Nat.{ℕ, ◌+◌}
use mathlib.Core.List.{List}
use mathlib.Core.Path.{ap, ◌∙◌}
use mir.Val.{Fits}
use mir.Syntax.{w64}
use borrow.Author.Rules.{rules}
use lib.ListN.{get_or}
use Rattle.search.specs.Code.{Vertices}
use Rattle.construction.proofs.Basics.{Sized}
use Rattle.stepping.specs.Code.{put_between, put_between_end}
use Rattle.stepping.proofs.States.{reroute-shows}
use Rattle.stepping.proofs.reroute.Goals as goal

pub returns : goal.returns
returns c = let a = c.args in
    let t = c.turned-new in
    let p = c.put_between-len in
    let e = c.as_slice.ensures.value ∙ ap (λ (v : Vertices). v.items) t.ensures in
    -- what is known of the set's words: too deep for the search to find it
    let g = c.well_formed.1.1.0.1.1.1.0.1.1.0 in
    let sized : Sized a.b.built = record { size = search rules; words = λ i. let f : Fits w64 (get_or a.b.built.words i 0) = search rules in f.fits } in
    reroute-shows a.rows.now a.flat.now a.b a.path.now c.requires.0 sized c.with_all.ensures c.near_all.ensures c.none.ensures a.k c.requires.1.0
    (p.ensures.flat_after ∙ ap (λ (l : List ℕ). put_between a.flat.now a.b.len (a.k + 1) l) e)
    (p.ensures.value ∙ ap (λ (l : List ℕ). put_between_end a.flat.now a.b.len l) e)
