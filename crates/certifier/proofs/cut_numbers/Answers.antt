-- `certifier::cut_numbers` meets its contract. Assumes nothing.

use mathlib.Core.Path.{◌≡◌, sym, ◌∙◌}
use lib.ListN.{length, get_or}
use mir.Val.{Fits}
use mir.Syntax.{w64}
use borrow.Author.Rules.{rules}
use Rattle.vertexset.specs.Set.{Words, word_count}
use Rattle.construction.specs.Sets.{members}
use Rattle.search.proofs.Members.{members-size}
use Rattle.certifier.proofs.Written.{members-short, numbers_room, cut-are}
use Rattle.certifier.proofs.cut_numbers.Goals as goal

pub put_evidence-second-requires : goal.put_evidence-second-requires
put_evidence-second-requires c = (c.requires, numbers_room c.size-k.result (members c.args.c.removed) (members-short c.args.c.removed) (c.put_members-first.ensures.after, c.put_members-first.ensures.value))

pub returns : goal.returns
returns c = let a = c.args in
    let x = a.c.removed in
    let y = a.c.side in
    -- what is known of the two sets' words: too deep for the search to find it
    let gx = c.well_formed.1.1.1.0.1.1.0.1.1.0 in
    let gy = c.well_formed.1.1.1.0.1.1.1.0.1.1.0 in
    let lx : length x.words ≡ word_count = search rules in
    let ly : length y.words ≡ word_count = search rules in
    let wx : Words x.words = λ i. let f : Fits w64 (get_or x.words i 0) = search rules in f.fits in
    let wy : Words y.words = λ i. let f : Fits w64 (get_or y.words i 0) = search rules in f.fits in
    cut-are a.rows.now a.e c.size-k.result c.size.result (members x) (members y) (c.size-k.ensures ∙ sym (members-size x lx wx)) (c.size.ensures ∙ sym (members-size y ly wy))
    c.requires (members-short x) (members-short y) (c.put_members-first.ensures.after, c.put_members-first.ensures.value) (c.put_evidence-second.ensures.after, c.put_evidence-second.ensures.value) (c.put_copies-third.ensures.after, c.put_copies-third.ensures.value) (c.put_members-count.ensures.after, c.put_members-count.ensures.value)
