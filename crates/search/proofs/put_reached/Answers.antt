-- `search::put_reached` meets its contract. Assumes nothing.

use Prim.Native.Nat.{◌+◌, ◌<◌, ◌≤◌}
use mathlib.Core.Path.{◌≡◌, sym, ◌∙◌}
use lib.ListN.{length, get_or}
use mir.Val.{Fits}
use mir.Syntax.{w64}
use borrow.Author.Rules.{rules}
use borrow.Author.Tests.{leb-true, leb-false}
use Rattle.vertexset.specs.Set.{Words, word_count, capacity}
use Rattle.construction.specs.Sets.{members}
use Rattle.search.specs.Code.{search_space}
use Rattle.search.proofs.Members.{members-size}
use Rattle.search.proofs.Spaces.{reached-nothing, reached-none, reached-done}
use Rattle.search.proofs.put_reached.Goals as goal

pub returns-then-k-eq0 : goal.returns-then-k-eq0
returns-then-k-eq0 c = let rest = let a = c.args in
    let l : length a.set.words ≡ word_count = search rules in
    let w : Words a.set.words = λ i. let f : Fits w64 (get_or a.set.words i 0) = search rules in f.fits in
    reached-nothing a.space.now a.at a.from (members a.set) (members-size a.set l w ∙ sym c.size-k.ensures ∙ c.if-k-eq0.true) in record { space_after = rest.0; value = rest.1 }

pub returns-then-not-has_room : goal.returns-then-not-has_room
returns-then-not-has_room c = let rest = let a = c.args in
    let l : length a.set.words ≡ word_count = search rules in
    let w : Words a.set.words = λ i. let f : Fits w64 (get_or a.set.words i 0) = search rules in f.fits in
    let h : capacity < a.at + c.size-k.result = leb-false _ _ (sym c.has_room.ensures ∙ c.if-not-has_room.true) in
    reached-none a.space.now a.at (members a.set) a.from (members-size a.set l w ∙ sym c.size-k.ensures) h in record { space_after = rest.0; value = rest.1 }

pub returns : goal.returns
returns c = let rest = let a = c.args in
    let l : length a.set.words ≡ word_count = search rules in
    let w : Words a.set.words = λ i. let f : Fits w64 (get_or a.set.words i 0) = search rules in f.fits in
    let s : length a.space.now ≡ search_space = search rules in
    let h : a.at + c.size-k.result ≤ capacity = leb-true _ _ (sym c.has_room.ensures ∙ c.if-not-has_room.false) in
    reached-done a.space.now a.at (members a.set) a.from (members-size a.set l w ∙ sym c.size-k.ensures) s h c.put_members.ensures.after c.put_copies.ensures.after in record { space_after = rest.0; value = rest.1 }
