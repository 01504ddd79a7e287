-- `VertexSet::walk_at` meets its contract: what is shifted down and up again fits a word. Assumes nothing.

use mathlib.Core.Path.{◌≡◌}
use native.Mathlib.Nat.{mod-eq_of_lt}
use native.Mathlib.Omega.{arith}
use lib.ListN.{length, get_or}
use mir.Val.{Fits}
use mir.Syntax.{w64}
use borrow.Author.Rules.{rules}
use borrow.Author.Tests.{lt-ltb, le-ltb}
use Rattle.vertexset.specs.Set.{word_count}
use Rattle.vertexset.proofs.Walks.{from_small}
use Rattle.vertexset.proofs.VertexSet.walk_at.Goals as goal

pub returns-then-i-lt-WORDS : goal.returns-then-i-lt-WORDS
returns-then-i-lt-WORDS c = let a = c.args in
    let l : length a.self.words ≡ word_count = search rules in
    let f : Fits w64 (get_or a.self.words a.i 0) = search rules in
    rw (lt-ltb a.i (length a.self.words) (omega arith), mod-eq_of_lt (from_small (get_or a.self.words a.i 0) a.k f.fits))

pub returns : goal.returns
returns c = let a = c.args in
    let l : length a.self.words ≡ word_count = search rules in
    rw (le-ltb a.i (length a.self.words) (omega arith), l)
