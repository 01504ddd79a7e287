-- `sides::holds_one` meets its contract: the size counts the members. Assumes nothing.

use mathlib.Core.Path.{◌≡◌, ◌∙◌, ap}
use native.Mathlib.Omega.{arith}
use Prim.Native.Nat.{ℕ}
use lib.Dec.{ltb}
use lib.ListN.{length, get_or}
use mir.Val.{Fits}
use mir.Syntax.{w64}
use borrow.Author.Rules.{rules}
use Rattle.vertexset.specs.Set.{Words, word_count}
use Rattle.sides.proofs.Sets.{size_some}
use Rattle.sides.proofs.holds_one.Goals as goal

pub returns : goal.returns
returns c = let ws = c.args.set.words in
    let l : length ws ≡ word_count = search rules in
    let w : Words ws = λ i. let f : Fits w64 (get_or ws i 0) = search rules in f.fits in
    ap (λ (k : ℕ). ltb 0 k) c.size.ensures ∙ size_some ws w c.args.n (omega (arith, c.requires.0)) c.requires.1
