-- `search::put_all` meets its contract: after i turns the array holds the first i numbers of the list. Assumes nothing.

use Prim.Native.Nat.{ℕ, ◌+◌, ◌≤◌}
use mathlib.Core.Path.{◌≡◌, refl, sym, ap, ◌∙◌}
use borrow.Author.Tests.{leb-true}
use native.Mathlib.Omega.{arith}
use borrow.Author.Rules.{rules}
use lib.ListN.{length, length-set}
use lib.Seq.{paste-zero}
use Rattle.search.proofs.Puts.{put_turn, put_done}
use Rattle.search.proofs.put_all.Goals as goal

pub loop-i-init : goal.loop-i-init
loop-i-init c = (search rules, refl, paste-zero _ c.args.at c.args.list.now)

pub loop-i-preserved : goal.loop-i-preserved
loop-i-preserved c = let a = c.args in
    let v = c.loop-i.invariant in
    let r : a.at + length a.list.now ≤ length a.items.now = leb-true _ _ (sym c.has_room.ensures ∙ c.if-not-has_room.false) in
    (search rules, simp length-set v.1, put_turn a.items.now a.at a.list.now _ _ r v.2 refl c.loop-i-test.true)

pub returns : goal.returns
returns c = let a = c.args in
    let r : a.at + length a.list.now ≤ length a.items.now = leb-true _ _ (sym c.has_room.ensures ∙ c.if-not-has_room.false) in
    let i : c.loop-i.i ≡ length a.list.now = omega arith in
    let rest = put_done a.items.now a.at a.list.now c.loop-i.i _ r c.loop-i.invariant.2 i in
    record { after = rest.0; value = ap (λ (n : ℕ). a.at + n) (sym i) ∙ rest.1 }
