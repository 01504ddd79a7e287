-- `certifier::put_tree` meets its contract: the pairs so far are put, and those that are left come. Assumes nothing.

use Prim.Native.Nat.{ℕ}
use mathlib.Core.Path.{◌≡◌, ap, ◌∙◌}
use native.Mathlib.Omega.{arith}
use lib.ListN.{length, get_or}
use borrow.Author.Rules.{rules}
use Rattle.certifier.specs.Code.{number_room}
use Rattle.certifier.proofs.Written.{tree_start, tree_end, tree_turn}
use Rattle.certifier.proofs.put_tree.Invariants.{order, from}
use Rattle.certifier.proofs.put_tree.Goals as goal

pub loop-i-init : goal.loop-i-init
loop-i-init c = let a = c.args in
    let l : length a.items.now ≡ number_room = search rules in
    record {
      filled = tree_start (order a.space.now a.count) (from a.space.now a.count) a.items.now a.at a.count c.requires.0 (omega (arith, c.requires));
      place = omega arith;
    }

pub loop-i-preserved : goal.loop-i-preserved
loop-i-preserved c = let a = c.args in record {
  filled = tree_turn (order a.space.now a.count) (from a.space.now a.count) _ _ _ a.count c.loop-i.i c.loop-i.invariant.filled c.loop-i-test.true
      c.entry.ensures (c.entry-in-loop-i.ensures ∙ ap (λ (n : ℕ). get_or (order a.space.now a.count) n 0) c.entry-place.ensures);
  place = omega arith;
}

pub returns : goal.returns
returns c = let a = c.args in
    let l : length a.items.now ≡ number_room = search rules in
    let r = tree_end (order a.space.now a.count) (from a.space.now a.count) a.items.now a.at a.count c.requires.0 (omega (arith, c.requires)) c.loop-i.i c.loop-i.invariant.filled c.loop-i-test.false in
    record { after = r.0; value = r.1 }
