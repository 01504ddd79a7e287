-- `certifier::put_evidence` meets its contract, by the number of removed vertices. Assumes nothing.

use mathlib.Core.Path.{◌≡◌}
use native.Mathlib.Omega.{arith}
use lib.ListN.{length, length-take}
use borrow.Author.Rules.{rules}
use Rattle.certifier.specs.Code.{number_room}
use Rattle.certifier.proofs.Tree.{tree_low, tree_left}
use Rattle.certifier.proofs.Written.{evidence-none, evidence-tree, evidence-ears}
use Rattle.certifier.proofs.put_evidence.Goals as goal

pub returns-then-k-eq0 : goal.returns-then-k-eq0
returns-then-k-eq0 c = let rest = let a = c.args in
    evidence-none a.rows.now a.e a.k a.items.now a.at c.if-k-eq0.true in record { after = rest.0; value = rest.1 }

pub put_tree-requires : goal.put_tree-requires
put_tree-requires c = let a = c.args in
    (tree_low a.rows.now a.space.now (search rules) c.single.ensures c.empty.ensures c.empty-then-k-eq1.ensures c.explore-tree.ensures.value, omega (arith, c.requires))

pub returns-then-k-eq1 : goal.returns-then-k-eq1
returns-then-k-eq1 c = let rest = let a = c.args in
    evidence-tree a.rows.now a.e a.k a.items.now a.at c.if-k-eq0.false c.if-k-eq1.true
    (tree_left a.rows.now a.space.now (search rules) c.single.ensures c.empty.ensures c.empty-then-k-eq1.ensures c.explore-tree.ensures.value c.explore-tree.ensures.space_after)
    (c.put_tree.ensures.after, c.put_tree.ensures.value) in record { after = rest.0; value = rest.1 }

pub lengthen-requires : goal.lengthen-requires
lengthen-requires c = omega (arith, c.requires, length-take c.args.e.len c.args.e.flat)

pub returns : goal.returns
returns c = let rest = let a = c.args in
    let l : length a.items.now ≡ number_room = search rules in
    evidence-ears a.rows.now a.e a.k a.items.now a.at c.if-k-eq0.false c.if-k-eq1.false (omega (arith, c.requires)) c.lengthen.ensures (c.put_all.ensures.after, c.put_all.ensures.value) in record { after = rest.0; value = rest.1 }
