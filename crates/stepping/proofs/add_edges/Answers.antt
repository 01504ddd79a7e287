-- `stepping::add_edges` meets its contract: the paths so far, with the edges to what the walk has ahead of it, are the whole. Assumes nothing.

use Prim.Native.Nat.{ℕ, ◌+◌}
use mathlib.Core.Path.{◌≡◌, refl, sym, ap, ◌∙◌}
use mathlib.Core.List.{List, [], ◌∷◌}
use lib.ListN.{length, get_or, set}
use mir.Val.{Fits}
use mir.Syntax.{w64}
use borrow.Author.Rules.{rules}
use Rattle.vertexset.specs.Set.{Words, word_count}
use Rattle.vertexset.proofs.Walks.{walks_begin, walks_on, walks_less}
use Rattle.stepping.proofs.Edges.{edges-start, edges-turn, edges-passes, edges-end}
use Rattle.stepping.proofs.add_edges.Goals as goal

pub loop-set-init : goal.loop-set-init
loop-set-init c = let a = c.args in
    let ws = a.set.words in
    let l : length ws ≡ word_count = search rules in
    let f : Words ws = λ i. let f : Fits w64 (get_or ws i 0) = search rules in f.fits in
    let e = c.walk_from-walk.ensures in
    (walks_begin ws l f (a.u + 1) e, edges-start a.u a.set l a.flat.now a.from c.requires.0 e, refl)

pub loop-set-smaller-then-meets : goal.loop-set-smaller-then-meets
loop-set-smaller-then-meets c = walks_less c.loop-set.invariant.0 (sym c.going.ensures ∙ c.loop-set-test.true) c.step-walk.ensures

pub loop-set-preserved-then-meets : goal.loop-set-preserved-then-meets
loop-set-preserved-then-meets c = let p = c.add_path-len.ensures in
    let a = c.args in
    let g = sym c.going.ensures ∙ c.loop-set-test.true in
    let v = c.member.result in
    let e = ap (λ (x : List ℕ). set x 1 v) c.loop-set.invariant.2 in (
      walks_on c.loop-set.invariant.0 c.step-walk.ensures,
      edges-turn a.u a.set c.loop-set.invariant.0 c.loop-set.invariant.1 g c.step-walk.ensures (sym c.meets.ensures ∙ c.if-meets.true) c.member.ensures e p.flat_after p.value,
      e ∙ ap (λ (x : List ℕ). a.u ∷ (get_or x 1 0 ∷ [])) (sym e),
    )

pub loop-set-smaller : goal.loop-set-smaller
loop-set-smaller c = walks_less c.loop-set.invariant.0 (sym c.going.ensures ∙ c.loop-set-test.true) c.step-walk.ensures

pub loop-set-preserved : goal.loop-set-preserved
loop-set-preserved c = let a = c.args in
    let g = sym c.going.ensures ∙ c.loop-set-test.true in (
      walks_on c.loop-set.invariant.0 c.step-walk.ensures,
      edges-passes a.u a.set c.loop-set.invariant.0 c.loop-set.invariant.1 g c.step-walk.ensures (sym c.meets.ensures ∙ c.if-meets.false),
      c.loop-set.invariant.2,
    )

pub returns : goal.returns
returns c = let a = c.args in
    edges-end a.u a.set c.loop-set.invariant.0 c.loop-set.invariant.1 (sym c.going.ensures ∙ c.loop-set-test.false)
