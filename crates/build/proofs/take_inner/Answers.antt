-- `build::take_inner` meets its contract: what is left of the path gives the same from here as from the start. Assumes nothing.

use Prim.Native.Nat.{ℕ}
use mathlib.Core.List.{List}
use mathlib.Core.Path.{refl, sym, ap, ◌∙◌}
use borrow.Author.Rules.{rules}
use native.Mathlib.Omega.{arith}
use lib.ListN.{length-set}
use Rattle.record.specs.Read.{folded}
use Rattle.vertexset.specs.Set.{inserted}
use Rattle.vertexset.proofs.Bit.{bit_of_lem}
use Rattle.links.specs.Tables.{point_along, last_from, mated_ends}
use Rattle.build.specs.Code.{inner_at}
use Rattle.build.proofs.Inner.{value_low, values_left, length_again, first-again, second-again, more_again, left-on, inner_vertices_lem, inner_begun, pointed-on, inner_on, pointed-done, inner_done, last_on, last_done, before_begun, mated-done, same_sets}
use Rattle.build.proofs.take_inner.Goals as goal

pub unreachable-requires : goal.unreachable-requires
unreachable-requires c = length_again _ _ _ c.requires.path_at c.in_default.ensures

pub unreachable-requires-in_default-read_vertex : goal.unreachable-requires-in_default-read_vertex
unreachable-requires-in_default-read_vertex c = first-again _ _ _ c.requires.path_at c.in-Ok.ensures c.in_default-read_vertex.ensures

pub unreachable-requires-in_default-read_vertex-2 : goal.unreachable-requires-in_default-read_vertex-2
unreachable-requires-in_default-read_vertex-2 c = second-again _ _ _ c.requires.path_at c.in-Ok.ensures c.in-Ok-read_vertex.ensures c.in_default-read_vertex-2.ensures

pub loop-init : goal.loop-init
loop-init c = let h = c.requires.path_at in
    let ex = c.in-Ok.ensures in
    let ea = c.in-Ok-read_vertex.ensures in
    let eb = c.in-Ok-read_vertex-2.ensures in
    let begun = inner_begun _ _ _ h ex ea eb in record {
      wide = search rules;
      low = value_low _ _ _ h.low eb;
      left = more_again _ _ _ h ex ea eb;
      along = ap (point_along _) (sym (inner_vertices_lem _ _ _ h ex ea eb));
      inner = ap (folded inserted _) (sym begun);
      last = ap (last_from _) (sym begun);
    }

pub unreachable-requires-in_default-read_vertex-3 : goal.unreachable-requires-in_default-read_vertex-3
unreachable-requires-in_default-read_vertex-3 c = values_left _ _ _ _ c.loop.invariant.left (omega arith) c.in_default-read_vertex-3.ensures

pub loop-preserved : goal.loop-preserved
loop-preserved c = let l = c.loop in
    let i = l.invariant in
    let ew = c.in-Ok-read_vertex-3.ensures in
    let more = c.loop-test.true in record {
      wide = simp length-set i.wide;
      low = value_low _ _ _ c.requires.path_at.low ew;
      left = left-on _ _ _ _ _ more ew i.left;
      along = pointed-on _ _ _ _ _ _ _ _ more ew c.point_between.ensures ∙ i.along;
      inner = rw (bit_of_lem l.v.value) (inner_on _ _ _ _ _ _ _ _ more ew ∙ i.inner);
      last = last_on _ _ _ _ _ _ _ more ew ∙ i.last;
    }

pub returns : goal.returns
returns c = let l = c.loop in
    let i = l.invariant in
    let h = c.requires.path_at in
    let done = c.loop-test.false in
    let ex = c.in-Ok.ensures in
    let ea = c.in-Ok-read_vertex.ensures in
    let eb = c.in-Ok-read_vertex-2.ensures in
    let last = last_done _ _ _ _ _ _ _ done ∙ i.last in record {
      sets_value = same_sets refl (inner_done _ _ _ _ _ _ _ _ done ∙ i.inner);
      before_value = last ∙ before_begun _ _ _ h ex ea eb;
      pointers_after = mated-done _ _ _ h ex ea eb _ c.requires.nonzero last c.mate.ensures ∙ ap (λ (p : List ℕ). mated_ends p (inner_at c.args.n c.args.s.now c.args.at)) (pointed-done _ _ _ _ _ _ _ _ done ∙ i.along);
    }
