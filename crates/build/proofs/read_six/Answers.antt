-- `build::read_six` meets its contract: what is left to read gives the same from here as from the start, and leads to the same build.
-- Assumes nothing.

use mathlib.Core.List.{[], ◌∷◌}
use mathlib.Core.Path.{refl, ap, ◌∙◌}
use native.Mathlib.Omega.{arith}
use Rattle.record.specs.Read.{led}
use Rattle.record.specs.Loop.{runs}
use Rattle.record.proofs.Loops.{turn_done, led-done}
use Rattle.vertexset.specs.declared.VertexSet.{VertexSet}
use Rattle.graph.specs.Rows.{rows_graph}
use Rattle.build.specs.declared.Build.{Build}
use Rattle.build.specs.State.{BuildStart, bare_on, start_on, start_entered}
use Rattle.build.specs.Code.{start_loop}
use Rattle.build.proofs.Turns.{start_with, start-stop, start-go}
use Rattle.build.proofs.read_six.Goals as goal

pub loop-ends-init : goal.loop-ends-init
loop-ends-init c = let a = c.args in
    let begun = λ (set : VertexSet). start_with ((a.four.p, a.four.q) ∷ (a.four.p, a.four.r) ∷ (a.four.p, a.four.s) ∷ (a.four.q, a.four.r) ∷ (a.four.q, a.four.s) ∷ (a.four.r, a.four.s) ∷ []) 0 (bare_on set a.pointers.now a.linked.now) in
    record {
      value = ap (λ (set : VertexSet). runs (start_loop a.n a.rows.now) 6 (begun set) (begun set) a.s.now a.four.next) c.as_set-set.ensures;
      tables = ap (λ (set : VertexSet). led (start_on (rows_graph a.n a.rows.now)) start_entered 6 (begun set) a.s.now a.four.next) c.as_set-set.ensures;
    }

pub returns-in-Err : goal.returns-in-Err
returns-in-Err c = let l = c.loop-ends in
    let e = c.in-Err.ensures in
    let r = start-stop _ _ _ _ _ _ _ c.requires c.loop-ends-test.true refl refl e.pointers_after e.linked_after e.value in
    let k = r.1 ∙ ap (λ (st : BuildStart). st.build) l.invariant.tables in record {
      value = r.0 ∙ l.invariant.value;
      pointers_after = ap (λ (b : Build). b.pointers) k;
      linked_after = ap (λ (b : Build). b.linked) k;
      build_after = k;
    }

pub loop-ends-preserved : goal.loop-ends-preserved
loop-ends-preserved c = let l = c.loop-ends in
    let e = c.in-Ok.ensures in
    let r = start-go _ _ _ _ _ _ _ c.requires c.loop-ends-test.true refl refl e.pointers_after e.linked_after e.value in
    record { value = r.0 ∙ l.invariant.value; tables = r.1 ∙ l.invariant.tables }

pub returns : goal.returns
returns c = let l = c.loop-ends in
    let k = led-done _ _ c.args.s.now _ (omega arith) _ _ ∙ l.invariant.tables in record {
      value = turn_done _ _ _ (omega arith) _ _ _ ∙ l.invariant.value;
      pointers_after = ap (λ (st : BuildStart). st.build.pointers) k;
      linked_after = ap (λ (st : BuildStart). st.build.linked) k;
      build_after = ap (λ (st : BuildStart). st.build) k;
    }
