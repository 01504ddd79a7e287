use Prim.Native.Nat.{◌-◌}
use mathlib.Core.Path.{◌≡◌}
use Rattle.record.specs.Read.{led}
use Rattle.record.specs.Loop.{runs}
use Rattle.graph.specs.Rows.{rows_graph}
use Rattle.build.specs.State.{start_of, start_on, start_entered}
use Rattle.build.specs.Code.{build_in, four_of, start_loop}
use Rattle.build.proofs.Turns.{start_with}
use Rattle.build.proofs.read_six.Given as goal

abbrev pub invariant-loop-ends : goal.invariant-loop-ends
invariant-loop-ends l =
    let at = start_with l.ends-items l.ends-index (build_in l.so_far.sets l.pointers l.linked) in
    let begun = start_of l.initial.pointers l.initial.linked (four_of l.fn.four) in record {
      value : runs (start_loop l.n l.rows) (6 - l.ends-index) at at l.s l.so_far.next ≡ runs (start_loop l.n l.rows) 6 begun begun l.s l.fn.four.next;
      tables : led (start_on (rows_graph l.n l.rows)) start_entered (6 - l.ends-index) at l.s l.so_far.next ≡ led (start_on (rows_graph l.n l.rows)) start_entered 6 begun l.s l.fn.four.next;
    }
