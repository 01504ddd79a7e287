use Prim.Native.Nat.{◌-◌}
use mathlib.Core.Path.{◌≡◌}
use Rattle.record.specs.Loop.{runs}
use Rattle.paths.specs.Items.{end_read}
use Rattle.graph.specs.Rows.{rows_graph}
use Rattle.ears.specs.Code.{all_ears}
use Rattle.ears.proofs.In.{ear_loop}
use Rattle.ears.proofs.read_all_ears.Given as goal

abbrev pub invariant-loop : goal.invariant-loop
invariant-loop l = runs (ear_loop (rows_graph l.n l.rows)) (l.count - l.counter) l.ears l.ears l.s l.next ≡ end_read (all_ears (rows_graph l.n l.rows) l.count l.s l.from)
