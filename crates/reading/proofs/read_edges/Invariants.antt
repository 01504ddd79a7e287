use Prim.Native.Nat.{◌-◌, ◌≤◌, ◌<◌}
use mathlib.Core.Path.{◌≡◌}
use Rattle.record.specs.Read.{led}
use Rattle.record.specs.Loop.{runs}
use Rattle.reading.specs.Code.{edge_loop, edge_after, edge_joined}
use Rattle.reading.proofs.read_edges.Given as goal

abbrev pub invariant-loop : goal.invariant-loop
invariant-loop l = (runs (edge_loop l.n l.m) (l.m - l.counter) l.before (l.before, l.d) l.s l.at ≡ runs (edge_loop l.n l.m) l.m (0, 0) ((0, 0), 0) l.s l.from)
    × (led (edge_after l.n) edge_joined (l.m - l.counter) (l.before, l.rows) l.s l.at ≡ led (edge_after l.n) edge_joined l.m ((0, 0), l.initial.rows) l.s l.from)
    × (l.d ≤ l.counter) × (l.before.1 < 65536)
