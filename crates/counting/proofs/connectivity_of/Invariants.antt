use Prim.Native.Nat.{◌+◌}
use mathlib.Core.List.{[]}
use lib.ListN.{get_or}
use Rattle.record.specs.Read.{folded}
use Rattle.graph.specs.Rows.{joined, bare_rows}
use Rattle.counting.specs.Counts.{pairs_of, sets_of}
use Rattle.counting.proofs.Drawing.{Drawing}
use Rattle.counting.proofs.connectivity_of.Given as goal

abbrev pub invariant-loop-u : goal.invariant-loop-u
invariant-loop-u l = Drawing l.n (folded joined bare_rows (get_or (sets_of (pairs_of l.n)) l.number [])) l.rows l.sets l.rest l.u (l.u + 1)

abbrev pub invariant-loop-v : goal.invariant-loop-v
invariant-loop-v l = Drawing l.n (folded joined bare_rows (get_or (sets_of (pairs_of l.n)) l.number [])) l.rows l.sets l.rest l.u l.v
