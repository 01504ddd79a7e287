use Prim.Native.Nat.{ℕ, ◌<◌, ◌+◌, ◌*◌}
use mathlib.Core.Path.{◌≡◌}
use lib.ListN.{length, get_or}
use Rattle.vertexset.specs.Set.{word_count}
use Rattle.graph.proofs.row.Given as goal

abbrev pub invariant-loop-i : goal.invariant-loop-i
invariant-loop-i l = (length l.set.words ≡ word_count) × ((k : ℕ) → k < l.i → get_or l.set.words k 0 ≡ get_or l.rows (l.u * word_count + k) 0)
