use Prim.Native.Nat.{◌-◌}
use mathlib.Core.Path.{◌≡◌}
use lib.ListN.{length}
use Rattle.record.specs.Loop.{runs}
use Rattle.vertexset.specs.Set.{has, word_count}
use Rattle.graph.specs.Rows.{adjacent_in}
use Rattle.certificates.specs.Tests.{with, nobody}
use Rattle.sides.specs.Code.{pair_loop}
use Rattle.sides.proofs.read_pairs.Given as goal

abbrev pub invariant-loop : goal.invariant-loop
invariant-loop l = (length l.named.words ≡ word_count)
    × (runs (pair_loop l.n (adjacent_in l.rows)) (l.count - l.counter) (has l.named.words) tt l.s l.next ≡ runs (pair_loop l.n (adjacent_in l.rows)) l.count (with nobody l.first) tt l.s l.from)
