use Prim.Native.Nat.{ℕ, ◌-◌}
use mathlib.Core.Path.{◌≡◌}
use mathlib.Core.Bool.{Bool}
use mathlib.Core.List.{List}
use lib.ListN.{length}
use Rattle.record.specs.Loop.{runs}
use Rattle.vertexset.specs.Set.{has, word_count}
use Rattle.graph.specs.Rows.{adjacent_in}
use Rattle.paths.specs.Code.{Walked, path_loop, path_begun}
use Rattle.paths.proofs.Sets.{of_words}
use Rattle.paths.proofs.read_rest.Given as goal

abbrev pub walkedTo : List ℕ → Bool → Bool → ℕ → ℕ → Walked
walkedTo words along new last left = record { last = last; along = along; new = new; set = of_words words; left = left }

abbrev pub invariant-loop-i : goal.invariant-loop-i
invariant-loop-i l = (length l.words ≡ word_count)
    × (runs (path_loop (adjacent_in l.rows) (has l.old.words) l.n l.first l.len) (l.len - l.i) tt (walkedTo l.words l.along l.new l.last (l.len - l.i)) l.s l.next
    ≡ runs (path_loop (adjacent_in l.rows) (has l.old.words) l.n l.first l.len) (l.len - 1) tt (path_begun l.first l.len) l.s l.from)
