use Prim.Native.Nat.{◌-◌}
use mathlib.Core.Path.{◌≡◌}
use lib.ListN.{length}
use Rattle.record.specs.Read.{folded}
use Rattle.record.specs.Loop.{runs}
use Rattle.vertexset.specs.Set.{word_count, inserted}
use Rattle.paths.specs.Paths.{vertices_at}
use Rattle.paths.proofs.Reading.{set_loop}
use Rattle.paths.proofs.Sets.{of_words}
use Rattle.paths.proofs.with_path.Given as goal

abbrev pub invariant-loop : goal.invariant-loop
invariant-loop l = (length l.words ≡ word_count) × (runs (set_loop l.n l.set) (l.end - l.counter) tt (of_words l.words) l.s l.next ≡ folded inserted l.set (vertices_at l.n l.s l.at))
