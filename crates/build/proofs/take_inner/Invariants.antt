use Prim.Native.Nat.{◌-◌, ◌<◌}
use mathlib.Core.List.{◌∷◌}
use mathlib.Core.Path.{◌≡◌}
use lib.ListN.{length}
use Rattle.record.specs.Read.{folded}
use Rattle.vertexset.specs.Set.{word_count, inserted, capacity}
use Rattle.paths.specs.Paths.{vertices_at}
use Rattle.paths.proofs.Reading.{values_from}
use Rattle.paths.proofs.Sets.{of_words}
use Rattle.links.specs.Tables.{point_along, last_from}
use Rattle.build.specs.Code.{inner_at}
use Rattle.build.proofs.Inner.{inner_from}
use Rattle.build.proofs.take_inner.Given as goal

-- as many vertices are left as are still to be read, and what is left gives the same from here as from the start
abbrev pub invariant-loop : goal.invariant-loop
invariant-loop l = record {
  wide : length l.words ≡ word_count;
  low : l.v.value < capacity;
  left : length (values_from l.n (l.end - l.counter) l.s l.v.next) ≡ l.end - l.counter;
  along : point_along l.pointers (l.u ∷ l.v.value ∷ values_from l.n (l.end - l.counter) l.s l.v.next) ≡ point_along l.initial.pointers (vertices_at l.n l.s l.at);
  inner : folded inserted (of_words l.words) (inner_from l.n l.s l.u l.v.value (l.end - l.counter) l.v.next) ≡ folded inserted (of_words l.initial.words) (inner_at l.n l.s l.at);
  last : last_from l.u (inner_from l.n l.s l.u l.v.value (l.end - l.counter) l.v.next) ≡ last_from l.initial.u (inner_at l.n l.s l.at);
}
