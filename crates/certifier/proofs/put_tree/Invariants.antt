use Prim.Native.Nat.{ℕ, ◌+◌, ◌-◌, ◌*◌}
use mathlib.Core.Path.{◌≡◌}
use mathlib.Core.List.{List}
use lib.ListN.{take, drop}
use Rattle.vertexset.specs.Set.{capacity}
use Rattle.construction.specs.Certificate.{pairs_from}
use Rattle.search.proofs.Filling.{Filling}
use Rattle.certifier.proofs.put_tree.Given as goal

-- the two lists in the space
abbrev pub order : List ℕ → ℕ → List ℕ
order space count = take count space

abbrev pub from : List ℕ → ℕ → List ℕ
from space count = take count (drop capacity space)

abbrev pub invariant-loop-i : goal.invariant-loop-i
invariant-loop-i l = record {
  filled : Filling l.initial.items l.initial.end (pairs_from (order l.space l.count) (from l.space l.count) (l.count - 1) 1) (pairs_from (order l.space l.count) (from l.space l.count) (l.count - l.i) l.i) l.end l.items;
  place : l.end + 1 ≡ l.at + 2 * l.i;
}
