use mathlib.Core.Path.{◌≡◌}
use Rattle.std.specs.Slice.Iter.{windows_rest, windows_size}
use Rattle.construction.specs.Start.{marked}
use Rattle.detours.proofs.mark.Given as goal

abbrev pub invariant-loop-link : goal.invariant-loop-link
invariant-loop-link l = (windows_size l.link-iterator ≡ 2) × (marked l.table (windows_rest l.link-iterator) ≡ marked l.initial.table l.list)
