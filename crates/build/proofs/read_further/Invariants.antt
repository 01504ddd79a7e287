use Prim.Native.Nat.{◌-◌}
use mathlib.Core.Path.{◌≡◌}
use Rattle.record.specs.Loop.{runs}
use Rattle.build.specs.Code.{build_in, further_loop}
use Rattle.build.proofs.read_further.Given as goal

abbrev pub invariant-loop : goal.invariant-loop
invariant-loop l =
    let at = build_in l.so_far.sets l.pointers l.linked in
    let begun = build_in l.fn.start.sets l.initial.pointers l.initial.linked in
    runs (further_loop l.n l.rows) (l.count - l.counter) at at l.s l.so_far.next ≡ runs (further_loop l.n l.rows) l.count begun begun l.s l.fn.start.next
