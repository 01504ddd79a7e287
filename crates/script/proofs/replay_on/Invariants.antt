use Prim.Native.Nat.{◌-◌}
use lib.ListN.{length}
use Rattle.script.specs.Replay.{replay_on}
use Rattle.script.proofs.Calls.{Replaying}
use Rattle.script.proofs.replay_on.Given as goal

abbrev pub invariant-loop-at : goal.invariant-loop-at
invariant-loop-at l = Replaying l.s l.initial.out (replay_on (length l.s) l.s l.initial.now.session l.initial.at l.initial.out l.initial.count) l.now.session l.at l.out l.count

abbrev pub decreases-loop-at : goal.decreases-loop-at
decreases-loop-at l = length l.s - l.at
