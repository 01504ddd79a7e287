use Rattle.std.proofs.Common.{◌≡◌, ◌-◌, List, ℕ, ◌++◌, length, take}
use Rattle.std.specs.Io.KnownBytes.{Appends}
use Rattle.sessionlines.specs.Lines.{script_lines, lines_from}
use Rattle.session.proofs.run.Given as goal

-- what was printed, and what the turns that are left print, is all that the script prints
abbrev pub invariant-loop-turn : goal.invariant-loop-turn
invariant-loop-turn g l =
    (length l.out ≡ 48)
    × (done : List ℕ)
    × Appends (g.W.Write.contents l.fn.writer) (g.W.Write.contents l.writer) done
    × (script_lines (take l.n l.bytes) ≡ done ++ lines_from l.n (take l.n l.bytes) l.turn.session l.turn.at)

abbrev pub decreases-loop-turn : goal.decreases-loop-turn
decreases-loop-turn g l = l.n - l.turn.at
