use lib.ListN.{take, replicate}
use Rattle.lines.proofs.Put.{Puts}
use Rattle.countlines.proofs.Lines.{told}
use Rattle.countlines.proofs.put_line.Given as goal

-- the size and the counts so far stand in the line
abbrev pub invariant-loop-count : goal.invariant-loop-count
invariant-loop-count l = Puts (replicate 48 0) 0 (told l.size (take l.count-index l.count-items)) l.end l.line
