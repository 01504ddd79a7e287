use Rattle.std.proofs.Common.{◌≡◌, ◌≤◌, ◌+◌, length, take, flat_map}
use Rattle.lines.proofs.Put.{Put}
use Rattle.lines.proofs.put_all.Given as goal

-- what is left of the room behind the parts so far
abbrev pub invariant-loop-part : goal.invariant-loop-part
invariant-loop-part l = l.at + length (flat_map (λ part. part.now) (take l.part-index l.parts)) + l.room ≡ length l.out

-- the parts so far are put, and all have room
abbrev pub invariant-loop-part-2 : goal.invariant-loop-part-2
invariant-loop-part-2 l =
    (l.at + length (flat_map (λ part. part.now) l.parts) ≤ length l.initial.out)
    × Put l.initial.out l.at (flat_map (λ part. part.now) (take l.part-index l.parts)) l.next l.out
