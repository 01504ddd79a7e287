-- `writing::put_edge` meets its contract: one number behind the other. Assumes nothing.

use Prim.Native.Nat.{◌+◌, ◌≤◌}
use lib.ListN.{length}
use Rattle.record.specs.Number.{number_bytes}
use Rattle.record.proofs.Write.{both_room, both_put}
use native.Mathlib.Omega.{arith}
use Rattle.writing.proofs.Edges.{edge-bytes}
use Rattle.writing.proofs.put_edge.Goals as goal

pub put_number-mid-requires : goal.put_number-mid-requires
put_number-mid-requires c = let a = c.args in
    let r = c.requires in
    (r.0, omega (arith, r.2, edge-bytes (a.u, a.v)))

pub put_number-requires : goal.put_number-requires
put_number-requires c = let a = c.args in
    let r : a.at + length (number_bytes a.u) ≤ length a.out.now = omega (arith, c.requires.2, edge-bytes (a.u, a.v)) in
    (c.requires.1, both_room _ _ _ r (number_bytes a.v) c.put_number-mid.ensures c.requires.2)

pub returns : goal.returns
returns c = let a = c.args in
    let r : a.at + length (number_bytes a.u) ≤ length a.out.now = omega (arith, c.requires.2, edge-bytes (a.u, a.v)) in
    both_put _ _ _ r (number_bytes a.v) c.put_number-mid.ensures c.put_number.ensures
