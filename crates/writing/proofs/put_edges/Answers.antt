-- `writing::put_edges` meets its contract: with what is left written the buffer is what it is to be. Assumes nothing.

use Rattle.writing.proofs.Edges.{put_start, put_room, put_here, put_end}
use Rattle.writing.proofs.put_edges.Goals as goal

pub loop-i-init : goal.loop-i-init
loop-i-init c = put_start _ _

pub put_edge-next-requires : goal.put_edge-next-requires
put_edge-next-requires c = let k = c.requires in
    let e = k.1 _ c.loop-i-test.true in
    (e.0, e.1, put_room _ _ c.loop-i.invariant c.loop-i-test.true k.2)

pub loop-i-preserved : goal.loop-i-preserved
loop-i-preserved c = rw (c.put_edge-next.ensures.0, c.put_edge-next.ensures.1) (put_here _ _ c.loop-i.invariant c.loop-i-test.true c.requires.2)

pub shape_of-out : goal.shape_of-out
shape_of-out c = c.loop-i.invariant.long

pub returns : goal.returns
returns c = put_end _ _ c.loop-i.invariant c.loop-i-test.false
