-- `VertexList::from_slice` meets its contract: what has room stands at the front of zeros. Assumes nothing.

use Rattle.search.specs.Code.{path_room}
use Rattle.search.proofs.Placed.{placed-fronted, placed-front}
use Rattle.search.proofs.VertexList.from_slice.Goals as goal

pub invariant_of-result : goal.invariant_of-result
invariant_of-result c = placed-fronted path_room c.args.list.now c.min.ensures c.put_all-count.ensures.after c.put_all-count.ensures.value

pub returns : goal.returns
returns c = placed-front path_room c.args.list.now c.min.ensures c.put_all-count.ensures.after c.put_all-count.ensures.value
