-- `VertexSet::remove` meets its contract. Assumes nothing.

use Rattle.vertexset.specs.Set.{less}
use borrow.Author.Rules.{rules}
use Rattle.vertexset.proofs.VertexSet.remove.Goals as goal

pub returns : goal.returns
returns c = c.change.ensures less (λ w b r e. search rules)
