-- `VertexSet::insert` meets its contract. Assumes nothing.

use lib.Bits.{bit_or}
use borrow.Author.Rules.{rules}
use Rattle.vertexset.proofs.VertexSet.insert.Goals as goal

pub returns : goal.returns
returns c = c.change.ensures bit_or (λ w b r e. search rules)
