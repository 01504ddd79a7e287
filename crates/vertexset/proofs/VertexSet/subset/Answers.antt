-- `VertexSet::subset` meets its contract: what its two callees promise. Assumes nothing.

use mathlib.Core.Path.{ap, ◌∙◌}
use Rattle.vertexset.specs.declared.VertexSet.{VertexSet}
use Rattle.vertexset.specs.Set.{none}
use Rattle.vertexset.proofs.VertexSet.subset.Goals as goal

pub returns : goal.returns
returns c = c.is_empty.ensures ∙ ap (λ (s : VertexSet). none s.words) c.minus.ensures
