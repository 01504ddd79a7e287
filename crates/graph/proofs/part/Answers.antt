-- `graph::part` meets its contract. Assumes nothing.

use mathlib.Core.Path.{◌∙◌}
use borrow.Author.Rules.{rules}
use Rattle.vertexset.specs.Set.{less}
use Rattle.graph.proofs.Rows.{changed_twice}
use Rattle.graph.proofs.part.Goals as goal

pub returns : goal.returns
returns c = let a = c.args in
    c.change_bit-2.ensures less (λ w b r e. search rules)
    ∙ rw (c.change_bit.ensures less (λ w b r e. search rules)) (changed_twice less a.rows.now a.u a.v)
