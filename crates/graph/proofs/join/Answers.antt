-- `graph::join` meets its contract. Assumes nothing.

use mathlib.Core.Path.{◌∙◌}
use borrow.Author.Rules.{rules}
use lib.Bits.{bit_or}
use Rattle.graph.proofs.Rows.{changed_twice}
use Rattle.graph.proofs.join.Goals as goal

pub returns : goal.returns
returns c = let a = c.args in
    c.change_bit-2.ensures bit_or (λ w b r e. search rules)
    ∙ rw (c.change_bit.ensures bit_or (λ w b r e. search rules)) (changed_twice bit_or a.rows.now a.u a.v)
