-- `starting::start_on` meets its contract. Assumes nothing.

use Prim.Native.Nat.{ℕ}
use mathlib.Core.Path.{ap, ◌∙◌}
use mathlib.Core.List.{List}
use lib.ListN.{get_or}
use Rattle.construction.specs.Sets.{last_of}
use Rattle.starting.proofs.Links.{start_is}
use Rattle.starting.proofs.start_on.Goals as goal

pub returns : goal.returns
returns c = let a = c.args in
    start_is a.around.now.items a.third.now.items a.across.now.items
    (c.number_at.ensures ∙ ap (λ (l : List ℕ). get_or l 0 0) c.as_slice.ensures.value) c.pair.ensures
    (c.number_at-2.ensures ∙ ap (λ (l : List ℕ). get_or l 0 0) c.as_slice-2.ensures.value) c.insert.ensures
    (c.last_of.ensures ∙ ap last_of c.as_slice-3.ensures.value) c.insert-four.ensures c.join_paths.ensures c.six_links.ensures
