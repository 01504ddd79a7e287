-- `starting::add_link` meets its contract. Assumes nothing.

use mathlib.Core.Path.{◌≡◌, ap, ◌∙◌}
use mathlib.Core.List.{List, ◌∷◌}
use Prim.Native.Nat.{ℕ}
use borrow.Author.Rules.{rules}
use Rattle.construction.specs.Sets.{stop}
use Rattle.construction.specs.Start.{link_in}
use Rattle.search.specs.Arrays.{placed, placed_end}
use Rattle.search.proofs.Lent.{routed}
use Rattle.starting.proofs.Links.{link-path}
use Rattle.starting.proofs.add_link.Goals as goal

pub returns : goal.returns
returns c = let a = c.args in
    let e = c.explore-r.ensures in
    let l : c.as_slice.result.now ≡ link_in a.table.now a.four a.u a.w =
    c.as_slice.ensures.value
    ∙ link-path a.table.now a.four a.u a.w c.single.ensures c.single-2.ensures c.pair.ensures c.minus.ensures
    (c.route.ensures ∙ routed a.table.now a.space.now c.single.result c.single-2.result c.minus.result (search rules) e.space_after e.value) in
    record {
      flat_after = c.add_path.ensures.flat_after ∙ ap (λ (k : List ℕ). placed a.flat.now a.len (stop ∷ k)) l;
      value = c.add_path.ensures.value ∙ ap (λ (k : List ℕ). placed_end a.flat.now a.len (stop ∷ k)) l;
    }
