-- What a caller has of a search in a space of the right size: the definition's answer, lists and route. Assumes nothing.
use mathlib.Core.Path.{◌≡◌, ap, ◌∙◌}
use mathlib.Core.List.{List, ◌∷◌}
use Prim.Native.Nat.{ℕ}
use lib.ListN.{length, take, drop}
use borrow.Author.Tests.{eq-eqb}
use Rattle.vertexset.specs.declared.VertexSet.{VertexSet}
use Rattle.construction.specs.Sets.{members}
use Rattle.construction.specs.Search as construction
use Rattle.construction.specs.Search.{explore, back, route}
use Rattle.search.specs.Code.{search_space, reach_of, space_after, left_in, answer_in, route_in}
use Rattle.search.specs.declared.Reach.{Reach}
use Rattle.search.proofs.Sizes.{Sized, explore-sized}
use Rattle.search.proofs.Spaces.{both_order, both_from}
use Rattle.search.proofs.Visits.{first, second, first_size, second_size}
use Rattle.vertexset.specs.Set.{capacity}

module _ (rows space : List ℕ) (seeds goals removed : VertexSet) (size : length space ≡ search_space) where
  abbrev found : construction.Reach
  found = explore rows seeds goals removed

  sized : Sized (length (members seeds)) found
  sized = explore-sized rows seeds goals removed

  pub answer_is : {r : Reach} → r ≡ answer_in space found → r ≡ reach_of found
  answer_is e = e ∙ rw (eq-eqb (length space) search_space size)

  module _ {out : List ℕ} (p : out ≡ left_in space found) where
    left_is : out ≡ space_after space found
    left_is = p ∙ rw (eq-eqb (length space) search_space size)

    pub order_is : take (length found.order) out ≡ found.order
    order_is =
        ap (take (length found.order)) left_is
        ∙ both_order (first space) (second space) (first_size space size) (second_size space size) found.order found.from sized.same sized.low

    pub from_is : take (length found.order) (drop capacity out) ≡ found.from
    from_is =
        ap (λ (a : List ℕ). take (length found.order) (drop capacity a)) left_is
        ∙ both_from (first space) (second space) (first_size space size) (second_size space size) found.order found.from sized.same sized.low

    pub routed : {r : Reach} → r ≡ answer_in space found → route_in out r ≡ route found
    routed e =
        ap (λ (y : Reach). route_in out y) (answer_is e)
        ∙ ap (λ (l : List ℕ). found.goal ∷ back capacity l (take (length found.order) (drop capacity out)) found.seeds found.last) order_is
        ∙ ap (λ (l : List ℕ). found.goal ∷ back capacity found.order l found.seeds found.last) from_is
