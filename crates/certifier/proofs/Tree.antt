-- The tree of the first search, out of the space. Assumes nothing.
use mathlib.Core.Path.{◌≡◌, ap, ◌∙◌}
use mathlib.Core.List.{List}
use Prim.Native.Nat.{ℕ, ◌≤◌}
use native.Mathlib.Omega.{arith}
use lib.ListN.{length}
use Rattle.vertexset.specs.Set.{empty_set, capacity}
use Rattle.vertexset.specs.declared.VertexSet.{VertexSet}
use Rattle.search.specs.Code.{reach_of, search_space, left_in, answer_in}
use Rattle.search.specs.declared.Reach.{Reach}
use Rattle.search.proofs.Lent.{answer_is, order_is, from_is}
use Rattle.search.proofs.Sizes.{explore-sized}
use Rattle.construction.specs.Sets.{single}
use Rattle.construction.specs.Search.{explore}
use Rattle.construction.specs.Certificate.{tree_numbers}
use Rattle.certifier.specs.Code.{tree_in, first_search}

module _ (rows space : List ℕ) (size : length space ≡ search_space) {seeds goals removed : VertexSet} (a : seeds ≡ single 0) (b : goals ≡ empty_set) (c : removed ≡ empty_set)
    {tree : Reach} (e : tree ≡ answer_in space (explore rows seeds goals removed)) where
  pub tree_is : tree ≡ reach_of (first_search rows)
  tree_is = answer_is rows space seeds goals removed size e ∙ rw (a, b, c)

  pub tree_low : tree.count ≤ capacity
  tree_low = omega (arith, ap (λ (x : Reach). x.count) tree_is, (explore-sized rows (single 0) empty_set empty_set).low)

  pub tree_left : {out : List ℕ} → out ≡ left_in space (explore rows seeds goals removed) → tree_in out tree.count ≡ tree_numbers (first_search rows)
  tree_left {out} p =
      let q : out ≡ left_in space (first_search rows) = p ∙ rw (a, b, c) in
      ap (λ (x : Reach). tree_in out x.count) tree_is
      ∙ rw (order_is rows space (single 0) empty_set empty_set size q, from_is rows space (single 0) empty_set empty_set size q)
