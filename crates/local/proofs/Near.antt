-- The common neighbours as the code counts them, and what follows from their number. Assumes nothing.
use Prim.Native.Nat.{ℕ, ◌≤◌, ◌<◌}
use mathlib.Core.Path.{◌≡◌, ◌∙◌}
use mathlib.Core.Bool.{Bool, true}
use mathlib.Core.List.{List}
use borrow.Author.Tests.{le-leb, lt-leb}
use Rattle.vertexset.specs.Set.{empty_set, count}
use Rattle.vertexset.specs.declared.VertexSet.{VertexSet}
use Rattle.graph.specs.Rows.{row_of}
use Rattle.construction.specs.Sets.{minus, common}
use Rattle.local.specs.Withstands.{withstands, spared}

module _ (rows : List ℕ) (u v : ℕ) {row other rest both : VertexSet} {n : ℕ} (a : row ≡ row_of rows u) (b : other ≡ row_of rows v) (c : rest ≡ minus row other)
    (d : both ≡ minus row rest) (e : n ≡ count both.words) where
  near-count : n ≡ count (common (row_of rows u) (row_of rows v)).words
  near-count = e ∙ rw (d, c, a, b)

  pub near-many : 3 ≤ n → true ≡ spared rows u v
  unfolding spared
  near-many h = rw (← near-count, le-leb 3 n h)

  pub near-few : n < 3 → {none : VertexSet} {r : Bool} → none ≡ empty_set → r ≡ withstands 2 rows u v none → r ≡ spared rows u v
  unfolding spared
  near-few h {none} {r} k w = rw (← near-count, lt-leb 3 n h, ← k) w
