-- The pairs of n vertices taken in one after the other, in cable order. Assumes nothing.
use Prim.Native.Nat.{ℕ, ◌+◌, ◌≤◌, ◌<◌}
use mathlib.Core.List.{List}
use mathlib.Core.Path.{◌≡◌, sym, ap, ◌∙◌}
use native.Mathlib.Omega.{arith}
use Rattle.record.specs.Read.{folded}
use Rattle.vertexset.specs.Set.{capacity}
use Rattle.graph.specs.Rows.{joined, joined_rows}
use Rattle.graph.proofs.Table.{joined-low}
use Rattle.reading.specs.Pairs.{pairs_of}
use Rattle.reading.proofs.Pairs.{pairs_from, pairs_start, pairs_end, pairs_row, pairs_next}

-- the rows, with the pairs from (u, v) on joined, are those asked for
pub record Joining (n : ℕ) (done rows : List ℕ) (u v : ℕ) : Type 0 where
  pub ahead : folded joined rows (pairs_from n u v) ≡ done

pub join_start : (n : ℕ) {rows : List ℕ} → Joining n (folded joined rows (pairs_of n)) rows 0 1
join_start n {rows} = record { ahead = ap (folded joined rows) (pairs_start n) }

module _ {n : ℕ} {done rows : List ℕ} {u v : ℕ} (d : Joining n done rows u v) where
  pub join_row : u < n → n ≤ v → Joining n done rows (u + 1) (u + 1 + 1)
  join_row h l = record { ahead = ap (folded joined rows) (sym (pairs_row n u v h l)) ∙ d.ahead }

  pub join_next : n ≤ capacity → u + 1 ≤ v → v < n → {rows' : List ℕ} → rows' ≡ joined_rows rows u v → Joining n done rows' u (v + 1)
  unfolding folded
  join_next m b h r = record {
    ahead =
        ap (λ (k : List ℕ). folded joined k (pairs_from n u (v + 1))) (r ∙ joined-low rows u v (omega arith) (omega arith))
        ∙ ap (folded joined rows) (sym (pairs_next n u v h)) ∙ d.ahead;
  }

  pub join_end : n ≤ u → u < v → rows ≡ done
  unfolding folded
  join_end h b = ap (folded joined rows) (sym (pairs_end n u v h b)) ∙ d.ahead
