-- The two lists of a search are as long as each other, and no longer than a half of its space. Assumes nothing.
use Prim.Native.Nat.{ℕ, zero, suc, ◌+◌, ◌≤◌}
use mathlib.Core.Path.{◌≡◌}
use mathlib.Core.Bool.{Bool, true, false, cond}
use mathlib.Core.List.{List, ◌++◌}
use native.Mathlib.Omega.{arith}
use lib.Dec.{ltb, leb}
use lib.ListN.{length, get_or, replicate, length-append, length-replicate}
use Rattle.vertexset.specs.declared.VertexSet.{VertexSet}
use Rattle.graph.specs.Rows.{row_of}
use Rattle.construction.specs.Sets.{plus, minus, common, members, least, added}
use Rattle.construction.specs.Search.{Reach, reach, visit, explore}
use Rattle.search.proofs.Members.{members-low}
use Rattle.search.proofs.Placed.{added-length}
use Rattle.vertexset.specs.Set.{capacity}

-- at least so many were reached
pub record Sized (k : ℕ) (r : Reach) : Type 0 where
  pub same : length r.from ≡ length r.order
  pub low : length r.order ≤ capacity
  pub most : k ≤ length r.order

-- the places grow as the vertices do
module _ (l p ms : List ℕ) (v : ℕ) (same : length p ≡ length l) where
  pub grown_same : length (added capacity p (replicate (length ms) v)) ≡ length (added capacity l ms)
  grown_same = rw (length-replicate {A = ℕ} (length ms) v, same) (go (leb (length l + length ms) capacity))
    where
      go : (b : Bool) → length (cond b (p ++ replicate (length ms) v) p) ≡ length (cond b (l ++ ms) l)
      go true = omega (arith, length-append p (replicate (length ms) v), length-replicate {A = ℕ} (length ms) v, length-append l ms)
      go false = same

  grown : length l ≤ length (added capacity l ms)
  grown = go (leb (length l + length ms) capacity)
    where
      go : (b : Bool) → length l ≤ length (cond b (l ++ ms) l)
      go true = omega (arith, length-append l ms)
      go false = omega arith

pub visit-sized : (rows : List ℕ) (goals : VertexSet) (seeds k : ℕ) (order from : List ℕ) (shut : VertexSet) (h : ℕ) → length from ≡ length order → length order ≤ capacity
    → Sized (length order) (visit rows goals seeds k order from shut h)
unfolding visit
visit-sized rows goals seeds zero order from shut h s l = record { same = s; low = l; most = omega arith }
visit-sized rows goals seeds (suc k) order from shut h s l =
    go (members (minus (row_of rows (get_or order h 0)) shut)) _ (ltb h (length order)) (ltb (least (common (row_of rows (get_or order h 0)) goals)) capacity)
    (λ (ms : List ℕ). visit-sized rows goals seeds k (added capacity order ms) (added capacity from (replicate (length ms) h)) (plus shut (row_of rows (get_or order h 0))) (h + 1)
    (grown_same order from ms h s) (added-length capacity order ms l))
  where
    go : (ms : List ℕ) (x : ℕ) (p q : Bool)
        → ((ms : List ℕ) → Sized (length (added capacity order ms)) (visit rows goals seeds k (added capacity order ms) (added capacity from (replicate (length ms) h)) (plus shut (row_of rows (get_or order h 0))) (h + 1)))
        → Sized (length order)
        (cond p (cond q (reach order from seeds shut x h) (visit rows goals seeds k (added capacity order ms) (added capacity from (replicate (length ms) h)) (plus shut (row_of rows (get_or order h 0))) (h + 1)))
        (reach order from seeds shut capacity h))
    go ms x true true i = record { same = s; low = l; most = omega arith }
    go ms x true false i = record { same = (i ms).same; low = (i ms).low; most = omega (arith, (i ms).most, grown order from ms h s) }
    go ms x false q i = record { same = s; low = l; most = omega arith }

pub explore-sized : (rows : List ℕ) (seeds goals removed : VertexSet) → Sized (length (members seeds)) (explore rows seeds goals removed)
unfolding explore
explore-sized rows seeds goals removed =
    visit-sized rows goals (length (members seeds)) capacity (members seeds) (replicate (length (members seeds)) 0) (plus seeds removed) 0
    (length-replicate {A = ℕ} (length (members seeds)) 0) (members-low seeds)
