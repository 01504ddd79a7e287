-- Lists as the loops take them: what is left of a list; the last of one; one number more. Assumes nothing.
use Prim.Native.Nat.{ℕ, suc, ◌+◌, ◌-◌, ◌≤◌, ◌<◌}
use mathlib.Core.Path.{◌≡◌, refl, ap}
use mathlib.Core.List.{List, [], ◌∷◌}
use native.Mathlib.Omega.{arith}
use lib.ListN.{length, drop, get_or, drop_of_length-le}
use Rattle.record.specs.Read.{folded}
use Rattle.vertexset.specs.declared.VertexSet.{VertexSet}
use Rattle.vertexset.proofs.Steps.{drop_next}
use Rattle.construction.specs.Sets.{last_of}

-- what a list does to a set, one vertex after the other
module _ (f : VertexSet → ℕ → VertexSet) (s : VertexSet) where
  pub fold_turn : (l : List ℕ) (i : ℕ) → i < length l → folded f s (drop i l) ≡ folded f (f s (get_or l i 0)) (drop (i + 1) l)
  unfolding folded
  fold_turn l i h = ap (λ (k : List ℕ). folded f s k) (drop_next l i h)

  pub fold_end : (l : List ℕ) (i : ℕ) → length l ≤ i → folded f s (drop i l) ≡ s
  unfolding folded
  fold_end l i h = ap (λ (k : List ℕ). folded f s k) (drop_of_length-le l h)

pub last_at : (l : List ℕ) → get_or l (length l - 1) 0 ≡ last_of l
unfolding last_of
last_at [] = refl
last_at (a ∷ []) = refl
last_at (a ∷ (b ∷ l)) =
    let e : suc (suc (length l)) - 1 ≡ suc (suc (length l) - 1) = omega arith in
    rw e (last_at (b ∷ l))
