-- Neighbours in a list are joined, pair by pair. Assumes nothing.
use Prim.Native.Nat.{ℕ, ◌≤◌, ◌<◌}
use mathlib.Core.Path.{◌≡◌, refl}
use mathlib.Core.List.{List, [], ◌∷◌}
use native.Mathlib.Omega.{arith}
use lib.ListN.{length, get_or, take, drop}
use Rattle.graph.specs.Rows.{joined_rows}
use Rattle.construction.specs.Start.{marked}

pub marked-short : (table l : List ℕ) → length l < 2 → marked table l ≡ table
unfolding marked
marked-short table [] h = refl
marked-short table (u ∷ []) h = refl
marked-short table (u ∷ (v ∷ l)) h = absurd (omega arith)

-- the next link is joined, and one vertex is past
pub marked_link : (table l : List ℕ) {link rest out : List ℕ} → 2 ≤ length l → link ≡ take 2 l → rest ≡ drop 1 l
    → out ≡ joined_rows table (get_or link 0 0) (get_or link 1 0) → marked out rest ≡ marked table l
unfolding marked
marked_link table [] h p q e = absurd (omega arith)
marked_link table (u ∷ []) h p q e = absurd (omega arith)
marked_link table (u ∷ (v ∷ l)) h p q e = rw (q, e, p)
