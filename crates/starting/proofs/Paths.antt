-- The three paths of a start, one after the other in an array. Assumes nothing.
use Prim.Native.Nat.{ℕ, zero, suc, ◌+◌, ◌-◌, ◌≤◌, ◌<◌}
use mathlib.Core.Path.{◌≡◌, refl, ap, subst}
use mathlib.Core.List.{List, [], ◌∷◌}
use native.Mathlib.Omega.{arith}
use lib.ListN.{length, take, replicate}
use Rattle.search.specs.Code.{path_room}
use Rattle.construction.specs.Sets.{stop}
use Rattle.construction.specs.Ears.{path_space, add_path}
use Rattle.construction.specs.Start.{marked, three_paths}
use Rattle.detours.proofs.Filled.{Put, Filled, filled_take, filled_added, filled_put, filled_none}

filled_zero : (room : ℕ) → 0 < room → Filled room (replicate room 0) 1 (0 ∷ [])
filled_zero zero h = absurd (omega arith)
filled_zero (suc room) h = record { array = let z : suc room - 1 ≡ room = omega arith in rw z; short = omega arith; size = refl }

-- the cycle, closed, in an array of its own
closed_filled : (around : List ℕ) → length around ≤ path_room → {out : List ℕ} {end : ℕ} → Put (replicate (path_room + 1) 0) 1 out end around → Filled (path_room + 1) out end (0 ∷ around)
closed_filled around h p = filled_put (filled_zero (path_room + 1) (omega arith)) around (omega arith) p.0 p.1

module _ (around third across : List ℕ) (h : length around ≤ path_room) {closed a b flat : List ℕ} {k at bt len : ℕ} (p : Put (replicate (path_room + 1) 0) 1 closed k around)
    (q : Put (replicate path_space 0) 0 a at (stop ∷ take (k - 0) closed)) (r : Put a at b bt (stop ∷ third)) (s : Put b bt flat len (stop ∷ across)) where
  closed_take : take (k - 0) closed ≡ 0 ∷ around
  closed_take = let z : k - 0 ≡ k = omega arith in rw z (filled_take (closed_filled around h p))

  three_filled : Filled path_space flat len (three_paths around third across)
  three_filled =
      let f : Filled path_space a at (add_path [] (0 ∷ around)) = subst (λ (l : List ℕ). Filled path_space a at (add_path [] l)) closed_take (filled_added (filled_none path_space) (stop ∷ take (k - 0) closed) q.0 q.1) in
      filled_added (filled_added f (stop ∷ third) r.0 r.1) (stop ∷ across) s.0 s.1

  pub three_marked : (table : List ℕ) → marked table (take (len - 0) flat) ≡ marked table (three_paths around third across)
  three_marked table = let z : len - 0 ≡ len = omega arith in ap (marked table) (rw z (filled_take three_filled))
