-- Walks: along a path, out of a closed set, and in a graph that lacks an edge. Assumes nothing.
use mathlib.Core.Path.{◌≡◌, refl}
use mathlib.Core.Logic.{◌⊎◌, ◌≢◌, inl, inr, ⊎_elim}
use mathlib.Core.Bool.{true}
use mathlib.Core.List.{List, [], ◌∷◌, ◌++◌}
use Prim.Native.Nat.{ℕ, ◌<◌}
use native.Mathlib.Omega.{arith}
use Rattle.connectivity.specs.Lists.{In}
use Rattle.connectivity.specs.Graph.{Graph, Adj, Simple, Walk, stay, hop, AllConnected}
use Rattle.connectivity.specs.Connectivity.{all_connected, connectivity}
use Rattle.connectivity.specs.Path.{Along}
use Rattle.connectivity.proofs.Lists.{in?, bool?}
use Rattle.connectivity.proofs.Paths.{SamePair}
use Rattle.connectivity.proofs.Search.{Closed}
use Rattle.connectivity.proofs.Walks.{walk_trans, walk_back}
use Rattle.connectivity.proofs.Separators.{separator_2}
use Rattle.connectivity.proofs.Closure.{connected_true, connected_false, connectivity-is}

-- a path whose vertices are left is a walk
pub along-walk : (g : Graph) (X : List ℕ) (s : ℕ) (l : List ℕ) (t : ℕ) → Along (Adj g) s l t → ((w : ℕ) → In w (s ∷ (l ++ (t ∷ []))) → ¬ In w X) → Walk g X s t
along-walk g X s [] t a f = hop a (f s (inl refl)) (f t (inr (inl refl))) stay
along-walk g X s (b ∷ l) t a f = hop a.0 (f s (inl refl)) (f b (inr (inl refl))) (along-walk g X b l t a.1 (λ w m. f w (inr m)))

-- no walk leaves a closed set where the removed vertices are removed
pub closed_walk : {g : Graph} {S G R : ℕ → Type 0} (c : Closed g S G R) {X : List ℕ} → ((w : ℕ) → R w → In w X) → {u v : ℕ} → Walk g X u v → c.side u ≡ true → c.side v ≡ true
closed_walk c i stay e = e
closed_walk c i (hop {u = u} {v = v} a f h j) e = closed_walk c i j (c.closed u v e a (λ r. h (i v r)))

-- no vertex of a list stands in another, or one does
pub apart? : (X l : List ℕ) → ((z : ℕ) → In z l → ¬ In z X) ⊎ ((z : ℕ) × In z l × In z X)
apart? X [] = inl (λ z h. absurd h)
apart? X (a ∷ l) = go (in? a X) (apart? X l)
  where
    both : ¬ In a X → ((z : ℕ) → In z l → ¬ In z X) → (z : ℕ) → In z (a ∷ l) → ¬ In z X
    both h f z (inl e) = rw e h
    both h f z (inr k) = f z k

    go : Dec (In a X) → ((z : ℕ) → In z l → ¬ In z X) ⊎ ((z : ℕ) × In z l × In z X) → ((z : ℕ) → In z (a ∷ l) → ¬ In z X) ⊎ ((z : ℕ) × In z (a ∷ l) × In z X)
    go (yes h) r = inr (a, inl refl, h)
    go (no h) (inl f) = inl (both h f)
    go (no h) (inr r) = inr (r.0, inr r.1, r.2)

-- an edge that the other graph lacks is replaced by a walk between its ends
pub replaced : {g h : Graph} {X : List ℕ} {u v : ℕ} → Simple h → ((a b : ℕ) → Adj g a b → Adj h a b ⊎ SamePair a b u v) → (¬ In u X → ¬ In v X → Walk h X v u)
    → {a b : ℕ} → Walk g X a b → Walk h X a b
replaced p other way stay = stay
replaced {g} {h} {X} {u} {v} p other way (hop {u = a} {v = b} k f j r) = walk_trans (edge (other a b k)) (replaced p other way r)
  where
    edge : Adj h a b ⊎ SamePair a b u v → Walk h X a b
    edge (inl e) = hop e f j stay
    edge (inr (inl e)) = rw (e.0, e.1) (walk_back p (way (rw e.0 at f) (rw e.1 at j)))
    edge (inr (inr e)) = rw (e.0, e.1) (way (rw e.1 at j) (rw e.0 at f))

-- no two vertices separate a graph of connectivity 3
pub three_connected : (g : Graph) → Simple g → connectivity g ≡ 3 → (c d : ℕ) → c < g.n → d < g.n → c ≢ d → AllConnected g (c ∷ (d ∷ []))
three_connected g p e c d hc hd ne = ⊎_elim (connected_true g (c ∷ (d ∷ [])) p)
    (λ k. absurd ((connectivity-is g p 3 (rw e refl)).least 2 (omega arith) (separator_2 g c d hc hd ne (connected_false g (c ∷ (d ∷ [])) p k)))) (bool? (all_connected g (c ∷ (d ∷ []))))
