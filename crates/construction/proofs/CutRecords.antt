-- CERTIFICATES OF KINDS 0 TO 2, as the numbers of their records: what is removed, the evidence, and the side.
use Prim.Native.Nat.{ℕ, ◌+◌, ◌*◌, ◌≤◌, ◌<◌}
use mathlib.Core.Path.{◌≡◌, refl}
use mathlib.Core.Logic.{inl, inr, ⊎_elim}
use mathlib.Core.List.{List, [], ◌∷◌, ◌++◌}
use native.Mathlib.Omega.{arith}
use lib.ListN.{length, get_or}
use Rattle.record.specs.Number.{number_bytes, list_bytes, number_limit}
use Rattle.certificates.specs.Lengths.{path_numbers, pair_numbers, record_numbers, number_count}
use Rattle.certificates.proofs.Lengths.{numbers_count}
use Rattle.connectivity.specs.Lists.{In, NoDup}
use Rattle.connectivity.specs.Graph.{Graph, Simple, Adj}
use Rattle.connectivity.specs.Path.{Path, vertices, IsPath}
use Rattle.connectivity.specs.Certificate.{Certificate, Certificate.separation, Certificate.tree, Certificate.ears, Rules, Separation, Tree, TreeRules, Cycle, Ears, EarRules}
use Rattle.connectivity.proofs.Lists.{in_append, at_most}
use Rattle.connectivity.proofs.Paths.{built_vertices, built_in_lem}
use Rattle.connectivity.proofs.Edges.{edge-high, path-low}
use Rattle.vertexset.specs.Set.{capacity}
use Rattle.construction.specs.Ears.{path_space}
use Rattle.construction.specs.Certificate.{certificate_room}
use Rattle.construction.proofs.NumberLaws.{path-number, bytes_twice, places_low}

-- WHAT NUMBERS CAN BE: those of a certificate that keeps every rule; they fit a record.
pub record Written (g : Graph) (l : List ℕ) : Type 0 where
  pub certificate : Certificate
  pub rules : Rules g certificate
  pub numbers : l ≡ record_numbers certificate
  pub few : length l ≤ path_space
  pub short : length (list_bytes number_bytes l) ≤ certificate_room
  pub small : (i : ℕ) → get_or l i 0 < number_limit

pub low_small : (l : List ℕ) → ((w : ℕ) → In w l → w < (capacity + 1)) → (i : ℕ) → get_or l i 0 < number_limit
low_small l low i = let h = places_low (capacity + 1) (omega arith) l low i in omega arith

module _ (g : Graph) (p : Simple g) (big : g.n ≤ capacity) where
  -- few numbers, two bytes each
  written : (x : Certificate) → Rules g x → number_count g x ≤ 5 * g.n + 8 → ((w : ℕ) → In w (record_numbers x) → w < (capacity + 1)) → Written g (record_numbers x)
  written x r few low =
      let n : length (record_numbers x) ≤ 5 * capacity + 8 = omega (arith, numbers_count g p x r) in
      record { certificate = x; rules = r; numbers = refl; few = omega arith; short = omega (arith, bytes_twice (record_numbers x)); small = low_small (record_numbers x) low }

  -- a side in a record
  side-most : (X S : List ℕ) → Separation g X S → NoDup S → length S ≤ g.n
  side-most X S s nd = at_most g.n S nd (λ w h. (s.remaining w h).0)

  side-number : (X S : List ℕ) → Separation g X S → NoDup S → (w : ℕ) → In w (length S ∷ S) → w < (capacity + 1)
  side-number X S s nd w (inl e) = omega (arith, side-most X S s nd)
  side-number X S s nd w (inr h) = omega (arith, (s.remaining w h).0)

  -- ---- kind 0

  pub none_written : (S : List ℕ) → Separation g [] S → NoDup S → Written g (record_numbers (separation S))
  none_written S s nd = written (separation S) s (omega (arith, side-most [] S s nd)) low
    where
      low : (w : ℕ) → In w (0 ∷ (length S ∷ S)) → w < (capacity + 1)
      low w (inl e) = omega arith
      low w (inr h) = side-number [] S s nd w h

  -- ---- kind 1

  pair-number : (named : List ℕ) (ps : List (ℕ × ℕ)) → Tree g named ps → (w : ℕ) → In w (pair_numbers ps) → w < g.n
  pair-number named [] t w h = absurd h
  pair-number named (e ∷ ps) t w (inl i) = rw i (p.low e.0 e.1 t.2)
  pair-number named (e ∷ ps) t w (inr (inl i)) = rw i (edge-high g p e.0 e.1 t.2)
  pair-number named (e ∷ ps) t w (inr (inr h)) = pair-number (e.0 ∷ named) ps t.3 w h

  pub one_written : (c first : ℕ) (ps : List (ℕ × ℕ)) (S : List ℕ) → TreeRules g c first ps S → NoDup S → Written g (record_numbers (tree c first ps S))
  one_written c first ps S r nd = written (tree c first ps S) r (omega (arith, side-most (c ∷ []) S r.separation nd)) low
    where
      low : (w : ℕ) → In w (1 ∷ (c ∷ (first ∷ (pair_numbers ps ++ (length S ∷ S))))) → w < (capacity + 1)
      low w (inl e) = omega arith
      low w (inr (inl e)) = omega (arith, r.c_low)
      low w (inr (inr (inl e))) = omega (arith, r.first_low)
      low w (inr (inr (inr h))) = ⊎_elim (λ k. omega (arith, pair-number (first ∷ []) ps r.tree w k)) (side-number (c ∷ []) S r.separation nd w) (in_append w (pair_numbers ps) (length S ∷ S) h)

  -- ---- kind 2

  ears-path : (B : List ℕ) (es : List Path) → Ears g B es → (P : Path) → In P es → IsPath (Adj g) P
  ears-path B [] y P h = absurd h
  ears-path B (Q ∷ es) y P (inl e) = rw e y.0.is_path
  ears-path B (Q ∷ es) y P (inr h) = ears-path (Q.inner ++ B) es y.1 P h

  module _ (first : Path) (later : List Path) (cycle : Cycle g first) (y : Ears g (vertices first) later) where
    abbrev all : List Path
    all = first ∷ later

    ear-path : (P : Path) → In P all → IsPath (Adj g) P
    ear-path P (inl e) = rw e cycle.is_path
    ear-path P (inr h) = ears-path (vertices first) later y P h

    pub ear-vertex : (w : ℕ) → In w (built_vertices all) → w < g.n
    ear-vertex w h = let r = built_in_lem all w h in path-low g p r.0 (ear-path r.0 r.1) w r.2

    ear-number : (w : ℕ) → In w (path_numbers all) → w ≤ g.n
    ear-number w h = ⊎_elim (λ k. omega (arith, ear-vertex w k)) (λ r. omega (arith, at_most g.n (vertices r.0) (ear-path r.0 r.1).nodup (path-low g p r.0 (ear-path r.0 r.1)))) (path-number all w h)

  pub two_written : (c d : ℕ) (first : Path) (later : List Path) (S : List ℕ) → EarRules g c d first later S → NoDup S → Written g (record_numbers (ears c d first later S))
  two_written c d first later S r nd = written (ears c d first later S) r (omega (arith, r.count, side-most (c ∷ (d ∷ [])) S r.separation nd)) low
    where
      low : (w : ℕ) → In w (record_numbers (ears c d first later S)) → w < (capacity + 1)
      low w (inl e) = omega arith
      low w (inr (inl e)) = omega (arith, r.order, r.low)
      low w (inr (inr (inl e))) = omega (arith, r.low)
      low w (inr (inr (inr (inl e)))) = omega (arith, r.count)
      low w (inr (inr (inr (inr h)))) = ⊎_elim (λ k. omega (arith, ear-number first later r.first r.ears w k)) (side-number (c ∷ (d ∷ [])) S r.separation nd w) (in_append w (path_numbers (first ∷ later)) (length S ∷ S) h)
