-- THE NUMBERS OF PATHS: each path is its length and its vertices; and how many bytes numbers take.
use Prim.Native.Nat.{ℕ, zero, suc, ◌+◌, ◌*◌, ◌≤◌, ◌<◌}
use mathlib.Core.Path.{◌≡◌, refl, ap, ◌∙◌}
use mathlib.Core.Bool.{Bool, true, false, cond}
use mathlib.Core.Logic.{◌⊎◌, inl, inr, ⊎_elim, ⊎_map}
use mathlib.Core.List.{List, [], ◌∷◌, ◌++◌}
use native.Mathlib.Omega.{arith}
use lib.ListN.{length, get_or, length-append}
use lib.Dec.{leb}
use borrow.Author.Tests.{ne_eqb, leb-true}
use Rattle.record.specs.Number.{number_bytes, list_bytes}
use Rattle.record.proofs.Write.{one_byte, few_bytes}
use Rattle.certificates.specs.Lengths.{path_numbers}
use Rattle.connectivity.specs.Lists.{In}
use Rattle.connectivity.specs.Path.{Path, vertices}
use Rattle.connectivity.proofs.Lists.{in_left, in_right, in_append}
use Rattle.connectivity.proofs.Paths.{built_vertices}
use Rattle.construction.specs.Sets.{stop}
use Rattle.construction.specs.Certificate.{length_on, lengthened, vertex_bytes}
use Rattle.construction.proofs.Basics.{flatten}
use Rattle.vertexset.specs.Set.{capacity}

-- vertices stay, and are counted
on_vertex : (v : ℕ) (r : List ℕ × ℕ) → v < capacity → length_on v r ≡ (v ∷ r.0, r.1 + 1)
on_vertex v r h = ap (λ (b : Bool). cond b (r.1 ∷ r.0, 0) (v ∷ r.0, r.1 + 1)) (ne_eqb v stop (λ e. omega arith))

lengthened-behind : (l m : List ℕ) → ((w : ℕ) → In w l → w < capacity) → ((lengthened (l ++ m)).0 ≡ l ++ (lengthened m).0) × ((lengthened (l ++ m)).1 ≡ length l + (lengthened m).1)
unfolding lengthened
lengthened-behind [] m low = (refl, omega arith)
lengthened-behind (v ∷ l) m low =
    let r = lengthened-behind l m (λ w h. low w (inr h)) in
    let e = on_vertex v (lengthened (l ++ m)) (low v (inl refl)) in
    (ap (λ (p : List ℕ × ℕ). p.0) e ∙ ap (λ (k : List ℕ). v ∷ k) r.0, ap (λ (p : List ℕ × ℕ). p.1) e ∙ omega (arith, r.1))

-- PATH BY PATH
flat_numbers : (ps : List Path) → ((w : ℕ) → In w (built_vertices ps) → w < capacity) → ((lengthened (flatten ps)).0 ≡ path_numbers ps) × ((lengthened (flatten ps)).1 ≡ 0)
unfolding lengthened
flat_numbers [] low = (refl, refl)
flat_numbers (P ∷ ps) low =
    let r = flat_numbers ps (λ w h. low w (in_right w (vertices P) (built_vertices ps) h)) in
    let s = lengthened-behind (vertices P) (flatten ps) (λ w h. low w (in_left w (vertices P) (built_vertices ps) h)) in
    let k : (lengthened (vertices P ++ flatten ps)).1 ≡ length (vertices P) = omega (arith, r.1, s.1) in
    ((λ i. k i ∷ (s.0 ∙ ap (λ (m : List ℕ). vertices P ++ m) r.0) i), refl)

pub lengthened-paths : (ps : List Path) → ((w : ℕ) → In w (built_vertices ps) → w < capacity) → (lengthened (flatten ps)).0 ≡ path_numbers ps
lengthened-paths ps low = (flat_numbers ps low).0

-- a number of paths is a vertex or a length
pub path-number : (ps : List Path) (w : ℕ) → In w (path_numbers ps) → In w (built_vertices ps) ⊎ ((P : Path) × In P ps × (w ≡ length (vertices P)))
path-number [] w h = absurd h
path-number (P ∷ ps) w (inl e) = inr (P, inl refl, e)
path-number (P ∷ ps) w (inr h) = ⊎_elim (λ k. inl (in_left w (vertices P) (built_vertices ps) k)) (λ k. ⊎_map (in_right w (vertices P) (built_vertices ps)) (λ r. (r.0, inr r.1, r.2)) (path-number ps w k)) (in_append w (vertices P) (path_numbers ps) h)

-- THE BYTES: at most two a number; one where it is below 128
pub bytes_twice : (l : List ℕ) → length (list_bytes number_bytes l) ≤ 2 * length l
unfolding list_bytes
bytes_twice [] = omega arith
bytes_twice (v ∷ l) = omega (arith, bytes_twice l, few_bytes v, length-append (number_bytes v) (list_bytes number_bytes l))

pub bytes_once : (l : List ℕ) → ((w : ℕ) → In w l → w < 128) → length (list_bytes number_bytes l) ≡ length l
unfolding list_bytes
bytes_once [] low = refl
bytes_once (v ∷ l) low = omega (arith, bytes_once l (λ w h. low w (inr h)), ap length (one_byte v (low v (inl refl))), length-append (number_bytes v) (list_bytes number_bytes l))

-- a list of vertices
pub bytes_vertices : (l : List ℕ) → ((w : ℕ) → In w l → w < capacity) → length (list_bytes number_bytes l) ≤ vertex_bytes * length l
bytes_vertices l low = go (leb capacity 128) refl
  where
    go : (b : Bool) → leb capacity 128 ≡ b → length (list_bytes number_bytes l) ≤ cond b 1 2 * length l
    go true e = let once = bytes_once l (λ w h. let c : capacity ≤ 128 = leb-true _ _ e in omega (arith, low w h)) in omega arith
    go false e = bytes_twice l

-- every place of a list whose numbers are below a bound
pub places_low : (b : ℕ) → 0 < b → (l : List ℕ) → ((w : ℕ) → In w l → w < b) → (i : ℕ) → get_or l i 0 < b
places_low b pos [] low i = pos
places_low b pos (v ∷ l) low zero = low v (inl refl)
places_low b pos (v ∷ l) low (suc i) = places_low b pos l (λ w h. low w (inr h)) i
