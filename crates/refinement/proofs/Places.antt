-- Pointers place by place: tables that agree at every place are the same, and what clearing a vertex, mating and unmating beside x change. Assumes nothing.
use Prim.Native.Nat.{ℕ, zero, suc, ◌+◌, ◌*◌, ◌/◌, ◌%◌, ◌<◌}
use mathlib.Core.List.{List, [], ◌∷◌}
use mathlib.Core.Path.{◌≡◌, refl, sym, ap, ◌∙◌}
use mathlib.Core.Logic.{◌⊎◌, inl, inr, ◌≢◌}
use native.Mathlib.Omega.{arith}
use native.Mathlib.Decide.{ℕ_discrete}
use lib.ListN.{length, get_or}
use lib.Seq.{ext_get_or}
use borrow.Author.Tests.{lt-ltb, eq-eqb, ne_eqb}
use Rattle.vertexset.specs.Set.{capacity}
use Rattle.connectivity.specs.Lists.{In}
use Rattle.connectivity.proofs.Paths.{head_of}
use Rattle.links.specs.Tables.{pointer_count, pointer, pointed, point_along, mates, cleared, mated_aside, unmated_aside}
use Rattle.refinement.proofs.Pointers.{pointed-length, pointed-same, pointed-apart, path_list, along-step, along-none}
use Rattle.refinement.proofs.Mates.{mated-length}

pub same_pointers : (p q : List ℕ) → length p ≡ pointer_count → length q ≡ pointer_count → ((i w : ℕ) → i < 3 → w < capacity → pointer p (i * capacity) w ≡ pointer q (i * capacity) w) → p ≡ q
same_pointers p q lp lq same = ext_get_or 0 p q (lp ∙ sym lq) at
  where
    at : (k : ℕ) → k < length p → get_or p k 0 ≡ get_or q k 0
    at k h =
        let low : k % capacity < capacity = omega arith in
        let z : k / capacity * capacity + k % capacity ≡ k = omega arith in
        let s : pointer p (k / capacity * capacity) (k % capacity) ≡ pointer q (k / capacity * capacity) (k % capacity) = same (k / capacity) (k % capacity) (omega arith) low in
        rw z at (rw (lt-ltb (k % capacity) capacity low) at s)

-- v's pointer in part i is set: that of w in part j stays, unless both are the same
pub pointed-other : (p : List ℕ) (i v to j w : ℕ) → (j ≡ i → w ≢ v) → pointer (pointed p (i * capacity) v to) (j * capacity) w ≡ pointer p (j * capacity) w
pointed-other p i v to j w n = pointed-apart p (i * capacity) v to (j * capacity) w (λ h k e. n (omega arith) (omega arith))

-- A VERTEX THAT IS CLEARED
module _ (p : List ℕ) (v : ℕ) where
  abbrev one : List ℕ
  one = pointed p 0 v 0

  abbrev two : List ℕ
  two = pointed one capacity v 0

  pub cleared-length : length (cleared p v) ≡ length p
  cleared-length = pointed-length two mates v 0 ∙ pointed-length one capacity v 0 ∙ pointed-length p 0 v 0

  pub cleared-other : (i w : ℕ) → w ≢ v → pointer (cleared p v) (i * capacity) w ≡ pointer p (i * capacity) w
  cleared-other i w n = pointed-other two 2 v 0 i w (λ e. n) ∙ pointed-other one 1 v 0 i w (λ e. n) ∙ pointed-other p 0 v 0 i w (λ e. n)

  module _ (long : length p ≡ pointer_count) (low : v < capacity) where
    long_one : length one ≡ pointer_count
    long_one = pointed-length p 0 v 0 ∙ long

    long_two : length two ≡ pointer_count
    long_two = pointed-length one capacity v 0 ∙ long_one

    pub cleared-none : (i : ℕ) → i < 3 → pointer (cleared p v) (i * capacity) v ≡ 0
    cleared-none zero h = pointed-other two 2 v 0 0 v (λ e. absurd (omega arith)) ∙ pointed-other one 1 v 0 0 v (λ e. absurd (omega arith)) ∙ pointed-same p 0 v 0 (omega arith) low
    cleared-none (suc zero) h = pointed-other two 2 v 0 1 v (λ e. absurd (omega arith)) ∙ pointed-same one capacity v 0 (omega (arith, long_one)) low
    cleared-none (suc (suc zero)) h = pointed-same two mates v 0 (omega (arith, long_two)) low
    cleared-none (suc (suc (suc i))) h = absurd (omega arith)

-- the vertices of a list, the last first
abbrev pub cleared_all : List ℕ → List ℕ → List ℕ
cleared_all p [] = p
cleared_all p (v ∷ l) = cleared (cleared_all p l) v

pub all-cleared_length : (p l : List ℕ) → length (cleared_all p l) ≡ length p
all-cleared_length p [] = refl
all-cleared_length p (v ∷ l) = cleared-length (cleared_all p l) v ∙ all-cleared_length p l

pub all-cleared_other : (p l : List ℕ) (i w : ℕ) → ¬ In w l → pointer (cleared_all p l) (i * capacity) w ≡ pointer p (i * capacity) w
all-cleared_other p [] i w n = refl
all-cleared_other p (v ∷ l) i w n = cleared-other (cleared_all p l) v i w (λ e. n (inl e)) ∙ all-cleared_other p l i w (λ k. n (inr k))

pub all-cleared_none : (p l : List ℕ) → length p ≡ pointer_count → ((w : ℕ) → In w l → w < capacity) → (i w : ℕ) → i < 3 → In w l → pointer (cleared_all p l) (i * capacity) w ≡ 0
all-cleared_none p [] long low i w h k = absurd k
all-cleared_none p (v ∷ l) long low i w h k = go (ℕ_discrete w v) k (λ j. all-cleared_none p l long (λ u m. low u (inr m)) i w h j)
  where
    go : Dec (w ≡ v) → In w (v ∷ l) → (In w l → pointer (cleared_all p l) (i * capacity) w ≡ 0) → pointer (cleared_all p (v ∷ l)) (i * capacity) w ≡ 0
    go (yes e) k later = rw e (cleared-none (cleared_all p l) v (all-cleared_length p l ∙ long) (low v (inl refl)) i h)
    go (no n) (inl e) later = absurd (n e)
    go (no n) (inr j) later = cleared-other (cleared_all p l) v i w n ∙ later j

-- pointers along a path are no mates
pub along-mates : (p : List ℕ) (u : ℕ) (l : List ℕ) (t w : ℕ) → pointer (point_along p (path_list u l t)) mates w ≡ pointer p mates w
along-mates p u [] t w = ap (λ (q : List ℕ). pointer q mates w) (along-none p u t)
along-mates p u (v ∷ l) t w =
    let x = head_of l t in
    ap (λ (q : List ℕ). pointer q mates w) (along-step p u v l t)
    ∙ along-mates (pointed (pointed p 0 v u) capacity v x) v l t w
    ∙ pointed-other (pointed p 0 v u) 1 v x 2 w (λ e. absurd (omega arith))
    ∙ pointed-other p 0 v u 2 w (λ e. absurd (omega arith))

-- ON ONE SIDE OF x: w is its neighbour y there, and x itself is not outermost
abbrev pub Neighbour : ℕ → ℕ → ℕ → ℕ → Type 0
Neighbour x outer y w = (x ≢ outer) × (w ≡ y)

pub neighbour? : (x outer y w : ℕ) → Neighbour x outer y w ⊎ (¬ Neighbour x outer y w)
neighbour? x outer y w = go (ℕ_discrete x outer) (ℕ_discrete w y)
  where
    go : Dec (x ≡ outer) → Dec (w ≡ y) → Neighbour x outer y w ⊎ (¬ Neighbour x outer y w)
    go (yes e) d = inr (λ k. k.0 e)
    go (no n) (yes e) = inl (n, e)
    go (no n) (no m) = inr (λ k. m k.1)

module _ (p : List ℕ) (part x outer : ℕ) where
  abbrev y : ℕ
  y = pointer p part x

  pub aside_length : length (mated_aside p part x outer) ≡ length p
  aside_length = go (ℕ_discrete x outer)
    where
      go : Dec (x ≡ outer) → length (mated_aside p part x outer) ≡ length p
      go (yes e) = rw (eq-eqb x outer e)
      go (no n) = rw (ne_eqb x outer n) (mated-length p outer y)

  pub aside_other : (i w : ℕ) → (i ≡ 2 → (w ≢ outer) × (¬ Neighbour x outer y w)) → pointer (mated_aside p part x outer) (i * capacity) w ≡ pointer p (i * capacity) w
  aside_other i w n = go (ℕ_discrete x outer)
    where
      go : Dec (x ≡ outer) → pointer (mated_aside p part x outer) (i * capacity) w ≡ pointer p (i * capacity) w
      go (yes e) = rw (eq-eqb x outer e)
      go (no d) = rw (ne_eqb x outer d) (pointed-other (pointed p mates outer y) 2 y outer i w (λ e k. (n e).1 (d, k)) ∙ pointed-other p 2 outer y i w (λ e. (n e).0))

  pub unmated_length : length (unmated_aside p part x outer) ≡ length p
  unmated_length = go (ℕ_discrete x outer)
    where
      go : Dec (x ≡ outer) → length (unmated_aside p part x outer) ≡ length p
      go (yes e) = rw (eq-eqb x outer e)
      go (no n) = rw (ne_eqb x outer n) (pointed-length p mates y 0)

  pub unmated_other : (i w : ℕ) → (i ≡ 2 → ¬ Neighbour x outer y w) → pointer (unmated_aside p part x outer) (i * capacity) w ≡ pointer p (i * capacity) w
  unmated_other i w n = go (ℕ_discrete x outer)
    where
      go : Dec (x ≡ outer) → pointer (unmated_aside p part x outer) (i * capacity) w ≡ pointer p (i * capacity) w
      go (yes e) = rw (eq-eqb x outer e)
      go (no d) = rw (ne_eqb x outer d) (pointed-other p 2 y 0 i w (λ e k. n e (d, k)))

  pub unmated_none : length p ≡ pointer_count → (w : ℕ) → w < capacity → Neighbour x outer y w → pointer (unmated_aside p part x outer) mates w ≡ 0
  unmated_none long w low k = go k.0 k.1
    where
      go : x ≢ outer → w ≡ y → pointer (unmated_aside p part x outer) mates w ≡ 0
      go d e = rw (ne_eqb x outer d, ← e) (pointed-same p mates w 0 (omega arith) low)
