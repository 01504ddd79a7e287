-- The code tries a path's vertices one after the other: what is left of the path gives the answer. Assumes nothing.
use Prim.Native.Nat.{ℕ, zero, suc, ◌+◌, ◌-◌, ◌≤◌, ◌<◌}
use mathlib.Core.Path.{◌≡◌, refl, sym, ap, ◌∙◌}
use mathlib.Core.Bool.{Bool, true, false, ◌&&◌, ◌||◌}
use mathlib.Core.Logic.{◌≢◌}
use mathlib.Core.List.{List}
use native.Mathlib.Omega.{arith}
use lib.Dec.{eqb}
use lib.ListN.{length, get_or, drop, drop_of_length-le}
use borrow.Author.Tests.{lt-ltb, le-ltb, ne_eqb}
use Rattle.vertexset.specs.Set.{inserted, capacity}
use Rattle.vertexset.specs.declared.VertexSet.{VertexSet}
use Rattle.vertexset.proofs.Steps.{drop_next}
use Rattle.connectivity.specs.Lists.{all}
use Rattle.search.specs.Code.{search_space, left_in, answer_in, route_in}
use Rattle.search.specs.declared.Reach.{Reach}
use Rattle.search.proofs.Lent.{answer_is, routed}
use Rattle.construction.specs.Sets.{single}
use Rattle.construction.specs.Search.{explore, route}
use Rattle.local.specs.Withstands.{between, withstands}

-- what is left of a list from place i on gives the answer
pub record Trying (test : ℕ → Bool) (l : List ℕ) (answer : Bool) (i : ℕ) : Type 0 where
  pub left : all test (drop i l) ≡ answer

module _ {test : ℕ → Bool} {l : List ℕ} {answer : Bool} {i : ℕ} (t : Trying test l answer i) where
  module _ (h : i < length l) where
    next : test (get_or l i 0) && all test (drop (i + 1) l) ≡ answer
    next = ap (all test) (sym (drop_next l i h)) ∙ t.left

    pub try_on : test (get_or l i 0) ≡ true → Trying test l answer (i + 1)
    try_on y = record { left = ap (λ (b : Bool). b && all test (drop (i + 1) l)) (sym y) ∙ next }

    pub try_fails : test (get_or l i 0) ≡ false → false ≡ answer
    try_fails y = ap (λ (b : Bool). b && all test (drop (i + 1) l)) (sym y) ∙ next

  pub try_end : length l ≤ i → true ≡ answer
  try_end h = sym (ap (all test) (drop_of_length-le l h)) ∙ t.left

-- ---- one vertex of the path

abbrev pub tried : ℕ → List ℕ → ℕ → ℕ → VertexSet → ℕ → Bool
tried k rows u v removed c = eqb c u || (eqb c v || withstands k rows u v (inserted removed c))

module _ (k : ℕ) (rows : List ℕ) (u v : ℕ) (removed : VertexSet) (c : ℕ) where
  pub tried_other : c ≢ u → c ≢ v → {s : VertexSet} {b : Bool} → s ≡ inserted removed c → b ≡ withstands k rows u v s → tried k rows u v removed c ≡ b
  tried_other n m {s} e r = rw (ne_eqb c u n, ne_eqb c v m, ← e) (sym r)

-- ---- the search

module _ (space : List ℕ) (size : length space ≡ search_space) (rows : List ℕ) (u v : ℕ) (removed a b : VertexSet) (p : a ≡ single v) (q : b ≡ single u) {r : Reach}
    (e : r ≡ answer_in space (explore rows a b removed)) where
  goal_is : r.goal ≡ (between rows u v removed).goal
  goal_is = ap (λ (x : Reach). x.goal) (answer_is rows space a b removed size e) ∙ rw (p, q)

  pub closed_off : (k : ℕ) → capacity ≤ r.goal → false ≡ withstands k rows u v removed
  unfolding withstands
  closed_off zero h = sym (le-ltb _ _ (rw goal_is at h))
  closed_off (suc k) h = rw (le-ltb _ _ (rw goal_is at h))

  pub found-last : (k : ℕ) → r.goal < capacity → k ≡ 0 → true ≡ withstands k rows u v removed
  unfolding withstands
  found-last k h z = rw z (sym (lt-ltb _ _ (rw goal_is at h)))

  whole : (k : ℕ) → r.goal < capacity → k ≢ 0 → all (tried (k - 1) rows u v removed) (route (between rows u v removed)) ≡ withstands k rows u v removed
  unfolding withstands
  whole zero h z = absurd (z refl)
  whole (suc k) h z =
      let j : suc k - 1 ≡ k = omega arith in
      ap (λ (m : ℕ). all (tried m rows u v removed) (route (between rows u v removed))) j ∙ rw (lt-ltb _ _ (rw goal_is at h))

  pub try_first : (k : ℕ) → r.goal < capacity → k ≢ 0 → {out l : List ℕ} → out ≡ left_in space (explore rows a b removed) → l ≡ route_in out r
      → Trying (tried (k - 1) rows u v removed) l (withstands k rows u v removed) 0
  try_first k h z {l = l} o w =
      let y : l ≡ route (between rows u v removed) = w ∙ routed rows space a b removed size o e ∙ rw (p, q) in
      record { left = ap (all (tried (k - 1) rows u v removed)) y ∙ whole k h z }
