-- The pairs of n vertices from the last to the first. Assumes nothing.
use Prim.Native.Nat.{ℕ, zero, suc, ◌+◌, ◌-◌, ◌≤◌, ◌<◌}
use mathlib.Core.List.{List, [], ◌∷◌, ◌++◌, reverse, reverse-cons, reverse-append, append_assoc, append-nil}
use mathlib.Core.Path.{◌≡◌, refl, sym, ap, ◌∙◌}
use native.Mathlib.Omega.{arith}
use Rattle.record.specs.Read.{folded}
use Rattle.connectivity.specs.Lists.{up_from}
use Rattle.reading.specs.Pairs.{with_lower, pairs_among, pairs_of}
use Rattle.striking.specs.Code.{struck_by}

-- u with each of k vertices from a on, the last first
unfoldable pub row_back : ℕ → ℕ → ℕ → List (ℕ × ℕ)
row_back u a zero = []
row_back u a (suc k) = (u, a + k) ∷ row_back u a k

-- the pairs whose lower vertex is below u
unfoldable pub rows_back : ℕ → ℕ → List (ℕ × ℕ)
rows_back n zero = []
rows_back n (suc u) = row_back u (suc u) (n - suc u) ++ rows_back n u

-- the pairs before (u, v): those of u with a vertex below v, then those of lower vertices
unfoldable pub pairs_back : ℕ → ℕ → ℕ → List (ℕ × ℕ)
pairs_back n u v = row_back u (suc u) (v - suc u) ++ rows_back n u

-- a row is the pairs of its vertex, turned round
back-first : (u a k : ℕ) → row_back u a (suc k) ≡ row_back u (suc a) k ++ ((u, a) ∷ [])
unfolding row_back
back-first u a zero = let z : a + 0 ≡ a = omega arith in ap (λ (b : ℕ). (u, b) ∷ []) z
back-first u a (suc k) =
    let z : a + suc k ≡ suc a + k = omega arith in
    ap (λ (l : List (ℕ × ℕ)). (u, a + suc k) ∷ l) (back-first u a k) ∙ ap (λ (b : ℕ). (u, b) ∷ (row_back u (suc a) k ++ ((u, a) ∷ []))) z

row_turned : (u a k : ℕ) → row_back u a k ≡ reverse (with_lower u (up_from a k))
unfolding row_back with_lower
row_turned u a zero = refl
row_turned u a (suc k) =
    back-first u a k ∙ ap (λ (l : List (ℕ × ℕ)). l ++ ((u, a) ∷ [])) (row_turned u (suc a) k) ∙ sym (reverse-cons (u, a) (with_lower u (up_from (suc a) k)))

rows_turned : (n a k : ℕ) → a + k ≡ n → rows_back n n ≡ reverse (pairs_among (up_from a k)) ++ rows_back n a
unfolding pairs_among rows_back
rows_turned n a zero e = let z : n ≡ a = omega arith in ap (rows_back n) z
rows_turned n a (suc k) e =
    let z : n - suc a ≡ k = omega arith in
    let row : rows_back n (suc a) ≡ reverse (with_lower a (up_from (suc a) k)) ++ rows_back n a = ap (λ (j : ℕ). row_back a (suc a) j ++ rows_back n a) z ∙ ap (λ (l : List (ℕ × ℕ)). l ++ rows_back n a) (row_turned a (suc a) k) in
    rows_turned n (suc a) k (omega arith) ∙ ap (λ (l : List (ℕ × ℕ)). reverse (pairs_among (up_from (suc a) k)) ++ l) row
    ∙ sym (append_assoc (reverse (pairs_among (up_from (suc a) k))) (reverse (with_lower a (up_from (suc a) k))) (rows_back n a))
    ∙ ap (λ (l : List (ℕ × ℕ)). l ++ rows_back n a) (sym (reverse-append (with_lower a (up_from (suc a) k)) (pairs_among (up_from (suc a) k))))

-- ALL PAIRS, FROM THE LAST TO THE FIRST
back_start : (n : ℕ) → pairs_back n n n ≡ reverse (pairs_of n)
unfolding pairs_back row_back rows_back
back_start n =
    let z : n - suc n ≡ 0 = omega arith in
    ap (λ (k : ℕ). row_back n (suc n) k ++ rows_back n n) z ∙ rows_turned n 0 n (omega arith) ∙ append-nil (reverse (pairs_of n))

-- the next pair
back-next : (n u v : ℕ) → u + 1 < v → pairs_back n u v ≡ (u, v - 1) ∷ pairs_back n u (v - 1)
unfolding pairs_back row_back
back-next n u v h =
    let z : v - suc u ≡ suc (v - 1 - suc u) = omega arith in
    let w : suc u + (v - 1 - suc u) ≡ v - 1 = omega arith in
    ap (λ (k : ℕ). row_back u (suc u) k ++ rows_back n u) z ∙ ap (λ (b : ℕ). (u, b) ∷ pairs_back n u (v - 1)) w

-- u has no vertex left
back-row : (n u v : ℕ) → v ≤ u + 1 → pairs_back n u v ≡ rows_back n u
unfolding pairs_back row_back
back-row n u v h = let z : v - suc u ≡ 0 = omega arith in ap (λ (k : ℕ). row_back u (suc u) k ++ rows_back n u) z

-- .. and the one below it comes
back_down : (n u : ℕ) → 0 < u → rows_back n u ≡ pairs_back n (u - 1) n
unfolding pairs_back rows_back
back_down n u l = let w : u ≡ suc (u - 1) = omega arith in ap (rows_back n) w

-- the rows, with the pairs before (u, v) looked at, are those asked for
pub record Striking (plan : List ℕ) (n : ℕ) (done work : List ℕ) (u v : ℕ) : Type 0 where
  pub behind : folded (struck_by plan) work (pairs_back n u v) ≡ done

module _ {plan : List ℕ} {n : ℕ} where
  pub strike_start : {work : List ℕ} → Striking plan n (folded (struck_by plan) work (reverse (pairs_of n))) work n n
  strike_start {work} = record { behind = ap (folded (struck_by plan) work) (back_start n) }

  module _ {done work : List ℕ} {u v : ℕ} (d : Striking plan n done work u v) where
    left : v ≤ u + 1 → folded (struck_by plan) work (rows_back n u) ≡ done
    left h = ap (folded (struck_by plan) work) (sym (back-row n u v h)) ∙ d.behind

    pub strike_row : v ≤ u + 1 → Striking plan n done work u u
    strike_row h = record { behind = ap (folded (struck_by plan) work) (back-row n u u (omega arith)) ∙ left h }

    pub strike_down : v ≤ u + 1 → 0 < u → Striking plan n done work (u - 1) n
    strike_down h l = record { behind = ap (folded (struck_by plan) work) (sym (back_down n u l)) ∙ left h }

    pub strike_next : u + 1 < v → {work' : List ℕ} → work' ≡ struck_by plan work (u, v - 1) → Striking plan n done work' u (v - 1)
    unfolding folded
    strike_next h r = record {
      behind =
          ap (λ (k : List ℕ). folded (struck_by plan) k (pairs_back n u (v - 1))) r
          ∙ ap (folded (struck_by plan) work) (sym (back-next n u v h)) ∙ d.behind;
    }

    pub strike_end : v ≤ u + 1 → u ≡ 0 → work ≡ done
    unfolding folded rows_back
    strike_end h e = ap (λ (k : ℕ). folded (struck_by plan) work (rows_back n k)) (sym e) ∙ left h
