-- How a set of pairs is found by its number, pair after pair. Assumes nothing.
use Prim.Native.Nat.{ℕ, zero, suc, ◌+◌, ◌-◌, ◌*◌, ◌/◌, ◌%◌, ◌^◌, ◌≤◌, ◌<◌}
use mathlib.Core.List.{List, [], ◌∷◌, map}
use mathlib.Core.Path.{◌≡◌, refl, sym, ap, subst, ◌∙◌}
use native.Mathlib.Omega.{arith}
use lib.Dec.{lit<}
use lib.ListN.{length, get_or, get_or-append}
use lib.Seq.{get_or-append-add}
use borrow.Author.Tests.{lt-ltb}
use Rattle.record.specs.Read.{folded}
use Rattle.vertexset.specs.Set.{capacity}
use Rattle.graph.specs.Rows.{joined, joined_rows}
use Rattle.reading.proofs.Pairs.{pairs_from, pairs_start, pairs_end, pairs_row, pairs_next}
use Rattle.counting.specs.Counts.{with_lower, pairs_among, pairs_of, sets_of, min_size, max_size}
use Rattle.counting.proofs.Sets.{sets_twice, sets_count}

-- what holds at each of the three sizes holds at all
pub at_size : (P : ℕ → Type 0) (n : ℕ) → min_size ≤ n → n ≤ max_size → P 4 → P 5 → P 6 → P n
at_size P n a b p q r = go (n - min_size) (omega arith)
  where
    go : (k : ℕ) → n ≡ min_size + k → P n
    go zero e = subst P (sym e) p
    go (suc zero) e = subst P (sym e) q
    go (suc (suc zero)) e = subst P (sym e) r
    go (suc (suc (suc k))) e = absurd (omega arith)

-- so the products and powers of a size are known
module _ (n : ℕ) (least : min_size ≤ n) (most : n ≤ max_size) where
  pub pairs_twice_low : n * (n - 1) < 2 ^ 16
  pairs_twice_low = at_size (λ k. k * (k - 1) < 2 ^ 16) n least most (lit< tt) (lit< tt) (lit< tt)

  pub pairs_low : n * (n - 1) / 2 < 16
  pairs_low = at_size (λ k. k * (k - 1) / 2 < 16) n least most (lit< tt) (lit< tt) (lit< tt)

  pub sets_all : (1 * 2 ^ (n * (n - 1) / 2)) % 65536 ≡ length (sets_of (pairs_of n))
  unfolding pairs_among with_lower
  sets_all = at_size (λ k. (1 * 2 ^ (k * (k - 1) / 2)) % 65536 ≡ length (sets_of (pairs_of k))) n least most (sym (sets_count (pairs_of 4))) (sym (sets_count (pairs_of 5))) (sym (sets_count (pairs_of 6)))

  pub sets_most : length (sets_of (pairs_of n)) ≤ 32768
  unfolding pairs_among with_lower
  sets_most = at_size (λ k. length (sets_of (pairs_of k)) ≤ 32768) n least most (omega (arith, sets_count (pairs_of 4))) (omega (arith, sets_count (pairs_of 5))) (omega (arith, sets_count (pairs_of 6)))

-- ---- the sets with the next pair come behind those without it

at_map : {A B : Type 0} (f : A → B) (l : List A) (i : ℕ) (a : A) (b : B) → i < length l → get_or (map f l) i b ≡ f (get_or l i a)
at_map f [] i a b h = absurd (omega arith)
at_map f (x ∷ l) zero a b h = refl
at_map f (x ∷ l) (suc i) a b h = at_map f l i a b (omega arith)

module _ (e : ℕ × ℕ) (es : List (ℕ × ℕ)) where
  pub set_without : (i : ℕ) → i < length (sets_of es) → get_or (sets_of (e ∷ es)) i [] ≡ get_or (sets_of es) i []
  unfolding sets_of
  set_without i h = get_or-append (sets_of es) (map (λ s. e ∷ s) (sets_of es)) [] i h

  pub set_with : (i : ℕ) → length (sets_of es) ≤ i → i < length (sets_of (e ∷ es)) → get_or (sets_of (e ∷ es)) i [] ≡ e ∷ get_or (sets_of es) (i - length (sets_of es)) []
  unfolding sets_of
  set_with i h l =
      let j : i ≡ length (sets_of es) + (i - length (sets_of es)) = omega arith in
      let low : i - length (sets_of es) < length (sets_of es) = omega (arith, sets_twice e es) in
      ap (λ (k : ℕ). get_or (sets_of (e ∷ es)) k []) j ∙ get_or-append-add (sets_of es) (map (λ s. e ∷ s) (sets_of es)) (i - length (sets_of es)) []
      ∙ at_map (λ s. e ∷ s) (sets_of es) (i - length (sets_of es)) [] [] low

-- ---- the loop: the rows with what is still to be joined are those asked for
pub record Drawing (n : ℕ) (done : List ℕ) (rows : List ℕ) (sets rest u v : ℕ) : Type 0 where
  pub count : sets ≡ length (sets_of (pairs_from n u v))
  pub low : rest < sets
  pub drawn : folded joined rows (get_or (sets_of (pairs_from n u v)) rest []) ≡ done

module _ (n : ℕ) {rows : List ℕ} {sets number : ℕ} (count : sets ≡ length (sets_of (pairs_of n))) (low : number < length (sets_of (pairs_of n))) where
  pub draw_start : Drawing n (folded joined rows (get_or (sets_of (pairs_of n)) number [])) rows sets number 0 1
  draw_start =
      let s = pairs_start n in
      record {
        count = count ∙ ap (λ (l : List (ℕ × ℕ)). length (sets_of l)) (sym s);
        low = omega arith;
        drawn = ap (λ (l : List (ℕ × ℕ)). folded joined rows (get_or (sets_of l) number [])) s;
      }

module _ {n : ℕ} {done rows : List ℕ} {sets rest u v : ℕ} (d : Drawing n done rows sets rest u v) where
  pub draw_row : u < n → n ≤ v → Drawing n done rows sets rest (u + 1) (u + 1 + 1)
  draw_row h l =
      let s = pairs_row n u v h l in
      record {
        count = d.count ∙ ap (λ (l : List (ℕ × ℕ)). length (sets_of l)) s;
        low = d.low;
        drawn = ap (λ (l : List (ℕ × ℕ)). folded joined rows (get_or (sets_of l) rest [])) (sym s) ∙ d.drawn;
      }

  module _ (h : v < n) where
    half : sets ≡ length (sets_of (pairs_from n u (v + 1))) + length (sets_of (pairs_from n u (v + 1)))
    half = d.count ∙ ap (λ (l : List (ℕ × ℕ)). length (sets_of l)) (pairs_next n u v h) ∙ sets_twice (u, v) (pairs_from n u (v + 1))

    halved : sets / 2 ≡ length (sets_of (pairs_from n u (v + 1)))
    halved = omega (arith, half)

    still : folded joined rows (get_or (sets_of ((u, v) ∷ pairs_from n u (v + 1))) rest []) ≡ done
    still = ap (λ (l : List (ℕ × ℕ)). folded joined rows (get_or (sets_of l) rest [])) (sym (pairs_next n u v h)) ∙ d.drawn

    pub draw_without : rest < sets / 2 → Drawing n done rows (sets / 2) rest u (v + 1)
    draw_without l = record {
      count = halved;
      low = l;
      drawn = ap (folded joined rows) (sym (set_without (u, v) (pairs_from n u (v + 1)) rest (omega (arith, halved)))) ∙ still;
    }

    pub draw_with : u < v → n ≤ max_size → sets / 2 ≤ rest → {rows' : List ℕ} → rows' ≡ joined_rows rows u v → Drawing n done rows' (sets / 2) (rest - sets / 2) u (v + 1)
    unfolding folded
    draw_with k m l {rows'} r = record {
      count = halved;
      low = omega (arith, half, d.low);
      drawn = now_joined;
    }
      where
        both : joined_rows rows u v ≡ joined rows (u, v)
        both = rw (lt-ltb u capacity (omega arith), lt-ltb v capacity (omega arith))

        place : rest - sets / 2 ≡ rest - length (sets_of (pairs_from n u (v + 1)))
        place = ap (λ (k : ℕ). rest - k) halved

        found : get_or (sets_of ((u, v) ∷ pairs_from n u (v + 1))) rest [] ≡ (u, v) ∷ get_or (sets_of (pairs_from n u (v + 1))) (rest - length (sets_of (pairs_from n u (v + 1)))) []
        found = set_with (u, v) (pairs_from n u (v + 1)) rest (omega (arith, halved)) (omega (arith, half, sets_twice (u, v) (pairs_from n u (v + 1)), d.low))

        now_joined : folded joined rows' (get_or (sets_of (pairs_from n u (v + 1))) (rest - sets / 2) []) ≡ done
        now_joined =
            (λ i. folded joined ((r ∙ both) i) (get_or (sets_of (pairs_from n u (v + 1))) (place i) [])) ∙ ap (folded joined rows) (sym found) ∙ still

  pub draw_end : n ≤ u → u < v → rows ≡ done
  unfolding folded sets_of
  draw_end h b = ap (folded joined rows) (sym none_left) ∙ d.drawn
    where
      none_left : get_or (sets_of (pairs_from n u v)) rest [] ≡ []
      none_left =
          let e = pairs_end n u v h b in
          let c : length (sets_of (pairs_from n u v)) ≡ 1 = ap (λ (l : List (ℕ × ℕ)). length (sets_of l)) e in
          let z : rest ≡ 0 = omega (arith, d.low, d.count) in
          (λ i. get_or (sets_of (e i)) (z i) [])
