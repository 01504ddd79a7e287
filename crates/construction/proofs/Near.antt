-- The neighbours of a set: which vertices are near it, and that they grow with it by the rows of the new vertices.
use Prim.Native.Nat.{ℕ, ◌*◌, ◌/◌, ◌%◌, ◌<◌}
use mathlib.Core.Path.{◌≡◌, refl, sym, ap, subst, ◌∙◌}
use mathlib.Core.Bool.{Bool, true, false, cond}
use mathlib.Core.Logic.{◌⊎◌, inl, inr, ⊎_elim, ⊎_map}
use mathlib.Core.List.{List, [], ◌∷◌}
use lib.Bits.{bit_or}
use lib.Dec.{ltb}
use lib.ListN.{length, get_or}
use borrow.Author.Tests.{ltb-true}
use Rattle.record.specs.Read.{folded}
use Rattle.vertexset.specs.Set.{Words, empty_set, word_count, capacity}
use Rattle.vertexset.specs.declared.VertexSet.{VertexSet}
use Rattle.vertexset.proofs.Bit.{on, on_zero}
use Rattle.vertexset.proofs.Laws.{on_union, same_words, wordwise-length, zeros-at}
use Rattle.graph.specs.Rows.{row_of, words_from, adjacent_in}
use Rattle.graph.proofs.Rows.{length_words}
use Rattle.connectivity.specs.Lists.{In}
use Rattle.connectivity.proofs.Lists.{clash, or-true}
use Rattle.construction.specs.Sets.{plus, set_with_all, set_of, members}
use Rattle.construction.specs.Ears.{near_all, near}
use Rattle.construction.proofs.Basics.{Sized, On}
use Rattle.construction.proofs.SetLaws.{sized_empty, sized_all, sized_plus, sized_row, or_on, empty-on, all-on, on_all, row_on, on_row, members-in, in_members}

-- two tests, each of which holds where the other does
pub same_test : (a b : Bool) → (a ≡ true → b ≡ true) → (b ≡ true → a ≡ true) → a ≡ b
same_test true b f g = sym (f refl)
same_test false true f g = g refl
same_test false false f g = refl

-- Rows may hold words of any size here, so that nothing is asked of them: bit k of word i is 1.
abbrev Bit : VertexSet → ℕ → ℕ → Type 0
Bit s i k = on (get_or s.words i 0) k ≡ true

abbrev Long : VertexSet → Type 0
Long s = length s.words ≡ word_count

same_set : (a b : VertexSet) → Long a → Long b → ((i k : ℕ) → Bit a i k → Bit b i k) → ((i k : ℕ) → Bit b i k → Bit a i k) → a ≡ b
same_set a b h j f g =
    let e = same_words a.words b.words (h ∙ sym j) (λ i k. same_test _ _ (f i k) (g i k)) in
    λ i. record { words = e i }

no_bit : (i k : ℕ) → ¬ Bit empty_set i k
no_bit i k e = clash e (rw (zeros-at word_count i) (on_zero k))

module _ (rows : List ℕ) where
  long_row : (v : ℕ) → Long (row_of rows v)
  long_row v = go (ltb v capacity)
    where
      go : (b : Bool) → Long (cond b (record { words = words_from rows word_count (v * word_count) }) empty_set)
      go true = length_words rows word_count (v * word_count)
      go false = refl

  -- only a vertex has a row
  row_low : (v i k : ℕ) → Bit (row_of rows v) i k → v < capacity
  row_low v i k = go (ltb v capacity) refl
    where
      go : (b : Bool) → ltb v capacity ≡ b → Bit (cond b (record { words = words_from rows word_count (v * word_count) }) empty_set) i k → v < capacity
      go true t e = ltb-true v capacity t
      go false t e = absurd (no_bit i k e)

  long_plus : (s : VertexSet) (v : ℕ) → Long s → Long (plus s (row_of rows v))
  long_plus s v h = wordwise-length bit_or s (row_of rows v) h (long_row v)

  plus-bit : (s : VertexSet) (v i k : ℕ) → Long s → Bit (plus s (row_of rows v)) i k → Bit s i k ⊎ Bit (row_of rows v) i k
  plus-bit s v i k h e = or-true _ _ (sym (on_union s.words (row_of rows v).words (h ∙ sym (long_row v)) i k) ∙ e)

  bit_plus : (s : VertexSet) (v i k : ℕ) → Long s → Bit s i k ⊎ Bit (row_of rows v) i k → Bit (plus s (row_of rows v)) i k
  bit_plus s v i k h e = on_union s.words (row_of rows v).words (h ∙ sym (long_row v)) i k ∙ or_on _ _ e

  long_near_all : (s : VertexSet) (l : List ℕ) → Long s → Long (near_all rows s l)
  unfolding folded
  long_near_all s [] h = h
  long_near_all s (v ∷ l) h = long_near_all (plus s (row_of rows v)) l (long_plus s v h)

  -- in the row of a listed vertex
  abbrev InRow : List ℕ → ℕ → ℕ → Type 0
  InRow l i k = (v : ℕ) × In v l × Bit (row_of rows v) i k

  near_all-bit : (s : VertexSet) (l : List ℕ) (i k : ℕ) → Long s → Bit (near_all rows s l) i k → Bit s i k ⊎ InRow l i k
  unfolding folded
  near_all-bit s [] i k h e = inl e
  near_all-bit s (v ∷ l) i k h e =
      ⊎_elim (λ y. ⊎_map (λ z. z) (λ z. (v, inl refl, z)) (plus-bit s v i k h y)) (λ y. inr (y.0, inr y.1, y.2)) (near_all-bit (plus s (row_of rows v)) l i k (long_plus s v h) e)

  bit_near_all : (s : VertexSet) (l : List ℕ) (i k : ℕ) → Long s → Bit s i k ⊎ InRow l i k → Bit (near_all rows s l) i k
  unfolding folded
  bit_near_all s [] i k h e = ⊎_elim (λ y. y) (λ y. absurd y.1) e
  bit_near_all s (v ∷ l) i k h e = bit_near_all (plus s (row_of rows v)) l i k (long_plus s v h) (⊎_elim (λ y. inl (bit_plus s v i k h (inl y))) next e)
    where
      next : InRow (v ∷ l) i k → Bit (plus s (row_of rows v)) i k ⊎ InRow l i k
      next (u, inl j, y) = inl (bit_plus s v i k h (inr (subst (λ (x : ℕ). Bit (row_of rows x) i k) j y)))
      next (u, inr j, y) = inr (u, j, y)

  long_near : (s : VertexSet) → Long (near rows s)
  unfolding near
  long_near s = long_near_all empty_set (members s) refl

  near-bit : (s : VertexSet) (i k : ℕ) → Bit (near rows s) i k → (v : ℕ) × On s v × Bit (row_of rows v) i k
  unfolding near
  near-bit s i k e = ⊎_elim (λ y. absurd (no_bit i k y)) (λ y. (y.0, members-in s y.0 y.1, y.2)) (near_all-bit empty_set (members s) i k refl e)

  bit_near : (s : VertexSet) (v i k : ℕ) → Sized s → On s v → Bit (row_of rows v) i k → Bit (near rows s) i k
  unfolding near
  bit_near s v i k h e y = bit_near_all empty_set (members s) i k refl (inr (v, in_members s v h e, y))

  -- WHICH VERTICES ARE NEAR A SET
  pub near_on : (s : VertexSet) (w : ℕ) → On (near rows s) w → (v : ℕ) × On s v × (adjacent_in rows v w ≡ true)
  near_on s w e = let r = near-bit s (w / 64) (w % 64) e in (r.0, r.1, row_on rows r.0 w r.2)

  pub on_near : (s : VertexSet) (v w : ℕ) → Sized s → On s v → adjacent_in rows v w ≡ true → On (near rows s) w
  on_near s v w h e y = bit_near s v (w / 64) (w % 64) h e (on_row rows v w y)

  pub sized_near : Words rows → (s : VertexSet) → Sized (near rows s)
  unfolding near folded
  sized_near words s = all empty_set (members s) sized_empty
    where
      all : (t : VertexSet) (l : List ℕ) → Sized t → Sized (near_all rows t l)
      all t [] h = h
      all t (v ∷ l) h = all (plus t (row_of rows v)) l (sized_plus t (row_of rows v) h (sized_row rows v words))

  -- THEY GROW with the set
  pub near-grows : (s : VertexSet) (l : List ℕ) → Sized s → near rows (set_with_all s l) ≡ near_all rows (near rows s) l
  near-grows s l h = same_set (near rows (set_with_all s l)) (near_all rows (near rows s) l) (long_near (set_with_all s l)) (long_near_all (near rows s) l (long_near s)) into back
    where
      into : (i k : ℕ) → Bit (near rows (set_with_all s l)) i k → Bit (near_all rows (near rows s) l) i k
      into i k e = let r = near-bit (set_with_all s l) i k e in bit_near_all (near rows s) l i k (long_near s) (⊎_map (λ y. bit_near s r.0 i k h y r.2) (λ y. (r.0, y, r.2)) (all-on s l r.0 h r.1))

      back : (i k : ℕ) → Bit (near_all rows (near rows s) l) i k → Bit (near rows (set_with_all s l)) i k
      back i k e = ⊎_elim (λ y. let r = near-bit s i k y in from r.0 (inl r.1) r.2) (λ y. from y.0 (inr y.1) y.2) (near_all-bit (near rows s) l i k (long_near s) e)
        where
          from : (v : ℕ) → On s v ⊎ In v l → Bit (row_of rows v) i k → Bit (near rows (set_with_all s l)) i k
          from v j y = bit_near (set_with_all s l) v i k (sized_all s l h) (on_all s l v h (row_low v i k y) j) y

  pub near-set : (l : List ℕ) → near rows (set_of l) ≡ near_all rows empty_set l
  near-set l = near-grows empty_set l sized_empty ∙ ap (λ (s : VertexSet). near_all rows s l) none
    where
      none : near rows empty_set ≡ empty_set
      none = same_set (near rows empty_set) empty_set (long_near empty_set) refl (λ i k e. let r = near-bit empty_set i k e in absurd (empty-on r.0 r.1)) (λ i k e. absurd (no_bit i k e))
