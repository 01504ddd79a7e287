-- Rows as a table of pairs: what one more and one fewer do to it. Assumes nothing.
use Prim.Native.Nat.{ℕ, ◌+◌, ◌*◌, ◌<◌}
use mathlib.Core.List.{List}
use mathlib.Core.Bool.{Bool, true, false, not, ◌&&◌, ◌||◌, or_assoc}
use mathlib.Core.Path.{◌≡◌, refl, sym, ap, ◌∙◌}
use mathlib.Core.Logic.{◌⊎◌, inl, inr, ⊎_elim, ⊎_map, ◌↔◌}
use native.Mathlib.Omega.{arith}
use native.Mathlib.Decide.{dec_lt}
use lib.Dec.{eqb, ltb}
use lib.ListN.{length, length-set}
use borrow.Author.Tests.{eqb-true, eq-eqb, lt-ltb, ltb-true, not-true}
use Rattle.vertexset.specs.Set.{has, with_bit, without_bit, capacity}
use Rattle.vertexset.proofs.Laws.{has-insert, has-remove}
use Rattle.graph.specs.Rows.{adjacent_in, row_words, joined, joined_rows, parted_rows}
use Rattle.connectivity.proofs.Lists.{and-true, or-true, true_or, clash}
use Rattle.connectivity.proofs.Paths.{SamePair}
use Rattle.graph.proofs.Tests.{same_test, same_pair, pair-tells, both_true, left_true, false_of}

-- two vertices that the rows have room for are joined
pub joined-low : (rows : List ℕ) (u v : ℕ) → u < capacity → v < capacity → joined_rows rows u v ≡ joined rows (u, v)
joined-low rows u v h k = rw (lt-ltb u capacity h, lt-ltb v capacity k)

-- two places of the table
place_same : (u v x y : ℕ) → v < capacity → y < capacity → eqb (u * capacity + v) (x * capacity + y) ≡ (eqb u x && eqb v y)
place_same u v x y h k = same_test _ _ there back
  where
    there : eqb (u * capacity + v) (x * capacity + y) ≡ true → (eqb u x && eqb v y) ≡ true
    there e =
        let z : u * capacity + v ≡ x * capacity + y = eqb-true _ _ e in
        both_true (eq-eqb u x (omega arith)) (eq-eqb v y (omega arith))

    back : (eqb u x && eqb v y) ≡ true → eqb (u * capacity + v) (x * capacity + y) ≡ true
    back e =
        let r = and-true (eqb u x) (eqb v y) e in
        let p : u ≡ x = eqb-true u x r.0 in
        let q : v ≡ y = eqb-true v y r.1 in
        let z : u * capacity + v ≡ x * capacity + y = rw (p, q) in
        eq-eqb _ _ z

-- within the limit the table has a place, past it no pair is joined
abbrev pub Low : ℕ → ℕ → Type 0
Low u v = (u < capacity) × (v < capacity)

low? : (u v : ℕ) → Low u v ⊎ (¬ Low u v)
low? u v = go (dec_lt u capacity) (dec_lt v capacity)
  where
    go : Dec (u < capacity) → Dec (v < capacity) → Low u v ⊎ (¬ Low u v)
    go (yes h) (yes k) = inl (h, k)
    go (yes h) (no k) = inr (λ l. k l.1)
    go (no h) d = inr (λ l. h l.0)

place : (T : List ℕ) (u v : ℕ) → Low u v → adjacent_in T u v ≡ has T (u * capacity + v)
place T u v h = rw (lt-ltb u capacity h.0, lt-ltb v capacity h.1)

pub linked_low : (T : List ℕ) (u v : ℕ) → adjacent_in T u v ≡ true → Low u v
linked_low T u v e =
    let a = and-true (ltb u capacity) (ltb v capacity && has T (u * capacity + v)) e in
    let b = and-true (ltb v capacity) (has T (u * capacity + v)) a.1 in
    (ltb-true u capacity a.0, ltb-true v capacity b.0)

past : (T : List ℕ) (u v : ℕ) → ¬ Low u v → adjacent_in T u v ≡ false
past T u v n = false_of (λ e. n (linked_low T u v e))

pair-past : (u v x y : ℕ) → Low x y → ¬ Low u v → same_pair u v x y ≡ false
pair-past u v x y h n = false_of (λ e. n (go ((pair-tells u v x y).0 e)))
  where
    go : SamePair u v x y → Low u v
    go (inl k) = (rw k.0 h.0, rw k.1 h.1)
    go (inr k) = (rw k.0 h.1, rw k.1 h.0)

-- a change at the two places of a pair changes the test of that pair
changed : (x y : ℕ) → Low x y → (op : Bool → Bool → Bool) → op false false ≡ false → (T U : List ℕ)
    → ((i : ℕ) → has U i ≡ op (has T i) (eqb i (x * capacity + y) || eqb i (y * capacity + x))) → (u v : ℕ) → adjacent_in U u v ≡ op (adjacent_in T u v) (same_pair u v x y)
changed x y h op none T U f u v = ⊎_elim inside outside (low? u v)
  where
    inside : Low u v → adjacent_in U u v ≡ op (adjacent_in T u v) (same_pair u v x y)
    inside k = place U u v k ∙ f (u * capacity + v) ∙ rw (place T u v k, place_same u v x y k.1 h.1, place_same u v y x k.1 h.0)

    outside : ¬ Low u v → adjacent_in U u v ≡ op (adjacent_in T u v) (same_pair u v x y)
    outside n = past U u v n ∙ rw (past T u v n, pair-past u v x y h n, none)

neither : (t b c : Bool) → (t && not b && not c) ≡ (t && not (b || c))
neither true true c = refl
neither true false c = refl
neither false b c = refl

module _ (T : List ℕ) (long : length T ≡ row_words) (x y : ℕ) (h : Low x y) where
  first_place : x * capacity + y < 64 * length T
  first_place = omega (arith, h)

  -- the other place, once the list has been set at the first
  other_place : (U : List ℕ) → length U ≡ length T → y * capacity + x < 64 * length U
  other_place U l = omega (arith, h)

  pub with-length : length (joined_rows T x y) ≡ row_words
  with-length = rw (lt-ltb x capacity h.0, lt-ltb y capacity h.1) (simp length-set long)

  pub without-length : length (parted_rows T x y) ≡ row_words
  without-length = rw (lt-ltb x capacity h.0, lt-ltb y capacity h.1) (simp length-set long)

  -- one pair more
  linked_with : (u v : ℕ) → adjacent_in (joined_rows T x y) u v ≡ (adjacent_in T u v || same_pair u v x y)
  linked_with = changed x y h ◌||◌ refl T (joined_rows T x y) (λ i. rw (lt-ltb x capacity h.0, lt-ltb y capacity h.1) (at i))
    where
      at : (i : ℕ) → has (joined T (x, y)) i ≡ (has T i || (eqb i (x * capacity + y) || eqb i (y * capacity + x)))
      at i =
          let U = with_bit T (x * capacity + y) in
          ap (λ (t : ℕ → Bool). t i) (has-insert U (y * capacity + x) (other_place U (simp length-set)))
          ∙ ap (λ (t : ℕ → Bool). t i || eqb i (y * capacity + x)) (has-insert T (x * capacity + y) first_place) ∙ or_assoc (has T i) (eqb i (x * capacity + y)) (eqb i (y * capacity + x))

  -- one pair fewer
  linked_without : (u v : ℕ) → adjacent_in (parted_rows T x y) u v ≡ (adjacent_in T u v && not (same_pair u v x y))
  linked_without = changed x y h (λ t c. t && not c) refl T (parted_rows T x y) (λ i. rw (lt-ltb x capacity h.0, lt-ltb y capacity h.1) (at i))
    where
      at : (i : ℕ) → has (without_bit (without_bit T (x * capacity + y)) (y * capacity + x)) i ≡ (has T i && not (eqb i (x * capacity + y) || eqb i (y * capacity + x)))
      at i =
          let U = without_bit T (x * capacity + y) in
          has-remove U (y * capacity + x) (other_place U (simp length-set)) i
          ∙ ap (λ (t : Bool). t && not (eqb i (y * capacity + x))) (has-remove T (x * capacity + y) first_place i) ∙ neither (has T i) (eqb i (x * capacity + y)) (eqb i (y * capacity + x))

  pub with-tells : (u v : ℕ) → (adjacent_in (joined_rows T x y) u v ≡ true) ↔ ((adjacent_in T u v ≡ true) ⊎ SamePair u v x y)
  with-tells u v = (λ e. ⊎_map (λ k. k) (pair-tells u v x y).0 (or-true (adjacent_in T u v) (same_pair u v x y) (sym (linked_with u v) ∙ e)), λ k. linked_with u v ∙ ⊎_elim (left_true (same_pair u v x y)) (λ p. true_or (adjacent_in T u v) (same_pair u v x y) ((pair-tells u v x y).1 p)) k)

  pub without-tells : (u v : ℕ) → (adjacent_in (parted_rows T x y) u v ≡ true) ↔ ((adjacent_in T u v ≡ true) × (¬ SamePair u v x y))
  without-tells u v = (
    λ e. let r = and-true (adjacent_in T u v) (not (same_pair u v x y)) (sym (linked_without u v) ∙ e) in (r.0, λ p. clash ((pair-tells u v x y).1 p) (not-true (same_pair u v x y) r.1)),
    λ k. linked_without u v ∙ both_true k.0 (let z : same_pair u v x y ≡ false = false_of (λ e. k.1 ((pair-tells u v x y).0 e)) in rw z),
  )
