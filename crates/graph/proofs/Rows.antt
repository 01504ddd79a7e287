-- Where a bit of a row stands, and a row as a vertex set. Assumes nothing.
use Prim.Native.Nat.{ℕ, zero, suc, ◌+◌, ◌*◌, ◌/◌, ◌%◌, ◌^◌, ◌<◌}
use mathlib.Core.List.{List}
use mathlib.Core.Bool.{Bool, true, false, cond, ◌&&◌}
use mathlib.Core.Path.{◌≡◌, refl, sym, ap, ◌∙◌}
use mathlib.Core.Logic.{◌≢◌}
use lib.Dec.{eqb, ltb}
use lib.ListN.{length, get_or, set, length-set}
use lib.Seq.{ext_get_or, get_or-set_same, get_or-set_other}
use native.Mathlib.Decide.{ℕ_discrete}
use borrow.Author.Tests.{lt-ltb, ltb-true, ltb-false, ne_eqb}
use native.Mathlib.Omega.{arith}
use Rattle.vertexset.specs.Set.{word_count, has, with_bit, without_bit, empty_set, capacity}
use Rattle.vertexset.proofs.Laws.{has-past, has-empty, has-insert, has-remove, remove_inserted, insert_removed}
use Rattle.graph.specs.Rows.{adjacent_in, words_from, row_of, changed_at, row_words, joined_rows, parted_rows}

-- the word of bit i as f makes it of that word and of the bit alone
abbrev changed_bit : (ℕ → ℕ → ℕ) → List ℕ → ℕ → List ℕ
changed_bit f rows i = set rows (i / 64) (f (get_or rows (i / 64) 0) (2 ^ (i % 64)))

pub word_of : (u v : ℕ) → (u * capacity + v) / 64 ≡ u * word_count + v / 64
word_of u v = omega arith

pub bit_of_lem : (u v : ℕ) → (u * capacity + v) % 64 ≡ v % 64
bit_of_lem u v = omega arith

-- a change in both directions
pub changed_twice : (f : ℕ → ℕ → ℕ) (rows : List ℕ) (u v : ℕ) → changed_at f (changed_at f rows u v) v u
    ≡ cond (ltb u capacity && ltb v capacity) (changed_bit f (changed_bit f rows (u * capacity + v)) (v * capacity + u)) rows
changed_twice f rows u v = go (ltb u capacity) (ltb v capacity)
  where
    go : (b c : Bool) → cond (c && b) (changed_bit f (cond (b && c) (changed_bit f rows (u * capacity + v)) rows) (v * capacity + u)) (cond (b && c) (changed_bit f rows (u * capacity + v)) rows)
        ≡ cond (b && c) (changed_bit f (changed_bit f rows (u * capacity + v)) (v * capacity + u)) rows
    go true true = refl
    go true false = refl
    go false true = refl
    go false false = refl

-- a row as a set, word by word
pub length_words : (rows : List ℕ) (j i : ℕ) → length (words_from rows j i) ≡ j
unfolding words_from
length_words rows zero i = refl
length_words rows (suc j) i = ap suc (length_words rows j (i + 1))

pub get_d_words : (rows : List ℕ) (j i k : ℕ) → k < j → get_or (words_from rows j i) k 0 ≡ get_or rows (i + k) 0
unfolding words_from
get_d_words rows zero i k h = absurd (omega arith)
get_d_words rows (suc j) i zero h = let z : i + 0 ≡ i = omega arith in rw z
get_d_words rows (suc j) i (suc k) h = let z : i + suc k ≡ i + 1 + k = omega arith in rw z (get_d_words rows j (i + 1) k (omega arith))

-- one word more is copied
pub copy_more : (ws : List ℕ) (i : ℕ) (w : ℕ → ℕ) → i < length ws → ((k : ℕ) → k < i → get_or ws k 0 ≡ w k) → (k : ℕ) → k < i + 1 → get_or (set ws i (w i)) k 0 ≡ w k
copy_more ws i w h f k l = elim (ℕ_discrete k i) [
  | yes e ↦ rw e (get_or-set_same ws i (w i) 0 h)
  | no d ↦ get_or-set_other ws i k (w i) 0 d ∙ f k (omega arith)
]

-- the words that were copied are the row
pub copied : (rows ws : List ℕ) (i : ℕ) → length ws ≡ word_count → ((k : ℕ) → k < word_count → get_or ws k 0 ≡ get_or rows (i + k) 0) → ws ≡ words_from rows word_count i
copied rows ws i l h = ext_get_or 0 ws (words_from rows word_count i) (l ∙ sym (length_words rows word_count i))
    (λ k j. let m : k < word_count = omega arith in h k m ∙ sym (get_d_words rows word_count i k m))

-- THE ROW OF A VERTEX HAS THE VERTICES ADJACENT TO IT.
pub row_adjacent : (rows : List ℕ) (u v : ℕ) → has (row_of rows u).words v ≡ adjacent_in rows u v
row_adjacent rows u v = go (ltb u capacity) (ltb v capacity) refl
  where
    low : v < capacity → has (words_from rows word_count (u * word_count)) v ≡ has rows (u * capacity + v)
    low h = let i : v / 64 < word_count = omega arith in rw (get_d_words rows word_count (u * word_count) (v / 64) i, word_of u v, bit_of_lem u v)

    go : (b c : Bool) → ltb v capacity ≡ c → has (cond b (record { words = words_from rows word_count (u * word_count) }) empty_set).words v ≡ b && (c && has rows (u * capacity + v))
    go true true e = low (ltb-true _ _ e)
    go true false e = has-past (words_from rows word_count (u * word_count)) v (omega (arith, length_words rows word_count (u * word_count), ltb-false v capacity e))
    go false c e = has-empty word_count v

-- AN EDGE THAT COMES AND GOES: each bit goes back, the one that was set last first.
module _ (rows : List ℕ) (long : length rows ≡ row_words) (u v : ℕ) (lu : u < capacity) (lv : v < capacity) (differ : u ≢ v) where
  here : (t : Bool) → adjacent_in rows u v ≡ t → has rows (u * capacity + v) ≡ t
  here t e = rw (lt-ltb u capacity lu, lt-ltb v capacity lv) at e

  there : (t : Bool) → adjacent_in rows v u ≡ t → has rows (v * capacity + u) ≡ t
  there t e = rw (lt-ltb u capacity lu, lt-ltb v capacity lv) at e

  first_place : u * capacity + v < 64 * length rows
  first_place = omega arith

  places : eqb (v * capacity + u) (u * capacity + v) ≡ false
  places = ne_eqb (v * capacity + u) (u * capacity + v) (λ e. differ (omega arith))

  pub part_joined : adjacent_in rows u v ≡ false → adjacent_in rows v u ≡ false → parted_rows (joined_rows rows u v) v u ≡ rows
  part_joined e f =
      let once = with_bit rows (u * capacity + v) in
      let k : length once ≡ length rows = simp length-set in
      let l : v * capacity + u < 64 * length once = omega arith in
      let out : has once (v * capacity + u) ≡ false = ap (λ (t : ℕ → Bool). t (v * capacity + u)) (has-insert rows (u * capacity + v) first_place) ∙ rw (there false f, places) in
      rw (lt-ltb u capacity lu, lt-ltb v capacity lv) (ap (λ (r : List ℕ). without_bit r (u * capacity + v)) (remove_inserted once (v * capacity + u) l out) ∙ remove_inserted rows (u * capacity + v) first_place (here false e))

  pub join_parted : adjacent_in rows u v ≡ true → adjacent_in rows v u ≡ true → joined_rows (parted_rows rows u v) v u ≡ rows
  join_parted e f =
      let once = without_bit rows (u * capacity + v) in
      let k : length once ≡ length rows = simp length-set in
      let l : v * capacity + u < 64 * length once = omega arith in
      let still : has once (v * capacity + u) ≡ true = has-remove rows (u * capacity + v) first_place (v * capacity + u) ∙ rw (there true f, places) in
      rw (lt-ltb u capacity lu, lt-ltb v capacity lv) (ap (λ (r : List ℕ). with_bit r (u * capacity + v)) (insert_removed once (v * capacity + u) l still) ∙ insert_removed rows (u * capacity + v) first_place (here true e))
