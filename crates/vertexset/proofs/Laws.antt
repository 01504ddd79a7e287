-- What the definitions on words say about members, at any number of words. Assumes nothing.
use mathlib.Core.Path.{◌≡◌, refl, sym, ap, fun_ext, ◌∙◌}
use mathlib.Core.Bool.{Bool, true, false, not, ◌&&◌, ◌||◌, or-false, or-true, and-true, and-false, false≢true, cond}
use mathlib.Core.List.{List, [], ◌∷◌}
use mathlib.Core.Logic.{◌⊎◌, inl, inr, ⊎_elim}
use Prim.Native.Nat.{ℕ, zero, suc, ◌+◌, ◌*◌, ◌-◌, ◌/◌, ◌%◌, ◌^◌, ◌<◌, ◌≤◌}
use native.Mathlib.Nat.{two-pow-succ, add-zero, add-suc, add_assoc, zero-div, div-eq_of_lt, mod-eq_of_lt}
use native.Mathlib.Decide.{ℕ_discrete}
use native.Mathlib.Omega.{arith}
use lib.Dec.{eqb, ltb, lit<}
use lib.Arith.{digits_div, digits_mod}
use lib.ListN.{length, get_or, set, replicate, length-set, length-replicate, get_or-eq_default}
use lib.Seq.{get_or-set_same, get_or-set_other, ext_get_or}
use lib.Bits.{bit_or, and_le_l, xor_lt}
use borrow.Author.Tests.{eq-eqb, ne_eqb, eqb-true, ltb-true, ltb-false, not-false}
use Rattle.vertexset.specs.declared.VertexSet.{VertexSet}
use Rattle.vertexset.specs.Set.{Words, word_count, has, empty_set, with_bit, inserted, without_bit, removed, zip, wordwise, less, count, none, subset_of, first_from, next}
use Rattle.vertexset.proofs.Bit.{on, on_or, on_less, on_zero, on_pow, same_bits, tally_same, ones_tally, tally}

-- ---- members after each operation

pub has-past : (ws : List ℕ) (x : ℕ) → 64 * length ws ≤ x → has ws x ≡ false
has-past ws x h =
    let l : length ws ≤ x / 64 = omega arith in
    rw (get_or-eq_default ws 0 l, zero-div)

-- one value over and over, and past the end the same
pub repeated_at : {A : Type 0} (a : A) (n i : ℕ) → get_or (replicate n a) i a ≡ a
repeated_at a zero i = refl
repeated_at a (suc n) zero = refl
repeated_at a (suc n) (suc i) = repeated_at a n i

pub zeros-at : (n i : ℕ) → ◌≡◌ {A = ℕ} (get_or (replicate n 0) i 0) 0
zeros-at = repeated_at 0

pub has-empty : (n x : ℕ) → has (replicate n 0) x ≡ false
has-empty n x = rw zeros-at (on_zero (x % 64))

-- of two vertices in the same word
same_word : (x v : ℕ) → x / 64 ≡ v / 64 → eqb (v % 64) (x % 64) ≡ eqb x v
same_word x v e = elim (ℕ_discrete x v) [
  | yes f ↦ rw (eq-eqb x v f, eq-eqb (v % 64) (x % 64) (ap (λ z. z % 64) (sym f)))
  | no n ↦ rw (ne_eqb x v n, ne_eqb (v % 64) (x % 64) (λ f. n (omega arith)))
]

pub has-insert : (ws : List ℕ) (v : ℕ) → v < 64 * length ws → has (with_bit ws v) ≡ (λ x. has ws x || eqb x v)
has-insert ws v h = fun_ext at where
  at : (x : ℕ) → has (with_bit ws v) x ≡ has ws x || eqb x v
  at x = elim (ℕ_discrete (x / 64) (v / 64)) [
    | yes e ↦ rw (e, get_or-set_same ws (v / 64) _ 0 (omega arith), on_or _ _ (x % 64), on_pow, same_word x v e)
    | no n ↦ rw (get_or-set_other ws (v / 64) (x / 64) _ 0 n, ne_eqb x v (λ g. n (ap (λ z. z / 64) g))) (sym (or-false _))
  ]

-- the words without a bit
pub has-remove : (ws : List ℕ) (v : ℕ) → v < 64 * length ws → (x : ℕ) → has (set ws (v / 64) (less (get_or ws (v / 64) 0) (2 ^ (v % 64)))) x ≡ (has ws x && not (eqb x v))
has-remove ws v h x = elim (ℕ_discrete (x / 64) (v / 64)) [
  | yes e ↦ rw (e, get_or-set_same ws (v / 64) _ 0 (omega arith), on_less _ _ (x % 64), on_pow, same_word x v e)
  | no n ↦ rw (get_or-set_other ws (v / 64) (x / 64) _ 0 n, ne_eqb x v (λ g. n (ap (λ z. z / 64) g))) (sym (and-true _))
]

get_d_zip : (f : ℕ → ℕ → ℕ) → f 0 0 ≡ 0 → (xs ys : List ℕ) → length xs ≡ length ys → (i : ℕ) → get_or (zip f xs ys) i 0 ≡ f (get_or xs i 0) (get_or ys i 0)
unfolding zip
get_d_zip f e [] [] h i = sym e
get_d_zip f e [] (y ∷ ys) h i = absurd (omega arith)
get_d_zip f e (x ∷ xs) [] h i = absurd (omega arith)
get_d_zip f e (x ∷ xs) (y ∷ ys) h zero = refl
get_d_zip f e (x ∷ xs) (y ∷ ys) h (suc i) = get_d_zip f e xs ys (omega arith) i

pub on_union : (xs ys : List ℕ) → length xs ≡ length ys → (i k : ℕ) → on (get_or (zip bit_or xs ys) i 0) k ≡ (on (get_or xs i 0) k || on (get_or ys i 0) k)
on_union xs ys h i k = rw (get_d_zip bit_or refl xs ys h) (on_or _ _ k)

pub has-union : (xs ys : List ℕ) → length xs ≡ length ys → (x : ℕ) → has (zip bit_or xs ys) x ≡ (has xs x || has ys x)
has-union xs ys h x = on_union xs ys h (x / 64) (x % 64)

pub has-minus : (xs ys : List ℕ) → length xs ≡ length ys → (x : ℕ) → has (zip less xs ys) x ≡ (has xs x && not (has ys x))
has-minus xs ys h x = rw (get_d_zip less refl xs ys h) (on_less _ _ (x % 64))

-- ---- a set is known by its members

pub at_word_lem : (ws : List ℕ) (i k : ℕ) → k < 64 → has ws (i * 64 + k) ≡ on (get_or ws i 0) k
at_word_lem ws i k h = rw (digits_div i h, digits_mod i h)

pub same_members : (xs ys : List ℕ) → length xs ≡ length ys → Words xs → Words ys → ((x : ℕ) → x < 64 * length xs → has xs x ≡ has ys x) → xs ≡ ys
same_members xs ys l wx wy same =
    ext_get_or 0 xs ys l (λ i h. same_bits 64 _ _ (wx i) (wy i)
    (λ k m. sym (at_word_lem xs i k m) ∙ same (i * 64 + k) (omega arith) ∙ at_word_lem ys i k m))

pow_above : (n : ℕ) → n < 2 ^ n
pow_above zero = lit< tt
pow_above (suc n) = omega (arith, pow_above n, two-pow-succ n)

-- words of any size are known by their bits
pub same_words : (xs ys : List ℕ) → length xs ≡ length ys → ((i k : ℕ) → on (get_or xs i 0) k ≡ on (get_or ys i 0) k) → xs ≡ ys
same_words xs ys l same =
    ext_get_or 0 xs ys l (λ i h. let sum = pow_above (get_or xs i 0 + get_or ys i 0) in same_bits (get_or xs i 0 + get_or ys i 0) _ _ (omega arith) (omega arith) (λ k m. same i k))

-- a member once more: nothing changes
pub insert_again : (ws : List ℕ) (v : ℕ) → v < 64 * length ws → has ws v ≡ true → with_bit ws v ≡ ws
insert_again ws v h m = same_words (with_bit ws v) ws (length-set ws (v / 64) _) at where
  kept : (w j k : ℕ) → on w j ≡ true → on (bit_or w (2 ^ j)) k ≡ on w k
  kept w j k t = elim (ℕ_discrete j k) [
    | yes e ↦ rw (← e, on_or w (2 ^ j) j, t)
    | no n ↦ rw (on_or w (2 ^ j) k, on_pow, ne_eqb j k n) (or-false _)
  ]

  at : (i k : ℕ) → on (get_or (with_bit ws v) i 0) k ≡ on (get_or ws i 0) k
  at i k = elim (ℕ_discrete i (v / 64)) [
    | yes e ↦ rw (e, get_or-set_same ws (v / 64) _ 0 (omega arith)) (kept (get_or ws (v / 64) 0) (v % 64) k m)
    | no n ↦ rw (get_or-set_other ws (v / 64) i _ 0 n)
  ]

-- a word that is set twice, at last to the bits that it had
set_back : (ws : List ℕ) (i a b : ℕ) → i < length ws → ((k : ℕ) → on b k ≡ on (get_or ws i 0) k) → set (set ws i a) i b ≡ ws
set_back ws i a b h same = same_words (set (set ws i a) i b) ws (length-set (set ws i a) i b ∙ length-set ws i a) at where
  at : (j k : ℕ) → on (get_or (set (set ws i a) i b) j 0) k ≡ on (get_or ws j 0) k
  at j k = elim (ℕ_discrete j i) [
    | yes e ↦ rw (e, get_or-set_same (set ws i a) i b 0 (omega (arith, length-set ws i a))) (same k)
    | no n ↦ rw (get_or-set_other (set ws i a) i j b 0 n, get_or-set_other ws i j a 0 n)
  ]

-- a vertex that comes in and goes out again, and one that goes out and comes in again
pub remove_inserted : (ws : List ℕ) (v : ℕ) → v < 64 * length ws → has ws v ≡ false → without_bit (with_bit ws v) v ≡ ws
remove_inserted ws v h m =
    let l : v / 64 < length ws = omega arith in
    rw (get_or-set_same ws (v / 64) (bit_or (get_or ws (v / 64) 0) (2 ^ (v % 64))) 0 l)
    (set_back ws (v / 64) (bit_or (get_or ws (v / 64) 0) (2 ^ (v % 64))) (less (bit_or (get_or ws (v / 64) 0) (2 ^ (v % 64))) (2 ^ (v % 64))) l (λ k. kept (get_or ws (v / 64) 0) (v % 64) k m)) where
      old : (b : Bool) → ((b || false) && true) ≡ b
      old true = refl
      old false = refl

      kept : (w j k : ℕ) → on w j ≡ false → on (less (bit_or w (2 ^ j)) (2 ^ j)) k ≡ on w k
      kept w j k t = elim (ℕ_discrete j k) [
        | yes e ↦ rw (← e, on_less (bit_or w (2 ^ j)) (2 ^ j) j, on_pow, eq-eqb j j refl, t) (and-false (on (bit_or w (2 ^ j)) j))
        | no n ↦ rw (on_less (bit_or w (2 ^ j)) (2 ^ j) k, on_or w (2 ^ j) k, on_pow, ne_eqb j k n) (old (on w k))
      ]

pub insert_removed : (ws : List ℕ) (v : ℕ) → v < 64 * length ws → has ws v ≡ true → with_bit (without_bit ws v) v ≡ ws
insert_removed ws v h m =
    let l : v / 64 < length ws = omega arith in
    rw (get_or-set_same ws (v / 64) (less (get_or ws (v / 64) 0) (2 ^ (v % 64))) 0 l)
    (set_back ws (v / 64) (less (get_or ws (v / 64) 0) (2 ^ (v % 64))) (bit_or (less (get_or ws (v / 64) 0) (2 ^ (v % 64))) (2 ^ (v % 64))) l (λ k. kept (get_or ws (v / 64) 0) (v % 64) k m)) where
      old : (b : Bool) → ((b && true) || false) ≡ b
      old true = refl
      old false = refl

      kept : (w j k : ℕ) → on w j ≡ true → on (bit_or (less w (2 ^ j)) (2 ^ j)) k ≡ on w k
      kept w j k t = elim (ℕ_discrete j k) [
        | yes e ↦ rw (← e, on_or (less w (2 ^ j)) (2 ^ j) j, on_pow, eq-eqb j j refl, t) (or-true (on (less w (2 ^ j)) j))
        | no n ↦ rw (on_or (less w (2 ^ j)) (2 ^ j) k, on_less w (2 ^ j) k, on_pow, ne_eqb j k n) (old (on w k))
      ]

-- ---- no members, and members of another set

and_both : (p q : Bool) → (p && q) ≡ true → (p ≡ true) × (q ≡ true)
and_both true q h = (refl, h)
and_both false q h = (h, absurd (false≢true h))

none-zeros : (ws : List ℕ) → none ws ≡ true → ws ≡ replicate (length ws) 0
unfolding none
none-zeros [] h = refl
none-zeros (w ∷ ws) h =
    let b = and_both (eqb w 0) (none ws) h in
    rw (eqb-true w 0 b.0, ← none-zeros ws b.1)

zeros-none : (n : ℕ) → none (replicate n 0) ≡ true
unfolding none
zeros-none zero = refl
zeros-none (suc n) = zeros-none n

pub none_has : (ws : List ℕ) → none ws ≡ true → (x : ℕ) → has ws x ≡ false
none_has ws h x = rw (none-zeros ws h) (has-empty (length ws) x)

pub has-none : (ws : List ℕ) → Words ws → ((x : ℕ) → x < 64 * length ws → has ws x ≡ false) → none ws ≡ true
has-none ws s h =
    let small : Words (replicate (length ws) 0) = λ i. rw zeros-at (lit< tt) in
    let bare : (x : ℕ) → x < 64 * length ws → has ws x ≡ has (replicate (length ws) 0) x = λ x l. h x l ∙ sym (has-empty (length ws) x) in
    let e : ws ≡ replicate (length ws) 0 = same_members ws _ (sym (length-replicate (length ws) 0)) s small bare in
    rw e (zeros-none (length ws))

length_zip : (f : ℕ → ℕ → ℕ) (xs ys : List ℕ) → length xs ≡ length ys → length (zip f xs ys) ≡ length xs
unfolding zip
length_zip f [] ys h = refl
length_zip f (x ∷ xs) [] h = absurd (omega arith)
length_zip f (x ∷ xs) (y ∷ ys) h = ap suc (length_zip f xs ys (omega arith))

implied : (p q : Bool) → (p ≡ true → q ≡ true) → (p && not q) ≡ false
implied true q h = rw (h refl)
implied false q h = refl

pub subset_has : (xs ys : List ℕ) → length xs ≡ length ys → subset_of xs ys ≡ true → (x : ℕ) → has xs x ≡ true → has ys x ≡ true
subset_has xs ys l h x m = not-false _ (rw m at (sym (has-minus xs ys l x) ∙ none_has (zip less xs ys) h x))

pub has-subset : (xs ys : List ℕ) → length xs ≡ length ys → Words xs → ((x : ℕ) → x < 64 * length xs → has xs x ≡ true → has ys x ≡ true) → subset_of xs ys ≡ true
has-subset xs ys l wx h =
    let small : (i : ℕ) → less (get_or xs i 0) (get_or ys i 0) < 2 ^ 64 = λ i. xor_lt 64 _ _ (wx i) (omega (arith, and_le_l (get_or xs i 0) (get_or ys i 0), wx i)) in
    has-none (zip less xs ys) (λ i. rw (get_d_zip less refl xs ys l i) (small i)) (λ x k. has-minus xs ys l x ∙ implied _ _ (h x (rw length_zip at k)))

-- ---- the size is the number of members

tally_add : (p : ℕ → Bool) (a n : ℕ) → tally p (a + n) ≡ tally p a + tally (λ k. p (a + k)) n
unfolding tally
tally_add p a zero = rw (add-zero a) (sym (add-zero _))
tally_add p a (suc n) = rw (add-suc a n, tally_add p a n) (add_assoc _ _ _)

first_word : (w : ℕ) (ws : List ℕ) (k : ℕ) → k < 64 → on w k ≡ has (w ∷ ws) k
first_word w ws k h = rw (div-eq_of_lt h, mod-eq_of_lt h)

later_words : (w : ℕ) (ws : List ℕ) (k : ℕ) → has ws k ≡ has (w ∷ ws) (64 + k)
later_words w ws k =
    let d : (64 + k) / 64 ≡ suc (k / 64) = omega arith in
    let m : (64 + k) % 64 ≡ k % 64 = omega arith in
    rw (d, m)

pub count-tally : (ws : List ℕ) → Words ws → count ws ≡ tally (has ws) (64 * length ws)
unfolding count tally
count-tally [] s = refl
count-tally (w ∷ ws) s =
    let e : 64 * suc (length ws) ≡ 64 + 64 * length ws = omega arith in
    rw (
      e,
      tally_add (has (w ∷ ws)) 64 (64 * length ws),
      ones_tally 64 w (s 0),
      count-tally ws (λ i. s (suc i)),
      tally_same (on w) (has (w ∷ ws)) 64 (first_word w ws),
      tally_same (has ws) (λ k. has (w ∷ ws) (64 + k)) (64 * length ws) (λ k l. later_words w ws k),
    )

-- ---- the next member

-- r is the least number from v on of which p holds
pub record Found (p : ℕ → Bool) (v r : ℕ) : Type 0 where
  pub member : p r ≡ true
  pub not_below : v ≤ r
  pub between : (x : ℕ) → v ≤ x → x < r → p x ≡ false

-- p holds of no number from v on, and r is z
pub record Missing (p : ℕ → Bool) (z v r : ℕ) : Type 0 where
  pub limit : r ≡ z
  pub beyond : (x : ℕ) → v ≤ x → p x ≡ false

-- one number more in front
in_front : (p : ℕ → Bool) (z v r : ℕ) (b : Bool) → p v ≡ b → Found p (suc v) r ⊎ Missing p z (suc v) r
    → Found p v (cond b v r) ⊎ Missing p z v (cond b v r)
in_front p z v r true e later = inl record { member = e; not_below = omega arith; between = λ x l m. absurd (omega arith) }
in_front p z v r false e later = ⊎_elim
    (λ f. inl record { member = f.member; not_below = omega (arith, f.not_below); between = λ x l m. or_above x l (λ k. f.between x k m) })
    (λ f. inr record { limit = f.limit; beyond = λ x l. or_above x l (f.beyond x) })
    later where
      or_above : (x : ℕ) → v ≤ x → (suc v ≤ x → p x ≡ false) → p x ≡ false
      or_above x l above = elim (ℕ_discrete x v) [ yes same ↦ rw same e | no n ↦ above (omega arith) ]

first_is : (p : ℕ → Bool) (z : ℕ) → ((x : ℕ) → z ≤ x → p x ≡ false) → (n v : ℕ) → z ≤ v + n
    → Found p v (first_from p z n v) ⊎ Missing p z v (first_from p z n v)
unfolding first_from
first_is p z past zero v h = inr record { limit = refl; beyond = λ x l. past x (omega arith) }
first_is p z past (suc n) v h = in_front p z v (first_from p z n (suc v)) (p v) refl (first_is p z past n (suc v) (omega arith))

pub next-is : (ws : List ℕ) (v : ℕ) → Found (has ws) v (next ws v) ⊎ Missing (has ws) (64 * length ws) v (next ws v)
next-is ws v = first_is (has ws) (64 * length ws) (has-past ws) (64 * length ws - v) v (omega arith)

pub member-low : (ws : List ℕ) (x : ℕ) → has ws x ≡ true → x < 64 * length ws
member-low ws x m = go (ltb x (64 * length ws)) refl where
  go : (b : Bool) → ltb x (64 * length ws) ≡ b → x < 64 * length ws
  go true e = ltb-true x (64 * length ws) e
  go false e = absurd (false≢true (sym (has-past ws x (ltb-false x (64 * length ws) e)) ∙ m))

pub next_low : (ws : List ℕ) (v : ℕ) → next ws v ≤ 64 * length ws
next_low ws v = ⊎_elim (λ f. omega (arith, member-low ws (next ws v) f.member)) (λ m. omega (arith, m.limit)) (next-is ws v)

-- ---- sets, as loops carry them

pub empty-has : has empty_set.words ≡ (λ x. false)
empty-has = fun_ext (has-empty word_count)

pub inserted-has : (s : VertexSet) (v : ℕ) → length s.words ≡ word_count → v < 64 * word_count → has (inserted s v).words ≡ (λ x. has s.words x || eqb x v)
inserted-has s v l h = has-insert s.words v (omega arith)

pub inserted-length : (s : VertexSet) (v : ℕ) → length s.words ≡ word_count → length (inserted s v).words ≡ word_count
inserted-length s v l = simp length-set l

pub removed-inserted : (s : VertexSet) (v : ℕ) → length s.words ≡ word_count → v < 64 * word_count → has s.words v ≡ false → removed (inserted s v) v ≡ s
removed-inserted s v l h m = ap (λ (ws : List ℕ). record { words = ws }) (remove_inserted s.words v (omega arith) m)

pub wordwise-length : (f : ℕ → ℕ → ℕ) (s t : VertexSet) → length s.words ≡ word_count → length t.words ≡ word_count → length (wordwise f s t).words ≡ word_count
wordwise-length f s t l m = length_zip f _ _ (l ∙ sym m) ∙ l
