-- Laws of vertex sets and of lists of vertices, as the certifier uses them.
use Prim.Native.Nat.{ℕ, zero, suc, ◌+◌, ◌*◌, ◌-◌, ◌/◌, ◌^◌, ◌≤◌, ◌<◌}
use mathlib.Core.Path.{◌≡◌, refl, sym, ap, subst, ◌∙◌}
use mathlib.Core.Bool.{Bool, true, false, cond, not, ◌&&◌, ◌||◌}
use mathlib.Core.Logic.{◌⊎◌, inl, inr, ⊎_elim, ⊎_map}
use mathlib.Core.List.{List, [], ◌∷◌, ◌++◌, append_assoc}
use native.Mathlib.Nat.{mod-lt, zero-add}
use native.Mathlib.Omega.{arith}
use native.Mathlib.Decide.{ℕ_discrete}
use lib.Dec.{eqb, ltb, lit<}
use lib.Pow.{pow-lt}
use lib.Bits.{bit_or, or_lt, xor_lt, and_lt}
use lib.ListN.{length, set}
use lib.Seq.{set_out}
use borrow.Author.Tests.{eqb-true, eq-eqb, ltb-true, lt-ltb, le-leb}
use Rattle.record.specs.Read.{folded}
use Rattle.vertexset.proofs.Laws.{zeros-at}
use Rattle.vertexset.specs.Set.{Words, has, word_count, empty_set, inserted, zip, less, next, count, capacity}
use Rattle.vertexset.specs.declared.VertexSet.{VertexSet}
use Rattle.vertexset.proofs.Laws as laws
use Rattle.graph.specs.Rows.{row_of, words_from, adjacent_in}
use Rattle.graph.proofs.Rows.{row_adjacent, length_words}
use Rattle.connectivity.specs.Lists.{In, NoDup, Ascending, select, up_from, below}
use Rattle.connectivity.specs.Path.{Path, vertices}
use Rattle.connectivity.proofs.Lists.{clash, bool?, or-true, either, below?, in_below, below_in, select_in, in_select, select-nodup, rev}
use Rattle.construction.specs.Sets.{stop, plus, minus, common, single, pair, set_with_all, set_of, members_from, members, least, empty, added, reversed, last_of}
use Rattle.construction.specs.Certificate.{full_set}
use Rattle.construction.proofs.Basics.{Sized, On, flatten}
use Rattle.certificates.specs.Tests.{with}
use Rattle.vertexset.proofs.Bit.{tally}

-- ---- sets of full size

pub set_words : (ws : List ℕ) (i w : ℕ) → Words ws → w < 2 ^ 64 → Words (set ws i w)
set_words [] i w h k j = h j
set_words (x ∷ xs) zero w h k zero = k
set_words (x ∷ xs) zero w h k (suc j) = h (suc j)
set_words (x ∷ xs) (suc i) w h k zero = h 0
set_words (x ∷ xs) (suc i) w h k (suc j) = set_words xs i w (λ m. h (suc m)) k j

zip-words : (f : ℕ → ℕ → ℕ) → ((x y : ℕ) → x < 2 ^ 64 → y < 2 ^ 64 → f x y < 2 ^ 64) → (xs ys : List ℕ) → Words xs → Words ys → Words (zip f xs ys)
unfolding zip
zip-words f b [] ys h k j = lit< tt
zip-words f b (x ∷ xs) [] h k j = lit< tt
zip-words f b (x ∷ xs) (y ∷ ys) h k zero = b x y (h 0) (k 0)
zip-words f b (x ∷ xs) (y ∷ ys) h k (suc j) = zip-words f b xs ys (λ m. h (suc m)) (λ m. k (suc m)) j

row_words_lem : (rows : List ℕ) → Words rows → (j i : ℕ) → Words (words_from rows j i)
unfolding words_from
row_words_lem rows h zero i k = lit< tt
row_words_lem rows h (suc j) i zero = h i
row_words_lem rows h (suc j) i (suc k) = row_words_lem rows h j (i + 1) k

pub less-lt : (x y : ℕ) → x < 2 ^ 64 → y < 2 ^ 64 → less x y < 2 ^ 64
less-lt x y h k = xor_lt 64 x _ h (and_lt 64 x y h k)

pub sized_empty : Sized empty_set
sized_empty = record { size = refl; words = λ i. rw (zeros-at word_count i) (lit< tt) }

pub sized_inserted : (s : VertexSet) (v : ℕ) → Sized s → Sized (inserted s v)
sized_inserted s v h = record {
  size = laws.inserted-length s v h.size;
  words = set_words s.words (v / 64) _ h.words (or_lt 64 _ _ (h.words (v / 64)) (pow-lt (mod-lt v (lit< tt))));
}

pub sized_all : (s : VertexSet) (l : List ℕ) → Sized s → Sized (set_with_all s l)
unfolding folded
sized_all s [] h = h
sized_all s (v ∷ l) h = sized_all (inserted s v) l (sized_inserted s v h)

pub sized_plus : (a b : VertexSet) → Sized a → Sized b → Sized (plus a b)
sized_plus a b h k = record { size = laws.wordwise-length bit_or a b h.size k.size; words = zip-words bit_or (or_lt 64) _ _ h.words k.words }

pub sized_minus : (a b : VertexSet) → Sized a → Sized b → Sized (minus a b)
sized_minus a b h k = record { size = laws.wordwise-length less a b h.size k.size; words = zip-words less less-lt _ _ h.words k.words }

pub sized_single : (v : ℕ) → Sized (single v)
sized_single v = sized_inserted empty_set v sized_empty

pub sized_pair : (u v : ℕ) → Sized (pair u v)
sized_pair u v = sized_inserted (single u) v (sized_single u)

pub sized_row : (rows : List ℕ) (u : ℕ) → Words rows → Sized (row_of rows u)
sized_row rows u h = go (ltb u capacity)
  where
    go : (b : Bool) → Sized (cond b (record { words = words_from rows word_count (u * word_count) }) empty_set)
    go true = record { size = length_words rows word_count (u * word_count); words = row_words_lem rows h word_count (u * word_count) }
    go false = sized_empty

-- ---- members after each operation

not_on : {b : Bool} → ¬ (b ≡ true) → b ≡ false
not_on {b} h = ⊎_elim (λ e. absurd (h e)) (λ e. e) (bool? b)

pub on_low : (s : VertexSet) (x : ℕ) → Sized s → On s x → x < capacity
on_low s x h k = ⊎_elim (λ e. e) (λ e. absurd (clash k (laws.has-past s.words x (omega (arith, h.size))))) (either (below? x capacity))

pub has-plus : (a b : VertexSet) → Sized a → Sized b → (x : ℕ) → has (plus a b).words x ≡ (has a.words x || has b.words x)
has-plus a b h k x = laws.has-union a.words b.words (h.size ∙ sym k.size) x

pub has-minus : (a b : VertexSet) → Sized a → Sized b → (x : ℕ) → has (minus a b).words x ≡ (has a.words x && not (has b.words x))
has-minus a b h k x = laws.has-minus a.words b.words (h.size ∙ sym k.size) x

pub plus-on : (a b : VertexSet) → Sized a → Sized b → (x : ℕ) → On (plus a b) x → On a x ⊎ On b x
plus-on a b h k x e = or-true _ _ (sym (has-plus a b h k x) ∙ e)

pub or_on : (p q : Bool) → (p ≡ true) ⊎ (q ≡ true) → p || q ≡ true
or_on true q e = refl
or_on false q (inl e) = absurd (clash e refl)
or_on false q (inr e) = e

pub on_plus : (a b : VertexSet) → Sized a → Sized b → (x : ℕ) → On a x ⊎ On b x → On (plus a b) x
on_plus a b h k x e = has-plus a b h k x ∙ or_on _ _ e

and_not : (p q : Bool) → p && not q ≡ true → (p ≡ true) × (¬ (q ≡ true))
and_not true true e = absurd (clash e refl)
and_not true false e = (refl, λ h. clash h refl)
and_not false q e = absurd (clash e refl)

not_and : (p q : Bool) → p ≡ true → ¬ (q ≡ true) → p && not q ≡ true
not_and true true e n = absurd (n refl)
not_and true false e n = refl
not_and false q e n = absurd (clash e refl)

pub minus-on : (a b : VertexSet) → Sized a → Sized b → (x : ℕ) → On (minus a b) x → On a x × (¬ On b x)
minus-on a b h k x e = and_not _ _ (sym (has-minus a b h k x) ∙ e)

pub on_minus : (a b : VertexSet) → Sized a → Sized b → (x : ℕ) → On a x → ¬ On b x → On (minus a b) x
on_minus a b h k x e n = has-minus a b h k x ∙ not_and _ _ e n

pub common-on : (a b : VertexSet) → Sized a → Sized b → (x : ℕ) → On (common a b) x → On a x × On b x
common-on a b h k x e =
    let r = minus-on a (minus a b) h (sized_minus a b h k) x e in
    (r.0, ⊎_elim (λ y. y) (λ n. absurd (r.1 (on_minus a b h k x r.0 (λ y. clash y n)))) (bool? (has b.words x)))

pub on_common : (a b : VertexSet) → Sized a → Sized b → (x : ℕ) → On a x → On b x → On (common a b) x
on_common a b h k x e y = on_minus a (minus a b) h (sized_minus a b h k) x e (λ n. (minus-on a b h k x n).1 y)

pub empty-on : (x : ℕ) → ¬ On empty_set x
empty-on x e = clash e (laws.has-empty word_count x)

-- where v is past the words nothing changes
inserted-past : (s : VertexSet) (v : ℕ) → Sized s → capacity ≤ v → (inserted s v).words ≡ s.words
inserted-past s v h k = set_out s.words (v / 64) _ (omega (arith, h.size))

has-inserted : (s : VertexSet) (v x : ℕ) → Sized s → v < capacity → has (inserted s v).words x ≡ with (has s.words) v x
has-inserted s v x h k = ap (λ (p : ℕ → Bool). p x) (laws.inserted-has s v h.size k)

pub inserted-on : (s : VertexSet) (v x : ℕ) → Sized s → On (inserted s v) x → On s x ⊎ (x ≡ v)
inserted-on s v x h e = go (either (below? v capacity))
  where
    go : (v < capacity) ⊎ (¬ (v < capacity)) → On s x ⊎ (x ≡ v)
    go (inl k) = ⊎_map (λ y. y) (eqb-true x v) (or-true _ _ (sym (has-inserted s v x h k) ∙ e))
    go (inr k) = inl (subst (λ (ws : List ℕ). has ws x ≡ true) (inserted-past s v h (omega arith)) e)

pub on_inserted : (s : VertexSet) (v : ℕ) → Sized s → v < capacity → On (inserted s v) v
on_inserted s v h k = has-inserted s v v h k ∙ or_on (has s.words v) (eqb v v) (inr (eq-eqb v v refl))

pub inserted-keep : (s : VertexSet) (v x : ℕ) → Sized s → On s x → On (inserted s v) x
inserted-keep s v x h e = go (either (below? v capacity))
  where
    go : (v < capacity) ⊎ (¬ (v < capacity)) → On (inserted s v) x
    go (inl k) = has-inserted s v x h k ∙ or_on _ _ (inl e)
    go (inr k) = subst (λ (ws : List ℕ). has ws x ≡ true) (sym (inserted-past s v h (omega arith))) e

pub single-on : (v x : ℕ) → On (single v) x → x ≡ v
single-on v x e = ⊎_elim (λ k. absurd (empty-on x k)) (λ k. k) (inserted-on empty_set v x sized_empty e)

pub on_single : (v : ℕ) → v < capacity → On (single v) v
on_single v h = on_inserted empty_set v sized_empty h

pub pair-on : (u v x : ℕ) → On (pair u v) x → (x ≡ u) ⊎ (x ≡ v)
pair-on u v x e = ⊎_map (single-on u x) (λ k. k) (inserted-on (single u) v x (sized_single u) e)

pub on_pair : (u v : ℕ) → u < capacity → v < capacity → On (pair u v) u × On (pair u v) v
on_pair u v h k = (inserted-keep (single u) v u (sized_single u) (on_single u h), on_inserted (single u) v (sized_single u) k)

pub all-on : (s : VertexSet) (l : List ℕ) (x : ℕ) → Sized s → On (set_with_all s l) x → On s x ⊎ In x l
unfolding folded
all-on s [] x h e = inl e
all-on s (v ∷ l) x h e = go (all-on (inserted s v) l x (sized_inserted s v h) e)
  where
    go : On (inserted s v) x ⊎ In x l → On s x ⊎ In x (v ∷ l)
    go (inl k) = ⊎_map (λ y. y) inl (inserted-on s v x h k)
    go (inr k) = inr (inr k)

pub on_all : (s : VertexSet) (l : List ℕ) (x : ℕ) → Sized s → x < capacity → On s x ⊎ In x l → On (set_with_all s l) x
unfolding folded
on_all s [] x h b e = ⊎_elim (λ k. k) (λ k. absurd k) e
on_all s (v ∷ l) x h b e = on_all (inserted s v) l x (sized_inserted s v h) b (go e)
  where
    go : On s x ⊎ In x (v ∷ l) → On (inserted s v) x ⊎ In x l
    go (inl k) = inl (inserted-keep s v x h k)
    go (inr (inl k)) = inl (subst (λ (y : ℕ). On (inserted s y) x) k (on_inserted s x h b))
    go (inr (inr k)) = inr k

pub set_on : (l : List ℕ) (x : ℕ) → On (set_of l) x → In x l
set_on l x e = ⊎_elim (λ k. absurd (empty-on x k)) (λ k. k) (all-on empty_set l x sized_empty e)

pub on_set : (l : List ℕ) (x : ℕ) → x < capacity → In x l → On (set_of l) x
on_set l x h k = on_all empty_set l x sized_empty h (inr k)

pub full_on : (n x : ℕ) → On (full_set n) x → x < n
full_on n x e = in_below n x (set_on (below n) x e)

pub on_full : (n x : ℕ) → n ≤ capacity → x < n → On (full_set n) x
on_full n x h k = on_set (below n) x (omega arith) (below_in n x k)

pub row_on : (rows : List ℕ) (u v : ℕ) → On (row_of rows u) v → adjacent_in rows u v ≡ true
row_on rows u v e = sym (row_adjacent rows u v) ∙ e

pub on_row : (rows : List ℕ) (u v : ℕ) → adjacent_in rows u v ≡ true → On (row_of rows u) v
on_row rows u v e = row_adjacent rows u v ∙ e

-- ---- the members in a list

in_up : (a k w : ℕ) → In w (up_from a k) → (a ≤ w) × (w < a + k)
in_up a zero w h = absurd h
in_up a (suc k) w (inl e) = (omega arith, omega arith)
in_up a (suc k) w (inr h) = let r = in_up (suc a) k w h in (omega arith, omega arith)

up_in : (a k w : ℕ) → a ≤ w → w < a + k → In w (up_from a k)
up_in a zero w h j = absurd (omega arith)
up_in a (suc k) w h j = ⊎_map (λ e. e) (λ e. up_in (suc a) k w (omega arith) (omega arith)) (either (ℕ_discrete w a))

pub nodup_up : (a k : ℕ) → NoDup (up_from a k)
nodup_up a zero = tt
nodup_up a (suc k) = ((λ h. omega (arith, in_up (suc a) k a h)), nodup_up (suc a) k)

ascending_up : (p : ℕ → Bool) (a k : ℕ) → Ascending (select p (up_from a k)) × ((b : ℕ) → b < a → Ascending (b ∷ select p (up_from a k)))
ascending_up p a zero = (tt, λ b h. tt)
ascending_up p a (suc k) = go (p a) (ascending_up p (suc a) k)
  where
    go : (c : Bool) → Ascending (select p (up_from (suc a) k)) × ((b : ℕ) → b < suc a → Ascending (b ∷ select p (up_from (suc a) k)))
        → Ascending (cond c (a ∷ select p (up_from (suc a) k)) (select p (up_from (suc a) k))) × ((b : ℕ) → b < a → Ascending (b ∷ cond c (a ∷ select p (up_from (suc a) k)) (select p (up_from (suc a) k))))
    go true ih = (ih.1 a (omega arith), λ b h. (h, ih.1 a (omega arith)))
    go false ih = (ih.0, λ b h. ih.1 b (omega arith))

count-up : (p : ℕ → Bool) (a k : ℕ) → length (select p (up_from a k)) + tally p a ≡ tally p (a + k)
unfolding tally
count-up p a zero = let z : a + 0 ≡ a = omega arith in rw z (zero-add _)
count-up p a (suc k) = let e : suc a + k ≡ a + suc k = omega arith in go (p a) (count-up p (suc a) k) ∙ ap (tally p) e
  where
    go : (c : Bool) → length (select p (up_from (suc a) k)) + (tally p a + cond c 1 0) ≡ tally p (suc a + k)
        → length (cond c (a ∷ select p (up_from (suc a) k)) (select p (up_from (suc a) k))) + tally p a ≡ tally p (suc a + k)
    go true ih = omega arith
    go false ih = omega arith

count-below : (p : ℕ → Bool) (n : ℕ) → length (select p (up_from 0 n)) ≡ tally p n
unfolding tally
count-below p n = let u = count-up p 0 n in let z : 0 + n ≡ n = omega arith in let t = ap (tally p) z in omega arith

pub members_from-in : (v : ℕ) (s : VertexSet) (x : ℕ) → In x (members_from v s) → On s x × (v ≤ x)
members_from-in v s x h = let r = select_in (has s.words) (up_from v (capacity - v)) x h in (r.1, (in_up v (capacity - v) x r.0).0)

pub in_members_from : (v : ℕ) (s : VertexSet) (x : ℕ) → Sized s → On s x → v ≤ x → In x (members_from v s)
in_members_from v s x h e l =
    in_select (has s.words) (up_from v (capacity - v)) x (up_in v (capacity - v) x l (omega (arith, on_low s x h e))) e

pub members-in : (s : VertexSet) (x : ℕ) → In x (members s) → On s x
members-in s x h = (members_from-in 0 s x h).0

pub in_members : (s : VertexSet) (x : ℕ) → Sized s → On s x → In x (members s)
in_members s x h e = in_members_from 0 s x h e (omega arith)

pub members-nodup : (s : VertexSet) → NoDup (members s)
members-nodup s = select-nodup (has s.words) (up_from 0 (capacity - 0)) (nodup_up 0 (capacity - 0))

pub members-ascending : (s : VertexSet) → Ascending (members s)
members-ascending s = (ascending_up (has s.words) 0 (capacity - 0)).0

pub members-count : (s : VertexSet) → Sized s → length (members s) ≡ count s.words
members-count s h =
    let e : 64 * length s.words ≡ capacity = omega (arith, h.size) in
    count-below (has s.words) capacity ∙ sym (laws.count-tally s.words h.words ∙ ap (tally (has s.words)) e)

-- two ascending lists with the same members
ascending_tail : (a : ℕ) (l : List ℕ) → Ascending (a ∷ l) → Ascending l
ascending_tail a [] h = tt
ascending_tail a (b ∷ l) h = h.1

ascending_above : (a : ℕ) (l : List ℕ) → Ascending (a ∷ l) → (x : ℕ) → In x l → a < x
ascending_above a [] h x k = absurd k
ascending_above a (b ∷ l) h x (inl e) = omega (arith, h.0)
ascending_above a (b ∷ l) h x (inr k) = omega (arith, h.0, ascending_above b l h.1 x k)

ascending_part : (a b : ℕ) (l m : List ℕ) → a ≡ b → Ascending (a ∷ l) → ((x : ℕ) → In x (a ∷ l) → In x (b ∷ m)) → (x : ℕ) → In x l → In x m
ascending_part a b l m e h f x k = ⊎_elim (λ i. absurd (omega (arith, ascending_above a l h x k))) (λ j. j) (f x (inr k))

same_head : (a b : ℕ) (l m : List ℕ) → Ascending (a ∷ l) → Ascending (b ∷ m) → In a (b ∷ m) → In b (a ∷ l) → a ≡ b
same_head a b l m h k (inl e) r = e
same_head a b l m h k (inr i) (inl e) = sym e
same_head a b l m h k (inr i) (inr j) = absurd (omega (arith, ascending_above a l h b j, ascending_above b m k a i))

ascending_same : (l m : List ℕ) → Ascending l → Ascending m → ((x : ℕ) → In x l → In x m) → ((x : ℕ) → In x m → In x l) → l ≡ m
ascending_same [] [] h k f g = refl
ascending_same [] (b ∷ m) h k f g = absurd (g b (inl refl))
ascending_same (a ∷ l) [] h k f g = absurd (f a (inl refl))
ascending_same (a ∷ l) (b ∷ m) h k f g =
    let e = same_head a b l m h k (f a (inl refl)) (g b (inl refl)) in
    let t = ascending_same l m (ascending_tail a l h) (ascending_tail b m k) (ascending_part a b l m e h f) (ascending_part b a m l (sym e) k g) in
    λ i. e i ∷ t i

pub members-same : (s : VertexSet) (l : List ℕ) → Sized s → Ascending l → ((x : ℕ) → In x l → x < capacity) → ((x : ℕ) → In x l → On s x) → ((x : ℕ) → On s x → In x l) → members s ≡ l
members-same s l h a low f g =
    ascending_same (members s) l (members-ascending s) a (λ x k. g x (members-in s x k)) (λ x k. in_members s x h (f x k))

-- ---- the least member

pub next-on : (s : VertexSet) (v : ℕ) → Sized s → ltb (next s.words v) capacity ≡ true → On s (next s.words v) × (v ≤ next s.words v)
next-on s v h e = ⊎_elim (λ f. (f.member, f.not_below)) (λ m. absurd (omega (arith, h.size, m.limit, ltb-true (next s.words v) capacity e))) (laws.next-is s.words v)

pub next-first : (s : VertexSet) (v : ℕ) → Sized s → (x : ℕ) → On s x → v ≤ x → (next s.words v ≤ x) × (ltb (next s.words v) capacity ≡ true)
next-first s v h x e l = ⊎_elim (λ f. (upto f, lt-ltb (next s.words v) capacity (omega (arith, upto f, on_low s x h e)))) (λ m. absurd (clash e (m.beyond x l))) (laws.next-is s.words v)
  where
    upto : laws.Found (has s.words) v (next s.words v) → next s.words v ≤ x
    upto f = ⊎_elim (λ k. absurd (clash e (f.between x l k))) (λ k. omega arith) (either (below? x (next s.words v)))

pub next-none : (s : VertexSet) (v : ℕ) → Sized s → ltb (next s.words v) capacity ≡ false → (x : ℕ) → v ≤ x → ¬ On s x
next-none s v h e x l k = clash (next-first s v h x k l).1 e

pub least_on : (s : VertexSet) → Sized s → ltb (least s) capacity ≡ true → On s (least s)
least_on s h e = (next-on s 0 h e).0

pub least_first : (s : VertexSet) → Sized s → (x : ℕ) → On s x → (least s ≤ x) × (ltb (least s) capacity ≡ true)
least_first s h x e = next-first s 0 h x e (omega arith)

pub least-none : (s : VertexSet) → Sized s → ltb (least s) capacity ≡ false → (x : ℕ) → ¬ On s x
least-none s h e x = next-none s 0 h e x (omega arith)

-- ---- no members

pub empty-none : (s : VertexSet) → Sized s → empty s ≡ true → (x : ℕ) → ¬ On s x
empty-none s h e x k = clash k (laws.none_has s.words e x)

pub empty-some : (s : VertexSet) → Sized s → empty s ≡ false → (x : ℕ) × On s x
empty-some s h e = go (ltb (least s) capacity) refl
  where
    go : (b : Bool) → ltb (least s) capacity ≡ b → (x : ℕ) × On s x
    go true l = (least s, least_on s h l)
    go false l = absurd (clash (laws.has-none s.words h.words (λ x k. not_on (least-none s h l x))) e)

pub not_empty : (s : VertexSet) (x : ℕ) → Sized s → On s x → empty s ≡ false
not_empty s x h k = not_on (λ e. empty-none s h e x k)

-- ---- lists

pub rev_same : (l : List ℕ) → reversed l ≡ rev l
unfolding reversed
rev_same [] = refl
rev_same (a ∷ l) = ap (λ (r : List ℕ). r ++ (a ∷ [])) (rev_same l)

pub added-room : (space : ℕ) (l k : List ℕ) → length l + length k ≤ space → added space l k ≡ l ++ k
added-room space l k h = rw (le-leb (length l + length k) space h)

pub last_in : (a : ℕ) (l : List ℕ) → In (last_of (a ∷ l)) (a ∷ l)
unfolding last_of
last_in a [] = inl refl
last_in a (b ∷ l) = inr (last_in b l)

pub last_snoc : (l : List ℕ) (v : ℕ) → last_of (l ++ (v ∷ [])) ≡ v
unfolding last_of
last_snoc [] v = refl
last_snoc (a ∷ []) v = refl
last_snoc (a ∷ (b ∷ l)) v = last_snoc (b ∷ l) v

pub flatten_append : (ps qs : List Path) → flatten (ps ++ qs) ≡ flatten ps ++ flatten qs
flatten_append [] qs = refl
flatten_append (P ∷ ps) qs =
    ap (λ (r : List ℕ). stop ∷ (vertices P ++ r)) (flatten_append ps qs) ∙ ap (λ (r : List ℕ). stop ∷ r) (sym (append_assoc (vertices P) (flatten ps) (flatten qs)))
