-- A link that is split at x and made whole again: it is found from x, and the pointers and the table are what they were. Assumes nothing.
use Prim.Native.Nat.{ℕ, ◌*◌, ◌<◌}
use mathlib.Core.List.{List, [], ◌∷◌, ◌++◌}
use mathlib.Core.Bool.{Bool, true, false, cond}
use mathlib.Core.Path.{◌≡◌, refl, sym, ap, ◌∙◌, subst}
use mathlib.Core.Logic.{◌⊎◌, inl, inr, ⊎_elim, ◌≢◌}
use native.Mathlib.Omega.{arith}
use native.Mathlib.Decide.{ℕ_discrete}
use lib.ListN.{length}
use Rattle.vertexset.specs.Set.{has, capacity}
use Rattle.vertexset.specs.declared.VertexSet.{VertexSet}
use Rattle.graph.specs.Rows.{adjacent_in, row_words, joined_rows, parted_rows}
use Rattle.graph.proofs.Rows.{part_joined, join_parted}
use Rattle.connectivity.specs.Lists.{In, NoDup}
use Rattle.connectivity.specs.Path.{vertices, Path}
use Rattle.connectivity.specs.Build.{IsBranch, take_before, take_after}
use Rattle.connectivity.proofs.Lists.{in_left, in_right, clash}
use Rattle.connectivity.proofs.Paths.{head_of, inner_in, inner_not_end, ends_differ, end_s, end_t}
use Rattle.links.specs.Tables.{pointer_count, pointer, mates, mated, last_from, link_around, split_rows, mated_aside, split_mates, unmated_aside, rejoined_rows, rejoined_mates, link_split}
use Rattle.refinement.proofs.Tests.{false_of}
use Rattle.refinement.proofs.Pointers.{Back, On}
use Rattle.refinement.proofs.Mates.{Mated, last_in, before_cut, on_rest, back_head, on_last, mated-length, pair-first, pair-last, pair-others}
use Rattle.refinement.proofs.Places.{same_pointers, Neighbour, neighbour?, aside_length, aside_other, unmated_length, unmated_other, unmated_none}
use Rattle.graph.proofs.Table.{with-length, without-length, with-tells, without-tells}
use Rattle.refinement.proofs.Splits.{Sole}
use Rattle.refinement.proofs.Runs.{RunsAlong, AllLow, ends, cut, first_cut, last_of-cut}
use Rattle.refinement.proofs.Shows.{Listed}

-- the outermost vertices of a list that is not empty
head_there : (x : ℕ) (l : List ℕ) → In x l → In (head_of l 0) l
head_there x [] h = absurd h
head_there x (v ∷ l) h = inl refl

last_there : (x : ℕ) (l : List ℕ) → In x l → In (last_from 0 l) l
last_there x [] h = absurd h
last_there x (v ∷ l) h = last_in v l

mated-ends : (mate : ℕ → ℕ) (x : ℕ) (l : List ℕ) → In x l → Mated mate l → (mate (head_of l 0) ≡ last_from 0 l) × (mate (last_from 0 l) ≡ head_of l 0)
mated-ends mate x [] h m = absurd h
mated-ends mate x (v ∷ l) h m = m

-- x's neighbours on both sides, where x is not outermost
last_inside : (u : ℕ) (l : List ℕ) (x : ℕ) → x ≢ head_of l x → In (last_from u l) l
last_inside u [] x n = absurd (n refl)
last_inside u (v ∷ l) x n = last_in v l

head_inside : (x : ℕ) (q : List ℕ) (t : ℕ) → x ≢ last_from x q → In (head_of q t) q
head_inside x [] t n = absurd (n refl)
head_inside x (y ∷ q) t n = inl refl

-- the outermost vertex of a side, by its vertex next to x
side-first : (mate : ℕ → ℕ) (branch : ℕ → Bool) (s x : ℕ) (l : List ℕ) → branch s ≡ true → ((w : ℕ) → In w l → branch w ≡ false) → Mated mate l → cond (branch (last_from s l)) x (mate (last_from s l)) ≡ head_of l x
side-first mate branch s x [] b n m = rw b
side-first mate branch s x (v ∷ l) b n m = let f = n (last_from v l) (last_in v l) in rw (f, m.1)

side-last : (mate : ℕ → ℕ) (branch : ℕ → Bool) (t x : ℕ) (l : List ℕ) → branch t ≡ true → ((w : ℕ) → In w l → branch w ≡ false) → Mated mate l → cond (branch (head_of l t)) x (mate (head_of l t)) ≡ last_from x l
side-last mate branch t x [] b n m = rw b
side-last mate branch t x (v ∷ l) b n m = let f = n v (inl refl) in rw (f, m.0)

-- THE POINTERS
module _ (p : List ℕ) (long : length p ≡ pointer_count) (K : Path) (x : ℕ) (inside : In x K.inner) (runs : RunsAlong p K) where
  abbrev first : ℕ
  first = head_of K.inner 0

  abbrev last : ℕ
  last = last_from 0 K.inner

  abbrev front : List ℕ
  front = take_before x K.inner

  abbrev back : List ℕ
  back = take_after x K.inner

  backs : Back (pointer p 0) K.s (front ++ (x ∷ back))
  backs = subst (λ (l : List ℕ). Back (pointer p 0) K.s l) (cut K x inside) runs.0

  ons : On (pointer p capacity) (front ++ (x ∷ back)) K.t
  ons = subst (λ (l : List ℕ). On (pointer p capacity) l K.t) (cut K x inside) runs.1

  -- x's neighbour on each side
  pub left_is : pointer p 0 x ≡ last_from K.s front
  left_is = before_cut (pointer p 0) K.s front x back backs

  pub right_is : pointer p capacity x ≡ head_of back K.t
  right_is = (on_rest (pointer p capacity) front x back K.t ons).0

  pub left_in_lem : x ≢ first → In (pointer p 0 x) front
  left_in_lem n = rw left_is (last_inside K.s front x (λ e. n (e ∙ sym (first_cut K x inside))))

  pub right_in : x ≢ last → In (pointer p capacity x) back
  right_in n = rw right_is (head_inside x back K.t (λ e. n (e ∙ sym (last_of-cut K x inside))))

  pub in_front : (w : ℕ) → In w front → In w K.inner
  in_front w i = subst (λ (l : List ℕ). In w l) (sym (cut K x inside)) (in_left w front (x ∷ back) i)

  pub in_back : (w : ℕ) → In w back → In w K.inner
  in_back w i = subst (λ (l : List ℕ). In w l) (sym (cut K x inside)) (in_right w front (x ∷ back) (inr i))

  left_inner : (w : ℕ) → Neighbour x first (pointer p 0 x) w → In w K.inner
  left_inner w k = in_front w (rw k.1 (left_in_lem k.0))

  right_inner : (w : ℕ) → Neighbour x last (pointer p capacity x) w → In w K.inner
  right_inner w k = in_back w (rw k.1 (right_in k.0))

  -- what the split leaves as it was
  abbrev once : List ℕ
  once = mated_aside p 0 x first

  abbrev apart : List ℕ
  apart = split_mates p x (ends K)

  pub split_length : length apart ≡ pointer_count
  split_length = aside_length once capacity x last ∙ aside_length p 0 x first ∙ long

  once-right : pointer once capacity x ≡ pointer p capacity x
  once-right = aside_other p 0 x first 1 x (λ e. absurd (omega arith))

  pub split_other : (i w : ℕ) → (i ≡ 2 → (w ≢ first) × (w ≢ last) × (¬ Neighbour x first (pointer p 0 x) w) × (¬ Neighbour x last (pointer p capacity x) w))
      → pointer apart (i * capacity) w ≡ pointer p (i * capacity) w
  split_other i w n =
      aside_other once capacity x last i w (λ e. ((n e).1, λ k. (n e).3 (k.0, k.1 ∙ once-right)))
      ∙ aside_other p 0 x first i w (λ e. ((n e).0, (n e).2))

  pub split_parts : (i w : ℕ) → i ≢ 2 → pointer apart (i * capacity) w ≡ pointer p (i * capacity) w
  split_parts i w n = split_other i w (λ e. absurd (n e))

  pub split_away : (i w : ℕ) → ¬ In w K.inner → pointer apart (i * capacity) w ≡ pointer p (i * capacity) w
  split_away i w n = split_other i w (λ e. (λ k. n (rw k (head_there x K.inner inside)), λ k. n (rw k (last_there x K.inner inside)), λ k. n (left_inner w k), λ k. n (right_inner w k)))

  link-around : link_around apart (first, last) ≡ ends K
  link-around =
      let a : pointer apart 0 first ≡ K.s = split_parts 0 first (λ e. omega arith) ∙ ap (pointer p 0) (first_cut K x inside) ∙ back_head (pointer p 0) K.s front x back backs in
      let b : pointer apart capacity last ≡ K.t = split_parts 1 last (λ e. omega arith) ∙ ap (pointer p capacity) (last_of-cut K x inside) ∙ on_last (pointer p capacity) front x back K.t ons in
      λ i. record { a = a i; b = b i; first = first; last = last }

  -- the link is found again by x's own pointers and the mates of its neighbours, where the ends are branch vertices and no vertex inside the two parts is
  pub link-again : (branch : VertexSet) → has branch.words K.s ≡ true → has branch.words K.t ≡ true
      → ((w : ℕ) → In w front → has branch.words w ≡ false) → ((w : ℕ) → In w back → has branch.words w ≡ false)
      → Mated (pointer apart mates) front × Mated (pointer apart mates) back → link_split apart branch x ≡ ends K
  link-again branch s t nf nb m =
      let aside : ℕ → ℕ = λ u. cond (has branch.words u) x (pointer apart mates u) in
      let f = ap aside (split_parts 0 x (λ e. omega arith) ∙ left_is) ∙ side-first (pointer apart mates) (has branch.words) K.s x front s nf m.0 ∙ sym (first_cut K x inside) in
      let l = ap aside (split_parts 1 x (λ e. omega arith) ∙ right_is) ∙ side-last (pointer apart mates) (has branch.words) K.t x back t nb m.1 ∙ sym (last_of-cut K x inside) in
      ap (link_around apart) (λ i. (f i, l i)) ∙ link-around

  module _ (low : AllLow (vertices K)) (middle : (w : ℕ) → In w K.inner → w ≢ first → w ≢ last → pointer p mates w ≡ 0) where
    low_inner : AllLow K.inner
    low_inner w i = low w (inner_in w K i)

    low_first : first < capacity
    low_first = low_inner first (head_there x K.inner inside)

    low_last : last < capacity
    low_last = low_inner last (last_there x K.inner inside)

    abbrev half : List ℕ
    half = unmated_aside apart 0 x first

    abbrev bare : List ℕ
    bare = unmated_aside half capacity x last

    long_half : length half ≡ pointer_count
    long_half = unmated_length apart 0 x first ∙ split_length

    long_bare : length bare ≡ pointer_count
    long_bare = unmated_length half capacity x last ∙ long_half

    apart_left : pointer apart 0 x ≡ pointer p 0 x
    apart_left = split_parts 0 x (λ e. omega arith)

    half_right : pointer half capacity x ≡ pointer p capacity x
    half_right = unmated_other apart 0 x first 1 x (λ e. absurd (omega arith)) ∙ split_parts 1 x (λ e. omega arith)

    -- beside the outermost vertices, all is as it was without mates for x's neighbours
    bare-mates : (w : ℕ) → w < capacity → w ≢ first → w ≢ last → pointer bare mates w ≡ pointer p mates w
    bare-mates w lw nf nl = go (neighbour? x first (pointer p 0 x) w) (neighbour? x last (pointer p capacity x) w)
      where
        go : Neighbour x first (pointer p 0 x) w ⊎ (¬ Neighbour x first (pointer p 0 x) w) → Neighbour x last (pointer p capacity x) w ⊎ (¬ Neighbour x last (pointer p capacity x) w)
            → pointer bare mates w ≡ pointer p mates w
        go l (inl r) = unmated_none half capacity x last long_half w lw (r.0, r.1 ∙ sym half_right) ∙ sym (middle w (right_inner w r) nf nl)
        go (inl l) (inr r) =
            unmated_other half capacity x last 2 w (λ e k. r (k.0, k.1 ∙ half_right)) ∙ unmated_none apart 0 x first split_length w lw (l.0, l.1 ∙ sym apart_left)
            ∙ sym (middle w (left_inner w l) nf nl)
        go (inr l) (inr r) =
            unmated_other half capacity x last 2 w (λ e k. r (k.0, k.1 ∙ half_right)) ∙ unmated_other apart 0 x first 2 w (λ e k. l (k.0, k.1 ∙ apart_left))
            ∙ split_other 2 w (λ e. (nf, nl, l, r))

    pub rejoined-mates : rejoined_mates apart x (ends K) ≡ p
    rejoined-mates = same_pointers (mated bare first last) p (mated-length bare first last ∙ long_bare) long at
      where
        ms : (pointer p mates first ≡ last) × (pointer p mates last ≡ first)
        ms = mated-ends (pointer p mates) x K.inner inside runs.2

        mate : (w : ℕ) → w < capacity → Dec (w ≡ first) → Dec (w ≡ last) → pointer (mated bare first last) mates w ≡ pointer p mates w
        mate w lw (yes e) d = rw e (pair-first bare long_bare first last low_first low_last ∙ sym ms.0)
        mate w lw (no n) (yes e) = rw e (pair-last bare long_bare first last low_first low_last ∙ sym ms.1)
        mate w lw (no n) (no m) = pair-others bare long_bare first last low_first low_last 2 w (λ e. (n, m)) ∙ bare-mates w lw n m

        other : (i w : ℕ) → i ≢ 2 → pointer (mated bare first last) (i * capacity) w ≡ pointer p (i * capacity) w
        other i w n =
            pair-others bare long_bare first last low_first low_last i w (λ e. absurd (n e)) ∙ unmated_other half capacity x last i w (λ e. absurd (n e))
            ∙ unmated_other apart 0 x first i w (λ e. absurd (n e)) ∙ split_parts i w n

        go : (i w : ℕ) → w < capacity → Dec (i ≡ 2) → pointer (mated bare first last) (i * capacity) w ≡ pointer p (i * capacity) w
        go i w lw (yes e) = rw e (mate w lw (ℕ_discrete w first) (ℕ_discrete w last))
        go i w lw (no n) = other i w n

        at : (i w : ℕ) → i < 3 → w < capacity → pointer (mated bare first last) (i * capacity) w ≡ pointer p (i * capacity) w
        at i w li lw = go i w lw (ℕ_discrete i 2)

-- THE TABLE, in which x is joined to nothing
module _ (T : List ℕ) (links : List Path) (h : Listed T links) (x : ℕ) (K : Path) (one : Sole links x K) (nd : NoDup (vertices K)) (low : AllLow (vertices K)) (alone : ¬ IsBranch x links) where
  abbrev a : ℕ
  a = K.s

  abbrev b : ℕ
  b = K.t

  la : a < capacity
  la = low a (end_s K)

  lb : b < capacity
  lb = low b (end_t K)

  lx : x < capacity
  lx = low x (inner_in x K one.inside)

  not_a : x ≢ a
  not_a e = inner_not_end K nd x one.inside (inl e)

  not_b : x ≢ b
  not_b e = inner_not_end K nd x one.inside (inr e)

  differ : a ≢ b
  differ = ends_differ K nd

  abbrev T1 : List ℕ
  T1 = parted_rows T a b

  l1 : length T1 ≡ row_words
  l1 = without-length T h.long a b (la, lb)

  abbrev T2 : List ℕ
  T2 = joined_rows T1 a x

  l2 : length T2 ≡ row_words
  l2 = with-length T1 l1 a x (la, lx)

  -- no pair with x is in the table
  none_from : (u : ℕ) → ¬ (adjacent_in T x u ≡ true)
  none_from u e = let r = (h.tells x u).0 e in alone (r.0, r.1, ⊎_elim (λ k. inl k.0) (λ k. inr k.0) r.2)

  none-to : (u : ℕ) → ¬ (adjacent_in T u x ≡ true)
  none-to u e = let r = (h.tells u x).0 e in alone (r.0, r.1, ⊎_elim (λ k. inr k.1) (λ k. inl k.1) r.2)

  first_from_lem : (u : ℕ) → adjacent_in T1 x u ≡ false
  first_from_lem u = false_of (λ e. none_from u ((without-tells T h.long a b (la, lb) x u).0 e).0)

  first_to : (u : ℕ) → adjacent_in T1 u x ≡ false
  first_to u = false_of (λ e. none-to u ((without-tells T h.long a b (la, lb) u x).0 e).0)

  second_from : adjacent_in T2 x b ≡ false
  second_from = false_of (λ e. ⊎_elim (λ k. clash k (first_from_lem b)) (λ k. ⊎_elim (λ j. not_a j.0) (λ j. differ (sym j.1)) k) ((with-tells T1 l1 a x (la, lx) x b).0 e))

  second_to : adjacent_in T2 b x ≡ false
  second_to = false_of (λ e. ⊎_elim (λ k. clash k (first_to b)) (λ k. ⊎_elim (λ j. differ (sym j.0)) (λ j. not_a j.1) k) ((with-tells T1 l1 a x (la, lx) b x).0 e))

  pub rejoined-rows : rejoined_rows (split_rows T x (ends K)) x (ends K) ≡ T
  rejoined-rows =
      ap (λ (r : List ℕ). joined_rows (parted_rows r x a) b a) (part_joined T2 l2 x b lx lb not_b second_from second_to)
      ∙ ap (λ (r : List ℕ). joined_rows r b a) (part_joined T1 l1 a x la lx (λ e. not_a (sym e)) (first_to a) (first_from_lem a))
      ∙ join_parted T h.long a b la lb differ ((h.tells a b).1 (K, one.there, inl (refl, refl))) ((h.tells b a).1 (K, one.there, inr (refl, refl)))
