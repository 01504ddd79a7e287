-- The space that a search is lent: two halves, a list at the front of each. Assumes nothing.
use Prim.Native.Nat.{ℕ, suc, ◌+◌, ◌-◌, ◌<◌, ◌≤◌}
use mathlib.Core.Path.{◌≡◌, refl, sym, ap, ◌∙◌}
use mathlib.Core.Bool.{Bool, true, false, cond}
use mathlib.Core.List.{List, [], ◌∷◌, ◌++◌, append_assoc}
use native.Mathlib.Omega.{arith}
use lib.Dec.{leb}
use lib.ListN.{length, take, drop, get_or, replicate, length-append, length-replicate, get_or-append, take-append-drop}
use lib.Seq.{take-append-le, drop-append-le, take-append-add, drop-append-add, take-append_seam, take_at, drop_at, drop-drop, length-take-le}
use borrow.Author.Tests.{le-leb, lt-leb, leb-true}
use Rattle.record.specs.Write.{overwritten}
use Rattle.record.proofs.Write.{overwritten-none, overwritten-length, overwritten-more}
use Rattle.construction.specs.Sets.{added}
use Rattle.search.specs.Arrays.{placed}
use Rattle.search.specs.Code.{search_space, reached_after, reached_end}
use Rattle.vertexset.specs.Set.{capacity}

-- ---- writing into one of two lists

over_left : (p q : List ℕ) (i : ℕ) (x : List ℕ) → i + length x ≤ length p → overwritten (p ++ q) i x ≡ overwritten p i x ++ q
over_left p q i x h =
    let z : i ≤ length p = omega arith in
    rw (take-append-le i p q z, drop-append-le (i + length x) p q h) (sym (append_assoc (take i p ++ x) (drop (i + length x) p) q))

over_right : (p q : List ℕ) (i : ℕ) (x : List ℕ) → overwritten (p ++ q) (length p + i) x ≡ p ++ overwritten q i x
over_right p q i x =
    let z : length p + i + length x ≡ length p + (i + length x) = omega arith in
    rw (z, take-append-add p q i, drop-append-add p q (i + length x), append_assoc p (take i q) x) (append_assoc p (take i q ++ x) (drop (i + length x) q))

-- ---- a list at the front

abbrev pub fronted : List ℕ → List ℕ → List ℕ
fronted a l = overwritten a 0 l

module _ (a l : List ℕ) (h : length l ≤ length a) where
  room : 0 + length l ≤ length a
  room = omega arith

  pub fronted_length : length (fronted a l) ≡ length a
  fronted_length = overwritten-length a 0 l room

  pub fronted_take : take (length l) (fronted a l) ≡ l
  fronted_take = take-append_seam l (drop (0 + length l) a)

  pub fronted_more : (k : List ℕ) → overwritten (fronted a l) (length l) k ≡ fronted a (l ++ k)
  fronted_more k = let z : length l ≡ 0 + length l = omega arith in ap (λ (n : ℕ). overwritten (fronted a l) n k) z ∙ overwritten-more a 0 l room k

  -- a list that is no shorter takes its place
  pub fronted_again : (k : List ℕ) → length l ≤ length k → fronted (fronted a l) k ≡ fronted a k
  fronted_again k e =
      let z : 0 + length k ≡ length l + (length k - length l) = omega arith in
      let y : 0 + length l + (length k - length l) ≡ 0 + length k = omega arith in
      ap (λ (d : List ℕ). k ++ d)
      (ap (λ (n : ℕ). drop n (fronted a l)) z ∙ drop-append-add l (drop (0 + length l) a) (length k - length l)
      ∙ drop-drop (length k - length l) (0 + length l) a ∙ ap (λ (n : ℕ). drop n a) y)

pub fronted_same : (a : List ℕ) (k : ℕ) → k ≤ length a → fronted a (take k a) ≡ a
fronted_same a k h = let z : 0 + length (take k a) ≡ k = omega (arith, length-take-le k a h) in rw z (take-append-drop k a)

-- ---- the two halves

abbrev pub both : List ℕ → List ℕ → List ℕ → List ℕ → List ℕ
both a b r p = fronted a r ++ fronted b p

module _ (a b : List ℕ) (m : length a ≡ capacity) (n : length b ≡ capacity) (r p : List ℕ) (same : length p ≡ length r) (low : length r ≤ capacity) where
  fits : length r ≤ length a
  fits = omega arith

  fits_too : length p ≤ length b
  fits_too = omega arith

  half : length (fronted a r) ≡ capacity
  half = fronted_length a r fits ∙ m

  pub both_length : length (both a b r p) ≡ search_space
  both_length = omega (arith, length-append (fronted a r) (fronted b p), half, fronted_length b p fits_too)

  pub both_first : take capacity (both a b r p) ≡ fronted a r
  both_first = take_at (fronted a r) (fronted b p) capacity half

  pub both_second : drop capacity (both a b r p) ≡ fronted b p
  both_second = drop_at (fronted a r) (fronted b p) capacity half

  -- the lists themselves
  pub both_order : take (length r) (both a b r p) ≡ r
  both_order = take-append-le (length r) (fronted a r) (fronted b p) (omega (arith, half)) ∙ fronted_take a r fits

  pub both_from : take (length r) (drop capacity (both a b r p)) ≡ p
  both_from = ap (take (length r)) both_second ∙ ap (λ (k : ℕ). take k (fronted b p)) (sym same) ∙ fronted_take b p fits_too

  pub both_at : (i : ℕ) → suc i ≤ length r → get_or (both a b r p) i 0 ≡ get_or r i 0
  both_at i h =
      get_or-append (fronted a r) (fronted b p) 0 i (omega (arith, half)) ∙ get_or-append r (drop (0 + length r) a) 0 i (omega arith)

  pub both_again : (s q : List ℕ) → length q ≡ length s → length r ≤ length s
      → both (take capacity (both a b r p)) (drop capacity (both a b r p)) s q ≡ both a b s q
  both_again s q e f =
      let t : length p ≤ length q = omega arith in
      rw (both_first, both_second, fronted_again a r fits s f, fronted_again b p fits_too q t)

  -- vertices put behind those that were reached
  module _ (l : List ℕ) (h : ℕ) where
    abbrev places : List ℕ
    places = replicate (length l) h

    more : length r + length l ≤ capacity → overwritten (overwritten (both a b r p) (length r) l) (capacity + length r) places ≡ both a b (r ++ l) (p ++ places)
    more k =
        let w : length r + length l ≤ length (fronted a r) = omega (arith, half) in
        let u : length (r ++ l) ≤ length a = omega (arith, length-append r l) in
        let z : capacity + length r ≡ length (fronted a (r ++ l)) + length p = omega (arith, fronted_length a (r ++ l) u) in
        ap (λ (x : List ℕ). overwritten x (capacity + length r) places) (over_left (fronted a r) (fronted b p) (length r) l w ∙ ap (λ (x : List ℕ). x ++ fronted b p) (fronted_more a r fits l))
        ∙ ap (λ (i : ℕ). overwritten (fronted a (r ++ l) ++ fronted b p) i places) z
        ∙ over_right (fronted a (r ++ l)) (fronted b p) (length p) places
        ∙ ap (λ (x : List ℕ). fronted a (r ++ l) ++ x) (fronted_more b p fits_too places)

    pub both_put : reached_after (both a b r p) (length r) l h ≡ both a b (added capacity r l) (added capacity p places)
    both_put =
        let e : leb (length r + length l) capacity ≡ leb (length p + length places) capacity = rw (length-replicate {A = ℕ} (length l) h, same) in
        go (leb (length r + length l) capacity) refl ∙ ap (λ (t : Bool). both a b (added capacity r l) (cond t (p ++ places) p)) e
      where
        go : (t : Bool) → leb (length r + length l) capacity ≡ t
            → cond t (overwritten (overwritten (both a b r p) (length r) l) (capacity + length r) places) (both a b r p) ≡ both a b (cond t (r ++ l) r) (cond t (p ++ places) p)
        go true e = more (leb-true _ _ e)
        go false e = refl

    pub both_end : reached_end (length r) l ≡ length (added capacity r l)
    both_end = go (leb (length r + length l) capacity)
      where
        go : (t : Bool) → cond t (length r + length l) (length r) ≡ length (cond t (r ++ l) r)
        go true = sym (length-append r l)
        go false = refl

-- ---- the two calls that put vertices and their places

placed-fits : (items : List ℕ) (at : ℕ) (l : List ℕ) → at + length l ≤ length items → placed items at l ≡ overwritten items at l
placed-fits items at l h = rw (le-leb (at + length l) (length items) h)

module _ (space : List ℕ) (at : ℕ) (from : ℕ) where
  nothing : (space ≡ reached_after space at [] from) × (at ≡ reached_end at [])
  nothing = go (leb (at + 0) capacity)
    where
      go : (b : Bool) → (space ≡ cond b (overwritten (overwritten space at []) (capacity + at) []) space) × (at ≡ cond b (at + 0) at)
      go true = (sym (ap (λ (a : List ℕ). overwritten a (capacity + at) []) (overwritten-none space at) ∙ overwritten-none space (capacity + at)), omega arith)
      go false = (refl, refl)

  pub reached-nothing : (l : List ℕ) → length l ≡ 0 → (space ≡ reached_after space at l from) × (at ≡ reached_end at l)
  reached-nothing [] e = nothing
  reached-nothing (v ∷ l) e = absurd (omega arith)

module _ (space : List ℕ) (at : ℕ) (l : List ℕ) (from : ℕ) {k : ℕ} (e : length l ≡ k) where
  pub reached-none : capacity < at + k → (space ≡ reached_after space at l from) × (at ≡ reached_end at l)
  reached-none h = let z : capacity < at + length l = omega arith in rw (lt-leb (at + length l) capacity z) (refl, refl)

  module _ (size : length space ≡ search_space) (h : at + k ≤ capacity) {mid : List ℕ} (p : mid ≡ placed space at l) where
    mid_is : mid ≡ overwritten space at l
    mid_is = p ∙ placed-fits space at l (omega arith)

    mid_size : length mid ≡ search_space
    mid_size = ap length mid_is ∙ overwritten-length space at l (omega arith) ∙ size

    pub reached-done : {out : List ℕ} → out ≡ placed mid (capacity + at) (replicate k from) → (out ≡ reached_after space at l from) × (at + k ≡ reached_end at l)
    reached-done {out} f =
        let r : capacity + at + length (replicate (length l) from) ≤ length mid = omega (arith, mid_size, length-replicate {A = ℕ} (length l) from) in
        let z : at + length l ≤ capacity = omega arith in
        rw (le-leb (at + length l) capacity z) (
          f ∙ ap (λ (m : ℕ). placed mid (capacity + at) (replicate m from)) (sym e) ∙ placed-fits mid (capacity + at) (replicate (length l) from) r
              ∙ ap (λ (a : List ℕ). overwritten a (capacity + at) (replicate (length l) from)) mid_is,
          omega arith,
        )
