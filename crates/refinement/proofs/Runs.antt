-- The pointers run along the links: what they tell of an inner vertex, one link that is split, one more. Assumes nothing.
use Prim.Native.Nat.{ℕ, ◌*◌, ◌<◌, ◌≤◌}
use mathlib.Core.List.{List, ◌∷◌, ◌++◌}
use mathlib.Core.Bool.{true, false}
use mathlib.Core.Path.{◌≡◌, sym, ap, ◌∙◌, subst}
use mathlib.Core.Logic.{inl, inr}
use native.Mathlib.Omega.{arith}
use lib.ListN.{length, length-append}
use Rattle.vertexset.specs.Set.{has, capacity}
use Rattle.vertexset.specs.declared.VertexSet.{VertexSet}
use Rattle.connectivity.specs.Lists.{In, NoDup}
use Rattle.connectivity.specs.Path.{vertices, Path}
use Rattle.connectivity.specs.Build.{take_before, take_after, split_at as splitLinks}
use Rattle.connectivity.proofs.Lists.{nodup_apart, in_left, in_right}
use Rattle.connectivity.proofs.Paths.{head_of, inner_in, nodup_inner}
use Rattle.connectivity.proofs.Split.{Piece, Piece.whole, Piece.front, Piece.back, piece_of, split_list}
use Rattle.links.specs.declared.Link.{Link}
use Rattle.links.specs.Tables.{pointer_count, pointer, mates, point_along, last_from, mated_ends, link_at, mated_aside, split_mates}
use Rattle.refinement.proofs.Pointers.{Back, On, head_cut, back_cut, on_cut, back-same, on_same, along-length, along-other, along-set}
use Rattle.refinement.proofs.Mates.{Mated, mated-same, last_cut, back_head, on_last, outermost-found, Remated, remated_ends, remated_before, remated_after}
use Rattle.refinement.proofs.Splits.{Sole}

abbrev pub AllLow : List ℕ → Type 0
AllLow l = (w : ℕ) → In w l → w < capacity

-- a link as the code names it; of one that has no inner vertices it never asks for the outermost
abbrev pub ends : Path → Link
ends L = record { a = L.s; b = L.t; first = head_of L.inner 0; last = last_from 0 L.inner }

-- each inner vertex points to its neighbours, and the outermost ones to each other
abbrev pub RunsAlong : List ℕ → Path → Type 0
RunsAlong p L = Back (pointer p 0) L.s L.inner × On (pointer p capacity) L.inner L.t × Mated (pointer p mates) L.inner

abbrev pub Runs : List ℕ → List Path → Type 0
Runs p links = (L : Path) → In L links → RunsAlong p L

abbrev pub Pointing : List ℕ → List Path → Type 0
Pointing p links = (length p ≡ pointer_count) × Runs p links

-- THE LINK OF AN INNER VERTEX
module _ (L : Path) (v : ℕ) (inside : In v L.inner) where
  abbrev before : List ℕ
  before = take_before v L.inner

  abbrev after : List ℕ
  after = take_after v L.inner

  pub cut : L.inner ≡ before ++ (v ∷ after)
  cut = split_list v L.inner inside

  pub first_cut : head_of L.inner 0 ≡ head_of before v
  first_cut = ap (λ (l : List ℕ). head_of l 0) cut ∙ head_cut before v after 0

  pub last_of-cut : last_from 0 L.inner ≡ last_from v after
  last_of-cut = ap (last_from 0) cut ∙ last_cut 0 before v after

  pub link-found : (p : List ℕ) (branch : VertexSet) → RunsAlong p L → has branch.words L.s ≡ true → has branch.words L.t ≡ true
      → ((w : ℕ) → In w L.inner → has branch.words w ≡ false) → length L.inner ≤ capacity → link_at p branch v ≡ ends L
  unfolding link_at
  link-found p branch h s t clear long =
      let back = subst (λ (l : List ℕ). Back (pointer p 0) L.s l) cut h.0 in
      let on = subst (λ (l : List ℕ). On (pointer p capacity) l L.t) cut h.1 in
      let short : length before < capacity = omega (arith, ap length cut, length-append before (v ∷ after)) in
      rw (
        outermost-found (pointer p 0) (pointer p capacity) (pointer p mates) (has branch.words) L.s before v after L.t back on (subst (λ (l : List ℕ). Mated (pointer p mates) l) cut h.2) s t
            (subst (λ (l : List ℕ). (w : ℕ) → In w l → has branch.words w ≡ false) cut clear) capacity (inl short),
        back_head (pointer p 0) L.s before v after back,
        on_last (pointer p capacity) before v after L.t on,
        first_cut,
        last_of-cut,
      )

-- a link whose inner vertices point as before
runs_same : (p q : List ℕ) (L : Path) → ((i w : ℕ) → In w L.inner → pointer q (i * capacity) w ≡ pointer p (i * capacity) w) → RunsAlong p L → RunsAlong q L
runs_same p q L same h = (
  back-same (pointer p 0) (pointer q 0) L.s L.inner (same 0) h.0,
  on_same (pointer p capacity) (pointer q capacity) L.inner L.t (same 1) h.1,
  mated-same (pointer p mates) (pointer q mates) L.inner (same 2) h.2,
)

module _ (p : List ℕ) (links : List Path) (pointing : Pointing p links) where
  long : length p ≡ pointer_count
  long = pointing.0

  h : Runs p links
  h = pointing.1

  -- ONE LINK IS SPLIT
  module _ (x : ℕ) (K : Path) (one : Sole links x K) (nd : NoDup (vertices K)) (low : AllLow (vertices K)) where
    abbrev front_of : List ℕ
    front_of = take_before x K.inner

    abbrev back-of : List ℕ
    back-of = take_after x K.inner

    cut_at : K.inner ≡ front_of ++ (x ∷ back-of)
    cut_at = cut K x one.inside

    cut_low : AllLow (front_of ++ (x ∷ back-of))
    cut_low = subst AllLow cut_at (λ w i. low w (inner_in w K i))

    cut-nodup : NoDup (front_of ++ (x ∷ back-of))
    cut-nodup = subst (λ (l : List ℕ). NoDup l) cut_at (nodup_inner K nd)

    abbrev q : List ℕ
    q = mated_aside p 0 x (head_of front_of x)

    abbrev r : List ℕ
    r = mated_aside q capacity x (last_from x back-of)

    first : Remated p q front_of
    first = remated_before p long K.s front_of x back-of (subst (λ (l : List ℕ). Back (pointer p 0) K.s l) cut_at (h K one.there).0) cut-nodup (λ w i. cut_low w (in_left w front_of (x ∷ back-of) i))

    second : Remated q r back-of
    second = remated_after q (first.long ∙ long) front_of x back-of K.t
        (subst (λ (l : List ℕ). On (pointer q capacity) l K.t) cut_at (on_same (pointer p capacity) (pointer q capacity) K.inner K.t (λ w i. first.others 1 w (λ e. absurd (omega arith))) (h K one.there).1))
        cut-nodup (λ w i. cut_low w (in_right w front_of (x ∷ back-of) (inr i)))

    in_cut : (w : ℕ) → In w (front_of ++ (x ∷ back-of)) → In w K.inner
    in_cut w i = subst (λ (l : List ℕ). In w l) (sym cut_at) i

    kept : (i w : ℕ) → (i ≡ 2 → ¬ In w K.inner) → pointer r (i * capacity) w ≡ pointer p (i * capacity) w
    kept i w n =
        second.others i w (λ e j. n e (in_cut w (in_right w front_of (x ∷ back-of) (inr j))))
        ∙ first.others i w (λ e j. n e (in_cut w (in_left w front_of (x ∷ back-of) j)))

    backs : Back (pointer r 0) K.s front_of × Back (pointer r 0) x back-of
    backs = back_cut (pointer r 0) K.s front_of x back-of (subst (λ (l : List ℕ). Back (pointer r 0) K.s l) cut_at (back-same (pointer p 0) (pointer r 0) K.s K.inner (λ w i. kept 0 w (λ e. absurd (omega arith))) (h K one.there).0))

    ons : On (pointer r capacity) front_of x × On (pointer r capacity) back-of K.t
    ons = on_cut (pointer r capacity) front_of x back-of K.t (subst (λ (l : List ℕ). On (pointer r capacity) l K.t) cut_at (on_same (pointer p capacity) (pointer r capacity) K.inner K.t (λ w i. kept 1 w (λ e. absurd (omega arith))) (h K one.there).1))

    front_mated : Mated (pointer r mates) front_of
    front_mated = mated-same (pointer q mates) (pointer r mates) front_of (λ w i. second.others 2 w (λ e j. nodup_apart front_of (x ∷ back-of) cut-nodup w i (inr j))) first.set

    -- what x leaves on each side has mates of its own
    pub parts_mated : Mated (pointer (split_mates p x (ends K)) mates) front_of × Mated (pointer (split_mates p x (ends K)) mates) back-of
    parts_mated = rw (first_cut K x one.inside, last_of-cut K x one.inside) (front_mated, second.set)

    pieces : (M L : Path) → In L links → Piece x L M → RunsAlong r M
    pieces M L i (whole n e) = rw e (runs_same p r L (λ part w j. kept part w (λ z k. n (rw (one.only L i w k j) one.inside))) (h L i))
    pieces M L i (front k e) = rw (e, one.only L i x one.inside k) (backs.0, ons.0, front_mated)
    pieces M L i (back k e) = rw (e, one.only L i x one.inside k) (backs.1, ons.1, second.set)

    pub pointing_split : Pointing (split_mates p x (ends K)) (splitLinks x links)
    pointing_split = rw (first_cut K x one.inside, last_of-cut K x one.inside) (second.long ∙ first.long ∙ long, λ M m. let s = piece_of x links M m in pieces M s.0 s.1 s.2)

  -- ONE MORE
  pub runs-more : (P : Path) → NoDup (vertices P) → AllLow (vertices P) → ((L : Path) → In L links → (w : ℕ) → In w L.inner → ¬ In w P.inner)
      → Runs (mated_ends (point_along p (vertices P)) P.inner) (P ∷ links)
  runs-more P nd low new M m = go m
    where
      low_inner : AllLow P.inner
      low_inner w i = low w (inner_in w P i)

      set : Remated (point_along p (vertices P)) (mated_ends (point_along p (vertices P)) P.inner) P.inner
      set = remated_ends (point_along p (vertices P)) (along-length p P.s P.inner P.t ∙ long) P.inner low_inner

      go : In M (P ∷ links) → RunsAlong (mated_ends (point_along p (vertices P)) P.inner) M
      go (inl e) =
          let a = point_along p (vertices P) in
          let z = mated_ends a P.inner in
          let s = along-set P.t p P.s P.inner long (nodup_inner P nd) low_inner in
          rw e (
            back-same (pointer a 0) (pointer z 0) P.s P.inner (λ w i. set.others 0 w (λ e. absurd (omega arith))) s.0,
            on_same (pointer a capacity) (pointer z capacity) P.inner P.t (λ w i. set.others 1 w (λ e. absurd (omega arith))) s.1,
            set.set,
          )
      go (inr i) = runs_same p (mated_ends (point_along p (vertices P)) P.inner) M (λ part w k. set.others part w (λ e. new M i w k) ∙ along-other p P.s P.inner P.t part w (new M i w k)) (h M i)
