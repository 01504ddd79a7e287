-- Lists of paths at the front of the array, and what a step makes of them. Assumes nothing.
use Prim.Native.Nat.{ℕ, ◌+◌, ◌-◌, ◌≤◌, ◌<◌}
use mathlib.Core.Path.{◌≡◌, refl, sym, ap, ◌∙◌}
use mathlib.Core.Bool.{Bool, true, false, cond}
use mathlib.Core.List.{List, ◌∷◌, ◌++◌, append_assoc}
use native.Mathlib.Omega.{arith}
use lib.Dec.{leb}
use lib.ListN.{length, take, drop, get_or, replicate, length-append, length-drop}
use lib.Seq.{take-append-le, drop-append-le, take_at, drop-append-add, length-take-le, get_or-take}
use borrow.Author.Tests.{leb-true}
use Rattle.vertexset.specs.Set.{inserted}
use Rattle.vertexset.specs.declared.VertexSet.{VertexSet}
use Rattle.search.specs.Arrays.{padded, placed, placed_end}
use Rattle.search.proofs.Placed.{padded-length, drop_zeros}
use Rattle.construction.specs.Sets.{stop, set_with_all, last_of}
use Rattle.construction.specs.Ears.{near_all, near, path_space, no_cut}
use Rattle.construction.specs.Steps.{State, extended, reroute, turned, put_in}
use Rattle.construction.proofs.Basics.{Sized}
use Rattle.construction.proofs.Near.{near-grows}
use Rattle.detours.specs.Code.{cut_of, flat_of, Kept}
use Rattle.detours.specs.declared.Cut.{Cut}
use Rattle.detours.proofs.Kept.{taken-short, kept_size, flat_take, flat_kept, add_kept, add_kept_end, add_kept_short}
use Rattle.stepping.specs.Code.{Shows, Holds, state_in, put_between, put_between_end}
use Rattle.stepping.specs.declared.Progress.{Progress}

module _ (rows items : List ℕ) (b : Progress) (st : State) (s : Shows rows items b st) where
  pub shows_holds : Holds rows items b
  shows_holds = rw s.beside (record { kept = flat_kept items st.flat s.array s.short; same_near = refl })

  pub shows_take : take b.len items ≡ st.flat
  shows_take = rw s.beside (flat_take items st.flat s.array s.short)

  pub shows_state : state_in items b ≡ st
  shows_state = rw s.beside (rw (flat_take items st.flat s.array s.short))

-- ---- a list put in between

abbrev put_at : List ℕ → ℕ → List ℕ → List ℕ
put_at l k new = take k l ++ (new ++ drop k l)

module _ (size : ℕ) (l new : List ℕ) (k : ℕ) (low : k ≤ length l) where
  put_length : length (put_at l k new) ≡ length l + length new
  put_length = omega (arith, length-append (take k l) (new ++ drop k l), length-append new (drop k l), length-take-le k l low, length-drop k l)

  between-zeros : take k (padded size l) ++ (new ++ (take (length l - k) (drop k (padded size l)) ++ drop (length l + length new) (padded size l))) ≡ padded size (put_at l k new)
  between-zeros =
      let n : size - length l - length new ≡ size - length (put_at l k new) = omega (arith, put_length) in
      rw (
        take-append-le k l (replicate (size - length l) 0) low,
        drop-append-le k l (replicate (size - length l) 0) low,
        take_at (drop k l) (replicate (size - length l) 0) (length l - k) (length-drop k l),
        drop-append-add l (replicate (size - length l) 0) (length new),
        drop_zeros (length new) (size - length l),
        n,
      )
      (simp append_assoc)

  module _ (short : length l ≤ size) where
    between-padded : put_between (padded size l) (length l) k new ≡ padded size (cond (leb (length l + length new) size) (put_at l k new) l)
    between-padded = rw (padded-length size l short) (go (leb (length l + length new) size))
      where
        go : (b : Bool) → cond b (take k (padded size l) ++ (new ++ (take (length l - k) (drop k (padded size l)) ++ drop (length l + length new) (padded size l)))) (padded size l) ≡ padded size (cond b (put_at l k new) l)
        go true = between-zeros
        go false = refl

    between-end_padded : put_between_end (padded size l) (length l) new ≡ length (cond (leb (length l + length new) size) (put_at l k new) l)
    between-end_padded = rw (padded-length size l short) (go (leb (length l + length new) size))
      where
        go : (b : Bool) → cond b (length l + length new) (length l) ≡ length (cond b (put_at l k new) l)
        go true = sym put_length
        go false = refl

    between-short : length (cond (leb (length l + length new) size) (put_at l k new) l) ≤ size
    between-short = go (leb (length l + length new) size) refl
      where
        go : (b : Bool) → leb (length l + length new) size ≡ b → length (cond b (put_at l k new) l) ≤ size
        go true e = let h : length l + length new ≤ size = leb-true _ _ e in omega (arith, put_length)
        go false e = short

module _ (items : List ℕ) (len k : ℕ) (new : List ℕ) (kept : Kept items len) (low : k ≤ len) where
  in_reach : k ≤ length (take len items)
  in_reach = omega (arith, kept_size items len kept)

  pub between-kept : put_between items len k new ≡ flat_of (put_in (take len items) k new)
  between-kept =
      ap (λ (l : List ℕ). put_between l len k new) kept.0 ∙ ap (λ (n : ℕ). put_between (flat_of (take len items)) n k new) (sym (kept_size items len kept))
      ∙ between-padded path_space (take len items) new k in_reach (taken-short items len kept)

  pub between-kept_end : put_between_end items len new ≡ length (put_in (take len items) k new)
  between-kept_end =
      ap (λ (l : List ℕ). put_between_end l len new) kept.0 ∙ ap (λ (n : ℕ). put_between_end (flat_of (take len items)) n new) (sym (kept_size items len kept))
      ∙ between-end_padded path_space (take len items) new k in_reach (taken-short items len kept)

  pub between-kept_short : length (put_in (take len items) k new) ≤ path_space
  between-kept_short = between-short path_space (take len items) new k in_reach (taken-short items len kept)

-- ---- the two steps

-- what is kept beside the paths, while the build goes on
abbrev pub progress_on : VertexSet → VertexSet → VertexSet → ℕ → ℕ → Cut → Progress
progress_on branch built near len at cut = record { branch = branch; built = built; near = near; len = len; at = at; going = true; cut = cut }

near-more : (rows items : List ℕ) (b : Progress) (path : List ℕ) → Holds rows items b → Sized b.built → {n : VertexSet} → n ≡ near_all rows b.near path → n ≡ near rows (set_with_all b.built path)
near-more rows items b path h sized m = m ∙ ap (λ (s : VertexSet). near_all rows s path) h.same_near ∙ sym (near-grows rows b.built path sized)

module _ (rows items : List ℕ) (b : Progress) (path : List ℕ) (h : Holds rows items b) (sized : Sized b.built) {out : List ℕ} {len : ℕ} {built n : VertexSet} {none : Cut}
    (u : built ≡ set_with_all b.built path) (m : n ≡ near_all rows b.near path) (z : none ≡ cut_of no_cut) where
  pub extend_shows : (at : ℕ) {branch : VertexSet} → out ≡ placed items b.len (stop ∷ path) → len ≡ placed_end items b.len (stop ∷ path)
      → branch ≡ inserted (inserted b.branch (get_or path 0 0)) (last_of path) → Shows rows out (progress_on branch built n len at none) (extended (state_in items b) path at)
  extend_shows at o l r = record {
    array = o ∙ add_kept items b.len path h.kept;
    short = add_kept_short items b.len path h.kept;
    beside = rw (l ∙ add_kept_end items b.len path h.kept, r, u, near-more rows items b path h sized m, z);
  }

  pub reroute-shows : (k : ℕ) → k < b.len → out ≡ put_between items b.len (k + 1) (turned path (get_or items k 0)) → len ≡ put_between_end items b.len (turned path (get_or items k 0))
      → Shows rows out (progress_on b.branch built n len (k + 1) none) (reroute (state_in items b) path k)
  reroute-shows k low o l =
      let low1 : k + 1 ≤ b.len = omega arith in
      let g : get_or (take b.len items) k 0 ≡ get_or items k 0 = get_or-take b.len items k 0 low in
      rw g record {
        array = o ∙ between-kept items b.len (k + 1) (turned path (get_or items k 0)) h.kept low1;
        short = between-kept_short items b.len (k + 1) (turned path (get_or items k 0)) h.kept low1;
        beside = rw (l ∙ between-kept_end items b.len (k + 1) (turned path (get_or items k 0)) h.kept low1, u, near-more rows items b path h sized m, z);
      }

-- a state that stays as it is
module _ (rows items : List ℕ) (b : Progress) (h : Holds rows items b) where
  pub same_shows : Shows rows items b (state_in items b)
  same_shows = record { array = h.kept.0; short = taken-short items b.len h.kept; beside = rw (kept_size items b.len h.kept, ← h.same_near) }
