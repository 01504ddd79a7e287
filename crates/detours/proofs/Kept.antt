-- Lists of paths at the front of the array, zeros behind them. Assumes nothing.
use Prim.Native.Nat.{ℕ, ◌-◌, ◌≤◌}
use mathlib.Core.Path.{◌≡◌, sym, ap, ◌∙◌}
use mathlib.Core.List.{List, ◌∷◌}
use native.Mathlib.Omega.{arith}
use lib.ListN.{length, take, drop, length-take}
use lib.Seq.{length-take-le}
use Rattle.search.specs.Arrays.{placed, placed_end}
use Rattle.search.proofs.Placed.{padded-length, padded-take, placed-padded, placed_end-padded, added-length}
use Rattle.construction.specs.Sets.{stop}
use Rattle.construction.specs.Ears.{path_space, add_path}
use Rattle.detours.specs.Code.{flat_of, Kept, FlatShows}

module _ (items : List ℕ) (len : ℕ) (k : Kept items len) where
  pub taken-short : length (take len items) ≤ path_space
  taken-short = omega (arith, length-take len items, k.1)

  pub kept_length : length items ≡ path_space
  kept_length = ap length k.0 ∙ padded-length path_space (take len items) taken-short

  pub kept_size : length (take len items) ≡ len
  kept_size = length-take-le len items (omega (arith, kept_length, k.1))

module _ (items l : List ℕ) (e : items ≡ flat_of l) (h : length l ≤ path_space) where
  pub flat_take : take (length l) items ≡ l
  flat_take = rw e (padded-take path_space l h)

  pub flat_kept : Kept items (length l)
  flat_kept = (e ∙ ap flat_of (sym flat_take), h)

pub kept_shows : (items : List ℕ) (len : ℕ) → Kept items len → FlatShows items len (take len items)
kept_shows items len k = record { array = k.0; short = taken-short items len k; size = sym (kept_size items len k) }

-- ---- a path more

module _ (items : List ℕ) (len : ℕ) (path : List ℕ) (k : Kept items len) where
  pub add_kept : placed items len (stop ∷ path) ≡ flat_of (add_path (take len items) path)
  add_kept =
      ap (λ (l : List ℕ). placed l len (stop ∷ path)) k.0 ∙ ap (λ (n : ℕ). placed (flat_of (take len items)) n (stop ∷ path)) (sym (kept_size items len k))
      ∙ placed-padded path_space (take len items) (stop ∷ path) (taken-short items len k)

  pub add_kept_end : placed_end items len (stop ∷ path) ≡ length (add_path (take len items) path)
  add_kept_end =
      ap (λ (l : List ℕ). placed_end l len (stop ∷ path)) k.0 ∙ ap (λ (n : ℕ). placed_end (flat_of (take len items)) n (stop ∷ path)) (sym (kept_size items len k))
      ∙ placed_end-padded path_space (take len items) (stop ∷ path) (taken-short items len k)

  pub add_kept_short : length (add_path (take len items) path) ≤ path_space
  add_kept_short = added-length path_space (take len items) (stop ∷ path) (taken-short items len k)

-- the front of an array, as the code hands it on
abbrev pub front : List ℕ → ℕ → List ℕ
front items len = take (len - 0) (drop 0 items)

pub front_take : (items : List ℕ) (len : ℕ) → front items len ≡ take len items
front_take items len = let z : len - 0 ≡ len = omega arith in rw z
