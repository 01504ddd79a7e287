-- What has been put into an array so far: a list at its front, and zeros behind it. Assumes nothing.
use Prim.Native.Nat.{ℕ, suc, ◌+◌, ◌≤◌, ◌<◌}
use mathlib.Core.Path.{◌≡◌, refl, sym, ap, subst, ◌∙◌}
use mathlib.Core.List.{List, [], ◌∷◌, ◌++◌}
use native.Mathlib.Omega.{arith}
use lib.ListN.{length, set, take, drop, replicate, length-take, length-set}
use lib.Seq.{append_snoc, set_split, length-take-le}
use borrow.Author.Tests.{le-leb}
use Rattle.record.specs.Write.{overwritten}
use Rattle.record.proofs.Write.{overwritten-more}
use Rattle.search.specs.Arrays.{padded, placed, placed_end}
use Rattle.search.proofs.Placed.{padded-length, padded-take, padded-none, padded-set, added-length, placed-padded, placed_end-padded}
use Rattle.construction.specs.Sets.{added}
use Rattle.construction.specs.Ears.{path_space}
use Rattle.construction.proofs.SetLaws.{added-room}
use Rattle.detours.specs.Code.{Kept, FlatShows}

pub record Filled (room : ℕ) (items : List ℕ) (len : ℕ) (l : List ℕ) : Type 0 where
  pub array : items ≡ padded room l
  pub short : length l ≤ room
  pub size : len ≡ length l

module _ {room : ℕ} {items : List ℕ} {len : ℕ} {l : List ℕ} (f : Filled room items len l) where
  pub filled_length : length items ≡ room
  filled_length = ap length f.array ∙ padded-length room l f.short

  pub filled_take : take len items ≡ l
  filled_take = rw (f.array, f.size) (padded-take room l f.short)

  -- what is put behind it, where there is room or not
  pub filled_added : (k : List ℕ) {out : List ℕ} {next : ℕ} → out ≡ placed items len k → next ≡ placed_end items len k → Filled room out next (added room l k)
  filled_added k {out} {next} a b = record {
    array = a ∙ rw (f.array, f.size) (placed-padded room l k f.short);
    short = added-length room l k f.short;
    size = b ∙ rw (f.array, f.size) (placed_end-padded room l k f.short);
  }

  pub filled_put : (k : List ℕ) {out : List ℕ} {next : ℕ} → length l + length k ≤ room → out ≡ placed items len k → next ≡ placed_end items len k → Filled room out next (l ++ k)
  filled_put k {out} {next} h a b = subst (λ (m : List ℕ). Filled room out next m) (added-room room l k h) (filled_added k a b)

-- zeros, and one number before them
pub filled_none : (room : ℕ) → Filled room (replicate room 0) 0 []
filled_none room = record { array = sym (padded-none room); short = omega arith; size = refl }

pub filled_first : (room v : ℕ) → 0 < room → Filled room (set (replicate room 0) 0 v) 1 (v ∷ [])
filled_first room v h = record { array = rw (← padded-none room) (padded-set room [] v h); short = omega arith; size = refl }

abbrev pub Flat : List ℕ → ℕ → List ℕ → Type 0
Flat items len flat = Filled path_space items len flat

pub flat_shows : {items : List ℕ} {len : ℕ} {flat : List ℕ} → Flat items len flat → FlatShows items len flat
flat_shows f = record { array = f.array; short = f.short; size = f.size }

pub shows_flat : {items : List ℕ} {len : ℕ} {flat : List ℕ} → FlatShows items len flat → Flat items len flat
shows_flat f = record { array = f.array; short = f.short; size = f.size }

pub flat_kept : {items : List ℕ} {len : ℕ} {flat : List ℕ} → Flat items len flat → Kept items len
flat_kept {items} {len} {flat} f = (f.array ∙ ap (padded path_space) (sym (filled_take f)), let h = f.short in omega (arith, f.size))

pub kept_flat : (items : List ℕ) (len : ℕ) → Kept items len → Flat items len (take len items)
kept_flat items len k =
    let s : length (take len items) ≤ path_space = omega (arith, k.1, length-take len items) in
    let n : length items ≡ path_space = ap length k.0 ∙ padded-length path_space (take len items) s in
    record { array = k.0; short = s; size = sym (length-take-le len items (let z : len ≤ length items = omega (arith, k.1) in z)) }

-- ---- a number, and then a list behind it

-- a list was put
abbrev pub Put : List ℕ → ℕ → List ℕ → ℕ → List ℕ → Type 0
Put items at out end l = (out ≡ placed items at l) × (end ≡ placed_end items at l)

module _ (items : List ℕ) (at v : ℕ) (l : List ℕ) (h : at + suc (length l) ≤ length items) where
  set_over : set items at v ≡ overwritten items at (v ∷ [])
  set_over =
      let p : at < length items = omega arith in
      let z : suc at ≡ at + 1 = omega arith in
      set_split items at v p ∙ sym (append_snoc (take at items) v (drop (suc at) items)) ∙ ap (λ (n : ℕ). take at items ++ (v ∷ []) ++ drop n items) z

  pub first_put : placed (set items at v) (at + 1) l ≡ placed items at (v ∷ l)
  first_put =
      let r : at + 1 + length l ≤ length (set items at v) = omega (arith, length-set items at v) in
      rw (le-leb (at + 1 + length l) (length (set items at v)) r, le-leb (at + suc (length l)) (length items) h, set_over) (overwritten-more items at (v ∷ []) (omega arith) l)

  pub first_end : placed_end (set items at v) (at + 1) l ≡ placed_end items at (v ∷ l)
  first_end =
      let r : at + 1 + length l ≤ length (set items at v) = omega (arith, length-set items at v) in
      rw (le-leb (at + 1 + length l) (length (set items at v)) r, le-leb (at + suc (length l)) (length items) h) (omega arith)
