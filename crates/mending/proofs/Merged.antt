-- Two lists of edges as one: the next edge, how many they are, and that they keep the order. Assumes nothing.
use Prim.Native.Nat.{ℕ, suc, ◌+◌}
use mathlib.Core.List.{List, [], ◌∷◌}
use mathlib.Core.Bool.{Bool, true, false, cond, ◌&&◌, ◌||◌}
use mathlib.Core.Path.{◌≡◌, refl, sym}
use mathlib.Core.Logic.{inl, inr}
use native.Mathlib.Omega.{arith}
use lib.Dec.{ltb, leb, eqb}
use lib.ListN.{length}
use borrow.Author.Tests.{ltb-false, leb-false, eqb-true, eqb-false}
use Rattle.record.specs.Read.{Each}
use Rattle.connectivity.proofs.Edges.{EdgeBefore}
use Rattle.connectivity.proofs.Lists.{clash}
use Rattle.reading.specs.Plan.{EdgeAllowed, follows}
use Rattle.reading.proofs.Doubles.{before_follows}
use Rattle.mending.specs.Mend.{merged_into, merged}
use Rattle.mending.specs.Code.{takes_first}

-- THE NEXT EDGE
pub merged-first : (e : ℕ × ℕ) (es ms : List (ℕ × ℕ)) → takes_first (e ∷ es) ms ≡ true → merged (e ∷ es) ms ≡ e ∷ merged es ms
unfolding merged merged_into
merged-first e es [] t = refl
merged-first e es (m ∷ ms) t = rw t

pub merged-second : (es : List (ℕ × ℕ)) (m : ℕ × ℕ) (ms : List (ℕ × ℕ)) → takes_first es (m ∷ ms) ≡ false → merged es (m ∷ ms) ≡ m ∷ merged es ms
unfolding merged merged_into
merged-second [] m ms t = refl
merged-second (e ∷ es) m ms t = rw t

-- HOW MANY THEY ARE
into-length : (e : ℕ × ℕ) (later : List (ℕ × ℕ) → List (ℕ × ℕ)) (n : ℕ) → ((ms : List (ℕ × ℕ)) → length (later ms) ≡ n + length ms) → (ms : List (ℕ × ℕ)) → length (merged_into e later ms) ≡ suc n + length ms
unfolding merged_into
into-length e later n h [] = omega (arith, h [])
into-length e later n h (m ∷ ms) = go (follows e m) (into-length e later n h ms)
  where
    go : (y : Bool) → length (merged_into e later ms) ≡ suc n + length ms → length (cond y (e ∷ later (m ∷ ms)) (m ∷ merged_into e later ms)) ≡ suc n + suc (length ms)
    go true i = omega (arith, h (m ∷ ms))
    go false i = omega arith

pub merged-length : (es ms : List (ℕ × ℕ)) → length (merged es ms) ≡ length es + length ms
unfolding merged
merged-length [] ms = omega arith
merged-length (e ∷ es) ms = into-length e (merged es) (length es) (merged-length es) ms

-- an edge that does not follow comes before
not_follows : (d e : ℕ × ℕ) → follows d e ≡ false → EdgeBefore e d
not_follows d e h = go (ltb d.0 e.0) refl (eqb d.0 e.0) refl (leb d.1 e.1) refl h
  where
    go : (a : Bool) → ltb d.0 e.0 ≡ a → (b : Bool) → eqb d.0 e.0 ≡ b → (c : Bool) → leb d.1 e.1 ≡ c → a || (b && c) ≡ false → EdgeBefore e d
    go true x b y c z h = absurd (clash refl h)
    go false x true y true z h = absurd (clash refl h)
    go false x true y false z h = inr (sym (eqb-true _ _ y), leb-false _ _ z)
    go false x false y c z h = inl (omega (arith, ltb-false d.0 e.0 x, eqb-false d.0 e.0 y))

-- THEY KEEP THE ORDER
module _ (n : ℕ) where
  abbrev InOrder : ℕ × ℕ → List (ℕ × ℕ) → Type 0
  InOrder before es = Each (EdgeAllowed n) (λ before e. e) before es

  into-order : (e : ℕ × ℕ) (es : List (ℕ × ℕ)) (later : List (ℕ × ℕ) → List (ℕ × ℕ))
      → ((before : ℕ × ℕ) (ms : List (ℕ × ℕ)) → InOrder before es → InOrder before ms → InOrder before (later ms))
      → (before : ℕ × ℕ) (ms : List (ℕ × ℕ)) → InOrder before (e ∷ es) → InOrder before ms → InOrder before (merged_into e later ms)
  unfolding merged_into Each
  into-order e es later h before [] a b = (a.0, h e [] a.1 tt)
  into-order e es later h before (m ∷ ms) a b = go (follows e m) refl (λ i. into-order e es later h m ms i b.1)
    where
      go : (y : Bool) → follows e m ≡ y → (InOrder m (e ∷ es) → InOrder m (merged_into e later ms)) → InOrder before (cond y (e ∷ later (m ∷ ms)) (m ∷ merged_into e later ms))
      go true f i = (a.0, h e (m ∷ ms) a.1 ((b.0.0, f), b.1))
      go false f i = (b.0, i ((a.0.0, before_follows m e (not_follows e m f)), a.1))

  pub merged-order : (es : List (ℕ × ℕ)) (before : ℕ × ℕ) (ms : List (ℕ × ℕ)) → InOrder before es → InOrder before ms → InOrder before (merged es ms)
  unfolding merged
  merged-order [] before ms a b = b
  merged-order (e ∷ es) before ms a b = into-order e es (merged es) (merged-order es) before ms a b
