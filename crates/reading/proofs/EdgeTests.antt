-- What the tests on an edge tell. Assumes nothing.
use Prim.Native.Nat.{ℕ, ◌<◌, ◌≤◌}
use mathlib.Core.Bool.{Bool, true, false, ◌&&◌, ◌||◌}
use mathlib.Core.Path.{◌≡◌, refl}
use mathlib.Core.Logic.{◌⊎◌, inl, inr}
use mathlib.Core.List.{List, [], ◌∷◌}
use lib.Dec.{ltb, leb, eqb}
use native.Mathlib.Omega.{arith}
use borrow.Author.Tests.{ltb-true, ltb-false, leb-true, leb-false, eqb-true, eqb-false, le-leb, lt-leb, eq-eqb, ne_eqb}
use Rattle.record.specs.Read.{Each}
use Rattle.connectivity.specs.Lists.{In}
use Rattle.connectivity.specs.Graph.{is_pair}
use Rattle.connectivity.proofs.Lists.{and-true}
use Rattle.reading.specs.Plan.{EdgeAllowed, proper, follows}
use Rattle.reading.specs.Code.{key_of}

pub proper-true : (n : ℕ) (e : ℕ × ℕ) → proper n e ≡ true → (e.0 < e.1) × (e.1 < n)
proper-true n e h = let t = and-true (ltb e.0 e.1) (ltb e.1 n) h in (ltb-true _ _ t.0, ltb-true _ _ t.1)

pub follows-true : (d e : ℕ × ℕ) → follows d e ≡ true → (d.0 < e.0) ⊎ ((d.0 ≡ e.0) × (d.1 ≤ e.1))
follows-true d e h = go (ltb d.0 e.0) refl h
  where
    go : (b : Bool) → ltb d.0 e.0 ≡ b → b || (eqb d.0 e.0 && leb d.1 e.1) ≡ true → (d.0 < e.0) ⊎ ((d.0 ≡ e.0) × (d.1 ≤ e.1))
    go true t h = inl (ltb-true _ _ t)
    go false t h = let a = and-true (eqb d.0 e.0) (leb d.1 e.1) h in inr (eqb-true _ _ a.0, leb-true _ _ a.1)

-- every edge has its lower vertex first, and its higher below n
abbrev pub Proper : ℕ → List (ℕ × ℕ) → Type 0
Proper n es = (e : ℕ × ℕ) → In e es → (e.0 < e.1) × (e.1 < n)

pub each-proper : (n : ℕ) (before : ℕ × ℕ) (es : List (ℕ × ℕ)) → Each (EdgeAllowed n) (λ before e. e) before es → Proper n es
unfolding Each
each-proper n before [] h e i = absurd i
each-proper n before (d ∷ es) h e (inl i) = rw i (proper-true n d h.0.0)
each-proper n before (d ∷ es) h e (inr i) = each-proper n d es h.1 e i

-- the number of an edge tells its place in the order
pub key_follows : (d e : ℕ × ℕ) → d.1 < 65536 → e.1 < 65536 → leb (key_of d) (key_of e) ≡ follows d e
key_follows d e h k = go (ltb d.0 e.0) refl (eqb d.0 e.0) refl (leb d.1 e.1) refl
  where
    go : (a : Bool) → ltb d.0 e.0 ≡ a → (b : Bool) → eqb d.0 e.0 ≡ b → (c : Bool) → leb d.1 e.1 ≡ c → leb (key_of d) (key_of e) ≡ a || (b && c)
    go true x b y c z = le-leb (key_of d) (key_of e) (omega (arith, ltb-true d.0 e.0 x))
    go false x true y true z = le-leb (key_of d) (key_of e) (omega (arith, eqb-true d.0 e.0 y, leb-true d.1 e.1 z))
    go false x true y false z = lt-leb (key_of d) (key_of e) (omega (arith, eqb-true d.0 e.0 y, leb-false d.1 e.1 z))
    go false x false y c z = lt-leb (key_of d) (key_of e) (omega (arith, ltb-false d.0 e.0 x, eqb-false d.0 e.0 y))

pub key_same : (d e : ℕ × ℕ) → d.1 < 65536 → e.1 < 65536 → eqb (key_of d) (key_of e) ≡ is_pair d e.0 e.1
key_same d e h k = go (eqb d.0 e.0) refl (eqb d.1 e.1) refl
  where
    go : (a : Bool) → eqb d.0 e.0 ≡ a → (b : Bool) → eqb d.1 e.1 ≡ b → eqb (key_of d) (key_of e) ≡ a && b
    go true x true y = eq-eqb (key_of d) (key_of e) (omega (arith, eqb-true d.0 e.0 x, eqb-true d.1 e.1 y))
    go true x false y = ne_eqb (key_of d) (key_of e) (λ z. let w : d.1 ≡ e.1 = omega (arith, eqb-true d.0 e.0 x) in eqb-false d.1 e.1 y w)
    go false x b y = ne_eqb (key_of d) (key_of e) (λ z. let w : d.0 ≡ e.0 = omega arith in eqb-false d.0 e.0 x w)
