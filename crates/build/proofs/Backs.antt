-- Taking a path back: the walk along it. Assumes nothing.
use Prim.Native.Nat.{ℕ, zero, suc, ◌+◌, ◌-◌, ◌<◌, ◌≤◌}
use mathlib.Core.List.{List}
use mathlib.Core.Path.{◌≡◌, refl}
use mathlib.Core.Logic.{◌≢◌}
use native.Mathlib.Omega.{arith}
use borrow.Author.Tests.{eq-eqb, ne_eqb}
use Rattle.vertexset.specs.Set.{removed}
use Rattle.vertexset.specs.declared.VertexSet.{VertexSet}
use Rattle.links.specs.Tables.{pointer, cleared}
use Rattle.build.specs.State.{unwound}

-- the walk back along a path, after i of its m steps
module _ (m i first v : ℕ) (set : VertexSet) (pointers : List ℕ) where
  pub unwound-met : v ≡ first → (set, pointers) ≡ unwound (m - i) first v set pointers
  unfolding unwound
  unwound-met e = go (m - i)
    where
      go : (k : ℕ) → (set, pointers) ≡ unwound k first v set pointers
      go zero = refl
      go (suc k) = rw (eq-eqb v first e)

  pub unwound-on : i < m → v ≢ first → {before : ℕ} {less : VertexSet} {out : List ℕ} → before ≡ pointer pointers 0 v → less ≡ removed set v → out ≡ cleared pointers v
      → unwound (m - (i + 1)) first before less out ≡ unwound (m - i) first v set pointers
  unfolding unwound
  unwound-on h n e f g = let z : m - i ≡ suc (m - (i + 1)) = omega arith in rw (z, ne_eqb v first n, e, f, g)

  pub unwound-end : m ≤ i → (set, pointers) ≡ unwound (m - i) first v set pointers
  unfolding unwound
  unwound-end h = let z : m - i ≡ 0 = omega arith in rw z
