-- `build::unwind` meets its contract: what is left of the path gives the same from here as from the start. Assumes nothing.

use Prim.Native.Nat.{ℕ}
use mathlib.Core.List.{List}
use mathlib.Core.Path.{◌≡◌, ap, ◌∙◌}
use Rattle.vertexset.specs.declared.VertexSet.{VertexSet}
use Rattle.build.proofs.Backs.{unwound-met, unwound-on, unwound-end}
use Rattle.build.proofs.unwind.Goals as goal

both : {a b : VertexSet × List ℕ} → a ≡ b → (a.0 ≡ b.0) × (a.1 ≡ b.1)
both e = (ap (λ (x : VertexSet × List ℕ). x.0) e, ap (λ (x : VertexSet × List ℕ). x.1) e)

pub returns-then-u-first : goal.returns-then-u-first
returns-then-u-first c = let l = c.loop in
    let rest = both (unwound-met _ _ _ _ _ _ c.if-u-first.true ∙ l.invariant) in record { value = rest.0; pointers_after = rest.1 }

pub loop-preserved : goal.loop-preserved
loop-preserved c = let e = c.clear-before.ensures in
    unwound-on _ _ _ _ _ _ c.loop-test.true c.if-u-first.false e.value c.remove-set.ensures e.pointers_after ∙ c.loop.invariant

pub returns : goal.returns
returns c = let l = c.loop in
    let rest = both (unwound-end _ _ _ _ _ _ c.loop-test.false ∙ l.invariant) in record { value = rest.0; pointers_after = rest.1 }
