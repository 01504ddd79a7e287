-- Reading and testing one ear. Assumes nothing.
use Prim.Native.Nat.{ℕ}
use mathlib.Core.List.{List}
use mathlib.Core.Bool.{Bool, true, false, cond, ◌&&◌, ◌||◌, not}
use mathlib.Core.Path.{◌≡◌, refl, sym, ap, ◌∙◌}
use native.Mathlib.Omega.{arith}
use Rattle.std.specs.Prelude.{Option, Some, None, Ok, Err}
use Rattle.record.specs.Read.{Read, Read.Got, Read.Refused, ◌needs⟨◌⟩◌, folded}
use Rattle.record.specs.declared.Answer.TheVariants.{CertificateFault}
use Rattle.record.proofs.Loops.{three_tests}
use Rattle.vertexset.specs.Set.{has, inserted}
use Rattle.vertexset.specs.declared.VertexSet.{VertexSet}
use Rattle.connectivity.specs.Graph.{Graph}
use Rattle.connectivity.specs.Path.{Path}
use Rattle.certificates.specs.Tests.{path_along, path_new}
use Rattle.certificates.specs.Records.{path}
use Rattle.paths.specs.Items.{told}
use Rattle.paths.specs.Paths.{path_told, vertices_at}
use Rattle.paths.specs.declared.PathRead.{PathRead}
use Rattle.paths.proofs.Told.{told-ok}
use Rattle.paths.proofs.Reading.{vertices-again}
use Rattle.ears.specs.Code.{ears_with, ear_read, ear_fault, ear_beside}
use Rattle.ears.specs.declared.Ears.{Ears}
use Rattle.ears.specs.declared.EarRead.{EarRead}

module _ (g : Graph) (e : Ears) (s : List ℕ) (at : ℕ) where
  pub ear-unread : {q p : ℕ} → path g.n 3 s at ≡ Refused q p → Err (CertificateFault q p) ≡ ear_read e (ear_beside g e.begun (has e.set.words) s at)
  unfolding ear_beside told ◌needs⟨◌⟩◌
  ear-unread f = rw f

  -- what was read, tested on what is known of the path
  module _ {P : Path} {next : ℕ} (f : path g.n 3 s at ≡ Got P next) {p : PathRead} (t : p ≡ path_told g.adj (has e.set.words) P next) where
    faulted : Option ℕ → Read Path
    faulted None = Got P next
    faulted (Some r) = Refused r at

    ear-tested : ear_beside g e.begun (has e.set.words) s at ≡ faulted (ear_fault g.adj e p)
    unfolding ear_beside faulted
    ear-tested =
        three_tests (path g.n 3) _ _ _ 24 25 26 f
        ∙ spread (path_along g P && (e.begun || g.adj P.t P.s)) (not e.begun || (has e.set.words P.s && has e.set.words P.t)) (path_new (has e.set.words) P)
        ∙ ap faulted (sym (ap (ear_fault g.adj e) t))
      where
        spread : (a b w : Bool) → cond a (cond b (cond w (Got P next) (Refused 26 at)) (Refused 25 at)) (Refused 24 at) ≡ faulted (cond a (cond b (cond w None (Some 26)) (Some 25)) (Some 24))
        spread true true true = refl
        spread true true false = refl
        spread true false w = refl
        spread false b w = refl

    pub ear-refused : {r : ℕ} → Some r ≡ ear_fault g.adj e p → Err (CertificateFault r at) ≡ ear_read e (ear_beside g e.begun (has e.set.words) s at)
    unfolding told faulted
    ear-refused h = ap (ear_read e) (sym (ear-tested ∙ ap faulted (sym h)))

    pub ear-taken : {set : VertexSet} → None ≡ ear_fault g.adj e p → set ≡ folded inserted e.set (vertices_at g.n s at)
        → Ok (record { next = p.next; ears = record { set = set; begun = true } }) ≡ ear_read e (ear_beside g e.begun (has e.set.words) s at)
    unfolding told faulted
    ear-taken h d = rw (d, vertices-again g.n 3 s at (omega arith) f, t) (ap (ear_read e) (sym (ear-tested ∙ ap faulted (sym h))))

-- what an ear that was handed back tells of what was read
pub ear-told : (e : Ears) (R : Read Path) {x : EarRead} → Ok x ≡ ear_read e R → (P : Path) × (R ≡ Got P x.next) × (x.ears ≡ ears_with e P)
ear-told e R k = let g = told-ok _ R k in rw g.3 (g.0, g.2, refl)
