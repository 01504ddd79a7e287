-- What was handed back tells of what was read. Assumes nothing.
use Prim.Native.Nat.{ℕ, ◌≤◌}
use mathlib.Core.List.{List}
use mathlib.Core.Bool.{Bool, cond}
use mathlib.Core.Path.{◌≡◌, refl}
use lib.Dec.{leb}
use borrow.Author.Tests.{le-leb}
use Rattle.std.specs.Prelude.{Result, Ok, Err}
use Rattle.std.specs.Result.{IsErrAnd}
use Rattle.std.proofs.lemmas.Result.{err_from_is_err_and}
use Rattle.record.specs.Read.{Read, Read.Got, Read.Refused, ◌needs⟨◌⟩◌}
use Rattle.record.specs.Number.{number}
use Rattle.record.proofs.Loops.{needs_got}
use Rattle.record.specs.declared.Answer.{Answer}
use Rattle.record.specs.declared.Answer.TheVariants.{CertificateFault}
use Rattle.vertexset.specs.Set.{capacity}
use Rattle.paths.specs.declared.Item.{Item}
use Rattle.paths.specs.Items.{told, item_read}

module _ {A B : Type 0} (f : A → ℕ → B) where
  -- the value that an Ok was made of, and the place after it
  pub told-ok : (R : Read A) {x : B} → Ok x ≡ told f R → (a : A) × (next : ℕ) × (R ≡ Got a next) × (x ≡ f a next)
  unfolding told
  told-ok (Got a next) e = (a, next, refl, cc)
  told-ok (Refused q p) e = cc

  -- the refusal that an Err was made of
  pub told-err : (R : Read A) {d : Answer} → Err d ≡ told f R → (q : ℕ) × (p : ℕ) × (R ≡ Refused q p) × (d ≡ CertificateFault q p)
  unfolding told
  told-err (Got a next) e = cc
  told-err (Refused q p) e = (q, p, refl, cc)

  -- and what a `?` makes of it
  pub told-exit : {C : Type 0} (r : Result C Answer) (R : Read A) {d : Answer} → Err d ≡ told f R → IsErrAnd r (λ y. y ≡ d) → (q : ℕ) × (p : ℕ) × (R ≡ Refused q p) × (r ≡ Err (CertificateFault q p))
  told-exit r R e k =
      let g = told-err R e in
      let h = err_from_is_err_and r k in
      (g.0, g.1, g.2, cc)

-- a number that was handed back is the one that was read
pub item-ok : (R : Read ℕ) {x : Item} → Ok x ≡ item_read R → R ≡ Got x.value x.next
item-ok R {x} e = let g = told-ok _ R e in rw g.3 g.2

-- and is then tested
pub item_tested : (r : ℕ) (ok : ℕ → Bool) (s : List ℕ) (at : ℕ) {x : Item} {b : Bool} → Ok x ≡ item_read (number s at) → ok x.value ≡ b
    → item_read (cond b (Got x.value x.next) (Refused r at)) ≡ item_read ((number needs⟨ r ⟩ ok) s at)
item_tested r ok s at e f = rw (needs_got number r ok (item-ok (number s at) e), f)

-- within the limit
pub limited-in : {A : Type 0} (n at : ℕ) (x : Read A) → n ≤ capacity → cond (leb n capacity) x (Refused 9 at) ≡ x
limited-in n at x h = rw (le-leb n capacity h)
