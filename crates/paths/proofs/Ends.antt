-- Where reading goes on after one item and then another, whatever they are. Assumes nothing.
use Prim.Native.Nat.{ℕ}
use mathlib.Core.List.{List}
use mathlib.Core.Path.{◌≡◌, refl, ◌∙◌}
use native.Mathlib.Omega.{arith}
use Rattle.std.specs.Prelude.{Result, Err}
use Rattle.record.specs.declared.Answer.{Answer}
use Rattle.record.specs.declared.Answer.TheVariants.{CertificateFault}
use Rattle.record.specs.Read.{Read, Read.Got, Read.Refused, Reader, on_read, ◌▸◌, into}
use Rattle.record.proofs.Laws.{on_got, carry}
use Rattle.paths.specs.Items.{told, end_read}

pub end_into : {A B : Type 0} (f : A → B) (R : Reader A) (s : List ℕ) (at : ℕ) → end_read (R s at) ≡ end_read (into f R s at)
unfolding into told
end_into {A} {B} f R s at = go (R s at)
  where
    go : (x : Read A) → end_read x ≡ end_read (on_read x (λ a next. Got (f a) next))
    go (Got a next) = refl
    go (Refused q p) = refl

module _ {A : Type 0} {B : A → Type 0} (R : Reader A) (f : (a : A) → Reader (B a)) {s : List ℕ} {at : ℕ} where
  pub end_stop : {q p : ℕ} → R s at ≡ Refused q p → Err (CertificateFault q p) ≡ end_read ((R ▸ f) s at)
  unfolding ◌▸◌ told
  end_stop e = rw e

  pub end_then : {a : A} {mid : ℕ} → R s at ≡ Got a mid → end_read (f a s mid) ≡ end_read ((R ▸ f) s at)
  unfolding ◌▸◌ told
  end_then {a} {mid} e = rw e (go (f a s mid))
    where
      go : (x : Read (B a)) → end_read x ≡ end_read {A = (a : A) × B a} (on_read x (λ b next. Got (a, b) next))
      go (Got b next) = refl
      go (Refused q p) = refl

-- the first item read in another way
pub end_same : {A : Type 0} {B : A → Type 0} (R Q : Reader A) (f : (a : A) → Reader (B a)) {s : List ℕ} {at mid : ℕ} → R s at ≡ Q s mid → end_read ((Q ▸ f) s mid) ≡ end_read ((R ▸ f) s at)
unfolding ◌▸◌
end_same R Q f e = rw e

-- the same, where the first two of three items are read together
module _ {A : Type 0} {B : A → Type 0} {C : (a : A) → B a → Type 0} (R : Reader A) (f : (a : A) → Reader (B a)) (h : (a : A) (b : B a) → Reader (C a b)) (s : List ℕ) (at : ℕ) where
  pub front_stop : {q p : ℕ} → (R ▸ f) s at ≡ Refused q p → Err (CertificateFault q p) ≡ end_read ((R ▸ λ a. f a ▸ h a) s at)
  unfolding ◌▸◌
  front_stop {q} {p} e = first (R s at) refl e
    where
      second : (a : A) (mid : ℕ) (y : Read (B a)) → R s at ≡ Got a mid → f a s mid ≡ y → on_read {B = (a : A) × B a} y (λ b next. Got (a, b) next) ≡ Refused q p
          → Err (CertificateFault q p) ≡ end_read ((R ▸ λ a. f a ▸ h a) s at)
      second a mid (Got b next) d k e = let z : ◌≡◌ {A = ℕ} 0 1 = cc (e) in absurd (omega arith)
      second a mid (Refused r t) d k e = let z : ◌≡◌ {A = Result ℕ Answer} (Err (CertificateFault q p)) (Err (CertificateFault r t)) = cc in z ∙ end_stop (f a) (h a) k ∙ end_then R (λ a. f a ▸ h a) d

      first : (x : Read A) → R s at ≡ x → on_read {B = (a : A) × B a} x (λ a mid. on_read (f a s mid) (λ b next. Got (a, b) next)) ≡ Refused q p
          → Err (CertificateFault q p) ≡ end_read ((R ▸ λ a. f a ▸ h a) s at)
      first (Got a mid) d e = second a mid (f a s mid) d refl e
      first (Refused r t) d e = let z : ◌≡◌ {A = Result ℕ Answer} (Err (CertificateFault q p)) (Err (CertificateFault r t)) = cc in z ∙ end_stop R (λ a. f a ▸ h a) d

  pub front_then : {x : (a : A) × B a} {next : ℕ} → (R ▸ f) s at ≡ Got x next → end_read (h x.0 x.1 s next) ≡ end_read ((R ▸ λ a. f a ▸ h a) s at)
  unfolding ◌▸◌
  front_then {x} {next} e =
      let g = on_got (R s at) _ e in
      let k = on_got (f g.0 s g.1) _ g.3 in
      carry (λ w n. end_read (h w.0 w.1 s n) ≡ end_read ((R ▸ λ a. f a ▸ h a) s at)) k.3 (end_then (f g.0) (h g.0) k.2 ∙ end_then R (λ a. f a ▸ h a) g.2)
