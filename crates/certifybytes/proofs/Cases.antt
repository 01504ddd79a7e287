-- The certificate's length counts bytes of its buffer, and all has room. Assumes nothing.
use Prim.Native.Nat.{ℕ, ◌≤◌}
use mathlib.Core.List.{List}
use mathlib.Core.Path.{◌≡◌, refl, sym, ap, ◌∙◌}
use native.Mathlib.Omega.{arith}
use lib.ListN.{length, take, length-replicate}
use lib.Seq.{length-take-le}
use Rattle.record.specs.Read.{Bytes}
use Rattle.record.specs.declared.Answer.TheVariants.{Grade}
use Rattle.certifier.specs.declared.Made.{Made}
use Rattle.certifier.specs.Made.{certificate_room, made_from, filled_from}
use Rattle.certifier.proofs.Room.{made-within}
use Rattle.certifybytes.specs.Bytes.{room, zeros, made_bytes}
use Rattle.certifybytes.proofs.Lengths.{made-short}

module _ (s : List ℕ) where
  -- what was made in a buffer of zeros
  module _ {m : Made} {out : List ℕ} (e : (m ≡ made_from s zeros) × (out ≡ filled_from s zeros)) where
    within : (m.length ≤ certificate_room) × (length out ≡ certificate_room)
    within =
        let l : length zeros ≡ certificate_room = length-replicate {A = ℕ} certificate_room 0 in
        let w = made-within s zeros in
        (omega (arith, w.0, l, ap (λ (x : Made). x.length) e.0), ap length e.1 ∙ w.1 ∙ l)

    pub made-counts : (m.length ≤ length out) × (m.length ≡ length (take m.length out))
    made-counts =
        let l : m.length ≤ length out = omega (arith, within) in
        (l, sym (length-take-le m.length out l))

  pub made-fits : Bytes s → (k : ℕ) → (made_from s zeros).answer ≡ Grade k
      → length (made_bytes s (made_from s zeros).answer (take (made_from s zeros).length (filled_from s zeros))) ≤ room
  made-fits b k f = rw f (made-short s (take (made_from s zeros).length (filled_from s zeros)) k b f (omega (arith, within (refl, refl), made-counts (refl, refl))))
