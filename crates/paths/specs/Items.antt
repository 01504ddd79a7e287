-- What was read of a certificate, as the code hands it on.
use Rattle.std.specs.Prelude.{ℕ, cond, leb, Result, Ok, Err}
use Rattle.record.specs.Read.{Read, Read.Got, Read.Refused, Reader}
use Rattle.record.specs.declared.Answer.{Answer}
use Rattle.record.specs.declared.Answer.TheVariants.{CertificateFault}
use Rattle.vertexset.specs.Set.{capacity}
use Rattle.paths.specs.declared.Item.{Item}

-- a value and the place after it; or the papers' number and place for the certificate's fault
abbrev pub taken : ℕ → ℕ → Result Item Answer
taken v next = Ok (record { value = v; next = next })

abbrev pub refused : ℕ → ℕ → Result Item Answer
refused r p = Err (CertificateFault r p)

-- what was made of a value and the place after it; or the certificate's fault, with the papers' number and place
unfoldable pub told : {A B : Type 0} → (A → ℕ → B) → Read A → Result B Answer
told f (Got v next) = Ok (f v next)
told f (Refused r p) = Err (CertificateFault r p)

-- a number, and the place after it
abbrev pub item_read : Read ℕ → Result Item Answer
item_read R = told (λ v next. record { value = v; next = next }) R

-- where reading goes on, whatever was read
abbrev pub end_read : {A : Type 0} → Read A → Result ℕ Answer
end_read R = told (λ a next. next) R

-- a reader for graphs within the limit; beyond it everything is refused 9 at once
abbrev pub limited : {A : Type 0} → ℕ → Reader A → Reader A
limited n R s at = cond (leb n capacity) (R s at) (Refused 9 at)
