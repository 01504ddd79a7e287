-- The records as the buffers hold them after a mend, all three in one buffer, and the bytes by the case. Assumes nothing.
use Prim.Native.Nat.{ℕ, ◌+◌, ◌≤◌, ◌<◌}
use mathlib.Core.List.{List, ◌++◌, append_assoc}
use mathlib.Core.Path.{◌≡◌, refl, sym, ap, subst, ◌∙◌}
use native.Mathlib.Omega.{arith}
use lib.ListN.{length, take, replicate, length-append, length-replicate}
use borrow.Author.Tests.{lt-ltb, le-ltb, le-leb}
use Rattle.record.specs.Read.{Bytes}
use Rattle.record.specs.Write.{overwritten}
use Rattle.record.specs.declared.Answer.{Answer}
use Rattle.record.specs.declared.Answer.TheVariants.{Accepted, Grade, PlanFault, CertificateFault}
use Rattle.reading.specs.Code.{plan_room}
use Rattle.certifier.specs.Made.{certificate_room}
use Rattle.mending.specs.declared.Mended.{Mended}
use Rattle.mending.specs.Mend.{Records, records_from, Outcome, wrote, mend_from}
use Rattle.lines.specs.Lines.{too_long_line, refusal_line, input_limit}
use Rattle.lines.proofs.Put.{Put, put_as, Puts.none, Puts.more, Begins, begins}
use Rattle.mendbytes.specs.Bytes.{room, printed, mend_bytes}
use Rattle.mending.proofs.Fits.{records_fit, mend_room}

-- a mend into buffers of zeros
abbrev zeros : ℕ → List ℕ
zeros n = replicate n 0

abbrev into_zeros : List ℕ → Outcome
into_zeros s = mend_from s (zeros plan_room) (zeros plan_room) (zeros certificate_room)

-- bytes laid at the start of a buffer
laid : (buffer bytes : List ℕ) → length bytes ≤ length buffer → Begins bytes (length bytes) (overwritten buffer 0 bytes)
laid buffer bytes h =
    let z : length bytes ≡ 0 + length bytes = omega arith in
    let e = le-leb (0 + length bytes) (length buffer) (omega arith) in
    begins {buffer = buffer} (more none bytes (z ∙ rw e, rw e)) h

-- each buffer begins with its record
pub record Holds (x : Records) (o : Outcome) : Type 0 where
  pub answer : o.answer.answer ≡ x.answer
  pub list : Begins x.list o.answer.list o.list
  pub mended : Begins x.mended o.answer.mended o.mended
  pub certificate : Begins x.certificate o.answer.certificate o.certificate

wrote-holds : (x : Records) (list mended certificate : List ℕ) → length x.list ≤ length list → length x.mended ≤ length mended → length x.certificate ≤ length certificate
    → Holds x (wrote x list mended certificate)
wrote-holds x list mended certificate l m c =
    record { answer = refl; list = laid list x.list l; mended = laid mended x.mended m; certificate = laid certificate x.certificate c }

-- the text of all three, in a buffer that has room for them
abbrev pub Three : Records → List ℕ
Three x = x.list ++ (x.mended ++ x.certificate)

module _ (s : List ℕ) where
  pub long_bytes : input_limit < length s → too_long_line ≡ mend_bytes s
  unfolding mend_bytes
  long_bytes h = rw (lt-ltb input_limit (length s) h)

  pub told-bytes : length s ≤ input_limit → {a : Answer} → (records_from s).answer ≡ a → printed a (records_from s) ≡ mend_bytes s
  unfolding mend_bytes
  told-bytes h f = rw (le-ltb input_limit (length s) h, f)

  pub three_fit : Bytes s → length (Three (records_from s)) ≤ room
  three_fit b =
      let x = records_from s in
      omega (arith, records_fit s b, length-append x.list (x.mended ++ x.certificate), length-append x.mended x.certificate)

  -- what was mended into buffers of zeros
  module _ (b : Bytes s) {m : Mended} {list mended certificate : List ℕ}
      (e : (m ≡ (into_zeros s).answer) × ((list ≡ (into_zeros s).list) × ((mended ≡ (into_zeros s).mended) × (certificate ≡ (into_zeros s).certificate)))) where
    abbrev outcome : Outcome
    outcome = record { answer = m; list = list; mended = mended; certificate = certificate }

    pub holds : Holds (records_from s) outcome
    holds =
        let p : length (zeros plan_room) ≡ plan_room = length-replicate {A = ℕ} plan_room 0 in
        let q : length (zeros certificate_room) ≡ certificate_room = length-replicate {A = ℕ} certificate_room 0 in
        let f = records_fit s b in
        let l : length (records_from s).list ≤ length (zeros plan_room) = omega arith in
        let n : length (records_from s).mended ≤ length (zeros plan_room) = omega arith in
        let c : length (records_from s).certificate ≤ length (zeros certificate_room) = omega arith in
        let w : outcome ≡ into_zeros s = λ i. record { answer = e.0 i; list = e.1.0 i; mended = e.1.1.0 i; certificate = e.1.1.1 i } in
        subst (Holds (records_from s)) (sym (w ∙ mend_room s _ _ _ l n c)) (wrote-holds (records_from s) _ _ _ l n c)

    -- one after the other in a further buffer
    pub three_begin : (buffer : List ℕ) → room ≤ length buffer → {i j k : ℕ} {first second third : List ℕ}
        → Put buffer 0 (take m.list list) i first → Put first i (take m.mended mended) j second → Put second j (take m.certificate certificate) k third
        → Begins (Three (records_from s)) k third
    three_begin buffer h {i} {j} {k} {first} {second} {third} p q r =
        let x = records_from s in
        let t = more (more (more none x.list (put_as buffer 0 holds.list.front p)) x.mended (put_as first i holds.mended.front q)) x.certificate (put_as second j holds.certificate.front r) in
        let a : (x.list ++ x.mended) ++ x.certificate ≡ Three x = append_assoc x.list x.mended x.certificate in
        subst (λ (text : List ℕ). Begins text k third) a (begins {buffer = buffer} t (omega (arith, ap length a, three_fit b)))

    pub graded_bytes : {g : ℕ} → m.answer ≡ Grade g → Three (records_from s) ≡ printed (records_from s).answer (records_from s)
    graded_bytes f = rw (sym holds.answer ∙ f) refl

    pub refused-bytes : ((g : ℕ) → m.answer ≡ Grade g → ⊥) → refusal_line m.answer ≡ printed (records_from s).answer (records_from s)
    refused-bytes t = go m.answer t ∙ ap (λ (a : Answer). printed a (records_from s)) holds.answer
      where
        go : (a : Answer) → ((g : ℕ) → a ≡ Grade g → ⊥) → refusal_line a ≡ printed a (records_from s)
        go Accepted t = refl
        go (Grade g) t = absurd (t g refl)
        go (PlanFault r q) t = refl
        go (CertificateFault r q) t = refl
