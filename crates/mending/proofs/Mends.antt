-- What a mend answers and leaves in the three buffers, by what was decided and which of them has room. Assumes nothing.
use Prim.Native.Nat.{ℕ, ◌+◌, ◌<◌, ◌≤◌}
use mathlib.Core.List.{List, []}
use mathlib.Core.Bool.{Bool, true, false, cond}
use mathlib.Core.Logic.{◌⊎◌}
use mathlib.Core.Path.{◌≡◌, sym, ap, ◌∙◌}
use native.Mathlib.Omega.{arith}
use lib.Dec.{ltb}
use lib.ListN.{length}
use Rattle.std.specs.Prelude.{Ok, Err}
use Rattle.record.specs.Read.{Read, Read.Got, Read.Refused, ended}
use Rattle.record.specs.declared.Answer.{Answer}
use Rattle.record.specs.declared.Answer.TheVariants.{Grade, PlanFault}
use Rattle.record.proofs.Write.{overwritten-none}
use Rattle.graph.specs.Limits.{max_edges}
use Rattle.reading.specs.Plan.{Plan, plan}
use Rattle.mending.specs.declared.Draft.{Draft}
use Rattle.mending.specs.Mend.{list_of, Records, refusal, records_of, records_read, records_from, mend_records, Outcome, wrote, mend_from}
use Rattle.mending.specs.Code.{draft_in, decision}
use Rattle.mending.proofs.Fits.{mend_short, mend_room, one_short}

-- what was decided tells the records
record Told (x : Records) : Type 0 where
  fault : (a : Answer) → Err a ≡ decision x → x ≡ record { answer = a; list = []; mended = []; certificate = [] }
  draft : (d : Draft) → Ok d ≡ decision x → x ≡ record { answer = Grade 3; list = d.list.items; mended = d.mended.items; certificate = d.certificate.items }

refusal_told : (r q : ℕ) → Told (refusal r q)
refusal_told r q = record {
  fault = λ a e. let f : PlanFault r q ≡ a = cc in ap (λ (y : Answer). record { answer = y; list = []; mended = []; certificate = [] }) f;
  draft = λ d e. cc;
}

records_told : (p : Plan) → Told (records_of p)
unfolding records_of
records_told p = go (ltb max_edges (length p.edges + length (list_of p)))
  where
    go : (b : Bool) → Told (cond b (refusal 32 0) (mend_records p))
    go true = refusal_told 32 0
    go false = record {
      fault = λ a e. cc;
      draft = λ d e. let f : draft_in (mend_records p).list (mend_records p).mended (mend_records p).certificate ≡ d = cc in
          ap (λ (y : Draft). record { answer = Grade 3; list = y.list.items; mended = y.mended.items; certificate = y.certificate.items }) f;
    }

module _ (s list mended certificate : List ℕ) where
  told : Told (records_from s)
  unfolding records_read
  told = go (ended plan s 0)
    where
      go : (x : Read Plan) → Told (records_read x)
      go (Got p next) = records_told p
      go (Refused r q) = refusal_told r q

  -- a refused plan leaves all as it is
  abbrev pub refused : Answer → Outcome
  refused a = record { answer = record { answer = a; list = 0; mended = 0; certificate = 0 }; list = list; mended = mended; certificate = certificate }

  pub mend_refused : {a : Answer} → Err a ≡ decision (records_from s) → refused a ≡ mend_from s list mended certificate
  mend_refused {a} e =
      let x = told.fault a e in
      sym (mend_room s list mended certificate (rw x (omega arith)) (rw x (omega arith)) (rw x (omega arith)) ∙ ap (λ (y : Records). wrote y list mended certificate) x
      ∙ (λ i. record { answer = record { answer = a; list = 0; mended = 0; certificate = 0 }; list = overwritten-none list 0 i; mended = overwritten-none mended 0 i; certificate = overwritten-none certificate 0 i }))

  -- the three records that are lent to be written
  module _ {d : Draft} (e : Ok d ≡ decision (records_from s)) {f g h : List ℕ} (p : f ≡ d.list.items) (q : g ≡ d.mended.items) (r : h ≡ d.certificate.items) where
    x : records_from s ≡ record { answer = Grade 3; list = f; mended = g; certificate = h }
    x = rw (p, q, r) (told.draft d e)

    -- a buffer is too short
    pub mend_lacks : (length list < length f) ⊎ ((length mended < length g) ⊎ (length certificate < length h)) → refused (PlanFault 30 0) ≡ mend_from s list mended certificate
    mend_lacks k = sym (mend_short s list mended certificate (one_short s list mended certificate (rw x k)))

    -- all is written
    pub mend_writes : length f ≤ length list → length g ≤ length mended → length h ≤ length certificate
        → wrote (record { answer = Grade 3; list = f; mended = g; certificate = h }) list mended certificate ≡ mend_from s list mended certificate
    mend_writes a b c = sym (mend_room s list mended certificate (rw x a) (rw x b) (rw x c) ∙ ap (λ (y : Records). wrote y list mended certificate) x)
