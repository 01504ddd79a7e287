-- What is written where there is room, and that arrays of the sizes that are named have room for every record. Assumes nothing.
use Prim.Native.Nat.{ℕ, ◌+◌, ◌≤◌, ◌<◌}
use mathlib.Core.List.{List}
use mathlib.Core.Bool.{Bool, true, false, cond, and-false}
use mathlib.Core.Path.{◌≡◌, refl, sym, subst}
use mathlib.Core.Logic.{◌⊎◌, inl, inr}
use native.Mathlib.Omega.{arith}
use lib.Dec.{leb, ltb}
use lib.ListN.{length}
use borrow.Author.Tests.{ltb-false, le-leb, lt-leb}
use Rattle.record.specs.Read.{Read, Read.Got, Read.Refused, Bytes, ended}
use Rattle.record.proofs.Laws.{ended-there}
use Rattle.graph.specs.Limits.{max_edges}
use Rattle.reading.specs.Plan.{Plan, plan, Allowed, plan_bytes}
use Rattle.reading.specs.Code.{plan_room}
use Rattle.reading.proofs.Plans.{plan-law}
use Rattle.reading.proofs.Lengths.{plan-short}
use Rattle.certifier.specs.Made.{certificate_room}
use Rattle.certifier.proofs.Room.{same_length}
use Rattle.certifier.proofs.Drafts.{length_most}
use Rattle.mending.specs.Mend.{list_of, list_plan, mended_plan, Records, refusal, records_of, records_read, records_from, mend_records, have_room, Outcome, wrote, too_short_outcome, mend_from}
use Rattle.mending.proofs.Recorded.{plan-bytes}
use Rattle.mending.proofs.Decided.{list_allowed, mended_allowed}
use Rattle.mending.proofs.Listed.{list_right}

module _ (s list mended certificate : List ℕ) where
  pub mend_short : have_room (records_from s) list mended certificate ≡ false → mend_from s list mended certificate ≡ too_short_outcome list mended certificate
  unfolding mend_from
  mend_short e = rw e

  pub mend_fits : have_room (records_from s) list mended certificate ≡ true → mend_from s list mended certificate ≡ wrote (records_from s) list mended certificate
  unfolding mend_from
  mend_fits e = rw e

  pub mend_room : length (records_from s).list ≤ length list → length (records_from s).mended ≤ length mended → length (records_from s).certificate ≤ length certificate
      → mend_from s list mended certificate ≡ wrote (records_from s) list mended certificate
  mend_room a b c = mend_fits (rw (le-leb _ _ a, le-leb _ _ b, le-leb _ _ c))

  pub one_short : (length list < length (records_from s).list) ⊎ ((length mended < length (records_from s).mended) ⊎ (length certificate < length (records_from s).certificate)) → have_room (records_from s) list mended certificate ≡ false
  one_short (inl h) = rw (lt-leb (length (records_from s).list) (length list) h)
  one_short (inr (inl h)) = rw (lt-leb (length (records_from s).mended) (length mended) h) (and-false (leb (length (records_from s).list) (length list)))
  one_short (inr (inr h)) =
      rw (lt-leb (length (records_from s).certificate) (length certificate) h, and-false (leb (length (records_from s).mended) (length mended))) (and-false (leb (length (records_from s).list) (length list)))

  -- all is written, or a buffer is too short
  pub mend_either : (Q : Outcome → Type 0) → Q (too_short_outcome list mended certificate) → Q (wrote (records_from s) list mended certificate) → Q (mend_from s list mended certificate)
  mend_either Q short wide = go (have_room (records_from s) list mended certificate) refl
    where
      go : (b : Bool) → have_room (records_from s) list mended certificate ≡ b → Q (mend_from s list mended certificate)
      go true e = subst Q (sym (mend_fits e)) wide
      go false e = subst Q (sym (mend_short e)) short

-- no record is longer than these
abbrev Fit : Records → Type 0
Fit x = (length x.list ≤ plan_room) × (length x.mended ≤ plan_room) × (length x.certificate ≤ certificate_room)

plan-fits : (p : Plan) → Allowed p → Fit (records_of p)
unfolding records_of
plan-fits p a = go (ltb max_edges (length p.edges + length (list_of p))) refl
  where
    go : (b : Bool) → ltb max_edges (length p.edges + length (list_of p)) ≡ b → Fit (cond b (refusal 32 0) (mend_records p))
    go true e = (omega arith, omega arith, omega arith)
    go false e =
        let h : length p.edges + length (list_of p) ≤ max_edges = ltb-false _ _ e in
        let m = mended_allowed list_right p a h in
        (plan-short (list_plan p) (list_allowed list_right p a (omega arith)), plan-short (mended_plan p) m, omega (arith, same_length (plan_bytes (mended_plan p)), length_most (plan_bytes (mended_plan p)) (plan-bytes (mended_plan p) m)))

pub records_fit : (s : List ℕ) → Bytes s → Fit (records_from s)
unfolding records_read
records_fit s b = go (ended plan s 0) refl
  where
    go : (y : Read Plan) → ended plan s 0 ≡ y → Fit (records_read y)
    go (Got p next) e = plan-fits p (ended-there plan-law b e).1
    go (Refused r q) e = (omega arith, omega arith, omega arith)
