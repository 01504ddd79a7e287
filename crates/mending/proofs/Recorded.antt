-- The record of a plan in an array, and its certificate. Assumes nothing.
use Prim.Native.Nat.{ℕ, ◌+◌, ◌/◌, ◌%◌, ◌<◌, ◌≤◌}
use mathlib.Core.List.{List, [], ◌∷◌, ◌++◌}
use mathlib.Core.Bool.{Bool, true, false}
use mathlib.Core.Path.{◌≡◌, refl, sym, ap, ◌∙◌}
use native.Mathlib.Omega.{arith}
use lib.Dec.{ltb}
use lib.ListN.{length, take, drop, replicate, length-replicate}
use lib.Seq.{take-append_seam}
use borrow.Author.Tests.{ltb-true, ltb-false}
use Rattle.record.specs.Read.{Bytes, Each}
use Rattle.record.specs.Number.{number_bytes, list_bytes, number_limit}
use Rattle.std.specs.Prelude.{Option, Some}
use Rattle.record.proofs.Lists.{bytes_cons, bytes_append}
use Rattle.record.proofs.Write.{one_byte, two_bytes}
use Rattle.graph.specs.Limits.{max_vertices}
use Rattle.graph.specs.Rows.{bare_rows}
use Rattle.reading.specs.Plan.{Plan, Allowed, EdgeAllowed, edge_bytes, plan_bytes}
use Rattle.reading.specs.Code.{plan_room}
use Rattle.reading.specs.declared.PlanTable.{PlanTable}
use Rattle.reading.proofs.EdgeTests.{proper-true}
use Rattle.reading.proofs.Lengths.{plan-short}
use Rattle.writing.specs.Write.{plan_of, written_plan, with_plan}
use Rattle.writing.proofs.RoundTrip.{written-whole}
use Rattle.certifier.specs.declared.Made.{Made}
use Rattle.certifier.specs.Made.{certificate_room, length_from, record_from, made_from, filled_from}
use Rattle.certifier.proofs.Room.{same_length, made-room}
use Rattle.certifier.proofs.Drafts.{length_most}
use Rattle.striking.specs.declared.Edges.{Edges}
use Rattle.mending.specs.Code.{plan_in}

-- A RECORD IS BYTES
no_bytes : Bytes []
no_bytes i = omega arith

number-bytes : (v : ℕ) → v < number_limit → Bytes (number_bytes v)
number-bytes v h = go (ltb v 128) refl
  where
    go : (y : Bool) → ltb v 128 ≡ y → Bytes (number_bytes v)
    go true e = let l : v < 128 = ltb-true _ _ e in rw (one_byte v l) (bytes_cons v [] (omega arith) no_bytes)
    go false e = let l : 128 ≤ v = ltb-false _ _ e in rw (two_bytes v l h) (bytes_cons (v % 128 + 128) (v / 128 ∷ []) (omega arith) (bytes_cons (v / 128) [] (omega arith) no_bytes))

edges-bytes : (n : ℕ) → n ≤ max_vertices → (before : ℕ × ℕ) (es : List (ℕ × ℕ)) → Each (EdgeAllowed n) (λ before e. e) before es → Bytes (list_bytes edge_bytes es)
unfolding Each list_bytes
edges-bytes n h before [] x = no_bytes
edges-bytes n h before (e ∷ es) x =
    let p = proper-true n e x.0.0 in
    bytes_append (edge_bytes e) (list_bytes edge_bytes es) (bytes_append (number_bytes e.0) (number_bytes e.1) (number-bytes e.0 (omega arith)) (number-bytes e.1 (omega arith)))
    (edges-bytes n h e es x.1)

pub plan-bytes : (p : Plan) → Allowed p → Bytes (plan_bytes p)
plan-bytes p a =
    bytes_append (number_bytes p.n) _ (number-bytes p.n (omega (arith, a.most)))
    (bytes_append (number_bytes (length p.edges)) _ (number-bytes (length p.edges) (omega (arith, a.few))) (edges-bytes p.n a.most (0, 0) p.edges a.each))

-- what was written of a plan by value in an array of zeros
module _ (n : ℕ) (x : Edges) (a : Allowed (plan_in n x)) where
  abbrev bytes : List ℕ
  bytes = plan_bytes (plan_in n x)

  abbrev zeros : List ℕ
  zeros = replicate plan_room 0

  abbrev table : PlanTable
  table = record { graph = record { n = n; d = 0; rows = bare_rows }; m = x.count; ends = x.ends }

  same : plan_of table ≡ plan_in n x
  unfolding plan_of
  same = refl

  whole : (written_plan zeros table ≡ Some (length (plan_bytes (plan_of table)))) × (with_plan zeros table ≡ plan_bytes (plan_of table) ++ drop (length (plan_bytes (plan_of table))) zeros)
  whole = written-whole table (rw same a) zeros (rw same (omega (arith, plan-short (plan_in n x) a, length-replicate {A = ℕ} plan_room 0)))

  module _ {w : Option ℕ} {out : List ℕ} (e : (w ≡ written_plan zeros table) × (out ≡ with_plan zeros table)) where
    pub record_length : w ≡ Some (length bytes)
    record_length = e.0 ∙ whole.0 ∙ rw same

    pub record_bytes : take (length bytes) out ≡ bytes
    record_bytes = rw (e.1 ∙ whole.1, same) (take-append_seam bytes (drop (length bytes) zeros))

-- the certificate of the plan's record, made in a buffer of zeros
pub certified : (p : Plan) → Allowed p → {m : Made} {out : List ℕ} → (m ≡ made_from (plan_bytes p) (replicate certificate_room 0)) × (out ≡ filled_from (plan_bytes p) (replicate certificate_room 0))
    → take m.length out ≡ record_from (plan_bytes p)
certified p b {m} {out} g =
    let s = plan_bytes p in
    let buffer = replicate certificate_room 0 in
    let r : (length_from s).length ≤ length buffer = omega (arith, length_most s (plan-bytes p b), length-replicate {A = ℕ} certificate_room 0) in
    let w = made-room s buffer r in
    let l : m.length ≡ length (record_from s) = ap (λ (x : Made). x.length) (g.0 ∙ w.0) ∙ sym (same_length s) in
    let o : out ≡ record_from s ++ drop (0 + length (record_from s)) buffer = g.1 ∙ w.1 in
    rw (l, o) (take-append_seam (record_from s) (drop (0 + length (record_from s)) buffer))
