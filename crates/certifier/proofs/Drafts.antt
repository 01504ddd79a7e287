-- What the maker answers and leaves in the buffer. Assumes nothing.
use Prim.Native.Nat.{ℕ, ◌≤◌, ◌<◌}
use mathlib.Core.Path.{◌≡◌, refl, sym, ap, subst, ◌∙◌}
use mathlib.Core.List.{List, []}
use native.Mathlib.Omega.{arith}
use Rattle.record.proofs.Faults.{NotAccepted}
use lib.ListN.{length, get_or, take}
use Rattle.std.specs.Prelude.{Ok, Err}
use Rattle.record.specs.Number.{number_bytes, list_bytes}
use Rattle.record.specs.Read.{Bytes}
use Rattle.record.specs.Write.{overwritten}
use Rattle.record.specs.declared.Answer.{Answer}
use Rattle.record.specs.declared.Answer.TheVariants.{Accepted, Grade, PlanFault, CertificateFault}
use Rattle.reading.specs.Code.{whole_plan, head_of, rows_left}
use Rattle.graph.specs.Rows.{bare_rows}
use Rattle.graph.specs.declared.GraphTable.{GraphTable}
use Rattle.reading.specs.declared.PlanHead.{PlanHead}
use Rattle.reading.proofs.Results.{ok_told, err_told}
use Rattle.reading.proofs.Plans.{accepted, accepted_graph, whole_arrays}
use Rattle.certificates.proofs.Accepted.{kind-low}
use Rattle.construction.specs.Certificate.{certificate_numbers}
use Rattle.construction.proofs.CertificateLaws.{Constructed}
use Rattle.construction.proofs.PlanCertificates.{plan-certified}
use Rattle.record.proofs.Write.{overwritten-none}
use Rattle.search.proofs.Placed.{padded-at}
use Rattle.detours.proofs.Filled.{Filled, filled_take}
use Rattle.certifier.specs.declared.Made.{Made}
use Rattle.certifier.specs.declared.Numbers.{Numbers}
use Rattle.certifier.specs.Code.{number_room, numbers_of, Small}
use Rattle.certifier.specs.Made.{certificate_room, made, length_by, length_from, record_by, record_from, made_from, filled_from, certificate_of, grade_made}
use Rattle.certifier.proofs.Room.{same_length, made-room, made_none}

-- ---- a fault

-- a fault is answered without a length, and nothing is written
fault_by : (a : Answer) (g : GraphTable) → NotAccepted a → (length_by a g ≡ made a 0) × (record_by a g ≡ [])
unfolding length_by record_by
fault_by Accepted g i = absurd (i refl)
fault_by (Grade k) g i = (refl, refl)
fault_by (PlanFault n p) g i = (refl, refl)
fault_by (CertificateFault n p) g i = (refl, refl)

pub made_fault : (s buffer : List ℕ) {f : Answer} → Err f ≡ head_of (whole_plan s) → (made f 0 ≡ made_from s buffer) × (buffer ≡ filled_from s buffer)
made_fault s buffer e =
    let k = err_told (whole_plan s).answer _ e in
    let r = fault_by (whole_plan s).answer (whole_plan s).plan.graph k.1 in
    let w = made-room s buffer (omega (arith, ap (λ (m : Made). m.length) r.0)) in
    (ap (λ (a : Answer). made a 0) (sym k.0) ∙ sym r.0 ∙ sym w.0, sym (w.1 ∙ ap (overwritten buffer 0) r.1 ∙ overwritten-none buffer 0))

-- the first number of an array that has the numbers
pub first_number : (l : List ℕ) {c : Numbers} → c ≡ numbers_of l → get_or c.items 0 0 ≡ get_or l 0 0
first_number l e = ap (λ (y : Numbers). get_or y.items 0 0) e ∙ padded-at number_room l 0

-- ---- what is written

accepted_by : (a : Answer) (g : GraphTable) → a ≡ Accepted → (length_by a g ≡ made (Grade (grade_made g)) (length (certificate_of g))) × (record_by a g ≡ certificate_of g)
unfolding length_by record_by
accepted_by a g e = rw e (refl, refl)

short_by : (a : Answer) (g : GraphTable) → (a ≡ Accepted → Constructed g.rows g.n) → (length_by a g).length ≤ certificate_room
unfolding length_by
short_by Accepted g w = (w refl).short
short_by (Grade k) g w = omega arith
short_by (PlanFault n p) g w = omega arith
short_by (CertificateFault n p) g w = omega arith

module _ (s : List ℕ) (bytes : Bytes s) where
  read_certified : (whole_plan s).answer ≡ Accepted → Constructed (whole_plan s).plan.graph.rows (whole_plan s).plan.graph.n
  read_certified f =
      let p = accepted s bytes f in
      subst (λ (g : GraphTable). Constructed g.rows g.n) (sym (accepted_graph s p.0 p.3)) (plan-certified p.0 p.1)

  -- NO CERTIFICATE IS LONGER than the room that is always enough
  pub length_most : (length_from s).length ≤ certificate_room
  length_most = short_by (whole_plan s).answer (whole_plan s).plan.graph read_certified

  -- the numbers of an accepted plan, and the part of their array that is counted and written
  module _ {head : PlanHead} (e : Ok head ≡ head_of (whole_plan s)) {rows : List ℕ} {c : Numbers} (left : rows ≡ rows_left bare_rows s) (k : c ≡ numbers_of (certificate_numbers rows head.n)) {list : List ℕ}
      (l : list ≡ take c.count c.items) where
    abbrev g : GraphTable
    g = (whole_plan s).plan.graph

    abbrev numbers : List ℕ
    numbers = certificate_numbers g.rows g.n

    decided : ((whole_plan s).answer ≡ Accepted) × (c ≡ numbers_of numbers)
    decided = let t = ok_told (whole_plan s).answer e in (t.0, k ∙ (λ i. numbers_of (certificate_numbers ((left ∙ (whole_arrays s t.0).1) i) (t.1 i).n)))

    certified : Constructed g.rows g.n
    certified = read_certified decided.0

    part : list ≡ numbers
    part =
        let f : Filled number_room c.items c.count numbers = record { array = ap (λ (x : Numbers). x.items) decided.1; short = omega (arith, certified.few); size = ap (λ (x : Numbers). x.count) decided.1 } in
        l ∙ filled_take f

    part_bytes : list_bytes number_bytes list ≡ record_from s
    part_bytes = ap (list_bytes number_bytes) part ∙ sym (accepted_by (whole_plan s).answer (whole_plan s).plan.graph decided.0).1

    pub part_low : length list ≤ number_room
    part_low = omega (arith, ap length part, certified.few)

    first : get_or c.items 0 0 ≡ grade_made g
    first = first_number numbers decided.1

    pub grade_low : get_or c.items 0 0 ≤ 3
    grade_low = omega (arith, first, certified.grade, kind-low certified.certificate)

    module _ {n : ℕ} (j : n ≡ length (list_bytes number_bytes list)) where
      size : n ≡ (length_from s).length
      size = j ∙ ap length part_bytes ∙ same_length s

      told : made (Grade (get_or c.items 0 0)) n ≡ length_from s
      told =
          let r = accepted_by (whole_plan s).answer (whole_plan s).plan.graph decided.0 in
          rw first (ap (made (Grade (grade_made g))) (size ∙ ap (λ (m : Made). m.length) r.0)) ∙ sym r.0

      module _ (buffer : List ℕ) where
        pub made-short : length buffer < n → (made (PlanFault 30 0) 0 ≡ made_from s buffer) × (buffer ≡ filled_from s buffer)
        made-short h = let w = made_none s buffer (omega (arith, size)) in (sym w.0, sym w.1)

        module _ (h : n ≤ length buffer) where
          pub lent_room : (length (list_bytes number_bytes list) ≤ length buffer) × Small list
          lent_room = (omega arith, subst Small (sym part) certified.small)

          pub made-done : {out : List ℕ} → out ≡ overwritten buffer 0 (list_bytes number_bytes list) → (made (Grade (get_or c.items 0 0)) n ≡ made_from s buffer) × (out ≡ filled_from s buffer)
          made-done k =
              let w = made-room s buffer (omega (arith, size)) in
              (told ∙ sym w.0, k ∙ ap (overwritten buffer 0) part_bytes ∙ sym w.1)
