-- REQUEST 2 of document 02, buffers of the length needed: how long a certificate is, what `certificate_length` answers, and what does not change.
use Rattle.std.specs.Prelude.{ℕ, ◌+◌, ◌≤◌, ◌<◌, List, cond, ◌≡◌, ◌↔◌, ltb, length}
use Rattle.record.specs.Read.{Bytes}
use Rattle.record.specs.Number.{number_bytes, list_bytes}
use Rattle.record.specs.Write.{overwritten}
use Rattle.record.specs.declared.Answer.{Answer}
use Rattle.record.specs.declared.Answer.TheVariants.{Accepted, Grade, PlanFault, CertificateFault}
use Rattle.certificates.specs.Lengths.{record_numbers, number_count, wide}
use Rattle.graph.specs.declared.GraphTable.{GraphTable}
use Rattle.reading.specs.Code.{whole_plan}
use Rattle.checker.specs.Check.{plan_graph, check_of}
use Rattle.certifier.specs.declared.Made.{Made}
use Rattle.certifier.specs.Made.{certificate_of, grade_made, made, length_from, made_from, filled_from}
use Rattle.claims.specs.Certified.{Certified}
use Rattle.claims.specs.Earlier as earlier
use Rattle.claims.specs.Numbers.{made_before}
use Rattle.claims.specs.Demands.{Writes}

-- Every accepted certificate, whoever wrote it: its record is that of its numbers; they are as many as document 02 says for its kind; and
-- its bytes are that many, and one more for each number of 128 or more.
pub record Counted (P C : List ℕ) (k : ℕ) (c : Certified P C k) : Type 0 where
  pub numbers : C ≡ list_bytes number_bytes (record_numbers c.certificate)
  pub count : length (record_numbers c.certificate) ≡ number_count (plan_graph c.plan) c.certificate
  pub bytes : length C ≡ number_count (plan_graph c.plan) c.certificate + wide (record_numbers c.certificate)

abbrev pub CertificatesCounted : Type 0
CertificatesCounted = (P C : List ℕ) (k : ℕ) (c : Certified P C k) → Counted P C k c

-- So every certificate that the maker writes.
abbrev pub MakersCounted : Type 0
MakersCounted = (P buffer : List ℕ) → Bytes P → (x : Writes P buffer) → (c : Certified P x.certificate x.grade) × Counted P x.certificate x.grade c

-- `certificate_length` answers what the maker answers where there is room; a plan's fault where the plan has one, and no other. A shorter buffer
-- is refused by 30 at 0 and keeps every byte; a buffer of 0 bytes is one, and beside an accepted plan it is too short, since every certificate has
-- a byte. A buffer of just that length is filled whole with the certificate.
pub record Measured (P : List ℕ) : Type 0 where
  pub room : (buffer : List ℕ) → (length_from P).length ≤ length buffer → made_from P buffer ≡ length_from P
  pub too_short : (buffer : List ℕ) → length buffer < (length_from P).length → (made_from P buffer ≡ made (PlanFault 30 0) 0) × (filled_from P buffer ≡ buffer)
  pub faults : (r q : ℕ) → ((length_from P).answer ≡ PlanFault r q) ↔ ((whole_plan P).answer ≡ PlanFault r q)
  pub some : (whole_plan P).answer ≡ Accepted → 0 < (length_from P).length
  pub exactly : (whole_plan P).answer ≡ Accepted → (buffer : List ℕ) → length buffer ≡ (length_from P).length
      → (length (filled_from P buffer) ≡ (length_from P).length) × (check_of P (filled_from P buffer) ≡ (length_from P).answer)

abbrev pub LengthsMeasured : Type 0
LengthsMeasured = (P : List ℕ) → Bytes P → Measured P

-- The maker of the editions before, from what reading the plan answered there: for an accepted plan 30 at 0 where the buffer has less than 1,536 bytes. Its
-- certificate was `certificateOf`, which did not move.
abbrev pub earlier_made : List ℕ → Answer → GraphTable → Made
earlier_made buffer Accepted g = cond (ltb (length buffer) 1536) (made (PlanFault 30 0) 0) (made (Grade (grade_made g)) (length (certificate_of g)))
earlier_made buffer (Grade k) g = made (Grade k) 0
earlier_made buffer (PlanFault r p) g = made (PlanFault r p) 0
earlier_made buffer (CertificateFault r p) g = made (CertificateFault r p) 0

abbrev pub earlier_filled : List ℕ → Answer → GraphTable → List ℕ
earlier_filled buffer Accepted g = cond (ltb (length buffer) 1536) buffer (overwritten buffer 0 (certificate_of g))
earlier_filled buffer (Grade k) g = buffer
earlier_filled buffer (PlanFault r p) g = buffer
earlier_filled buffer (CertificateFault r p) g = buffer

-- Unless those editions gave 30, the maker answers what they answered, but that 33 was 2 (request 7), and leaves in the buffer what they left.
abbrev pub EarlierKept : List ℕ → List ℕ → Answer → GraphTable → Type 0
EarlierKept P buffer a g =
    ((q : ℕ) → ¬ ((earlier_made buffer a g).answer ≡ PlanFault 30 q)) → (made_before (made_from P buffer) ≡ earlier_made buffer a g) × (filled_from P buffer ≡ earlier_filled buffer a g)

abbrev pub BytesStay : Type 0
BytesStay = (P : List ℕ) → Bytes P → (buffer : List ℕ) → EarlierKept P buffer (earlier.whole_plan P).answer (earlier.whole_plan P).plan.graph
