-- THE MAKER (document 01, with request 2 of document 02): what it answers, and what it leaves in the lent buffer; and how long a certificate is.
use Rattle.std.specs.Prelude.{ℕ, cond, List, [], ltb, length, get_or}
use Rattle.record.specs.Write.{overwritten}
use Rattle.record.specs.declared.Answer.{Answer}
use Rattle.record.specs.declared.Answer.TheVariants.{Accepted, Grade, PlanFault, CertificateFault}
use Rattle.reading.specs.Code.{whole_plan}
use Rattle.graph.specs.declared.GraphTable.{GraphTable}
use Rattle.construction.specs.Certificate.{certificate_numbers, certificate_record}
pub use Rattle.construction.specs.Certificate.{certificate_room}
use Rattle.certifier.specs.declared.Made.{Made}

-- the certificate of a graph, and its kind
abbrev pub certificate_of : GraphTable → List ℕ
certificate_of g = certificate_record g.rows g.n

abbrev pub kind_in : List ℕ → ℕ → ℕ
kind_in rows n = get_or (certificate_numbers rows n) 0 0

abbrev pub grade_made : GraphTable → ℕ
grade_made g = kind_in g.rows g.n

abbrev pub made : Answer → ℕ → Made
made answer length = record { answer = answer; length = length }

-- the answer where there is room: an accepted plan gets its grade and its certificate's length, a refused plan its fault
unfoldable pub length_by : Answer → GraphTable → Made
length_by Accepted g = made (Grade (grade_made g)) (length (certificate_of g))
length_by (Grade k) g = made (Grade k) 0
length_by (PlanFault r p) g = made (PlanFault r p) 0
length_by (CertificateFault r p) g = made (CertificateFault r p) 0

abbrev pub length_from : List ℕ → Made
length_from s = length_by (whole_plan s).answer (whole_plan s).plan.graph

-- what is written there: the certificate of an accepted plan, nothing for a refused one
unfoldable pub record_by : Answer → GraphTable → List ℕ
record_by Accepted g = certificate_of g
record_by (Grade k) g = []
record_by (PlanFault r p) g = []
record_by (CertificateFault r p) g = []

abbrev pub record_from : List ℕ → List ℕ
record_from s = record_by (whole_plan s).answer (whole_plan s).plan.graph

-- "Number 30 now means that the buffer is shorter than that certificate"
unfoldable pub fitted : List ℕ → Made → Made
fitted buffer m = cond (ltb (length buffer) m.length) (made (PlanFault 30 0) 0) m

abbrev pub made_from : List ℕ → List ℕ → Made
made_from s buffer = fitted buffer (length_from s)

-- the buffer then begins with what is written and keeps every other byte; where it is too short it keeps them all
unfoldable pub filled_by : List ℕ → List ℕ → List ℕ
filled_by buffer bytes = cond (ltb (length buffer) (length bytes)) buffer (overwritten buffer 0 bytes)

abbrev pub filled_from : List ℕ → List ℕ → List ℕ
filled_from s buffer = filled_by buffer (record_from s)
