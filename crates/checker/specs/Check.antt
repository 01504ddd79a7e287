-- The checker: a plan record and a certificate record in, an answer out.
use Rattle.std.specs.Prelude.{ℕ, List, length, drop}
use Rattle.record.specs.Read.{Read, Read.Got, Read.Refused, ended}
use Rattle.record.specs.declared.Answer.{Answer}
use Rattle.record.specs.declared.Answer.TheVariants.{Grade, PlanFault, CertificateFault}
use Rattle.connectivity.specs.Graph.{Graph, from_edges}
use Rattle.connectivity.specs.Certificate.{Certificate, grade}
use Rattle.reading.specs.Plan.{Plan, plan}
use Rattle.certificates.specs.Records.{certificate}
use Rattle.checker.specs.declared.Graded.{Graded}

-- the graph of a plan
abbrev pub plan_graph : Plan → Graph
plan_graph p = from_edges p.n p.edges

-- a certificate that was read whole gives its grade
abbrev pub on_certificate : Read Certificate → Answer
on_certificate (Got x next) = Grade (grade x)
on_certificate (Refused r q) = CertificateFault r q

unfoldable pub certificate_answer : Plan → List ℕ → Answer
certificate_answer p c = on_certificate (ended (certificate (plan_graph p)) c 0)

-- plan faults come before certificate faults
abbrev pub on_plan : Read Plan → List ℕ → Answer
on_plan (Got p next) c = certificate_answer p c
on_plan (Refused r q) c = PlanFault r q

-- THE CHECKER's answer to a plan record and a certificate record
unfoldable pub check_of : List ℕ → List ℕ → Answer
check_of p c = on_plan (ended plan p 0) c

-- the checking program's: a plan and, directly after it, a certificate; places count from each record's start
abbrev pub on_leading : Read Plan → List ℕ → Graded
on_leading (Got p next) s = record { answer = certificate_answer p (drop next s); n = p.n; m = length p.edges }
on_leading (Refused r q) s = record { answer = PlanFault r q; n = 0; m = 0 }

unfoldable pub grade_of : List ℕ → Graded
grade_of s = on_leading (plan s 0) s
