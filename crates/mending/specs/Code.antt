-- What the private functions of this crate give.
use Rattle.std.specs.Prelude.{ℕ, ◌-◌, List, [], ◌∷◌, Bool, true, false, Result, Ok, Err}
use Rattle.reading.specs.Plan.{Plan, follows}
use Rattle.record.specs.declared.Answer.{Answer}
use Rattle.record.specs.declared.Answer.TheVariants.{Accepted, Grade, PlanFault, CertificateFault}
use Rattle.writing.specs.Write.{edges_from, edges_of}
use Rattle.striking.specs.declared.Edges.{Edges}
use Rattle.mending.specs.Mend.{Records}
use Rattle.mending.specs.declared.Draft.{Draft}

-- the edges of an array of m edges that are not taken yet, i being taken
abbrev pub edges_ahead : List ℕ → ℕ → ℕ → List (ℕ × ℕ)
edges_ahead ends i m = edges_from ends (m - i) i

-- the next edge of two lists is the first list's
abbrev pub takes_first : List (ℕ × ℕ) → List (ℕ × ℕ) → Bool
takes_first [] ms = false
takes_first (e ∷ es) [] = true
takes_first (e ∷ es) (m ∷ ms) = follows e m

-- the plan of n vertices with the edges of an array
abbrev pub plan_in : ℕ → Edges → Plan
plan_in n x = record { n = n; edges = edges_of x.ends x.count }

-- the three records
abbrev pub draft_in : List ℕ → List ℕ → List ℕ → Draft
draft_in list mended certificate = record { list = record { items = list }; mended = record { items = mended }; certificate = record { items = certificate } }

-- the records where there is a grade; each other answer is the refusal
abbrev pub by_answer : Answer → Draft → Result Draft Answer
by_answer (Grade k) d = Ok d
by_answer Accepted d = Err Accepted
by_answer (PlanFault r q) d = Err (PlanFault r q)
by_answer (CertificateFault r q) d = Err (CertificateFault r q)

abbrev pub decision : Records → Result Draft Answer
decision x = by_answer x.answer (draft_in x.list x.mended x.certificate)
