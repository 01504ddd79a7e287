-- WHICH ANSWERS documents 01 and 02 list for each call: its cases, the numbers of its refusals, and that a place lies within the record.
use Rattle.std.specs.Prelude.{ℕ, ◌≤◌, List, [], ◌∷◌, Bool, true, false, ◌≡◌}
use Rattle.record.specs.declared.Answer.{Answer}
use Rattle.record.specs.declared.Answer.TheVariants.{Accepted, Grade, PlanFault, CertificateFault}
use Rattle.connectivity.specs.Lists.{In}

-- whether a call has an accepted case without a grade, which grades it gives, and the numbers of a plan's and of a certificate's faults
pub record Answers : Type 0 where
  pub accepts : Bool
  pub grades : List ℕ
  pub plan : List ℕ
  pub certificate : List ℕ

abbrev pub answers : Bool → List ℕ → List ℕ → List ℕ → Answers
answers accepts grades plan certificate = record { accepts = accepts; grades = grades; plan = plan; certificate = certificate }

-- an answer is one of them, beside a plan record and a certificate record, or part of one, of these lengths
abbrev pub OneOf : Answers → ℕ → ℕ → Answer → Type 0
OneOf l m c Accepted = l.accepts ≡ true
OneOf l m c (Grade k) = In k l.grades
OneOf l m c (PlanFault r p) = In r l.plan × (p ≤ m)
OneOf l m c (CertificateFault r p) = In r l.certificate × (p ≤ c)

-- the numbers of a plan's faults but for 7, and all of a certificate's
abbrev pub in_plan : List ℕ
in_plan = 1 ∷ 2 ∷ 33 ∷ 3 ∷ 4 ∷ 5 ∷ 6 ∷ []

abbrev pub in_certificate : List ℕ
in_certificate = 1 ∷ 2 ∷ 33 ∷ 7 ∷ 8 ∷ 9 ∷ 20 ∷ 21 ∷ 22 ∷ 23 ∷ 24 ∷ 25 ∷ 26 ∷ 27 ∷ 28 ∷ 29 ∷ []

abbrev pub all_grades : List ℕ
all_grades = 0 ∷ 1 ∷ 2 ∷ 3 ∷ []

-- reading a plan, checking, the checking program (7 is never a plan's there), making, and asking how long a certificate is
abbrev pub reading_answers : Answers
reading_answers = answers true [] (7 ∷ in_plan) []

abbrev pub checking_answers : Answers
checking_answers = answers false all_grades (7 ∷ in_plan) in_certificate

abbrev pub program_answers : Answers
program_answers = answers false all_grades in_plan in_certificate

abbrev pub making_answers : Answers
making_answers = answers false all_grades (7 ∷ 30 ∷ in_plan) []

abbrev pub measuring_answers : Answers
measuring_answers = answers false all_grades (7 ∷ in_plan) []

-- mending
abbrev pub mending_answers : Answers
mending_answers = answers false (3 ∷ []) (7 ∷ 30 ∷ 32 ∷ in_plan) []

-- the session's calls
abbrev pub opening_answers : Answers
opening_answers = answers true [] (7 ∷ 29 ∷ in_plan) []

abbrev pub start_answers : Answers
start_answers = answers true [] [] (1 ∷ 2 ∷ 33 ∷ 9 ∷ 20 ∷ 24 ∷ 25 ∷ 26 ∷ 31 ∷ [])

abbrev pub path_answers : Answers
path_answers = answers true [] [] (1 ∷ 2 ∷ 33 ∷ 9 ∷ 24 ∷ 25 ∷ 26 ∷ 27 ∷ 31 ∷ [])

-- "its record at fault is the certificate"
abbrev pub back_answers : Answers
back_answers = answers true [] [] (31 ∷ [])

abbrev pub closing_answers : Answers
closing_answers = answers false (3 ∷ []) [] (28 ∷ 31 ∷ [])
