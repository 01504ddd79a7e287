-- The starred barns and plans of document 01, with the one that request 1 changes, and records of requests 1 and 7, with their answers; and sessions of requests 4 and 7 with what they are told.
use Rattle.std.specs.Prelude.{ℕ, List, [], ◌∷◌, ◌++◌, ◌≡◌}
use Rattle.record.specs.declared.Answer.{Answer}
use Rattle.record.specs.declared.Answer.TheVariants.{Accepted, Grade, PlanFault, CertificateFault}
use Rattle.checker.specs.Check.{check_of}
use Rattle.gradeline.specs.Line.{grade_line}
use Rattle.claims.specs.Session.{State, open_call}
use Rattle.claims.specs.Calls.{Call, Call.start, Call.path, Call.back, Call.close, called_on}

pub record Example : Type 0 where
  pub plan : List ℕ
  pub certificate : List ℕ
  pub answer : Answer

abbrev pub example : List ℕ → List ℕ → Answer → Example
example p c a = record { plan = p; certificate = c; answer = a }

-- all ten cables on five boxes
abbrev pub complete5 : List ℕ
complete5 = 5 ∷ 10 ∷ 0 ∷ 1 ∷ 0 ∷ 2 ∷ 0 ∷ 3 ∷ 0 ∷ 4 ∷ 1 ∷ 2 ∷ 1 ∷ 3 ∷ 1 ∷ 4 ∷ 2 ∷ 3 ∷ 2 ∷ 4 ∷ 3 ∷ 4 ∷ []

abbrev pub plan_b : List ℕ
plan_b = 4 ∷ 5 ∷ 0 ∷ 1 ∷ 0 ∷ 2 ∷ 0 ∷ 3 ∷ 1 ∷ 2 ∷ 1 ∷ 3 ∷ []

-- barn A
abbrev pub example_a : Example
example_a =
    example (4 ∷ 6 ∷ 0 ∷ 1 ∷ 0 ∷ 2 ∷ 0 ∷ 3 ∷ 1 ∷ 2 ∷ 1 ∷ 3 ∷ 2 ∷ 3 ∷ [])
    (3 ∷ 0 ∷ 1 ∷ 2 ∷ 3 ∷ 2 ∷ 0 ∷ 1 ∷ 2 ∷ 0 ∷ 2 ∷ 2 ∷ 0 ∷ 3 ∷ 2 ∷ 1 ∷ 2 ∷ 2 ∷ 1 ∷ 3 ∷ 2 ∷ 2 ∷ 3 ∷ []) (Grade 3)

abbrev pub starred : List Example
starred =
    example_a ∷
    -- B
    example plan_b (2 ∷ 0 ∷ 1 ∷ 2 ∷ 3 ∷ 0 ∷ 1 ∷ 2 ∷ 3 ∷ 0 ∷ 3 ∷ 1 ∷ 1 ∷ 2 ∷ []) (Grade 2) ∷
    -- C: B with kind 3
    example plan_b (3 ∷ 0 ∷ 1 ∷ 2 ∷ 3 ∷ 0 ∷ 1 ∷ 2 ∷ 3 ∷ 0 ∷ 3 ∷ 1 ∷ 1 ∷ 2 ∷ []) (CertificateFault 29 0) ∷
    -- D
    example (4 ∷ 3 ∷ 0 ∷ 1 ∷ 1 ∷ 2 ∷ 2 ∷ 3 ∷ []) (1 ∷ 1 ∷ 0 ∷ 1 ∷ 0 ∷ 2 ∷ 1 ∷ 3 ∷ 2 ∷ 1 ∷ 0 ∷ []) (Grade 1) ∷
    -- E, F
    example (4 ∷ 0 ∷ []) (0 ∷ 1 ∷ 0 ∷ []) (Grade 0) ∷
    example (4 ∷ 0 ∷ []) (0 ∷ 0 ∷ []) (CertificateFault 22 1) ∷
    -- G, H
    example complete5
    (3 ∷ 0 ∷ 1 ∷ 2 ∷ 3 ∷ 3 ∷ 0 ∷ 4 ∷ 1 ∷ 2 ∷ 0 ∷ 2 ∷ 2 ∷ 0 ∷ 3 ∷ 2 ∷ 1 ∷ 2 ∷ 2 ∷ 1 ∷ 3 ∷ 2 ∷ 2 ∷ 3 ∷ 2 ∷ 4 ∷ 2 ∷ 2 ∷ 4 ∷ 3 ∷ 2 ∷ 0 ∷ 1 ∷ []) (Grade 3) ∷
    example complete5
    (3 ∷ 0 ∷ 1 ∷ 2 ∷ 3 ∷ 3 ∷ 0 ∷ 4 ∷ 1 ∷ 2 ∷ 0 ∷ 2 ∷ 2 ∷ 0 ∷ 3 ∷ 2 ∷ 1 ∷ 2 ∷ 2 ∷ 1 ∷ 3 ∷ 2 ∷ 2 ∷ 3 ∷ 2 ∷ 0 ∷ 1 ∷ []) (CertificateFault 27 24) ∷
    -- I
    example (5 ∷ 7 ∷ 0 ∷ 2 ∷ 0 ∷ 3 ∷ 0 ∷ 4 ∷ 1 ∷ 2 ∷ 1 ∷ 3 ∷ 1 ∷ 4 ∷ 2 ∷ 3 ∷ [])
    (3 ∷ 0 ∷ 1 ∷ 2 ∷ 3 ∷ 3 ∷ 0 ∷ 4 ∷ 1 ∷ 2 ∷ 0 ∷ 2 ∷ 2 ∷ 0 ∷ 3 ∷ 2 ∷ 1 ∷ 2 ∷ 2 ∷ 1 ∷ 3 ∷ 2 ∷ 2 ∷ 3 ∷ []) (CertificateFault 28 24) ∷
    -- the starred plans
    example [] [] (PlanFault 1 0) ∷
    example (132 ∷ 0 ∷ []) [] (PlanFault 2 0) ∷
    -- document 01 has 6 at 4 here; by request 1 of document 02 it is a good plan, of figure 0
    example (4 ∷ 2 ∷ 0 ∷ 1 ∷ 0 ∷ 1 ∷ []) (0 ∷ 2 ∷ 0 ∷ 1 ∷ []) (Grade 0) ∷ []

-- request 1 of document 02: A, B and C with the cable 0 1 doubled (C has then six cables, as many as n + 2, and still five pairs), and a cable
-- before its predecessor
abbrev pub doubled_b : List ℕ
doubled_b = 4 ∷ 6 ∷ 0 ∷ 1 ∷ 0 ∷ 1 ∷ 0 ∷ 2 ∷ 0 ∷ 3 ∷ 1 ∷ 2 ∷ 1 ∷ 3 ∷ []

abbrev pub doubled : List Example
doubled =
    example (4 ∷ 7 ∷ 0 ∷ 1 ∷ 0 ∷ 1 ∷ 0 ∷ 2 ∷ 0 ∷ 3 ∷ 1 ∷ 2 ∷ 1 ∷ 3 ∷ 2 ∷ 3 ∷ []) example_a.certificate (Grade 3) ∷
    example doubled_b (2 ∷ 0 ∷ 1 ∷ 2 ∷ 3 ∷ 0 ∷ 1 ∷ 2 ∷ 3 ∷ 0 ∷ 3 ∷ 1 ∷ 1 ∷ 2 ∷ []) (Grade 2) ∷
    example doubled_b (3 ∷ 0 ∷ 1 ∷ 2 ∷ 3 ∷ 0 ∷ 1 ∷ 2 ∷ 3 ∷ 0 ∷ 3 ∷ 1 ∷ 1 ∷ 2 ∷ []) (CertificateFault 29 0) ∷
    example (4 ∷ 2 ∷ 0 ∷ 2 ∷ 0 ∷ 1 ∷ []) [] (PlanFault 6 4) ∷ []

-- request 7 of document 02: numbers that go on after their second byte, at a record's end too, beside padded ones and one that the record's end cuts; the plan's n and m, and in certificates of
-- each kind the kind, the side's count, a box of a pair, an ear's length, and a box of a start path
abbrev pub foreign : List Example
foreign =
    example (132 ∷ 128 ∷ []) [] (PlanFault 33 0) ∷
    example (132 ∷ []) [] (PlanFault 1 1) ∷
    example (4 ∷ 128 ∷ 255 ∷ 0 ∷ []) [] (PlanFault 33 1) ∷
    example (4 ∷ 128 ∷ 0 ∷ []) [] (PlanFault 2 1) ∷
    example (4 ∷ 0 ∷ []) (128 ∷ 128 ∷ 1 ∷ 0 ∷ []) (CertificateFault 33 0) ∷
    example (4 ∷ 0 ∷ []) (0 ∷ 129 ∷ 0 ∷ 0 ∷ []) (CertificateFault 2 1) ∷
    example (4 ∷ 0 ∷ []) (0 ∷ 129 ∷ 129 ∷ 0 ∷ []) (CertificateFault 33 1) ∷
    example (4 ∷ 3 ∷ 0 ∷ 1 ∷ 1 ∷ 2 ∷ 2 ∷ 3 ∷ []) (1 ∷ 1 ∷ 0 ∷ 1 ∷ 128 ∷ 200 ∷ []) (CertificateFault 33 4) ∷
    example plan_b (2 ∷ 0 ∷ 1 ∷ 2 ∷ 131 ∷ 128 ∷ []) (CertificateFault 33 4) ∷
    example example_a.plan (3 ∷ 0 ∷ 1 ∷ 2 ∷ 3 ∷ 2 ∷ 0 ∷ 129 ∷ 0 ∷ []) (CertificateFault 2 7) ∷
    example example_a.plan (3 ∷ 0 ∷ 1 ∷ 2 ∷ 3 ∷ 2 ∷ 0 ∷ 129 ∷ 128 ∷ []) (CertificateFault 33 7) ∷ []

-- the checker answers each as said
abbrev pub AllAnswered : List Example → Type 0
AllAnswered [] = Unit {0}
AllAnswered (b ∷ l) = (check_of b.plan b.certificate ≡ b.answer) × AllAnswered l

-- the line `boxes 4 cables 6 grade 3`
abbrev pub barnALine : List ℕ
barnALine =
    98 ∷ 111 ∷ 120 ∷ 101 ∷ 115 ∷ 32 ∷ 52 ∷ 32 ∷ 99 ∷ 97 ∷ 98 ∷ 108 ∷ 101 ∷ 115 ∷ 32 ∷ 54 ∷ 32 ∷ 103 ∷ 114 ∷ 97 ∷ 100 ∷ 101 ∷ 32 ∷ 51 ∷ 10 ∷ []

-- the checking program prints it for barn A
abbrev pub BarnAPrinted : Type 0
BarnAPrinted = grade_line (example_a.plan ++ example_a.certificate) ≡ barnALine

-- the mistake that document 01 names, "taking 0 4 1 beside the link 0 1 (27 in a five-box plan with every cable)": the start has the link 0 1
abbrev pub beside_link : Example
beside_link =
    example complete5
    (3 ∷ 0 ∷ 1 ∷ 2 ∷ 3 ∷ 2 ∷ 0 ∷ 1 ∷ 2 ∷ 0 ∷ 2 ∷ 2 ∷ 0 ∷ 3 ∷ 2 ∷ 1 ∷ 2 ∷ 2 ∷ 1 ∷ 3 ∷ 2 ∷ 2 ∷ 3 ∷ 3 ∷ 0 ∷ 4 ∷ 1 ∷ 2 ∷ 2 ∷ 4 ∷ 2 ∷ 3 ∷ 4 ∷ []) (CertificateFault 27 23)

-- request 4: barn G's plan in a session whose start runs from 0 over 4 to 1. Taking back is refused before a start and right after it. 0 1 is refused beside that
-- link, good once 2 4 has split it, and refused again after both are taken back: the link is whole, and 4 inside it. There is no third path to take
-- back. After the closing the last path is taken back, and taken the other way round.
abbrev pub told : State → List Call → List Answer
told z [] = []
told z (c ∷ cs) = (called_on z c).answer ∷ told (called_on z c).state cs

abbrev pub BackTold : Type 0
BackTold = told (open_call complete5).state (
    back ∷ start (0 ∷ 1 ∷ 2 ∷ 3 ∷ 3 ∷ 0 ∷ 4 ∷ 1 ∷ 2 ∷ 0 ∷ 2 ∷ 2 ∷ 0 ∷ 3 ∷ 2 ∷ 1 ∷ 2 ∷ 2 ∷ 1 ∷ 3 ∷ 2 ∷ 2 ∷ 3 ∷ []) ∷ back
    ∷ path (2 ∷ 0 ∷ 1 ∷ []) ∷ path (2 ∷ 2 ∷ 4 ∷ []) ∷ path (2 ∷ 0 ∷ 1 ∷ []) ∷ back ∷ back ∷ back ∷ path (2 ∷ 0 ∷ 1 ∷ [])
    ∷ path (2 ∷ 3 ∷ 4 ∷ []) ∷ path (2 ∷ 0 ∷ 1 ∷ []) ∷ path (2 ∷ 2 ∷ 4 ∷ []) ∷ close ∷ back ∷ close ∷ path (2 ∷ 4 ∷ 2 ∷ []) ∷ close ∷ [])
    ≡ CertificateFault 31 0 ∷ Accepted ∷ CertificateFault 31 0
    ∷ CertificateFault 27 0 ∷ Accepted ∷ Accepted ∷ Accepted ∷ Accepted ∷ CertificateFault 31 0 ∷ CertificateFault 27 0
    ∷ Accepted ∷ Accepted ∷ Accepted ∷ Grade 3 ∷ Accepted ∷ CertificateFault 31 0 ∷ Accepted ∷ Grade 3 ∷ []

-- request 7 in a session, on barn G's plan: a start and a path, each with a number that goes on after its second byte and with a padded one; refused, they may be tried again
abbrev pub ForeignTold : Type 0
ForeignTold = told (open_call complete5).state (
    start (0 ∷ 1 ∷ 130 ∷ 130 ∷ []) ∷ start (0 ∷ 1 ∷ 130 ∷ 0 ∷ []) ∷ start (0 ∷ 1 ∷ 2 ∷ 3 ∷ 3 ∷ 0 ∷ 4 ∷ 1 ∷ 2 ∷ 0 ∷ 2 ∷ 2 ∷ 0 ∷ 3 ∷ 2 ∷ 1 ∷ 2 ∷ 2 ∷ 1 ∷ 3 ∷ 2 ∷ 2 ∷ 3 ∷ [])
    ∷ path (130 ∷ 128 ∷ []) ∷ path (2 ∷ 2 ∷ 132 ∷ 0 ∷ []) ∷ path (2 ∷ 2 ∷ 132 ∷ 255 ∷ []) ∷ path (2 ∷ 2 ∷ 4 ∷ []) ∷ [])
    ≡ CertificateFault 33 2 ∷ CertificateFault 2 2 ∷ Accepted
    ∷ CertificateFault 33 0 ∷ CertificateFault 2 2 ∷ CertificateFault 33 2 ∷ Accepted ∷ []
