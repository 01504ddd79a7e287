-- THE SESSION in the words of documents 01 and 02, on lists of links: what it is, and what each of its five calls gives.
use Rattle.std.specs.Prelude.{ℕ, ◌+◌, List, [], ◌∷◌, cond, ltb, eqb, length, drop}
use Rattle.record.specs.Read.{Read, Read.Got, Read.Refused, ended}
use Rattle.record.specs.declared.Answer.{Answer}
use Rattle.record.specs.declared.Answer.TheVariants.{Accepted, Grade, PlanFault, CertificateFault}
use Rattle.connectivity.specs.Graph.{edge_count}
use Rattle.connectivity.specs.Path.{Path}
use Rattle.connectivity.specs.Build.{taken, further_count}
use Rattle.reading.specs.Plan.{Plan, plan}
use Rattle.certificates.specs.Tests.{all_below, is_branch}
use Rattle.certificates.specs.Records.{start, further_path}
use Rattle.checker.specs.Check.{plan_graph}

-- Never opened; opened on a plan; or started on it, with the links of the build and, for each path that has come after the start, the links as
-- they were before it, the last path's first.
pub data State : Type 0 where
  never : State
  waiting : (p : Plan) → State
  building : (p : Plan) (links : List Path) (earlier : List (List Path)) → State

-- What a call gives: its answer, the session then, and what of the part handed in was not read.
pub record Gives : Type 0 where
  pub answer : Answer
  pub state : State
  pub unread : List ℕ

abbrev pub gives : Answer → State → List ℕ → Gives
gives answer state unread = record { answer = answer; state = state; unread = unread }

-- "On refusal a session, its unread record and a buffer are as before."
abbrev pub refuses : State → List ℕ → ℕ → ℕ → Gives
refuses state part r at = gives (CertificateFault r at) state part

-- d, "the number of cabled pairs, that is of different pairs of boxes with at least one cable between them"
abbrev pub pair_count : Plan → ℕ
pair_count p = edge_count (plan_graph p)

-- OPENING takes a whole plan record; 29 comes after all plan faults. A refused opening gives a session never opened.
abbrev pub on_plan_read : Read Plan → Gives
on_plan_read (Got p next) = cond (ltb (pair_count p) (p.n + 2)) (gives (PlanFault 29 0) never []) (gives Accepted (waiting p) [])
on_plan_read (Refused r at) = gives (PlanFault r at) never []

abbrev pub open_call : List ℕ → Gives
open_call P = on_plan_read (ended plan P 0)

-- A START is read as a certificate's is; its six paths are the first links. 31 before reading: never opened, or a second start.
abbrev pub on_start_read : Plan → List ℕ → Read ((ℕ × (ℕ × (ℕ × ℕ))) × List Path) → Gives
on_start_read p part (Got x next) = gives Accepted (building p x.1 []) (drop next part)
on_start_read p part (Refused r at) = refuses (waiting p) part r at

abbrev pub start_call : State → List ℕ → Gives
start_call never part = refuses never part 31 0
start_call (waiting p) part = on_start_read p part (start (plan_graph p) part 0)
start_call (building p links earlier) part = refuses (building p links earlier) part 31 0

-- how many paths come after the start: d - n - 2
abbrev pub due : Plan → ℕ
due p = further_count (pair_count p) p.n

-- A PATH is read beside the links, and taken in. 31 before reading: before the start, or where none is due any more.
abbrev pub on_path_read : Plan → List Path → List (List Path) → List ℕ → Read Path → Gives
on_path_read p links earlier part (Got P next) = gives Accepted (building p (taken links P) (links ∷ earlier)) (drop next part)
on_path_read p links earlier part (Refused r at) = refuses (building p links earlier) part r at

abbrev pub path_call : State → List ℕ → Gives
path_call never part = refuses never part 31 0
path_call (waiting p) part = refuses (waiting p) part 31 0
path_call (building p links earlier) part =
    cond (ltb (length earlier) (due p)) (on_path_read p links earlier part (further_path (plan_graph p) links part 0)) (refuses (building p links earlier) part 31 0)

-- TAKING BACK: "the session equals the one before that path". "Number 31 is given at place 0 when no path is there to take back.", and "The start
-- itself can't be taken back." Nothing is read.
abbrev pub back_call : State → Gives
back_call never = refuses never [] 31 0
back_call (waiting p) = refuses (waiting p) [] 31 0
back_call (building p links []) = refuses (building p links []) [] 31 0
back_call (building p links (before ∷ earlier)) = gives Accepted (building p before earlier) []

-- CLOSING: 31 before the start and all d - n - 2 paths are in, then 28 where a vertex is no branch vertex; else grade 3. The session stays.
abbrev pub closing_answer : Plan → List Path → ℕ → Answer
closing_answer p links k = cond (eqb k (due p)) (cond (all_below p.n (is_branch links)) (Grade 3) (CertificateFault 28 0)) (CertificateFault 31 0)

abbrev pub close_call : State → Gives
close_call never = refuses never [] 31 0
close_call (waiting p) = refuses (waiting p) [] 31 0
close_call (building p links earlier) = gives (closing_answer p links (length earlier)) (building p links earlier) []
