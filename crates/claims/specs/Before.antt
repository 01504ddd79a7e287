-- REQUEST 4 AND THE OTHER CALLS: edition 3's session, which counted the paths that had come after the start; every list of calls without taking back is
-- answered as there, but that 33 was 2 (request 7). The readers are those of specs/Earlier, and `pairCount`, `due` and `closingAnswer` today's: none of them has moved since edition 3.
use Rattle.std.specs.Prelude.{ℕ, suc, ◌+◌, List, [], ◌∷◌, cond, ◌≡◌, ltb, drop}
use Rattle.record.specs.Read.{Read, Read.Got, Read.Refused, Bytes, ended}
use Rattle.record.specs.declared.Answer.{Answer}
use Rattle.record.specs.declared.Answer.TheVariants.{Accepted, PlanFault, CertificateFault}
use Rattle.connectivity.specs.Path.{Path}
use Rattle.connectivity.specs.Build.{taken}
use Rattle.reading.specs.Plan.{Plan}
use Rattle.sessions.specs.Session.{opening}
use Rattle.checker.specs.Check.{plan_graph}
use Rattle.claims.specs.Session.{pair_count, due, closing_answer}
use Rattle.claims.specs.Calls as now
use Rattle.claims.specs.Calls.{Heard, heard}
use Rattle.claims.specs.Earlier.{plan, start as startRead, further_path}
use Rattle.claims.specs.Numbers.{answer_before, heard_before}

-- what a session was: with the links of the build, how many paths had come after the start
pub data State : Type 0 where
  never : State
  waiting : (p : Plan) → State
  building : (p : Plan) (links : List Path) (paths : ℕ) → State

pub record Gives : Type 0 where
  pub answer : Answer
  pub state : State
  pub unread : List ℕ

abbrev pub gives : Answer → State → List ℕ → Gives
gives answer state unread = record { answer = answer; state = state; unread = unread }

abbrev pub refuses : State → List ℕ → ℕ → ℕ → Gives
refuses state part r at = gives (CertificateFault r at) state part

-- its four calls
abbrev pub on_plan_read : Read Plan → Gives
on_plan_read (Got p next) = cond (ltb (pair_count p) (p.n + 2)) (gives (PlanFault 29 0) never []) (gives Accepted (waiting p) [])
on_plan_read (Refused r at) = gives (PlanFault r at) never []

abbrev pub open_call : List ℕ → Gives
open_call P = on_plan_read (ended plan P 0)

abbrev pub on_start_read : Plan → List ℕ → Read ((ℕ × (ℕ × (ℕ × ℕ))) × List Path) → Gives
on_start_read p part (Got x next) = gives Accepted (building p x.1 0) (drop next part)
on_start_read p part (Refused r at) = refuses (waiting p) part r at

abbrev pub start_call : State → List ℕ → Gives
start_call never part = refuses never part 31 0
start_call (waiting p) part = on_start_read p part (startRead (plan_graph p) part 0)
start_call (building p links k) part = refuses (building p links k) part 31 0

abbrev pub on_path_read : Plan → List Path → ℕ → List ℕ → Read Path → Gives
on_path_read p links k part (Got P next) = gives Accepted (building p (taken links P) (suc k)) (drop next part)
on_path_read p links k part (Refused r at) = refuses (building p links k) part r at

abbrev pub path_call : State → List ℕ → Gives
path_call never part = refuses never part 31 0
path_call (waiting p) part = refuses (waiting p) part 31 0
path_call (building p links k) part =
    cond (ltb k (due p)) (on_path_read p links k part (further_path (plan_graph p) links part 0)) (refuses (building p links k) part 31 0)

abbrev pub close_call : State → Gives
close_call never = refuses never [] 31 0
close_call (waiting p) = refuses (waiting p) [] 31 0
close_call (building p links k) = gives (closing_answer p links k) (building p links k) []

-- the calls that there were, and as calls of today
pub data Call : Type 0 where
  start : (part : List ℕ) → Call
  path : (part : List ℕ) → Call
  close : Call

abbrev pub today : List Call → List now.Call
today [] = []
today (start part ∷ cs) = now.Call.start part ∷ today cs
today (path part ∷ cs) = now.Call.path part ∷ today cs
today (close ∷ cs) = now.Call.close ∷ today cs

abbrev pub called_on : State → Call → Gives
called_on z (start part) = start_call z part
called_on z (path part) = path_call z part
called_on z close = close_call z

abbrev pub heard_on : State → List Call → List Heard
heard_on z [] = []
heard_on z (c ∷ cs) = record { answer = (called_on z c).answer; unread = (called_on z c).unread } ∷ heard_on (called_on z c).state cs

-- what was heard of an opening and of each call after it is what is heard of today's, in that edition's numbers
abbrev pub OthersKept : Type 0
OthersKept =
    (P : List ℕ) → Bytes P → (calls : List Call)
    → (answer_before (opening P).answer ≡ (open_call P).answer) × (heard_before (heard (opening P).session (today calls)) ≡ heard_on (open_call P).state calls)
