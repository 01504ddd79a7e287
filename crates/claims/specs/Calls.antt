-- Session calls in any order, a start or a path handed any bytes; and a certificate of kind 3 handed in call by call.
use Rattle.std.specs.Prelude.{ℕ, zero, suc, List, [], ◌∷◌, ◌≡◌, drop}
use Rattle.record.specs.Read.{Read.Got, Bytes}
use Rattle.record.specs.Number.{number}
use Rattle.record.specs.declared.Answer.{Answer}
use Rattle.record.specs.declared.Answer.TheVariants.{Accepted, Grade}
use Rattle.reading.specs.Plan.{Plan, plan_bytes}
use Rattle.sessions.specs.declared.Session.{Session}
use Rattle.sessions.specs.declared.Stepped.{Stepped}
use Rattle.sessions.specs.Session.{opening, start_step, path_step, back_step, close_step, start_rest, path_rest}
use Rattle.claims.specs.Session.{State, Gives, due, start_call, path_call, back_call, close_call}

-- "Taking back is a session call like the others"
pub data Call : Type 0 where
  start : (part : List ℕ) → Call
  path : (part : List ℕ) → Call
  back : Call
  close : Call

-- what is handed in are bytes
abbrev pub CallBytes : List Call → Type 0
CallBytes [] = Unit {0}
CallBytes (start part ∷ cs) = Bytes part × CallBytes cs
CallBytes (path part ∷ cs) = Bytes part × CallBytes cs
CallBytes (back ∷ cs) = CallBytes cs
CallBytes (close ∷ cs) = CallBytes cs

-- the code's session, by the promises of its calls ..
abbrev pub called : Session → Call → Stepped
called s (start part) = start_step s part
called s (path part) = path_step s part
called s back = back_step s
called s close = close_step s

abbrev pub left_of : Session → Call → List ℕ
left_of s (start part) = start_rest s part
left_of s (path part) = path_rest s part
left_of s back = []
left_of s close = []

-- .. and the session of documents 01 and 02
abbrev pub called_on : State → Call → Gives
called_on z (start part) = start_call z part
called_on z (path part) = path_call z part
called_on z back = back_call z
called_on z close = close_call z

-- the session after a list of calls, refused ones among them: each gets the session that the last one returned
abbrev pub session_after : Session → List Call → Session
session_after s [] = s
session_after s (c ∷ cs) = session_after (called s c).session cs

-- what is heard of each call: its answer, and what of the part was not read
pub record Heard : Type 0 where
  pub answer : Answer
  pub unread : List ℕ

abbrev pub heard : Session → List Call → List Heard
heard s [] = []
heard s (c ∷ cs) = record { answer = (called s c).answer; unread = left_of s c } ∷ heard (called s c).session cs

abbrev pub heard_on : State → List Call → List Heard
heard_on z [] = []
heard_on z (c ∷ cs) = record { answer = (called_on z c).answer; unread = (called_on z c).unread } ∷ heard_on (called_on z c).state cs

-- k paths, each accepted on the part that the last call handed back unread; closing then answers grade 3, and no byte is left
abbrev pub Finishes : ℕ → Session → List ℕ → Type 0
Finishes zero s part = ((close_step s).answer ≡ Grade 3) × (part ≡ [])
Finishes (suc k) s part = ((path_step s part).answer ≡ Accepted) × Finishes k (path_step s part).session (path_rest s part)

-- the calls accept the certificate C: a session is opened on the plan's record; C begins with the kind, which is 3; what comes
-- after it begins with a start, and then with the d - n - 2 paths
abbrev pub session_on : Plan → Session
session_on p = (opening (plan_bytes p)).session

pub record Replayed (p : Plan) (C : List ℕ) : Type 0 where
  pub opened : (opening (plan_bytes p)).answer ≡ Accepted
  pub three : number C 0 ≡ Got 3 1
  pub started : (start_step (session_on p) (drop 1 C)).answer ≡ Accepted
  pub finishes : Finishes (due p) (start_step (session_on p) (drop 1 C)).session (start_rest (session_on p) (drop 1 C))
