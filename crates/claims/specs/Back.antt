-- REQUEST 4: taking back the last path, after any list of calls from an opening, refused ones among them.
use Rattle.std.specs.Prelude.{ℕ, List, [], ◌∷◌, ◌++◌, ◌≡◌, ◌↔◌, length, replicate}
use Rattle.record.specs.Read.{Bytes}
use Rattle.record.specs.declared.Answer.TheVariants.{Accepted, CertificateFault}
use Rattle.sessions.specs.declared.Session.{Session}
use Rattle.sessions.specs.Session.{opening, path_step, back_to, back_step}
use Rattle.claims.specs.Session as of
use Rattle.claims.specs.Session.{State, State.never, State.waiting, State.building}
use Rattle.claims.specs.Calls.{Call, Call.path, Call.back, Call.close, called, called_on, session_after}
use Rattle.claims.specs.Exports.{answers_of}

-- the session that a list of calls gives, and the documents' session then, with how many paths there are to take back
abbrev pub session_given : List ℕ → List Call → Session
session_given P calls = session_after (opening P).session calls

abbrev pub state_after : State → List Call → State
state_after z [] = z
state_after z (c ∷ cs) = state_after (called_on z c).state cs

abbrev pub paths_in : State → ℕ
paths_in never = 0
paths_in (waiting p) = 0
paths_in (building p links earlier) = length earlier

-- paths that are accepted one after the other, each handed a part of its own
abbrev pub Accepts : Session → List (List ℕ) → Type 0
Accepts s [] = Unit {0}
Accepts s (part ∷ parts) = ((path_step s part).answer ≡ Accepted) × Accepts (path_step s part).session parts

abbrev pub path_calls : List (List ℕ) → List Call
path_calls [] = []
path_calls (part ∷ parts) = path part ∷ path_calls parts

-- calls that come to nothing: refused ones and closings, and a path that is accepted, calls that come to nothing, and taking that path back
pub data Undone : Session → List Call → Type 0 where
  no_calls : {s : Session} → Undone s []
  refused : {s : Session} {c : Call} {later : List Call} {r p : ℕ} → (called s c).answer ≡ CertificateFault r p → Undone s later → Undone s (c ∷ later)
  closed : {s : Session} {later : List Call} → Undone s later → Undone s (close ∷ later)
  back-again : {s : Session} {part : List ℕ} {between later : List Call} → (path_step s part).answer ≡ Accepted → Undone (path_step s part).session between → Undone s later
      → Undone s (path part ∷ between ++ (back ∷ later))

pub record TakesBack (P : List ℕ) (calls : List Call) : Type 0 where
  -- "After taking back, the session equals the one before that path, in every part that later calls can read; what they can't read is left open.": nothing
  -- is left open, it is the same value. "accepted, it has the case of an accepted path", with nothing read
  pub once : (part : List ℕ) → (path_step (session_given P calls) part).answer ≡ Accepted → back_step (path_step (session_given P calls) part).session ≡ back_to (session_given P calls)
  -- "Taking back twice goes back two paths.": k paths that are accepted and k times back, each accepted, leave the session as it was;
  pub often : (parts : List (List ℕ)) → Accepts (session_given P calls) parts → session_after (session_given P calls) (path_calls parts ++ replicate (length parts) back) ≡ session_given P calls
  pub accepted : (parts : List (List ℕ)) → Accepts (session_given P calls) parts
      → answers_of (session_after (session_given P calls) (path_calls parts)) (replicate (length parts) back) ≡ replicate (length parts) Accepted
  -- so do paths each of which is taken back later, one inside the other or one after the other, with refused calls and closings between
  pub undone : (more : List Call) → Undone (session_given P calls) more → session_after (session_given P calls) more ≡ session_given P calls
  -- "Number 31 is given at place 0 when no path is there to take back.", and only then
  pub none-there : ((back_step (session_given P calls)).answer ≡ CertificateFault 31 0) ↔ (paths_in (state_after (of.open_call P).state calls) ≡ 0)

abbrev pub TakenBack : Type 0
TakenBack = (P : List ℕ) → Bytes P → (calls : List Call) → TakesBack P calls
