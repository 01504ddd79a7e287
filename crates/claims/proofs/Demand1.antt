-- DEMAND 1, SESSIONS: the code's session is that of documents 01 and 02, whatever calls come. Assumes nothing.
use Prim.Native.Nat.{ℕ, ◌+◌}
use mathlib.Core.List.{List, [], ◌∷◌}
use mathlib.Core.Bool.{Bool, true, false, cond}
use mathlib.Core.Path.{◌≡◌, refl, sym, ap, ◌∙◌}
use lib.Dec.{ltb}
use lib.ListN.{length, drop}
use borrow.Author.Tests.{ltb-true}
use Rattle.record.specs.Read.{Read, Read.Got, Read.Refused, Bytes, ended}
use Rattle.record.specs.declared.Answer.TheVariants.{Accepted, PlanFault}
use Rattle.record.proofs.Laws.{ended-there}
use Rattle.connectivity.specs.Path.{Path}
use Rattle.reading.specs.Plan.{Plan, Allowed, plan}
use Rattle.reading.specs.Code.{graph_of}
use Rattle.reading.proofs.Plans.{plan-law}
use Rattle.certificates.specs.Records.{start as readStart, further_path}
use Rattle.sessions.specs.declared.Session.{Session}
use Rattle.sessions.specs.declared.Opened.{Opened}
use Rattle.sessions.specs.declared.Stepped.{Stepped}
use Rattle.sessions.specs.Session.{no_session, opened_on, on_opening, opening, refused_step, on_start, start_step, on_path, path_step, back_step, close_step}
use Rattle.sessions.proofs.Calls.{back_either}
use Rattle.checker.specs.Check.{plan_graph}
use Rattle.claims.specs.Session as of
use Rattle.claims.specs.Session.{State, State.never, State.waiting, State.building, Gives, due}
use Rattle.claims.specs.Calls.{Call, Call.start, Call.path, Call.back, Call.close, called, left_of, called_on, session_after, Heard, heard, heard_on}
use Rattle.claims.specs.Back.{state_after}
use Rattle.claims.specs.Demands.{Demand1Sessions}
use Rattle.claims.proofs.Sessions.{Building, Begun, Begun.first, Begun.more, begun-building, begun-back, begun_first, never_accepts, close_same, refused-same, start-step, early_path, early_back, second_start, path-step, closing-is}

-- the parts may be any lists of numbers
abbrev pub Any : List ℕ → Type 0
Any part = Unit {0}

-- the code's session is at this state of the documents' session
abbrev pub At : Session → State → Type 0
At s never = s ≡ no_session
At s (waiting p) = Allowed p × (s ≡ opened_on (graph_of p))
At s (building p links earlier) = Allowed p × Begun Any p s links earlier

-- a step of the code and what the documents' session gives agree on all that is heard, and lead to the same
pub record Agree (x : Stepped) (part : List ℕ) (y : Gives) : Type 0 where
  pub answer : x.answer ≡ y.answer
  pub unread : drop x.read part ≡ y.unread
  pub next : At x.session y.state

-- refused alike: each stays where it was
both_refuse : {s : Session} (z : State) → At s z → (part : List ℕ) (r q : ℕ) → Agree (refused_step s r q) part (of.refuses z part r q)
both_refuse z h part r q = record { answer = refl; unread = refl; next = h }

module _ (p : Plan) (al : Allowed p) where
  both_start : (part : List ℕ) → Agree (start_step (opened_on (graph_of p)) part) part (of.start_call (waiting p) part)
  both_start part = rw (start-step p al part) (go (readStart (plan_graph p) part 0) refl)
    where
      go : (x : Read ((ℕ × (ℕ × (ℕ × ℕ))) × List Path)) → readStart (plan_graph p) part 0 ≡ x → Agree (on_start (opened_on (graph_of p)) x) part (of.on_start_read p part x)
      go (Refused r q) e = both_refuse (waiting p) (al, refl) part r q
      go (Got x next) e = record { answer = refl; unread = refl; next = (al, first part tt x next e) }

  module _ {s : Session} {links : List Path} {earlier : List (List Path)} (b : Begun Any p s links earlier) where
    h : Building p s links
    h = (begun-building p al b).0

    count : s.taken ≡ length earlier
    count = (begun-building p al b).1

    both_path : (part : List ℕ) → Agree (path_step s part) part (of.path_call (building p links earlier) part)
    both_path part =
        let z : ltb (length earlier) (due p) ≡ ltb s.taken (due p) = ap (λ (k : ℕ). ltb k (due p)) (sym count) in
        rw (path-step p al h part, z) (test (ltb s.taken (due p)) refl (further_path (plan_graph p) links part 0) refl)
      where
        test : (t : Bool) → ltb s.taken (due p) ≡ t → (x : Read Path) → further_path (plan_graph p) links part 0 ≡ x
            → Agree (cond t (on_path s x) (refused_step s 31 0)) part (cond t (of.on_path_read p links earlier part x) (of.refuses (building p links earlier) part 31 0))
        test false f x e = both_refuse (building p links earlier) (al, b) part 31 0
        test true f (Refused r q) e = both_refuse (building p links earlier) (al, b) part r q
        test true f (Got P next) e = record { answer = refl; unread = refl; next = (al, more b (ltb-true s.taken (due p) f) part tt P next e) }

    both_close : Agree (close_step s) [] (of.close_call (building p links earlier))
    unfolding close_step
    both_close = record { answer = closing-is p al h ∙ ap (of.closing_answer p links) count; unread = refl; next = (al, b) }

  both_back : {s : Session} {links : List Path} (earlier : List (List Path)) → Begun Any p s links earlier → Agree (back_step s) [] (of.back_call (building p links earlier))
  both_back {links = links} [] b = rw (begun_first p al b) (both_refuse (building p links []) (al, b) [] 31 0)
  both_back (before ∷ earlier) b = let r = begun-back p al b in rw r.2 (record { answer = refl; unread = refl; next = (al, r.1) })

-- the part that a call hands in
abbrev pub handed : Call → List ℕ
handed (start part) = part
handed (path part) = part
handed back = []
handed close = []

-- EACH CALL agrees,
pub agree : (s : Session) (z : State) → At s z → (c : Call) → Agree (called s c) (handed c) (called_on z c)
unfolding close_step
agree s never h (start part) = rw (h, never_accepts (start part)) (both_refuse never refl part 31 0)
agree s never h (path part) = rw (h, never_accepts (path part)) (both_refuse never refl part 31 0)
agree s never h back = rw (h, never_accepts back) (both_refuse never refl [] 31 0)
agree s never h close = rw (h, never_accepts close) (both_refuse never refl [] 31 0)
agree s (waiting p) h (start part) = rw h.1 (both_start p h.0 part)
agree s (waiting p) h (path part) = rw (h.1, early_path p h.0 part) (both_refuse (waiting p) (h.0, refl) part 31 0)
agree s (waiting p) h back = rw (h.1, early_back p h.0) (both_refuse (waiting p) (h.0, refl) [] 31 0)
agree s (waiting p) h close = rw h.1 (both_refuse (waiting p) (h.0, refl) [] 31 0)
agree s (building p links earlier) h (start part) = rw (second_start p h.0 (begun-building p h.0 h.1).0 part) (both_refuse (building p links earlier) h part 31 0)
agree s (building p links earlier) h (path part) = both_path p h.0 h.1 part
agree s (building p links earlier) h back = both_back p h.0 earlier h.1
agree s (building p links earlier) h close = both_close p h.0 h.1

-- what is left of the part, call by call
rest-handed : (s : Session) (c : Call) → left_of s c ≡ drop (called s c).read (handed c)
unfolding close_step
rest-handed s (start part) = refl
rest-handed s (path part) = refl
rest-handed s back = back_either s (λ x. ◌≡◌ {A = List ℕ} [] (drop x.read [])) refl refl
rest-handed s close = refl

-- so every list of calls does
agree_all : (calls : List Call) (s : Session) (z : State) → At s z → heard s calls ≡ heard_on z calls
agree_all [] s z h = refl
agree_all (c ∷ cs) s z h =
    let a = agree s z h c in
    let first : ◌≡◌ {A = Heard} (record { answer = (called s c).answer; unread = left_of s c }) (record { answer = (called_on z c).answer; unread = (called_on z c).unread }) =
    rw (a.answer, rest-handed s c, a.unread) in
    let later = agree_all cs (called s c).session (called_on z c).state a.next in
    λ i. first i ∷ later i

-- the two sessions after a list of calls
pub at_after : (calls : List Call) (s : Session) (z : State) → At s z → At (session_after s calls) (state_after z calls)
at_after [] s z h = h
at_after (c ∷ cs) s z h = at_after cs (called s c).session (called_on z c).state (agree s z h c).next

-- OPENING
pub record OpensAt (x : Opened) (y : Gives) : Type 0 where
  pub answer : x.answer ≡ y.answer
  pub state : At x.session y.state

pub opens_at : (P : List ℕ) → Bytes P → OpensAt (opening P) (of.open_call P)
unfolding opening graph_of
opens_at P bytes = go (ended plan P 0) refl
  where
    go : (x : Read Plan) → ended plan P 0 ≡ x → OpensAt (on_opening x) (of.on_plan_read x)
    go (Refused r q) e = record { answer = refl; state = refl }
    go (Got p next) e = test (ltb (of.pair_count p) (p.n + 2))
      where
        test : (b : Bool)
            → OpensAt (cond b (record { answer = PlanFault 29 0; session = no_session }) (record { answer = Accepted; session = opened_on (graph_of p) }))
            (cond b (of.gives (PlanFault 29 0) never []) (of.gives Accepted (waiting p) []))
        test true = record { answer = refl; state = refl }
        test false = record { answer = refl; state = ((ended-there plan-law bytes e).1, refl) }

pub demand1_sessions : Demand1Sessions
demand1_sessions P bytes calls =
    let o = opens_at P bytes in
    record { opens = o.answer; answers = agree_all calls (opening P).session (of.open_call P).state o.state; unchanged = refused-same _; closed = close_same _ }
