-- TAKING BACK: k paths that are accepted and k times back leave the session as it was, as a value, after any list of calls. Assumes nothing.
use Prim.Native.Nat.{ℕ, zero, suc}
use mathlib.Core.List.{List, [], ◌∷◌, ◌++◌, append_assoc}
use mathlib.Core.Bool.{Bool, true, false, cond}
use mathlib.Core.Path.{◌≡◌, refl, sym, ap, ◌∙◌}
use mathlib.Core.Logic.{◌↔◌}
use native.Mathlib.Omega.{arith}
use lib.Dec.{ltb}
use lib.ListN.{length, replicate}
use borrow.Author.Tests.{ltb-true}
use Rattle.record.specs.Read.{Read, Read.Got, Read.Refused}
use Rattle.record.specs.declared.Answer.{Answer}
use Rattle.record.specs.declared.Answer.TheVariants.{Accepted, CertificateFault}
use Rattle.connectivity.specs.Path.{Path}
use Rattle.certificates.specs.Records.{further_path}
use Rattle.sessions.specs.declared.Session.{Session}
use Rattle.sessions.specs.declared.Stepped.{Stepped}
use Rattle.sessions.specs.Session.{opening, refused_step, on_path, path_step, back_to, back_step}
use Rattle.checker.specs.Check.{plan_graph}
use Rattle.claims.specs.Session as of
use Rattle.claims.specs.Session.{State, State.never, State.waiting, State.building, due}
use Rattle.claims.specs.Calls.{Call, Call.path, Call.back, called, session_after}
use Rattle.claims.specs.Exports.{answers_of}
use Rattle.claims.specs.Back.{session_given, state_after, paths_in, Accepts, path_calls, Undone, Undone.no_calls, Undone.refused, Undone.closed, Undone.back-again as again, TakenBack}
use Rattle.claims.proofs.Sessions.{begun-building, never_accepts, close_same, refused-same, early_path, path-step, back-again}
use Rattle.claims.proofs.Demand1.{At, agree, at_after, opens_at}

-- ONE PATH that is accepted is one that was due and read; taking it back gives the session before it
one_back : (s : Session) (z : State) → At s z → (part : List ℕ) → (path_step s part).answer ≡ Accepted → back_step (path_step s part).session ≡ back_to s
one_back s never h part e = let z : ◌≡◌ {A = ℕ} 0 1 = cc (rw (h, never_accepts (path part)) at e) in absurd (omega arith)
one_back s (waiting p) h part e = let z : ◌≡◌ {A = ℕ} 0 1 = cc (rw (h.1, early_path p h.0 part) at e) in absurd (omega arith)
one_back s (building p links earlier) h part e = rw p_step (test (ltb s.taken (due p)) refl (further_path (plan_graph p) links part 0) refl (sym (ap (λ (x : Stepped). x.answer) p_step) ∙ e))
  where
    p_step : path_step s part ≡ cond (ltb s.taken (due p)) (on_path s (further_path (plan_graph p) links part 0)) (refused_step s 31 0)
    p_step = path-step p h.0 (begun-building p h.0 h.1).0 part

    test : (t : Bool) → ltb s.taken (due p) ≡ t → (x : Read Path) → further_path (plan_graph p) links part 0 ≡ x → (cond t (on_path s x) (refused_step s 31 0)).answer ≡ Accepted
        → back_step (cond t (on_path s x) (refused_step s 31 0)).session ≡ back_to s
    test false f x g k = let z : ◌≡◌ {A = ℕ} 0 1 = cc in absurd (omega arith)
    test true f (Refused r q) g k = let z : ◌≡◌ {A = ℕ} 0 1 = cc in absurd (omega arith)
    test true f (Got P next) g k = back-again p h.0 (begun-building p h.0 h.1).0 part P next g (ltb-true s.taken (due p) f)

-- calls one after the other
after_both : (s : Session) (a b : List Call) → session_after s (a ++ b) ≡ session_after (session_after s a) b
after_both s [] b = refl
after_both s (c ∷ a) b = after_both (called s c).session a b

answers-both : (s : Session) (a b : List Call) → answers_of s (a ++ b) ≡ answers_of s a ++ answers_of (session_after s a) b
answers-both s [] b = refl
answers-both s (c ∷ a) b = ap (λ (l : List Answer). (called s c).answer ∷ l) (answers-both (called s c).session a b)

-- one time more at the front or at the end
one_last : {A : Type 0} (n : ℕ) (a : A) → a ∷ replicate n a ≡ replicate n a ++ (a ∷ [])
one_last zero a = refl
one_last (suc n) a = ap (λ l. a ∷ l) (one_last n a)

-- MANY: the first path is taken back last
many-back : (s : Session) (z : State) → At s z → (parts : List (List ℕ)) → Accepts s parts → session_after s (path_calls parts ++ replicate (length parts) back) ≡ s
many-back s z h [] a = refl
many-back s z h (part ∷ parts) a =
    let u = (path_step s part).session in
    let backs = replicate (length parts) back in
    let later = many-back u (of.path_call z part).state (agree s z h (path part)).next parts a.1 in
    ap (λ (l : List Call). session_after u (path_calls parts ++ l)) (one_last (length parts) back)
    ∙ ap (session_after u) (sym (append_assoc (path_calls parts) backs (back ∷ [])))
    ∙ after_both u (path_calls parts ++ backs) (back ∷ [])
    ∙ ap (λ (v : Session). (back_step v).session) later
    ∙ ap (λ (x : Stepped). x.session) (one_back s z h part a.0)

all-accepted : (s : Session) (z : State) → At s z → (parts : List (List ℕ)) → Accepts s parts
    → answers_of (session_after s (path_calls parts)) (replicate (length parts) back) ≡ replicate (length parts) Accepted
all-accepted s z h [] a = refl
all-accepted s z h (part ∷ parts) a =
    let u = (path_step s part).session in
    let next = (agree s z h (path part)).next in
    let v = session_after u (path_calls parts) in
    let backs = replicate (length parts) back in
    let gone : session_after v backs ≡ u = sym (after_both u (path_calls parts) backs) ∙ many-back u (of.path_call z part).state next parts a.1 in
    let last : (back_step (session_after v backs)).answer ≡ Accepted = ap (λ (w : Session). (back_step w).answer) gone ∙ ap (λ (x : Stepped). x.answer) (one_back s z h part a.0) in
    ap (answers_of v) (one_last (length parts) back)
    ∙ answers-both v backs (back ∷ [])
    ∙ ap (λ (l : List Answer). l ++ ((back_step (session_after v backs)).answer ∷ [])) (all-accepted u (of.path_call z part).state next parts a.1)
    ∙ ap (λ (b : Answer). replicate (length parts) Accepted ++ (b ∷ [])) last
    ∙ sym (one_last (length parts) Accepted)

-- ONE INSIDE THE OTHER OR ONE AFTER THE OTHER, refused calls and closings between
come_to_nothing : (s : Session) (z : State) → At s z → (more : List Call) → Undone s more → session_after s more ≡ s
come_to_nothing s z h _ no_calls = refl
come_to_nothing s z h _ (refused {c = c} {later = later} e u) = ap (λ (v : Session). session_after v later) (refused-same s c _ _ e).0 ∙ come_to_nothing s z h later u
come_to_nothing s z h _ (closed {later = later} u) = ap (λ (v : Session). session_after v later) (close_same s) ∙ come_to_nothing s z h later u
come_to_nothing s z h _ (again {part = part} {between = between} {later = later} e u w) =
    let v = (path_step s part).session in
    let gone = come_to_nothing v (of.path_call z part).state (agree s z h (path part)).next between u in
    after_both v between (back ∷ later)
    ∙ ap (λ (x : Session). session_after (back_step x).session later) gone
    ∙ ap (λ (x : Stepped). session_after x.session later) (one_back s z h part e)
    ∙ come_to_nothing s z h later w

-- 31 where there is none
none-back : (z : State) → ((of.back_call z).answer ≡ CertificateFault 31 0) ↔ (paths_in z ≡ 0)
none-back never = (λ e. refl, λ e. refl)
none-back (waiting p) = (λ e. refl, λ e. refl)
none-back (building p links []) = (λ e. refl, λ e. refl)
none-back (building p links (before ∷ earlier)) = (λ e. let z : ◌≡◌ {A = ℕ} 0 1 = cc in absurd (omega arith), λ e. absurd (omega arith))

pub taken_back_lem : TakenBack
taken_back_lem P bytes calls =
    let z = state_after (of.open_call P).state calls in
    let h = at_after calls (opening P).session (of.open_call P).state (opens_at P bytes).state in
    let same = (agree (session_given P calls) z h back).answer in
    let none = none-back z in
    record {
      once = one_back (session_given P calls) z h;
      often = many-back (session_given P calls) z h;
      accepted = all-accepted (session_given P calls) z h;
      undone = come_to_nothing (session_given P calls) z h;
      none-there = (λ e. none.0 (sym same ∙ e), λ e. same ∙ none.1 e);
    }
