-- WHAT THE SESSION PROGRAM PRINTS for a plan record and a list of calls: the lines of the session of documents 01 and 02. Assumes nothing.
use Prim.Native.Nat.{ℕ, zero, suc, ◌+◌, ◌-◌, ◌≤◌}
use mathlib.Core.List.{List, [], ◌∷◌, ◌++◌}
use mathlib.Core.Bool.{true}
use mathlib.Core.Path.{◌≡◌, refl, ap}
use native.Mathlib.Omega.{arith}
use lib.Dec.{leb}
use lib.ListN.{length, length-drop, length-append}
use borrow.Author.Tests.{le-ltb}
use Rattle.record.specs.Number.{list_bytes}
use Rattle.sessions.specs.declared.Session.{Session}
use Rattle.sessions.specs.declared.Stepped.{Stepped}
use Rattle.sessions.specs.Session.{opening, start_step, path_step, back_step, close_step}
use Rattle.sessionlines.specs.Lines.{script_limit, answer_line, step_line, step_turn, open_turn, call_turn, lines_from}
use Rattle.claims.specs.Session as of
use Rattle.claims.specs.Session.{State, Gives}
use Rattle.claims.specs.Calls.{Call, Call.start, Call.path, Call.back, Call.close}
use Rattle.claims.specs.Exports.{part_bytes, call_bytes, script_bytes, Short}
use Rattle.claims.specs.Printed.{call_lines}
use Rattle.claims.specs.Demands.{SessionPrints}
use Rattle.claims.proofs.Demand1.{At, Agree, agree, opens_at}
use Rattle.claims.proofs.Scripts.{Has, script_has, script_long, scripts_encode}

-- at the script's end nothing more is printed
none-printed : (k : ℕ) (s : List ℕ) (session : Session) (at : ℕ) → leb (length s) at ≡ true → lines_from k s session at ≡ []
unfolding lines_from call_turn
none-printed zero s session at h = refl
none-printed (suc k) s session at h = rw h (none-printed k s session at h)

-- a start or a path that agrees with the documents' prints its line
step-printed : (x : Stepped) (part : List ℕ) (y : Gives) → Agree x part y → (at : ℕ) → (step_turn x (at + 3) (at + 3 + length part)).bytes ≡ step_line (length y.unread) y.answer
step-printed x part y a at =
    let n : at + 3 + length part - (at + 3) - x.read ≡ length y.unread = omega (arith, length-drop x.read part, ap length a.unread) in
    λ i. step_line (n i) (a.answer i)

-- and so does every list of calls, turn by turn
lines_printed : (k : ℕ) (s : List ℕ) (session : Session) (z : State) (at : ℕ) (calls : List Call) → At session z → Has s at calls → length calls ≤ k
    → lines_from k s session at ≡ call_lines z calls
unfolding lines_from call_turn
lines_printed k s session z at [] i h f = none-printed k s session at h
lines_printed zero s session z at (c ∷ cs) i h f = absurd (omega arith)
lines_printed (suc k) s session z at (start part ∷ cs) i h f =
    let c = h.0 in
    let a = agree session z i (start part) in
    let first = step-printed (start_step session part) part (of.start_call z part) a at in
    let later = lines_printed k s (start_step session part).session (of.start_call z part).state (at + 3 + length part) cs a.next h.1 (omega arith) in
    rw (c.inside, c.byte, c.within, c.handed) (λ j. first j ++ later j)
lines_printed (suc k) s session z at (path part ∷ cs) i h f =
    let c = h.0 in
    let a = agree session z i (path part) in
    let first = step-printed (path_step session part) part (of.path_call z part) a at in
    let later = lines_printed k s (path_step session part).session (of.path_call z part).state (at + 3 + length part) cs a.next h.1 (omega arith) in
    rw (c.inside, c.byte, c.within, c.handed) (λ j. first j ++ later j)
lines_printed (suc k) s session z at (back ∷ cs) i h f =
    let c = h.0 in
    let a = agree session z i back in
    let later = lines_printed k s (back_step session).session (of.back_call z).state (at + 1) cs a.next h.1 (omega arith) in
    rw (c.inside, c.byte) (λ j. answer_line (a.answer j) ++ later j)
lines_printed (suc k) s session z at (close ∷ cs) i h f =
    let c = h.0 in
    let a = agree session z i close in
    let later = lines_printed k s (close_step session).session (of.close_call z).state (at + 1) cs a.next h.1 (omega arith) in
    rw (c.inside, c.byte) (λ j. answer_line (a.answer j) ++ later j)

-- no part of a script within the limit is too long
short_calls : (calls : List Call) → length (list_bytes call_bytes calls) ≤ script_limit → Short calls
unfolding list_bytes
short_calls [] h = tt
short_calls (start part ∷ cs) h = let l = length-append (call_bytes (start part)) (list_bytes call_bytes cs) in (omega arith, short_calls cs (omega arith))
short_calls (path part ∷ cs) h = let l = length-append (call_bytes (path part)) (list_bytes call_bytes cs) in (omega arith, short_calls cs (omega arith))
short_calls (back ∷ cs) h = let l = length-append (call_bytes back) (list_bytes call_bytes cs) in short_calls cs (omega arith)
short_calls (close ∷ cs) h = let l = length-append (call_bytes close) (list_bytes call_bytes cs) in short_calls cs (omega arith)

pub session_prints : SessionPrints
unfolding open_turn
session_prints P calls bytes short =
    let s = script_bytes P calls in
    let l = length-append (part_bytes P) (list_bytes call_bytes calls) in
    let e = scripts_encode P calls (omega arith) (short_calls calls (omega arith)) in
    let o = opens_at P bytes in
    let later = lines_printed (length s) s (opening P).session (of.open_call P).state (2 + length P) calls o.state (script_has P calls) (script_long P calls) in
    rw (le-ltb script_limit (length s) short, e.plan-at, e.plan) (λ j. answer_line (o.answer j) ++ later j)
