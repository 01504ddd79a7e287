-- SCRIPTS: a plan record and its calls are read back from their script, which is bytes; a replay tells the answers of the script's calls,
-- none where its plan record is cut, and where they all have room the whole reply is known.
-- Assumes nothing.
use Prim.Native.Nat.{ℕ, zero, suc, ◌+◌, ◌*◌, ◌-◌, ◌/◌, ◌%◌, ◌≤◌, ◌<◌, min}
use mathlib.Core.List.{List, [], ◌∷◌, ◌++◌, append_assoc}
use mathlib.Core.Bool.{Bool, true, false, cond, ◌||◌}
use mathlib.Core.Path.{◌≡◌, refl, sym, ap, ◌∙◌}
use Rattle.std.specs.Prelude.{Option, Some, None}
use native.Mathlib.Omega.{arith}
use lib.ListN.{length, get_or, take, drop, length-append}
use lib.Seq.{append_snoc, get_or_at, get_or-append-add, take_at, drop_at, take-nil, take_all}
use lib.Dec.{leb, eqb}
use borrow.Author.Tests.{le-leb, lt-leb}
use Rattle.record.specs.Read.{Bytes}
use Rattle.record.specs.Number.{list_bytes}
use Rattle.record.specs.Write.{overwritten}
use Rattle.record.specs.declared.Answer.{Answer}
use Rattle.record.proofs.Lists.{bytes_cons, bytes_append}
use Rattle.record.proofs.Write.{overwritten-none, overwritten-length, overwritten-more}
use Rattle.sessions.specs.declared.Session.{Session}
use Rattle.sessions.specs.Session.{opening, start_step, path_step, back_step, close_step}
use Rattle.script.specs.Script.{size_at, part_at}
use Rattle.script.specs.Replay.{answer_word, answer_bytes, Reply, reply, has_room_for, with_answer, part_of, step_of, is_lone, lone_of, on_part, replay_on, opened, replay_of}
use Rattle.script.proofs.Answers.{word-length}
use Rattle.claims.specs.Calls.{Call, Call.start, Call.path, Call.back, Call.close, CallBytes, called}
use Rattle.claims.specs.Exports.{part_bytes, call_bytes, script_bytes, Short, call_of, lone_call, on_part_calls, calls_from, answers_of, script_answers}
use Rattle.claims.specs.Demands.{ScriptsEncode, ScriptsReplay, ScriptReplies, ScriptCut}

-- A PART behind other bytes is found, and is what was written
module _ (front part behind : List ℕ) (at : ℕ) (h : length front ≡ at) where
  abbrev joined : List ℕ
  joined = front ++ (part_bytes part ++ behind)

  long : length joined ≡ at + 2 + length part + length behind
  long = omega (arith, length-append front (part_bytes part ++ behind), length-append part behind)

  size : size_at joined at ≡ length part
  size =
      let a = get_or_at front (length part % 256) ((length part / 256) ∷ part ++ behind) 0 at h in
      let b : get_or joined (at + 1) 0 ≡ length part / 256 = rw (← h) (get_or-append-add front (part_bytes part ++ behind) 1 0) in
      rw (a, b) (omega arith)

  part_at_lem : part_at joined at ≡ Some (at + 2, at + 2 + length part)
  unfolding part_at
  part_at_lem = rw (size, le-leb (at + 2) (length joined) (omega (arith, long)), le-leb (at + 2 + length part) (length joined) (omega (arith, long)))

  abbrev before : List ℕ
  before = front ++ (length part % 256 ∷ length part / 256 ∷ [])

  part_of_lem : part_of joined (at + 2) (at + 2 + length part) ≡ part
  part_of_lem =
      let s : before ++ (part ++ behind) ≡ joined = append_assoc front (length part % 256 ∷ length part / 256 ∷ []) (part ++ behind) in
      let n : length before ≡ at + 2 = omega (arith, length-append front (length part % 256 ∷ length part / 256 ∷ [])) in
      let d : drop (at + 2) joined ≡ part ++ behind = ap (drop (at + 2)) (sym s) ∙ drop_at before (part ++ behind) (at + 2) n in
      rw d (take_at part behind (at + 2 + length part - (at + 2)) (omega arith))

-- THE CALLS that a script has from a place on, up to its end: each by its byte, a part behind the byte where one belongs to it
pub record PartCall (s : List ℕ) (at call : ℕ) (part : List ℕ) : Type 0 where
  pub inside : leb (length s) at ≡ false
  pub byte : get_or s at 0 ≡ call
  pub within : part_at s (at + 1) ≡ Some (at + 3, at + 3 + length part)
  pub handed : part_of s (at + 3) (at + 3 + length part) ≡ part

pub record LoneCall (s : List ℕ) (at call : ℕ) : Type 0 where
  pub inside : leb (length s) at ≡ false
  pub byte : get_or s at 0 ≡ call

abbrev pub Has : List ℕ → ℕ → List Call → Type 0
Has s at [] = leb (length s) at ≡ true
Has s at (start part ∷ cs) = PartCall s at 115 part × Has s (at + 3 + length part) cs
Has s at (path part ∷ cs) = PartCall s at 112 part × Has s (at + 3 + length part) cs
Has s at (back ∷ cs) = LoneCall s at 98 × Has s (at + 1) cs
Has s at (close ∷ cs) = LoneCall s at 99 × Has s (at + 1) cs

module _ (front behind : List ℕ) where
  lone_there : (call : ℕ) → LoneCall (front ++ (call ∷ behind)) (length front) call
  lone_there call =
      let n = length-append front (call ∷ behind) in
      record { inside = lt-leb (length (front ++ (call ∷ behind))) (length front) (omega (arith, n)); byte = get_or_at front call behind 0 (length front) refl }

  part_there : (call : ℕ) (part : List ℕ) → PartCall (front ++ (call ∷ part_bytes part ++ behind)) (length front) call part
  part_there call part =
      let s = front ++ (call ∷ part_bytes part ++ behind) in
      let n = length-append front (call ∷ part_bytes part ++ behind) in
      let m : length (front ++ (call ∷ [])) ≡ length front + 1 = length-append front (call ∷ []) in
      let e : front ++ (call ∷ []) ++ (part_bytes part ++ behind) ≡ s = append_snoc front call (part_bytes part ++ behind) in
      let z : length front + 1 + 2 ≡ length front + 3 = omega arith in
      record {
        inside = lt-leb (length s) (length front) (omega (arith, n));
        byte = get_or_at front call (part_bytes part ++ behind) 0 (length front) refl;
        within = rw (← e, ← z) (part_at_lem (front ++ (call ∷ [])) part behind (length front + 1) m);
        handed = rw (← e, ← z) (part_of_lem (front ++ (call ∷ [])) part behind (length front + 1) m);
      }

-- every list of calls stands in its bytes, behind other ones
later : (front : List ℕ) (c : Call) (cs : List Call) (at : ℕ) → length front + length (call_bytes c) ≡ at
    → Has (front ++ call_bytes c ++ list_bytes call_bytes cs) (length (front ++ call_bytes c)) cs → Has (front ++ (call_bytes c ++ list_bytes call_bytes cs)) at cs
later front c cs at e h = rw (← e, ← length-append front (call_bytes c), ← append_assoc front (call_bytes c) (list_bytes call_bytes cs)) h

calls_there : (front : List ℕ) (calls : List Call) → Has (front ++ list_bytes call_bytes calls) (length front) calls
unfolding list_bytes
calls_there front [] = le-leb (length (front ++ [])) (length front) (omega (arith, length-append front []))
calls_there front (start part ∷ cs) = (part_there front (list_bytes call_bytes cs) 115 part, later front (start part) cs _ (omega arith) (calls_there (front ++ call_bytes (start part)) cs))
calls_there front (path part ∷ cs) = (part_there front (list_bytes call_bytes cs) 112 part, later front (path part) cs _ (omega arith) (calls_there (front ++ call_bytes (path part)) cs))
calls_there front (back ∷ cs) = (lone_there front (list_bytes call_bytes cs) 98, later front back cs _ (omega arith) (calls_there (front ++ call_bytes back) cs))
calls_there front (close ∷ cs) = (lone_there front (list_bytes call_bytes cs) 99, later front close cs _ (omega arith) (calls_there (front ++ call_bytes close) cs))

-- of which there are no more than bytes
calls_few : (calls : List Call) → length calls ≤ length (list_bytes call_bytes calls)
unfolding list_bytes
calls_few [] = omega arith
calls_few (start part ∷ cs) = omega (arith, calls_few cs, length-append part (list_bytes call_bytes cs))
calls_few (path part ∷ cs) = omega (arith, calls_few cs, length-append part (list_bytes call_bytes cs))
calls_few (back ∷ cs) = omega (arith, calls_few cs)
calls_few (close ∷ cs) = omega (arith, calls_few cs)

-- the calls of a script
pub script_has : (P : List ℕ) (calls : List Call) → Has (script_bytes P calls) (2 + length P) calls
script_has P calls = let n : length (part_bytes P) ≡ 2 + length P = omega arith in rw (← n) (calls_there (part_bytes P) calls)

pub script_long : (P : List ℕ) (calls : List Call) → length calls ≤ length (script_bytes P calls)
script_long P calls = omega (arith, calls_few calls, length-append (part_bytes P) (list_bytes call_bytes calls))

-- THEY ARE READ BACK
none-back : (k : ℕ) (s : List ℕ) (at : ℕ) → leb (length s) at ≡ true → calls_from k s at ≡ []
unfolding calls_from
none-back zero s at h = refl
none-back (suc k) s at h = rw h

calls_back : (k : ℕ) (s : List ℕ) (at : ℕ) (calls : List Call) → Has s at calls → length calls ≤ k → calls_from k s at ≡ calls
unfolding calls_from
calls_back k s at [] h f = none-back k s at h
calls_back zero s at (c ∷ cs) h f = absurd (omega arith)
calls_back (suc k) s at (start part ∷ cs) h f =
    let c = h.0 in
    rw (c.inside, c.byte, c.within, c.handed) (ap (λ (l : List Call). start part ∷ l) (calls_back k s (at + 3 + length part) cs h.1 (omega arith)))
calls_back (suc k) s at (path part ∷ cs) h f =
    let c = h.0 in
    rw (c.inside, c.byte, c.within, c.handed) (ap (λ (l : List Call). path part ∷ l) (calls_back k s (at + 3 + length part) cs h.1 (omega arith)))
calls_back (suc k) s at (back ∷ cs) h f =
    let c = h.0 in
    rw (c.inside, c.byte) (ap (λ (l : List Call). back ∷ l) (calls_back k s (at + 1) cs h.1 (omega arith)))
calls_back (suc k) s at (close ∷ cs) h f =
    let c = h.0 in
    rw (c.inside, c.byte) (ap (λ (l : List Call). close ∷ l) (calls_back k s (at + 1) cs h.1 (omega arith)))

-- A SCRIPT is bytes
written-part : (part behind : List ℕ) → length part < 65536 → Bytes part → Bytes behind → Bytes (part_bytes part ++ behind)
written-part part behind h f g =
    bytes_cons (length part % 256) ((length part / 256) ∷ part ++ behind) (omega arith)
    (bytes_cons (length part / 256) (part ++ behind) (omega arith) (bytes_append part behind f g))

written-calls : (calls : List Call) → Short calls → CallBytes calls → Bytes (list_bytes call_bytes calls)
unfolding list_bytes
written-calls [] h f = λ i. omega arith
written-calls (start part ∷ cs) h f = bytes_cons 115 (part_bytes part ++ list_bytes call_bytes cs) (omega arith) (written-part part (list_bytes call_bytes cs) h.0 f.0 (written-calls cs h.1 f.1))
written-calls (path part ∷ cs) h f = bytes_cons 112 (part_bytes part ++ list_bytes call_bytes cs) (omega arith) (written-part part (list_bytes call_bytes cs) h.0 f.0 (written-calls cs h.1 f.1))
written-calls (back ∷ cs) h f = bytes_cons 98 (list_bytes call_bytes cs) (omega arith) (written-calls cs h f)
written-calls (close ∷ cs) h f = bytes_cons 99 (list_bytes call_bytes cs) (omega arith) (written-calls cs h f)

pub scripts_encode : ScriptsEncode
scripts_encode P calls h f =
    record {
      plan-at = part_at_lem [] P (list_bytes call_bytes calls) 0 refl;
      plan = part_of_lem [] P (list_bytes call_bytes calls) 0 refl;
      bytes = λ p c. written-part P (list_bytes call_bytes calls) h p (written-calls calls f c);
      calls_behind = calls_back (length (script_bytes P calls)) (script_bytes P calls) (2 + length P) calls (script_has P calls) (script_long P calls);
    }

-- A REPLAY from a place on: where count answers stand in the buffer and room more go into it, it tells these, and it ends in one of four ways
record TellsOn (r : Reply) (buffer : List ℕ) (count room : ℕ) (answers : List Answer) : Type 0 where
  count-then : r.count ≡ count + min (length answers) room
  buffer_then : r.buffer ≡ overwritten buffer (8 * count) (list_bytes answer_bytes (take room answers))
  ended : r.status ≤ 3

module _ (buffer : List ℕ) (count : ℕ) where
  room_for : 8 * (count + 1) ≤ length buffer → has_room_for buffer count ≡ true
  room_for h = le-leb (8 * count + 8) (length buffer) (omega arith)

  answer_kept : (a : Answer) → 8 * (count + 1) ≤ length buffer → length (with_answer buffer count a) ≡ length buffer
  answer_kept a h = let n = word-length 8 (answer_word a) in overwritten-length buffer (8 * count) (answer_bytes a) (omega arith)

  room-left : (a : Answer) (more : ℕ) → 8 * (count + suc more) ≤ length buffer → 8 * (count + 1 + more) ≤ length (with_answer buffer count a)
  room-left a more h = rw (answer_kept a (omega arith)) (omega arith)

  tells_none : (room status : ℕ) → status ≤ 3 → TellsOn (reply buffer count status) buffer count room []
  unfolding list_bytes
  tells_none room status h = record { count-then = omega arith; buffer_then = rw (take-nil {A = Answer} room) (sym (overwritten-none buffer (8 * count))); ended = h }

  -- one more answer, where there is room
  one_more : (room : ℕ) → count + room ≡ length buffer / 8 → (a : Answer) (answers : List Answer) (r : Reply)
      → ((left : ℕ) → count + 1 + left ≡ length (with_answer buffer count a) / 8 → TellsOn r (with_answer buffer count a) (count + 1) left answers)
      → TellsOn (cond (has_room_for buffer count) r (reply buffer count 3)) buffer count room (a ∷ answers)
  unfolding list_bytes
  one_more zero h a answers r next =
      let f : has_room_for buffer count ≡ false = lt-leb (8 * count + 8) (length buffer) (omega arith) in
      rw f (record { count-then = omega arith; buffer_then = sym (overwritten-none buffer (8 * count)); ended = omega arith })
  one_more (suc left) h a answers r next =
      let n = word-length 8 (answer_word a) in
      let t = next left (rw (answer_kept a (omega arith)) (omega arith)) in
      let at : 8 * (count + 1) ≡ 8 * count + length (answer_bytes a) = omega arith in
      rw (room_for (omega arith)) (record {
        count-then = t.count-then ∙ omega arith;
        buffer_then = t.buffer_then ∙ rw at (overwritten-more buffer (8 * count) (answer_bytes a) (omega arith) (list_bytes answer_bytes (take left answers)));
        ended = t.ended;
      })

-- a call by its byte is the call that this byte says
step-called : (call : ℕ) (session : Session) (part : List ℕ) → step_of call session part ≡ called session (call_of call part)
step-called call session part = go (eqb call 115)
  where
    go : (b : Bool) → cond b (start_step session part) (path_step session part) ≡ called session (cond b (start part) (path part))
    go true = refl
    go false = refl

lone_called : (call : ℕ) (session : Session) → lone_of call session ≡ called session (lone_call call)
lone_called call session = go (eqb call 99)
  where
    go : (b : Bool) → cond b (close_step session) (back_step session) ≡ called session (cond b close back)
    go true = refl
    go false = refl

-- k calls of a script, from any place and session on
abbrev Replays : ℕ → List ℕ → Type 0
Replays k s =
    (session : Session) (at : ℕ) (buffer : List ℕ) (count room : ℕ) → count + room ≡ length buffer / 8
    → TellsOn (replay_on k s session at buffer count) buffer count room (answers_of session (calls_from k s at))

turn_tells : (k : ℕ) (s : List ℕ) → Replays k s → Replays (suc k) s
unfolding replay_on calls_from
turn_tells k s rest session at buffer count room h = go (leb (length s) at) (is_lone (get_or s at 0)) (eqb (get_or s at 0) 115 || eqb (get_or s at 0) 112) (part_at s (at + 1))
  where
    go : (b c d : Bool) (p : Option (ℕ × ℕ)) → TellsOn
        (cond b (reply buffer count 0) (cond c
        (cond (has_room_for buffer count)
        (replay_on k s (lone_of (get_or s at 0) session).session (at + 1) (with_answer buffer count (lone_of (get_or s at 0) session).answer) (count + 1)) (reply buffer count 3))
        (cond d (on_part p (reply buffer count 1) (λ start end.
        cond (has_room_for buffer count)
        (replay_on k s (step_of (get_or s at 0) session (part_of s start end)).session end (with_answer buffer count (step_of (get_or s at 0) session (part_of s start end)).answer) (count + 1))
        (reply buffer count 3))) (reply buffer count 2))))
        buffer count room (answers_of session (cond b [] (cond c (lone_call (get_or s at 0) ∷ calls_from k s (at + 1))
        (cond d (on_part_calls p (λ a e. call_of (get_or s at 0) (part_of s a e) ∷ calls_from k s e)) []))))
    go true c d p = tells_none buffer count room 0 (omega arith)
    go false true d p = rw (lone_called (get_or s at 0) session) (one_more buffer count room h _ _ _ (λ left e. rest _ (at + 1) _ (count + 1) left e))
    go false false true None = tells_none buffer count room 1 (omega arith)
    go false false true (Some p) = rw (step-called (get_or s at 0) session (part_of s p.0 p.1)) (one_more buffer count room h _ _ _ (λ left f. rest _ p.1 _ (count + 1) left f))
    go false false false p = tells_none buffer count room 2 (omega arith)

replay_tells : (k : ℕ) (s : List ℕ) → Replays k s
unfolding replay_on calls_from
replay_tells zero s = λ session at buffer count room h. tells_none buffer count room 0 (omega arith)
replay_tells (suc k) s = turn_tells k s (replay_tells k s)

opened-tells : (s buffer : List ℕ) (a e : ℕ) → TellsOn (opened s buffer a e) buffer 0 (length buffer / 8) (script_answers s a e)
opened-tells s buffer a e = one_more buffer 0 (length buffer / 8) (omega arith) (opening (part_of s a e)).answer _ _ (λ left f. replay_tells (length s) s _ e _ 1 left f)

pub scripts_replay : ScriptsReplay
scripts_replay s buffer a e w = let t = opened-tells s buffer a e in record { count = rw w (t.count-then ∙ omega arith); buffer_then = rw w t.buffer_then }

pub script_cut : ScriptCut
script_cut s buffer e = rw e

-- so, cut or not: no more answers than have room, and one of the four endings
pub record Bounded (buffer : List ℕ) (r : Reply) : Type 0 where
  pub count : r.count ≤ length buffer / 8
  pub status : r.status ≤ 3

pub replay_bounded : (s buffer : List ℕ) → Bounded buffer (replay_of s buffer)
replay_bounded s buffer = go (part_at s 0)
  where
    go : (p : Option (ℕ × ℕ)) → Bounded buffer (on_part p (reply buffer 0 1) (opened s buffer))
    go None = record { count = omega arith; status = omega arith }
    go (Some p) = let t = opened-tells s buffer p.0 p.1 in record { count = omega (arith, t.count-then); status = t.ended }

-- as many answers as calls
answers-many : (s : Session) (calls : List Call) → length (answers_of s calls) ≡ length calls
answers-many s [] = refl
answers-many s (c ∷ cs) = ap suc (answers-many (called s c).session cs)

-- THE REPLY to a script: where all of its calls are calls and every answer has room, the replay ends at its end
ends : (k : ℕ) (s : List ℕ) (session : Session) (at : ℕ) (buffer : List ℕ) (count : ℕ) (calls : List Call) → Has s at calls → length calls ≤ k
    → 8 * (count + length calls) ≤ length buffer → (replay_on k s session at buffer count).status ≡ 0
unfolding replay_on
ends zero s session at buffer count calls h f r = refl
ends (suc k) s session at buffer count [] h f r = rw h
ends (suc k) s session at buffer count (start part ∷ cs) h f r =
    let c = h.0 in
    rw (c.inside, c.byte, c.within, c.handed, room_for buffer count (omega arith))
    (ends k s (start_step session part).session (at + 3 + length part) _ (count + 1) cs h.1 (omega arith) (room-left buffer count (start_step session part).answer (length cs) r))
ends (suc k) s session at buffer count (path part ∷ cs) h f r =
    let c = h.0 in
    rw (c.inside, c.byte, c.within, c.handed, room_for buffer count (omega arith))
    (ends k s (path_step session part).session (at + 3 + length part) _ (count + 1) cs h.1 (omega arith) (room-left buffer count (path_step session part).answer (length cs) r))
ends (suc k) s session at buffer count (back ∷ cs) h f r =
    let c = h.0 in
    rw (c.inside, c.byte, room_for buffer count (omega arith))
    (ends k s (back_step session).session (at + 1) _ (count + 1) cs h.1 (omega arith) (room-left buffer count (back_step session).answer (length cs) r))
ends (suc k) s session at buffer count (close ∷ cs) h f r =
    let c = h.0 in
    rw (c.inside, c.byte, room_for buffer count (omega arith))
    (ends k s (close_step session).session (at + 1) _ (count + 1) cs h.1 (omega arith) (room-left buffer count (close_step session).answer (length cs) r))

pub script_replies : ScriptReplies
script_replies P calls buffer p f r =
    let s = script_bytes P calls in
    let answers = (opening P).answer ∷ answers_of (opening P).session calls in
    let e = scripts_encode P calls p f in
    let t = scripts_replay s buffer 2 (2 + length P) e.plan-at in
    let told : script_answers s 2 (2 + length P) ≡ answers = rw (e.plan, e.calls_behind) in
    let n = answers-many (opening P).session calls in
    let all : take (length buffer / 8) answers ≡ answers = take_all (length buffer / 8) answers (omega arith) in
    let b = t.buffer_then ∙ ap (λ (l : List Answer). overwritten buffer 0 (list_bytes answer_bytes l)) (ap (take (length buffer / 8)) told ∙ all) in
    let c : (replay_of s buffer).count ≡ suc (length calls) = omega (arith, t.count, ap length told) in
    let z : (replay_of s buffer).status ≡ 0 = rw (e.plan-at, room_for buffer 0 (omega arith), e.plan)
    (ends (length s) s (opening P).session (2 + length P) (with_answer buffer 0 (opening P).answer) 1 calls (script_has P calls) (script_long P calls)
    (room-left buffer 0 (opening P).answer (length calls) (omega arith))) in
    λ i. reply (b i) (c i) (z i)
