-- A script replayed: the answers of its calls, the opening's first, each as a word of eight bytes.
use Rattle.std.specs.Prelude.{ℕ, zero, suc, ◌+◌, ◌*◌, ◌-◌, ◌/◌, ◌%◌, List, [], ◌∷◌, Bool, cond, ◌||◌, Option, Some, None, length, get_or, take, drop, leb, eqb}
use Rattle.record.specs.Write.{overwritten}
use Rattle.record.specs.declared.Answer.{Answer}
use Rattle.record.specs.declared.Answer.TheVariants.{Accepted, Grade, PlanFault, CertificateFault}
use Rattle.sessions.specs.declared.Session.{Session}
use Rattle.sessions.specs.declared.Stepped.{Stepped}
use Rattle.sessions.specs.Session.{opening, start_step, path_step, back_step, close_step}
use Rattle.script.specs.declared.Replayed.{Replayed}
use Rattle.script.specs.declared.Status.{Status}
use Rattle.script.specs.declared.Status.TheVariants.{Whole, InsideCall, UnknownCall, NoRoom}
use Rattle.script.specs.Script.{part_at}

-- an answer as one word: the case in the lowest byte, the papers' number or the grade in the next, the place in the six above
abbrev pub word : ℕ → ℕ → ℕ → ℕ
word kind number place = kind + 256 * number + 65536 * (place % 281474976710656)

abbrev pub answer_word : Answer → ℕ
answer_word Accepted = word 0 0 0
answer_word (Grade k) = word 1 k 0
answer_word (PlanFault r p) = word 2 r p
answer_word (CertificateFault r p) = word 3 r p

-- the k lowest bytes of a word, the lowest first
unfoldable pub word_bytes : ℕ → ℕ → List ℕ
word_bytes zero w = []
word_bytes (suc k) w = w % 256 ∷ word_bytes k (w / 256)

abbrev pub answer_bytes : Answer → List ℕ
answer_bytes a = word_bytes 8 (answer_word a)

-- the buffer with answers at its start, and how many; how the script ended: 0 at its end, 1 inside a call, 2 at an unknown call,
-- 3 where the buffer had no room for the next answer
pub record Reply : Type 0 where
  pub buffer : List ℕ
  pub count : ℕ
  pub status : ℕ

abbrev pub reply : List ℕ → ℕ → ℕ → Reply
reply buffer count status = record { buffer = buffer; count = count; status = status }

-- one more answer, where there is room for it
abbrev pub has_room_for : List ℕ → ℕ → Bool
has_room_for buffer count = leb (8 * count + 8) (length buffer)

abbrev pub with_answer : List ℕ → ℕ → Answer → List ℕ
with_answer buffer count a = overwritten buffer (8 * count) (answer_bytes a)

-- the buffer after an answer that may have no room
abbrev pub answered : List ℕ → ℕ → Answer → List ℕ
answered buffer count a = cond (has_room_for buffer count) (with_answer buffer count a) buffer

abbrev pub part_of : List ℕ → ℕ → ℕ → List ℕ
part_of s start end = take (end - start) (drop start s)

abbrev pub step_of : ℕ → Session → List ℕ → Stepped
step_of call session part = cond (eqb call 115) (start_step session part) (path_step session part)

-- a call without a part: 99 is `c`, 98 is `b`
abbrev pub is_lone : ℕ → Bool
is_lone call = eqb call 99 || eqb call 98

abbrev pub lone_of : ℕ → Session → Stepped
lone_of call session = cond (eqb call 99) (close_step session) (back_step session)

-- a part, or that the script is cut short
abbrev pub on_part : {A : Type 0} → Option (ℕ × ℕ) → A → (ℕ → ℕ → A) → A
on_part None short f = short
on_part (Some p) short f = f p.0 p.1

-- the calls from a place on, at most k more: 115 is `s`, 112 is `p`
unfoldable pub replay_on : ℕ → List ℕ → Session → ℕ → List ℕ → ℕ → Reply
replay_on zero s session at buffer count = reply buffer count 0
replay_on (suc k) s session at buffer count =
    cond (leb (length s) at)
    (reply buffer count 0)
    (cond (is_lone (get_or s at 0))
    (cond (has_room_for buffer count)
    (replay_on k s (lone_of (get_or s at 0) session).session (at + 1) (with_answer buffer count (lone_of (get_or s at 0) session).answer) (count + 1))
    (reply buffer count 3))
    (cond (eqb (get_or s at 0) 115 || eqb (get_or s at 0) 112)
    (on_part (part_at s (at + 1)) (reply buffer count 1) (λ start end.
    cond (has_room_for buffer count)
    (replay_on k s (step_of (get_or s at 0) session (part_of s start end)).session end
    (with_answer buffer count (step_of (get_or s at 0) session (part_of s start end)).answer) (count + 1))
    (reply buffer count 3)))
    (reply buffer count 2)))

-- THE REPLAY of a script into a buffer
abbrev pub opened : List ℕ → List ℕ → ℕ → ℕ → Reply
opened s buffer start end =
    cond (has_room_for buffer 0)
    (replay_on (length s) s (opening (part_of s start end)).session end (with_answer buffer 0 (opening (part_of s start end)).answer) 1)
    (reply buffer 0 3)

abbrev pub replay_of : List ℕ → List ℕ → Reply
replay_of s buffer = on_part (part_at s 0) (reply buffer 0 1) (opened s buffer)

-- how a script ended, as the code has it; a reply has no other number
abbrev pub status_of : ℕ → Status
status_of zero = Whole
status_of (suc zero) = InsideCall
status_of (suc (suc zero)) = UnknownCall
status_of (suc (suc (suc n))) = NoRoom

abbrev pub status_number : Status → ℕ
status_number Whole = 0
status_number InsideCall = 1
status_number UnknownCall = 2
status_number NoRoom = 3

abbrev pub replayed_of : Reply → Replayed
replayed_of r = record { count = r.count; status = status_of r.status }
