-- WHAT CALLERS IN OTHER LANGUAGES GET: answers as words, and scripts of session calls.
use Rattle.std.specs.Prelude.{ℕ, zero, suc, ◌+◌, ◌*◌, ◌/◌, ◌%◌, ◌<◌, ◌^◌, min, List, [], ◌∷◌, ◌++◌, cond, ◌||◌, ◌≡◌, Option, Some, None, length, get_or, take, drop, leb, eqb}
use Rattle.record.specs.Number.{list_bytes}
use Rattle.record.specs.Write.{overwritten}
use Rattle.record.specs.declared.Answer.{Answer}
use Rattle.record.specs.declared.Answer.TheVariants.{Accepted, Grade, PlanFault, CertificateFault}
use Rattle.sessions.specs.declared.Session.{Session}
use Rattle.sessions.specs.Session.{opening}
use Rattle.script.specs.Script.{part_at}
use Rattle.script.specs.Replay.{answer_bytes, part_of, is_lone, replay_of}
use Rattle.claims.specs.Calls.{Call, Call.start, Call.path, Call.back, Call.close, called}

-- A WORD taken apart: the case in the lowest byte, the number in the next, the place in the six above
abbrev pub in_word : ℕ → ℕ → ℕ → Answer
in_word zero number place = Accepted
in_word (suc zero) number place = Grade number
in_word (suc (suc zero)) number place = PlanFault number place
in_word (suc (suc (suc k))) number place = CertificateFault number place

abbrev pub decoded : ℕ → Answer
decoded w = in_word (w % 256) (w / 256 % 256) (w / 65536)

-- a number of one byte, and a place below 2 to the 48
abbrev pub Fits : Answer → Type 0
Fits Accepted = Unit {0}
Fits (Grade k) = k < 256
Fits (PlanFault r p) = (r < 256) × (p < 2 ^ 48)
Fits (CertificateFault r p) = (r < 256) × (p < 2 ^ 48)

-- the word at place i of a buffer of words, eight bytes each, the lowest first
abbrev pub word_of : List ℕ → ℕ
word_of [] = 0
word_of (b ∷ l) = b + 256 * word_of l

abbrev pub word_at : List ℕ → ℕ → ℕ
word_at buffer i = word_of (take 8 (drop (8 * i) buffer))

-- A SCRIPT of a plan record and a list of calls: a part is its length in two bytes, the lower first, then its bytes
abbrev pub part_bytes : List ℕ → List ℕ
part_bytes part = (length part % 256) ∷ (length part / 256) ∷ part

abbrev pub call_bytes : Call → List ℕ
call_bytes (start part) = 115 ∷ part_bytes part
call_bytes (path part) = 112 ∷ part_bytes part
call_bytes back = 98 ∷ []
call_bytes close = 99 ∷ []

abbrev pub script_bytes : List ℕ → List Call → List ℕ
script_bytes P calls = part_bytes P ++ list_bytes call_bytes calls

-- no part is longer than two bytes can say
abbrev pub Short : List Call → Type 0
Short [] = Unit {0}
Short (start part ∷ cs) = (length part < 65536) × Short cs
Short (path part ∷ cs) = (length part < 65536) × Short cs
Short (back ∷ cs) = Short cs
Short (close ∷ cs) = Short cs

-- THE CALLS THAT A SCRIPT HAS from a place on, at most k: up to its end, to a part that is cut, or to a call that is none
abbrev pub call_of : ℕ → List ℕ → Call
call_of call part = cond (eqb call 115) (start part) (path part)

abbrev pub lone_call : ℕ → Call
lone_call call = cond (eqb call 99) close back

abbrev pub on_part_calls : Option (ℕ × ℕ) → (ℕ → ℕ → List Call) → List Call
on_part_calls None f = []
on_part_calls (Some p) f = f p.0 p.1

unfoldable pub calls_from : ℕ → List ℕ → ℕ → List Call
calls_from zero s at = []
calls_from (suc k) s at =
    cond (leb (length s) at)
    []
    (cond (is_lone (get_or s at 0))
    (lone_call (get_or s at 0) ∷ calls_from k s (at + 1))
    (cond (eqb (get_or s at 0) 115 || eqb (get_or s at 0) 112)
    (on_part_calls (part_at s (at + 1)) (λ a e. call_of (get_or s at 0) (part_of s a e) ∷ calls_from k s e))
    []))

-- the answers of a list of calls, one after the other
abbrev pub answers_of : Session → List Call → List Answer
answers_of s [] = []
answers_of s (c ∷ cs) = (called s c).answer ∷ answers_of (called s c).session cs

-- all answers that a script gets whose first part is the plan record from a to e: the opening's, then those of its calls
abbrev pub script_answers : List ℕ → ℕ → ℕ → List Answer
script_answers s a e = (opening (part_of s a e)).answer ∷ answers_of (opening (part_of s a e)).session (calls_from (length s) s e)

-- a replay tells these answers: as many of them, from the first on, as have room, eight bytes each, and every other byte stays
pub record Tells (s buffer : List ℕ) (answers : List Answer) : Type 0 where
  pub count : (replay_of s buffer).count ≡ min (length answers) (length buffer / 8)
  pub buffer_then : (replay_of s buffer).buffer ≡ overwritten buffer 0 (list_bytes answer_bytes (take (length buffer / 8) answers))
