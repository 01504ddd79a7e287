-- WHAT THE SESSION PROGRAM PRINTS, as a function of the script that it reads: a line for each call, the opening's first.
use Rattle.std.specs.Prelude.{ℕ, zero, suc, ◌+◌, ◌-◌, List, [], ◌∷◌, ◌++◌, cond, ◌||◌, length, get_or, ltb, leb, eqb}
use Rattle.record.specs.declared.Answer.{Answer}
use Rattle.record.specs.declared.Answer.TheVariants.{Accepted, Grade, PlanFault, CertificateFault}
use Rattle.sessions.specs.declared.Session.{Session}
use Rattle.sessions.specs.declared.Stepped.{Stepped}
use Rattle.sessions.specs.Session.{no_session, opening}
use Rattle.script.specs.Script.{part_at}
use Rattle.script.specs.Replay.{on_part, part_of, step_of, is_lone, lone_of}
use Rattle.lines.specs.Lines.{decimal, newline, too_long_line, refusal_line, place_after}
use Rattle.sessionlines.specs.declared.Turn.{Turn}

-- the longest script, in bytes
abbrev pub script_limit : ℕ
script_limit = 65536

-- `grade `, `accepted`, and `accepted ` before the number of bytes that were not read; the lines `script cut short` and `unknown call`
abbrev pub closed_word : List ℕ
closed_word = 103 ∷ 114 ∷ 97 ∷ 100 ∷ 101 ∷ 32 ∷ []

abbrev pub accepted_word : List ℕ
accepted_word = 97 ∷ 99 ∷ 99 ∷ 101 ∷ 112 ∷ 116 ∷ 101 ∷ 100 ∷ []

abbrev pub unread_word : List ℕ
unread_word = 97 ∷ 99 ∷ 99 ∷ 101 ∷ 112 ∷ 116 ∷ 101 ∷ 100 ∷ 32 ∷ []

abbrev pub cut_short : List ℕ
cut_short = 115 ∷ 99 ∷ 114 ∷ 105 ∷ 112 ∷ 116 ∷ 32 ∷ 99 ∷ 117 ∷ 116 ∷ 32 ∷ 115 ∷ 104 ∷ 111 ∷ 114 ∷ 116 ∷ 10 ∷ []

abbrev pub unknown_call : List ℕ
unknown_call = 117 ∷ 110 ∷ 107 ∷ 110 ∷ 111 ∷ 119 ∷ 110 ∷ 32 ∷ 99 ∷ 97 ∷ 108 ∷ 108 ∷ 10 ∷ []

-- the line of an answer
abbrev pub answer_line : Answer → List ℕ
answer_line Accepted = accepted_word ++ newline
answer_line (Grade k) = closed_word ++ decimal k ++ newline
answer_line (PlanFault r p) = refusal_line (PlanFault r p)
answer_line (CertificateFault r p) = refusal_line (CertificateFault r p)

-- a start or a path that is accepted tells how many bytes were not read
abbrev pub step_line : ℕ → Answer → List ℕ
step_line unread Accepted = unread_word ++ decimal unread ++ newline
step_line unread (Grade k) = answer_line (Grade k)
step_line unread (PlanFault r p) = answer_line (PlanFault r p)
step_line unread (CertificateFault r p) = answer_line (CertificateFault r p)

-- one turn: its line, the session then, and where the script goes on: at its end nothing more is printed
pub record Printed : Type 0 where
  pub bytes : List ℕ
  pub session : Session
  pub at : ℕ

abbrev pub printed : List ℕ → Session → ℕ → Printed
printed bytes session at = record { bytes = bytes; session = session; at = at }

-- the opening
unfoldable pub open_turn : List ℕ → Printed
open_turn s =
    cond (ltb script_limit (length s))
    (printed too_long_line no_session (length s))
    (on_part (part_at s 0) (printed cut_short no_session (length s)) (λ start end.
    printed (answer_line (opening (part_of s start end)).answer) (opening (part_of s start end)).session end))

-- a start or a path with the part from start to end
abbrev pub step_turn : Stepped → ℕ → ℕ → Printed
step_turn x start end = printed (step_line (end - start - x.read) x.answer) x.session end

-- the call at a place
unfoldable pub call_turn : List ℕ → Session → ℕ → Printed
call_turn s session at =
    cond (leb (length s) at)
    (printed [] session at)
    (cond (is_lone (get_or s at 0))
    (printed (answer_line (lone_of (get_or s at 0) session).answer) (lone_of (get_or s at 0) session).session (at + 1))
    (cond (eqb (get_or s at 0) 115 || eqb (get_or s at 0) 112)
    (on_part (part_at s (at + 1)) (printed cut_short session (length s)) (λ start end. step_turn (step_of (get_or s at 0) session (part_of s start end)) start end))
    (printed unknown_call session (length s))))

-- a turn beside a lent buffer: how many bytes at its start are the line
abbrev pub turn_in : List ℕ → Printed → Turn
turn_in buffer t = record { session = t.session; at = t.at; len = place_after buffer 0 t.bytes }

-- all that the program prints: turn after turn, at most k more
unfoldable pub lines_from : ℕ → List ℕ → Session → ℕ → List ℕ
lines_from zero s session at = []
lines_from (suc k) s session at = (call_turn s session at).bytes ++ lines_from k s (call_turn s session at).session (call_turn s session at).at

abbrev pub script_lines : List ℕ → List ℕ
script_lines s = (open_turn s).bytes ++ lines_from (length s) s (open_turn s).session (open_turn s).at
