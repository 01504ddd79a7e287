-- Lines of text, in ASCII.
use Rattle.std.specs.Prelude.{ℕ, zero, suc, ◌+◌, ◌/◌, ◌%◌, List, [], ◌∷◌, ◌++◌, cond, length, ltb}
use Rattle.record.specs.Write.{overwritten, has_room}
use Rattle.record.specs.declared.Answer.{Answer}
use Rattle.record.specs.declared.Answer.TheVariants.{Accepted, Grade, PlanFault, CertificateFault}

-- a number in decimal, the last k digits at most; 48 is `0`
unfoldable pub digits_in : ℕ → ℕ → List ℕ
digits_in zero n = []
digits_in (suc k) n = cond (ltb n 10) ((48 + n) ∷ []) (digits_in k (n / 10) ++ ((48 + n % 10) ∷ []))

-- a number has no more digits than one more than itself
abbrev pub decimal : ℕ → List ℕ
decimal n = digits_in (suc n) n

-- `plan`, `certificate`, ` refused `, ` at ` and the line's end
abbrev pub plan_word : List ℕ
plan_word = 112 ∷ 108 ∷ 97 ∷ 110 ∷ []

abbrev pub certificate_word : List ℕ
certificate_word = 99 ∷ 101 ∷ 114 ∷ 116 ∷ 105 ∷ 102 ∷ 105 ∷ 99 ∷ 97 ∷ 116 ∷ 101 ∷ []

abbrev pub refused_word : List ℕ
refused_word = 32 ∷ 114 ∷ 101 ∷ 102 ∷ 117 ∷ 115 ∷ 101 ∷ 100 ∷ 32 ∷ []

abbrev pub at_word : List ℕ
at_word = 32 ∷ 97 ∷ 116 ∷ 32 ∷ []

abbrev pub newline : List ℕ
newline = 10 ∷ []

-- whose record is refused, by which number, at which place
unfoldable pub fault_line : List ℕ → ℕ → ℕ → List ℕ
fault_line who number place = who ++ refused_word ++ decimal number ++ at_word ++ decimal place ++ newline

-- an answer that refuses nothing has no such line
abbrev pub refusal_line : Answer → List ℕ
refusal_line Accepted = []
refusal_line (Grade k) = []
refusal_line (PlanFault r p) = fault_line plan_word r p
refusal_line (CertificateFault r p) = fault_line certificate_word r p

-- `boxes `, ` cables ` and ` grade `; the line `input too long`
abbrev pub boxes_text : List ℕ
boxes_text = 98 ∷ 111 ∷ 120 ∷ 101 ∷ 115 ∷ 32 ∷ []

abbrev pub cables_text : List ℕ
cables_text = 32 ∷ 99 ∷ 97 ∷ 98 ∷ 108 ∷ 101 ∷ 115 ∷ 32 ∷ []

abbrev pub grade_text : List ℕ
grade_text = 32 ∷ 103 ∷ 114 ∷ 97 ∷ 100 ∷ 101 ∷ 32 ∷ []

abbrev pub too_long_line : List ℕ
too_long_line = 105 ∷ 110 ∷ 112 ∷ 117 ∷ 116 ∷ 32 ∷ 116 ∷ 111 ∷ 111 ∷ 32 ∷ 108 ∷ 111 ∷ 110 ∷ 103 ∷ 10 ∷ []

-- a plan's numbers of boxes and cables
abbrev pub size_text : ℕ → ℕ → List ℕ
size_text n m = boxes_text ++ decimal n ++ cables_text ++ decimal m

-- document 01: "up to 4,096 bytes together"; the other programs that read a plan keep to it
abbrev pub input_limit : ℕ
input_limit = 4096

-- what is printed for an input that may be too long, where f is what is printed for one that is not
abbrev pub limited : (List ℕ → List ℕ) → List ℕ → List ℕ
limited f s = cond (ltb input_limit (length s)) too_long_line (f s)

-- a buffer that has room for every line
abbrev pub longest : ℕ
longest = 48

-- the place behind bytes put at a place of a buffer, and the buffer then: both as they were where the bytes have no room
abbrev pub place_after : List ℕ → ℕ → List ℕ → ℕ
place_after buffer at bytes = cond (has_room buffer at bytes) (at + length bytes) at

abbrev pub written : List ℕ → ℕ → List ℕ → List ℕ
written buffer at bytes = cond (has_room buffer at bytes) (overwritten buffer at bytes) buffer
