-- A walk through the members of a set, ascending, from each straight to the next, at any number of words: where it stands, what a
-- step does, and how many steps it takes.
use Rattle.std.specs.Prelude.{Bool, cond, not, List, [], ◌∷◌, ℕ, zero, suc, ◌+◌, ◌*◌, ◌/◌, ◌%◌, ◌^◌, length, get_or, eqb, ltb}
use Rattle.std.specs.Int.Bits.{bit_xor}
use Rattle.std.specs.Int.Count.{count_trailing_zeros}
use Rattle.vertexset.specs.declared.Cursor.{Cursor}

-- the walk that stands at bit k of word i, with what is left of that word from this bit on; where there is no such word it is over
abbrev pub standing : List ℕ → ℕ → ℕ → Cursor
standing ws i k = cond (ltb i (length ws)) (record { word = i; rest = get_or ws i 0 / 2 ^ k * 2 ^ k }) (record { word = length ws; rest = 0 })

-- the walk through the members that are not below v
abbrev pub walk_from : List ℕ → ℕ → Cursor
walk_from ws v = standing ws (v / 64) (v % 64)

-- one of the n words is at work; in code n is `wordCount`
abbrev pub going : ℕ → Cursor → Bool
going n w = ltb w.word n

-- a member is left in it
abbrev pub meets : Cursor → Bool
meets w = not (eqb w.rest 0)

-- the least of these, by the zeros below the lowest bit
abbrev pub met : Cursor → ℕ
met w = 64 * w.word + count_trailing_zeros 64 w.rest

-- ONE STEP: behind the member that is met, by its bit; where the word has none left, on to the next word
abbrev pub stepped : List ℕ → Cursor → Cursor
stepped ws w = cond (meets w)
    (record { word = w.word; rest = bit_xor w.rest (2 ^ count_trailing_zeros 64 w.rest) })
    (standing ws (w.word + 1) 0)

-- how many of k steps are taken before the walk is over
unfoldable pub steps : List ℕ → ℕ → Cursor → ℕ
steps ws zero w = 0
steps ws (suc k) w = cond (going (length ws) w) (suc (steps ws k (stepped ws w))) 0

-- the members that are met in k steps
unfoldable pub walked : List ℕ → ℕ → Cursor → List ℕ
walked ws zero w = []
walked ws (suc k) w = cond (going (length ws) w) (cond (meets w) (met w ∷ walked ws k (stepped ws w)) (walked ws k (stepped ws w))) []
