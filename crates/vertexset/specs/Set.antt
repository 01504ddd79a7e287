-- Vertex sets (sets of boxes) as lists of words, 64 vertices to a word, at any number of words.
use Rattle.std.specs.Prelude.{Bool, true, cond, ◌&&◌, List, [], ◌∷◌, ℕ, zero, suc, ◌+◌, ◌*◌, ◌-◌, ◌/◌, ◌%◌, ◌^◌, ◌<◌, length, get_or, set, replicate, eqb}
use Rattle.std.specs.Int.Bits.{bit_or, bit_and, bit_xor}
use Rattle.std.specs.Int.Count.{ones}
use Rattle.vertexset.specs.declared.VertexSet.{VertexSet}

-- how many words a vertex set has
abbrev pub word_count : ℕ
word_count = 2

-- the vertices below it can be members of a set
abbrev pub capacity : ℕ
capacity = 64 * word_count

-- every word has 64 bits
abbrev pub Words : List ℕ → Type 0
Words ws = (i : ℕ) → get_or ws i 0 < 2 ^ 64

-- vertex v is a member: bit v % 64 of word v / 64 is 1; no vertex past the words is one
abbrev pub has : List ℕ → ℕ → Bool
has ws v = eqb (get_or ws (v / 64) 0 / 2 ^ (v % 64) % 2) 1

-- the set without members
abbrev pub empty_set : VertexSet
empty_set = record { words = replicate word_count 0 }

-- the words with that bit set; nothing changes where v is past the words
abbrev pub with_bit : List ℕ → ℕ → List ℕ
with_bit ws v = set ws (v / 64) (bit_or (get_or ws (v / 64) 0) (2 ^ (v % 64)))

-- the set with v as a member
abbrev pub inserted : VertexSet → ℕ → VertexSet
inserted s v = record { words = with_bit s.words v }

-- the bits of x that are not bits of y
abbrev pub less : ℕ → ℕ → ℕ
less x y = bit_xor x (bit_and x y)

-- the words without that bit; nothing changes where v is past the words
abbrev pub without_bit : List ℕ → ℕ → List ℕ
without_bit ws v = set ws (v / 64) (less (get_or ws (v / 64) 0) (2 ^ (v % 64)))

-- the set without v
abbrev pub removed : VertexSet → ℕ → VertexSet
removed s v = record { words = without_bit s.words v }

-- the vertices below n; past the words there are none
unfoldable pub below_set : ℕ → VertexSet
below_set zero = empty_set
below_set (suc n) = inserted (below_set n) n

-- two lists of words, word by word
unfoldable pub zip : (ℕ → ℕ → ℕ) → List ℕ → List ℕ → List ℕ
zip f [] ys = []
zip f (x ∷ xs) [] = []
zip f (x ∷ xs) (y ∷ ys) = f x y ∷ zip f xs ys

-- two sets, word by word: the union by bit_or, the difference by less
abbrev pub wordwise : (ℕ → ℕ → ℕ) → VertexSet → VertexSet → VertexSet
wordwise f s t = record { words = zip f s.words t.words }

-- how many bits of the words are 1
unfoldable pub count : List ℕ → ℕ
count [] = 0
count (w ∷ ws) = ones w + count ws

-- every word is 0
unfoldable pub none : List ℕ → Bool
none [] = true
none (w ∷ ws) = eqb w 0 && none ws

-- nothing is left of the first set without the second
abbrev pub subset_of : List ℕ → List ℕ → Bool
subset_of xs ys = none (zip less xs ys)

-- the first of the n numbers from v on of which p holds, or else z
unfoldable pub first_from : (ℕ → Bool) → ℕ → ℕ → ℕ → ℕ
first_from p z zero v = z
first_from p z (suc n) v = cond (p v) v (first_from p z n (suc v))

-- the first number past the words: never a member, it is the answer where there is none (in code `VertexSet::CAPACITY`)
abbrev pub past : List ℕ → ℕ
past ws = 64 * length ws

-- the least member that is not below v, or `past` where there is none
abbrev pub next : List ℕ → ℕ → ℕ
next ws v = first_from (has ws) (past ws) (past ws - v) v
