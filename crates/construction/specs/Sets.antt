-- Vertex sets and lists of vertices, as the certifier (document 01: the maker) uses them.
use Rattle.std.specs.Prelude.{ℕ, ◌+◌, ◌-◌, Bool, cond, List, [], ◌∷◌, ◌++◌, leb, length}
use Rattle.std.specs.Int.Bits.{bit_or}
use Rattle.record.specs.Read.{folded}
use Rattle.vertexset.specs.Set.{has, capacity, empty_set, inserted, wordwise, less, none, next}
use Rattle.vertexset.specs.declared.VertexSet.{VertexSet}
use Rattle.connectivity.specs.Lists.{select, up_from}

-- as a number in a list it is no vertex, and stands before each path
abbrev pub stop : ℕ
stop = capacity

abbrev pub plus : VertexSet → VertexSet → VertexSet
plus a b = wordwise bit_or a b

abbrev pub minus : VertexSet → VertexSet → VertexSet
minus a b = wordwise less a b

abbrev pub common : VertexSet → VertexSet → VertexSet
common a b = minus a (minus a b)

abbrev pub single : ℕ → VertexSet
single v = inserted empty_set v

abbrev pub pair : ℕ → ℕ → VertexSet
pair u v = inserted (single u) v

-- a set with the vertices of a list
abbrev pub set_with_all : VertexSet → List ℕ → VertexSet
set_with_all s l = folded inserted s l

abbrev pub set_of : List ℕ → VertexSet
set_of l = set_with_all empty_set l

-- the members, ascending; those that are not below v
abbrev pub members_from : ℕ → VertexSet → List ℕ
members_from v s = select (has s.words) (up_from v (capacity - v))

abbrev pub members : VertexSet → List ℕ
members s = members_from 0 s

-- the least member, or capacity where there is none
abbrev pub least : VertexSet → ℕ
least s = next s.words 0

abbrev pub empty : VertexSet → Bool
empty s = none s.words

-- a list in a space: k is added where it has room
abbrev pub added : ℕ → List ℕ → List ℕ → List ℕ
added space l k = cond (leb (length l + length k) space) (l ++ k) l

unfoldable pub reversed : List ℕ → List ℕ
reversed [] = []
reversed (a ∷ l) = reversed l ++ (a ∷ [])

-- the last of a list
unfoldable pub last_of : List ℕ → ℕ
last_of [] = 0
last_of (a ∷ []) = a
last_of (a ∷ (b ∷ l)) = last_of (b ∷ l)

-- the first place at which p holds, or the length
unfoldable pub place_of : (ℕ → Bool) → List ℕ → ℕ
place_of p [] = 0
place_of p (a ∷ l) = cond (p a) 0 (place_of p l + 1)
