-- The two tables of a build: for each inner vertex its neighbours on its link, and for the two outermost ones each other; and which
-- branch vertices a link joins.
use Rattle.std.specs.Prelude.{ℕ, zero, suc, ◌+◌, ◌*◌, List, [], ◌∷◌, Bool, true, false, cond, eqb, ltb, get_or, set}
use Rattle.vertexset.specs.Set.{has, capacity}
use Rattle.vertexset.specs.declared.VertexSet.{VertexSet}
use Rattle.graph.specs.Rows.{joined_rows, parted_rows}
use Rattle.links.specs.declared.Link.{Link}
use Rattle.links.specs.declared.Part.{Part}
use Rattle.links.specs.declared.Part.TheVariants.{Before, After, Mate}
use Rattle.links.specs.declared.End.{End}
use Rattle.links.specs.declared.End.TheVariants.{Branch, Inner}
use Rattle.links.specs.declared.Addition.{Addition}
use Rattle.links.specs.declared.Addition.TheVariants.{Held, VertexVertex, EdgeVertex, EdgeEdge}

-- how many pointers there are: the neighbour before v on its link stands at v, the one after it at capacity + v
abbrev pub pointer_count : ℕ
pointer_count = 3 * capacity

-- the mate of v stands at mates + v: where v is an outermost inner vertex of its link, next to an end, the other one
abbrev pub mates : ℕ
mates = 2 * capacity

-- where each part of the table begins, as the code names them
abbrev pub part_start : Part → ℕ
part_start Before = 0
part_start After = capacity
part_start Mate = mates

-- the pointer of v in the part of the table that begins at a place; a number past the vertices has none
abbrev pub pointer : List ℕ → ℕ → ℕ → ℕ
pointer pointers part v = cond (ltb v capacity) (get_or pointers (part + v) 0) 0

abbrev pub pointed : List ℕ → ℕ → ℕ → ℕ → List ℕ
pointed pointers part v to = cond (ltb v capacity) (set pointers (part + v) to) pointers

-- v, which stands between u and w on its link, points to both
abbrev pub pointed_both : List ℕ → ℕ → ℕ → ℕ → List ℕ
pointed_both pointers u v w = pointed (pointed pointers 0 v u) capacity v w

-- the inner vertices of a path point to their neighbours on it
unfoldable pub point_along : List ℕ → List ℕ → List ℕ
point_along pointers [] = pointers
point_along pointers (u ∷ []) = pointers
point_along pointers (u ∷ v ∷ []) = pointers
point_along pointers (u ∷ v ∷ w ∷ l) = point_along (pointed_both pointers u v w) (v ∷ w ∷ l)

-- the outermost inner vertices of a link point to each other
abbrev pub mated : List ℕ → ℕ → ℕ → List ℕ
mated pointers first last = pointed (pointed pointers mates first last) mates last first

-- the last vertex of a list, v where it is empty
abbrev pub last_from : ℕ → List ℕ → ℕ
last_from v [] = v
last_from v (w ∷ l) = last_from w l

-- so do those of a link with these inner vertices, where it has any
abbrev pub mated_ends : List ℕ → List ℕ → List ℕ
mated_ends pointers [] = pointers
mated_ends pointers (v ∷ l) = mated pointers v (last_from v l)

-- the two outermost inner vertices of the link on which u and w stand, u before w: walked both ways at once, in at most the given
-- number of steps, until one side meets a branch vertex
unfoldable pub outermost : (back on mate : ℕ → ℕ) → (branch : ℕ → Bool) → ℕ → ℕ → ℕ → ℕ × ℕ
outermost back on mate branch zero u w = (u, w)
outermost back on mate branch (suc k) u w = cond (branch (back u)) (u, mate u) (cond (branch (on w)) (mate w, w) (outermost back on mate branch k (back u) (on w)))

-- the link with these outermost inner vertices: its ends come before the first and after the last
abbrev pub link_around : List ℕ → ℕ × ℕ → Link
link_around pointers o = record { a = pointer pointers 0 o.0; b = pointer pointers capacity o.1; first = o.0; last = o.1 }

-- the link on which an inner vertex stands
unfoldable pub link_at : List ℕ → VertexSet → ℕ → Link
link_at pointers branch v = link_around pointers (outermost (pointer pointers 0) (pointer pointers capacity) (pointer pointers mates) (has branch.words) capacity v v)

-- an end: a branch vertex, or an inner vertex with its link
abbrev pub end_in : List ℕ → VertexSet → ℕ → End
end_in pointers branch v = cond (has branch.words v) (Branch v) (Inner v (link_at pointers branch v))

-- the table with the link l split at its inner vertex x
abbrev pub split_rows : List ℕ → ℕ → Link → List ℕ
split_rows linked x l = joined_rows (joined_rows (parted_rows linked l.a l.b) l.a x) x l.b

-- what x leaves of its link on one side has the outermost vertex of that side and x's neighbour there outermost; where x is
-- outermost, nothing is left
abbrev pub mated_aside : List ℕ → ℕ → ℕ → ℕ → List ℕ
mated_aside pointers part x outer = cond (eqb x outer) pointers (mated pointers outer (pointer pointers part x))

-- the pointers with the link l split at its inner vertex x: the mates of both parts
abbrev pub split_mates : List ℕ → ℕ → Link → List ℕ
split_mates pointers x l = mated_aside (mated_aside pointers 0 x l.first) capacity x l.last

-- a table with the links split that an addition splits
abbrev pub split_each : (List ℕ → ℕ → Link → List ℕ) → List ℕ → Addition → List ℕ
split_each split t Held = t
split_each split t VertexVertex = t
split_each split t (EdgeVertex x k) = split t x k
split_each split t (EdgeEdge x k y l) = split (split t x k) y l

abbrev pub split_by : List ℕ → Addition → List ℕ
split_by = split_each split_rows

abbrev pub split_mates_by : List ℕ → Addition → List ℕ
split_mates_by = split_each split_mates

-- BACK AGAIN. An end inside a link: a path that ends there splits the link, and raises the end to a branch vertex
abbrev pub is_inner : End → Bool
is_inner (Branch v) = false
is_inner (Inner v l) = true

-- v stands on no link: it points to nothing
abbrev pub cleared : List ℕ → ℕ → List ℕ
cleared pointers v = pointed (pointed (pointed pointers 0 v 0) capacity v 0) mates v 0

-- the table with the link l, which was split at x, whole again
abbrev pub rejoined_rows : List ℕ → ℕ → Link → List ℕ
rejoined_rows linked x l = joined_rows (parted_rows (parted_rows linked l.b x) x l.a) l.b l.a

-- x's neighbour on one side has no mate any more; where x is outermost, it has no neighbour inside
abbrev pub unmated_aside : List ℕ → ℕ → ℕ → ℕ → List ℕ
unmated_aside pointers part x outer = cond (eqb x outer) pointers (pointed pointers mates (pointer pointers part x) 0)

-- the pointers with the link l, which was split at x, whole again: its outermost inner vertices are mates
abbrev pub rejoined_mates : List ℕ → ℕ → Link → List ℕ
rejoined_mates pointers x l = mated (unmated_aside (unmated_aside pointers 0 x l.first) capacity x l.last) l.first l.last

-- the outermost vertex, on one side of x, of the link that was split at x: the mate of x's neighbour there, which is outermost in its part;
-- x itself where that neighbour is a branch vertex
abbrev pub outer_aside : List ℕ → VertexSet → ℕ → ℕ → ℕ
outer_aside pointers branch part x = cond (has branch.words (pointer pointers part x)) x (pointer pointers mates (pointer pointers part x))

-- the link that was split at x, which keeps its pointers as a branch vertex
abbrev pub link_split : List ℕ → VertexSet → ℕ → Link
link_split pointers branch x = link_around pointers (outer_aside pointers branch 0 x, outer_aside pointers branch capacity x)
