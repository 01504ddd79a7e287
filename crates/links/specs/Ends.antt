-- Which addition a path is, by its two ends.
use Rattle.std.specs.Prelude.{ℕ, List, Bool, true, false, cond, ◌&&◌, ◌||◌, eqb}
use Rattle.graph.specs.Rows.{adjacent_in}
use Rattle.links.specs.declared.Link.{Link}
use Rattle.links.specs.declared.End.{End}
use Rattle.links.specs.declared.End.TheVariants.{Branch, Inner}
use Rattle.links.specs.declared.Addition.{Addition}
use Rattle.links.specs.declared.Addition.TheVariants.{Held, VertexVertex, EdgeVertex, EdgeEdge}

-- two links are the same where they have the same two ends
abbrev pub same_link : Link → Link → Bool
same_link k l = (eqb k.a l.a && eqb k.b l.b) || (eqb k.a l.b && eqb k.b l.a)

abbrev pub link_end : ℕ → Link → Bool
link_end v l = eqb v l.a || eqb v l.b

-- Definition 11's additions, by the cases of the two ends; Held where one link holds both (27)
abbrev pub addition_of : List ℕ → End → End → Addition
addition_of linked (Branch x) (Branch y) = cond (adjacent_in linked x y) Held VertexVertex
addition_of linked (Branch x) (Inner y l) = cond (link_end x l) Held (EdgeVertex y l)
addition_of linked (Inner x k) (Branch y) = cond (link_end y k) Held (EdgeVertex x k)
addition_of linked (Inner x k) (Inner y l) = cond (same_link k l) Held (EdgeEdge x k y l)

abbrev pub held : Addition → Bool
held Held = true
held VertexVertex = false
held (EdgeVertex x k) = false
held (EdgeEdge x k y l) = false
