-- What the functions give: the search of the definition, its lists at the front of arrays.
use Rattle.std.specs.Prelude.{ℕ, ◌+◌, ◌*◌, cond, List, [], ◌∷◌, ◌++◌, eqb, leb, ltb, length, take, drop, replicate}
use Rattle.record.specs.Write.{overwritten}
use Rattle.vertexset.specs.Set.{empty_set, capacity}
use Rattle.vertexset.specs.declared.VertexSet.{VertexSet}
use Rattle.construction.specs.Search as construction
use Rattle.construction.specs.Search.{back, visit}
use Rattle.search.specs.declared.Reach.{Reach}

-- a path has at most as many vertices as can be, and two more
abbrev pub path_room : ℕ
path_room = capacity + 2

-- a path, as contracts see it
pub record Vertices : Type 0 where
  pub items : List ℕ

abbrev pub path_of : List ℕ → Vertices
path_of l = record { items = l }

-- a vertex behind those of a path, where it has room
abbrev pub pushed : Vertices → ℕ → Vertices
pushed p v = cond (ltb (length p.items) path_room) (path_of (p.items ++ (v ∷ []))) p

abbrev pub reach_of : construction.Reach → Reach
reach_of r = record {
  count = length r.order;
  seeds = r.seeds;
  shut = r.shut;
  goal = r.goal;
  last = r.last;
}

-- ---- the space that a search is lent

-- a half for the vertices reached, a half for the places they were reached from
abbrev pub search_space : ℕ
search_space = 2 * capacity

-- each list stands then at the front of its half, and the rest is as it was
abbrev pub space_after : List ℕ → construction.Reach → List ℕ
space_after space r = overwritten (take capacity space) 0 r.order ++ overwritten (drop capacity space) 0 r.from

-- in a space of another size nothing is searched and nothing changes
abbrev pub left_in : List ℕ → construction.Reach → List ℕ
left_in space r = cond (eqb (length space) search_space) (space_after space r) space

abbrev pub no_reach : Reach
no_reach = record { count = 0; seeds = 0; shut = empty_set; goal = capacity; last = 0 }

abbrev pub answer_in : List ℕ → construction.Reach → Reach
answer_in space r = cond (eqb (length space) search_space) (reach_of r) no_reach

-- the path back from the goal, out of the space
abbrev pub route_in : List ℕ → Reach → List ℕ
route_in space r = r.goal ∷ back capacity (take r.count space) (take r.count (drop capacity space)) r.seeds r.last

-- ---- what the private functions give

-- vertices put behind those that were reached, all from one place; where they have no room nothing changes
abbrev pub reached_after : List ℕ → ℕ → List ℕ → ℕ → List ℕ
reached_after space at l from = cond (leb (at + length l) capacity) (overwritten (overwritten space at l) (capacity + at) (replicate (length l) from)) space

abbrev pub reached_end : ℕ → List ℕ → ℕ
reached_end at l = cond (leb (at + length l) capacity) (at + length l) at

-- the visits from the first vertices in the space on
abbrev pub visits_in : List ℕ → VertexSet → ℕ → List ℕ → VertexSet → construction.Reach
visits_in rows goals k space shut = visit rows goals k capacity (take k space) (take k (drop capacity space)) shut 0
