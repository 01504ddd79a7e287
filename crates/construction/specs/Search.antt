-- One search, breadth first, from the seeds to the first goal, with vertices removed.
use Rattle.std.specs.Prelude.{ℕ, zero, suc, ◌+◌, Bool, cond, List, [], ◌∷◌, ltb, length, get_or, replicate}
use Rattle.vertexset.specs.declared.VertexSet.{VertexSet}
use Rattle.graph.specs.Rows.{row_of}
use Rattle.construction.specs.Sets.{plus, minus, common, members, least, added}
use Rattle.vertexset.specs.Set.{capacity}

-- What a search leaves: the vertices reached, the seeds first, and for each the place of the vertex it was reached from; the
-- vertices not to be reached any more (reached or removed); the goal that was met, or capacity, and the place of the vertex next to it.
pub record Reach : Type 0 where
  pub order : List ℕ
  pub from : List ℕ
  pub seeds : ℕ
  pub shut : VertexSet
  pub goal : ℕ
  pub last : ℕ

abbrev pub reach : List ℕ → List ℕ → ℕ → VertexSet → ℕ → ℕ → Reach
reach order from seeds shut goal last = record { order = order; from = from; seeds = seeds; shut = shut; goal = goal; last = last }

-- the vertex at place h is visited: its least goal ends the search, else its new neighbours are reached; at most k visits more
unfoldable pub visit : List ℕ → VertexSet → ℕ → ℕ → List ℕ → List ℕ → VertexSet → ℕ → Reach
visit rows goals seeds zero order from shut h = reach order from seeds shut capacity h
visit rows goals seeds (suc k) order from shut h =
    cond (ltb h (length order))
    (cond (ltb (least (common (row_of rows (get_or order h 0)) goals)) capacity)
    (reach order from seeds shut (least (common (row_of rows (get_or order h 0)) goals)) h)
    (visit rows goals seeds k (added capacity order (members (minus (row_of rows (get_or order h 0)) shut)))
    (added capacity from (replicate (length (members (minus (row_of rows (get_or order h 0)) shut))) h))
    (plus shut (row_of rows (get_or order h 0))) (h + 1)))
    (reach order from seeds shut capacity h)

-- THE SEARCH
unfoldable pub explore : List ℕ → VertexSet → VertexSet → VertexSet → Reach
explore rows seeds goals removed =
    visit rows goals (length (members seeds)) capacity (members seeds) (replicate (length (members seeds)) 0) (plus seeds removed) 0

abbrev pub is_found : Reach → Bool
is_found r = ltb r.goal capacity

-- back from the place i to a seed
unfoldable pub back : ℕ → List ℕ → List ℕ → ℕ → ℕ → List ℕ
back zero order from seeds i = []
back (suc k) order from seeds i = get_or order i 0 ∷ cond (ltb i seeds) [] (back k order from seeds (get_or from i 0))

-- the path that was found, from the goal back to a seed
abbrev pub route : Reach → List ℕ
route r = r.goal ∷ back capacity r.order r.from r.seeds r.last

-- the side, where none was found: what was reached
abbrev pub reached : Reach → VertexSet → VertexSet
reached r removed = minus r.shut removed
