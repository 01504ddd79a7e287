-- The record of a plan by value, and what writing it gives.
use Rattle.std.specs.Prelude.{ℕ, zero, suc, ◌+◌, ◌*◌, ◌<◌, List, [], ◌∷◌, Bool, true, cond, ◌&&◌, Option, Some, None, leb, length, get_or}
use Rattle.record.specs.Read.{within}
use Rattle.record.specs.Number.{list_bytes, number_limit}
use Rattle.record.specs.Write.{overwritten, has_room}
use Rattle.graph.specs.Limits.{min_vertices, max_vertices, max_edges}
use Rattle.reading.specs.declared.PlanTable.{PlanTable}
use Rattle.reading.specs.Plan.{Plan, proper, follows, edge_bytes, plan_bytes}

-- the edge behind k others in the array
abbrev pub edge_at : List ℕ → ℕ → ℕ × ℕ
edge_at ends k = (get_or ends (2 * k) 0, get_or ends (2 * k + 1) 0)

-- the next j edges, behind k others
unfoldable pub edges_from : List ℕ → ℕ → ℕ → List (ℕ × ℕ)
edges_from ends zero k = []
edges_from ends (suc j) k = edge_at ends k ∷ edges_from ends j (k + 1)

-- the first m edges of the array
abbrev pub edges_of : List ℕ → ℕ → List (ℕ × ℕ)
edges_of ends m = edges_from ends m 0

-- the plan that the value stands for
unfoldable pub plan_of : PlanTable → Plan
plan_of p = record { n = p.graph.n; edges = edges_of p.ends p.m }

-- the bytes of the first m edges
abbrev pub edges_bytes : List ℕ → ℕ → List ℕ
edges_bytes ends m = list_bytes edge_bytes (edges_of ends m)

-- both vertices of each of them have a form in the record
abbrev pub EdgesLow : List ℕ → ℕ → Type 0
EdgesLow ends m = (k : ℕ) → k < m → ((edge_at ends k).0 < number_limit) × ((edge_at ends k).1 < number_limit)

-- every edge is allowed behind the one before it
unfoldable pub edges_in_order : ℕ → ℕ × ℕ → List (ℕ × ℕ) → Bool
edges_in_order n before [] = true
edges_in_order n before (e ∷ es) = proper n e && (follows before e && edges_in_order n e es)

-- how many bytes the edges take, where they are allowed
abbrev pub size_of : ℕ → List (ℕ × ℕ) → Option ℕ
size_of n es = cond (edges_in_order n (0, 0) es) (Some (length (list_bytes edge_bytes es))) None

-- the plan can be written: it is one that Records allows, and its record has room
abbrev pub can_write_plan : List ℕ → PlanTable → Bool
can_write_plan buffer p =
    within min_vertices max_vertices p.graph.n
    && (leb p.m max_edges && (edges_in_order p.graph.n (0, 0) (plan_of p).edges && has_room buffer 0 (plan_bytes (plan_of p))))

abbrev pub written_plan : List ℕ → PlanTable → Option ℕ
written_plan buffer p = cond (can_write_plan buffer p) (Some (length (plan_bytes (plan_of p)))) None

abbrev pub with_plan : List ℕ → PlanTable → List ℕ
with_plan buffer p = cond (can_write_plan buffer p) (overwritten buffer 0 (plan_bytes (plan_of p))) buffer
