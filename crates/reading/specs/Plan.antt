-- The plan record: which bytes are a plan, and which one.
use Rattle.std.specs.Prelude.{ℕ, ◌≤◌, List, [], ◌∷◌, ◌++◌, Bool, true, cond, ◌&&◌, ◌||◌, ◌≡◌, ltb, leb, eqb, length}
use Rattle.graph.specs.Limits.{min_vertices, max_vertices, max_edges}
use Rattle.record.specs.Read.{within, Reader, Each, ◌needs⟨◌⟩◌, ◌▸◌, into, counted}
use Rattle.record.specs.Number.{number, number_bytes, list_bytes}
use Rattle.connectivity.specs.Graph.{is_pair}

-- a plan, as its record has it: n vertices (document 01: boxes) and the edges (cables), each lower vertex first
pub record Plan : Type 0 where
  pub n : ℕ
  pub edges : List (ℕ × ℕ)

-- the lower vertex is below the higher, the higher below n
abbrev pub proper : ℕ → ℕ × ℕ → Bool
proper n e = ltb e.0 e.1 && ltb e.1 n

-- an edge does not come before its predecessor: by lower vertex and then by higher. Request 1 of document 02: "A cable equal to its
-- predecessor is to be allowed."
abbrev pub follows : ℕ × ℕ → ℕ × ℕ → Bool
follows before e = ltb before.0 e.0 || (eqb before.0 e.0 && leb before.1 e.1)

-- an edge is read whole, then tested for 5 and 6
unfoldable pub edge : ℕ → ℕ × ℕ → Reader (ℕ × ℕ)
edge n before = (number ▸ λ lower. number) needs⟨ 5 ⟩ proper n needs⟨ 6 ⟩ follows before

-- n, m, then m edges; every proper edge comes after (0, 0)
unfoldable pub plan : Reader Plan
plan = into (λ p. record { n = p.0; edges = p.1 })
    (number needs⟨ 3 ⟩ within min_vertices max_vertices ▸ λ n. counted (number needs⟨ 4 ⟩ within 0 max_edges) (edge n) (λ before e. e) (0, 0))

-- the bytes of a plan
abbrev pub edge_bytes : ℕ × ℕ → List ℕ
edge_bytes e = number_bytes e.0 ++ number_bytes e.1

abbrev pub plan_bytes : Plan → List ℕ
plan_bytes p = number_bytes p.n ++ (number_bytes (length p.edges) ++ list_bytes edge_bytes p.edges)

-- a plan that Records allows, with request 1
abbrev pub EdgeAllowed : ℕ → ℕ × ℕ → ℕ × ℕ → Type 0
EdgeAllowed n before e = (proper n e ≡ true) × (follows before e ≡ true)

pub record Allowed (p : Plan) : Type 0 where
  pub least : min_vertices ≤ p.n
  pub most : p.n ≤ max_vertices
  pub few : length p.edges ≤ max_edges
  pub each : Each (EdgeAllowed p.n) (λ before e. e) (0, 0) p.edges

-- the edges that differ from the one before them
unfoldable pub once_after : ℕ × ℕ → List (ℕ × ℕ) → List (ℕ × ℕ)
once_after before [] = []
once_after before (e ∷ es) = cond (is_pair before e.0 e.1) (once_after e es) (e ∷ once_after e es)

-- the plan with each double written once
abbrev pub once : Plan → Plan
once p = record { n = p.n; edges = once_after (0, 0) p.edges }
