-- Graphs, walks that avoid removed vertices, and vertex connectivity capped at 3 as a relation.
use Rattle.std.specs.Prelude.{◌≡◌, ◌⊎◌, List, [], ◌∷◌, ◌++◌, Bool, true, ◌&&◌, false, ◌||◌, ℕ, ◌≤◌, ◌<◌, zero, suc, eqb, length}
use Rattle.connectivity.specs.Lists.{select, below, In, NoDup}

-- A graph (document 01: a plan): n vertices (boxes), numbered 0 to n - 1, and a test whether an edge (a cable) joins two of them.
pub record Graph : Type 0 where
  pub n : ℕ
  pub adj : ℕ → ℕ → Bool

abbrev pub Adj : Graph → ℕ → ℕ → Type 0
Adj g u v = g.adj u v ≡ true

-- Four vertices or more; an edge joins two different vertices of the graph, and has no direction.
pub record Simple (g : Graph) : Type 0 where
  pub big : 4 ≤ g.n
  pub symmetric : (u v : ℕ) → Adj g u v → Adj g v u
  pub irreflexive : (u : ℕ) → ¬ Adj g u u
  pub low : (u v : ℕ) → Adj g u v → u < g.n

-- The edges, each once, as (lower end, higher end), and how many they are (document 01: m; since request 1 of document 02: d, the number of cabled pairs).
abbrev pub with_higher : ℕ → List ℕ → List (ℕ × ℕ)
with_higher v [] = []
with_higher v (u ∷ l) = (u, v) ∷ with_higher v l

abbrev pub edges_below : Graph → ℕ → List (ℕ × ℕ)
edges_below g zero = []
edges_below g (suc v) = with_higher v (select (λ u. g.adj u v) (below v)) ++ edges_below g v

abbrev pub edges : Graph → List (ℕ × ℕ)
edges g = edges_below g g.n

abbrev pub edge_count : Graph → ℕ
edge_count g = length (edges g)

-- The graph with n vertices and the listed edges.
abbrev pub is_pair : ℕ × ℕ → ℕ → ℕ → Bool
is_pair e u v = eqb e.0 u && eqb e.1 v

abbrev pub listed : List (ℕ × ℕ) → ℕ → ℕ → Bool
listed [] u v = false
listed (e ∷ es) u v = is_pair e u v || (is_pair e v u || listed es u v)

abbrev pub from_edges : ℕ → List (ℕ × ℕ) → Graph
from_edges n es = record { n = n; adj = listed es }

-- Edges strictly ascending, by lower end and then by higher.
abbrev pub EdgeBefore : ℕ × ℕ → ℕ × ℕ → Type 0
EdgeBefore e f = (e.0 < f.0) ⊎ ((e.0 ≡ f.0) × (e.1 < f.1))

abbrev pub AscendingEdges : List (ℕ × ℕ) → Type 0
AscendingEdges [] = Unit {0}
AscendingEdges (e ∷ []) = Unit {0}
AscendingEdges (e ∷ (f ∷ es)) = EdgeBefore e f × AscendingEdges (f ∷ es)

-- A walk along edges with no vertex of X on it.
pub data Walk (g : Graph) (X : List ℕ) : ℕ → ℕ → Type 0 where
  stay : {u : ℕ} → Walk g X u u
  hop : {u v w : ℕ} → Adj g u v → ¬ In u X → ¬ In v X → Walk g X v w → Walk g X u w

-- A vertex that is left when X is removed.
abbrev pub Remaining : Graph → List ℕ → ℕ → Type 0
Remaining g X u = (u < g.n) × (¬ In u X)

-- The vertices left are all connected (document 01: all joined).
abbrev pub AllConnected : Graph → List ℕ → Type 0
AllConnected g X = (u v : ℕ) → Remaining g X u → Remaining g X v → Walk g X u v

-- k vertices whose removal leaves the others not all connected.
pub record Separator (g : Graph) (k : ℕ) : Type 0 where
  pub removed : List ℕ
  pub nodup : NoDup removed
  pub low : (w : ℕ) → In w removed → w < g.n
  pub count : length removed ≡ k
  pub separates : ¬ AllConnected g removed

-- VERTEX CONNECTIVITY CAPPED AT 3 (document 01: the loss figure): the smallest number of vertices whose removal leaves
-- the others not all connected; 3 where removing 0, 1 or 2 never does so.
pub record HasConnectivity (g : Graph) (k : ℕ) : Type 0 where
  pub least : (j : ℕ) → j < k → ¬ Separator g j
  pub reached : ((k < 3) × Separator g k) ⊎ (k ≡ 3)
