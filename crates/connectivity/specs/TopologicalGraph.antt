-- The topological graph of a build, and the three additions of Barnette and Grünbaum: Definition 11 of source document 003.
use Rattle.std.specs.Prelude.{◌≢◌, List, [], ◌∷◌, cond, ℕ, ◌<◌}
use Rattle.connectivity.specs.Lists.{In, NoDup, below}
use Rattle.connectivity.specs.Graph.{Graph, Adj, edges, is_pair}
use Rattle.connectivity.specs.Path.{Path, edge, Along}
use Rattle.connectivity.specs.Build.{IsBranch, InBuild, four, end_pairs, link_ends, taken, final, StartRules}

-- A graph by its vertices and its edges, the edge between u and v being `edge u v`, its lower end first.
pub record TGraph : Type 0 where
  pub vertices : List ℕ
  pub edges : List (ℕ × ℕ)

abbrev pub Adjacent : TGraph → ℕ → ℕ → Type 0
Adjacent G u v = In (edge u v) G.edges

-- An edge joins two different vertices, and no edge stands in the list twice.
pub record IsSimple (G : TGraph) : Type 0 where
  pub ends : (e : ℕ × ℕ) → In e G.edges → In e.0 G.vertices × In e.1 G.vertices × (e.0 < e.1)
  pub once : NoDup G.edges

-- The same vertices and the same edges, whatever the order in which they stand.
abbrev pub SameMembers : {A : Type 0} → List A → List A → Type 0
SameMembers {A} l m = ((a : A) → In a l → In a m) × ((a : A) → In a m → In a l)

pub record SameGraph (G H : TGraph) : Type 0 where
  pub vertices : SameMembers G.vertices H.vertices
  pub edges : SameMembers G.edges H.edges

-- G with the edge vw
abbrev pub add_edge : TGraph → ℕ → ℕ → TGraph
add_edge G v w = record { vertices = G.vertices; edges = edge v w ∷ G.edges }

-- the edges other than f
abbrev pub without : ℕ × ℕ → List (ℕ × ℕ) → List (ℕ × ℕ)
without f [] = []
without f (e ∷ es) = cond (is_pair e f.0 f.1) (without f es) (e ∷ without f es)

-- G with the edge ab subdivided by v
abbrev pub subdivide : TGraph → ℕ → ℕ → ℕ → TGraph
subdivide G a b v = record { vertices = v ∷ G.vertices; edges = edge a v ∷ (edge v b ∷ without (edge a b) G.edges) }

-- (a) vertex-vertex-addition: "Add an edge between two distinct non-adjacent vertices"
pub record VertexVertex (G H : TGraph) (v w : ℕ) : Type 0 where
  pub first : In v G.vertices
  pub second : In w G.vertices
  pub distinct : v ≢ w
  pub non_adjacent : ¬ Adjacent G v w
  pub result : SameGraph H (add_edge G v w)

-- (b) edge-vertex-addition: "Subdivide an edge ab, a ≠ b, by a vertex v and add the edge vw for a vertex w ∉ {a, b}"
pub record EdgeVertex (G H : TGraph) (a b v w : ℕ) : Type 0 where
  pub is_edge : Adjacent G a b
  pub distinct : a ≢ b
  pub new : ¬ In v G.vertices
  pub vertex : In w G.vertices
  pub not_a : w ≢ a
  pub not_b : w ≢ b
  pub result : SameGraph H (add_edge (subdivide G a b v) v w)

-- (c) edge-edge-addition: "Subdivide two distinct edges by vertices v and w, respectively, and add the edge vw"
pub record EdgeEdge (G H : TGraph) (a b c d v w : ℕ) : Type 0 where
  pub first : Adjacent G a b
  pub second : Adjacent G c d
  pub distinct : edge a b ≢ edge c d
  pub new_v : ¬ In v G.vertices
  pub new_w : ¬ In w G.vertices
  pub differ : v ≢ w
  pub result : SameGraph H (add_edge (subdivide (subdivide G a b v) c d w) v w)

-- H is made of G by one of the three.
pub data Addition (G H : TGraph) : Type 0 where
  vertex-vertex : (v w : ℕ) → VertexVertex G H v w → Addition G H
  edge-vertex : (a b v w : ℕ) → EdgeVertex G H a b v w → Addition G H
  edge-edge : (a b c d v w : ℕ) → EdgeEdge G H a b c d v w → Addition G H

-- the complete graph on four vertices
abbrev pub complete : ℕ → ℕ → ℕ → ℕ → TGraph
complete p q r s = record { vertices = four p q r s; edges = edge p q ∷ (edge p r ∷ (edge p s ∷ (edge q r ∷ (edge q s ∷ (edge r s ∷ []))))) }

-- a graph as its vertices and edges
abbrev pub listed_graph : Graph → TGraph
listed_graph g = record { vertices = below g.n; edges = edges g }

-- The topological graph of a build: its branch vertices, and for each link an edge between its ends.
abbrev pub ends_of : List (ℕ × ℕ) → List ℕ
ends_of [] = []
ends_of (e ∷ es) = e.0 ∷ (e.1 ∷ ends_of es)

abbrev pub topological : List Path → TGraph
topological links = record { vertices = ends_of (end_pairs links); edges = link_ends links }

-- A vertex of a build is a branch vertex, or an inner vertex together with its link.
pub data Place (x : ℕ) (links : List Path) : Type 0 where
  branch : IsBranch x links → Place x links
  inner : (L : Path) → In L links → In x L.inner → Place x links

-- The addition that a path from s to t makes, by the places of its two ends. Links are split at t first, then at s.
abbrev pub Added : {links : List Path} {s t : ℕ} → Place s links → Place t links → TGraph → Type 0
Added {links} {s} {t} (branch h) (branch k) H = VertexVertex (topological links) H s t
Added {links} {s} {t} (inner L h i) (branch k) H = EdgeVertex (topological links) H L.s L.t s t
Added {links} {s} {t} (branch h) (inner M k j) H = EdgeVertex (topological links) H M.s M.t t s
Added {links} {s} {t} (inner L h i) (inner M k j) H = EdgeEdge (topological links) H M.s M.t L.s L.t t s

-- A path that is offered to a build: along edges, both ends in the build, the inner vertices new and each once.
pub record Offered (E : ℕ → ℕ → Type 0) (links : List Path) (P : Path) : Type 0 where
  pub along : Along E P.s P.inner P.t
  pub inner_once : NoDup P.inner
  pub from : InBuild P.s links
  pub upto : InBuild P.t links
  pub new : (w : ℕ) → In w P.inner → ¬ InBuild w links

-- Taking P in is one of the three additions, the one that the places of its ends give, and the graph then is simple.
pub record Adds (links : List Path) (P : Path) : Type 0 where
  pub first : Place P.s links
  pub last : Place P.t links
  pub added : Added first last (topological (taken links P))
  pub simple : IsSimple (topological (taken links P))

-- Further paths, each offered to the build when its turn comes, and each an addition.
abbrev pub Additions : (E : ℕ → ℕ → Type 0) → List Path → List Path → Type 0
Additions E links [] = Unit {0}
Additions E links (P ∷ ps) = Offered E links P × Adds links P × Additions E (taken links P) ps

-- A BARNETTE-GRÜNBAUM SEQUENCE IN PATH FORM, of the graph g: it starts as the complete graph on p, q, r, s, subdivided, in g; each
-- further path is an addition, from a simple graph to a simple one; the last topological graph is g.
pub record IsSequence (g : Graph) (p q r s : ℕ) (start further : List Path) : Type 0 where
  pub subdivided : StartRules g p q r s start
  pub complete-four : SameGraph (topological start) (complete p q r s)
  pub simple : IsSimple (topological start)
  pub additions : Additions (Adj g) start further
  pub whole : SameGraph (topological (final start further)) (listed_graph g)
