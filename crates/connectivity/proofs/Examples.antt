-- The theorems at work: graphs with a certificate each that keeps every rule, and their connectivity, computed.
use mathlib.Core.Path.{◌≡◌, refl}
use mathlib.Core.Logic.{inl, inr}
use mathlib.Core.List.{List, [], ◌∷◌}
use Prim.Native.Nat.{ℕ}
use Rattle.connectivity.specs.Lists.{In}
use Rattle.connectivity.specs.Graph.{Graph, Simple, HasConnectivity, from_edges}
use Rattle.connectivity.specs.Path.{link}
use Rattle.connectivity.specs.Connectivity.{connectivity}
use Rattle.connectivity.specs.Certificate.{Certificate, separation, tree, ears, build, grade, Rules}
use Rattle.connectivity.specs.TopologicalGraph.{complete, listed_graph}
use Rattle.connectivity.proofs.Edges.{EdgeList, from_edges-simple}
use Rattle.connectivity.proofs.Soundness.{rules_connectivity, grade-connectivity}
use Rattle.connectivity.proofs.Additions.{BGSequence, bg_sequence}
use Rattle.connectivity.proofs.Sequence.{rules_sequence}
use Rattle.connectivity.proofs.Checks.{proved, both, each, edge_list}
use Rattle.connectivity.proofs.RuleVariants.{rules}

pub record Example : Type 0 where
  pub n : ℕ
  pub edges : List (ℕ × ℕ)
  pub certificate : Certificate

abbrev pub graph : Example → Graph
graph e = from_edges e.n e.edges

abbrev pub example : ℕ → List (ℕ × ℕ) → Certificate → Example
example n es x = record { n = n; edges = es; certificate = x }

-- no edge
abbrev pub edgeless4 : Example
edgeless4 = example 4 [] (separation (0 ∷ []))

abbrev pub path4 : Example
path4 = example 4 ((0, 1) ∷ ((1, 2) ∷ ((2, 3) ∷ []))) (tree 1 0 ((1, 0) ∷ ((2, 1) ∷ ((3, 2) ∷ []))) (0 ∷ []))

-- two triangles that share vertex 0
abbrev pub triangles5 : Example
triangles5 = example 5 ((0, 1) ∷ ((0, 2) ∷ ((0, 3) ∷ ((0, 4) ∷ ((1, 2) ∷ ((3, 4) ∷ []))))))
    (tree 0 0 ((1, 0) ∷ ((2, 0) ∷ ((3, 0) ∷ ((4, 0) ∷ [])))) (1 ∷ (2 ∷ [])))

abbrev pub cycle5 : Example
cycle5 = example 5 ((0, 1) ∷ ((0, 4) ∷ ((1, 2) ∷ ((2, 3) ∷ ((3, 4) ∷ []))))) (ears 0 2 (link 0 (1 ∷ (2 ∷ (3 ∷ []))) 4) [] (1 ∷ []))

abbrev pub complete4 : Example
complete4 = example 4 ((0, 1) ∷ ((0, 2) ∷ ((0, 3) ∷ ((1, 2) ∷ ((1, 3) ∷ ((2, 3) ∷ []))))))
    (build 0 1 2 3 (link 0 [] 1 ∷ (link 0 [] 2 ∷ (link 0 [] 3 ∷ (link 1 [] 2 ∷ (link 1 [] 3 ∷ (link 2 [] 3 ∷ [])))))) [])

-- hub 0 and rim 1, 2, 3, 4, 5
abbrev pub wheel6 : Example
wheel6 = example 6 ((0, 1) ∷ ((0, 2) ∷ ((0, 3) ∷ ((0, 4) ∷ ((0, 5) ∷ ((1, 2) ∷ ((1, 5) ∷ ((2, 3) ∷ ((3, 4) ∷ ((4, 5) ∷ []))))))))))
    (build 0 1 2 3 (link 0 [] 1 ∷ (link 0 [] 2 ∷ (link 0 [] 3 ∷ (link 1 [] 2 ∷ (link 1 (5 ∷ (4 ∷ [])) 3 ∷ (link 2 [] 3 ∷ [])))))) (link 0 [] 4 ∷ (link 5 [] 0 ∷ [])))

-- the triangles 0, 1, 2 and 3, 4, 5, and the edges 03, 14, 25
abbrev pub prism6 : Example
prism6 = example 6 ((0, 1) ∷ ((0, 2) ∷ ((0, 3) ∷ ((1, 2) ∷ ((1, 4) ∷ ((2, 5) ∷ ((3, 4) ∷ ((3, 5) ∷ ((4, 5) ∷ [])))))))))
    (build 0 1 2 3 (link 0 [] 1 ∷ (link 0 [] 2 ∷ (link 0 [] 3 ∷ (link 1 [] 2 ∷ (link 1 (4 ∷ []) 3 ∷ (link 2 (5 ∷ []) 3 ∷ [])))))) (link 4 [] 5 ∷ []))

-- the complete bipartite graph on 0, 1, 2 and 3, 4, 5
abbrev pub bipartite6 : Example
bipartite6 = example 6 ((0, 3) ∷ ((0, 4) ∷ ((0, 5) ∷ ((1, 3) ∷ ((1, 4) ∷ ((1, 5) ∷ ((2, 3) ∷ ((2, 4) ∷ ((2, 5) ∷ [])))))))))
    (build 0 1 3 4 (link 0 (5 ∷ []) 1 ∷ (link 0 [] 3 ∷ (link 0 [] 4 ∷ (link 1 [] 3 ∷ (link 1 [] 4 ∷ (link 3 (2 ∷ []) 4 ∷ [])))))) (link 2 [] 5 ∷ []))

abbrev pub examples : List Example
examples = edgeless4 ∷ (path4 ∷ (triangles5 ∷ (cycle5 ∷ (complete4 ∷ (wheel6 ∷ (prism6 ∷ (bipartite6 ∷ [])))))))

-- The graph is simple, the certificate keeps every rule, and by the theorems its grade is the connectivity.
pub record Shown (e : Example) : Type 0 where
  pub simple : Simple (graph e)
  pub kept : Rules (graph e) e.certificate
  pub has : HasConnectivity (graph e) (grade e.certificate)
  pub computed : grade e.certificate ≡ connectivity (graph e)

abbrev Kept : Example → Type 0
Kept e = EdgeList e.n e.edges × Rules (graph e) e.certificate

shown : (e : Example) → Kept e → Shown e
shown e r =
    let p = from_edges-simple e.n e.edges r.0 in
    record { simple = p; kept = r.1; has = rules_connectivity (graph e) p e.certificate r.1; computed = grade-connectivity (graph e) p e.certificate r.1 }

pub all_shown : (e : Example) → In e examples → Shown e
all_shown e h = shown e (proved (each Kept examples (λ e. both (edge_list e.n e.edges) (rules (graph e) e.certificate))) refl e h)

-- The function agrees.
abbrev pub connectivities : List Example → List ℕ
connectivities [] = []
connectivities (e ∷ es) = connectivity (graph e) ∷ connectivities es

abbrev pub grades : List Example → List ℕ
grades [] = []
grades (e ∷ es) = grade e.certificate ∷ grades es

pub all-connectivities : connectivities examples ≡ 0 ∷ (1 ∷ (1 ∷ (2 ∷ (3 ∷ (3 ∷ (3 ∷ (3 ∷ [])))))))
all-connectivities = refl

pub all-grades : grades examples ≡ connectivities examples
all-grades = refl

-- A Barnette-Grünbaum sequence: the prism is the complete graph on four vertices with one edge-edge-addition.
pub prism_sequence : BGSequence (complete 0 1 2 3) (listed_graph (graph prism6))
prism_sequence = let p = all_shown prism6 (inr (inr (inr (inr (inr (inr (inl refl))))))) in bg_sequence (graph prism6) p.simple (rules_sequence (graph prism6) p.simple _ _ _ _ _ _ p.kept)
