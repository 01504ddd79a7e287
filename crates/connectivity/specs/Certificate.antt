-- Certificates, and the rules of each kind.
use Rattle.std.specs.Prelude.{◌≡◌, List, [], ◌∷◌, ◌++◌, ℕ, ◌<◌, ◌-◌, ◌≤◌, suc, ◌+◌, length}
use Rattle.connectivity.specs.Lists.{In, Ascending}
use Rattle.connectivity.specs.Graph.{Graph, Remaining, Adj, edge_count}
use Rattle.connectivity.specs.Path.{Path, IsPath, vertices}
use Rattle.connectivity.specs.Build.{StartRules, Steps, IsBranch, final, further_count}

-- A separation: a side (document 01's word too), ascending, and the rest, which is every vertex neither removed (lost) nor
-- in the side; each holds a vertex, and no edge runs between the two.
abbrev pub Rest : Graph → List ℕ → List ℕ → ℕ → Type 0
Rest g X S v = Remaining g X v × (¬ In v S)

pub record Separation (g : Graph) (X S : List ℕ) : Type 0 where
  pub ascending : Ascending S
  pub remaining : (w : ℕ) → In w S → Remaining g X w
  pub some_side : (w : ℕ) × In w S
  pub some_rest : (v : ℕ) × Rest g X S v
  pub no_edge : (u v : ℕ) → In u S → Rest g X S v → ¬ Adj g u v

-- Kind 1: pairs (new vertex, a vertex named before) with an edge between the two.
abbrev pub Tree : Graph → List ℕ → List (ℕ × ℕ) → Type 0
Tree g named [] = Unit {0}
Tree g named (e ∷ ps) = (¬ In e.0 named) × In e.1 named × Adj g e.0 e.1 × Tree g (e.0 ∷ named) ps

pub record TreeRules (g : Graph) (c first : ℕ) (ps : List (ℕ × ℕ)) (S : List ℕ) : Type 0 where
  pub c_low : c < g.n
  pub first_low : first < g.n
  pub count : length ps ≡ g.n - 1
  pub tree : Tree g (first ∷ []) ps
  pub separation : Separation g (c ∷ []) S

-- Kind 2: the first ear is a cycle.
pub record Cycle (g : Graph) (P : Path) : Type 0 where
  pub is_path : IsPath (Adj g) P
  pub closes : Adj g P.t P.s
  pub long : 3 ≤ length (vertices P)

-- A later ear on the vertices of B; that its ends differ is part of `is-path`.
pub record Ear (g : Graph) (B : List ℕ) (P : Path) : Type 0 where
  pub is_path : IsPath (Adj g) P
  pub from : In P.s B
  pub upto : In P.t B
  pub new : (w : ℕ) → In w P.inner → ¬ In w B
  pub long : 3 ≤ length (vertices P)

abbrev pub Ears : Graph → List ℕ → List Path → Type 0
Ears g B [] = Unit {0}
Ears g B (P ∷ es) = Ear g B P × Ears g (P.inner ++ B) es

-- The vertices that are in after the ears.
abbrev pub inside : List ℕ → List Path → List ℕ
inside B [] = B
inside B (P ∷ es) = inside (P.inner ++ B) es

pub record EarRules (g : Graph) (c d : ℕ) (P : Path) (es : List Path) (S : List ℕ) : Type 0 where
  pub order : c < d
  pub low : d < g.n
  pub count : suc (length es) ≤ g.n - 2
  pub first : Cycle g P
  pub ears : Ears g (vertices P) es
  pub all_in : (z : ℕ) → z < g.n → In z (inside (vertices P) es)
  pub separation : Separation g (c ∷ (d ∷ [])) S

-- Kind 3: four branch vertices, six paths between them, and d - n - 2 further paths, d the number of edges, each in the order of the record.
pub record BuildRules (g : Graph) (p q r s : ℕ) (start further : List Path) : Type 0 where
  pub first : StartRules g p q r s start
  pub enough : g.n + 2 ≤ edge_count g
  pub count : length further ≡ further_count (edge_count g) g.n
  pub steps : Steps (Adj g) start further
  pub all-branch : (z : ℕ) → z < g.n → IsBranch z (final start further)

-- A certificate: c, d are removed vertices, first and pairs a spanning tree, side the side of a separation.
pub data Certificate : Type 0 where
  separation : (side : List ℕ) → Certificate
  tree : (c first : ℕ) (pairs : List (ℕ × ℕ)) (side : List ℕ) → Certificate
  ears : (c d : ℕ) (first : Path) (later : List Path) (side : List ℕ) → Certificate
  build : (p q r s : ℕ) (start further : List Path) → Certificate

abbrev pub kind : Certificate → ℕ
kind (separation S) = 0
kind (tree c f ps S) = 1
kind (ears c d P es S) = 2
kind (build p q r s ps qs) = 3

-- the grade that an accepted certificate gives
abbrev pub grade : Certificate → ℕ
grade (separation S) = 0
grade (tree c f ps S) = 1
grade (ears c d P es S) = 2
grade (build p q r s ps qs) = 3

-- EVERY RULE for the certificate's kind holds.
abbrev pub Rules : Graph → Certificate → Type 0
Rules g (separation S) = Separation g [] S
Rules g (tree c f ps S) = TreeRules g c f ps S
Rules g (ears c d P es S) = EarRules g c d P es S
Rules g (build p q r s ps qs) = BuildRules g p q r s ps qs
