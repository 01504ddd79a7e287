-- Building for connectivity 3 (document 01: for grade 3).
use Rattle.std.specs.Prelude.{◌≡◌, List, ◌∷◌, [], ◌++◌, cond, ℕ, ◌-◌, ◌<◌, eqb}
use Rattle.connectivity.specs.Lists.{In, member}
use Rattle.connectivity.specs.Graph.{Graph, Adj}
use Rattle.connectivity.specs.Path.{Path, vertices, End, IsPath, link, edge}

-- A build is the list of its links. A vertex of the build is on a link; a branch vertex (branch box) is an end of one.
abbrev pub InBuild : ℕ → List Path → Type 0
InBuild z links = (L : Path) × In L links × In z (vertices L)

abbrev pub IsBranch : ℕ → List Path → Type 0
IsBranch z links = (L : Path) × In L links × End z L

-- The start: four branch vertices, and six paths for their pairs in this order.
abbrev pub four : ℕ → ℕ → ℕ → ℕ → List ℕ
four p q r s = p ∷ (q ∷ (r ∷ (s ∷ [])))

abbrev pub six_pairs : ℕ → ℕ → ℕ → ℕ → List (ℕ × ℕ)
six_pairs p q r s = (p, q) ∷ ((p, r) ∷ ((p, s) ∷ ((q, r) ∷ ((q, s) ∷ ((r, s) ∷ [])))))

abbrev pub end_pairs : List Path → List (ℕ × ℕ)
end_pairs [] = []
end_pairs (L ∷ ls) = (L.s, L.t) ∷ end_pairs ls

-- Paths taken in one after the other: every inner vertex is new, B being the vertices that are in.
abbrev pub Starts : (E : ℕ → ℕ → Type 0) → List ℕ → List Path → Type 0
Starts E B [] = Unit {0}
Starts E B (P ∷ ps) = IsPath E P × ((w : ℕ) → In w P.inner → ¬ In w B) × Starts E (P.inner ++ B) ps

-- WHAT A START IS ASKED FOR: four ascending vertices of the graph, and six paths that meet only at their ends.
pub record StartRules (g : Graph) (p q r s : ℕ) (start : List Path) : Type 0 where
  pub pq : p < q
  pub qr : q < r
  pub rs : r < s
  pub low : s < g.n
  pub shape : end_pairs start ≡ six_pairs p q r s
  pub starts : Starts (Adj g) (four p q r s) start

-- WHAT A FURTHER PATH (BG-path) IS ASKED FOR: its ends are in the build, its inner vertices are new, and no link holds both
-- its ends, the link's own ends counted. That the two ends differ is part of `is-path`.
pub record BGPath (E : ℕ → ℕ → Type 0) (links : List Path) (P : Path) : Type 0 where
  pub is_path : IsPath E P
  pub from : InBuild P.s links
  pub upto : InBuild P.t links
  pub new : (w : ℕ) → In w P.inner → ¬ InBuild w links
  pub apart : (L : Path) → In L links → In P.s (vertices L) → ¬ In P.t (vertices L)

-- What stands before x in a list, and what stands behind it.
abbrev pub take_before : ℕ → List ℕ → List ℕ
take_before x [] = []
take_before x (a ∷ l) = cond (eqb x a) [] (a ∷ take_before x l)

abbrev pub take_after : ℕ → List ℕ → List ℕ
take_after x [] = []
take_after x (a ∷ l) = cond (eqb x a) l (take_after x l)

-- Each link with x inside is split there.
abbrev pub front_part : ℕ → Path → Path
front_part x L = link L.s (take_before x L.inner) x

abbrev pub back_part : ℕ → Path → Path
back_part x L = link x (take_after x L.inner) L.t

abbrev pub split_at : ℕ → List Path → List Path
split_at x [] = []
split_at x (L ∷ ls) = cond (member x L.inner) (front_part x L ∷ (back_part x L ∷ split_at x ls)) (L ∷ split_at x ls)

-- A path is taken in: links are split at its ends, and it becomes a link.
abbrev pub taken : List Path → Path → List Path
taken links P = P ∷ split_at P.s (split_at P.t links)

-- Further paths, each allowed when its turn comes, and the build at the end.
abbrev pub Steps : (E : ℕ → ℕ → Type 0) → List Path → List Path → Type 0
Steps E links [] = Unit {0}
Steps E links (P ∷ ps) = BGPath E links P × Steps E (taken links P) ps

abbrev pub final : List Path → List Path → List Path
final links [] = links
final links (P ∷ ps) = final (taken links P) ps

-- How many further paths a finished build has, beside d edges and n vertices.
abbrev pub further_count : ℕ → ℕ → ℕ
further_count d n = d - n - 2

-- The ends of each link, as an edge between them.
abbrev pub link_ends : List Path → List (ℕ × ℕ)
link_ends [] = []
link_ends (L ∷ ls) = edge L.s L.t ∷ link_ends ls
