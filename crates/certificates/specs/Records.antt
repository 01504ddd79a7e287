-- The certificate record, as it is read and tested, in document 01's order.
use Rattle.std.specs.Prelude.{ℕ, zero, suc, ◌+◌, ◌-◌, List, [], ◌∷◌, Bool, not, ◌||◌, ltb, leb}
use Rattle.record.specs.Read.{Read.Refused, Reader, ◌needs⟨◌⟩◌, ◌▸◌, ◌▹◌, into, many, counted, check, folded, within}
use Rattle.record.specs.Number.{number}
use Rattle.connectivity.specs.Lists.{member}
use Rattle.connectivity.specs.Graph.{Graph, edge_count}
use Rattle.connectivity.specs.Path.{Path, link}
use Rattle.connectivity.specs.Build.{four, six_pairs, taken, final, further_count}
use Rattle.connectivity.specs.Certificate.{Certificate, Certificate.separation, Certificate.tree, Certificate.ears, Certificate.build}
use Rattle.certificates.specs.Tests.{nobody, with, all_below, both_hold, no_edge_between, path_along, path_new, ear_along, ear_ends, ear_new, ear_taken, Start, start_ends, start_taken, is_branch, in_build, ends_in, ends_apart}

-- 9: a vertex below n
unfoldable pub vertex : ℕ → Reader ℕ
vertex n = number needs⟨ 9 ⟩ (λ v. ltb v n)

-- a side: a count, then vertices above their predecessors and not removed
unfoldable pub side_vertex : ℕ → (ℕ → Bool) → ℕ → Reader ℕ
side_vertex n removed least = vertex n needs⟨ 20 ⟩ leb least needs⟨ 21 ⟩ (λ v. not (removed v))

unfoldable pub side : Graph → (ℕ → Bool) → Reader (List ℕ)
side g removed =
    counted (number needs⟨ 9 ⟩ within 0 g.n) (side_vertex g.n removed) (λ least v. suc v) 0
    needs⟨ 22 ⟩ (λ l. both_hold g.n removed (λ v. member v l))
    needs⟨ 23 ⟩ (λ l. no_edge_between g removed (λ v. member v l))

-- a pair of kind 1: a new vertex, and one that was named before
unfoldable pub pair : ℕ → (ℕ → ℕ → Bool) → (ℕ → Bool) → Reader (ℕ × ℕ)
pair n adj named =
    (vertex n ▸ λ new. vertex n) needs⟨ 24 ⟩ (λ p. adj p.0 p.1) needs⟨ 25 ⟩ (λ p. named p.1) needs⟨ 26 ⟩ (λ p. not (named p.0))

-- a path: a length of at least the given one, then the vertices; as a list of two or more it has a first, inner ones and a last
unfoldable pub vertex_list : ℕ → ℕ → Reader (List ℕ)
vertex_list n least = counted (number needs⟨ 9 ⟩ within least n) (λ (u : Unit {0}). vertex n) (λ u v. u) tt

abbrev pub tail_link : ℕ → ℕ → List ℕ → Path
tail_link s v [] = link s [] v
tail_link s v (w ∷ l) = link s (v ∷ (tail_link v w l).inner) (tail_link v w l).t

abbrev pub link_of : List ℕ → Path
link_of [] = link 0 [] 0
link_of (s ∷ []) = link s [] s
link_of (s ∷ v ∷ l) = tail_link s v l

unfoldable pub path : ℕ → ℕ → Reader Path
path n least = into link_of (vertex_list n least)

unfoldable pub ear : Graph → List ℕ → Reader Path
ear g B = path g.n 3 needs⟨ 24 ⟩ ear_along g B needs⟨ 25 ⟩ ear_ends B needs⟨ 26 ⟩ ear_new B

unfoldable pub start_path : Graph → Start → Reader Path
start_path g st = path g.n 2 needs⟨ 24 ⟩ path_along g needs⟨ 25 ⟩ start_ends st.ends needs⟨ 26 ⟩ path_new (λ v. member v st.built)

unfoldable pub further_path : Graph → List Path → Reader Path
further_path g links = path g.n 2 needs⟨ 24 ⟩ path_along g needs⟨ 25 ⟩ ends_in links needs⟨ 26 ⟩ path_new (in_build links) needs⟨ 27 ⟩ ends_apart links

-- the ears of a certificate: the first, and the later ones
abbrev pub first_ear : List Path → Path
first_ear [] = link_of []
first_ear (P ∷ ps) = P

abbrev pub later_ears : List Path → List Path
later_ears [] = []
later_ears (P ∷ ps) = ps

-- a start: four ascending branch vertices, then the six paths between them
unfoldable pub branch_four : ℕ → Reader (ℕ × (ℕ × (ℕ × ℕ)))
branch_four n = vertex n ▸ λ p. vertex n needs⟨ 20 ⟩ leb (suc p) ▸ λ q. vertex n needs⟨ 20 ⟩ leb (suc q) ▸ λ r. vertex n needs⟨ 20 ⟩ leb (suc r)

abbrev pub starting : ℕ × (ℕ × (ℕ × ℕ)) → Start
starting b = record { ends = six_pairs b.0 b.1.0 b.1.1.0 b.1.1.1; built = four b.0 b.1.0 b.1.1.0 b.1.1.1 }

abbrev pub start_paths : Graph → ℕ × (ℕ × (ℕ × ℕ)) → Reader (List Path)
start_paths g b = many (start_path g) start_taken 6 (starting b)

unfoldable pub start : Graph → Reader ((ℕ × (ℕ × (ℕ × ℕ))) × List Path)
start g = branch_four g.n ▸ start_paths g

-- a certificate after its kind
abbrev pub body : Graph → ℕ → Reader Certificate
body g zero = into separation (side g nobody)
body g (suc zero) =
    into (λ x. tree x.0 x.1.0 x.1.1.0 x.1.1.1)
    (vertex g.n ▸ λ c. vertex g.n ▸ λ first.
    many (pair g.n g.adj) (λ named p. with named p.0) (g.n - 1) (with nobody first) ▸ λ pairs.
    side g (with nobody c))
body g (suc (suc zero)) =
    into (λ x. ears x.0 x.1.0 (first_ear x.1.1.0) (later_ears x.1.1.0) x.1.1.1.1)
    (vertex g.n ▸ λ c. vertex g.n needs⟨ 20 ⟩ leb (suc c) ▸ λ d.
    counted (number needs⟨ 9 ⟩ within 1 (g.n - 2)) (ear g) ear_taken [] ▸ λ all.
    check 28 (all_below g.n (λ v. member v (folded ear_taken [] all))) ▸ λ u.
    side g (with (with nobody c) d))
body g (suc (suc (suc zero))) =
    into (λ x. build x.0.0.0 x.0.0.1.0 x.0.0.1.1.0 x.0.0.1.1.1 x.0.1 x.1.0)
    (start g ▸ λ x. many (further_path g) taken (further_count (edge_count g) g.n) x.1 ▸ λ further.
    check 28 (all_below g.n (is_branch (final x.1 further))))
body g (suc (suc (suc (suc k)))) = λ s at. Refused 8 at

-- 8: the kind; 29: kind 3 with fewer than n + 2 edges (document 02: cabled pairs)
unfoldable pub certificate : Graph → Reader Certificate
certificate g = number needs⟨ 8 ⟩ within 0 3 needs⟨ 29 ⟩ (λ k. ltb k 3 || leb (g.n + 2) (edge_count g)) ▹ body g
