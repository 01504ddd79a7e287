-- The tests that a certificate is held to, beside a graph.
use Rattle.std.specs.Prelude.{ℕ, zero, suc, List, [], ◌∷◌, ◌++◌, Bool, true, false, cond, ◌&&◌, ◌||◌, not, eqb}
use Rattle.connectivity.specs.Lists.{member}
use Rattle.connectivity.specs.Graph.{Graph}
use Rattle.connectivity.specs.Path.{Path, vertices}

-- vertex sets as tests
abbrev pub nobody : ℕ → Bool
nobody v = false

abbrev pub with : (ℕ → Bool) → ℕ → ℕ → Bool
with p v x = p x || eqb x v

unfoldable pub some_below : ℕ → (ℕ → Bool) → Bool
some_below zero t = false
some_below (suc n) t = t n || some_below n t

unfoldable pub all_below : ℕ → (ℕ → Bool) → Bool
all_below zero t = true
all_below (suc n) t = t n && all_below n t

unfoldable pub any_link : (Path → Bool) → List Path → Bool
any_link t [] = false
any_link t (L ∷ ls) = t L || any_link t ls

unfoldable pub each : (ℕ → Bool) → List ℕ → Bool
each t [] = true
each t (v ∷ l) = t v && each t l

-- the rest: neither removed nor in the side
abbrev pub rest : (ℕ → Bool) → (ℕ → Bool) → ℕ → Bool
rest removed side v = not (removed v) && not (side v)

-- 22: side and rest each hold a vertex
abbrev pub both_hold : ℕ → (ℕ → Bool) → (ℕ → Bool) → Bool
both_hold n removed side = some_below n side && some_below n (rest removed side)

-- 23: no edge runs between side and rest
abbrev pub no_edge_between : Graph → (ℕ → Bool) → (ℕ → Bool) → Bool
no_edge_between g removed side = all_below g.n (λ u. all_below g.n (λ v. not (side u && (rest removed side v && g.adj u v))))

-- 24: neighbours on a path are adjacent
unfoldable pub along : (ℕ → ℕ → Bool) → ℕ → List ℕ → ℕ → Bool
along adj s [] t = adj s t
along adj s (v ∷ l) t = adj s v && along adj v l t

abbrev pub path_along : Graph → Path → Bool
path_along g P = along g.adj P.s P.inner P.t

-- 26: no vertex is twice on a path, and the inner vertices are new
unfoldable pub distinct : List ℕ → Bool
distinct [] = true
distinct (v ∷ l) = not (member v l) && distinct l

abbrev pub path_new : (ℕ → Bool) → Path → Bool
path_new old P = distinct (vertices P) && each (λ v. not (old v)) P.inner

-- ears: B lists the vertices that are in; while it is empty the first ear is still to come
abbrev pub begun : List ℕ → Bool
begun [] = false
begun (v ∷ l) = true

abbrev pub ear_along : Graph → List ℕ → Path → Bool
ear_along g B P = path_along g P && (begun B || g.adj P.t P.s)

abbrev pub ear_ends : List ℕ → Path → Bool
ear_ends B P = not (begun B) || (member P.s B && member P.t B)

abbrev pub ear_new : List ℕ → Path → Bool
ear_new B P = path_new (λ v. member v B) P

abbrev pub ear_taken : List ℕ → Path → List ℕ
ear_taken B P = cond (begun B) (P.inner ++ B) (vertices P)

-- the start: the pairs of ends that are still to be joined, and the vertices that are in
pub record Start : Type 0 where
  pub ends : List (ℕ × ℕ)
  pub built : List ℕ

abbrev pub start_ends : List (ℕ × ℕ) → Path → Bool
start_ends [] P = false
start_ends (e ∷ es) P = eqb P.s e.0 && eqb P.t e.1

abbrev pub later_ends : List (ℕ × ℕ) → List (ℕ × ℕ)
later_ends [] = []
later_ends (e ∷ es) = es

abbrev pub start_taken : Start → Path → Start
start_taken st P = record { ends = later_ends st.ends; built = P.inner ++ st.built }

-- a build is the list of its links
abbrev pub in_build : List Path → ℕ → Bool
in_build links v = any_link (λ L. member v (vertices L)) links

abbrev pub is_branch : List Path → ℕ → Bool
is_branch links v = any_link (λ L. eqb v L.s || eqb v L.t) links

-- 25: both ends are in the build
abbrev pub ends_in : List Path → Path → Bool
ends_in links P = in_build links P.s && in_build links P.t

-- 27: no link holds both ends, the link's own ends counted
abbrev pub ends_apart : List Path → Path → Bool
ends_apart links P = not (any_link (λ L. member P.s (vertices L) && member P.t (vertices L)) links)
