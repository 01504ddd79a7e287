-- Vertex connectivity capped at 3 as a function that computes.
use Rattle.std.specs.Prelude.{List, ◌++◌, [], ◌∷◌, not, ◌&&◌, Bool, true, cond, ℕ, zero, suc}
use Rattle.connectivity.specs.Lists.{select, member, any, below, all}
use Rattle.connectivity.specs.Graph.{Graph}

-- The vertices outside X and T with a neighbour in T.
abbrev pub frontier : Graph → List ℕ → List ℕ → List ℕ
frontier g X T = select (λ v. not (member v X) && (not (member v T) && any (λ u. g.adj u v) T)) (below g.n)

-- The vertices reached outside X, layer by layer: F is the newest layer, T the older ones; at most the given number of layers more.
abbrev pub closure : Graph → List ℕ → ℕ → List ℕ → List ℕ → List ℕ
closure g X zero F T = F ++ T
closure g X (suc more) [] T = T
closure g X (suc more) (v ∷ F) T = closure g X more (frontier g X (v ∷ (F ++ T))) (v ∷ (F ++ T))

abbrev pub reached_from : Graph → List ℕ → ℕ → List ℕ
reached_from g X s = closure g X g.n (s ∷ []) []

abbrev pub reaches_all : Graph → List ℕ → List ℕ → Bool
reaches_all g X [] = true
reaches_all g X (s ∷ l) = all (λ v. member v (reached_from g X s)) l

-- Whether the vertices outside X are all connected.
abbrev pub all_connected : Graph → List ℕ → Bool
all_connected g X = reaches_all g X (select (λ v. not (member v X)) (below g.n))

-- Whether they are for each single vertex removed, and for each two.
abbrev pub without_one : Graph → Bool
without_one g = all (λ c. all_connected g (c ∷ [])) (below g.n)

abbrev pub without_two : Graph → Bool
without_two g = all (λ c. all (λ d. all_connected g (c ∷ (d ∷ []))) (below c)) (below g.n)

-- VERTEX CONNECTIVITY CAPPED AT 3, computed.
abbrev pub connectivity : Graph → ℕ
connectivity g = cond (all_connected g []) (cond (without_one g) (cond (without_two g) 3 2) 1) 0
