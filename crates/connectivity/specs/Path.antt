-- Paths. E u v says that an edge joins u and v.
use Rattle.std.specs.Prelude.{◌≡◌, ◌⊎◌, List, ◌∷◌, ◌++◌, [], ℕ, min, max}
use Rattle.connectivity.specs.Lists.{NoDup}

-- A path, from s over the inner vertices to t; a link of a build is a path too.
pub record Path : Type 0 where
  pub s : ℕ
  pub inner : List ℕ
  pub t : ℕ

abbrev pub link : ℕ → List ℕ → ℕ → Path
link s l t = record { s = s; inner = l; t = t }

abbrev pub vertices : Path → List ℕ
vertices L = L.s ∷ (L.inner ++ (L.t ∷ []))

abbrev pub End : ℕ → Path → Type 0
End z L = (z ≡ L.s) ⊎ (z ≡ L.t)

-- Neighbours in the list s, l, t are joined by an edge.
abbrev pub Along : (E : ℕ → ℕ → Type 0) → ℕ → List ℕ → ℕ → Type 0
Along E s [] t = E s t
Along E s (a ∷ l) t = E s a × Along E a l t

-- Neighbours are joined by an edge, and all vertices differ.
pub record IsPath (E : ℕ → ℕ → Type 0) (L : Path) : Type 0 where
  pub along : Along E L.s L.inner L.t
  pub nodup : NoDup (vertices L)

-- The edges that paths use, each as (lower end, higher end).
abbrev pub edge : ℕ → ℕ → ℕ × ℕ
edge u v = (min u v, max u v)

abbrev pub edges_along : ℕ → List ℕ → ℕ → List (ℕ × ℕ)
edges_along s [] t = edge s t ∷ []
edges_along s (a ∷ l) t = edge s a ∷ edges_along a l t

abbrev pub path_edges : Path → List (ℕ × ℕ)
path_edges L = edges_along L.s L.inner L.t

abbrev pub used_edges : List Path → List (ℕ × ℕ)
used_edges [] = []
used_edges (L ∷ ls) = path_edges L ++ used_edges ls
