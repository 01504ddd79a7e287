-- What the proofs about the certificate speak of: rows that draw a graph, vertex sets of full size, cuts, and paths in one list.
use Prim.Native.Nat.{ℕ, ◌≤◌, ◌<◌}
use mathlib.Core.Path.{◌≡◌}
use mathlib.Core.Logic.{◌⊎◌}
use mathlib.Core.Bool.{true, false}
use mathlib.Core.List.{List, [], ◌∷◌, ◌++◌}
use lib.ListN.{length}
use Rattle.vertexset.specs.Set.{Words, has, word_count, capacity}
use Rattle.vertexset.specs.declared.VertexSet.{VertexSet}
use Rattle.graph.specs.Rows.{row_words, rows_graph}
use Rattle.connectivity.specs.Graph.{Simple}
use Rattle.connectivity.specs.Path.{Path, vertices}
use Rattle.connectivity.proofs.Lists.{rev}
use Rattle.connectivity.proofs.Search as searching
use Rattle.connectivity.proofs.Progress.{Separated}
use Rattle.construction.specs.Sets.{stop, members}
use Rattle.construction.specs.Search.{explore, is_found, route, reached}
use Rattle.construction.specs.Ears.{Cut, is_cut}

pub record Drawn (rows : List ℕ) (n : ℕ) : Type 0 where
  pub words : Words rows
  pub size : length rows ≡ row_words
  pub low : n ≤ capacity
  pub simple : Simple (rows_graph n rows)

-- a set of as many words as a vertex set has
pub record Sized (s : VertexSet) : Type 0 where
  pub size : length s.words ≡ word_count
  pub words : Words s.words

abbrev pub On : VertexSet → ℕ → Type 0
On s v = has s.words v ≡ true

-- A CUT THAT IS ONE: at most two vertices of the graph are removed, and they separate its side
pub record IsCut (rows : List ℕ) (n : ℕ) (c : Cut) : Type 0 where
  pub is_cut_lem : is_cut c ≡ true
  pub removed-sized : Sized c.removed
  pub side-sized : Sized c.side
  pub low : (w : ℕ) → On c.removed w → w < n
  pub side-low : (w : ℕ) → On c.side w → w < n
  pub few : length (members c.removed) ≤ 2
  pub separated : Separated (rows_graph n rows) (members c.removed)
  pub same_side : separated.side ≡ has c.side.words

-- paths one after the other, a stop before each
abbrev pub flatten : List Path → List ℕ
flatten [] = []
flatten (P ∷ ps) = stop ∷ (vertices P ++ flatten ps)

-- What a search may be asked: its seeds are vertices of the graph; seeds, goals and removed vertices are different ones.
pub record Asked (n : ℕ) (seeds goals removed : VertexSet) : Type 0 where
  pub seeds_sized : Sized seeds
  pub goals_sized : Sized goals
  pub removed-sized : Sized removed
  pub low : (w : ℕ) → On seeds w → w < n
  pub no_goal : (w : ℕ) → On seeds w → ¬ On goals w
  pub no_removed : (w : ℕ) → On seeds w → ¬ On removed w
  pub goal_stays : (w : ℕ) → On goals w → ¬ On removed w

-- WHAT IT ANSWERS: a path, listed from its goal to its seed; or a closed set
pub record Met (rows : List ℕ) (n : ℕ) (seeds goals removed : VertexSet) : Type 0 where
  pub is_found_lem : is_found (explore rows seeds goals removed) ≡ true
  pub found : searching.Found (rows_graph n rows) (On seeds) (On goals) (On removed)
  pub same : route (explore rows seeds goals removed) ≡ rev (vertices found.path)

pub record Shut (rows : List ℕ) (n : ℕ) (seeds goals removed : VertexSet) : Type 0 where
  pub not_found : is_found (explore rows seeds goals removed) ≡ false
  pub sized : Sized (explore rows seeds goals removed).shut
  pub closed : searching.Closed (rows_graph n rows) (On seeds) (On goals) (On removed)
  pub same : closed.side ≡ has (reached (explore rows seeds goals removed) removed).words
  pub low : (w : ℕ) → On (reached (explore rows seeds goals removed) removed) w → w < n

abbrev pub Explored : List ℕ → ℕ → VertexSet → VertexSet → VertexSet → Type 0
Explored rows n seeds goals removed = Met rows n seeds goals removed ⊎ Shut rows n seeds goals removed
