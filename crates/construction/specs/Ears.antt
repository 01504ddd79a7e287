-- A way out of a set of vertices and back; a cycle through vertex 0; ears.
use Rattle.std.specs.Prelude.{ℕ, zero, suc, ◌+◌, ◌*◌, Bool, cond, not, List, [], ◌∷◌, ◌++◌, ltb}
use Rattle.record.specs.Read.{folded}
use Rattle.vertexset.specs.Set.{empty_set, count, capacity}
use Rattle.vertexset.specs.declared.VertexSet.{VertexSet}
use Rattle.graph.specs.Limits.{max_edges}
use Rattle.graph.specs.Rows.{row_of}
use Rattle.construction.specs.Sets.{stop, plus, minus, common, single, set_with_all, members, least, empty, added}
use Rattle.construction.specs.Search.{Reach, explore, is_found, route, reached}

-- Removed vertices, and a side that no edge leaves but to them. Without a side nothing is cut.
pub record Cut : Type 0 where
  pub removed : VertexSet
  pub side : VertexSet

abbrev pub cut : VertexSet → VertexSet → Cut
cut removed side = record { removed = removed; side = side }

abbrev pub no_cut : Cut
no_cut = cut empty_set empty_set

abbrev pub is_cut : Cut → Bool
is_cut c = not (empty c.side)

-- A path of vertices, or a cut.
pub record Found : Type 0 where
  pub path : List ℕ
  pub cut_by : Cut

abbrev pub found : List ℕ → Found
found path = record { path = path; cut_by = no_cut }

abbrev pub failed : VertexSet → VertexSet → Found
failed removed side = record { path = []; cut_by = cut removed side }

-- the answer of a search without the removed vertices, and the removed vertices that the path goes on to
abbrev pub answered : Reach → VertexSet → List ℕ → Found
answered r removed more = cond (is_found r) (found (route r ++ more)) (failed removed (reached r removed))

-- the neighbours of the vertices of a list, beside others
abbrev pub near_all : List ℕ → VertexSet → List ℕ → VertexSet
near_all rows near l = folded (λ s v. plus s (row_of rows v)) near l

-- the neighbours of the members of a set
unfoldable pub near : List ℕ → VertexSet → VertexSet
near rows set = near_all rows empty_set (members set)

-- the least vertex outside a set that is near it, and its least neighbour inside: (inside, outside); capacity where there is none
abbrev pub way_out : List ℕ → VertexSet → VertexSet → ℕ × ℕ
way_out rows near set = (least (common (row_of rows (least (minus near set))) set), least (minus near set))

-- OUT AND BACK: an edge from x in the set to c outside, and from c back to another vertex of the set; listed from there: .., c, x
abbrev pub back_from : List ℕ → VertexSet → ℕ × ℕ → Found
back_from rows set e =
    cond (ltb e.0 capacity)
    (answered (explore rows (single e.1) (minus set (single e.0)) (single e.0)) (single e.0) (e.0 ∷ []))
    (failed empty_set set)

unfoldable pub detour : List ℕ → VertexSet → VertexSet → Found
detour rows near set = back_from rows set (way_out rows near set)

-- A CYCLE THROUGH VERTEX 0, listed from one neighbour to the least one, and then 0
unfoldable pub cycle : List ℕ → Found
cycle rows =
    cond (ltb (count (row_of rows 0).words) 2)
    (failed (row_of rows 0) (single 0))
    (answered (explore rows (single (least (row_of rows 0))) (minus (row_of rows 0) (single (least (row_of rows 0)))) (single 0)) (single 0) (0 ∷ []))

-- paths one after the other, a stop before each
abbrev pub path_space : ℕ
path_space = 3 * max_edges

abbrev pub add_path : List ℕ → List ℕ → List ℕ
add_path flat path = added path_space flat (stop ∷ path)

-- Ears, a stop before each; how many; or a cut.
pub record Eared : Type 0 where
  pub flat : List ℕ
  pub count : ℕ
  pub cut_by : Cut

abbrev pub eared : List ℕ → ℕ → Cut → Eared
eared flat count c = record { flat = flat; count = count; cut_by = c }

-- ears until every vertex is in, at most f more
unfoldable pub ears_on : List ℕ → VertexSet → ℕ → List ℕ → ℕ → VertexSet → Eared
ears_on rows full zero flat k set = eared flat k no_cut
ears_on rows full (suc f) flat k set =
    cond (empty (minus full set))
    (eared flat k no_cut)
    (cond (is_cut (detour rows (near rows set) set).cut_by)
    (eared flat k (detour rows (near rows set) set).cut_by)
    (ears_on rows full f (add_path flat (detour rows (near rows set) set).path) (k + 1) (set_with_all set (detour rows (near rows set) set).path)))

-- EARS
unfoldable pub ears : List ℕ → VertexSet → Eared
ears rows full =
    cond (is_cut (cycle rows).cut_by)
    (eared [] 0 (cycle rows).cut_by)
    (ears_on rows full capacity (add_path [] (cycle rows).path) 1 (set_with_all empty_set (cycle rows).path))
