-- The start of a build: a cycle through vertex 0, a third path from 0 to the cycle, a path across; six links between four vertices.
use Rattle.std.specs.Prelude.{ℕ, ◌+◌, cond, List, [], ◌∷◌, ltb, get_or}
use Rattle.vertexset.specs.Set.{empty_set, inserted, count, next}
use Rattle.vertexset.specs.declared.VertexSet.{VertexSet}
use Rattle.graph.specs.Rows.{row_of, bare_rows, joined_rows}
use Rattle.construction.specs.Sets.{minus, single, pair, set_of, least, last_of}
use Rattle.construction.specs.Search.{explore, route}
use Rattle.construction.specs.Ears.{Cut, cut, no_cut, is_cut, Found, answered, cycle, add_path}

-- rows of bits, as a graph's, in which neighbours on a path are joined; no edge has a stop as its end
unfoldable pub marked : List ℕ → List ℕ → List ℕ
marked table [] = table
marked table (u ∷ []) = table
marked table (u ∷ (v ∷ l)) = marked (joined_rows table u v) (v ∷ l)

-- A start: its four branch vertices and its six paths, a stop before each; or a cut.
pub record Begun : Type 0 where
  pub four : VertexSet
  pub flat : List ℕ
  pub cut_by : Cut

abbrev pub begun : VertexSet → List ℕ → Begun
begun four flat = record { four = four; flat = flat; cut_by = no_cut }

abbrev pub broken : Cut → Begun
broken c = record { four = empty_set; flat = []; cut_by = c }

-- the link from u to w: the path in the table without the other branch vertices
abbrev pub link_in : List ℕ → VertexSet → ℕ → ℕ → List ℕ
link_in table four u w = route (explore table (single w) (single u) (minus four (pair u w)))

abbrev pub add_link : List ℕ → VertexSet → List ℕ → ℕ → ℕ → List ℕ
add_link table four flat u w = add_path flat (link_in table four u w)

-- the six links in the order of the record
abbrev pub six_links : List ℕ → VertexSet → ℕ → ℕ → ℕ → ℕ → List ℕ
six_links table four p q r s =
    add_link table four (add_link table four (add_link table four (add_link table four (add_link table four (add_link table four [] p q) p r) p s) q r) q s) r s

abbrev pub next_after : VertexSet → ℕ → ℕ
next_after s v = next s.words (v + 1)

unfoldable pub sorted : List ℕ → VertexSet → List ℕ
sorted table four =
    six_links table four (least four) (next_after four (least four)) (next_after four (next_after four (least four))) (next_after four (next_after four (next_after four (least four))))

-- the three paths of the start, a stop before each: the cycle, closed; the third path to vertex 0; the path across
abbrev pub three_paths : List ℕ → List ℕ → List ℕ → List ℕ
three_paths around third across = add_path (add_path (add_path [] (0 ∷ around)) third) across

abbrev pub four_of : List ℕ → List ℕ → VertexSet
four_of third across = inserted (inserted (pair 0 (get_or third 0 0)) (get_or across 0 0)) (last_of across)

abbrev pub start_on : List ℕ → List ℕ → List ℕ → Begun
start_on around third across = begun (four_of third across) (sorted (marked bare_rows (three_paths around third across)) (four_of third across))

-- from inside the third path, which begins at b, across to the cycle, without 0 and b
abbrev pub across : List ℕ → List ℕ → List ℕ → Found
across rows around third =
    answered (explore rows (minus (set_of third) (pair 0 (get_or third 0 0))) (minus (set_of around) (pair 0 (get_or third 0 0))) (pair 0 (get_or third 0 0)))
    (pair 0 (get_or third 0 0)) []

-- a third path from 0, listed from the cycle: b, .., z, 0; z is the least neighbour of 0 that is not on the cycle
abbrev pub third_path : List ℕ → List ℕ → Found
third_path rows around = answered (explore rows (single (least (minus (row_of rows 0) (set_of around)))) (minus (set_of around) (single 0)) (single 0)) (single 0) (0 ∷ [])

abbrev pub crossed : List ℕ → List ℕ → Found → Begun
crossed around third f = cond (is_cut f.cut_by) (broken f.cut_by) (start_on around third f.path)

abbrev pub thirded : List ℕ → List ℕ → Found → Begun
thirded rows around f = cond (is_cut f.cut_by) (broken f.cut_by) (crossed around f.path (across rows around f.path))

-- fewer than three neighbours separate vertex 0; a cycle that is through all of them has but the two next to 0
abbrev pub around : List ℕ → Found → Begun
around rows f = cond (is_cut f.cut_by) (broken f.cut_by) (thirded rows f.path (third_path rows f.path))

-- THE START
unfoldable pub begin : List ℕ → Begun
begin rows = cond (ltb (count (row_of rows 0).words) 3) (broken (cut (row_of rows 0) (single 0))) (around rows (cycle rows))
