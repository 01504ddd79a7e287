-- THE CERTIFICATE OF A GRAPH, as the numbers of its record.
use Rattle.std.specs.Prelude.{ℕ, zero, suc, ◌+◌, ◌-◌, ◌*◌, cond, List, [], ◌∷◌, ◌++◌, ltb, leb, eqb, length, get_or}
use Rattle.record.specs.Number.{number_bytes, list_bytes}
use Rattle.vertexset.specs.Set.{capacity, empty_set, count}
use Rattle.vertexset.specs.declared.VertexSet.{VertexSet}
use Rattle.connectivity.specs.Lists.{below}
use Rattle.construction.specs.Sets.{stop, minus, single, members, set_of, empty}
use Rattle.construction.specs.Search.{Reach, explore}
use Rattle.construction.specs.Ears.{Cut, cut, no_cut, is_cut, path_space, Eared, ears}
use Rattle.construction.specs.Start.{Begun, begin}
use Rattle.construction.specs.Steps.{State, build, finish}

-- each stop becomes the length of the path behind it; and how many numbers stand before the first stop
abbrev pub length_on : ℕ → List ℕ × ℕ → List ℕ × ℕ
length_on v r = cond (eqb v stop) (r.1 ∷ r.0, 0) (v ∷ r.0, r.1 + 1)

unfoldable pub lengthened : List ℕ → List ℕ × ℕ
lengthened [] = ([], 0)
lengthened (v ∷ l) = length_on v (lengthened l)

-- the pairs of a tree: each vertex reached with the one it was reached from
unfoldable pub pairs_from : List ℕ → List ℕ → ℕ → ℕ → List ℕ
pairs_from order from zero i = []
pairs_from order from (suc k) i = get_or order i 0 ∷ (get_or order (get_or from i 0) 0 ∷ pairs_from order from k (i + 1))

abbrev pub tree_numbers : Reach → List ℕ
tree_numbers r = 0 ∷ pairs_from r.order r.from (length r.order - 1) 1

-- what stands in a certificate between the removed vertices and the side
abbrev pub evidence : Reach → Eared → ℕ → List ℕ
evidence tree e k = cond (eqb k 0) [] (cond (eqb k 1) (tree_numbers tree) (e.count ∷ (lengthened e.flat).0))

abbrev pub side_numbers : VertexSet → List ℕ
side_numbers side = length (members side) ∷ members side

-- kinds 0 to 2: as many vertices are removed as the kind says
abbrev pub cut_numbers : Reach → Eared → Cut → List ℕ
cut_numbers tree e c =
    length (members c.removed) ∷ (members c.removed ++ (evidence tree e (length (members c.removed)) ++ side_numbers c.side))

abbrev pub build_numbers : VertexSet → List ℕ → List ℕ
build_numbers four flat = 3 ∷ (members four ++ (lengthened flat).0)

-- where two vertices are removed, ears are asked for; where there are none, one vertex or none cuts
abbrev pub chosen : Eared → Cut → Cut
chosen e c = cond (is_cut e.cut_by) e.cut_by c

abbrev pub cut_certificate : Reach → List ℕ → VertexSet → Cut → List ℕ
cut_certificate tree rows full c =
    cond (ltb (count c.removed.words) 2) (cut_numbers tree (record { flat = []; count = 0; cut_by = no_cut }) c) (cut_numbers tree (ears rows full) (chosen (ears rows full) c))

abbrev pub build_certificate : Reach → List ℕ → ℕ → VertexSet → VertexSet → State → List ℕ
build_certificate tree rows n full four st =
    cond (is_cut st.cut_by) (cut_certificate tree rows full st.cut_by) (build_numbers four (finish rows n st.flat))

abbrev pub begun_certificate : Reach → List ℕ → ℕ → VertexSet → Begun → List ℕ
begun_certificate tree rows n full b =
    cond (is_cut b.cut_by) (cut_certificate tree rows full b.cut_by) (build_certificate tree rows n full b.four (build rows full b))

abbrev pub tree_certificate : List ℕ → ℕ → VertexSet → Reach → List ℕ
tree_certificate rows n full tree =
    cond (empty (minus full tree.shut)) (begun_certificate tree rows n full (begin rows)) (cut_certificate tree rows full (cut empty_set tree.shut))

-- the vertices below n
abbrev pub full_set : ℕ → VertexSet
full_set n = set_of (below n)

-- THE NUMBERS OF THE CERTIFICATE of the graph with n vertices and these rows, and its bytes
unfoldable pub certificate_numbers : List ℕ → ℕ → List ℕ
certificate_numbers rows n = tree_certificate rows n (full_set n) (explore rows (single 0) empty_set empty_set)

-- a vertex takes one byte where all are below 128, else two
abbrev pub vertex_bytes : ℕ
vertex_bytes = cond (leb capacity 128) 1 2

-- no certificate is longer (document 01: 1,536)
abbrev pub certificate_room : ℕ
certificate_room = vertex_bytes * path_space

abbrev pub certificate_record : List ℕ → ℕ → List ℕ
certificate_record rows n = list_bytes number_bytes (certificate_numbers rows n)
