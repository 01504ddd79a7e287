-- What the private functions give: the numbers of the definition's certificates, from the code's structs.
use Rattle.std.specs.Prelude.{ℕ, ◌+◌, ◌-◌, ◌*◌, ◌<◌, cond, List, [], ◌∷◌, ◌++◌, ltb, eqb, length, take, drop, get_or}
use Rattle.record.specs.Number.{number_limit}
use Rattle.vertexset.specs.Set.{empty_set, count, capacity}
use Rattle.vertexset.specs.declared.VertexSet.{VertexSet}
use Rattle.search.specs.Arrays.{padded}
use Rattle.construction.specs.Sets.{single, members}
use Rattle.construction.specs.Search as searching
use Rattle.construction.specs.Ears as construction
use Rattle.construction.specs.Ears.{path_space}
use Rattle.construction.specs.Start.{Begun, begun}
use Rattle.construction.specs.Steps.{State, build, finish}
use Rattle.construction.specs.Certificate.{pairs_from, tree_numbers, lengthened, side_numbers, chosen, build_numbers}
use Rattle.detours.specs.Code.{cut_of, cut_in, ears_of}
use Rattle.detours.specs.declared.Cut.{Cut}
use Rattle.detours.specs.declared.Ears.{Ears}
use Rattle.starting.specs.declared.Start.{Start}
use Rattle.certifier.specs.declared.Numbers.{Numbers}

-- the numbers of a certificate: at most the kind, two sets of vertices with their sizes, and paths
abbrev pub number_room : ℕ
number_room = path_space + 2 * capacity + 8

abbrev pub numbers_of : List ℕ → Numbers
numbers_of l = record { items = padded number_room l; count = length l }

-- the pairs of the tree that a search left in its space
abbrev pub tree_in : List ℕ → ℕ → List ℕ
tree_in space count = 0 ∷ pairs_from (take count space) (take count (drop capacity space)) (count - 1) 1

-- the search that reaches every vertex that can be reached
abbrev pub first_search : List ℕ → searching.Reach
first_search rows = searching.explore rows (single 0) empty_set empty_set

abbrev pub evidence_in : List ℕ → Ears → ℕ → List ℕ
evidence_in rows e k = cond (eqb k 0) [] (cond (eqb k 1) (tree_numbers (first_search rows)) (e.count ∷ (lengthened (take e.len e.flat)).0))

abbrev pub cut_numbers_in : List ℕ → Ears → Cut → List ℕ
cut_numbers_in rows e c =
    length (members c.removed) ∷ (members c.removed ++ (evidence_in rows e (length (members c.removed)) ++ side_numbers c.side))

abbrev pub cut_certificate_in : List ℕ → VertexSet → Cut → List ℕ
cut_certificate_in rows full c =
    cond (ltb (count c.removed.words) 2) (cut_numbers_in rows (ears_of (construction.eared [] 0 construction.no_cut)) c) (cut_numbers_in rows (ears_of (construction.ears rows full)) (cut_of (chosen (construction.ears rows full) (cut_in c))))

abbrev pub start_in : Start → Begun
start_in s = begun s.four (take s.len s.flat)

abbrev pub built_certificate_in : List ℕ → ℕ → VertexSet → VertexSet → State → List ℕ
built_certificate_in rows n full four st =
    cond (construction.is_cut st.cut_by) (cut_certificate_in rows full (cut_of st.cut_by)) (build_numbers four (finish rows n st.flat))

abbrev pub start_certificate_in : List ℕ → ℕ → VertexSet → Start → List ℕ
start_certificate_in rows n full s = built_certificate_in rows n full s.four (build rows full (start_in s))

-- numbers that have a form of one or two bytes
abbrev pub Small : List ℕ → Type 0
Small l = (i : ℕ) → get_or l i 0 < number_limit
