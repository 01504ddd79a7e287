-- What the functions give: the values of the definition, its lists at the front of arrays.
use Rattle.std.specs.Prelude.{ℕ, ◌≤◌, ◌≡◌, cond, List, [], ◌∷◌, ltb, eqb, length, take, Option, Some, None, Result, Ok, Err}
use Rattle.vertexset.specs.Set.{empty_set, count, capacity}
use Rattle.vertexset.specs.declared.VertexSet.{VertexSet}
use Rattle.graph.specs.Rows.{row_of}
use Rattle.search.specs.Arrays.{padded}
use Rattle.search.specs.Code.{Vertices, path_of, search_space, left_in}
use Rattle.construction.specs.Sets.{minus, single, least}
use Rattle.construction.specs.Search.{Reach, explore}
use Rattle.construction.specs.Ears as construction
use Rattle.construction.specs.Ears.{is_cut, failed, answered, way_out, path_space}
use Rattle.detours.specs.declared.Cut.{Cut}
use Rattle.detours.specs.declared.Ears.{Ears}

abbrev pub cut_of : construction.Cut → Cut
cut_of c = record { removed = c.removed; side = c.side }

-- a path, or where there is none the cut, whether somebody is on its side or not
abbrev pub found_by : List ℕ → construction.Cut → Result Vertices Cut
found_by [] c = Err (cut_of c)
found_by (v ∷ l) c = Ok (path_of (v ∷ l))

abbrev pub found_of : construction.Found → Result Vertices Cut
found_of f = found_by f.path f.cut_by

abbrev pub flat_of : List ℕ → List ℕ
flat_of l = padded path_space l

abbrev pub ears_of : construction.Eared → Ears
ears_of e = record { flat = flat_of e.flat; len = length e.flat; count = e.count; cut = cut_of e.cut_by }

-- the cut of the definition, from the code's struct
abbrev pub cut_in : Cut → construction.Cut
cut_in c = record { removed = c.removed; side = c.side }

-- for those that go on where nothing is cut: a cut where somebody is on the side, else the path, be it empty
abbrev pub settled_of : construction.Found → Result Vertices Cut
settled_of f = cond (is_cut f.cut_by) (Err (cut_of f.cut_by)) (Ok (path_of f.path))

-- the same, from what a search answers
abbrev pub settled : Result Vertices Cut → Result Vertices Cut
settled (Ok p) = Ok p
settled (Err c) = cond (is_cut (cut_in c)) (Err c) (Ok (path_of []))

-- ---- a search in the space that is lent for it

-- in a space of another size nothing is searched: there is no path, and nobody is on a side
abbrev pub answered_in : List ℕ → Reach → VertexSet → List ℕ → construction.Found
answered_in space m removed more = cond (eqb (length space) search_space) (answered m removed more) (failed removed (minus empty_set removed))

-- what comes of the search back from an edge out of the set, without its inner end; or of no such edge
abbrev pub back_by : {A : Type 0} → (Reach → VertexSet → List ℕ → A) → A → List ℕ → VertexSet → ℕ × ℕ → A
back_by told none rows set e =
    cond (ltb e.0 capacity) (told (explore rows (single e.1) (minus set (single e.0)) (single e.0)) (single e.0) (e.0 ∷ [])) none

unfoldable pub detour_by : {A : Type 0} → (Reach → VertexSet → List ℕ → A) → A → List ℕ → VertexSet → VertexSet → A
detour_by told none rows near set = back_by told none rows set (way_out rows near set)

abbrev pub detour_in : List ℕ → List ℕ → VertexSet → VertexSet → construction.Found
detour_in space rows near set = detour_by (answered_in space) (failed empty_set set) rows near set

abbrev pub detour_left : List ℕ → List ℕ → VertexSet → VertexSet → List ℕ
detour_left space rows near set = detour_by (λ m removed more. left_in space m) space rows near set

-- the same for the search around vertex 0; or for fewer than two neighbours
unfoldable pub cycle_by : {A : Type 0} → (Reach → VertexSet → List ℕ → A) → A → List ℕ → A
cycle_by told none rows =
    cond (ltb (count (row_of rows 0).words) 2) none
    (told (explore rows (single (least (row_of rows 0))) (minus (row_of rows 0) (single (least (row_of rows 0)))) (single 0)) (single 0) (0 ∷ []))

abbrev pub cycle_in : List ℕ → List ℕ → construction.Found
cycle_in space rows = cycle_by (answered_in space) (failed (row_of rows 0) (single 0)) rows

abbrev pub cycle_left : List ℕ → List ℕ → List ℕ
cycle_left space rows = cycle_by (λ m removed more. left_in space m) space rows

-- ---- what the private functions give, and what they keep

-- an edge out of a set, if there is one
abbrev pub way_of : ℕ × ℕ → Option (ℕ × ℕ)
way_of e = cond (ltb e.0 capacity) (Some e) None

-- a list of paths at the front of the array, and zeros behind it
abbrev pub Kept : List ℕ → ℕ → Type 0
Kept items len = (items ≡ flat_of (take len items)) × (len ≤ path_space)

-- a list of paths at the front of the array
pub record FlatShows (items : List ℕ) (len : ℕ) (flat : List ℕ) : Type 0 where
  pub array : items ≡ flat_of flat
  pub short : length flat ≤ path_space
  pub size : len ≡ length flat
