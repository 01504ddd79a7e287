-- Further paths of a build, until every vertex is a branch vertex; then the edges that no path has.
use Rattle.std.specs.Prelude.{ℕ, zero, suc, ◌+◌, ◌-◌, Bool, true, false, cond, not, ◌&&◌, ◌||◌, List, [], ◌∷◌, ◌++◌, ltb, leb, eqb, length, get_or, take, drop}
use Rattle.vertexset.specs.Set.{has, inserted}
use Rattle.vertexset.specs.declared.VertexSet.{VertexSet}
use Rattle.graph.specs.Limits.{max_edges}
use Rattle.graph.specs.Rows.{adjacent_in, row_of, bare_rows}
use Rattle.connectivity.specs.Lists.{below}
use Rattle.construction.specs.Sets.{minus, pair, set_with_all, set_of, members_from, empty, reversed, last_of, place_of}
use Rattle.construction.specs.Search.{explore}
use Rattle.construction.specs.Ears.{Cut, no_cut, is_cut, Found, answered, near, detour, path_space, add_path}
use Rattle.construction.specs.Start.{Begun, marked}

-- A build in the making: its whole paths, the oldest first, a stop before each; its branch vertices and all its vertices; the
-- place before which no inner vertex stands; whether it goes on; or a cut.
pub record State : Type 0 where
  pub flat : List ℕ
  pub branch : VertexSet
  pub built : VertexSet
  pub at : ℕ
  pub going : Bool
  pub cut_by : Cut

abbrev pub state : List ℕ → VertexSet → VertexSet → ℕ → State
state flat branch built at = record { flat = flat; branch = branch; built = built; at = at; going = true; cut_by = no_cut }

abbrev pub stopped : State → Cut → State
stopped st c = record { flat = st.flat; branch = st.branch; built = st.built; at = st.at; going = false; cut_by = c }

-- the state with a path whose two ends are, or become, branch vertices
abbrev pub extended : State → List ℕ → ℕ → State
extended st path at =
    state (add_path st.flat path) (inserted (inserted st.branch (get_or path 0 0)) (last_of path)) (set_with_all st.built path) at

-- (a) A LINK WITH INNER VERTICES stands at the places i - 1 to j: a search from its two outermost inner vertices to the rest of the build, without
-- its ends. It may run along the link before it leaves it: of the path only what lies beyond the last vertex inside the link is taken, and that vertex.
abbrev pub segment : List ℕ → ℕ → ℕ → List ℕ
segment l i j = take (j - i) (drop i l)

abbrev pub link_ends : List ℕ → ℕ → ℕ → VertexSet
link_ends flat i j = pair (get_or flat (i - 1) 0) (get_or flat j 0)

abbrev pub off_link : List ℕ → State → ℕ → ℕ → Found
off_link rows st i j =
    answered (explore rows (pair (get_or st.flat i 0) (get_or st.flat (j - 1) 0)) (minus (minus st.built (set_of (segment st.flat i j))) (link_ends st.flat i j)) (link_ends st.flat i j))
    (link_ends st.flat i j) []

-- a path is listed from its goal: it ends at the first vertex that is in the set
abbrev pub up_to : VertexSet → List ℕ → List ℕ
up_to set path = take (place_of (has set.words) path + 1) path

abbrev pub link_taken : State → ℕ → ℕ → Found → State
link_taken st i j f = cond (is_cut f.cut_by) (stopped st f.cut_by) (extended st (up_to (set_of (segment st.flat i j)) f.path) i)

abbrev pub run_end : List ℕ → VertexSet → ℕ → ℕ
run_end flat inner i = i + place_of (λ v. not (has inner.words v)) (drop i flat)

unfoldable pub link_step : List ℕ → State → ℕ → State
link_step rows st i =
    link_taken st i (run_end st.flat (minus st.built st.branch) i) (off_link rows st i (run_end st.flat (minus st.built st.branch) i))

-- (b) OUT AND BACK: y, .., c, x. Where x and y are neighbours on a path, the new vertices are put in between them.
unfoldable pub pair_place : ℕ → ℕ → List ℕ → ℕ
pair_place x y [] = 0
pair_place x y (a ∷ []) = 1
pair_place x y (a ∷ (b ∷ l)) = cond ((eqb a x && eqb b y) || (eqb a y && eqb b x)) 0 (pair_place x y (b ∷ l) + 1)

-- the same for two vertices of a build: only where an edge joins them can they stand side by side
abbrev pub beside_place : List ℕ → ℕ → ℕ → List ℕ → ℕ
beside_place rows x y flat = cond (adjacent_in rows x y) (pair_place x y flat) (length flat)

-- the new vertices in the direction of the path, on which z stands before them
abbrev pub turned : List ℕ → ℕ → List ℕ
turned path z = cond (eqb z (get_or path 0 0)) (segment path 1 (length path - 1)) (reversed (segment path 1 (length path - 1)))

abbrev pub put_in : List ℕ → ℕ → List ℕ → List ℕ
put_in flat k new = cond (leb (length flat + length new) path_space) (take k flat ++ (new ++ drop k flat)) flat

abbrev pub reroute : State → List ℕ → ℕ → State
reroute st path k =
    state (put_in st.flat (k + 1) (turned path (get_or st.flat k 0))) st.branch (set_with_all st.built path) (k + 1)

abbrev pub out_taken : List ℕ → State → Found → State
out_taken rows st f =
    cond (is_cut f.cut_by)
    (stopped st f.cut_by)
    (cond (ltb (beside_place rows (last_of f.path) (get_or f.path 0 0) st.flat) (length st.flat))
    (reroute st f.path (beside_place rows (last_of f.path) (get_or f.path 0 0) st.flat))
    (extended st f.path (length st.flat)))

unfoldable pub out_step : List ℕ → VertexSet → State → State
out_step rows full st = cond (empty (minus full st.built)) (stopped st no_cut) (out_taken rows st (detour rows (near rows st.built) st.built))

-- ONE STEP
abbrev pub inner_place : State → ℕ
inner_place st = st.at + place_of (has (minus st.built st.branch).words) (drop st.at st.flat)

unfoldable pub step : List ℕ → VertexSet → State → State
step rows full st = cond (ltb (inner_place st) (length st.flat)) (link_step rows st (inner_place st)) (out_step rows full st)

-- at most f steps more
unfoldable pub steps : List ℕ → VertexSet → ℕ → State → State
steps rows full zero st = st
steps rows full (suc f) st = cond st.going (steps rows full f (step rows full st)) st

abbrev pub first_state : Begun → State
first_state b = state b.flat b.four (set_of b.flat) 0

unfoldable pub build : List ℕ → VertexSet → Begun → State
build rows full b = steps rows full (max_edges + 1) (first_state b)

-- (c) THE EDGES THAT NO PATH HAS, each as a path
unfoldable pub add_edges : ℕ → List ℕ → List ℕ → List ℕ
add_edges u [] flat = flat
add_edges u (v ∷ l) flat = add_edges u l (add_path flat (u ∷ (v ∷ [])))

unfoldable pub add_rows : List ℕ → List ℕ → List ℕ → List ℕ → List ℕ
add_rows rows table [] flat = flat
add_rows rows table (u ∷ l) flat = add_rows rows table l (add_edges u (members_from (u + 1) (minus (row_of rows u) (row_of table u))) flat)

unfoldable pub finish : List ℕ → ℕ → List ℕ → List ℕ
finish rows n flat = add_rows rows (marked bare_rows flat) (below n) flat
