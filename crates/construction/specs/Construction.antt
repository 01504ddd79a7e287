-- The certificate of a graph given as n and an adjacency test: the construction of Certificate, step by step, without rows and words.
use Rattle.std.specs.Prelude.{ℕ, zero, suc, ◌+◌, ◌-◌, Bool, true, false, cond, not, ◌&&◌, ◌||◌, List, [], ◌∷◌, ◌++◌, ltb, leb, eqb, length, get_or, replicate, drop, take}
use Rattle.record.specs.Read.{folded}
use Rattle.vertexset.specs.Set.{first_from}
use Rattle.connectivity.specs.Lists.{select, up_from, below, any}
use Rattle.connectivity.specs.Graph.{is_pair}
use Rattle.construction.specs.Sets.{added, last_of, place_of}
use Rattle.construction.specs.Search.{back}
use Rattle.construction.specs.Steps.{segment, pair_place, turned}
use Rattle.construction.specs.Certificate.{pairs_from}

-- Sizes of the tables and arrays: nothing is put in past them, and a search or a build ends there.
pub record Bounds : Type 0 where
  -- no vertex is as large: it stands for none and before each path
  pub vertices : ℕ
  -- numbers of a list of paths
  pub numbers : ℕ
  -- steps of a build
  pub steps : ℕ

abbrev pub VertexSet : Type 0
VertexSet = ℕ → Bool

-- ---- what searches, paths and builds leave; Search, Ears, Start and Steps say what each part is

pub record Reach : Type 0 where
  pub order : List ℕ
  pub from : List ℕ
  pub seeds : ℕ
  pub shut : VertexSet
  pub goal : ℕ
  pub last : ℕ

abbrev pub reach : List ℕ → List ℕ → ℕ → VertexSet → ℕ → ℕ → Reach
reach order from seeds shut goal last = record { order = order; from = from; seeds = seeds; shut = shut; goal = goal; last = last }

pub record Cut : Type 0 where
  pub removed : VertexSet
  pub side : VertexSet

pub record Found : Type 0 where
  pub path : List ℕ
  pub cut_by : Cut

pub record Eared : Type 0 where
  pub flat : List ℕ
  pub count : ℕ
  pub cut_by : Cut

pub record Begun : Type 0 where
  pub four : VertexSet
  pub flat : List ℕ
  pub cut_by : Cut

pub record State : Type 0 where
  pub flat : List ℕ
  pub branch : VertexSet
  pub built : VertexSet
  pub at : ℕ
  pub going : Bool
  pub cut_by : Cut

abbrev pub empty_set : VertexSet
empty_set = λ x. false

abbrev pub cut : VertexSet → VertexSet → Cut
cut removed side = record { removed = removed; side = side }

abbrev pub no_cut : Cut
no_cut = cut empty_set empty_set

abbrev pub found : List ℕ → Found
found path = record { path = path; cut_by = no_cut }

abbrev pub failed : VertexSet → VertexSet → Found
failed removed side = record { path = []; cut_by = cut removed side }

abbrev pub eared : List ℕ → ℕ → Cut → Eared
eared flat count c = record { flat = flat; count = count; cut_by = c }

abbrev pub begun : VertexSet → List ℕ → Begun
begun four flat = record { four = four; flat = flat; cut_by = no_cut }

abbrev pub broken : Cut → Begun
broken c = record { four = empty_set; flat = []; cut_by = c }

abbrev pub state : List ℕ → VertexSet → VertexSet → ℕ → State
state flat branch built at = record { flat = flat; branch = branch; built = built; at = at; going = true; cut_by = no_cut }

abbrev pub stopped : State → Cut → State
stopped st c = record { flat = st.flat; branch = st.branch; built = st.built; at = st.at; going = false; cut_by = c }

-- ---- vertex sets

abbrev pub plus : VertexSet → VertexSet → VertexSet
plus a c = λ x. a x || c x

abbrev pub minus : VertexSet → VertexSet → VertexSet
minus a c = λ x. a x && not (c x)

abbrev pub common : VertexSet → VertexSet → VertexSet
common a c = λ x. a x && c x

-- a path is listed from its goal: it ends at the first vertex that is in the set
abbrev pub up_to : VertexSet → List ℕ → List ℕ
up_to set path = take (place_of set path + 1) path

-- no edges
abbrev pub bare : ℕ → ℕ → Bool
bare = λ x y. false

module _ (b : Bounds) where
  abbrev pub capacity : ℕ
  capacity = b.vertices

  abbrev pub stop : ℕ
  stop = capacity

  -- only a number below capacity becomes a member
  abbrev pub inserted : VertexSet → ℕ → VertexSet
  inserted s v = λ x. s x || (ltb v capacity && eqb x v)

  abbrev pub single : ℕ → VertexSet
  single v = inserted empty_set v

  abbrev pub pair : ℕ → ℕ → VertexSet
  pair u v = inserted (single u) v

  abbrev pub set_with_all : VertexSet → List ℕ → VertexSet
  set_with_all s l = folded inserted s l

  abbrev pub set_of : List ℕ → VertexSet
  set_of l = set_with_all empty_set l

  -- the members, ascending; those that are not below v
  abbrev pub members_from : ℕ → VertexSet → List ℕ
  members_from v s = select s (up_from v (capacity - v))

  abbrev pub members : VertexSet → List ℕ
  members s = members_from 0 s

  abbrev pub count : VertexSet → ℕ
  count s = length (members s)

  -- the least member that is not below v, or capacity where there is none
  abbrev pub next : VertexSet → ℕ → ℕ
  next s v = first_from s capacity (capacity - v) v

  abbrev pub least : VertexSet → ℕ
  least s = next s 0

  abbrev pub next_after : VertexSet → ℕ → ℕ
  next_after s v = next s (v + 1)

  abbrev pub empty : VertexSet → Bool
  empty s = not (any s (below capacity))

  -- ---- one search, breadth first

  -- the vertex at place h is visited: its least goal ends the search, else its new neighbours are reached; at most k visits more
  unfoldable pub visit : (ℕ → ℕ → Bool) → VertexSet → ℕ → ℕ → List ℕ → List ℕ → VertexSet → ℕ → Reach
  visit adj goals seeds zero order from shut h = reach order from seeds shut capacity h
  visit adj goals seeds (suc k) order from shut h =
      cond (ltb h (length order))
      (cond (ltb (least (common (adj (get_or order h 0)) goals)) capacity)
      (reach order from seeds shut (least (common (adj (get_or order h 0)) goals)) h)
      (visit adj goals seeds k (added capacity order (members (minus (adj (get_or order h 0)) shut)))
      (added capacity from (replicate (length (members (minus (adj (get_or order h 0)) shut))) h))
      (plus shut (adj (get_or order h 0))) (h + 1)))
      (reach order from seeds shut capacity h)

  -- THE SEARCH
  unfoldable pub explore : (ℕ → ℕ → Bool) → VertexSet → VertexSet → VertexSet → Reach
  explore adj seeds goals removed =
      visit adj goals (length (members seeds)) capacity (members seeds) (replicate (length (members seeds)) 0) (plus seeds removed) 0

  abbrev pub is_found : Reach → Bool
  is_found r = ltb r.goal capacity

  -- the path that was found, from the goal back to a seed
  abbrev pub route : Reach → List ℕ
  route r = r.goal ∷ back capacity r.order r.from r.seeds r.last

  -- the side, where none was found: what was reached
  abbrev pub reached : Reach → VertexSet → VertexSet
  reached r removed = minus r.shut removed

  -- ---- a way out of a set and back; a cycle through vertex 0; ears

  abbrev pub is_cut : Cut → Bool
  is_cut c = not (empty c.side)

  -- the answer of a search without the removed vertices, and the removed vertices that the path goes on to
  abbrev pub answered : Reach → VertexSet → List ℕ → Found
  answered r removed more = cond (is_found r) (found (route r ++ more)) (failed removed (reached r removed))

  -- the neighbours of the members of a set
  abbrev pub near : (ℕ → ℕ → Bool) → VertexSet → VertexSet
  near adj set = λ w. any (λ v. set v && adj v w) (below capacity)

  -- the least vertex outside a set that is near it, and its least neighbour inside: (inside, outside); capacity where there is none
  abbrev pub way_out : (ℕ → ℕ → Bool) → VertexSet → VertexSet → ℕ × ℕ
  way_out adj near set = (least (common (adj (least (minus near set))) set), least (minus near set))

  -- OUT AND BACK: an edge from x in the set to c outside, and from c back to another vertex of the set; listed from there: .., c, x
  abbrev pub back_from : (ℕ → ℕ → Bool) → VertexSet → ℕ × ℕ → Found
  back_from adj set e =
      cond (ltb e.0 capacity)
      (answered (explore adj (single e.1) (minus set (single e.0)) (single e.0)) (single e.0) (e.0 ∷ []))
      (failed empty_set set)

  unfoldable pub detour : (ℕ → ℕ → Bool) → VertexSet → VertexSet → Found
  detour adj near set = back_from adj set (way_out adj near set)

  -- A CYCLE THROUGH VERTEX 0, listed from one neighbour to the least one, and then 0
  unfoldable pub cycle : (ℕ → ℕ → Bool) → Found
  cycle adj =
      cond (ltb (count (adj 0)) 2)
      (failed (adj 0) (single 0))
      (answered (explore adj (single (least (adj 0))) (minus (adj 0) (single (least (adj 0)))) (single 0)) (single 0) (0 ∷ []))

  -- paths one after the other, a stop before each
  abbrev pub path_space : ℕ
  path_space = b.numbers

  abbrev pub add_path : List ℕ → List ℕ → List ℕ
  add_path flat path = added path_space flat (stop ∷ path)

  -- ears until every vertex is in, at most f more
  unfoldable pub ears_on : (ℕ → ℕ → Bool) → VertexSet → ℕ → List ℕ → ℕ → VertexSet → Eared
  ears_on adj full zero flat k set = eared flat k no_cut
  ears_on adj full (suc f) flat k set =
      cond (empty (minus full set))
      (eared flat k no_cut)
      (cond (is_cut (detour adj (near adj set) set).cut_by)
      (eared flat k (detour adj (near adj set) set).cut_by)
      (ears_on adj full f (add_path flat (detour adj (near adj set) set).path) (k + 1) (set_with_all set (detour adj (near adj set) set).path)))

  -- EARS
  unfoldable pub ears : (ℕ → ℕ → Bool) → VertexSet → Eared
  ears adj full =
      cond (is_cut (cycle adj).cut_by)
      (eared [] 0 (cycle adj).cut_by)
      (ears_on adj full capacity (add_path [] (cycle adj).path) 1 (set_with_all empty_set (cycle adj).path))

  -- ---- the start of a build

  -- an edge more, in both directions; a number past the vertices joins nothing
  abbrev pub joined : (ℕ → ℕ → Bool) → ℕ → ℕ → ℕ → ℕ → Bool
  joined adj u v = λ x y. adj x y || ((ltb u capacity && ltb v capacity) && (is_pair (u, v) x y || is_pair (v, u) x y))

  -- neighbours on a path are joined; no edge has a stop as its end
  unfoldable pub marked : (ℕ → ℕ → Bool) → List ℕ → ℕ → ℕ → Bool
  marked adj [] = adj
  marked adj (u ∷ []) = adj
  marked adj (u ∷ (v ∷ l)) = marked (joined adj u v) (v ∷ l)

  -- the link from u to w: the path in the table without the other branch vertices
  abbrev pub link_in : (ℕ → ℕ → Bool) → VertexSet → ℕ → ℕ → List ℕ
  link_in table four u w = route (explore table (single w) (single u) (minus four (pair u w)))

  abbrev pub add_link : (ℕ → ℕ → Bool) → VertexSet → List ℕ → ℕ → ℕ → List ℕ
  add_link table four flat u w = add_path flat (link_in table four u w)

  -- the six links in the order of the record
  abbrev pub six_links : (ℕ → ℕ → Bool) → VertexSet → ℕ → ℕ → ℕ → ℕ → List ℕ
  six_links table four p q r s =
      add_link table four (add_link table four (add_link table four (add_link table four (add_link table four (add_link table four [] p q) p r) p s) q r) q s) r s

  unfoldable pub sorted : (ℕ → ℕ → Bool) → VertexSet → List ℕ
  sorted table four =
      six_links table four (least four) (next_after four (least four)) (next_after four (next_after four (least four))) (next_after four (next_after four (next_after four (least four))))

  -- the three paths of the start, a stop before each: the cycle, closed; the third path to vertex 0; the path across
  abbrev pub three_paths : List ℕ → List ℕ → List ℕ → List ℕ
  three_paths around third across = add_path (add_path (add_path [] (0 ∷ around)) third) across

  abbrev pub four_of : List ℕ → List ℕ → VertexSet
  four_of third across = inserted (inserted (pair 0 (get_or third 0 0)) (get_or across 0 0)) (last_of across)

  abbrev pub start_on : List ℕ → List ℕ → List ℕ → Begun
  start_on around third across = begun (four_of third across) (sorted (marked bare (three_paths around third across)) (four_of third across))

  -- from inside the third path, which begins at b, across to the cycle, without 0 and b
  abbrev pub across : (ℕ → ℕ → Bool) → List ℕ → List ℕ → Found
  across adj around third =
      answered (explore adj (minus (set_of third) (pair 0 (get_or third 0 0))) (minus (set_of around) (pair 0 (get_or third 0 0))) (pair 0 (get_or third 0 0)))
      (pair 0 (get_or third 0 0)) []

  -- a third path from 0, listed from the cycle: b, .., z, 0; z is the least neighbour of 0 that is not on the cycle
  abbrev pub third_path : (ℕ → ℕ → Bool) → List ℕ → Found
  third_path adj around = answered (explore adj (single (least (minus (adj 0) (set_of around)))) (minus (set_of around) (single 0)) (single 0)) (single 0) (0 ∷ [])

  abbrev pub crossed : List ℕ → List ℕ → Found → Begun
  crossed around third f = cond (is_cut f.cut_by) (broken f.cut_by) (start_on around third f.path)

  abbrev pub thirded : (ℕ → ℕ → Bool) → List ℕ → Found → Begun
  thirded adj around f = cond (is_cut f.cut_by) (broken f.cut_by) (crossed around f.path (across adj around f.path))

  abbrev pub around : (ℕ → ℕ → Bool) → Found → Begun
  around adj f = cond (is_cut f.cut_by) (broken f.cut_by) (thirded adj f.path (third_path adj f.path))

  -- THE START
  unfoldable pub begin : (ℕ → ℕ → Bool) → Begun
  begin adj = cond (ltb (count (adj 0)) 3) (broken (cut (adj 0) (single 0))) (around adj (cycle adj))

  -- ---- further paths of a build, and then the edges that no path has

  -- the state with a path whose two ends are, or become, branch vertices
  abbrev pub extended : State → List ℕ → ℕ → State
  extended st path at =
      state (add_path st.flat path) (inserted (inserted st.branch (get_or path 0 0)) (last_of path)) (set_with_all st.built path) at

  -- (a) A LINK WITH INNER VERTICES stands at the places i - 1 to j: a search from its two outermost inner vertices to the rest of the build, without
  -- its ends. It may run along the link before it leaves it: of the path only what lies beyond the last vertex inside the link is taken, and that vertex.
  abbrev pub link_ends : List ℕ → ℕ → ℕ → VertexSet
  link_ends flat i j = pair (get_or flat (i - 1) 0) (get_or flat j 0)

  abbrev pub off_link : (ℕ → ℕ → Bool) → State → ℕ → ℕ → Found
  off_link adj st i j =
      answered (explore adj (pair (get_or st.flat i 0) (get_or st.flat (j - 1) 0)) (minus (minus st.built (set_of (segment st.flat i j))) (link_ends st.flat i j)) (link_ends st.flat i j))
      (link_ends st.flat i j) []

  abbrev pub link_taken : State → ℕ → ℕ → Found → State
  link_taken st i j f = cond (is_cut f.cut_by) (stopped st f.cut_by) (extended st (up_to (set_of (segment st.flat i j)) f.path) i)

  abbrev pub run_end : List ℕ → VertexSet → ℕ → ℕ
  run_end flat inner i = i + place_of (λ v. not (inner v)) (drop i flat)

  unfoldable pub link_step : (ℕ → ℕ → Bool) → State → ℕ → State
  link_step adj st i =
      link_taken st i (run_end st.flat (minus st.built st.branch) i) (off_link adj st i (run_end st.flat (minus st.built st.branch) i))

  -- (b) OUT AND BACK: y, .., c, x. Where x and y are neighbours on a path, the new vertices are put in between them.
  abbrev pub beside_place : (ℕ → ℕ → Bool) → ℕ → ℕ → List ℕ → ℕ
  beside_place adj x y flat = cond (adj x y) (pair_place x y flat) (length flat)

  abbrev pub put_in : List ℕ → ℕ → List ℕ → List ℕ
  put_in flat k new = cond (leb (length flat + length new) path_space) (take k flat ++ (new ++ drop k flat)) flat

  abbrev pub reroute : State → List ℕ → ℕ → State
  reroute st path k =
      state (put_in st.flat (k + 1) (turned path (get_or st.flat k 0))) st.branch (set_with_all st.built path) (k + 1)

  abbrev pub out_taken : (ℕ → ℕ → Bool) → State → Found → State
  out_taken adj st f =
      cond (is_cut f.cut_by)
      (stopped st f.cut_by)
      (cond (ltb (beside_place adj (last_of f.path) (get_or f.path 0 0) st.flat) (length st.flat))
      (reroute st f.path (beside_place adj (last_of f.path) (get_or f.path 0 0) st.flat))
      (extended st f.path (length st.flat)))

  unfoldable pub out_step : (ℕ → ℕ → Bool) → VertexSet → State → State
  out_step adj full st = cond (empty (minus full st.built)) (stopped st no_cut) (out_taken adj st (detour adj (near adj st.built) st.built))

  -- ONE STEP
  abbrev pub inner_place : State → ℕ
  inner_place st = st.at + place_of (minus st.built st.branch) (drop st.at st.flat)

  unfoldable pub step : (ℕ → ℕ → Bool) → VertexSet → State → State
  step adj full st = cond (ltb (inner_place st) (length st.flat)) (link_step adj st (inner_place st)) (out_step adj full st)

  -- at most f steps more
  unfoldable pub steps : (ℕ → ℕ → Bool) → VertexSet → ℕ → State → State
  steps adj full zero st = st
  steps adj full (suc f) st = cond st.going (steps adj full f (step adj full st)) st

  abbrev pub first_state : Begun → State
  first_state s = state s.flat s.four (set_of s.flat) 0

  unfoldable pub build : (ℕ → ℕ → Bool) → VertexSet → Begun → State
  build adj full s = steps adj full b.steps (first_state s)

  -- (c) THE EDGES THAT NO PATH HAS, each as a path
  unfoldable pub add_edges : ℕ → List ℕ → List ℕ → List ℕ
  add_edges u [] flat = flat
  add_edges u (v ∷ l) flat = add_edges u l (add_path flat (u ∷ (v ∷ [])))

  unfoldable pub add_rows : (ℕ → ℕ → Bool) → (ℕ → ℕ → Bool) → List ℕ → List ℕ → List ℕ
  add_rows adj table [] flat = flat
  add_rows adj table (u ∷ l) flat = add_rows adj table l (add_edges u (members_from (u + 1) (minus (adj u) (table u))) flat)

  unfoldable pub finish : (ℕ → ℕ → Bool) → ℕ → List ℕ → List ℕ
  finish adj n flat = add_rows adj (marked bare flat) (below n) flat

  -- ---- the numbers of the record

  -- each stop becomes the length of the path behind it; and how many numbers stand before the first stop
  abbrev pub length_on : ℕ → List ℕ × ℕ → List ℕ × ℕ
  length_on v r = cond (eqb v stop) (r.1 ∷ r.0, 0) (v ∷ r.0, r.1 + 1)

  unfoldable pub lengthened : List ℕ → List ℕ × ℕ
  lengthened [] = ([], 0)
  lengthened (v ∷ l) = length_on v (lengthened l)

  -- the pairs of a tree: each vertex reached with the one it was reached from
  abbrev pub tree_numbers : Reach → List ℕ
  tree_numbers r = 0 ∷ pairs_from r.order r.from (length r.order - 1) 1

  -- what stands in a certificate between the removed vertices and the side
  abbrev pub evidence : Reach → Eared → ℕ → List ℕ
  evidence tree e k = cond (eqb k 0) [] (cond (eqb k 1) (tree_numbers tree) (e.count ∷ (lengthened e.flat).0))

  abbrev pub side_numbers : VertexSet → List ℕ
  side_numbers side = length (members side) ∷ members side

  -- kinds 0 to 2: as many vertices are removed as the kind says
  abbrev pub cut_numbers : Reach → Eared → Cut → List ℕ
  cut_numbers tree e c =
      length (members c.removed) ∷ (members c.removed ++ (evidence tree e (length (members c.removed)) ++ side_numbers c.side))

  abbrev pub build_numbers : VertexSet → List ℕ → List ℕ
  build_numbers four flat = 3 ∷ (members four ++ (lengthened flat).0)

  -- where two vertices are removed, ears are asked for; where there are none, one vertex or none cuts
  abbrev pub chosen : Eared → Cut → Cut
  chosen e c = cond (is_cut e.cut_by) e.cut_by c

  abbrev pub cut_certificate : Reach → (ℕ → ℕ → Bool) → VertexSet → Cut → List ℕ
  cut_certificate tree adj full c =
      cond (ltb (count c.removed) 2) (cut_numbers tree (eared [] 0 no_cut) c) (cut_numbers tree (ears adj full) (chosen (ears adj full) c))

  abbrev pub build_certificate : Reach → (ℕ → ℕ → Bool) → ℕ → VertexSet → VertexSet → State → List ℕ
  build_certificate tree adj n full four st =
      cond (is_cut st.cut_by) (cut_certificate tree adj full st.cut_by) (build_numbers four (finish adj n st.flat))

  abbrev pub begun_certificate : Reach → (ℕ → ℕ → Bool) → ℕ → VertexSet → Begun → List ℕ
  begun_certificate tree adj n full s =
      cond (is_cut s.cut_by) (cut_certificate tree adj full s.cut_by) (build_certificate tree adj n full s.four (build adj full s))

  abbrev pub tree_certificate : (ℕ → ℕ → Bool) → ℕ → VertexSet → Reach → List ℕ
  tree_certificate adj n full tree =
      cond (empty (minus full tree.shut)) (begun_certificate tree adj n full (begin adj)) (cut_certificate tree adj full (cut empty_set tree.shut))

  -- the vertices below n
  abbrev pub full_set : ℕ → VertexSet
  full_set n = set_of (below n)

  -- THE NUMBERS OF THE CERTIFICATE of the graph with n vertices and this adjacency test
  unfoldable pub certificate_numbers : ℕ → (ℕ → ℕ → Bool) → List ℕ
  certificate_numbers n adj = tree_certificate adj n (full_set n) (explore adj (single 0) empty_set empty_set)

-- THE CERTIFICATE without words: no vertex is as large as n
abbrev pub certificate : (numbers steps : ℕ) → ℕ → (ℕ → ℕ → Bool) → List ℕ
certificate numbers steps n adj = certificate_numbers (record { vertices = n; numbers = numbers; steps = steps }) n adj
