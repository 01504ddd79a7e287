-- What the functions give: the states of the definition, their paths at the front of an array.
use Rattle.std.specs.Prelude.{ℕ, Option, IfSome, ◌+◌, ◌-◌, ◌≤◌, ◌<◌, ◌≡◌, Bool, true, false, cond, ◌&&◌, ◌||◌, ◌⊎◌, List, [], ◌∷◌, ◌++◌, leb, eqb, length, take, drop, get_or}
use Rattle.vertexset.specs.Set.{has, count}
use Rattle.vertexset.specs.declared.VertexSet.{VertexSet}
use Rattle.construction.specs.Sets.{added, minus, single, set_of, place_of}
use Rattle.construction.specs.Ears as construction
use Rattle.construction.specs.Ears.{is_cut, near, path_space}
use Rattle.construction.specs.Start.{begun}
use Rattle.construction.specs.Steps.{State, segment, run_end, build, finish}
use Rattle.detours.specs.Code.{cut_of, cut_in, flat_of, Kept}
use Rattle.stepping.specs.declared.Built.{Built}
use Rattle.stepping.specs.declared.Progress.{Progress}
use Rattle.stepping.specs.declared.Work.{Work}

abbrev pub built_of : List ℕ → construction.Cut → Built
built_of l c = record { flat = flat_of l; len = length l; cut = cut_of c }

-- where no cut was met, the edges that no path has come behind the paths
abbrev pub finished_of : List ℕ → ℕ → State → Built
finished_of rows n st = built_of (cond (is_cut st.cut_by) st.flat (finish rows n st.flat)) st.cut_by

-- paths that have no room are none
abbrev pub built_in : List ℕ → ℕ → VertexSet → VertexSet → List ℕ → Built
built_in rows n full four list = finished_of rows n (build rows full (begun four (added path_space [] list)))

-- ---- what the private functions give

-- two vertices stand side by side somewhere in a list
unfoldable pub has_pair : ℕ → ℕ → List ℕ → Bool
has_pair x y [] = false
has_pair x y (a ∷ []) = false
has_pair x y (a ∷ (b ∷ l)) = ((eqb a x && eqb b y) || (eqb a y && eqb b x)) || has_pair x y (b ∷ l)

-- the array with a list put in between
abbrev pub put_between : List ℕ → ℕ → ℕ → List ℕ → List ℕ
put_between items len k new =
    cond (leb (len + length new) (length items)) (take k items ++ (new ++ (take (len - k) (drop k items) ++ drop (len + length new) items))) items

abbrev pub put_between_end : List ℕ → ℕ → List ℕ → ℕ
put_between_end items len new = cond (leb (len + length new) (length items)) (len + length new) len

-- the state that the array and what is kept beside it stand for
abbrev pub state_in : List ℕ → Progress → State
state_in items b = record {
  flat = take b.len items;
  branch = b.branch;
  built = b.built;
  at = b.at;
  going = b.going;
  cut_by = cut_in b.cut;
}

abbrev pub progress_of : List ℕ → State → Progress
progress_of rows st = record {
  branch = st.branch;
  built = st.built;
  near = near rows st.built;
  len = length st.flat;
  at = st.at;
  going = st.going;
  cut = cut_of st.cut_by;
}

pub record Shows (rows items : List ℕ) (b : Progress) (st : State) : Type 0 where
  pub array : items ≡ flat_of st.flat
  pub short : length st.flat ≤ path_space
  pub beside : b ≡ progress_of rows st

-- a list of paths at the front of the array, and the neighbours of what is built
pub record Holds (rows items : List ℕ) (b : Progress) : Type 0 where
  pub kept : Kept items b.len
  pub same_near : b.near ≡ near rows b.built

-- ---- the link at work, kept from step to step

-- it reaches to the end of its run, and these are its vertices
pub record Spans (flat : List ℕ) (inner : VertexSet) (w : Work) : Type 0 where
  pub run : w.end ≡ run_end flat inner w.first
  pub link : w.link ≡ set_of (segment flat w.first w.end)

-- it is the one that the next step takes: it begins at the first inner vertex that is left
pub record IsNext (flat : List ℕ) (inner : VertexSet) (at : ℕ) (w : Work) : Type 0 where
  pub some : w.first < w.end
  pub place : w.first ≡ at + place_of (has inner.words) (drop at flat)
  pub spans : Spans flat inner w

-- so is the one at work, where one is
abbrev pub AtWork : List ℕ → VertexSet → ℕ → Option Work → Type 0
AtWork flat inner at work = IfSome work (λ w. IsNext flat inner at w)

abbrev pub Works : State → Option Work → Type 0
Works st work = AtWork st.flat (minus st.built st.branch) st.at work

-- r is w without x, its first or its last vertex of more than one; none stands twice in w, and a branch vertex behind it
pub record Left (flat : List ℕ) (branch : VertexSet) (w : Work) (x : ℕ) (r : Work) : Type 0 where
  pub some : r.first < r.end
  pub low : w.end < length flat
  pub behind : has branch.words (get_or flat w.end 0) ≡ true
  pub once : count w.link.words ≡ w.end - w.first
  pub link : r.link ≡ minus w.link (single x)
  pub places : ((x ≡ get_or flat w.first 0) × ((r.first ≡ w.first + 1) × (r.end ≡ w.end))) ⊎ ((x ≡ get_or flat (w.end - 1) 0) × ((r.first ≡ w.first) × (r.end ≡ w.end - 1)))
