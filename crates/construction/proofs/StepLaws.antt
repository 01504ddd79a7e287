-- A step of a build keeps it: a path is appended, or new vertices are put in between two neighbours on a path.
use mathlib.Core.Path.{◌≡◌, refl, sym, ap, subst, ◌∙◌}
use mathlib.Core.Logic.{inl, inr, ⊎_elim, ⊎_map, ◌≢◌}
use mathlib.Core.List.{List, [], ◌∷◌, ◌++◌, append-nil}
use mathlib.Core.Bool.{true, false}
use Prim.Native.Nat.{ℕ, suc, ◌+◌, ◌*◌, ◌≤◌, ◌<◌}
use native.Mathlib.Omega.{arith}
use lib.ListN.{length, take, drop, length-append, take-append-drop}
use lib.Seq.{take-append-le}
use Rattle.vertexset.specs.Set.{inserted, capacity}
use Rattle.vertexset.specs.declared.VertexSet.{VertexSet}
use Rattle.graph.specs.Limits.{max_edges}
use Rattle.connectivity.specs.Lists.{In}
use Rattle.connectivity.specs.Graph.{Adj, edge_count}
use Rattle.connectivity.specs.Path.{Path, vertices, path_edges, used_edges}
use Rattle.connectivity.specs.Build.{end_pairs}
use Rattle.connectivity.proofs.Lists.{in_left, in_right, in_append}
use Rattle.connectivity.proofs.Paths.{built_vertices, branch_vertices, length_path, end_t}
use Rattle.connectivity.proofs.Edges.{path-low}
use Rattle.connectivity.proofs.Recorded.{Recorded, Extends}
use Rattle.connectivity.proofs.Progress.{built_low}
use Rattle.connectivity.proofs.Completeness.{recorded_most}
use Rattle.construction.specs.Sets.{stop, set_with_all, last_of}
use Rattle.construction.specs.Ears.{is_cut, path_space, add_path}
use Rattle.construction.specs.Steps.{State, extended}
use Rattle.graph.specs.Rows.{rows_graph}
use Rattle.construction.proofs.Basics.{Drawn, Sized, On, IsCut, flatten}
use Rattle.construction.proofs.SetLaws.{sized_inserted, sized_all, on_low, inserted-on, on_inserted, inserted-keep, all-on, on_all, added-room, last_snoc, flatten_append}
use Rattle.construction.proofs.Detours.{low_capacity}
use Rattle.construction.proofs.Flat.{newest_first, newest_snoc, newest_built, built_newest, flat_most, in_flat, flat_in}

-- WHAT EVERY STEP KEEPS: the list holds a record of whole paths with the ends of the start, the sets hold its branch vertices and all
-- its vertices, and no inner vertex stands before the place `at`.
pub record Going (rows : List ℕ) (n : ℕ) (ms ps : List Path) (st : State) : Type 0 where
  pub recorded : Recorded (Adj (rows_graph n rows)) (newest_first ps)
  pub six : 6 ≤ length ps
  pub ends : end_pairs (take 6 ps) ≡ end_pairs ms
  pub same_flat : st.flat ≡ flatten ps
  pub branch_sized : Sized st.branch
  pub built_sized : Sized st.built
  pub branch_on : (w : ℕ) → On st.branch w → In w (branch_vertices (newest_first ps))
  pub on_branch : (w : ℕ) → In w (branch_vertices (newest_first ps)) → On st.branch w
  pub built_on : (w : ℕ) → On st.built w → In w st.flat
  pub on_built : (w : ℕ) → In w st.flat → w < capacity → On st.built w
  pub fits : st.at ≤ length st.flat
  pub passed : (w : ℕ) → In w (take st.at st.flat) → On st.built w → On st.branch w
  pub goes_on : st.going ≡ true

-- the build is done: every vertex is a branch vertex
pub record Completed (rows : List ℕ) (n : ℕ) (ms : List Path) (st : State) : Type 0 where
  pub not_cut : is_cut st.cut_by ≡ false
  pub ps : List Path
  pub same_flat : st.flat ≡ flatten ps
  pub six : 6 ≤ length ps
  pub recorded : Recorded (Adj (rows_graph n rows)) (newest_first ps)
  pub ends : end_pairs (take 6 ps) ≡ end_pairs ms
  pub all-branch : (w : ℕ) → w < n → In w (branch_vertices (newest_first ps))

-- WHAT A STEP DOES to a build that uses so many edges: it uses more, or it is done, or at most two vertices cut the graph.
pub data Stepped (rows : List ℕ) (n : ℕ) (ms : List Path) (used : ℕ) (st : State) : Type 0 where
  goes : (ps : List Path) → Going rows n ms ps st → used < length (used_edges (newest_first ps)) → Stepped rows n ms used st
  ends : st.going ≡ false → Completed rows n ms st → Stepped rows n ms used st
  cuts : st.going ≡ false → IsCut rows n st.cut_by → Stepped rows n ms used st

-- numbers alone: omega is slow beside sets
pub below-stop : (w : ℕ) → w < capacity → w ≢ stop
below-stop w h e = omega arith

room_of : (f u e : ℕ) → f ≤ 3 * u → u ≤ e → e ≤ max_edges → f ≤ path_space
room_of f u e h k j = omega arith

more_of : (i a b : ℕ) → i ≤ a → i ≤ a + b
more_of i a b h = omega arith

longer_of : (u p s i : ℕ) → s ≡ p + u → p ≡ suc i → u < s
longer_of u p s i h k = omega arith

pub take_in : (w i : ℕ) (l : List ℕ) → In w (take i l) → In w l
take_in w i l h = subst (λ (k : List ℕ). In w k) (take-append-drop i l) (in_left w (take i l) (drop i l) h)

module _ (rows : List ℕ) (n : ℕ) (dr : Drawn rows n) (ms ps : List Path) (st : State) (go : Going rows n ms ps st) where
  pub vertex-low : (w : ℕ) → In w (built_vertices (newest_first ps)) → w < n
  vertex-low w h = built_low (rows_graph n rows) dr.simple (newest_first ps) go.recorded w h

  -- the set `built` holds the vertices of the record
  pub vertex-on : (w : ℕ) → In w (built_vertices (newest_first ps)) → On st.built w
  vertex-on w h = go.on_built w (subst (λ (k : List ℕ). In w k) (sym go.same_flat) (in_flat ps w (newest_built ps w h))) (low_capacity n w dr.low (vertex-low w h))

  pub on_vertex : (w : ℕ) → On st.built w → In w (built_vertices (newest_first ps))
  on_vertex w h = built_newest ps w (flat_in ps w (subst (λ (k : List ℕ). In w k) go.same_flat (go.built_on w h)) (below-stop w (on_low st.built w go.built_sized h)))

module _ (rows : List ℕ) (n : ℕ) (dr : Drawn rows n) (few : edge_count (rows_graph n rows) ≤ max_edges) where
  -- the paths of a record have room
  pub room : (ps : List Path) → Recorded (Adj (rows_graph n rows)) (newest_first ps) → length (flatten ps) ≤ path_space
  room ps val = room_of (length (flatten ps)) (length (used_edges (newest_first ps))) (edge_count (rows_graph n rows)) (flat_most ps) (recorded_most (rows_graph n rows) dr.simple (newest_first ps) val) few

  -- A PATH IS APPENDED.
  module _ (ms ps : List Path) (st : State) (go : Going rows n ms ps st) (P : Path) (ext : Extends (Adj (rows_graph n rows)) (newest_first ps) P) where
    longer_record : Recorded (Adj (rows_graph n rows)) (newest_first (ps ++ (P ∷ [])))
    longer_record = subst (λ (k : List Path). Recorded (Adj (rows_graph n rows)) k) (sym (newest_snoc ps P go.six)) (inr (ext, go.recorded))

    longer_flat : st.flat ++ (stop ∷ vertices P) ≡ flatten (ps ++ (P ∷ []))
    longer_flat = ap (λ (k : List ℕ). k ++ (stop ∷ vertices P)) go.same_flat ∙ ap (λ (k : List ℕ). flatten ps ++ (stop ∷ k)) (sym (append-nil (vertices P))) ∙ sym (flatten_append ps (P ∷ []))

    path-added : add_path st.flat (vertices P) ≡ st.flat ++ (stop ∷ vertices P)
    path-added = added-room path_space st.flat (stop ∷ vertices P) (subst (λ (k : ℕ). k ≤ path_space) (ap length (sym longer_flat) ∙ length-append st.flat (stop ∷ vertices P)) (room (ps ++ (P ∷ [])) longer_record))

    last_vertex : last_of (vertices P) ≡ P.t
    last_vertex = last_snoc (P.s ∷ P.inner) P.t

    new_low : (w : ℕ) → In w (vertices P) → w < capacity
    new_low w h = low_capacity n w dr.low (path-low (rows_graph n rows) dr.simple P ext.is_path w h)

    abbrev with_ends : VertexSet
    with_ends = inserted (inserted st.branch P.s) (last_of (vertices P))

    one_sized : Sized (inserted st.branch P.s)
    one_sized = sized_inserted st.branch P.s go.branch_sized

    ends_keep : (w : ℕ) → On st.branch w → On with_ends w
    ends_keep w h = inserted-keep (inserted st.branch P.s) (last_of (vertices P)) w one_sized (inserted-keep st.branch P.s w go.branch_sized h)

    ends_on : (w : ℕ) → On with_ends w → In w (branch_vertices (P ∷ newest_first ps))
    ends_on w h = ⊎_elim (λ k. ⊎_elim (λ j. inr (inr (go.branch_on w j))) inl (inserted-on st.branch P.s w go.branch_sized k)) (λ e. inr (inl (e ∙ last_vertex))) (inserted-on (inserted st.branch P.s) (last_of (vertices P)) w one_sized h)

    on_ends : (w : ℕ) → In w (branch_vertices (P ∷ newest_first ps)) → On with_ends w
    on_ends w (inl e) = subst (λ (k : ℕ). On with_ends k) (sym e) (inserted-keep (inserted st.branch P.s) (last_of (vertices P)) P.s one_sized (on_inserted st.branch P.s go.branch_sized (new_low P.s (inl refl))))
    on_ends w (inr (inl e)) = subst (λ (k : ℕ). On with_ends k) (last_vertex ∙ sym e) (on_inserted (inserted st.branch P.s) (last_of (vertices P)) one_sized (subst (λ (k : ℕ). k < capacity) (sym last_vertex) (new_low P.t (end_t P))))
    on_ends w (inr (inr h)) = ends_keep w (go.on_branch w h)

    more_on : (w : ℕ) → On (set_with_all st.built (vertices P)) w → In w (st.flat ++ (stop ∷ vertices P))
    more_on w h = ⊎_elim (λ k. in_left w st.flat (stop ∷ vertices P) (go.built_on w k)) (λ k. in_right w st.flat (stop ∷ vertices P) (inr k)) (all-on st.built (vertices P) w go.built_sized h)

    on_more : (w : ℕ) → In w (st.flat ++ (stop ∷ vertices P)) → w < capacity → On (set_with_all st.built (vertices P)) w
    on_more w h k = on_all st.built (vertices P) w go.built_sized k (⊎_map (λ j. go.on_built w j k) (λ j. ⊎_elim (λ e. absurd (below-stop w k e)) (λ i. i) j) (in_append w st.flat (stop ∷ vertices P) h))

    used_longer : length (used_edges (newest_first ps)) < length (used_edges (newest_first (ps ++ (P ∷ []))))
    used_longer = longer_of (length (used_edges (newest_first ps))) (length (path_edges P)) (length (used_edges (newest_first (ps ++ (P ∷ []))))) (length P.inner) (ap (λ (k : List Path). length (used_edges k)) (newest_snoc ps P go.six) ∙ length-append (path_edges P) (used_edges (newest_first ps))) (length_path P)

    module _ (i : ℕ) (fit : i ≤ length st.flat) (seen : (w : ℕ) → In w (take i st.flat) → On st.built w → On st.branch w) where
      still_seen : (w : ℕ) → In w (take i (add_path st.flat (vertices P))) → On (set_with_all st.built (vertices P)) w → On with_ends w
      still_seen w h k =
          let j : In w (take i st.flat) = subst (λ (l : List ℕ). In w l) (ap (take i) path-added ∙ take-append-le i st.flat (stop ∷ vertices P) fit) h in
          ends_keep w (seen w j (go.on_built w (take_in w i st.flat j) (on_low (set_with_all st.built (vertices P)) w (sized_all st.built (vertices P) go.built_sized) k)))

      extended-vertices : Going rows n ms (ps ++ (P ∷ [])) (extended st (vertices P) i)
      extended-vertices = record {
        recorded = longer_record;
        six = subst (λ (k : ℕ). 6 ≤ k) (sym (length-append ps (P ∷ []))) (more_of 6 (length ps) 1 go.six);
        ends = ap end_pairs (take-append-le 6 ps (P ∷ []) go.six) ∙ go.ends;
        same_flat = path-added ∙ longer_flat;
        branch_sized = sized_inserted (inserted st.branch P.s) (last_of (vertices P)) one_sized;
        built_sized = sized_all st.built (vertices P) go.built_sized;
        branch_on = λ w h. subst (λ (k : List Path). In w (branch_vertices k)) (sym (newest_snoc ps P go.six)) (ends_on w h);
        on_branch = λ w h. on_ends w (subst (λ (k : List Path). In w (branch_vertices k)) (newest_snoc ps P go.six) h);
        built_on = λ w h. subst (λ (k : List ℕ). In w k) (sym path-added) (more_on w h);
        on_built = λ w h k. on_more w (subst (λ (k : List ℕ). In w k) path-added h) k;
        fits = subst (λ (k : ℕ). i ≤ k) (sym (ap length path-added ∙ length-append st.flat (stop ∷ vertices P))) (more_of i (length st.flat) (length (stop ∷ vertices P)) fit);
        passed = still_seen;
        goes_on = refl;
      }

      pub extended-step : (path : List ℕ) → path ≡ vertices P → Stepped rows n ms (length (used_edges (newest_first ps))) (extended st path i)
      extended-step path e = goes (ps ++ (P ∷ [])) (subst (λ (k : List ℕ). Going rows n ms (ps ++ (P ∷ [])) (extended st k i)) (sym e) extended-vertices) used_longer
