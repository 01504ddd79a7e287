-- New vertices are put in between two neighbours on a path of a build.
use mathlib.Core.Path.{◌≡◌, refl, sym, ap, subst, ◌∙◌}
use mathlib.Core.Logic.{◌⊎◌, ⊎_elim, ⊎_map, ◌≢◌}
use mathlib.Core.List.{List, [], ◌∷◌, ◌++◌, append_assoc}
use mathlib.Core.Bool.{Bool, cond}
use Prim.Native.Nat.{ℕ, suc, ◌+◌, ◌-◌, ◌≤◌, ◌<◌}
use native.Mathlib.Omega.{arith}
use lib.ListN.{length, take, drop, length-append}
use lib.Seq.{take_at, drop_at}
use borrow.Author.Tests.{le-leb, eq-eqb, ne_eqb}
use Rattle.graph.specs.Limits.{max_edges}
use Rattle.connectivity.specs.Lists.{In, NoDup}
use Rattle.connectivity.specs.Graph.{Adj, edge_count}
use Rattle.connectivity.specs.Path.{Path, vertices, Along, used_edges}
use Rattle.connectivity.proofs.Lists.{in_left, in_right, rev}
use Rattle.connectivity.proofs.Order.{in_insert, insert_in}
use Rattle.connectivity.proofs.Paths.{built_vertices, branch_vertices}
use Rattle.connectivity.proofs.Recorded.{Recorded, fill, reroute, reroute-branch, reroute-longer}
use Rattle.construction.specs.Sets.{stop, set_with_all, reversed}
use Rattle.construction.specs.Ears.{path_space}
use Rattle.construction.specs.Steps.{State, state, segment, turned, put_in}
use Rattle.graph.specs.Rows.{rows_graph}
use Rattle.construction.proofs.Basics.{Drawn, On, flatten}
use Rattle.construction.proofs.SetLaws.{sized_all, on_low, all-on, on_all, rev_same}
use Rattle.construction.proofs.Flat.{newest_first, Placed, placed, ends_kept, ConsecutiveAt, consecutive_at, flat_place}
use Rattle.construction.proofs.Places.{rev_rev}
use Rattle.construction.proofs.StepLaws.{Going, Stepped, goes, room}
use Rattle.vertexset.specs.Set.{capacity}

-- the new vertices of y, .., x in the direction of the path
two_less : (k r : ℕ) → k ≡ r + 1 → suc k - 1 - 1 ≡ r
two_less k r e = omega arith

middle : (y : ℕ) (r : List ℕ) (x : ℕ) → segment (y ∷ (r ++ (x ∷ []))) 1 (length (y ∷ (r ++ (x ∷ []))) - 1) ≡ r
middle y r x = take_at r (x ∷ []) (suc (length (r ++ (x ∷ []))) - 1 - 1) (sym (two_less (length (r ++ (x ∷ []))) (length r) (length-append r (x ∷ []))))

pub turned_same : (x y : ℕ) (q : List ℕ) (z : ℕ) → z ≡ y → turned (y ∷ (rev q ++ (x ∷ []))) z ≡ rev q
turned_same x y q z e =
    let s = segment (y ∷ (rev q ++ (x ∷ []))) 1 (length (y ∷ (rev q ++ (x ∷ []))) - 1) in
    ap (λ (b : Bool). cond b s (reversed s)) (eq-eqb z y e) ∙ middle y (rev q) x

pub turned-other : (x y : ℕ) (q : List ℕ) (z : ℕ) → z ≢ y → turned (y ∷ (rev q ++ (x ∷ []))) z ≡ q
turned-other x y q z n =
    let s = segment (y ∷ (rev q ++ (x ∷ []))) 1 (length (y ∷ (rev q ++ (x ∷ []))) - 1) in
    ap (λ (b : Bool). cond b s (reversed s)) (ne_eqb z y n) ∙ ap reversed (middle y (rev q) x) ∙ rev_same (rev q) ∙ rev_rev q

-- q is put in where there is room
put_in_lem : (X q Y : List ℕ) (k : ℕ) → length X ≡ k → length (X ++ Y) + length q ≤ path_space → put_in (X ++ Y) k q ≡ X ++ (q ++ Y)
put_in_lem X q Y k e h =
    ap (λ (b : Bool). cond b (take k (X ++ Y) ++ (q ++ drop k (X ++ Y))) (X ++ Y)) (le-leb (length (X ++ Y) + length q) path_space h) ∙ (λ i. take_at X Y k e i ++ (q ++ drop_at X Y k e i))

put_length : (X q Y : List ℕ) → length (X ++ (q ++ Y)) ≡ length (X ++ Y) + length q
put_length X q Y = omega (arith, length-append X (q ++ Y), length-append q Y, length-append X Y)

length_kept : (before : List Path) (L M : Path) (behind : List Path) → length (before ++ (L ∷ behind)) ≡ length (before ++ (M ∷ behind))
length_kept before L M behind = length-append before (L ∷ behind) ∙ sym (length-append before (M ∷ behind))

rises : (u w q : ℕ) → w ≡ u + q → 0 < q → u < w
rises u w q e h = omega arith

up_to : (k x a : ℕ) → x ≡ k → k ≤ x + a
up_to k x a e = omega arith

module _ (rows : List ℕ) (n : ℕ) (dr : Drawn rows n) (few : edge_count (rows_graph n rows) ≤ max_edges) (ms before : List Path) (L : Path) (behind : List Path) (st : State)
    (go : Going rows n ms (before ++ (L ∷ behind)) st) (front : List ℕ) (a b : ℕ) (back : List ℕ) (cut : vertices L ≡ front ++ (a ∷ (b ∷ back)))
    (q : List ℕ) (along : Along (Adj (rows_graph n rows)) a q b) (nodup : NoDup q) (new : (w : ℕ) → In w q → ¬ In w (built_vertices (newest_first (before ++ (L ∷ behind))))) where
  neighbours : ConsecutiveAt L front a b back
  neighbours = consecutive_at L.s L.inner L.t front a b back cut

  at_place : Placed before behind
  at_place = placed before behind

  -- the path with q in it, and all paths
  abbrev filled_path : Path
  filled_path = fill L neighbours.consecutive.u q neighbours.consecutive.v

  abbrev filled_paths : List Path
  filled_paths = before ++ (filled_path ∷ behind)

  old_record : Recorded (Adj (rows_graph n rows)) (at_place.newer ++ (L ∷ at_place.older))
  old_record = subst (λ (k : List Path). Recorded (Adj (rows_graph n rows)) k) (at_place.at L) go.recorded

  off_record : (w : ℕ) → In w q → ¬ In w (built_vertices (at_place.newer ++ (L ∷ at_place.older)))
  off_record w h k = new w h (subst (λ (l : List Path). In w (built_vertices l)) (sym (at_place.at L)) k)

  filled_record : Recorded (Adj (rows_graph n rows)) (newest_first filled_paths)
  filled_record = subst (λ (k : List Path). Recorded (Adj (rows_graph n rows)) k) (sym (at_place.at filled_path))
      (reroute (Adj (rows_graph n rows)) at_place.newer L at_place.older old_record a b neighbours.consecutive q along nodup off_record)

  filled_branch : branch_vertices (newest_first filled_paths) ≡ branch_vertices (newest_first (before ++ (L ∷ behind)))
  filled_branch = ap branch_vertices (at_place.at filled_path) ∙ reroute-branch (Adj (rows_graph n rows)) at_place.newer L at_place.older old_record a b neighbours.consecutive q along nodup off_record ∙ ap branch_vertices (sym (at_place.at L))

  filled_longer : length (used_edges (newest_first filled_paths)) ≡ length (used_edges (newest_first (before ++ (L ∷ behind)))) + length q
  filled_longer = ap (λ (k : List Path). length (used_edges k)) (at_place.at filled_path) ∙ reroute-longer (Adj (rows_graph n rows)) at_place.newer L at_place.older old_record a b neighbours.consecutive q along nodup off_record
      ∙ ap (λ (k : List Path). length (used_edges k) + length q) (sym (at_place.at L))

  -- the list, up to a and from b on
  abbrev up_to_a : List ℕ
  up_to_a = flatten before ++ (stop ∷ (front ++ (a ∷ [])))

  abbrev from_b : List ℕ
  from_b = (b ∷ back) ++ flatten behind

  old_list : st.flat ≡ up_to_a ++ from_b
  old_list = go.same_flat ∙ flat_place before L behind ∙ ap (λ (k : List ℕ). flatten before ++ (stop ∷ (k ++ flatten behind))) cut ∙ simp append_assoc

  new_list : flatten filled_paths ≡ up_to_a ++ (q ++ from_b)
  new_list = flat_place before filled_path behind ∙ ap (λ (k : List ℕ). flatten before ++ (stop ∷ (k ++ flatten behind))) (neighbours.filled q) ∙ simp append_assoc

  module _ (k : ℕ) (at_a : length up_to_a ≡ k) where
    put : put_in st.flat k q ≡ up_to_a ++ (q ++ from_b)
    put = ap (λ (l : List ℕ). put_in l k q) old_list ∙ put_in_lem up_to_a q from_b k at_a
        (subst (λ (m : ℕ). m ≤ path_space) (ap length new_list ∙ put_length up_to_a q from_b) (room rows n dr few filled_paths filled_record))

    module _ (all-branch : (w : ℕ) → On st.built w → On st.branch w) (path : List ℕ) (path-in : (w : ℕ) → In w path → In w st.flat ⊎ In w q) (in_path : (w : ℕ) → In w q → In w path) where
      more_on : (w : ℕ) → On (set_with_all st.built path) w → In w (up_to_a ++ (q ++ from_b))
      more_on w h = ⊎_elim (λ j. old (go.built_on w j)) (λ j. ⊎_elim old (λ i. in_right w up_to_a (q ++ from_b) (in_left w q from_b i)) (path-in w j)) (all-on st.built path w go.built_sized h)
        where
          old : In w st.flat → In w (up_to_a ++ (q ++ from_b))
          old j = in_insert w up_to_a q from_b (subst (λ (l : List ℕ). In w l) old_list j)

      on_more : (w : ℕ) → In w (up_to_a ++ (q ++ from_b)) → w < capacity → On (set_with_all st.built path) w
      on_more w h low = on_all st.built path w go.built_sized low (⊎_map (λ j. go.on_built w (subst (λ (l : List ℕ). In w l) (sym old_list) j) low) (in_path w) (insert_in w up_to_a q from_b h))

      still_seen : (w : ℕ) → In w (take k (put_in st.flat k q)) → On (set_with_all st.built path) w → On st.branch w
      still_seen w h j =
          let i : In w up_to_a = subst (λ (l : List ℕ). In w l) (ap (take k) put ∙ take_at up_to_a (q ++ from_b) k at_a) h in
          all-branch w (go.on_built w (subst (λ (l : List ℕ). In w l) (sym old_list) (in_left w up_to_a from_b i)) (on_low (set_with_all st.built path) w (sized_all st.built path go.built_sized) j))

      rerouted_going : Going rows n ms filled_paths (state (put_in st.flat k q) st.branch (set_with_all st.built path) k)
      rerouted_going = record {
        recorded = filled_record;
        six = subst (λ (m : ℕ). 6 ≤ m) (length_kept before L filled_path behind) go.six;
        ends = ends_kept 6 before L filled_path behind refl refl ∙ go.ends;
        same_flat = put ∙ sym new_list;
        branch_sized = go.branch_sized;
        built_sized = sized_all st.built path go.built_sized;
        branch_on = λ w h. subst (λ (l : List ℕ). In w l) (sym filled_branch) (go.branch_on w h);
        on_branch = λ w h. go.on_branch w (subst (λ (l : List ℕ). In w l) filled_branch h);
        built_on = λ w h. subst (λ (l : List ℕ). In w l) (sym put) (more_on w h);
        on_built = λ w h low. on_more w (subst (λ (l : List ℕ). In w l) put h) low;
        fits = subst (λ (m : ℕ). k ≤ m) (sym (ap length put ∙ length-append up_to_a (q ++ from_b))) (up_to k (length up_to_a) (length (q ++ from_b)) at_a);
        passed = still_seen;
        goes_on = refl;
      }

      pub rerouted_step : 0 < length q → Stepped rows n ms (length (used_edges (newest_first (before ++ (L ∷ behind))))) (state (put_in st.flat k q) st.branch (set_with_all st.built path) k)
      rerouted_step some = goes filled_paths rerouted_going (rises (length (used_edges (newest_first (before ++ (L ∷ behind))))) (length (used_edges (newest_first filled_paths))) (length q) filled_longer some)
