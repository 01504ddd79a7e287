-- THE BUILD IS RIGHT: its steps end with every vertex a branch vertex, or at most two vertices cut the graph.
use mathlib.Core.Path.{◌≡◌, refl, sym, ap, subst, ◌∙◌}
use mathlib.Core.Logic.{◌⊎◌, inl, inr, ⊎_elim}
use mathlib.Core.List.{List, [], ◌∷◌}
use mathlib.Core.Bool.{Bool, false, cond}
use Prim.Native.Nat.{ℕ, zero, suc, ◌+◌, ◌≤◌, ◌<◌}
use native.Mathlib.Omega.{arith}
use lib.Dec.{ltb}
use lib.ListN.{length, take, length-append, drop_of_length-le}
use lib.Seq.{take_all, take_at}
use borrow.Author.Tests.{lt-ltb, le-ltb}
use Rattle.graph.specs.Limits.{max_edges}
use Rattle.connectivity.specs.Lists.{In}
use Rattle.connectivity.specs.Graph.{Adj, edge_count}
use Rattle.connectivity.specs.Path.{Path, used_edges}
use Rattle.connectivity.specs.Build.{end_pairs, IsBranch}
use Rattle.connectivity.proofs.Paths.{branch_vertices, branch_in, length_ends}
use Rattle.connectivity.proofs.Start.{Subdivision, the_four, four-branch, end_start}
use Rattle.connectivity.proofs.Recorded.{Recorded}
use Rattle.connectivity.proofs.RecordedSteps.{record_of}
use Rattle.connectivity.proofs.Completeness.{recorded_most}
use Rattle.construction.specs.Sets.{members}
use Rattle.construction.specs.Start.{Begun}
use Rattle.construction.specs.Steps.{State, link_step, out_step, inner_place, step, steps, first_state, build}
use Rattle.construction.specs.Certificate.{full_set}
use Rattle.graph.specs.Rows.{rows_graph}
use Rattle.construction.proofs.Basics.{Drawn, Sized, On, IsCut, flatten}
use Rattle.construction.proofs.SetLaws.{sized_empty, sized_all, set_on, on_set, members-in, in_members}
use Rattle.construction.proofs.Flat.{newest_first}
use Rattle.construction.proofs.Finding.{front_low, end_high}
use Rattle.construction.proofs.StepLaws.{Going, Completed, Stepped, goes, ends, cuts}
use Rattle.construction.proofs.LinkSteps.{InnerFirst, NoInner, find_inner, link_at, link-taken}
use Rattle.construction.proofs.OutSteps.{out_step_lem}

-- numbers alone: omega is slow beside sets
low_most : (p l : ℕ) → p < l → p ≤ l
low_most p l h = omega arith

spent : (m u : ℕ) → u ≤ m → m < u + 0 → ⊥
spent m u h k = omega arith

still : (m u v f : ℕ) → u < v → m < u + suc f → m < v + f
still m u v f h k = omega arith

enough : (m u : ℕ) → m ≤ max_edges → m < u + (max_edges + 1)
enough m u h = omega arith

module _ (rows : List ℕ) (n : ℕ) (dr : Drawn rows n) (few : edge_count (rows_graph n rows) ≤ max_edges) (ms : List Path) where
  -- ONE STEP
  module _ (ps : List Path) (st : State) (go : Going rows n ms ps st) where
    abbrev Step : State → Type 0
    Step s = Stepped rows n ms (length (used_edges (newest_first ps))) s

    abbrev step_by : Bool → State
    step_by b = cond b (link_step rows st (inner_place st)) (out_step rows (full_set n) st)

    by_link : InnerFirst st → Step (step_by (ltb (inner_place st) (length st.flat)))
    unfolding link_step
    by_link r = subst (λ (b : Bool). Step (step_by b)) (sym (lt-ltb (inner_place st) (length st.flat) low)) (link-taken rows n dr few ms ps st go (inner_place st) (link_at rows n dr ms ps st go r) (low_most (inner_place st) (length st.flat) low) seen)
      where
        low : inner_place st < length st.flat
        low = front_low (inner_place st) (length r.front) (length st.flat) (length r.back) r.place (ap length r.is ∙ length-append r.front (r.w ∷ r.back))

        seen : (w : ℕ) → In w (take (inner_place st) st.flat) → On st.built w → On st.branch w
        seen w h = r.seen w (subst (λ (l : List ℕ). In w l) (ap (take (inner_place st)) r.is ∙ take_at r.front (r.w ∷ r.back) (inner_place st) (sym r.place)) h)

    by_detour : NoInner st → Step (step_by (ltb (inner_place st) (length st.flat)))
    by_detour r = subst (λ (b : Bool). Step (step_by b)) (sym (le-ltb (inner_place st) (length st.flat) (end_high (inner_place st) (length st.flat) r.place))) (out_step_lem rows n dr few ms ps st go r.all-branch)

    pub step-law : Step (step rows (full_set n) st)
    unfolding step
    step-law = ⊎_elim by_link by_detour (find_inner rows n ms ps st go)

  -- ALL STEPS: each uses more edges, and the graph has no more than so many
  steps-stopped : (f : ℕ) (st : State) → st.going ≡ false → steps rows (full_set n) f st ≡ st
  unfolding steps
  steps-stopped zero st e = refl
  steps-stopped (suc f) st e = ap (λ (b : Bool). cond b (steps rows (full_set n) f (step rows (full_set n) st)) st) e

  abbrev Outcome : State → Type 0
  Outcome st = Completed rows n ms st ⊎ IsCut rows n st.cut_by

  steps-law : (f : ℕ) (ps : List Path) (st : State) → Going rows n ms ps st → edge_count (rows_graph n rows) < length (used_edges (newest_first ps)) + f → Outcome (steps rows (full_set n) f st)
  unfolding steps
  steps-law zero ps st go h = absurd (spent (edge_count (rows_graph n rows)) (length (used_edges (newest_first ps))) (recorded_most (rows_graph n rows) dr.simple (newest_first ps) go.recorded) h)
  steps-law (suc f) ps st go h = subst (λ (b : Bool). Outcome (cond b (steps rows (full_set n) f (step rows (full_set n) st)) st)) (sym go.goes_on) (next (step rows (full_set n) st) (step-law ps st go) (λ qs s. steps-law f qs s))
    where
      next : (s : State) → Stepped rows n ms (length (used_edges (newest_first ps))) s → ((qs : List Path) (s : State) → Going rows n ms qs s → edge_count (rows_graph n rows) < length (used_edges (newest_first qs)) + f → Outcome (steps rows (full_set n) f s)) → Outcome (steps rows (full_set n) f s)
      next s (goes qs g more) rest = rest qs s g (still (edge_count (rows_graph n rows)) (length (used_edges (newest_first ps))) (length (used_edges (newest_first qs))) f more h)
      next s (ends e r) rest = subst Outcome (sym (steps-stopped f s e)) (inl r)
      next s (cuts e c) rest = subst Outcome (sym (steps-stopped f s e)) (inr c)

-- THE START
six_low : (k l : ℕ) → k ≡ l → k ≡ 6 → l ≤ 6
six_low k l h e = omega arith

six_high : (k l : ℕ) → k ≡ l → k ≡ 6 → 6 ≤ l
six_high k l h e = omega arith

module _ (E : ℕ → ℕ → Type 0) (ms : List Path) (x : Subdivision E ms) where
  six_paths_lem : length ms ≤ 6
  six_paths_lem = six_low (length (end_pairs ms)) (length ms) (length_ends ms) (ap length x.paths.shape)

  start-six : 6 ≤ length ms
  start-six = six_high (length (end_pairs ms)) (length ms) (length_ends ms) (ap length x.paths.shape)

  newest_start : newest_first ms ≡ ms
  newest_start = λ i. record_of (take_all 6 ms six_paths_lem i) (drop_of_length-le ms six_paths_lem i)

recorded_start : (E : ℕ → ℕ → Type 0) (ms : List Path) → Subdivision E ms → Recorded E ms
recorded_start E [] x = absurd (omega (arith, start-six E [] x))
recorded_start E (P ∷ ms) x = inl x

first_going : (rows : List ℕ) (n : ℕ) (b : Begun) (ms : List Path) (x : Subdivision (Adj (rows_graph n rows)) ms) → b.flat ≡ flatten ms → members b.four ≡ the_four x → Sized b.four → Going rows n ms ms (first_state b)
first_going rows n b ms x flat four sized = record {
  recorded = subst (λ (k : List Path). Recorded (Adj (rows_graph n rows)) k) (sym start) (recorded_start (Adj (rows_graph n rows)) ms x);
  six = start-six (Adj (rows_graph n rows)) ms x;
  ends = ap end_pairs (take_all 6 ms (six_paths_lem (Adj (rows_graph n rows)) ms x));
  same_flat = flat;
  branch_sized = sized;
  built_sized = sized_all _ b.flat sized_empty;
  branch_on = λ w h. subst (λ (k : List Path). In w (branch_vertices k)) (sym start) (four-branch (Adj (rows_graph n rows)) ms x w (subst (λ (l : List ℕ). In w l) four (in_members b.four w sized h)));
  on_branch = λ w h. members-in b.four w (subst (λ (l : List ℕ). In w l) (sym four) (of w (branch_in ms w (subst (λ (k : List Path). In w (branch_vertices k)) start h))));
  built_on = λ w h. set_on b.flat w h;
  on_built = λ w h k. on_set b.flat w k h;
  fits = omega arith;
  passed = λ w h. absurd h;
  goes_on = refl;
}
  where
    start : newest_first ms ≡ ms
    start = newest_start (Adj (rows_graph n rows)) ms x

    of : (w : ℕ) → IsBranch w ms → In w (the_four x)
    of w r = end_start (Adj (rows_graph n rows)) (the_four x) ms x.paths r.0 r.1 w r.2

-- THE BUILD
abbrev pub Built : List ℕ → ℕ → Begun → List Path → Type 0
Built rows n b ms = Completed rows n ms (build rows (full_set n) b)

pub build-law : (rows : List ℕ) (n : ℕ) → Drawn rows n → edge_count (rows_graph n rows) ≤ max_edges → (b : Begun) → (ms : List Path) (x : Subdivision (Adj (rows_graph n rows)) ms)
    → b.flat ≡ flatten ms → members b.four ≡ the_four x → Sized b.four → Built rows n b ms ⊎ IsCut rows n (build rows (full_set n) b).cut_by
unfolding build
build-law rows n dr few b ms x flat four sized = steps-law rows n dr few ms (max_edges + 1) ms (first_state b) (first_going rows n b ms x flat four sized) (enough (edge_count (rows_graph n rows)) (length (used_edges (newest_first ms))) few)
