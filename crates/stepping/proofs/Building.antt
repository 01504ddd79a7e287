-- The build on a start's paths: its first state, and what the steps and the edges leave. Assumes nothing.
use Prim.Native.Nat.{ℕ, ◌+◌}
use mathlib.Core.Path.{◌≡◌, refl, sym, ap, subst, ◌∙◌}
use mathlib.Core.Bool.{Bool, true, false, cond}
use mathlib.Core.List.{List, []}
use lib.ListN.{take, replicate}
use Rattle.vertexset.specs.Set.{empty_set}
use Rattle.vertexset.specs.declared.VertexSet.{VertexSet}
use Rattle.graph.specs.Limits.{max_edges}
use Rattle.search.specs.Arrays.{placed, placed_end}
use Rattle.construction.specs.Sets.{set_with_all, added}
use Rattle.construction.specs.Ears.{no_cut, is_cut, near_all, near, path_space}
use Rattle.construction.specs.Start.{Begun, begun}
use Rattle.construction.specs.Steps.{State, steps, first_state, build, finish}
use Rattle.construction.proofs.Near.{near-set}
use Rattle.detours.specs.Code.{cut_of, cut_in, FlatShows}
use Rattle.detours.specs.declared.Cut.{Cut}
use Rattle.detours.proofs.Filled.{Filled, filled_take, filled_added, filled_none, flat_kept}
use Rattle.stepping.specs.Code.{Shows, Holds, state_in, built_of, finished_of}
use Rattle.stepping.specs.declared.Built.{Built}
use Rattle.stepping.specs.declared.Progress.{Progress}
use Rattle.stepping.proofs.States.{progress_on, shows_take}

build_steps : (rows : List ℕ) (full : VertexSet) (b : Begun) → steps rows full (max_edges + 1) (first_state b) ≡ build rows full b
unfolding build
build_steps rows full b = refl

-- ---- the paths of the start, put into the array

module _ (list : List ℕ) {flat : List ℕ} {len : ℕ} (o : flat ≡ placed (replicate path_space 0) 0 list) (e : len ≡ placed_end (replicate path_space 0) 0 list) where
  put : Filled path_space flat len (added path_space [] list)
  put = filled_added (filled_none path_space) list o e

  module _ (rows : List ℕ) (full four : VertexSet) {bare built bare2 n : VertexSet} {none : Cut} (z : bare ≡ empty_set) (w : built ≡ set_with_all bare (take len flat))
      (y : bare2 ≡ empty_set) (m : n ≡ near_all rows bare2 (take len flat)) (c : none ≡ cut_of no_cut) where
    pub first_holds : Holds rows flat (progress_on four built n len 0 none)
    first_holds = record {
      kept = flat_kept put;
      same_near = m ∙ ap (λ (s : VertexSet). near_all rows s (take len flat)) y ∙ sym (near-set rows (take len flat)) ∙ ap (near rows) (sym (w ∙ ap (λ (s : VertexSet). set_with_all s (take len flat)) z));
    }

    first_is : state_in flat (progress_on four built n len 0 none) ≡ first_state (begun four (added path_space [] list))
    first_is = rw (w, z, c, filled_take put)

    pub build-shows : {out : List ℕ} {b : Progress} → Shows rows out b (steps rows full (max_edges + 1) (state_in flat (progress_on four built n len 0 none)))
        → Shows rows out b (build rows full (begun four (added path_space [] list)))
    build-shows {out} {b} h =
        subst (λ (st : State). Shows rows out b st) (ap (λ (st : State). steps rows full (max_edges + 1) st) first_is ∙ build_steps rows full (begun four (added path_space [] list))) h

-- ---- what is left: a cut, or the paths and the edges that no path has

abbrev pub built_at : List ℕ → ℕ → Cut → Built
built_at flat len cut = record { flat = flat; len = len; cut = cut }

module _ (rows : List ℕ) (n : ℕ) (st : State) {out : List ℕ} {b : Progress} (h : Shows rows out b st) {y : Bool} (t : y ≡ is_cut (cut_in b.cut)) where
  cut-is : b.cut ≡ cut_of st.cut_by
  cut-is = ap (λ (x : Progress). x.cut) h.beside

  by_test : {x : Bool} → y ≡ x → built_of (cond x st.flat (finish rows n st.flat)) st.cut_by ≡ finished_of rows n st
  by_test u =
      ap (λ (x : Bool). built_of (cond x st.flat (finish rows n st.flat)) st.cut_by) (sym u ∙ t ∙ ap (λ (c : Cut). is_cut (cut_in c)) cut-is)

  pub build-cut : y ≡ true → built_at out b.len b.cut ≡ finished_of rows n st
  build-cut u = (λ i. built_at (h.array i) (h.beside i).len (cut-is i)) ∙ by_test u

  pub build-done : y ≡ false → {all : List ℕ} {end : ℕ} → FlatShows all end (finish rows n (take b.len out)) → built_at all end b.cut ≡ finished_of rows n st
  build-done u f =
      (λ i. built_at (f.array i) (f.size i) (cut-is i)) ∙ ap (λ (l : List ℕ). built_of (finish rows n l) st.cut_by) (shows_take rows out b st h) ∙ by_test u
