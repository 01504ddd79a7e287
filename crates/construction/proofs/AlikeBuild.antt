-- Further paths of a build, and the edges that no path has, are alike under two bounds.
use Prim.Native.Nat.{ℕ, zero, suc, ◌+◌, ◌-◌, ◌<◌}
use mathlib.Core.Path.{◌≡◌, refl, ap, subst, ◌∙◌}
use mathlib.Core.Bool.{Bool, cond, not}
use mathlib.Core.List.{List, [], ◌∷◌}
use mathlib.Core.Logic.{inl, inr}
use lib.Dec.{ltb}
use lib.ListN.{get_or, take, drop}
use Rattle.connectivity.specs.Lists.{In, up_from, below}
use Rattle.connectivity.proofs.Lists.{in_below, select_in}
use Rattle.construction.specs.Sets.{last_of, place_of}
use Rattle.construction.specs.Construction.{VertexSet, Cut, Found, Begun, State, stopped, minus, members_from, extended, off_link, up_to, link_taken, run_end, link_step, beside_place, reroute, out_taken, out_step, inner_place, step, steps, first_state, build, add_edges, add_rows, finish}
use Rattle.construction.proofs.Alike.{Sides, AlikeNumber, vertex, AlikeList, end, more, AlikeSet, AlikeTable, AlikeCut, known_choice, member_alike, row_alike, minus-alike, inserted-alike, pair-alike, all_alike, set_alike, members-from, none_left, no_cut_lem, cut-alike, length_alike, at_alike, last_alike, take_alike, drop_alike, segment-alike, turned-alike, place_alike, beside_alike, edge-alike, near-alike, add_alike, put_alike, bare_alike, marked-alike}
use Rattle.construction.proofs.AlikeSearch.{AlikeFound, explore-alike, answered-alike}
use Rattle.construction.proofs.AlikeEars.{detour-alike}
use Rattle.construction.proofs.AlikeStart.{AlikeBegun}

pub record AlikeState (s : Sides) (x y : State) : Type 0 where
  pub flat : AlikeList s x.flat y.flat
  pub branch : AlikeSet s x.branch y.branch
  pub built : AlikeSet s x.built y.built
  pub at : x.at ≡ y.at
  pub going : x.going ≡ y.going
  pub cut_by : AlikeCut s x.cut_by y.cut_by

module _ {s : Sides} where
  pub first_alike : {x y : Begun} → AlikeBegun s x y → AlikeState s (first_state s.a x) (first_state s.b y)
  first_alike h = record { flat = h.flat; branch = h.four; built = set_alike h.flat; at = refl; going = refl; cut_by = no_cut_lem }

  stopped-alike : {x y : State} {c e : Cut} → AlikeState s x y → AlikeCut s c e → AlikeState s (stopped x c) (stopped y e)
  stopped-alike h k = record { flat = h.flat; branch = h.branch; built = h.built; at = h.at; going = refl; cut_by = k }

  extended-alike : {x y : State} {p q : List ℕ} {i j : ℕ} → AlikeState s x y → AlikeList s p q → i ≡ j → AlikeState s (extended s.a x p i) (extended s.b y q j)
  extended-alike h p e = record {
    flat = add_alike h.flat p;
    branch = inserted-alike (inserted-alike h.branch (at_alike p 0)) (last_alike p);
    built = all_alike h.built p;
    at = e;
    going = refl;
    cut_by = no_cut_lem;
  }

  pub up_to-alike : {p q : VertexSet} {l m : List ℕ} → AlikeSet s p q → AlikeList s l m → AlikeList s (up_to p l) (up_to q m)
  up_to-alike {p} {q} {l} {m} h k = subst (λ (i : ℕ). AlikeList s (up_to p l) (take (i + 1) m)) (place_alike p q (λ v w e. member_alike h e) k) (take_alike (place_of p l + 1) k)

  taken-alike : {x y : State} (i j : ℕ) {f g : Found} → AlikeState s x y → AlikeFound s f g → AlikeState s (link_taken s.a x i j f) (link_taken s.b y i j g)
  taken-alike i j h f = known_choice (AlikeState s) (cut-alike f.cut_by) (λ z. stopped-alike h f.cut_by) (λ z. extended-alike h (up_to-alike (set_alike (segment-alike i j h.flat)) f.path) refl)

  reroute-alike : {x y : State} {p q : List ℕ} (k : ℕ) → AlikeState s x y → AlikeList s p q → AlikeState s (reroute s.a x p k) (reroute s.b y q k)
  reroute-alike k h p = record {
    flat = put_alike (k + 1) h.flat (turned-alike p (at_alike h.flat k));
    branch = h.branch;
    built = all_alike h.built p;
    at = refl;
    going = refl;
    cut_by = no_cut_lem;
  }

  module _ {adj : ℕ → ℕ → Bool} (d : AlikeTable s adj adj) where
    off_alike : {x y : State} (i j : ℕ) → AlikeState s x y → AlikeFound s (off_link s.a adj x i j) (off_link s.b adj y i j)
    off_alike i j h =
        let inner = set_alike (segment-alike i j h.flat) in
        let ends = pair-alike (at_alike h.flat (i - 1)) (at_alike h.flat j) in
        answered-alike (explore-alike d (pair-alike (at_alike h.flat i) (at_alike h.flat (j - 1))) (minus-alike (minus-alike h.built inner) ends) ends) ends end

    run_alike : {x y : State} (i : ℕ) → AlikeState s x y → run_end s.a x.flat (minus x.built x.branch) i ≡ run_end s.b y.flat (minus y.built y.branch) i
    run_alike {x} {y} i h =
        let inner = minus-alike h.built h.branch in
        ap (λ (k : ℕ). i + k) (place_alike (λ v. not (minus x.built x.branch v)) (λ v. not (minus y.built y.branch v)) (λ v w e. ap not (member_alike inner e)) (drop_alike i h.flat))

    link_step-alike : {x y : State} (i : ℕ) → AlikeState s x y → AlikeState s (link_step s.a adj x i) (link_step s.b adj y i)
    unfolding link_step
    link_step-alike {x} {y} i h =
        let k = run_end s.a x.flat (minus x.built x.branch) i in
        subst (λ (j : ℕ). AlikeState s (link_taken s.a x i k (off_link s.a adj x i k)) (link_taken s.b y i j (off_link s.b adj y i j))) (run_alike i h) (taken-alike i k h (off_alike i k h))

    beside_place_lem : {x y u v : ℕ} {f g : List ℕ} → AlikeNumber s x y → AlikeNumber s u v → AlikeList s f g → beside_place s.a adj x u f ≡ beside_place s.b adj y v g
    beside_place_lem e k f = λ i. cond (edge-alike d e k i) (beside_alike e k f i) (length_alike f i)

    out_taken-alike : {x y : State} {f g : Found} → AlikeState s x y → AlikeFound s f g → AlikeState s (out_taken s.a adj x f) (out_taken s.b adj y g)
    out_taken-alike {x} {y} {f} {g} h k =
        let place = beside_place_lem (last_alike k.path) (at_alike k.path 0) h.flat in
        known_choice (AlikeState s) (cut-alike k.cut_by) (λ z. stopped-alike h k.cut_by)
        (λ z. known_choice (AlikeState s) (λ i. ltb (place i) (length_alike h.flat i))
        (λ w. subst (λ (j : ℕ). AlikeState s (reroute s.a x f.path (beside_place s.a adj (last_of f.path) (get_or f.path 0 0) x.flat)) (reroute s.b y g.path j)) place (reroute-alike (beside_place s.a adj (last_of f.path) (get_or f.path 0 0) x.flat) h k.path))
        (λ w. extended-alike h k.path (length_alike h.flat)))

    module _ {full full' : VertexSet} (hf : AlikeSet s full full') where
      out_step-alike : {x y : State} → AlikeState s x y → AlikeState s (out_step s.a adj full x) (out_step s.b adj full' y)
      unfolding out_step
      out_step-alike h = known_choice (AlikeState s) (none_left (minus-alike hf h.built)) (λ z. stopped-alike h no_cut_lem) (λ z. out_taken-alike h (detour-alike d (near-alike d h.built) h.built))

      inner_alike : {x y : State} → AlikeState s x y → inner_place s.a x ≡ inner_place s.b y
      inner_alike {x} {y} h =
          let inner = minus-alike h.built h.branch in
          let place = place_alike (minus x.built x.branch) (minus y.built y.branch) (λ v w e. member_alike inner e) (drop_alike x.at h.flat) in
          ap (λ (k : ℕ). x.at + k) place ∙ (λ i. h.at i + place_of (minus y.built y.branch) (drop (h.at i) y.flat))

      pub step-alike : {x y : State} → AlikeState s x y → AlikeState s (step s.a adj full x) (step s.b adj full' y)
      unfolding step
      step-alike {x} {y} h =
          let place = inner_alike h in
          known_choice (AlikeState s) (λ i. ltb (place i) (length_alike h.flat i))
          (λ z. subst (λ (j : ℕ). AlikeState s (link_step s.a adj x (inner_place s.a x)) (link_step s.b adj y j)) place (link_step-alike (inner_place s.a x) h))
          (λ z. out_step-alike h)

      steps_alike : (f : ℕ) {x y : State} → AlikeState s x y → AlikeState s (steps s.a adj full f x) (steps s.b adj full' f y)
      unfolding steps
      steps_alike zero h = h
      steps_alike (suc f) h = known_choice (AlikeState s) h.going (λ z. steps_alike f (step-alike h)) (λ z. h)

      pub build-alike : s.a.steps ≡ s.b.steps → {x y : Begun} → AlikeBegun s x y → AlikeState s (build s.a adj full x) (build s.b adj full' y)
      unfolding build
      build-alike e {x} {y} h =
          subst (λ (f : ℕ). AlikeState s (steps s.a adj full s.a.steps (first_state s.a x)) (steps s.b adj full' f (first_state s.b y))) e
          (steps_alike s.a.steps (first_alike h))

    -- ---- the edges that no path has

    edges-alike : {u : ℕ} → u < s.n → (l : List ℕ) → ((w : ℕ) → In w l → w < s.n) → {f g : List ℕ} → AlikeList s f g → AlikeList s (add_edges s.a u l f) (add_edges s.b u l g)
    unfolding add_edges
    edges-alike h [] low k = k
    edges-alike h (v ∷ l) low k = edges-alike h l (λ w m. low w (inr m)) (add_alike k (more (vertex refl h) (more (vertex refl (low v (inl refl))) end)))

    rows_alike : {t r : ℕ → ℕ → Bool} → AlikeTable s t r → (l : List ℕ) → ((w : ℕ) → In w l → w < s.n) → {f g : List ℕ} → AlikeList s f g → AlikeList s (add_rows s.a adj t l f) (add_rows s.b adj r l g)
    unfolding add_rows
    rows_alike h [] low k = k
    rows_alike {t} {r} h (u ∷ l) low {f} {g} k =
        let new = minus-alike (row_alike d u) (row_alike h u) in
        let low-new : (w : ℕ) → In w (members_from s.a (u + 1) (minus (adj u) (t u))) → w < s.n = λ w m. new.low w (select_in (minus (adj u) (t u)) (up_from (u + 1) (s.a.vertices - (u + 1))) w m).1 in
        rows_alike h l (λ w m. low w (inr m)) (subst (λ (m : List ℕ). AlikeList s (add_edges s.a u (members_from s.a (u + 1) (minus (adj u) (t u))) f) (add_edges s.b u m g)) (members-from new (u + 1)) (edges-alike (low u (inl refl)) (members_from s.a (u + 1) (minus (adj u) (t u))) low-new k))

    pub finish-alike : {f g : List ℕ} → AlikeList s f g → AlikeList s (finish s.a adj s.n f) (finish s.b adj s.n g)
    unfolding finish
    finish-alike h = rows_alike (marked-alike bare_alike h) (below s.n) (in_below s.n) h
