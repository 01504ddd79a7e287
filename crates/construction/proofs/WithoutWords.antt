-- Rows are one way to give a graph: their certificate is the certificate of n and the adjacency test alone.
use Prim.Native.Nat.{ℕ, zero, suc, ◌+◌, ◌-◌}
use mathlib.Core.Path.{◌≡◌, refl, ap, fun_ext, ◌∙◌}
use mathlib.Core.Bool.{Bool, cond, not}
use mathlib.Core.List.{List, [], ◌∷◌, ◌++◌}
use lib.Dec.{ltb, eqb}
use lib.ListN.{length, get_or, drop}
use Rattle.vertexset.specs.declared.VertexSet.{VertexSet}
use Rattle.vertexset.specs.Set.{Words}
use Rattle.reading.specs.Plan.{Plan, Allowed}
use Rattle.graph.specs.Limits.{max_edges}
use Rattle.graph.specs.Rows.{adjacent_in}
use Rattle.reading.specs.Code.{graph_of}
use Rattle.reading.proofs.Adjacency.{adjacent_listed}
use Rattle.connectivity.specs.Lists.{below}
use Rattle.connectivity.specs.Graph.{listed}
use Rattle.construction.specs.Sets.{minus, last_of, place_of}
use Rattle.construction.specs.Search.{Reach}
use Rattle.construction.specs.Ears.{Cut, no_cut, Found, Eared, eared}
use Rattle.construction.specs.Start.{Begun}
use Rattle.construction.specs.Steps.{State, stopped, extended, segment, off_link, up_to, link_taken, run_end, link_step, pair_place, turned, beside_place, reroute, out_taken, out_step, inner_place, step, steps, build, add_edges, add_rows, finish}
use Rattle.construction.specs.Certificate as by_rows
use Rattle.construction.specs.Certificate.{pairs_from}
use Rattle.construction.specs.Construction as plain
use Rattle.construction.specs.Construction.{certificate_numbers}
use Rattle.construction.proofs.PlanLaws.{plan-drawn}
use Rattle.construction.proofs.Standing.{Stands, Draws, choice, row_stands, empty_stands, minus-stands, inserted-stands, single-stands, pair-stands, all-stands, set_stands, near-stands, members-from, members-same, count_same, empty-same, marked-drawn, code_bounds}
use Rattle.construction.proofs.SameAnswers.{SameReach, SameCut, SameFound, SameEared, SameBegun, SameState, no_cut_lem, cut-same, add_same, answered-same, explore-same, detour-same, ears-same, begin-same}

-- ---- further paths

stopped-same : {s : State} {t : plain.State} {c : Cut} {e : plain.Cut} → SameState s t → SameCut c e → SameState (stopped s c) (plain.stopped t e)
stopped-same h k = record { flat = h.flat; branch = h.branch; built = h.built; at = h.at; going = refl; cut_by = k }

extended-same : {s : State} {t : plain.State} {p q : List ℕ} {i j : ℕ} → SameState s t → p ≡ q → i ≡ j → SameState (extended s p i) (plain.extended code_bounds t q j)
extended-same h p e = record {
  flat = add_same h.flat p;
  branch = inserted-stands (inserted-stands h.branch (λ i. get_or (p i) 0 0)) (λ i. last_of (p i));
  built = all-stands h.built p;
  at = e;
  going = refl;
  cut_by = no_cut_lem;
}

up_to-same : {a : VertexSet} {p : ℕ → Bool} {l m : List ℕ} → Stands a p → l ≡ m → up_to a l ≡ plain.up_to p m
up_to-same h e = λ i. plain.up_to (h.same i) (e i)

taken-same : {s : State} {t : plain.State} {i k j l : ℕ} {f : Found} {g : plain.Found} → SameState s t → i ≡ k → j ≡ l → SameFound f g → SameState (link_taken s i j f) (plain.link_taken code_bounds t k l g)
taken-same h e d f =
    let inner = set_stands (λ i. segment (h.flat i) (e i) (d i)) in
    choice SameState (cut-same f.cut_by) (stopped-same h f.cut_by) (extended-same h (up_to-same inner f.path) e)

reroute-same : {s : State} {t : plain.State} {p q : List ℕ} {k l : ℕ} → SameState s t → p ≡ q → k ≡ l → SameState (reroute s p k) (plain.reroute code_bounds t q l)
reroute-same h p e = record {
  flat = λ i. plain.put_in code_bounds (h.flat i) (e i + 1) (turned (p i) (get_or (h.flat i) (e i) 0));
  branch = h.branch;
  built = all-stands h.built p;
  at = λ i. e i + 1;
  going = refl;
  cut_by = no_cut_lem;
}

module _ {rows : List ℕ} {adj : ℕ → ℕ → Bool} (d : Draws rows adj) where
  off_same : {s : State} {t : plain.State} {i k j l : ℕ} → SameState s t → i ≡ k → j ≡ l → SameFound (off_link rows s i j) (plain.off_link code_bounds adj t k l)
  off_same h e f =
      let inner = set_stands (λ i. segment (h.flat i) (e i) (f i)) in
      let ends = pair-stands (λ i. get_or (h.flat i) (e i - 1) 0) (λ i. get_or (h.flat i) (f i) 0) in
      let seeds = pair-stands (λ i. get_or (h.flat i) (e i) 0) (λ i. get_or (h.flat i) (f i - 1) 0) in
      answered-same (explore-same d seeds (minus-stands (minus-stands h.built inner) ends) ends) ends refl

  link_step-same : {s : State} {t : plain.State} {i k : ℕ} → SameState s t → i ≡ k → SameState (link_step rows s i) (plain.link_step code_bounds adj t k)
  unfolding link_step plain.link_step
  link_step-same {s} {t} {i} {k} h e =
      let inner = minus-stands h.built h.branch in
      let behind : run_end s.flat (minus s.built s.branch) i ≡ plain.run_end code_bounds t.flat (plain.minus t.built t.branch) k = λ z. e z + place_of (λ v. not (inner.same z v)) (drop (e z) (h.flat z)) in
      taken-same h e behind (off_same h e behind)

  beside_same : {x y z w : ℕ} {f g : List ℕ} → x ≡ z → y ≡ w → f ≡ g → beside_place rows x y f ≡ plain.beside_place code_bounds adj z w g
  beside_same x y f = λ i. cond (d.same i (x i) (y i)) (pair_place (x i) (y i) (f i)) (length (f i))

  out_taken-same : {s : State} {t : plain.State} {f : Found} {g : plain.Found} → SameState s t → SameFound f g → SameState (out_taken rows s f) (plain.out_taken code_bounds adj t g)
  out_taken-same h f =
      let place = beside_same (λ i. last_of (f.path i)) (λ i. get_or (f.path i) 0 0) h.flat in
      choice SameState (cut-same f.cut_by) (stopped-same h f.cut_by)
      (choice SameState (λ i. ltb (place i) (length (h.flat i))) (reroute-same h f.path place) (extended-same h f.path (λ i. length (h.flat i))))

  module _ {full : VertexSet} {p : ℕ → Bool} (hf : Stands full p) where
    out_step-same : {s : State} {t : plain.State} → SameState s t → SameState (out_step rows full s) (plain.out_step code_bounds adj p t)
    unfolding out_step plain.out_step
    out_step-same h = choice SameState (empty-same (minus-stands hf h.built)) (stopped-same h no_cut_lem) (out_taken-same h (detour-same d (near-stands d h.built) h.built))

    step_same : {s : State} {t : plain.State} → SameState s t → SameState (step rows full s) (plain.step code_bounds adj p t)
    unfolding step plain.step
    step_same {s} {t} h =
        let inner = minus-stands h.built h.branch in
        let place : inner_place s ≡ plain.inner_place code_bounds t = λ i. h.at i + place_of (inner.same i) (drop (h.at i) (h.flat i)) in
        choice SameState (λ i. ltb (place i) (length (h.flat i))) (link_step-same h place) (out_step-same h)

    steps-same : (f : ℕ) {s : State} {t : plain.State} → SameState s t → SameState (steps rows full f s) (plain.steps code_bounds adj p f t)
    unfolding steps plain.steps
    steps-same zero h = h
    steps-same (suc f) h = choice SameState h.going (steps-same f (step_same h)) h

    build-same : {s : Begun} {t : plain.Begun} → SameBegun s t → SameState (build rows full s) (plain.build code_bounds adj p t)
    unfolding build plain.build
    build-same h = steps-same (max_edges + 1) (record { flat = h.flat; branch = h.four; built = set_stands h.flat; at = refl; going = refl; cut_by = no_cut_lem })

-- ---- the edges that no path has

edges-same : (u : ℕ) (l f : List ℕ) → add_edges u l f ≡ plain.add_edges code_bounds u l f
unfolding add_edges plain.add_edges
edges-same u [] f = refl
edges-same u (v ∷ l) f = edges-same u l (plain.add_path code_bounds f (u ∷ (v ∷ [])))

module _ {rows : List ℕ} {adj : ℕ → ℕ → Bool} (d : Draws rows adj) where
  rows_same : {table : List ℕ} {marks : ℕ → ℕ → Bool} → Draws table marks → (l f : List ℕ) → add_rows rows table l f ≡ plain.add_rows code_bounds adj marks l f
  unfolding add_rows plain.add_rows
  rows_same t [] f = refl
  rows_same {marks = marks} t (u ∷ l) f =
      let new = members-from (minus-stands (row_stands d {u = u} refl) (row_stands t {u = u} refl)) (u + 1) in
      rows_same t l _ ∙ ap (plain.add_rows code_bounds adj marks l) (edges-same u _ f ∙ (λ i. plain.add_edges code_bounds u (new i) f))

  finish-same : (n : ℕ) {f g : List ℕ} → f ≡ g → finish rows n f ≡ plain.finish code_bounds adj n g
  unfolding finish plain.finish
  finish-same n {f} {g} e = rows_same (marked-drawn e) (below n) f ∙ ap (plain.add_rows code_bounds adj (plain.marked code_bounds plain.bare g) (below n)) e

-- ---- the numbers

lengths_same : (l : List ℕ) → by_rows.lengthened l ≡ plain.lengthened code_bounds l
unfolding by_rows.lengthened plain.lengthened
lengths_same [] = refl
lengths_same (v ∷ l) = λ i. by_rows.length_on v (lengths_same l i)

lengthened-same : {l m : List ℕ} → l ≡ m → (by_rows.lengthened l).0 ≡ (plain.lengthened code_bounds m).0
lengthened-same {l} e = ap (λ r. r.0) (lengths_same l) ∙ (λ i. (plain.lengthened code_bounds (e i)).0)

numbers_same : {r : Reach} {q : plain.Reach} {e : Eared} {f : plain.Eared} {c : Cut} {k : plain.Cut} → SameReach r q → SameEared e f → SameCut c k → by_rows.cut_numbers r e c ≡ plain.cut_numbers code_bounds q f k
numbers_same {r} {q} h e c =
    let removed = members-same c.removed in
    let side = members-same c.side in
    let paths = lengthened-same e.flat in
    let tree : by_rows.tree_numbers r ≡ plain.tree_numbers code_bounds q = λ i. 0 ∷ pairs_from (h.order i) (h.from i) (length (h.order i) - 1) 1 in
    λ i. length (removed i) ∷ (removed i ++ (cond (eqb (length (removed i)) 0) [] (cond (eqb (length (removed i)) 1) (tree i) (e.count i ∷ paths i)) ++ (length (side i) ∷ side i)))

no_ears_lem : SameEared (eared [] 0 no_cut) (plain.eared [] 0 plain.no_cut)
no_ears_lem = record { flat = refl; count = refl; cut_by = no_cut_lem }

chosen-same : {e : Eared} {f : plain.Eared} {c : Cut} {k : plain.Cut} → SameEared e f → SameCut c k → SameCut (by_rows.chosen e c) (plain.chosen code_bounds f k)
chosen-same e c = choice SameCut (cut-same e.cut_by) e.cut_by c

module _ {rows : List ℕ} {adj : ℕ → ℕ → Bool} (d : Draws rows adj) where
  module _ {r : Reach} {q : plain.Reach} {full : VertexSet} {p : ℕ → Bool} (hr : SameReach r q) (hf : Stands full p) where
    cut-certificate : {c : Cut} {k : plain.Cut} → SameCut c k → by_rows.cut_certificate r rows full c ≡ plain.cut_certificate code_bounds q adj p k
    cut-certificate c =
        let e = ears-same d hf in
        let none = numbers_same hr no_ears_lem c in
        let two = numbers_same hr e (chosen-same e c) in
        λ i. cond (ltb (count_same c.removed i) 2) (none i) (two i)

    module _ (n : ℕ) where
      build-certificate : {four : VertexSet} {f : ℕ → Bool} {s : State} {t : plain.State} → Stands four f → SameState s t → by_rows.build_certificate r rows n full four s ≡ plain.build_certificate code_bounds q adj n p f t
      build-certificate hs h =
          let paths = lengthened-same (finish-same d n h.flat) in
          λ i. cond (cut-same h.cut_by i) (cut-certificate h.cut_by i) (3 ∷ (members-same hs i ++ paths i))

      begun-certificate : {s : Begun} {t : plain.Begun} → SameBegun s t → by_rows.begun_certificate r rows n full s ≡ plain.begun_certificate code_bounds q adj n p t
      begun-certificate h = λ i. cond (cut-same h.cut_by i) (cut-certificate h.cut_by i) (build-certificate h.four (build-same d hf h) i)

      tree_certificate_lem : by_rows.tree_certificate rows n full r ≡ plain.tree_certificate code_bounds adj n p q
      tree_certificate_lem =
          let side = cut-certificate (record { removed = empty_stands; side = hr.shut }) in
          λ i. cond (empty-same (minus-stands hf hr.shut) i) (begun-certificate (begin-same d) i) (side i)

-- THE CERTIFICATE OF ROWS IS THAT OF THEIR ADJACENCY TEST.
pub without-words : (rows : List ℕ) (n : ℕ) → Words rows → by_rows.certificate_numbers rows n ≡ certificate_numbers code_bounds n (adjacent_in rows)
unfolding by_rows.certificate_numbers certificate_numbers
without-words rows n h =
    let d : Draws rows (adjacent_in rows) = record { words = h; same = refl } in
    tree_certificate_lem d (explore-same d (single-stands {v = 0} refl) empty_stands empty_stands) (set_stands {l = below n} refl) n

-- THE CERTIFICATE OF A PLAN IS THAT OF ITS LIST OF EDGES.
pub plan-without_words : (p : Plan) → Allowed p → by_rows.certificate_numbers (graph_of p).rows (graph_of p).n ≡ certificate_numbers code_bounds p.n (listed p.edges)
unfolding graph_of
plan-without_words p a =
    without-words (graph_of p).rows p.n (plan-drawn p a).words
    ∙ ap (certificate_numbers code_bounds p.n) (fun_ext (λ u. fun_ext (λ v. adjacent_listed p a u v)))
