-- THE NUMBER OF WORDS DOES NOT MATTER: a graph has one certificate, however many vertices there is room for.
use Prim.Native.Nat.{ℕ, ◌+◌, ◌-◌, ◌*◌, ◌<◌, ◌≤◌}
use mathlib.Core.Path.{◌≡◌, refl, ap, subst, ◌∙◌}
use mathlib.Core.Bool.{Bool, true, false, cond}
use mathlib.Core.List.{List, [], ◌∷◌, ◌++◌}
use native.Mathlib.Omega.{arith}
use lib.Dec.{ltb, eqb}
use lib.ListN.{length}
use Rattle.reading.specs.Plan.{Plan, Allowed}
use Rattle.reading.specs.Code.{graph_of}
use Rattle.reading.proofs.Adjacency.{graph_listed, graph_simple}
use Rattle.graph.specs.Limits.{max_edges}
use Rattle.connectivity.specs.Lists.{below}
use Rattle.connectivity.specs.Graph.{Simple, listed, from_edges}
use Rattle.connectivity.proofs.Edges.{edge-high}
use Rattle.connectivity.proofs.Lists.{in_below, below_in}
use Rattle.construction.specs.Ears.{path_space}
use Rattle.construction.specs.Certificate as by_rows
use Rattle.construction.specs.Certificate.{pairs_from}
use Rattle.construction.specs.Construction.{Bounds, VertexSet, Reach, Cut, Eared, State, empty_set, is_cut, begin, build, full_set, tree_numbers, cut_numbers, cut_certificate, build_certificate, begun_certificate, tree_certificate, certificate_numbers, certificate}
use Rattle.construction.proofs.WithoutWords.{plan-without_words}
use Rattle.construction.proofs.Alike.{Sides, end, AlikeSet, AlikeTable, AlikeCut, known_choice, zero_alike, empty-alike, minus-alike, single-alike, set_alike, members_alike, count-alike, none_left, no_cut_lem, cut-alike, vertices-alike, lengthened-alike}
use Rattle.construction.proofs.AlikeSearch.{AlikeReach, explore-alike}
use Rattle.construction.proofs.AlikeEars.{AlikeEared, ears-alike, on_all, few_left}
use Rattle.construction.proofs.AlikeStart.{begin-alike}
use Rattle.construction.proofs.AlikeBuild.{AlikeState, first_alike, build-alike, finish-alike}
use Rattle.construction.proofs.BuildEnds.{steps-end, begin-ongoing}
use Rattle.construction.proofs.Standing.{code_bounds}

module _ {s : Sides} {adj : ℕ → ℕ → Bool} {S G : VertexSet} {r q : Reach} (m : AlikeReach s adj S G r q) where
  tree_same : tree_numbers s.a r ≡ tree_numbers s.b q
  tree_same = λ i. 0 ∷ pairs_from (m.order i) (m.from i) (length (m.order i) - 1) 1

  numbers_same : {e f : Eared} {c k : Cut} → AlikeEared s e f → AlikeCut s c k → cut_numbers s.a r e c ≡ cut_numbers s.b q f k
  numbers_same e c =
      let removed = members_alike c.removed in
      let side = members_alike c.side in
      let paths = ap (λ (l : List ℕ × ℕ). l.0) (lengthened-alike e.flat) in
      λ i. length (removed i) ∷ (removed i ++ (cond (eqb (length (removed i)) 0) [] (cond (eqb (length (removed i)) 1) (tree_same i) (e.count i ∷ paths i)) ++ (length (side i) ∷ side i)))

  module _ (d : AlikeTable s adj adj) {full full' : VertexSet} (hf : AlikeSet s full full') (all : (w : ℕ) → w < s.n → full w ≡ true) where
    cut-same : {c k : Cut} → AlikeCut s c k → cut_certificate s.a r adj full c ≡ cut_certificate s.b q adj full' k
    cut-same c =
        let e = ears-alike d hf all in
        let without = numbers_same (record { flat = end; count = refl; cut_by = no_cut_lem }) c in
        let with-ears = numbers_same e (known_choice (AlikeCut s) (cut-alike e.cut_by) (λ z. e.cut_by) (λ z. c)) in
        λ i. cond (ltb (count-alike c.removed i) 2) (without i) (with-ears i)

    build-same : {four four' : VertexSet} {x y : State} → AlikeSet s four four' → AlikeState s x y → build_certificate s.a r adj s.n full four x ≡ build_certificate s.b q adj s.n full' four' y
    build-same hs h =
        let paths = ap (λ (l : List ℕ × ℕ). l.0) (lengthened-alike (finish-alike d h.flat)) in
        λ i. cond (cut-alike h.cut_by i) (cut-same h.cut_by i) (3 ∷ (members_alike hs i ++ paths i))

    -- the builds are alike, where there are any
    module _ (builds : is_cut s.a (begin s.a adj).cut_by ≡ false → AlikeState s (build s.a adj full (begin s.a adj)) (build s.b adj full' (begin s.b adj))) where
      begun-same : begun_certificate s.a r adj s.n full (begin s.a adj) ≡ begun_certificate s.b q adj s.n full' (begin s.b adj)
      begun-same = let h = begin-alike d in known_choice (λ (l k : List ℕ). l ≡ k) (cut-alike h.cut_by) (λ u. cut-same h.cut_by) (λ u. build-same h.four (builds u))

      certificate-same : tree_certificate s.a adj s.n full r ≡ tree_certificate s.b adj s.n full' q
      certificate-same =
          let side = cut-same (record { removed = empty-alike; side = m.shut }) in
          λ i. cond (none_left (minus-alike hf m.shut) i) (begun-same i) (side i)

full_alike : {s : Sides} → AlikeSet s (full_set s.a s.n) (full_set s.b s.n)
full_alike {s} = set_alike (vertices-alike (below s.n) (in_below s.n))

full_all : (s : Sides) (w : ℕ) → w < s.n → full_set s.a s.n w ≡ true
full_all s w i = on_all s.a empty_set (below s.n) w (omega arith) (below_in s.n w i)

sides_same : (s : Sides) {adj : ℕ → ℕ → Bool} → AlikeTable s adj adj
    → (is_cut s.a (begin s.a adj).cut_by ≡ false → AlikeState s (build s.a adj (full_set s.a s.n) (begin s.a adj)) (build s.b adj (full_set s.b s.n) (begin s.b adj)))
    → certificate_numbers s.a s.n adj ≡ certificate_numbers s.b s.n adj
unfolding certificate_numbers
sides_same s d builds = certificate-same (explore-alike d (single-alike zero_alike) empty-alike empty-alike) d full_alike (full_all s) builds

pub vertices-do_not_matter : (a b : Bounds) (n : ℕ) (adj : ℕ → ℕ → Bool) → a.numbers ≡ b.numbers → a.steps ≡ b.steps → 0 < n → n ≤ a.vertices → n ≤ b.vertices
    → ((u v : ℕ) → adj u v ≡ true → (u < n) × (v < n)) → certificate_numbers a n adj ≡ certificate_numbers b n adj
vertices-do_not_matter a b n adj numbers more some low_a low_b low =
    let s : Sides = record { a = a; b = b; n = n; some = some; low_a = low_a; low_b = low_b; numbers = numbers } in
    let d : AlikeTable s adj adj = record { same = refl; low = low } in
    sides_same s d (λ u. build-alike d full_alike more (begin-alike d))

-- Nor does the number of steps, beyond 2 n of them; the first link has room.
module _ (n : ℕ) (adj : ℕ → ℕ → Bool) (some : 0 < n) (low : (u v : ℕ) → adj u v ≡ true → (u < n) × (v < n)) where
  enough_steps : (numbers k l : ℕ) → n + 2 ≤ numbers → 2 * n < k → 2 * n < l → certificate numbers k n adj ≡ certificate numbers l n adj
  unfolding build
  enough_steps numbers k l room more most =
      let s : Sides = record { a = record { vertices = n; numbers = numbers; steps = k }; b = record { vertices = n; numbers = numbers; steps = l }; n = n; some = some; low_a = omega arith; low_b = omega arith; numbers = refl } in
      let d : AlikeTable s adj adj = record { same = refl; low = low } in
      let h = first_alike (begin-alike d) in
      let few = few_left d full_alike h.built in
      let fewer = few_left d full_alike h.branch in
      sides_same s d (λ u. steps-end d full_alike (full_all s) k l h (begin-ongoing room d u) (omega (arith, few, fewer)) (omega (arith, few, fewer)))

  pub steps-do_not_matter : (a b : Bounds) → a.numbers ≡ b.numbers → n + 2 ≤ a.numbers → 2 * n < a.steps → 2 * n < b.steps → n ≤ a.vertices → n ≤ b.vertices → certificate_numbers a n adj ≡ certificate_numbers b n adj
  steps-do_not_matter a b numbers room more most low_a low_b =
      vertices-do_not_matter a (record { vertices = n; numbers = a.numbers; steps = a.steps }) n adj refl refl some low_a (omega arith) low
      ∙ enough_steps a.numbers a.steps b.steps room more most
      ∙ vertices-do_not_matter (record { vertices = n; numbers = a.numbers; steps = b.steps }) b n adj numbers refl some (omega arith) low_b low

module _ (p : Plan) (a : Allowed p) where
  plan-simple : Simple (from_edges p.n p.edges)
  plan-simple = subst Simple (graph_listed p a) (graph_simple p a)

  plan-low : (u v : ℕ) → listed p.edges u v ≡ true → (u < p.n) × (v < p.n)
  plan-low u v e = (plan-simple.low u v e, edge-high (from_edges p.n p.edges) plan-simple u v e)

  some_vertex : 0 < p.n
  some_vertex = omega (arith, plan-simple.big)

-- THE CERTIFICATE OF A PLAN, whatever the number of words.
pub plan-any_words : (p : Plan) → Allowed p → by_rows.certificate_numbers (graph_of p).rows (graph_of p).n ≡ certificate path_space (max_edges + 1) p.n (listed p.edges)
plan-any_words p a =
    plan-without_words p a
    ∙ vertices-do_not_matter code_bounds (record { vertices = p.n; numbers = path_space; steps = max_edges + 1 }) p.n (listed p.edges) refl refl (some_vertex p a) (omega (arith, a.most)) (omega arith) (plan-low p a)

-- and of steps, beyond 2 n
pub plan-any_steps : (p : Plan) → Allowed p → (k : ℕ) → 2 * p.n < k → by_rows.certificate_numbers (graph_of p).rows (graph_of p).n ≡ certificate path_space k p.n (listed p.edges)
plan-any_steps p a k h =
    plan-any_words p a
    ∙ enough_steps p.n (listed p.edges) (some_vertex p a) (plan-low p a) path_space (max_edges + 1) k (omega (arith, a.most)) (omega (arith, a.most)) h
