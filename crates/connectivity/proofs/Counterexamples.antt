-- Mistakes that the rules rule out: for each a weakened rule, and a certificate that keeps it on a graph of another connectivity.
-- For one of them (4) also the plan on which document 01 names it.
use mathlib.Core.Path.{◌≡◌, refl, ◌∙◌}
use mathlib.Core.Logic.{inl, inr}
use mathlib.Core.List.{List, [], ◌∷◌, ◌++◌}
use mathlib.Core.Bool.{true, false}
use Prim.Native.Nat.{ℕ, ◌≤◌, ◌<◌}
use lib.Dec.{eqb}
use lib.ListN.{length}
use borrow.Author.Tests.{eqb-false}
use Rattle.connectivity.specs.Lists.{In, NoDup, Ascending}
use Rattle.connectivity.specs.Graph.{Graph, Adj, Simple, Remaining, HasConnectivity, from_edges}
use Rattle.connectivity.specs.Path.{Path, link, vertices, Along}
use Rattle.connectivity.specs.Build.{InBuild, IsBranch, BGPath, taken}
use Rattle.connectivity.specs.Connectivity.{connectivity}
use Rattle.connectivity.specs.Certificate.{Rest, Separation, Ears}
use Rattle.connectivity.specs.TopologicalGraph.{IsSimple, topological}
use Rattle.connectivity.proofs.Edges.{from_edges-simple}
use Rattle.connectivity.proofs.Closure.{has-connectivity}
use Rattle.connectivity.proofs.Checks.{Check, proved, both, giving, holds, less, not_in, distinct, ascending, along, no_edges_check, remaining, some_of, some_below, separation, on_ears, ears, edge_list, in_build, is_branch}
use Rattle.connectivity.proofs.Examples.{graph, path4, triangles5, complete4}
use Rattle.connectivity.proofs.RuleVariants.{EarRulesBy, BuildRulesBy, FurtherPath, LoosePath, ear_rules_by, build_rules_by, bg_path, loose_path}

-- The weakened rule W of kind k is kept, and yet the connectivity is c, not k.
pub record Against (W : Graph → Type 0) (g : Graph) (k c : ℕ) : Type 0 where
  pub simple : Simple g
  pub kept : W g
  pub computed : connectivity g ≡ c
  pub wrong : ¬ HasConnectivity g k

against : (W : Graph → Type 0) (n : ℕ) (es : List (ℕ × ℕ)) (k c : ℕ) (x : (g : Graph) → Check (W g))
    → (edge_list n es).test ≡ true → (x (from_edges n es)).test ≡ true → connectivity (from_edges n es) ≡ c → eqb k c ≡ false → Against W (from_edges n es) k c
against W n es k c x e h f ne =
    let p = from_edges-simple n es (proved (edge_list n es) e) in
    record { simple = p; kept = proved (x (from_edges n es)) h; computed = f; wrong = λ b. eqb-false k c ne (has-connectivity (from_edges n es) p k b ∙ f) }

-- 1. Kind 2 on a separation pair alone, without the ears. A path on four vertices: one vertex separates it.
pub record PairAlone (c d : ℕ) (S : List ℕ) (g : Graph) : Type 0 where
  pub order : c < d
  pub low : d < g.n
  pub separation : Separation g (c ∷ (d ∷ [])) S

abbrev pair_alone : (c d : ℕ) (S : List ℕ) (g : Graph) → Check (PairAlone c d S g)
pair_alone c d S g = giving (both (both (less c d) (less d g.n)) (separation g (c ∷ (d ∷ [])) S)) (λ r. record { order = r.0.0; low = r.0.1; separation = r.1 })

pub pair-alone : Against (PairAlone 1 2 (0 ∷ [])) (graph path4) 2 1
pair-alone = against (PairAlone 1 2 (0 ∷ [])) 4 path4.edges 2 1 (pair_alone 1 2 (0 ∷ [])) refl refl refl refl

-- 2. An ear whose two ends may be equal: all its inner vertices differ, and no more is asked. Two triangles that share a vertex.
pub record LooseEar (g : Graph) (B : List ℕ) (P : Path) : Type 0 where
  pub along : Along (Adj g) P.s P.inner P.t
  pub nodup : NoDup P.inner
  pub from : In P.s B
  pub upto : In P.t B
  pub new : (w : ℕ) → In w P.inner → ¬ In w B
  pub long : 3 ≤ length (vertices P)

abbrev pub LooseEars : Graph → List ℕ → List Path → Type 0
LooseEars g B [] = Unit {0}
LooseEars g B (P ∷ es) = LooseEar g B P × LooseEars g (P.inner ++ B) es

abbrev loose_ears : (g : Graph) (B : List ℕ) (es : List Path) → Check (LooseEars g B es)
loose_ears g B [] = holds tt
loose_ears g B (P ∷ es) = both
    (giving (both (both (along g P.s P.inner P.t) (distinct P.inner)) (on_ears B P))
    (λ r. record { along = r.0.0; nodup = r.0.1; from = r.1.0.0; upto = r.1.0.1; new = r.1.1.0; long = r.1.1.1 }))
    (loose_ears g (P.inner ++ B) es)

-- the first ear 0 1 2, then 0 3 4 0; removed 0 and 1, side 2
abbrev pub EqualEnds : Graph → Type 0
EqualEnds g = EarRulesBy LooseEars Separation g 0 1 (link 0 (1 ∷ []) 2) (link 0 (3 ∷ (4 ∷ [])) 0 ∷ []) (2 ∷ [])

pub equal_ends : Against EqualEnds (graph triangles5) 2 1
equal_ends = against EqualEnds 5 triangles5.edges 2 1 (λ g. ear_rules_by _ _ g _ _ _ _ _ (loose_ears g) (separation g)) refl refl refl refl

-- 3. The removed vertices counted as rest, so that only they make it non-empty. The complete graph on four vertices: nothing separates it.
pub record LooseSeparation (g : Graph) (X S : List ℕ) : Type 0 where
  pub ascending : Ascending S
  pub remaining : (w : ℕ) → In w S → Remaining g X w
  pub some_side : (w : ℕ) × In w S
  pub some_rest : (v : ℕ) × (v < g.n) × (¬ In v S)
  pub no_edge : (u v : ℕ) → In u S → Rest g X S v → ¬ Adj g u v

abbrev loose_separation : (g : Graph) (X S : List ℕ) → Check (LooseSeparation g X S)
loose_separation g X S =
    giving (both (both (ascending S) (remaining g X S)) (both (some_of S) (both (some_below (λ v. ¬ In v S) g.n (λ v. not_in v S)) (no_edges_check g X S))))
    (λ r. record { ascending = r.0.0; remaining = r.0.1; some_side = r.1.0; some_rest = r.1.1.0; no_edge = λ u v h k. r.1.1.1 u h v k.0.0 k.0.1 k.1 })

-- the ears 0 1 2 and 0 3 1; removed 0 and 1, side 2, 3
abbrev pub RemovedAsRest : Graph → Type 0
RemovedAsRest g = EarRulesBy Ears LooseSeparation g 0 1 (link 0 (1 ∷ []) 2) (link 0 (3 ∷ []) 1 ∷ []) (2 ∷ (3 ∷ []))

pub removed-as_rest : Against RemovedAsRest (graph complete4) 2 3
removed-as_rest = against RemovedAsRest 4 complete4.edges 2 3 (λ g. ear_rules_by _ _ g _ _ _ _ _ (ears g) (loose_separation g)) refl refl refl refl

-- 4. A further path both of whose ends are on one link. The complete graph on five vertices: 0 4 1 is taken beside the link 0 1,
-- then 4 2 and 4 3. Every other rule is kept, and yet two links then join 0 and 1: the topological graph is not simple, so this is
-- no Barnette-Grünbaum sequence, and the rule refuses the path.
abbrev pub complete5 : List (ℕ × ℕ)
complete5 = (0, 1) ∷ ((0, 2) ∷ ((0, 3) ∷ ((0, 4) ∷ ((1, 2) ∷ ((1, 3) ∷ ((1, 4) ∷ ((2, 3) ∷ ((2, 4) ∷ ((3, 4) ∷ [])))))))))

-- six paths on 0, 1, 2, 3, the first over the given vertices, the others single edges
abbrev pub six_paths : List ℕ → List Path
six_paths l = link 0 l 1 ∷ (link 0 [] 2 ∷ (link 0 [] 3 ∷ (link 1 [] 2 ∷ (link 1 [] 3 ∷ (link 2 [] 3 ∷ [])))))

pub parallel_link : BuildRulesBy LoosePath IsBranch (from_edges 5 complete5) 0 1 2 3 (six_paths []) (link 0 (4 ∷ []) 1 ∷ (link 4 [] 2 ∷ (link 4 [] 3 ∷ [])))
parallel_link = let g = from_edges 5 complete5 in proved (build_rules_by _ _ g _ _ _ _ _ _ (loose_path g) is_branch) refl

pub parallel_not_simple : ¬ IsSimple (topological (taken (six_paths []) (link 0 (4 ∷ []) 1)))
parallel_not_simple s = s.once.0 (inl refl)

pub parallel_refused : ¬ BGPath (Adj (from_edges 5 complete5)) (six_paths []) (link 0 (4 ∷ []) 1)
parallel_refused f = f.apart (link 0 [] 1) (inl refl) (inl refl) (inr (inl refl))

-- The same on two complete graphs on four vertices that share the edge 01, where the weakened rule even gives a wrong grade: 0 4 1
-- is taken beside the link 0 1, and so is 0 5 1; then 4 5.
abbrev pub shared_edge : List (ℕ × ℕ)
shared_edge = (0, 1) ∷ ((0, 2) ∷ ((0, 3) ∷ ((0, 4) ∷ ((0, 5) ∷ ((1, 2) ∷ ((1, 3) ∷ ((1, 4) ∷ ((1, 5) ∷ ((2, 3) ∷ ((4, 5) ∷ []))))))))))

abbrev pub ParallelLink : Graph → Type 0
ParallelLink g = BuildRulesBy LoosePath IsBranch g 0 1 2 3 (six_paths []) (link 0 (4 ∷ []) 1 ∷ (link 0 (5 ∷ []) 1 ∷ (link 4 [] 5 ∷ [])))

pub parallel_graded : Against ParallelLink (from_edges 6 shared_edge) 3 2
parallel_graded = against ParallelLink 6 shared_edge 3 2 (λ g. build_rules_by _ _ g _ _ _ _ _ _ (loose_path g) is_branch) refl refl refl refl

-- 5. A build called done once every vertex is in it. Vertex 4 is still inside the link 0 4 1, and has two neighbours only.
abbrev pub subdivided : List (ℕ × ℕ)
subdivided = (0, 2) ∷ ((0, 3) ∷ ((0, 4) ∷ ((1, 2) ∷ ((1, 3) ∷ ((1, 4) ∷ ((2, 3) ∷ []))))))

abbrev pub InsideLink : Graph → Type 0
InsideLink g = BuildRulesBy FurtherPath InBuild g 0 1 2 3 (six_paths (4 ∷ [])) []

pub inside-link : Against InsideLink (from_edges 5 subdivided) 3 2
inside-link = against InsideLink 5 subdivided 3 2 (λ g. build_rules_by _ _ g _ _ _ _ _ _ (bg_path g) in_build) refl refl refl refl
