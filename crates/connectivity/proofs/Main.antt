-- The theorems, in plain statements; the file that proves each is named.
use mathlib.Core.Path.{◌≡◌, refl, sym}
use mathlib.Core.Logic.{⊎_elim, ◌≢◌}
use mathlib.Core.List.{List, ◌∷◌, [], ◌++◌}
use Prim.Native.Nat.{ℕ, ◌<◌, ◌≤◌, ◌-◌}
use native.Mathlib.Omega.{arith}
use lib.ListN.{length}
use Rattle.connectivity.specs.Lists.{NoDup, In}
use Rattle.connectivity.specs.Graph.{Graph, HasConnectivity, Simple, Separator, Adj, edges, edge_count}
use Rattle.connectivity.specs.Connectivity.{connectivity}
use Rattle.connectivity.specs.Path.{Path, vertices, used_edges}
use Rattle.connectivity.specs.Build.{StartRules, Steps, IsBranch, final, further_count}
use Rattle.connectivity.specs.Certificate.{Separation, Tree, Cycle, Ears, inside, BuildRules, Certificate, Rules, grade}
use Rattle.connectivity.proofs.Lists.{either, below?}
use Rattle.connectivity.proofs.Separators.{connectivity-unique}
use Rattle.connectivity.proofs.Closure.{has-connectivity, connectivity-is, connectivity-has}
use Rattle.connectivity.proofs.Steps.{append_steps}
use Rattle.connectivity.proofs.Start.{start-subdivision}
use Rattle.connectivity.proofs.Soundness.{separation_separates, tree_none, ears-none, build-has_3, rules_connectivity, grade-connectivity}
use Rattle.connectivity.proofs.EdgeUse.{build-simple, build-count, used_final, build-once, SimpleBuild, EachEdgeOnce}
use Rattle.connectivity.proofs.Completeness.{certificate-exists}

-- CONNECTIVITY IS ONE NUMBER (Separators).
pub one_number : (g : Graph) (j k : ℕ) → HasConnectivity g j → HasConnectivity g k → j ≡ k
one_number = connectivity-unique

module _ (g : Graph) (p : Simple g) where
  -- THE FUNCTION `connectivity` AND THE RELATION `HasConnectivity` ARE ONE (Closure).
  pub connectivity-exactly : (k : ℕ) → (HasConnectivity g k → k ≡ connectivity g) × (k ≡ connectivity g → HasConnectivity g k)
  connectivity-exactly k = (has-connectivity g p k, connectivity-is g p k)

  -- A SEPARATION BOUNDS IT FROM ABOVE by the number of removed vertices (Soundness).
  pub separation_bounds : (X S : List ℕ) → NoDup X → ((w : ℕ) → In w X → w < g.n) → Separation g X S → connectivity g ≤ length X
  separation_bounds X S nd low s = ⊎_elim (λ h. absurd ((connectivity-has g p).least (length X) h separator)) (λ h. omega arith) (either (below? (length X) (connectivity g)))
    where
      separator : Separator g (length X)
      separator = record { removed = X; nodup = nd; low = low; count = refl; separates = separation_separates g p s }

  not_that : (j : ℕ) → j < 3 → ¬ Separator g j → connectivity g ≢ j
  not_that j h n e = ⊎_elim (λ r. n (rw e at r.1)) (λ i. omega arith) (connectivity-has g p).reached

  -- A SPANNING TREE, EARS, A FINISHED BUILD BOUND IT FROM BELOW by 1, 2, 3 (Soundness).
  pub tree_bounds : (first : ℕ) (ps : List (ℕ × ℕ)) → first < g.n → length ps ≡ g.n - 1 → Tree g (first ∷ []) ps → 1 ≤ connectivity g
  tree_bounds first ps low count t = omega (arith, not_that 0 (omega arith) (tree_none g p first ps low count t))

  pub ears-bounds : (P : Path) (es : List Path) → Cycle g P → Ears g (vertices P) es → ((z : ℕ) → z < g.n → In z (inside (vertices P) es)) → 2 ≤ connectivity g
  ears-bounds P es cycle later all_in =
      let n = ears-none g p P es cycle later all_in in
      omega (arith, not_that 0 (omega arith) n.0, not_that 1 (omega arith) n.1)

  module _ (a b c d : ℕ) (start further : List Path) (rules : StartRules g a b c d start) (steps : Steps (Adj g) start further) where
    pub build-bounds : ((z : ℕ) → z < g.n → IsBranch z (final start further)) → connectivity g ≡ 3
    build-bounds all-branch = sym (has-connectivity g p 3 (build-has_3 g p start further (start-subdivision g a b c d start rules) steps all-branch))

    -- THE BUILT GRAPH IS SIMPLE THROUGHOUT (EdgeUse): after the further paths, and after each of them.
    pub simple_throughout : SimpleBuild (final start further)
    simple_throughout = build-simple g p start further (start-subdivision g a b c d start rules) steps

    pub simple_at_each : (ps qs : List Path) → further ≡ ps ++ qs → SimpleBuild (final start ps)
    simple_at_each ps qs e = build-simple g p start ps (start-subdivision g a b c d start rules) (append_steps (Adj g) start ps qs (rw e at steps)).0

    -- THE NUMBER OF FURTHER PATHS IS d - n - 2 (EdgeUse) where every vertex is a branch vertex and every edge is used.
    pub further_count_lem : ((z : ℕ) → z < g.n → IsBranch z (final start further)) → ((e : ℕ × ℕ) → In e (edges g) → In e (used_edges (start ++ further))) → length further ≡ further_count (edge_count g) g.n
    further_count_lem all-branch used = omega (arith, build-count g p start further (start-subdivision g a b c d start rules) steps all-branch (λ e h. used_final start further e (used e h)))

  -- EVERY EDGE IS USED JUST ONCE by a build that keeps the rules (EdgeUse).
  pub edges-once : (a b c d : ℕ) (start further : List Path) → BuildRules g a b c d start further → EachEdgeOnce g (start ++ further)
  edges-once a b c d start further r = build-once g p start further (start-subdivision g a b c d start r.first) r.steps r.all-branch (omega (arith, r.enough, r.count))

  -- A CERTIFICATE THAT KEEPS EVERY RULE TELLS THE CONNECTIVITY (Soundness) ..
  pub accepted_means_true : (x : Certificate) → Rules g x → HasConnectivity g (grade x) × (grade x ≡ connectivity g)
  accepted_means_true x r = (rules_connectivity g p x r, grade-connectivity g p x r)

  -- .. AND EVERY GRAPH HAS ONE (Completeness).
  pub every_graph_has_one : (x : Certificate) × Rules g x × (grade x ≡ connectivity g)
  every_graph_has_one = certificate-exists g p
