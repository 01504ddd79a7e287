-- A build as the code keeps it SHOWS a list of links: what that means, the ends of a path, and 27. Assumes nothing.
use Prim.Native.Nat.{ℕ, ◌≤◌}
use mathlib.Core.List.{List}
use mathlib.Core.Bool.{true, false}
use mathlib.Core.Path.{◌≡◌, refl, sym, ◌∙◌}
use mathlib.Core.Logic.{◌⊎◌, inl, inr, ⊎_map, ◌↔◌}
use lib.ListN.{length}
use Rattle.vertexset.specs.Set.{has, word_count, capacity}
use Rattle.graph.specs.Rows.{adjacent_in, row_words}
use Rattle.connectivity.specs.Lists.{In, NoDup}
use Rattle.connectivity.specs.Graph.{Graph, Adj}
use Rattle.connectivity.specs.Path.{vertices, Path}
use Rattle.connectivity.specs.Build.{InBuild, IsBranch}
use Rattle.connectivity.proofs.Lists.{at_most}
use Rattle.connectivity.proofs.Paths.{SamePair, end_or_inner, end_s, end_t, end_vertex, inner_in, inner_not_end, nodup_inner, ends_differ}
use Rattle.connectivity.proofs.EdgeUse.{Tally, tally_simple, SimpleBuild}
use Rattle.certificates.specs.Tests.{in_build, is_branch}
use Rattle.build.specs.declared.Build.{Build}
use Rattle.links.specs.declared.End.TheVariants.{Branch, Inner}
use Rattle.links.specs.Tables.{pointer_count}
use Rattle.build.specs.State.{end_of}
use Rattle.refinement.proofs.Tests.{false_of, built_tells, branch_tells}
use Rattle.refinement.proofs.Splits.{Joined, Sole, pair_on}
use Rattle.refinement.proofs.Runs.{Runs, AllLow, ends, link-found}

-- the graph with every edge: what is known of the links of a build does not depend on the graph
abbrev pub every_edge : Graph
every_edge = record { n = capacity; adj = λ u v. true }

-- the words and arrays have their lengths
pub record Sizes (b : Build) : Type 0 where
  pub branch : length b.sets.branch.words ≡ word_count
  pub built : length b.sets.built.words ≡ word_count
  pub pointers : length b.pointers ≡ pointer_count

-- the table has a pair exactly where a link has these ends
pub record Listed (linked : List ℕ) (links : List Path) : Type 0 where
  pub long : length linked ≡ row_words
  pub tells : (u v : ℕ) → (adjacent_in linked u v ≡ true) ↔ Joined links u v

-- THE BUILD SHOWS THE LINKS; `tally` is what the connectivity crate proves of the links after the start and after every step.
pub record Shows (b : Build) (links : List Path) : Type 0 where
  pub sizes : Sizes b
  pub branch : (v : ℕ) → has b.sets.branch.words v ≡ is_branch links v
  pub built : (v : ℕ) → has b.sets.built.words v ≡ in_build links v
  pub linked : Listed b.linked links
  pub runs : Runs b.pointers links
  pub low : (L : Path) → In L links → AllLow (vertices L)
  pub steps : ℕ
  pub tally : Tally (Adj every_edge) links steps

module _ {b : Build} {links : List Path} (sh : Shows b links) where
  pub shows_simple : SimpleBuild links
  shows_simple = tally_simple (Adj every_edge) links sh.steps sh.tally

  pub path-of : (L : Path) → In L links → NoDup (vertices L)
  path-of L h = (sh.tally.invariant.is_path L h).nodup

  pub same_ends : (L M : Path) → In L links → In M links → SamePair L.s L.t M.s M.t → L ≡ M
  same_ends L M h_l hM e = sh.tally.invariant.share_one L M h_l hM L.s L.t (ends_differ L (path-of L h_l)) (end_s L) (end_t L) (pair_on M L.s L.t e).0 (pair_on M L.s L.t e).1

  pub sole_link : (L : Path) → In L links → (x : ℕ) → In x L.inner → Sole links x L
  sole_link L h x i = record { there = h; inside = i; only = λ M k w j l. sym (sh.tally.inner_once L M h k w j (inner_in w M l)); by_ends = λ M k e. same_ends M L k h e }

  pub branch_shown : (v : ℕ) → (has b.sets.branch.words v ≡ true) ↔ IsBranch v links
  branch_shown v = (λ e. (branch_tells links v).0 (sym (sh.branch v) ∙ e), λ r. sh.branch v ∙ (branch_tells links v).1 r)

  pub not_inside : (v : ℕ) → IsBranch v links → (L : Path) → In L links → ¬ In v L.inner
  not_inside v r L h i = inner_not_end L (path-of L h) v i (rw (sh.tally.inner_once L r.0 h r.1 v i (end_vertex v r.0 r.2)) r.2)

  pub clear : (L : Path) → In L links → (w : ℕ) → In w L.inner → has b.sets.branch.words w ≡ false
  clear L h w i = false_of (λ e. not_inside w ((branch_shown w).0 e) L h i)

  inner_length : (L : Path) → In L links → length L.inner ≤ capacity
  inner_length L h = at_most capacity L.inner (nodup_inner L (path-of L h)) (λ w i. sh.low L h w (inner_in w L i))

  -- THE END AT A VERTEX OF THE BUILD
  pub end_branch : (v : ℕ) → IsBranch v links → end_of b v ≡ Branch v
  end_branch v r = let e = (branch_shown v).1 r in rw e

  pub end_inner : (v : ℕ) (L : Path) → In L links → In v L.inner → end_of b v ≡ Inner v (ends L)
  end_inner v L h i =
      let c = clear L h v i in
      let l = link-found L v i b.pointers b.sets.branch (sh.runs L h) ((branch_shown L.s).1 (L, h, inl refl)) ((branch_shown L.t).1 (L, h, inr refl)) (clear L h) (inner_length L h) in
      rw (c, l)

  -- a vertex of the build is a branch vertex, or inside a link
  abbrev pub Placed : ℕ → Type 0
  Placed v = IsBranch v links ⊎ ((L : Path) × In L links × In v L.inner)

  pub placed : (v : ℕ) → InBuild v links → Placed v
  placed v r = ⊎_map (λ e. (r.0, r.1, e)) (λ i. (r.0, r.1, i)) (end_or_inner r.0 v r.2)

  pub shows_end : (v : ℕ) → in_build links v ≡ true → ((is_branch links v ≡ true) × (end_of b v ≡ Branch v)) ⊎ ((L : Path) × In L links × In v L.inner × (end_of b v ≡ Inner v (ends L)))
  shows_end v e = ⊎_map (λ r. ((branch_tells links v).1 r, end_branch v r)) (λ r. (r.0, r.1, r.2, end_inner v r.0 r.1 r.2)) (placed v ((built_tells links v).0 e))
