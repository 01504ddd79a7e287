-- 27: one link holds both ends of a path, by the build that the code keeps and by the links. Assumes nothing.
use Prim.Native.Nat.{ℕ}
use mathlib.Core.List.{List}
use mathlib.Core.Bool.{Bool, true, false, cond, not, ◌&&◌}
use mathlib.Core.Path.{◌≡◌, refl, sym, ap, ◌∙◌}
use mathlib.Core.Logic.{inl, inr, ⊎_elim, ⊎_map, ◌≢◌, ◌↔◌}
use lib.Dec.{eqb}
use borrow.Author.Tests.{eqb-true, eq-eqb}
use Rattle.graph.specs.Rows.{adjacent_in}
use Rattle.connectivity.specs.Lists.{In, member}
use Rattle.connectivity.specs.Path.{vertices, End, Path}
use Rattle.connectivity.specs.Build.{IsBranch}
use Rattle.connectivity.proofs.Lists.{and-true, or-true, true_or, member-in, in_member}
use Rattle.connectivity.proofs.Paths.{both_ends, end_of_lem, end_vertex, inner_in}
use Rattle.certificates.specs.Tests.{any_link, ends_in, ends_apart, in_build}
use Rattle.build.specs.declared.Build.{Build}
use Rattle.links.specs.declared.Addition.{Addition}
use Rattle.links.specs.declared.Addition.TheVariants.{Held, VertexVertex, EdgeVertex, EdgeEdge}
use Rattle.links.specs.Ends.{link_end, same_link, addition_of, held}
use Rattle.build.specs.State.{end_of, path_addition}
use Rattle.refinement.proofs.Tests.{iff_test, both_true, left_true, pair-tells, any-link, link-any, built_tells}
use Rattle.refinement.proofs.Splits.{Joined, pair_on}
use Rattle.refinement.proofs.Runs.{ends}
use Rattle.refinement.proofs.Shows.{Shows, end_branch, end_inner, not_inside, same_ends, placed, Placed}

-- some link holds both
abbrev pub Holds : List Path → ℕ → ℕ → Type 0
Holds links x y = (L : Path) × In L links × In x (vertices L) × In y (vertices L)

pub holds_tells : (links : List Path) (x y : ℕ) → (any_link (λ L. member x (vertices L) && member y (vertices L)) links ≡ true) ↔ Holds links x y
holds_tells links x y = (
  λ e. let r = any-link (λ L. member x (vertices L) && member y (vertices L)) links e in
      let q = and-true (member x (vertices r.0)) (member y (vertices r.0)) r.2 in (r.0, r.1, member-in x (vertices r.0) q.0, member-in y (vertices r.0) q.1),
  λ r. link-any (λ L. member x (vertices L) && member y (vertices L)) links r.0 r.1 (both_true (in_member x (vertices r.0) r.2) (in_member y (vertices r.0) r.3)),
)

-- the test that gives Held
pub held-cond : (t : Bool) (x : Addition) → held x ≡ false → held (cond t Held x) ≡ t
held-cond true x e = refl
held-cond false x e = e

end_tells : (v : ℕ) (L : Path) → (link_end v (ends L) ≡ true) ↔ End v L
end_tells v L = (
  λ e. ⊎_map (eqb-true v L.s) (eqb-true v L.t) (or-true (eqb v L.s) (eqb v L.t) e),
  λ e. ⊎_elim (λ k. left_true (eqb v L.t) (eq-eqb v L.s k)) (λ k. true_or (eqb v L.s) (eqb v L.t) (eq-eqb v L.t k)) e,
)

-- THE CASES OF THE TWO ENDS
module _ {b : Build} {links : List Path} (sh : Shows b links) where
  pub branch_inner : (x y : ℕ) → IsBranch x links → (L : Path) → In L links → In y L.inner → (link_end x (ends L) ≡ true) ↔ Holds links x y
  branch_inner x y p L h i = (
    λ e. (L, h, end_vertex x L ((end_tells x L).0 e), inner_in y L i),
    λ r. let k : L ≡ r.0 = sh.tally.inner_once L r.0 h r.1 y i r.3 in (end_tells x L).1 (end_of_lem L x (rw k r.2) (not_inside sh x p L h)),
  )

  pub inner_branch : (x y : ℕ) (L : Path) → In L links → In x L.inner → IsBranch y links → (link_end y (ends L) ≡ true) ↔ Holds links x y
  inner_branch x y L h i p = let f = branch_inner y x p L h i in (λ e. let r = f.0 e in (r.0, r.1, r.3, r.2), λ r. f.1 (r.0, r.1, r.3, r.2))

  pub inner_inner : (x y : ℕ) (L M : Path) → In L links → In M links → In x L.inner → In y M.inner → (same_link (ends L) (ends M) ≡ true) ↔ Holds links x y
  inner_inner x y L M h_l hM i j = (
    λ e. (L, h_l, inner_in x L i, rw (same_ends sh L M h_l hM ((pair-tells L.s L.t M.s M.t).0 e)) (inner_in y M j)),
    λ r. let k : L ≡ M = sh.tally.inner_once L r.0 h_l r.1 x i r.2 ∙ sym (sh.tally.inner_once M r.0 hM r.1 y j r.3) in
        (pair-tells L.s L.t M.s M.t).1 (inl (ap (λ (l : Path). l.s) k, ap (λ (l : Path). l.t) k)),
  )

  pub branch_branch : (x y : ℕ) → x ≢ y → IsBranch x links → IsBranch y links → (adjacent_in b.linked x y ≡ true) ↔ Holds links x y
  branch_branch x y ne p q = (λ e. on ((sh.linked.tells x y).0 e), λ r. (sh.linked.tells x y).1 (r.0, r.1, both_ends r.0 x y ne (end x p r.0 r.1 r.2) (end y q r.0 r.1 r.3)))
    where
      end : (v : ℕ) → IsBranch v links → (L : Path) → In L links → In v (vertices L) → End v L
      end v k L h i = end_of_lem L v i (not_inside sh v k L h)

      on : Joined links x y → Holds links x y
      on r = let e = pair_on r.0 x y r.2 in (r.0, r.1, e.0, e.1)

  held_tells : (x y : ℕ) → x ≢ y → Placed sh x → Placed sh y → (held (addition_of b.linked (end_of b x) (end_of b y)) ≡ true) ↔ Holds links x y
  held_tells x y ne (inl p) (inl q) = rw (end_branch sh x p, end_branch sh y q, held-cond (adjacent_in b.linked x y) VertexVertex refl) (branch_branch x y ne p q)
  held_tells x y ne (inl p) (inr q) = rw (end_branch sh x p, end_inner sh y q.0 q.1 q.2, held-cond (link_end x (ends q.0)) (EdgeVertex y (ends q.0)) refl) (branch_inner x y p q.0 q.1 q.2)
  held_tells x y ne (inr p) (inl q) = rw (end_inner sh x p.0 p.1 p.2, end_branch sh y q, held-cond (link_end y (ends p.0)) (EdgeVertex x (ends p.0)) refl) (inner_branch x y p.0 p.1 p.2 q)
  held_tells x y ne (inr p) (inr q) =
      rw (end_inner sh x p.0 p.1 p.2, end_inner sh y q.0 q.1 q.2, held-cond (same_link (ends p.0) (ends q.0)) (EdgeEdge x (ends p.0) y (ends q.0)) refl)
      (inner_inner x y p.0 q.0 p.1 q.1 p.2 q.2)

-- THE TEST OF 27 AGREES, for a path with two different ends in the build.
pub shows_apart : {b : Build} {links : List Path} → Shows b links → (P : Path) → ends_in links P ≡ true → P.s ≢ P.t → not (held (path_addition b P)) ≡ ends_apart links P
shows_apart {b} {links} sh P e ne =
    let r = and-true (in_build links P.s) (in_build links P.t) e in
    let s = placed sh P.s ((built_tells links P.s).0 r.0) in
    let t = placed sh P.t ((built_tells links P.t).0 r.1) in
    ap not (iff_test (held_tells sh P.s P.t ne s t) (holds_tells links P.s P.t))
