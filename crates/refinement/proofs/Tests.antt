-- Tests and what they tell. Assumes nothing.
use Prim.Native.Nat.{ℕ}
use mathlib.Core.List.{List, [], ◌∷◌}
use mathlib.Core.Bool.{Bool, true, not, ◌||◌}
use mathlib.Core.Path.{◌≡◌, refl, ap, ◌∙◌}
use mathlib.Core.Logic.{inl, inr, ⊎_elim, ⊎_map, ◌↔◌}
use lib.Dec.{eqb}
use borrow.Author.Tests.{eqb-true, eq-eqb, not-true}
use Rattle.connectivity.specs.Lists.{In, NoDup, member}
use Rattle.connectivity.specs.Path.{Path, vertices, End}
use Rattle.connectivity.specs.Build.{InBuild, IsBranch}
use Rattle.connectivity.proofs.Lists.{and-true, or-true, true_or, clash, member-in, in_member, member-out}
pub use Rattle.graph.proofs.Tests.{same_test, iff_test, false_of, both_true, left_true, same_pair, pair-tells}
use Rattle.certificates.specs.Tests.{any_link, each, distinct, in_build, is_branch}

-- some link passes
pub any-link : (t : Path → Bool) (ls : List Path) → any_link t ls ≡ true → (L : Path) × In L ls × (t L ≡ true)
unfolding any_link
any-link t [] e = absurd (clash e refl)
any-link t (L ∷ ls) e = ⊎_elim (λ k. (L, inl refl, k)) (λ k. let r = any-link t ls k in (r.0, inr r.1, r.2)) (or-true (t L) (any_link t ls) e)

pub link-any : (t : Path → Bool) (ls : List Path) (L : Path) → In L ls → t L ≡ true → any_link t ls ≡ true
unfolding any_link
link-any t [] L h e = absurd h
link-any t (M ∷ ls) L (inl k) e = left_true (any_link t ls) (rw k at e)
link-any t (M ∷ ls) L (inr h) e = true_or (t M) (any_link t ls) (link-any t ls L h e)

pub built_tells : (ls : List Path) (v : ℕ) → (in_build ls v ≡ true) ↔ InBuild v ls
built_tells ls v = (
  λ e. let r = any-link (λ L. member v (vertices L)) ls e in (r.0, r.1, member-in v (vertices r.0) r.2),
  λ r. link-any (λ L. member v (vertices L)) ls r.0 r.1 (in_member v (vertices r.0) r.2),
)

pub branch_tells : (ls : List Path) (v : ℕ) → (is_branch ls v ≡ true) ↔ IsBranch v ls
branch_tells ls v = (
  λ e. let r = any-link (λ L. eqb v L.s || eqb v L.t) ls e in (r.0, r.1, ⊎_map (eqb-true v r.0.s) (eqb-true v r.0.t) (or-true (eqb v r.0.s) (eqb v r.0.t) r.2)),
  λ r. link-any (λ L. eqb v L.s || eqb v L.t) ls r.0 r.1 (end r.0 r.2),
)
  where
    end : (L : Path) → End v L → (eqb v L.s || eqb v L.t) ≡ true
    end L (inl e) = left_true (eqb v L.t) (eq-eqb v L.s e)
    end L (inr e) = true_or (eqb v L.s) (eqb v L.t) (eq-eqb v L.t e)

-- no vertex twice; no vertex of the list is old
pub distinct-tells : (l : List ℕ) → distinct l ≡ true → NoDup l
unfolding distinct
distinct-tells [] e = tt
distinct-tells (v ∷ l) e = let r = and-true (not (member v l)) (distinct l) e in (member-out v l (not-true (member v l) r.0), distinct-tells l r.1)

pub each_tells : (t : ℕ → Bool) (l : List ℕ) → each t l ≡ true → (w : ℕ) → In w l → t w ≡ true
unfolding each
each_tells t [] e w h = absurd h
each_tells t (v ∷ l) e w (inl k) = ap t k ∙ (and-true (t v) (each t l) e).0
each_tells t (v ∷ l) e w (inr h) = each_tells t l (and-true (t v) (each t l) e).1 w h
