-- REQUEST 3: the next member from a number on, and how many steps a walk takes. Assumes nothing.
use Prim.Native.Nat.{ℕ, ◌≤◌}
use mathlib.Core.List.{List}
use mathlib.Core.Path.{refl, ap, ◌∙◌}
use mathlib.Core.Logic.{⊎_elim}
use native.Mathlib.Omega.{arith}
use lib.ListN.{length}
use lib.Count.{count_trailing_zeros}
use Rattle.connectivity.proofs.Lists.{clash, below?}
use Rattle.vertexset.specs.Set.{has, past, first_from}
use Rattle.vertexset.specs.Walk.{walk_from, steps, walked}
use Rattle.vertexset.proofs.Laws.{Found, Missing, next-is, member-low}
use Rattle.vertexset.proofs.Walks.{ahead_from, from_words, from_walk_small, steps-left, steps-just, walked-ahead, members-count}
use Rattle.claims.specs.Walks.{From, Next, NextLeast, WalksBounded, Example}

module _ (ws : List ℕ) (v : ℕ) where
  found : {r : ℕ} → Found (has ws) v r → Next ws v r
  found {r} f = record {
    least = λ n. ((f.member, f.not_below), λ x m. at_least x m);
    none = (λ e x m. absurd (omega (arith, member-low ws r f.member)), λ n. absurd (n r (f.member, f.not_below)));
  }
    where
      at_least : (x : ℕ) → From ws v x → r ≤ x
      at_least x m = elim (below? x r) [ yes h ↦ absurd (clash m.0 (f.between x m.1 h)) | no n ↦ omega arith ]

  missing : {r : ℕ} → Missing (has ws) (past ws) v r → Next ws v r
  missing f = record {
    least = λ n. absurd (n f.limit);
    none = (λ e x m. clash m.0 (f.beyond x m.1), λ n. f.limit);
  }

pub next-least : NextLeast
next-least ws v = ⊎_elim (found ws v) (missing ws v) (next-is ws v)

pub walks_bounded : WalksBounded
walks_bounded ws f v =
    let small = from_walk_small ws f v in
    let same = ap length (ahead_from ws v) in
    record {
      few = λ k. omega (arith, steps-left ws f k (walk_from ws v) small, same);
      just = λ k h. steps-just ws f k (walk_from ws v) small (omega (arith, same)) ∙ omega (arith, same, from_words ws v);
      all = λ k h. walked-ahead ws f k (walk_from ws v) small (omega (arith, same)) ∙ ahead_from ws v;
      sized = members-count ws f v;
    }

pub example : Example
unfolding walked steps first_from count_trailing_zeros
example = record { members = refl; not_sooner = refl; all-steps = refl; later = refl; later_steps = refl; at_once = refl; itself = refl; behind = refl; none_left = refl }
