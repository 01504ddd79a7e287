-- The turns of the loops over words, at any number of words. Assumes nothing.
use mathlib.Core.Path.{◌≡◌, refl, sym}
use mathlib.Core.List.{List, ◌∷◌, ◌++◌, append-nil}
use Prim.Native.Nat.{ℕ, suc, ◌+◌, ◌<◌, ◌≤◌}
use native.Mathlib.Numerals.{add-one}
use native.Mathlib.Omega.{arith}
use lib.ListN.{length, get_or, take, drop, set, length-set, drop_of_length-le}
use lib.Seq.{drop-cons, take-suc-set, drop-set-lt, append_snoc, take_all}
use Rattle.vertexset.specs.Set.{zip}

-- the first of the words that are left
pub drop_next : (ws : List ℕ) (i : ℕ) → i < length ws → drop i ws ≡ get_or ws i 0 ∷ drop (i + 1) ws
drop_next ws i h = rw (add-one, drop-cons ws i 0)

-- while xs turns into zip f xs ys, ws is what it has become: the words before i are done
pub record Zipping (f : ℕ → ℕ → ℕ) (xs ys : List ℕ) (i : ℕ) (ws : List ℕ) : Type 0 where
  pub long : length ws ≡ length ys
  pub done : take i ws ++ zip f (drop i ws) (drop i ys) ≡ zip f xs ys

pub zip-begin : (f : ℕ → ℕ → ℕ) (xs ys : List ℕ) → length xs ≡ length ys → Zipping f xs ys 0 xs
zip-begin f xs ys l = record { long = l; done = refl }

pub zip-step : (f : ℕ → ℕ → ℕ) (xs ys ws : List ℕ) (i : ℕ) → i < length ys → Zipping f xs ys i ws
    → Zipping f xs ys (i + 1) (set ws i (f (get_or ws i 0) (get_or ys i 0)))
unfolding zip
zip-step f xs ys ws i h z =
    let lt : i < suc i = omega arith in
    let k : i < length ws = omega arith in
    record {
      long = simp length-set z.long;
      done = rw (add-one, take-suc-set, drop-set-lt, append_snoc, ← z.done, drop-cons ws i 0, drop-cons ys i 0);
    }

pub zip_end : (f : ℕ → ℕ → ℕ) (xs ys ws : List ℕ) (i : ℕ) → length ys ≤ i → Zipping f xs ys i ws → ws ≡ zip f xs ys
unfolding zip
zip_end f xs ys ws i h z =
    let k : length ws ≤ i = omega arith in
    rw (← z.done, take_all, drop_of_length-le ws k) (sym (append-nil ws))
