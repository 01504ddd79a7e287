-- The pairs of n vertices, in cable order. Assumes nothing.
use Prim.Native.Nat.{ℕ, zero, suc, ◌+◌, ◌-◌, ◌*◌, ◌≤◌, ◌<◌}
use mathlib.Core.Path.{◌≡◌, refl, sym, ap, ◌∙◌}
use mathlib.Core.Logic.{inl, inr, ⊎_elim}
use mathlib.Core.List.{List, [], ◌∷◌, ◌++◌}
use mathlib.Core.Bool.{true}
use native.Mathlib.Omega.{arith}
use native.Mathlib.Decide.{ℕ_discrete}
use lib.ListN.{length, length-append}
use borrow.Author.Tests.{lt-ltb}
use Rattle.connectivity.specs.Lists.{In, up_from}
use Rattle.connectivity.proofs.Lists.{in_left, in_right, in_append, either}
use Rattle.connectivity.proofs.Edges.{EdgeBefore, AscendingEdges, ascending_after}
use Rattle.reading.specs.Plan.{proper}
use Rattle.reading.specs.Pairs.{with_lower, pairs_among, pairs_of}
use Rattle.reading.proofs.Doubles.{ascends_on}

-- a pair before all of a list that ascends
pub ascends_cons : (e : ℕ × ℕ) (es : List (ℕ × ℕ)) → ((f : ℕ × ℕ) → In f es → EdgeBefore e f) → AscendingEdges es → AscendingEdges (e ∷ es)
ascends_cons e [] f h = tt
ascends_cons e (d ∷ es) f h = (f d (inl refl), h)

-- u with each of k numbers from a on
row_in : (u a k : ℕ) (e : ℕ × ℕ) → In e (with_lower u (up_from a k)) → (e.0 ≡ u) × (a ≤ e.1) × (e.1 < a + k)
unfolding with_lower
row_in u a zero e h = absurd h
row_in u a (suc k) e (inl i) = let x : e.0 ≡ u = ap (λ (d : ℕ × ℕ). d.0) i in let y : e.1 ≡ a = ap (λ (d : ℕ × ℕ). d.1) i in (x, omega arith, omega arith)
row_in u a (suc k) e (inr h) = let r = row_in u (suc a) k e h in (r.0, omega arith, omega arith)

in_row : (u a k : ℕ) (e : ℕ × ℕ) → e.0 ≡ u → a ≤ e.1 → e.1 < a + k → In e (with_lower u (up_from a k))
unfolding with_lower
in_row u a zero e z h j = absurd (omega arith)
in_row u a (suc k) e z h j = ⊎_elim (λ y. inl (λ i. (z i, y i))) (λ y. inr (in_row u (suc a) k e z (omega arith) (omega arith))) (either (ℕ_discrete e.1 a))

row_length : (u a k : ℕ) → length (with_lower u (up_from a k)) ≡ k
unfolding with_lower
row_length u a zero = refl
row_length u a (suc k) = ap suc (row_length u (suc a) k)

row_ascends : (u a k : ℕ) → AscendingEdges (with_lower u (up_from a k))
unfolding with_lower
row_ascends u a zero = tt
row_ascends u a (suc k) = ascends_cons (u, a) (with_lower u (up_from (suc a) k)) (λ f i. let r = row_in u (suc a) k f i in inr (sym r.0, r.1)) (row_ascends u (suc a) k)

-- one list after another
ascends_append : (p q : List (ℕ × ℕ)) → AscendingEdges p → AscendingEdges q → ((e f : ℕ × ℕ) → In e p → In f q → EdgeBefore e f) → AscendingEdges (p ++ q)
ascends_append [] q a b f = b
ascends_append (e ∷ p) q a b f =
    ascends_cons e (p ++ q) (λ d i. ⊎_elim (ascending_after e p a d) (f e d (inl refl)) (in_append d p q i)) (ascends_append p q (ascends_on e p a) b (λ c d h k. f c d (inr h) k))

-- all pairs of k numbers from a on
among_in : (a k : ℕ) (e : ℕ × ℕ) → In e (pairs_among (up_from a k)) → (a ≤ e.0) × (e.0 < e.1) × (e.1 < a + k)
unfolding pairs_among
among_in a zero e h = absurd h
among_in a (suc k) e h =
    ⊎_elim (λ i. let r = row_in a (suc a) k e i in (omega (arith, r.0), omega (arith, r.0), omega arith)) (λ i. let r = among_in (suc a) k e i in (omega arith, r.1, omega arith))
    (in_append e (with_lower a (up_from (suc a) k)) (pairs_among (up_from (suc a) k)) h)

in_among : (a k : ℕ) (e : ℕ × ℕ) → a ≤ e.0 → e.0 < e.1 → e.1 < a + k → In e (pairs_among (up_from a k))
unfolding pairs_among
in_among a zero e h i j = absurd (omega arith)
in_among a (suc k) e h i j =
    ⊎_elim (λ z. in_left e (with_lower a (up_from (suc a) k)) (pairs_among (up_from (suc a) k)) (in_row a (suc a) k e z (omega arith) (omega arith)))
    (λ z. in_right e (with_lower a (up_from (suc a) k)) (pairs_among (up_from (suc a) k)) (in_among (suc a) k e (omega arith) i (omega arith)))
    (either (ℕ_discrete e.0 a))

among_ascends : (a k : ℕ) → AscendingEdges (pairs_among (up_from a k))
unfolding pairs_among
among_ascends a zero = tt
among_ascends a (suc k) = ascends_append (with_lower a (up_from (suc a) k)) (pairs_among (up_from (suc a) k)) (row_ascends a (suc a) k) (among_ascends (suc a) k)
    (λ e f h i. inl (omega (arith, (row_in a (suc a) k e h).0, (among_in (suc a) k f i).0)))

-- one vertex more brings as many pairs as there were vertices
less_one : (k : ℕ) → suc k - 1 ≡ k
less_one k = omega arith

grow : (k l : ℕ) → 2 * l ≡ k * (k - 1) → 2 * (k + l) ≡ suc k * (suc k - 1)
grow zero l h = omega arith
grow (suc k) l h = let z = rw (less_one k) at h in rw (less_one (suc k)) (omega arith)

among_twice : (a k : ℕ) → 2 * length (pairs_among (up_from a k)) ≡ k * (k - 1)
unfolding pairs_among
among_twice a zero = refl
among_twice a (suc k) = rw (length-append, row_length a (suc a) k) (grow k (length (pairs_among (up_from (suc a) k))) (among_twice (suc a) k))

-- THE PAIRS OF n VERTICES ARE JUST THE PROPER ONES, IN CABLE ORDER, AND HALF OF n * (n - 1).
pub pairs_proper : (n : ℕ) (e : ℕ × ℕ) → In e (pairs_of n) → proper n e ≡ true
pairs_proper n e h = let r = among_in 0 n e h in let l : e.1 < n = omega arith in rw (lt-ltb _ _ r.1, lt-ltb _ _ l)

pub low_pairs : (n : ℕ) (e : ℕ × ℕ) → (e.0 < e.1) × (e.1 < n) → In e (pairs_of n)
low_pairs n e h = in_among 0 n e (omega arith) h.0 (omega arith)

pub pairs_ascend : (n : ℕ) → AscendingEdges (pairs_of n)
pairs_ascend n = among_ascends 0 n

pub pairs_twice : (n : ℕ) → 2 * length (pairs_of n) ≡ n * (n - 1)
pairs_twice n = among_twice 0 n

-- ---- the pairs, one after the other

-- the pairs from (u, v) on: those of u with v and with later vertices, then those among the vertices behind u
unfoldable pub pairs_from : ℕ → ℕ → ℕ → List (ℕ × ℕ)
pairs_from n u v = with_lower u (up_from v (n - v)) ++ pairs_among (up_from (suc u) (n - suc u))

-- all pairs from (0, 1) on
pub pairs_start : (n : ℕ) → pairs_from n 0 1 ≡ pairs_of n
unfolding pairs_from with_lower pairs_among
pairs_start zero = refl
pairs_start (suc m) = let e : suc m - 1 ≡ m = omega arith in ap (λ (k : ℕ). with_lower 0 (up_from 1 k) ++ pairs_among (up_from 1 k)) e

-- none is left when u is past the vertices
pub pairs_end : (n u v : ℕ) → n ≤ u → u < v → pairs_from n u v ≡ []
unfolding pairs_from with_lower pairs_among
pairs_end n u v h l =
    let a : n - v ≡ 0 = omega arith in
    let b : n - suc u ≡ 0 = omega arith in
    (λ i. with_lower u (up_from v (a i)) ++ pairs_among (up_from (suc u) (b i)))

-- u has no later vertex left: the next comes
pub pairs_row : (n u v : ℕ) → u < n → n ≤ v → pairs_from n u v ≡ pairs_from n (u + 1) (u + 1 + 1)
unfolding pairs_from with_lower pairs_among
pairs_row n u v h l = ap (λ (k : ℕ). with_lower u (up_from v k) ++ pairs_among (up_from (suc u) (n - suc u))) a ∙ go (n - suc u) refl
  where
    a : n - v ≡ 0
    a = omega arith

    s : u + 1 ≡ suc u
    s = omega arith

    t : u + 1 + 1 ≡ suc (suc u)
    t = omega arith

    go : (k : ℕ) → n - suc u ≡ k → pairs_among (up_from (suc u) (n - suc u)) ≡ pairs_from n (u + 1) (u + 1 + 1)
    go zero e = ap (λ (k : ℕ). pairs_among (up_from (suc u) k)) e ∙ sym (pairs_end n (u + 1) (u + 1 + 1) (omega arith) (omega arith))
    go (suc k) e =
        let b : k ≡ n - suc (suc u) = omega arith in
        ap (λ (j : ℕ). pairs_among (up_from (suc u) j)) e ∙ ap (λ (j : ℕ). with_lower (suc u) (up_from (suc (suc u)) j) ++ pairs_among (up_from (suc (suc u)) j)) b
        ∙ (λ i. with_lower (sym s i) (up_from (sym t i) (n - sym t i)) ++ pairs_among (up_from (suc (sym s i)) (n - suc (sym s i))))

-- the next pair
pub pairs_next : (n u v : ℕ) → v < n → pairs_from n u v ≡ (u, v) ∷ pairs_from n u (v + 1)
unfolding pairs_from with_lower
pairs_next n u v h =
    let a : n - v ≡ suc (n - suc v) = omega arith in
    let s : suc v ≡ v + 1 = omega arith in
    ap (λ (k : ℕ). with_lower u (up_from v k) ++ pairs_among (up_from (suc u) (n - suc u))) a
    ∙ ap (λ (w : ℕ). (u, v) ∷ (with_lower u (up_from w (n - w)) ++ pairs_among (up_from (suc u) (n - suc u)))) s

-- every proper pair comes after (0, 0)
pub after_zeros : (e : ℕ × ℕ) → e.0 < e.1 → EdgeBefore (0, 0) e
after_zeros e h = ⊎_elim (λ k. inr (sym k, omega arith)) (λ k. inl (omega arith)) (either (ℕ_discrete e.0 0))
