-- How the plans of a list are shared out among the connectivities. Assumes nothing.
use Prim.Native.Nat.{ℕ, zero, suc, ◌+◌, ◌≤◌, ◌<◌}
use mathlib.Core.Path.{◌≡◌, refl, ◌∙◌}
use mathlib.Core.List.{List, [], ◌∷◌}
use mathlib.Core.Bool.{Bool, true, false, cond}
use native.Mathlib.Omega.{arith}
use lib.Dec.{eqb}
use lib.ListN.{length}
use borrow.Author.Tests.{eqb-true, eq-eqb, ne_eqb}
use Rattle.connectivity.specs.Lists.{In, NoDup, select}
use Rattle.connectivity.proofs.Lists.{select_in, in_select, select-nodup}
use Rattle.connectivity.specs.Graph.{Graph, from_edges}
use Rattle.connectivity.specs.Connectivity.{connectivity, all_connected, without_one, without_two}
use Rattle.reading.specs.Plan.{Plan}
use Rattle.counting.specs.Counts.{connectivity_of, with_connectivity}

-- NO CONNECTIVITY IS ABOVE 3.
most : (a b c : Bool) → cond a (cond b (cond c 3 2) 1) 0 ≤ 3
most true true true = omega arith
most true true false = omega arith
most true false c = omega arith
most false b c = omega arith

graph_most : (g : Graph) → connectivity g ≤ 3
graph_most g = most (all_connected g []) (without_one g) (without_two g)

pub connectivity-most : (p : Plan) → connectivity_of p ≤ 3
connectivity-most p = graph_most (from_edges p.n p.edges)

-- those with a connectivity are just those of the list that have it
abbrev has : ℕ → Plan → Bool
has k p = eqb (connectivity_of p) k

pub with_in : (k : ℕ) (p : Plan) (ps : List Plan) → In p (with_connectivity k ps) → In p ps × (connectivity_of p ≡ k)
unfolding with_connectivity
with_in k p ps h = let r = select_in (has k) ps p h in (r.0, eqb-true _ _ r.1)

pub in_with : (k : ℕ) (p : Plan) (ps : List Plan) → In p ps → connectivity_of p ≡ k → In p (with_connectivity k ps)
unfolding with_connectivity
in_with k p ps h e = in_select (has k) ps p h (eq-eqb (connectivity_of p) k e)

pub with-nodup : (k : ℕ) (ps : List Plan) → NoDup ps → NoDup (with_connectivity k ps)
unfolding with_connectivity
with-nodup k ps nd = select-nodup (has k) ps nd

-- one plan more is one more where its connectivity is the one asked for
abbrev pub one : Bool → ℕ
one b = cond b 1 0

one_low : (b : Bool) → one b ≤ 1
one_low true = omega arith
one_low false = omega arith

pub with-length : (k : ℕ) (p : Plan) (ps : List Plan) → length (with_connectivity k (p ∷ ps)) ≡ one (has k p) + length (with_connectivity k ps)
unfolding with_connectivity
with-length k p ps = go (has k p)
  where
    go : (b : Bool) → length (cond b (p ∷ select (has k) ps) (select (has k) ps)) ≡ one b + length (select (has k) ps)
    go true = omega arith
    go false = omega arith

with-empty : (k : ℕ) → with_connectivity k [] ≡ []
unfolding with_connectivity
with-empty k = refl

-- as many as the list at most, and none above 3
pub with-most : (k : ℕ) (ps : List Plan) → length (with_connectivity k ps) ≤ length ps
with-most k [] = rw (with-empty k) (omega arith)
with-most k (p ∷ ps) = omega (arith, with-length k p ps, one_low (has k p), with-most k ps)

pub with_none : (k : ℕ) (ps : List Plan) → 3 < k → length (with_connectivity k ps) ≡ 0
with_none k [] h = rw (with-empty k)
with_none k (p ∷ ps) h = with-length k p ps ∙ rw (ne_eqb (connectivity_of p) k (λ e. omega (arith, connectivity-most p)), with_none k ps h)

-- EACH PLAN HAS JUST ONE.
just_one : (x : ℕ) → x ≤ 3 → one (eqb x 0) + (one (eqb x 1) + (one (eqb x 2) + one (eqb x 3))) ≡ 1
just_one zero h = refl
just_one (suc zero) h = refl
just_one (suc (suc zero)) h = refl
just_one (suc (suc (suc zero))) h = refl
just_one (suc (suc (suc (suc x)))) h = absurd (omega arith)

add_up : (a b c d e f g h k : ℕ) → a + (b + (c + d)) ≡ 1 → e + (f + (g + h)) ≡ k → (a + e) + ((b + f) + ((c + g) + (d + h))) ≡ suc k
add_up a b c d e f g h k p q = omega arith

pub with-sum : (ps : List Plan) → length (with_connectivity 0 ps) + (length (with_connectivity 1 ps) + (length (with_connectivity 2 ps) + length (with_connectivity 3 ps))) ≡ length ps
with-sum [] = rw (with-empty 0, with-empty 1, with-empty 2, with-empty 3)
with-sum (p ∷ ps) = rw (with-length 0 p ps, with-length 1 p ps, with-length 2 p ps, with-length 3 p ps)
    (add_up (one (has 0 p)) (one (has 1 p)) (one (has 2 p)) (one (has 3 p)) (length (with_connectivity 0 ps)) (length (with_connectivity 1 ps)) (length (with_connectivity 2 ps)) (length (with_connectivity 3 ps)) (length ps)
    (just_one (connectivity_of p) (connectivity-most p)) (with-sum ps))
