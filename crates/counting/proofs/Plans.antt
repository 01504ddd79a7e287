-- The plans of a size are just the allowed ones without doubles, each once. Assumes nothing.
use Prim.Native.Nat.{ℕ, ◌^◌, ◌≤◌, ◌<◌}
use mathlib.Core.Path.{◌≡◌, refl, ap, ◌∙◌}
use mathlib.Core.Logic.{◌⊎◌, inl, inr, ◌≢◌}
use mathlib.Core.List.{List, [], ◌∷◌}
use native.Mathlib.Omega.{arith}
use lib.ListN.{length, length-map}
use Rattle.record.specs.Read.{Each}
use Rattle.connectivity.specs.Lists.{In, NoDup}
use Rattle.connectivity.proofs.Edges.{EdgeBefore, AscendingEdges, ascending_nodup}
use Rattle.graph.specs.Limits.{min_vertices, max_vertices, max_edges}
use Rattle.reading.specs.Plan.{Plan, Allowed, EdgeAllowed}
use Rattle.reading.proofs.EdgeTests.{Proper, proper-true, follows-true, each-proper}
use Rattle.reading.proofs.Doubles.{ascends_each, each_both}
use Rattle.counting.specs.Counts.{pairs_of, sets_of, plan_with, plans_of}
use Rattle.counting.proofs.Sets.{in_map, map_in, nodup_map, sets_count, sets_nodup, set_members, set_short, set_ascends, ascends_set}
use Rattle.reading.proofs.Pairs.{ascends_cons, after_zeros, pairs_proper, low_pairs, pairs_ascend}

set_allowed : (n : ℕ) → min_vertices ≤ n → n ≤ max_vertices → length (pairs_of n) ≤ max_edges → (s : List (ℕ × ℕ)) → In s (sets_of (pairs_of n)) → Allowed (plan_with n s)
set_allowed n least most few s h = record {
  least = least;
  most = most;
  few = omega (arith, set_short (pairs_of n) s h);
  each = each_both n (0, 0) s (ascends_each (0, 0) s (ascends_cons (0, 0) s (λ e i. after_zeros e (low e i).0) (set_ascends (pairs_of n) s (pairs_ascend n) h))) low;
}
  where
    low : Proper n s
    low e i = proper-true n e (pairs_proper n e (set_members (pairs_of n) s h e i))

-- EVERY PLAN OF THE LIST IS ALLOWED AND HAS NO DOUBLES ..
pub listed-allowed : (n : ℕ) → min_vertices ≤ n → n ≤ max_vertices → length (pairs_of n) ≤ max_edges → (p : Plan) → In p (plans_of n) → Allowed p × (p.n ≡ n) × NoDup p.edges
listed-allowed n least most few p h =
    let r = in_map (plan_with n) p (sets_of (pairs_of n)) h in
    rw r.2 (set_allowed n least most few r.0 r.1, refl, ascending_nodup r.0 (set_ascends (pairs_of n) r.0 (pairs_ascend n) r.1))

-- edges in order, none of them a double, ascend
after_other : (d e : ℕ × ℕ) → ¬ (d ≡ e) → (d.0 < e.0) ⊎ ((d.0 ≡ e.0) × (d.1 ≤ e.1)) → EdgeBefore d e
after_other d e ne (inl a) = inl a
after_other d e ne (inr a) = let z : d.1 ≢ e.1 = λ k. ne (λ i. (a.0 i, k i)) in inr (a.0, omega arith)

each-ascends : (n : ℕ) (before : ℕ × ℕ) (es : List (ℕ × ℕ)) → Each (EdgeAllowed n) (λ d e. e) before es → NoDup es → AscendingEdges es
unfolding Each
each-ascends n before [] h nd = tt
each-ascends n before (e ∷ []) h nd = tt
each-ascends n before (e ∷ (f ∷ es)) h nd = (after_other e f (λ k. nd.0 (inl k)) (follows-true e f h.1.0.1), each-ascends n e (f ∷ es) h.1 nd.1)

-- .. AND EVERY ALLOWED PLAN OF THAT SIZE WITHOUT DOUBLES STANDS IN IT.
pub allowed_listed : (n : ℕ) (p : Plan) → Allowed p → p.n ≡ n → NoDup p.edges → In p (plans_of n)
allowed_listed n p a e nd = rw (← e) (map_in (plan_with p.n) p.edges (sets_of (pairs_of p.n))
    (ascends_set (pairs_of p.n) p.edges (pairs_ascend p.n) (each-ascends p.n (0, 0) p.edges a.each nd) (λ d i. low_pairs p.n d (each-proper p.n (0, 0) p.edges a.each d i))))

-- NO PLAN STANDS IN IT TWICE, AND THE PLANS ARE AS MANY AS THE SETS OF PAIRS.
pub plans_nodup : (n : ℕ) → NoDup (plans_of n)
plans_nodup n = nodup_map (plan_with n) (sets_of (pairs_of n)) (λ a b h k e. ap (λ (p : Plan). p.edges) e) (sets_nodup (pairs_of n) (ascending_nodup (pairs_of n) (pairs_ascend n)))

pub plans_count : (n : ℕ) → length (plans_of n) ≡ 2 ^ length (pairs_of n)
plans_count n = length-map (sets_of (pairs_of n)) (plan_with n) ∙ sets_count (pairs_of n)
