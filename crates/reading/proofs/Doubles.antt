-- A plan and the plan with each double written once have the same graph, and the edges that differ from the one before them are as many as
-- its pairs of adjacent vertices. Assumes nothing.
use Prim.Native.Nat.{ℕ, ◌+◌, ◌<◌, ◌≤◌}
use mathlib.Core.List.{List, [], ◌∷◌}
use mathlib.Core.Bool.{Bool, true, false, cond, ◌&&◌, or-true}
use mathlib.Core.Logic.{◌⊎◌, inl, inr, ⊎_elim, ⊎_map}
use mathlib.Core.Path.{◌≡◌, refl, sym, ap, subst, fun_ext, ◌∙◌}
use native.Mathlib.Omega.{arith}
use lib.Dec.{ltb, eqb}
use lib.ListN.{length}
use borrow.Author.Tests.{eqb-false, lt-ltb, le-leb, eq-eqb}
use Rattle.record.specs.Read.{Each, folded}
use Rattle.connectivity.specs.Lists.{In}
use Rattle.connectivity.specs.Graph.{Graph, is_pair, listed, from_edges, Simple, edge_count}
use Rattle.connectivity.proofs.TopologicalGraph.{is_pair_lem}
use Rattle.connectivity.proofs.Edges.{EdgeList, EdgeBefore, AscendingEdges, ascending_nodup, listed_in, in_listed, from_edges-simple, from_edges-count}
use Rattle.graph.specs.Limits.{min_vertices}
use Rattle.reading.specs.Plan.{Plan, Allowed, EdgeAllowed, proper, follows, once_after, once}
use Rattle.reading.specs.Code.{counted_pair, edge_loop}
use Rattle.reading.proofs.EdgeTests.{Proper, follows-true, each-proper}

-- two edges that differ
pair-other : (d e : ℕ × ℕ) → is_pair d e.0 e.1 ≡ false → d.0 ≡ e.0 → d.1 ≡ e.1 → ⊥
pair-other d e h a b = go (eqb d.0 e.0) refl (eqb d.1 e.1) refl h
  where
    go : (x : Bool) → eqb d.0 e.0 ≡ x → (y : Bool) → eqb d.1 e.1 ≡ y → x && y ≡ false → ⊥
    go true p true q k = let z : ◌≡◌ {A = ℕ} 0 1 = cc in omega arith
    go true p false q k = eqb-false _ _ q b
    go false p y q k = eqb-false _ _ p a

-- the edges that are left are edges, and each edge is left, or is the one before
pub once-in : (before : ℕ × ℕ) (es : List (ℕ × ℕ)) (e : ℕ × ℕ) → In e (once_after before es) → In e es
unfolding once_after
once-in before [] e i = i
once-in before (d ∷ es) e i = go (is_pair before d.0 d.1) (once-in d es e) i
  where
    go : (b : Bool) → (In e (once_after d es) → In e es) → In e (cond b (once_after d es) (d ∷ once_after d es)) → In e (d ∷ es)
    go true later i = inr (later i)
    go false later (inl i) = inl i
    go false later (inr i) = inr (later i)

in_once : (before : ℕ × ℕ) (es : List (ℕ × ℕ)) (e : ℕ × ℕ) → In e es → (before ≡ e) ⊎ In e (once_after before es)
unfolding once_after
in_once before [] e i = absurd i
in_once before (d ∷ es) e i = go (is_pair before d.0 d.1) refl (in_once d es e) i
  where
    go : (b : Bool) → is_pair before d.0 d.1 ≡ b → (In e es → (d ≡ e) ⊎ In e (once_after d es)) → In e (d ∷ es)
        → (before ≡ e) ⊎ In e (cond b (once_after d es) (d ∷ once_after d es))
    go true h later (inl j) = inl (is_pair_lem before d h ∙ sym j)
    go true h later (inr j) = ⊎_elim (λ k. inl (is_pair_lem before d h ∙ k)) (λ k. inr k) (later j)
    go false h later (inl j) = inr (inl j)
    go false h later (inr j) = ⊎_elim (λ k. inr (inl (sym k))) (λ k. inr (inr k)) (later j)

-- in order, and different: after
after_other : (d e : ℕ × ℕ) → is_pair d e.0 e.1 ≡ false → (d.0 < e.0) ⊎ ((d.0 ≡ e.0) × (d.1 ≤ e.1)) → EdgeBefore d e
after_other d e h (inl a) = inl a
after_other d e h (inr a) = inr (a.0, omega (arith, pair-other d e h a.0))

once-ascends : (n : ℕ) (before : ℕ × ℕ) (es : List (ℕ × ℕ)) → Each (EdgeAllowed n) (λ before e. e) before es → AscendingEdges (before ∷ once_after before es)
unfolding once_after Each
once-ascends n before [] h = tt
once-ascends n before (e ∷ es) h = go (is_pair before e.0 e.1) refl (once-ascends n e es h.1)
  where
    go : (b : Bool) → is_pair before e.0 e.1 ≡ b → AscendingEdges (e ∷ once_after e es) → AscendingEdges (before ∷ cond b (once_after e es) (e ∷ once_after e es))
    go true k r = rw (is_pair_lem before e k) r
    go false k r = (after_other before e k (follows-true before e h.0.1), r)

-- the loop counts the edges that are left
counts_once : (n m : ℕ) (before : ℕ × ℕ) (d : ℕ) (es : List (ℕ × ℕ)) → (folded (edge_loop n m).step (before, d) es).1 ≡ d + length (once_after before es)
unfolding folded once_after
counts_once n m before d [] = omega arith
counts_once n m before d (e ∷ es) = go (is_pair before e.0 e.1) (λ k. counts_once n m e k es)
  where
    go : (b : Bool) → ((k : ℕ) → (folded (edge_loop n m).step (e, k) es).1 ≡ k + length (once_after e es))
        → (folded (edge_loop n m).step (e, cond b d (d + 1)) es).1 ≡ d + length (cond b (once_after e es) (e ∷ once_after e es))
    go true later = later d
    go false later = omega (arith, later (d + 1))

-- one edge more counts one at most
pub counted-most : (before : ℕ × ℕ) (d : ℕ) (e : ℕ × ℕ) → counted_pair before d e ≤ d + 1
counted-most before d e = go (is_pair before e.0 e.1)
  where
    go : (b : Bool) → cond b d (d + 1) ≤ d + 1
    go true = omega arith
    go false = omega arith

once-most : (before : ℕ × ℕ) (es : List (ℕ × ℕ)) → length (once_after before es) ≤ length es
unfolding once_after
once-most before [] = omega arith
once-most before (e ∷ es) = go (is_pair before e.0 e.1) (once-most e es)
  where
    go : (b : Bool) → length (once_after e es) ≤ length es → length (cond b (once_after e es) (e ∷ once_after e es)) ≤ length (e ∷ es)
    go true later = omega (arith, later)
    go false later = omega (arith, later)

pub ascends_on : (e : ℕ × ℕ) (es : List (ℕ × ℕ)) → AscendingEdges (e ∷ es) → AscendingEdges es
ascends_on e [] h = tt
ascends_on e (f ∷ es) h = h.1

-- the edges of a plan
module _ (n : ℕ) (es : List (ℕ × ℕ)) (big : min_vertices ≤ n) (h : Each (EdgeAllowed n) (λ before e. e) (0, 0) es) where
  abbrev left : List (ℕ × ℕ)
  left = once_after (0, 0) es

  once-list : EdgeList n left
  once-list = record {
    big = big;
    each = λ e i. each-proper n (0, 0) es h e (once-in (0, 0) es e i);
    once = ascending_nodup left (ascends_on (0, 0) left (once-ascends n (0, 0) es h));
  }

  -- no edge is (0, 0)
  pub once-has : (e : ℕ × ℕ) → In e es → In e left
  once-has e i = ⊎_elim (λ k. absurd (first e (each-proper n (0, 0) es h e i) k)) (λ k. k) (in_once (0, 0) es e i)
    where
      first : (e : ℕ × ℕ) → (e.0 < e.1) × (e.1 < n) → ◌≡◌ {A = ℕ × ℕ} (0, 0) e → ⊥
      first e b k = let z : 0 ≡ e.1 = ap (λ (d : ℕ × ℕ). d.1) k in omega (arith, b.0)

  -- A PLAN AND THE PLAN WITH EACH DOUBLE WRITTEN ONCE HAVE THE SAME GRAPH ..
  pub once-graph : from_edges n left ≡ from_edges n es
  once-graph = ap (λ (f : ℕ → ℕ → Bool). record { n = n; adj = f }) (fun_ext (λ u. fun_ext (λ v. same u v (listed left u v) refl (listed es u v) refl)))
    where
      same : (u v : ℕ) (a : Bool) → listed left u v ≡ a → (b : Bool) → listed es u v ≡ b → a ≡ b
      same u v true e true f = refl
      same u v true e false f = sym (in_listed es u v (⊎_map (once-in (0, 0) es (u, v)) (once-in (0, 0) es (v, u)) (listed_in left u v e))) ∙ f
      same u v false e true f = sym (sym (in_listed left u v (⊎_map (once-has (u, v)) (once-has (v, u)) (listed_in es u v f))) ∙ e)
      same u v false e false f = refl

  -- .. which is simple, and whose edges are as many as those left
  pub plan-simple : Simple (from_edges n es)
  plan-simple = rw (← once-graph) (from_edges-simple n left once-list)

  pair-count : edge_count (from_edges n es) ≡ length left
  pair-count = subst (λ (h : Graph). edge_count h ≡ length left) once-graph (from_edges-count n left once-list)

  pub pairs_most : edge_count (from_edges n es) ≤ length es
  pairs_most = omega (arith, pair-count, once-most (0, 0) es)

  -- THE LOOP COUNTS THE PAIRS OF ADJACENT VERTICES.
  pub pairs_counted : (m : ℕ) → (folded (edge_loop n m).step ((0, 0), 0) es).1 ≡ edge_count (from_edges n es)
  pairs_counted m = let z : 0 + length left ≡ length left = omega arith in counts_once n m (0, 0) 0 es ∙ z ∙ sym pair-count

-- edges that come one after the other, as a plan's
pub before_follows : (d e : ℕ × ℕ) → EdgeBefore d e → follows d e ≡ true
before_follows d e (inl h) = rw (lt-ltb _ _ h)
before_follows d e (inr h) = let l : d.1 ≤ e.1 = omega (arith, h.1) in rw (eq-eqb _ _ h.0, le-leb _ _ l) (or-true (ltb d.0 e.0))

pub ascends_each : (before : ℕ × ℕ) (es : List (ℕ × ℕ)) → AscendingEdges (before ∷ es) → Each EdgeBefore (λ d e. e) before es
unfolding Each
ascends_each before [] h = tt
ascends_each before (e ∷ es) h = (h.0, ascends_each e es h.1)

pub each_both : (n : ℕ) (before : ℕ × ℕ) (es : List (ℕ × ℕ)) → Each EdgeBefore (λ d e. e) before es → Proper n es → Each (EdgeAllowed n) (λ d e. e) before es
unfolding Each
each_both n before [] h p = tt
each_both n before (e ∷ es) h p =
    let b = p e (inl refl) in
    let t : proper n e ≡ true = rw (lt-ltb _ _ b.0, lt-ltb _ _ b.1) in
    ((t, before_follows before e h.0), each_both n e es h.1 (λ d i. p d (inr i)))

module _ (p : Plan) (a : Allowed p) where
  -- no edge is left that is equal to the one before it ..
  pub once_after_lem : Each EdgeBefore (λ d e. e) (0, 0) (once p).edges
  once_after_lem = ascends_each (0, 0) (once p).edges (once-ascends p.n (0, 0) p.edges a.each)

  -- .. and those left are a plan
  pub once-allowed : Allowed (once p)
  once-allowed = record {
    least = a.least;
    most = a.most;
    few = omega (arith, once-most (0, 0) p.edges, a.few);
    each = each_both p.n (0, 0) (once p).edges once_after_lem (λ e i. each-proper p.n (0, 0) p.edges a.each e (once-in (0, 0) p.edges e i));
  }
