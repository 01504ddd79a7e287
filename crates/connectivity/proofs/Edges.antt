-- The list of a graph's edges, and graphs from such a list.
use mathlib.Core.Path.{◌≡◌, ap, sym, refl}
use mathlib.Core.Logic.{inl, inr, ⊎_elim, ◌≢◌, ◌⊎◌, ⊎_map, ⊎_swap}
use mathlib.Core.List.{List, [], ◌∷◌, ◌++◌}
use mathlib.Core.Bool.{true, ◌||◌}
use Prim.Native.Nat.{ℕ, ◌≤◌, ◌<◌, zero, suc, min}
use native.Mathlib.Omega.{arith}
use native.Mathlib.Decide.{ℕ_discrete}
use lib.Dec.{eqb}
use lib.ListN.{length}
use borrow.Author.Tests.{eqb-true, eq-eqb}
use Rattle.connectivity.specs.Lists.{In, NoDup, select, below}
use Rattle.connectivity.specs.Graph.{with_higher, Graph, edges_below, Adj, edges, Simple, is_pair, listed, from_edges, edge_count}
pub use Rattle.connectivity.specs.Graph.{EdgeBefore, AscendingEdges}
use Rattle.connectivity.specs.Path.{Along, Path, IsPath, vertices, edge}
use Rattle.connectivity.proofs.Lists.{in_append, select_in, in_below, in_right, either, in_left, in_select, below_in, nodup_append, select-nodup, nodup_below, and-true, clash, or-true, true_or, fewer}
use Rattle.connectivity.proofs.Paths.{along-edge, edge-sorted, edge-comm}

with_in : (v : ℕ) (l : List ℕ) (e : ℕ × ℕ) → In e (with_higher v l) → In e.0 l × (e.1 ≡ v)
with_in v [] e h = absurd h
with_in v (u ∷ l) e (inl i) = (inl (ap (λ (q : ℕ × ℕ). q.0) i), ap (λ (q : ℕ × ℕ). q.1) i)
with_in v (u ∷ l) e (inr h) = let r = with_in v l e h in (inr r.0, r.1)

in_with : (v u : ℕ) (l : List ℕ) → In u l → In {A = ℕ × ℕ} (u, v) (with_higher v l)
in_with v u [] h = h
in_with v u (a ∷ l) (inl e) = inl (ap (λ (z : ℕ). (z, v)) e)
in_with v u (a ∷ l) (inr h) = inr (in_with v u l h)

with-nodup : (v : ℕ) (l : List ℕ) → NoDup l → NoDup (with_higher v l)
with-nodup v [] nd = tt
with-nodup v (u ∷ l) nd = ((λ h. nd.0 (with_in v l (u, v) h).0), with-nodup v l nd.1)

module _ (g : Graph) where
  abbrev lower : ℕ → List ℕ
  lower v = select (λ u. g.adj u v) (below v)

  edges_below-in : (k : ℕ) (e : ℕ × ℕ) → In e (edges_below g k) → (e.0 < e.1) × (e.1 < k) × Adj g e.0 e.1
  edges_below-in zero e h = absurd h
  edges_below-in (suc v) e h = ⊎_elim new (λ i. let r = edges_below-in v e i in (r.0, omega arith, r.2)) (in_append e (with_higher v (lower v)) (edges_below g v) h)
    where
      new : In e (with_higher v (lower v)) → (e.0 < e.1) × (e.1 < suc v) × Adj g e.0 e.1
      new i =
          let r = with_in v (lower v) e i in
          let s = select_in (λ u. g.adj u v) (below v) e.0 r.0 in
          let b = in_below v e.0 s.0 in
          (omega (arith, r.1), omega (arith, r.1), rw r.1 s.1)

  in_edges_below : (k u v : ℕ) → u < v → v < k → Adj g u v → In {A = ℕ × ℕ} (u, v) (edges_below g k)
  in_edges_below zero u v a b e = absurd (omega arith)
  in_edges_below (suc k) u v a b e = ⊎_elim here (λ j. in_right (u, v) (with_higher k (lower k)) (edges_below g k) (in_edges_below k u v a (omega arith) e)) (either (ℕ_discrete v k))
    where
      here : v ≡ k → In {A = ℕ × ℕ} (u, v) (edges_below g (suc k))
      here j = in_left (u, v) (with_higher k (lower k)) (edges_below g k) (rw j (in_with k u (lower k) (in_select (λ u. g.adj u k) (below k) u (below_in k u (omega arith)) (rw j at e))))

  edges_below-nodup : (k : ℕ) → NoDup (edges_below g k)
  edges_below-nodup zero = tt
  edges_below-nodup (suc v) = nodup_append (with_higher v (lower v)) (edges_below g v) (with-nodup v (lower v) (select-nodup (λ u. g.adj u v) (below v) (nodup_below v))) (edges_below-nodup v)
      (λ e h j. omega (arith, (with_in v (lower v) e h).1, (edges_below-in v e j).1))

  -- the list has each edge once, its lower end first
  pub edges-nodup : NoDup (edges g)
  edges-nodup = edges_below-nodup g.n

  pub edges-in : (e : ℕ × ℕ) → In e (edges g) → (e.0 < e.1) × Adj g e.0 e.1
  edges-in e h = let r = edges_below-in g.n e h in (r.0, r.2)

module _ (g : Graph) (p : Simple g) where
  pub edge-high : (u v : ℕ) → Adj g u v → v < g.n
  edge-high u v k = p.low v u (p.symmetric u v k)

  pub edge-differ : (u v : ℕ) → Adj g u v → v ≢ u
  edge-differ u v k e = p.irreflexive u (rw e at k)

  -- the vertices of a path are vertices of the graph
  pub along-low : (s : ℕ) (l : List ℕ) (t : ℕ) → Along (Adj g) s l t → (z : ℕ) → In z (s ∷ (l ++ (t ∷ []))) → z < g.n
  along-low s l t w z h = let m = along-edge (Adj g) p.symmetric s l t w z h in p.low z m.0 m.1

  pub path-low : (P : Path) → IsPath (Adj g) P → (w : ℕ) → In w (vertices P) → w < g.n
  path-low P h = along-low P.s P.inner P.t h.along

  pub in_edges : (u v : ℕ) → Adj g u v → In (edge u v) (edges g)
  in_edges u v k = go (ℕ_discrete (min u v) u) (edge-differ u v k)
    where
      go : Dec (min u v ≡ u) → v ≢ u → In (edge u v) (edges g)
      go (yes e) ne = rw (edge-sorted u v (omega (arith, ne))) (in_edges_below g g.n u v (omega (arith, ne)) (edge-high u v k) k)
      go (no e) ne = rw (edge-comm u v, edge-sorted v u (omega (arith, ne))) (in_edges_below g g.n v u (omega (arith, ne)) (p.low u v k) (p.symmetric u v k))

-- the adjacency test of a list of edges
abbrev Listed : ℕ → ℕ → List (ℕ × ℕ) → Type 0
Listed u v es = In {A = ℕ × ℕ} (u, v) es ⊎ In {A = ℕ × ℕ} (v, u) es

is_pair_lem : (e : ℕ × ℕ) (u v : ℕ) → is_pair e u v ≡ true → ◌≡◌ {A = ℕ × ℕ} (u, v) e
is_pair_lem e u v h = let r = and-true (eqb e.0 u) (eqb e.1 v) h in let p = eqb-true e.0 u r.0 in let q = eqb-true e.1 v r.1 in λ i. (sym p i, sym q i)

pair_is : (e : ℕ × ℕ) (u v : ℕ) → ◌≡◌ {A = ℕ × ℕ} (u, v) e → is_pair e u v ≡ true
pair_is e u v i = rw (eq-eqb e.0 u (ap (λ (x : ℕ × ℕ). x.0) (sym i)), eq-eqb e.1 v (ap (λ (x : ℕ × ℕ). x.1) (sym i)))

pub listed_in : (es : List (ℕ × ℕ)) (u v : ℕ) → listed es u v ≡ true → Listed u v es
listed_in [] u v h = absurd (clash h refl)
listed_in (e ∷ es) u v h = ⊎_elim (λ k. inl (inl (is_pair_lem e u v k)))
    (λ k. ⊎_elim (λ j. inr (inl (is_pair_lem e v u j))) (λ j. ⊎_map inr inr (listed_in es u v j)) (or-true (is_pair e v u) (listed es u v) k))
    (or-true (is_pair e u v) (is_pair e v u || listed es u v) h)

pub in_listed : (es : List (ℕ × ℕ)) (u v : ℕ) → Listed u v es → listed es u v ≡ true
in_listed [] u v (inl h) = absurd h
in_listed [] u v (inr h) = absurd h
in_listed (e ∷ es) u v (inl (inl i)) = rw (pair_is e u v i)
in_listed (e ∷ es) u v (inl (inr i)) = true_or (is_pair e u v) (is_pair e v u || listed es u v) (true_or (is_pair e v u) (listed es u v) (in_listed es u v (inl i)))
in_listed (e ∷ es) u v (inr (inl i)) = true_or (is_pair e u v) (is_pair e v u || listed es u v) (rw (pair_is e v u i))
in_listed (e ∷ es) u v (inr (inr i)) = true_or (is_pair e u v) (is_pair e v u || listed es u v) (true_or (is_pair e v u) (listed es u v) (in_listed es u v (inr i)))

-- Each edge stands in the list once, its lower end first.
pub record EdgeList (n : ℕ) (es : List (ℕ × ℕ)) : Type 0 where
  pub big : 4 ≤ n
  pub each : (e : ℕ × ℕ) → In e es → (e.0 < e.1) × (e.1 < n)
  pub once : NoDup es

-- A LIST THAT ASCENDS HAS NO EDGE TWICE.
before_trans : (a b c : ℕ × ℕ) → EdgeBefore a b → EdgeBefore b c → EdgeBefore a c
before_trans a b c (inl h) (inl k) = inl (omega arith)
before_trans a b c (inl h) (inr k) = inl (omega arith)
before_trans a b c (inr h) (inl k) = inl (omega arith)
before_trans a b c (inr h) (inr k) = inr (omega arith, omega arith)

-- of two pairs only one comes before the other
pub before_not : (a b : ℕ × ℕ) → EdgeBefore a b → ¬ EdgeBefore b a
before_not a b (inl h) (inl k) = omega arith
before_not a b (inl h) (inr k) = omega arith
before_not a b (inr h) (inl k) = omega arith
before_not a b (inr h) (inr k) = omega arith

pub ascending_after : (e : ℕ × ℕ) (es : List (ℕ × ℕ)) → AscendingEdges (e ∷ es) → (f : ℕ × ℕ) → In f es → EdgeBefore e f
ascending_after e [] s f h = absurd h
ascending_after e (d ∷ es) s f (inl i) = rw i s.0
ascending_after e (d ∷ es) s f (inr h) = before_trans e d f s.0 (ascending_after d es s.1 f h)

pub ascending_nodup : (es : List (ℕ × ℕ)) → AscendingEdges es → NoDup es
ascending_nodup [] s = tt
ascending_nodup (e ∷ []) s = ((λ h. h), tt)
ascending_nodup (e ∷ (f ∷ es)) s = ((λ h. ⊎_elim (λ k. omega arith) (λ k. omega arith) (ascending_after e (f ∷ es) s e h)), ascending_nodup (f ∷ es) s.1)

module _ (n : ℕ) (es : List (ℕ × ℕ)) (x : EdgeList n es) where
  -- THE GRAPH OF A LIST OF EDGES IS SIMPLE ..
  pub from_edges-simple : Simple (from_edges n es)
  from_edges-simple = record {
    big = x.big;
    symmetric = λ u v h. in_listed es v u (⊎_swap (listed_in es u v h));
    irreflexive = λ u h. ⊎_elim (self u) (self u) (listed_in es u u h);
    low = λ u v h. ⊎_elim (λ k. let r = x.each (u, v) k in omega arith) (λ k. (x.each (v, u) k).1) (listed_in es u v h);
  }
    where
      self : (u : ℕ) → ¬ In {A = ℕ × ℕ} (u, u) es
      self u h = omega (arith, (x.each (u, u) h).0)

  -- .. AND HAS AS MANY EDGES AS THE LIST.
  pub from_edges-count : edge_count (from_edges n es) ≡ length es
  from_edges-count = omega (arith, fewer (edges (from_edges n es)) es (edges-nodup (from_edges n es)) out, fewer es (edges (from_edges n es)) x.once into)
    where
      out : (e : ℕ × ℕ) → In e (edges (from_edges n es)) → In e es
      out e h = let r = edges-in (from_edges n es) e h in ⊎_elim (λ k. k) (λ k. absurd (omega (arith, r.0, (x.each (e.1, e.0) k).0))) (listed_in es e.0 e.1 r.1)

      into : (e : ℕ × ℕ) → In e es → In e (edges (from_edges n es))
      into e h = rw (edge-sorted e.0 e.1 (x.each e h).0) at (in_edges (from_edges n es) from_edges-simple e.0 e.1 (in_listed es e.0 e.1 (inl h)))
