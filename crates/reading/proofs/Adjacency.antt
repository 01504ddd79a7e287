-- The rows of a plan's graph hold its edges: the adjacency test is membership in the list of edges. Assumes nothing.
use Prim.Native.Nat.{ℕ, ◌+◌, ◌*◌, ◌<◌, ◌≤◌}
use mathlib.Core.List.{List, [], ◌∷◌}
use mathlib.Core.Bool.{Bool, true, false, ◌&&◌, ◌||◌, and_comm, or_assoc, or-false}
use mathlib.Core.Logic.{◌⊎◌, inl, inr, ⊎_elim}
use mathlib.Core.Path.{◌≡◌, refl, sym, ap, fun_ext, ◌∙◌}
use native.Mathlib.Omega.{arith}
use lib.ListN.{length, length-set, length-replicate}
use lib.Dec.{ltb, eqb}
use borrow.Author.Tests.{ltb-true, ltb-false, eqb-true, eqb-false, eq-eqb, ne_eqb}
use Rattle.record.specs.Read.{folded}
use Rattle.vertexset.specs.Set.{has, with_bit, capacity}
use Rattle.vertexset.proofs.Laws.{has-insert, has-empty}
use Rattle.connectivity.specs.Lists.{In}
use Rattle.connectivity.specs.Graph.{is_pair, listed, from_edges, Simple, edge_count}
use Rattle.connectivity.proofs.Edges.{listed_in}
use Rattle.reading.specs.Plan.{Plan, Allowed}
use Rattle.graph.specs.Limits.{max_edges}
use Rattle.graph.specs.Rows.{row_words, adjacent_in, joined, bare_rows, rows_graph}
use Rattle.reading.specs.Code.{graph_of}
use Rattle.reading.proofs.EdgeTests.{Proper, each-proper}
use Rattle.reading.proofs.Doubles.{plan-simple, pairs_most}

-- the bits that the edges set
unfoldable pub bits : List (ℕ × ℕ) → ℕ → Bool
bits [] x = false
bits (e ∷ es) x = eqb x (e.0 * capacity + e.1) || (eqb x (e.1 * capacity + e.0) || bits es x)

-- an edge more sets two bits
pub has_both : (rows : List ℕ) (e : ℕ × ℕ) → length rows ≡ row_words → e.0 < capacity → e.1 < capacity → (x : ℕ)
    → has (joined rows e) x ≡ has rows x || (eqb x (e.0 * capacity + e.1) || eqb x (e.1 * capacity + e.0))
has_both rows e l h k x =
    let i : e.0 * capacity + e.1 < 64 * length rows = omega arith in
    let m : length (with_bit rows (e.0 * capacity + e.1)) ≡ row_words = simp length-set l in
    let j : e.1 * capacity + e.0 < 64 * length (with_bit rows (e.0 * capacity + e.1)) = omega arith in
    ap (λ (f : ℕ → Bool). f x) (has-insert (with_bit rows (e.0 * capacity + e.1)) (e.1 * capacity + e.0) j)
    ∙ ap (λ (f : ℕ → Bool). f x || eqb x (e.1 * capacity + e.0)) (has-insert rows (e.0 * capacity + e.1) i)
    ∙ or_assoc (has rows x) _ _

pub has-joined : (es : List (ℕ × ℕ)) (rows : List ℕ) → Proper capacity es → length rows ≡ row_words → (x : ℕ) → has (folded joined rows es) x ≡ has rows x || bits es x
unfolding folded bits
has-joined [] rows h l x = sym (or-false (has rows x))
has-joined (e ∷ es) rows h l x =
    let b = h e (inl refl) in
    let m : length (joined rows e) ≡ row_words = simp length-set l in
    has-joined es (joined rows e) (λ d q. h d (inr q)) m x
    ∙ ap (λ (b : Bool). b || bits es x) (has_both rows e l (omega arith) (omega arith) x)
    ∙ or_assoc (has rows x) _ (bits es x)
    ∙ ap (λ (b : Bool). has rows x || b) (or_assoc (eqb x (e.0 * capacity + e.1)) (eqb x (e.1 * capacity + e.0)) (bits es x))

-- a bit says which pair it stands for
pub same_bit : (u v : ℕ) (e : ℕ × ℕ) → v < capacity → e.1 < capacity → eqb (u * capacity + v) (e.0 * capacity + e.1) ≡ is_pair e u v
same_bit u v e h k = go (eqb e.0 u) refl (eqb e.1 v) refl
  where
    go : (p : Bool) → eqb e.0 u ≡ p → (q : Bool) → eqb e.1 v ≡ q → eqb (u * capacity + v) (e.0 * capacity + e.1) ≡ p && q
    go true a true b = let c : e.0 ≡ u = eqb-true _ _ a in let d : e.1 ≡ v = eqb-true _ _ b in eq-eqb (u * capacity + v) (e.0 * capacity + e.1) (omega arith)
    go true a false b = ne_eqb (u * capacity + v) (e.0 * capacity + e.1) (λ z. let w : e.1 ≡ v = omega arith in eqb-false _ _ b w)
    go false a q b = ne_eqb (u * capacity + v) (e.0 * capacity + e.1) (λ z. let w : e.0 ≡ u = omega arith in eqb-false _ _ a w)

bits_listed : (es : List (ℕ × ℕ)) → Proper capacity es → (u v : ℕ) → u < capacity → v < capacity → bits es (u * capacity + v) ≡ listed es u v
unfolding bits
bits_listed [] h u v i j = refl
bits_listed (e ∷ es) h u v i j =
    let b = h e (inl refl) in
    rw (
      same_bit u v e (omega arith) (omega arith),
      same_bit u v (e.1, e.0) (omega arith) (omega arith),
      and_comm (eqb e.1 u) (eqb e.0 v),
      bits_listed es (λ d q. h d (inr q)) u v i j,
    )

-- no edge is listed past the limits
listed-past : (es : List (ℕ × ℕ)) → Proper capacity es → (u v : ℕ) → (capacity ≤ u) ⊎ (capacity ≤ v) → listed es u v ≡ false
listed-past es h u v past = go (listed es u v) refl
  where
    out : In {A = ℕ × ℕ} (u, v) es ⊎ In {A = ℕ × ℕ} (v, u) es → ⊥
    out (inl i) = let b = h (u, v) i in ⊎_elim (λ k. omega arith) (λ k. omega arith) past
    out (inr i) = let b = h (v, u) i in ⊎_elim (λ k. omega arith) (λ k. omega arith) past

    go : (b : Bool) → listed es u v ≡ b → b ≡ false
    go true e = absurd (out (listed_in es u v e))
    go false e = refl

-- THE ADJACENCY TEST OF ROWS IN WHICH EDGES ARE JOINED: that of the rows before, or membership in the list of edges.
pub adjacent_joined : (es : List (ℕ × ℕ)) (rows : List ℕ) → Proper capacity es → length rows ≡ row_words → (u v : ℕ) → adjacent_in (folded joined rows es) u v ≡ adjacent_in rows u v || listed es u v
adjacent_joined es rows h l u v = go (ltb u capacity) refl (ltb v capacity) refl
  where
    go : (b : Bool) → ltb u capacity ≡ b → (c : Bool) → ltb v capacity ≡ c → b && (c && has (folded joined rows es) (u * capacity + v)) ≡ (b && (c && has rows (u * capacity + v))) || listed es u v
    go true i true j = has-joined es rows h l (u * capacity + v) ∙ ap (λ (b : Bool). has rows (u * capacity + v) || b) (bits_listed es h u v (ltb-true _ _ i) (ltb-true _ _ j))
    go true i false j = sym (listed-past es h u v (inr (ltb-false _ _ j)))
    go false i c j = sym (listed-past es h u v (inl (ltb-false _ _ i)))

bare_apart : (u v : ℕ) → adjacent_in bare_rows u v ≡ false
bare_apart u v = rw (has-empty row_words (u * capacity + v)) (none (ltb u capacity) (ltb v capacity))
  where
    none : (b c : Bool) → b && (c && false) ≡ false
    none true true = refl
    none true false = refl
    none false c = refl

module _ (p : Plan) (a : Allowed p) where
  edges-low : Proper capacity p.edges
  edges-low e i = let b = each-proper p.n (0, 0) p.edges a.each e i in (b.0, omega arith)

  -- THE ADJACENCY TEST OF A PLAN'S GRAPH IS MEMBERSHIP IN ITS LIST OF EDGES.
  pub adjacent_listed : (u v : ℕ) → adjacent_in (graph_of p).rows u v ≡ listed p.edges u v
  unfolding graph_of
  adjacent_listed u v = adjacent_joined p.edges bare_rows edges-low (length-replicate {A = ℕ} row_words 0) u v ∙ ap (λ (b : Bool). b || listed p.edges u v) (bare_apart u v)

  -- its rows stand for the graph of that list ..
  pub graph_listed : rows_graph (graph_of p).n (graph_of p).rows ≡ from_edges p.n p.edges
  unfolding graph_of
  graph_listed = ap (λ (f : ℕ → ℕ → Bool). record { n = p.n; adj = f }) (fun_ext (λ u. fun_ext (λ v. adjacent_listed u v)))

  -- .. which is simple, and has as many edges as the table says, no more than the record
  pub graph_simple : Simple (rows_graph (graph_of p).n (graph_of p).rows)
  graph_simple = rw graph_listed (plan-simple p.n p.edges a.least a.each)

  pub graph_count : edge_count (rows_graph (graph_of p).n (graph_of p).rows) ≡ (graph_of p).d
  unfolding graph_of
  graph_count = rw graph_listed

  pub graph_few : (graph_of p).d ≤ max_edges
  unfolding graph_of
  graph_few = omega (arith, pairs_most p.n p.edges a.least a.each, a.few)
