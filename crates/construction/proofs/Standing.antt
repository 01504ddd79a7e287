-- Sets of words stand for their members, and rows for the adjacency test that they give: each operation answers the same on both sides.
use Prim.Native.Nat.{ℕ, ◌+◌, ◌*◌, ◌-◌, ◌/◌, ◌<◌}
use mathlib.Core.Path.{◌≡◌, refl, sym, ap, subst, fun_ext, ◌∙◌}
use mathlib.Core.Bool.{Bool, true, false, cond, not, ◌&&◌, ◌||◌, or-false}
use mathlib.Core.Logic.{⊎_elim}
use mathlib.Core.List.{List, [], ◌∷◌}
use native.Mathlib.Omega.{arith}
use lib.Dec.{eqb, ltb, lit<}
use lib.ListN.{length, length-replicate}
use lib.Seq.{set_out}
use borrow.Author.Tests.{ltb-true, ltb-false, eqb-true}
use Rattle.record.specs.Read.{folded}
use Rattle.vertexset.specs.Set.{Words, has, empty_set, inserted, first_from, next, count, capacity}
use Rattle.vertexset.specs.declared.VertexSet.{VertexSet}
use Rattle.vertexset.proofs.Laws.{empty-has, inserted-has, has-empty, zeros-at}
use Rattle.graph.specs.Limits.{max_edges}
use Rattle.graph.specs.Rows.{adjacent_in, row_of, row_words, bare_rows, joined, joined_rows}
use Rattle.graph.proofs.Rows.{row_adjacent}
use Rattle.reading.proofs.Adjacency.{has_both, same_bit}
use Rattle.connectivity.specs.Lists.{any, below}
use Rattle.connectivity.specs.Graph.{is_pair}
use Rattle.connectivity.proofs.Lists.{bool?, or-true, any-true, true_any, below_in, and-true}
use Rattle.construction.specs.Sets.{plus, minus, common, single, pair, set_with_all, set_of, members_from, members, least, empty}
use Rattle.construction.specs.Ears.{near, path_space}
use Rattle.construction.specs.Start.{marked, next_after}
use Rattle.construction.specs.Construction as plain
use Rattle.construction.specs.Construction.{Bounds}
use Rattle.construction.proofs.Basics.{Sized, On}
use Rattle.construction.proofs.SetLaws.{sized_empty, sized_inserted, sized_plus, sized_minus, sized_row, has-plus, has-minus, on_low, members-count, empty-none, empty-some}
use Rattle.construction.proofs.Near.{same_test, sized_near, near_on, on_near}
use Rattle.construction.proofs.Table.{marked-size, marked-words}

-- the bounds of the code
abbrev pub code_bounds : Bounds
code_bounds = record { vertices = capacity; numbers = path_space; steps = max_edges + 1 }

-- the members of the set are the numbers of which p holds
pub record Stands (s : VertexSet) (p : ℕ → Bool) : Type 0 where
  pub sized : Sized s
  pub same : has s.words ≡ p

-- the rows hold the edges that adj says
pub record Draws (rows : List ℕ) (adj : ℕ → ℕ → Bool) : Type 0 where
  pub words : Words rows
  pub same : adjacent_in rows ≡ adj

-- two choices by the same test
pub choice : {A B : Type 0} (R : A → B → Type 0) {t u : Bool} {x y : A} {z w : B} → t ≡ u → R x z → R y w → R (cond t x y) (cond u z w)
choice R {t} {u} {x} {y} {z} {w} e h k = subst (λ (c : Bool). R (cond t x y) (cond c z w)) e (go t)
  where
    go : (c : Bool) → R (cond c x y) (cond c z w)
    go true = h
    go false = k

-- ---- sets

pub row_stands : {rows : List ℕ} {adj : ℕ → ℕ → Bool} → Draws rows adj → {u v : ℕ} → u ≡ v → Stands (row_of rows u) (adj v)
row_stands {rows} d {u} e = record {
  sized = sized_row rows u d.words;
  same = fun_ext (row_adjacent rows u) ∙ (λ i. d.same i (e i));
}

pub empty_stands : Stands empty_set plain.empty_set
empty_stands = record { sized = sized_empty; same = empty-has }

pub plus-stands : {a c : VertexSet} {p q : ℕ → Bool} → Stands a p → Stands c q → Stands (plus a c) (plain.plus p q)
plus-stands {a} {c} h k = record {
  sized = sized_plus a c h.sized k.sized;
  same = fun_ext (has-plus a c h.sized k.sized) ∙ (λ i. plain.plus (h.same i) (k.same i));
}

pub minus-stands : {a c : VertexSet} {p q : ℕ → Bool} → Stands a p → Stands c q → Stands (minus a c) (plain.minus p q)
minus-stands {a} {c} h k = record {
  sized = sized_minus a c h.sized k.sized;
  same = fun_ext (has-minus a c h.sized k.sized) ∙ (λ i. plain.minus (h.same i) (k.same i));
}

minus-twice : (p q : Bool) → p && not (p && not q) ≡ p && q
minus-twice true true = refl
minus-twice true false = refl
minus-twice false q = refl

pub common-stands : {a c : VertexSet} {p q : ℕ → Bool} → Stands a p → Stands c q → Stands (common a c) (plain.common p q)
common-stands {a} {c} {p} {q} h k =
    let m = minus-stands h (minus-stands h k) in
    record { sized = m.sized; same = m.same ∙ fun_ext (λ x. minus-twice (p x) (q x)) }

has-inserted : (s : VertexSet) (v : ℕ) → Sized s → has (inserted s v).words ≡ plain.inserted code_bounds (has s.words) v
has-inserted s v h = go (ltb v capacity) refl
  where
    go : (t : Bool) → ltb v capacity ≡ t → has (inserted s v).words ≡ (λ x. has s.words x || (t && eqb x v))
    go true e = inserted-has s v h.size (ltb-true v capacity e)
    go false e = ap has (set_out s.words (v / 64) _ (omega (arith, h.size, ltb-false v capacity e))) ∙ fun_ext (λ x. sym (or-false _))

pub inserted-stands : {s : VertexSet} {p : ℕ → Bool} → Stands s p → {v w : ℕ} → v ≡ w → Stands (inserted s v) (plain.inserted code_bounds p w)
inserted-stands {s} h {v} e = record {
  sized = sized_inserted s v h.sized;
  same = has-inserted s v h.sized ∙ (λ i. plain.inserted code_bounds (h.same i) (e i));
}

pub single-stands : {v w : ℕ} → v ≡ w → Stands (single v) (plain.single code_bounds w)
single-stands e = inserted-stands empty_stands e

pub pair-stands : {u v w z : ℕ} → u ≡ w → v ≡ z → Stands (pair u v) (plain.pair code_bounds w z)
pair-stands d e = inserted-stands (single-stands d) e

list_stands : {s : VertexSet} {p : ℕ → Bool} → Stands s p → (l : List ℕ) → Stands (set_with_all s l) (plain.set_with_all code_bounds p l)
unfolding folded
list_stands h [] = h
list_stands {s} {p} h (v ∷ l) = list_stands {s = inserted s v} {p = plain.inserted code_bounds p v} (inserted-stands h refl) l

pub all-stands : {s : VertexSet} {p : ℕ → Bool} → Stands s p → {l m : List ℕ} → l ≡ m → Stands (set_with_all s l) (plain.set_with_all code_bounds p m)
all-stands {s} {p} h {l} e = subst (λ (m : List ℕ). Stands (set_with_all s l) (plain.set_with_all code_bounds p m)) e (list_stands h l)

pub set_stands : {l m : List ℕ} → l ≡ m → Stands (set_of l) (plain.set_of code_bounds m)
set_stands e = all-stands empty_stands e

-- ---- neighbours

pub near-stands : {rows : List ℕ} {adj : ℕ → ℕ → Bool} → Draws rows adj → {s : VertexSet} {p : ℕ → Bool} → Stands s p → Stands (near rows s) (plain.near code_bounds adj p)
near-stands {rows} d {s} h = record {
  sized = sized_near rows d.words s;
  same = fun_ext (λ w. same_test _ _ (into w) (back w)) ∙ (λ i. plain.near code_bounds (d.same i) (h.same i));
}
  where
    into : (w : ℕ) → On (near rows s) w → plain.near code_bounds (adjacent_in rows) (has s.words) w ≡ true
    into w e =
        let r = near_on rows s w e in
        true_any (λ v. has s.words v && adjacent_in rows v w) (below capacity) r.0 (below_in capacity r.0 (on_low s r.0 h.sized r.1)) (λ i. r.1 i && r.2 i)

    back : (w : ℕ) → plain.near code_bounds (adjacent_in rows) (has s.words) w ≡ true → On (near rows s) w
    back w e =
        let r = any-true (λ v. has s.words v && adjacent_in rows v w) (below capacity) e in
        let k = and-true (has s.words r.0) (adjacent_in rows r.0 w) r.2 in
        on_near rows s r.0 w h.sized k.0 k.1

-- ---- what is asked of sets

module _ {s : VertexSet} {p : ℕ → Bool} (h : Stands s p) where
  pub members-from : (v : ℕ) → members_from v s ≡ plain.members_from code_bounds v p
  members-from v = λ i. plain.members_from code_bounds v (h.same i)

  pub members-same : members s ≡ plain.members code_bounds p
  members-same = members-from 0

  pub count_same : count s.words ≡ plain.count code_bounds p
  count_same = sym (members-count s h.sized) ∙ ap length members-same

  next-same : {v w : ℕ} → v ≡ w → next s.words v ≡ plain.next code_bounds p w
  next-same e = λ i. first_from (h.same i) (64 * h.sized.size i) (64 * h.sized.size i - e i) (e i)

  pub least-same : least s ≡ plain.least code_bounds p
  least-same = next-same refl

  pub after_same : {v w : ℕ} → v ≡ w → next_after s v ≡ plain.next_after code_bounds p w
  after_same e = next-same (λ i. e i + 1)

  pub empty-same : empty s ≡ plain.empty code_bounds p
  empty-same = go (empty s) refl ∙ (λ i. plain.empty code_bounds (h.same i))
    where
      no_member : empty s ≡ true → any (has s.words) (below capacity) ≡ false
      no_member e = ⊎_elim (λ k. let r = any-true (has s.words) (below capacity) k in absurd (empty-none s h.sized e r.0 r.2)) (λ k. k) (bool? (any (has s.words) (below capacity)))

      member : (x : ℕ) × On s x → any (has s.words) (below capacity) ≡ true
      member r = true_any (has s.words) (below capacity) r.0 (below_in capacity r.0 (on_low s r.0 h.sized r.1)) r.1

      go : (t : Bool) → empty s ≡ t → t ≡ plain.empty code_bounds (has s.words)
      go true e = sym (ap not (no_member e))
      go false e = sym (ap not (member (empty-some s h.sized e)))

-- ---- tables

module _ (rows : List ℕ) (u v x y : ℕ) (l : length rows ≡ row_words) where
  -- the bit of x and y after an edge more
  bit_joined : u < capacity → v < capacity → y < capacity
      → has (joined rows (u, v)) (x * capacity + y) ≡ has rows (x * capacity + y) || (is_pair (u, v) x y || is_pair (v, u) x y)
  bit_joined hu hv hy =
      has_both rows (u, v) l hu hv (x * capacity + y)
      ∙ (λ i. has rows (x * capacity + y) || (same_bit x y (u, v) hy hv i || same_bit x y (v, u) hy hu i))

  -- no edge of vertices has an end that is none
  past : u < capacity → v < capacity → (x < capacity → y < capacity → ⊥) → is_pair (u, v) x y || is_pair (v, u) x y ≡ false
  past hu hv out = ⊎_elim (λ k. absurd (⊎_elim (ends u v hu hv) (ends v u hv hu) (or-true (is_pair (u, v) x y) (is_pair (v, u) x y) k))) (λ k. k) (bool? (is_pair (u, v) x y || is_pair (v, u) x y))
    where
      ends : (a c : ℕ) → a < capacity → c < capacity → is_pair (a, c) x y ≡ true → ⊥
      ends a c ha hc e = let r = and-true (eqb a x) (eqb c y) e in out (omega (arith, eqb-true a x r.0)) (omega (arith, eqb-true c y r.1))

  edge-joined : adjacent_in (joined_rows rows u v) x y ≡ plain.joined code_bounds (adjacent_in rows) u v x y
  edge-joined = go (ltb u capacity) refl (ltb v capacity) refl (ltb x capacity) refl (ltb y capacity) refl
    where
      go : (a : Bool) → ltb u capacity ≡ a → (c : Bool) → ltb v capacity ≡ c → (d : Bool) → ltb x capacity ≡ d → (e : Bool) → ltb y capacity ≡ e
          → d && (e && has (cond (a && c) (joined rows (u, v)) rows) (x * capacity + y)) ≡ (d && (e && has rows (x * capacity + y))) || ((a && c) && (is_pair (u, v) x y || is_pair (v, u) x y))
      go true hu true hv true hx true hy = bit_joined (ltb-true u capacity hu) (ltb-true v capacity hv) (ltb-true y capacity hy)
      go true hu true hv true hx false hy = sym (past (ltb-true u capacity hu) (ltb-true v capacity hv) (λ i j. omega (arith, ltb-false y capacity hy)))
      go true hu true hv false hx e hy = sym (past (ltb-true u capacity hu) (ltb-true v capacity hv) (λ i j. omega (arith, ltb-false x capacity hx)))
      go true hu false hv d hx e hy = sym (or-false _)
      go false hu c hv d hx e hy = sym (or-false _)

path-drawn : {rows : List ℕ} {adj : ℕ → ℕ → Bool} → length rows ≡ row_words → Draws rows adj → (flat : List ℕ) → Draws (marked rows flat) (plain.marked code_bounds adj flat)
unfolding marked plain.marked
path-drawn l d [] = d
path-drawn l d (u ∷ []) = d
path-drawn {rows} {adj} l d (u ∷ (v ∷ flat)) = path-drawn {rows = joined_rows rows u v} {adj = plain.joined code_bounds adj u v} (marked-size rows (u ∷ (v ∷ [])) l) joins (v ∷ flat)
  where
    joins : Draws (joined_rows rows u v) (plain.joined code_bounds adj u v)
    joins = record {
      words = marked-words rows (u ∷ (v ∷ [])) d.words;
      same = fun_ext (λ x. fun_ext (λ y. edge-joined rows u v x y l)) ∙ (λ i. plain.joined code_bounds (d.same i) u v);
    }

-- THE TABLE OF A LIST OF PATHS
pub marked-drawn : {l m : List ℕ} → l ≡ m → Draws (marked bare_rows l) (plain.marked code_bounds plain.bare m)
marked-drawn {l} e = subst (λ (m : List ℕ). Draws (marked bare_rows l) (plain.marked code_bounds plain.bare m)) e (path-drawn (length-replicate {A = ℕ} row_words 0) no_edges l)
  where
    no_edge : (a c t : Bool) → t ≡ false → a && (c && t) ≡ false
    no_edge true true t h = h
    no_edge true false t h = refl
    no_edge false c t h = refl

    no_edges : Draws bare_rows plain.bare
    no_edges = record {
      words = λ i. rw (zeros-at row_words i) (lit< tt);
      same = fun_ext (λ x. fun_ext (λ y. no_edge (ltb x capacity) (ltb y capacity) (has bare_rows (x * capacity + y)) (has-empty row_words (x * capacity + y))));
    }
