-- The table of listed paths: rows in which neighbours on them are joined. It holds the edges that the paths use, and no other.
use Prim.Native.Nat.{ℕ, ◌+◌, ◌*◌, ◌/◌, ◌<◌}
use mathlib.Core.Path.{◌≡◌, refl, sym, ap, subst, ◌∙◌}
use mathlib.Core.Bool.{Bool, true, false, cond, ◌&&◌, ◌||◌}
use mathlib.Core.Logic.{◌⊎◌, inl, inr, ⊎_elim, ⊎_map}
use mathlib.Core.List.{List, [], ◌∷◌, ◌++◌}
use native.Mathlib.Nat.{mod-lt}
use native.Mathlib.Omega.{arith}
use lib.Dec.{eqb, ltb, lit<}
use lib.Pow.{pow-lt}
use lib.Bits.{or_lt}
use lib.ListN.{length, length-set, length-replicate}
use borrow.Author.Tests.{eqb-true, eq-eqb, ltb-true, ltb-false, lt-ltb}
use Rattle.vertexset.specs.Set.{Words, has, with_bit, without_bit, capacity}
use Rattle.vertexset.proofs.Laws.{has-empty, zeros-at}
use Rattle.graph.specs.Rows.{adjacent_in, row_words, bare_rows, joined, joined_rows, parted_rows}
use Rattle.reading.proofs.Adjacency.{has_both, same_bit}
use Rattle.connectivity.specs.Lists.{In}
use Rattle.connectivity.specs.Graph.{is_pair}
use Rattle.connectivity.specs.Path.{Path, edge, edges_along, used_edges}
use Rattle.connectivity.proofs.Lists.{clash, or-true, true_or, and-true, in_append, in_left, in_right, in_single}
use Rattle.connectivity.proofs.Paths.{SamePair, edge_same, edge-comm}
use Rattle.construction.specs.Start.{marked}
use Rattle.construction.proofs.Basics.{Drawn, flatten}
use Rattle.construction.proofs.SetLaws.{set_words, less-lt}

-- u stands right before v in the list
abbrev pub Beside : List ℕ → ℕ → ℕ → Type 0
Beside [] u v = ⊥
Beside (a ∷ []) u v = ⊥
Beside (a ∷ (b ∷ l)) u v = ((u ≡ a) × (v ≡ b)) ⊎ Beside (b ∷ l) u v

-- ---- one edge more

pub words_bit : (ws : List ℕ) (v : ℕ) → Words ws → Words (with_bit ws v)
words_bit ws v h = set_words ws (v / 64) _ h (or_lt 64 _ _ (h (v / 64)) (pow-lt (mod-lt v (lit< tt))))

two_size : (rows : List ℕ) (a b : ℕ) → length rows ≡ row_words → length (joined_rows rows a b) ≡ row_words
two_size rows a b l = go (ltb a capacity && ltb b capacity)
  where
    go : (t : Bool) → length (cond t (joined rows (a, b)) rows) ≡ row_words
    go true = simp length-set l
    go false = l

pub two_words : (rows : List ℕ) (a b : ℕ) → Words rows → Words (joined_rows rows a b)
two_words rows a b h = go (ltb a capacity && ltb b capacity)
  where
    go : (t : Bool) → Words (cond t (joined rows (a, b)) rows)
    go true = words_bit (with_bit rows (a * capacity + b)) (b * capacity + a) (words_bit rows (a * capacity + b) h)
    go false = h

-- the bit of x and y
abbrev bit_of : ℕ → ℕ → ℕ
bit_of x y = x * capacity + y

is_pair_lem : (a b x y : ℕ) → is_pair (a, b) x y ≡ true → (x ≡ a) × (y ≡ b)
is_pair_lem a b x y h = let r = and-true (eqb a x) (eqb b y) h in (sym (eqb-true a x r.0), sym (eqb-true b y r.1))

has-two : (rows : List ℕ) (a b x y : ℕ) → length rows ≡ row_words → a < capacity → b < capacity → y < capacity
    → has (joined rows (a, b)) (bit_of x y) ≡ has rows (bit_of x y) || (is_pair (a, b) x y || is_pair (b, a) x y)
has-two rows a b x y l ha hb hy =
    has_both rows (a, b) l ha hb (bit_of x y)
    ∙ ap (λ (t : Bool). has rows (bit_of x y) || (t || eqb (bit_of x y) (b * capacity + a))) (same_bit x y (a, b) hy hb)
    ∙ ap (λ (t : Bool). has rows (bit_of x y) || (is_pair (a, b) x y || t)) (same_bit x y (b, a) hy ha)

module _ (rows : List ℕ) (a b x y : ℕ) (l : length rows ≡ row_words) (hx : x < capacity) (hy : y < capacity) where
  two_in : has (joined_rows rows a b) (bit_of x y) ≡ true → (has rows (bit_of x y) ≡ true) ⊎ SamePair x y a b
  two_in = go (ltb a capacity) refl (ltb b capacity) refl
    where
      go : (p : Bool) → ltb a capacity ≡ p → (q : Bool) → ltb b capacity ≡ q → has (cond (p && q) (joined rows (a, b)) rows) (bit_of x y) ≡ true → (has rows (bit_of x y) ≡ true) ⊎ SamePair x y a b
      go true p true q h = ⊎_map (λ k. k) (λ k. ⊎_elim (λ j. inl (is_pair_lem a b x y j)) (λ j. inr (is_pair_lem b a x y j)) (or-true (is_pair (a, b) x y) (is_pair (b, a) x y) k))
          (or-true (has rows (bit_of x y)) (is_pair (a, b) x y || is_pair (b, a) x y) (sym (has-two rows a b x y l (ltb-true _ _ p) (ltb-true _ _ q) hy) ∙ h))
      go true p false q h = inl h
      go false p q e h = inl h

  in_two : (has rows (bit_of x y) ≡ true) ⊎ SamePair x y a b → has (joined_rows rows a b) (bit_of x y) ≡ true
  in_two = go (ltb a capacity) refl (ltb b capacity) refl
    where
      or_left : (s t : Bool) → s ≡ true → s || t ≡ true
      or_left s t e = rw e

      out : (a < capacity → b < capacity → ⊥) → SamePair x y a b → ⊥
      out f (inl e) = f (omega arith) (omega arith)
      out f (inr e) = f (omega arith) (omega arith)

      same : SamePair x y a b → is_pair (a, b) x y || is_pair (b, a) x y ≡ true
      same (inl e) = or_left (is_pair (a, b) x y) (is_pair (b, a) x y) (rw (eq-eqb a x (sym e.0), eq-eqb b y (sym e.1)))
      same (inr e) = true_or (is_pair (a, b) x y) (is_pair (b, a) x y) (rw (eq-eqb b x (sym e.0), eq-eqb a y (sym e.1)))

      go : (p : Bool) → ltb a capacity ≡ p → (q : Bool) → ltb b capacity ≡ q → (has rows (bit_of x y) ≡ true) ⊎ SamePair x y a b → has (cond (p && q) (joined rows (a, b)) rows) (bit_of x y) ≡ true
      go true p true q h = has-two rows a b x y l (ltb-true _ _ p) (ltb-true _ _ q) hy ∙ ⊎_elim (or_left (has rows (bit_of x y)) (is_pair (a, b) x y || is_pair (b, a) x y)) (λ k. true_or (has rows (bit_of x y)) (is_pair (a, b) x y || is_pair (b, a) x y) (same k)) h
      go true p false q h = ⊎_elim (λ k. k) (λ k. absurd (out (λ i j. omega (arith, ltb-false b capacity q)) k)) h
      go false p q e h = ⊎_elim (λ k. k) (λ k. absurd (out (λ i j. omega (arith, ltb-false a capacity p)) k)) h

-- ---- one edge fewer

words_unbit : (ws : List ℕ) (v : ℕ) → Words ws → Words (without_bit ws v)
words_unbit ws v h = set_words ws (v / 64) _ h (less-lt _ _ (h (v / 64)) (pow-lt (mod-lt v (lit< tt))))

pub parted_words : (rows : List ℕ) (a b : ℕ) → Words rows → Words (parted_rows rows a b)
parted_words rows a b h = go (ltb a capacity && ltb b capacity)
  where
    go : (t : Bool) → Words (cond t (without_bit (without_bit rows (a * capacity + b)) (b * capacity + a)) rows)
    go true = words_unbit (without_bit rows (a * capacity + b)) (b * capacity + a) (words_unbit rows (a * capacity + b) h)
    go false = h

-- ---- all neighbours of a list

pub marked-size : (rows flat : List ℕ) → length rows ≡ row_words → length (marked rows flat) ≡ row_words
unfolding marked
marked-size rows [] l = l
marked-size rows (a ∷ []) l = l
marked-size rows (a ∷ (b ∷ f)) l = marked-size (joined_rows rows a b) (b ∷ f) (two_size rows a b l)

pub marked-words : (rows flat : List ℕ) → Words rows → Words (marked rows flat)
unfolding marked
marked-words rows [] h = h
marked-words rows (a ∷ []) h = h
marked-words rows (a ∷ (b ∷ f)) h = marked-words (joined_rows rows a b) (b ∷ f) (two_words rows a b h)

marked-in : (rows flat : List ℕ) (x y : ℕ) → length rows ≡ row_words → x < capacity → y < capacity → has (marked rows flat) (bit_of x y) ≡ true
    → (has rows (bit_of x y) ≡ true) ⊎ (Beside flat x y ⊎ Beside flat y x)
unfolding marked
marked-in rows [] x y l hx hy h = inl h
marked-in rows (a ∷ []) x y l hx hy h = inl h
marked-in rows (a ∷ (b ∷ f)) x y l hx hy h =
    ⊎_elim (λ k. ⊎_map (λ j. j) (λ (j : SamePair x y a b). ⊎_map inl (λ e. inl (e.1, e.0)) j) (two_in rows a b x y l hx hy k)) (λ k. inr (⊎_map inr inr k))
    (marked-in (joined_rows rows a b) (b ∷ f) x y (two_size rows a b l) hx hy h)

in_marked : (rows flat : List ℕ) (x y : ℕ) → length rows ≡ row_words → x < capacity → y < capacity → (has rows (bit_of x y) ≡ true) ⊎ (Beside flat x y ⊎ Beside flat y x)
    → has (marked rows flat) (bit_of x y) ≡ true
unfolding marked
in_marked rows [] x y l hx hy (inl h) = h
in_marked rows [] x y l hx hy (inr (inl h)) = absurd h
in_marked rows [] x y l hx hy (inr (inr h)) = absurd h
in_marked rows (a ∷ []) x y l hx hy (inl h) = h
in_marked rows (a ∷ []) x y l hx hy (inr (inl h)) = absurd h
in_marked rows (a ∷ []) x y l hx hy (inr (inr h)) = absurd h
in_marked rows (a ∷ (b ∷ f)) x y l hx hy h = in_marked (joined_rows rows a b) (b ∷ f) x y (two_size rows a b l) hx hy (go h)
  where
    two : (has rows (bit_of x y) ≡ true) ⊎ SamePair x y a b → has (joined_rows rows a b) (bit_of x y) ≡ true
    two = in_two rows a b x y l hx hy

    go : (has rows (bit_of x y) ≡ true) ⊎ (Beside (a ∷ (b ∷ f)) x y ⊎ Beside (a ∷ (b ∷ f)) y x) → (has (joined_rows rows a b) (bit_of x y) ≡ true) ⊎ (Beside (b ∷ f) x y ⊎ Beside (b ∷ f) y x)
    go (inl h) = inl (two (inl h))
    go (inr (inl (inl e))) = inl (two (inr (inl e)))
    go (inr (inl (inr k))) = inr (inl k)
    go (inr (inr (inl e))) = inl (two (inr (inr (e.1, e.0))))
    go (inr (inr (inr k))) = inr (inr k)

-- THE TABLE OF A LIST: u and v are vertices and neighbours in it, in one of the two orders.
pub marked-law : (flat : List ℕ) (u v : ℕ) → adjacent_in (marked bare_rows flat) u v ≡ true → (u < capacity) × (v < capacity) × (Beside flat u v ⊎ Beside flat v u)
marked-law flat u v h =
    let a = and-true (ltb u capacity) (ltb v capacity && has (marked bare_rows flat) (bit_of u v)) h in
    let b = and-true (ltb v capacity) (has (marked bare_rows flat) (bit_of u v)) a.1 in
    let hu = ltb-true u capacity a.0 in
    let hv = ltb-true v capacity b.0 in
    (hu, hv, ⊎_elim (λ k. absurd (clash k (has-empty row_words (bit_of u v)))) (λ k. k) (marked-in bare_rows flat u v (length-replicate {A = ℕ} row_words 0) hu hv b.1))

pub law_marked : (flat : List ℕ) (u v : ℕ) → u < capacity → v < capacity → Beside flat u v ⊎ Beside flat v u → adjacent_in (marked bare_rows flat) u v ≡ true
law_marked flat u v hu hv h = rw (lt-ltb u capacity hu, lt-ltb v capacity hv) (in_marked bare_rows flat u v (length-replicate {A = ℕ} row_words 0) hu hv (inr h))

-- ---- the table of paths: no edge has a stop as its end, so nothing is joined from one path to the next

same_edge : (x y a b : ℕ) → (x ≡ a) × (y ≡ b) → edge x y ≡ edge a b
same_edge x y a b e = rw (e.0, e.1)

beside_path : (s : ℕ) (l : List ℕ) (t : ℕ) (ps : List Path) (x y : ℕ) → y < capacity → Beside (s ∷ ((l ++ (t ∷ [])) ++ flatten ps)) x y → In (edge x y) (edges_along s l t) ⊎ Beside (flatten ps) x y
beside_path s [] t [] x y hy (inl e) = inl (inl (same_edge x y s t e))
beside_path s [] t [] x y hy (inr h) = absurd h
beside_path s [] t (P ∷ ps) x y hy (inl e) = inl (inl (same_edge x y s t e))
beside_path s [] t (P ∷ ps) x y hy (inr (inl e)) = absurd (omega (arith, e.1))
beside_path s [] t (P ∷ ps) x y hy (inr (inr h)) = inr h
beside_path s (a ∷ l) t ps x y hy (inl e) = inl (inl (same_edge x y s a e))
beside_path s (a ∷ l) t ps x y hy (inr h) = ⊎_map inr (λ k. k) (beside_path a l t ps x y hy h)

beside_used : (ps : List Path) (x y : ℕ) → x < capacity → y < capacity → Beside (flatten ps) x y → In (edge x y) (used_edges ps)
beside_used [] x y hx hy h = absurd h
beside_used (P ∷ ps) x y hx hy (inl e) = absurd (omega (arith, e.0))
beside_used (P ∷ ps) x y hx hy (inr h) = ⊎_elim (in_left (edge x y) (edges_along P.s P.inner P.t) (used_edges ps)) (λ k. in_right (edge x y) (edges_along P.s P.inner P.t) (used_edges ps) (beside_used ps x y hx hy k))
    (beside_path P.s P.inner P.t ps x y hy h)

abbrev BesideBoth : List ℕ → ℕ → ℕ → Type 0
BesideBoth l x y = Beside l x y ⊎ Beside l y x

here_both : (a b : ℕ) (l : List ℕ) (x y : ℕ) → edge x y ≡ edge a b → BesideBoth (a ∷ (b ∷ l)) x y
here_both a b l x y e = ⊎_elim (λ k. inl (inl k)) (λ k. inr (inl (k.1, k.0))) (edge_same x y a b e)

path-beside : (s : ℕ) (l : List ℕ) (t : ℕ) (m : List ℕ) (x y : ℕ) → In (edge x y) (edges_along s l t) → BesideBoth (s ∷ ((l ++ (t ∷ [])) ++ m)) x y
path-beside s [] t m x y h = here_both s t m x y (in_single (edge x y) (edge s t) h)
path-beside s (a ∷ l) t m x y (inl e) = here_both s a ((l ++ (t ∷ [])) ++ m) x y e
path-beside s (a ∷ l) t m x y (inr h) = ⊎_map inr inr (path-beside a l t m x y h)

beside_behind : (s : ℕ) (l : List ℕ) (t : ℕ) (ps : List Path) (x y : ℕ) → Beside (flatten ps) x y → Beside (s ∷ ((l ++ (t ∷ [])) ++ flatten ps)) x y
beside_behind s [] t [] x y h = absurd h
beside_behind s [] t (P ∷ ps) x y h = inr (inr h)
beside_behind s (a ∷ l) t ps x y h = inr (beside_behind a l t ps x y h)

used_beside : (ps : List Path) (x y : ℕ) → In (edge x y) (used_edges ps) → BesideBoth (flatten ps) x y
used_beside [] x y h = absurd h
used_beside (P ∷ ps) x y h = ⊎_elim (λ k. ⊎_map inr inr (path-beside P.s P.inner P.t (flatten ps) x y k))
    (λ k. ⊎_map (λ j. inr (beside_behind P.s P.inner P.t ps x y j)) (λ j. inr (beside_behind P.s P.inner P.t ps y x j)) (used_beside ps x y k))
    (in_append (edge x y) (edges_along P.s P.inner P.t) (used_edges ps) h)

-- THE TABLE OF PATHS HOLDS THE EDGES THAT THEY USE.
abbrev pub table_of : List Path → List ℕ
table_of ps = marked bare_rows (flatten ps)

pub table_used : (ps : List Path) (u v : ℕ) → adjacent_in (table_of ps) u v ≡ true → (u < capacity) × (v < capacity) × In (edge u v) (used_edges ps)
table_used ps u v h =
    let r = marked-law (flatten ps) u v h in
    (r.0, r.1, ⊎_elim (beside_used ps u v r.0 r.1) (λ k. subst (λ (e : ℕ × ℕ). In e (used_edges ps)) (edge-comm v u) (beside_used ps v u r.1 r.0 k)) r.2)

pub used_table : (ps : List Path) (u v : ℕ) → u < capacity → v < capacity → In (edge u v) (used_edges ps) → adjacent_in (table_of ps) u v ≡ true
used_table ps u v hu hv h = law_marked (flatten ps) u v hu hv (used_beside ps u v h)

-- it draws a graph, where no path has a vertex twice in a row
pub table_drawn : (ps : List Path) → ((u : ℕ) → ¬ In (edge u u) (used_edges ps)) → Drawn (table_of ps) capacity
table_drawn ps differ = record {
  words = marked-words bare_rows (flatten ps) (λ i. rw (zeros-at row_words i) (lit< tt));
  size = marked-size bare_rows (flatten ps) (length-replicate {A = ℕ} row_words 0);
  low = omega arith;
  simple = record {
    big = omega arith;
    symmetric = λ u v h. let r = table_used ps u v h in used_table ps v u r.1 r.0 (subst (λ (e : ℕ × ℕ). In e (used_edges ps)) (edge-comm u v) r.2);
    irreflexive = λ u h. differ u (table_used ps u u h).2;
    low = λ u v h. (table_used ps u v h).0;
  };
}
