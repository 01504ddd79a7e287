-- Two bounds side by side, each above every vertex: none is another number on each side, and all else is the same.
use Prim.Native.Nat.{ℕ, zero, suc, ◌+◌, ◌-◌, ◌<◌, ◌≤◌}
use mathlib.Core.Path.{◌≡◌, refl, sym, ap, subst, fun_ext, ◌∙◌}
use mathlib.Core.Bool.{Bool, true, false, cond, not, ◌&&◌, ◌||◌, or-false}
use mathlib.Core.Logic.{◌⊎◌, inl, inr, ⊎_elim}
use mathlib.Core.List.{List, [], ◌∷◌, ◌++◌}
use native.Mathlib.Omega.{arith}
use lib.Dec.{eqb, ltb, leb}
use lib.ListN.{length, get_or, take, drop}
use borrow.Author.Tests.{ltb-true, eqb-true, eq-eqb, ne_eqb, lt-ltb, le-ltb}
use Rattle.record.specs.Read.{folded}
use Rattle.vertexset.specs.Set.{first_from}
use Rattle.connectivity.specs.Lists.{In, select, up_from, below, any}
use Rattle.connectivity.specs.Graph.{is_pair}
use Rattle.connectivity.proofs.Lists.{bool?, clash, or-true, and-true, any-true}
use Rattle.construction.specs.Sets.{last_of, place_of, reversed}
use Rattle.construction.specs.Steps.{segment, pair_place, turned}
use Rattle.construction.specs.Construction.{Bounds, VertexSet, Cut, empty_set, minus, common, bare, no_cut, inserted, single, pair, set_with_all, set_of, members_from, members, count, least, next_after, empty, is_cut, near, add_path, joined, marked, put_in, length_on, lengthened}

-- two bounds that differ in nothing but how many vertices there may be
pub record Sides : Type 0 where
  pub a : Bounds
  pub b : Bounds
  pub n : ℕ
  pub some : 0 < n
  pub low_a : n ≤ a.vertices
  pub low_b : n ≤ b.vertices
  pub numbers : a.numbers ≡ b.numbers

-- the same vertex, or none on both sides
pub data AlikeNumber (s : Sides) (x y : ℕ) : Type 0 where
  vertex : x ≡ y → x < s.n → AlikeNumber s x y
  none : x ≡ s.a.vertices → y ≡ s.b.vertices → AlikeNumber s x y

pub data AlikeList (s : Sides) : List ℕ → List ℕ → Type 0 where
  end : AlikeList s [] []
  more : {x y : ℕ} {l m : List ℕ} → AlikeNumber s x y → AlikeList s l m → AlikeList s (x ∷ l) (y ∷ m)

pub record AlikeSet (s : Sides) (p q : VertexSet) : Type 0 where
  pub same : p ≡ q
  pub low : (x : ℕ) → p x ≡ true → x < s.n

pub record AlikeTable (s : Sides) (t u : ℕ → ℕ → Bool) : Type 0 where
  pub same : t ≡ u
  pub low : (x y : ℕ) → t x y ≡ true → (x < s.n) × (y < s.n)

pub record AlikeCut (s : Sides) (c d : Cut) : Type 0 where
  pub removed : AlikeSet s c.removed d.removed
  pub side : AlikeSet s c.side d.side

-- two choices by the same test, which is known in each
pub known_choice : {A B : Type 0} (R : A → B → Type 0) {t u : Bool} {x y : A} {z w : B} → t ≡ u → (t ≡ true → R x z) → (t ≡ false → R y w) → R (cond t x y) (cond u z w)
known_choice R {t} {u} {x} {y} {z} {w} e h k = subst (λ (c : Bool). R (cond t x y) (cond c z w)) e (go t refl)
  where
    go : (c : Bool) → t ≡ c → R (cond c x y) (cond c z w)
    go true = h
    go false = k

pub off_one : {b : Bool} → (b ≡ true → ⊥) → b ≡ false
off_one {b} h = ⊎_elim (λ e. absurd (h e)) (λ e. e) (bool? b)

-- ---- numbers

module _ {s : Sides} where
  pub zero_alike : AlikeNumber s 0 0
  zero_alike = vertex refl s.some

  same_test : {x y u v : ℕ} → AlikeNumber s x y → AlikeNumber s u v → eqb x u ≡ eqb y v
  same_test (vertex e h) (vertex f k) = λ i. eqb (e i) (f i)
  same_test {x} {y} {u} {v} (vertex e h) (none f k) = ne_eqb x u (λ z. omega arith) ∙ sym (ne_eqb y v (λ z. omega arith))
  same_test {x} {y} {u} {v} (none e h) (vertex f k) = ne_eqb x u (λ z. omega arith) ∙ sym (ne_eqb y v (λ z. omega arith))
  same_test {x} {y} {u} {v} (none e h) (none f k) = eq-eqb x u (omega arith) ∙ sym (eq-eqb y v (omega arith))

  pub vertex-test : {x y : ℕ} → AlikeNumber s x y → ltb x s.a.vertices ≡ ltb y s.b.vertices
  vertex-test {x} {y} (vertex e h) = lt-ltb x s.a.vertices (omega arith) ∙ sym (lt-ltb y s.b.vertices (omega arith))
  vertex-test {x} {y} (none e h) = le-ltb x s.a.vertices (omega arith) ∙ sym (le-ltb y s.b.vertices (omega arith))

  -- ---- sets

  pub off : {p q : VertexSet} → AlikeSet s p q → (x : ℕ) → s.n ≤ x → p x ≡ false
  off h x k = off_one (λ e. omega (arith, h.low x e))

  pub member_alike : {p q : VertexSet} → AlikeSet s p q → {x y : ℕ} → AlikeNumber s x y → p x ≡ q y
  member_alike h (vertex e k) = λ i. h.same i (e i)
  member_alike {p} {q} h {x} {y} (none e k) = off h x (omega arith) ∙ sym (off h y (omega arith)) ∙ (λ i. h.same i y)

  pub empty-alike : AlikeSet s empty_set empty_set
  empty-alike = record { same = refl; low = λ x e. absurd (clash e refl) }

  pub minus-alike : {p q u v : VertexSet} → AlikeSet s p q → AlikeSet s u v → AlikeSet s (minus p u) (minus q v)
  minus-alike {p} {q} {u} h k = record { same = λ i. minus (h.same i) (k.same i); low = λ x e. h.low x (and-true (p x) (not (u x)) e).0 }

  pub common-alike : {p q u v : VertexSet} → AlikeSet s p q → AlikeSet s u v → AlikeSet s (common p u) (common q v)
  common-alike {p} {q} {u} h k = record { same = λ i. common (h.same i) (k.same i); low = λ x e. h.low x (and-true (p x) (u x) e).0 }

  pub row_alike : {t u : ℕ → ℕ → Bool} → AlikeTable s t u → (v : ℕ) → AlikeSet s (t v) (u v)
  row_alike h v = record { same = λ i. h.same i v; low = λ x e. (h.low v x e).1 }

-- no vertex, no new member
none-inserted : (b : Bounds) (p : VertexSet) (v : ℕ) → b.vertices ≤ v → inserted b p v ≡ p
none-inserted b p v h = (λ i x. p x || (le-ltb v b.vertices h i && eqb x v)) ∙ fun_ext (λ x. or-false (p x))

-- a member was there or is the new one
pub inserted-is : (b : Bounds) (p : VertexSet) (v x : ℕ) → inserted b p v x ≡ true → (p x ≡ true) ⊎ ((v < b.vertices) × (x ≡ v))
inserted-is b p v x e = ⊎_elim inl (λ k. let r = and-true (ltb v b.vertices) (eqb x v) k in inr (ltb-true v b.vertices r.0, eqb-true x v r.1)) (or-true (p x) (ltb v b.vertices && eqb x v) e)

module _ {s : Sides} where
  pub inserted-alike : {p q : VertexSet} → AlikeSet s p q → {v w : ℕ} → AlikeNumber s v w → AlikeSet s (inserted s.a p v) (inserted s.b q w)
  inserted-alike {p} {q} h {v} {w} (vertex e k) = record {
    same = λ i x. h.same i x || (vertex-test {s = s} (vertex e k) i && eqb x (e i));
    low = λ x y. ⊎_elim (h.low x) (λ z. omega arith) (inserted-is s.a p v x y);
  }
  inserted-alike {p} {q} h {v} {w} (none e k) = record {
    same = none-inserted s.a p v (omega arith) ∙ h.same ∙ sym (none-inserted s.b q w (omega arith));
    low = λ x y. ⊎_elim (h.low x) (λ z. absurd (omega arith)) (inserted-is s.a p v x y);
  }

  pub single-alike : {v w : ℕ} → AlikeNumber s v w → AlikeSet s (single s.a v) (single s.b w)
  single-alike h = inserted-alike empty-alike h

  pub pair-alike : {u v w z : ℕ} → AlikeNumber s u w → AlikeNumber s v z → AlikeSet s (pair s.a u v) (pair s.b w z)
  pair-alike h k = inserted-alike (single-alike h) k

  pub all_alike : {p q : VertexSet} → AlikeSet s p q → {l m : List ℕ} → AlikeList s l m → AlikeSet s (set_with_all s.a p l) (set_with_all s.b q m)
  unfolding folded
  all_alike h end = h
  all_alike {p} {q} h (more {x} {y} e k) = all_alike {p = inserted s.a p x} {q = inserted s.b q y} (inserted-alike h e) k

  pub set_alike : {l m : List ℕ} → AlikeList s l m → AlikeSet s (set_of s.a l) (set_of s.b m)
  set_alike h = all_alike empty-alike h

-- ---- what is asked of a set whose members are below n: it does not matter how far beyond n one looks

module _ (p : VertexSet) (n : ℕ) (low : (x : ℕ) → p x ≡ true → x < n) where
  past : (v : ℕ) → n ≤ v → p v ≡ false
  past v h = off_one (λ e. omega (arith, low v e))

  select-past : (k v : ℕ) → n ≤ v → select p (up_from v k) ≡ []
  select-past zero v h = refl
  select-past (suc k) v h = rw (past v h) (select-past k (suc v) (omega arith))

  pub select-far : (k l v : ℕ) → n ≤ v + k → n ≤ v + l → select p (up_from v k) ≡ select p (up_from v l)
  select-far zero l v h j = sym (select-past l v (omega arith))
  select-far (suc k) zero v h j = select-past (suc k) v (omega arith)
  select-far (suc k) (suc l) v h j = let r = select-far k l (suc v) (omega arith) (omega arith) in λ i. cond (p v) (v ∷ r i) (r i)

  first_past : (z k v : ℕ) → n ≤ v → first_from p z k v ≡ z
  unfolding first_from
  first_past z zero v h = refl
  first_past z (suc k) v h = rw (past v h) (first_past z k (suc v) (omega arith))

any-select : (p : VertexSet) (l : List ℕ) → any p l ≡ ltb 0 (length (select p l))
any-select p [] = refl
any-select p (a ∷ l) = go (p a) (any-select p l)
  where
    go : (c : Bool) → any p l ≡ ltb 0 (length (select p l)) → c || any p l ≡ ltb 0 (length (cond c (a ∷ select p l) (select p l)))
    go true e = sym (lt-ltb 0 (suc (length (select p l))) (omega arith))
    go false e = e

module _ {s : Sides} {p q : VertexSet} (h : AlikeSet s p q) where
  pub members-from : (v : ℕ) → members_from s.a v p ≡ members_from s.b v q
  members-from v = select-far p s.n h.low (s.a.vertices - v) (s.b.vertices - v) v (omega arith) (omega arith) ∙ (λ i. members_from s.b v (h.same i))

  pub members_alike : members s.a p ≡ members s.b q
  members_alike = members-from 0

  pub count-alike : count s.a p ≡ count s.b q
  count-alike = ap length members_alike

  some_alike : any p (below s.a.vertices) ≡ any q (below s.b.vertices)
  some_alike =
      let far = select-far p s.n h.low s.a.vertices s.b.vertices 0 (omega arith) (omega arith) ∙ (λ i. select (h.same i) (below s.b.vertices)) in
      any-select p (below s.a.vertices) ∙ (λ i. ltb 0 (length (far i))) ∙ sym (any-select q (below s.b.vertices))

  pub none_left : empty s.a p ≡ empty s.b q
  none_left = ap not some_alike

  first_alike : (k l v : ℕ) → s.n ≤ v + k → s.n ≤ v + l → AlikeNumber s (first_from p s.a.vertices k v) (first_from q s.b.vertices l v)
  unfolding first_from
  first_alike k l v i j = subst (λ (r : VertexSet). AlikeNumber s (first_from p s.a.vertices k v) (first_from r s.b.vertices l v)) h.same (go k l v i j)
    where
      go : (k l v : ℕ) → s.n ≤ v + k → s.n ≤ v + l → AlikeNumber s (first_from p s.a.vertices k v) (first_from p s.b.vertices l v)
      go zero l v i j = none refl (first_past p s.n h.low s.b.vertices l v (omega arith))
      go (suc k) zero v i j = none (first_past p s.n h.low s.a.vertices (suc k) v (omega arith)) refl
      go (suc k) (suc l) v i j = known_choice (AlikeNumber s) {t = p v} refl (λ e. vertex refl (h.low v e)) (λ e. go k l (suc v) (omega arith) (omega arith))

  pub least-alike : AlikeNumber s (least s.a p) (least s.b q)
  least-alike = first_alike (s.a.vertices - 0) (s.b.vertices - 0) 0 (omega arith) (omega arith)

  pub after_alike : {v w : ℕ} → AlikeNumber s v w → AlikeNumber s (next_after s.a p v) (next_after s.b q w)
  after_alike {v} (vertex e k) = subst (λ (w : ℕ). AlikeNumber s (next_after s.a p v) (next_after s.b q w)) e (first_alike (s.a.vertices - (v + 1)) (s.b.vertices - (v + 1)) (v + 1) (omega arith) (omega arith))
  after_alike {v} {w} (none e k) =
      none (first_past p s.n h.low s.a.vertices (s.a.vertices - (v + 1)) (v + 1) (omega arith))
      (first_past q s.n (λ x z. h.low x ((λ i. h.same i x) ∙ z)) s.b.vertices (s.b.vertices - (w + 1)) (w + 1) (omega arith))

pub cut-alike : {s : Sides} {c d : Cut} → AlikeCut s c d → is_cut s.a c ≡ is_cut s.b d
cut-alike h = λ i. not (none_left h.side i)

pub no_cut_lem : {s : Sides} → AlikeCut s no_cut no_cut
no_cut_lem = record { removed = empty-alike; side = empty-alike }

-- ---- lists

-- a list of vertices is like itself
pub vertices-alike : {s : Sides} (l : List ℕ) → ((w : ℕ) → In w l → w < s.n) → AlikeList s l l
vertices-alike [] h = end
vertices-alike (v ∷ l) h = more (vertex refl (h v (inl refl))) (vertices-alike l (λ w k. h w (inr k)))

module _ {s : Sides} where
  pub length_alike : {l m : List ℕ} → AlikeList s l m → length l ≡ length m
  length_alike end = refl
  length_alike (more e h) = ap suc (length_alike h)

  pub append_alike : {l m j k : List ℕ} → AlikeList s l m → AlikeList s j k → AlikeList s (l ++ j) (m ++ k)
  append_alike end g = g
  append_alike (more e h) g = more e (append_alike h g)

  pub at_alike : {l m : List ℕ} → AlikeList s l m → (i : ℕ) → AlikeNumber s (get_or l i 0) (get_or m i 0)
  at_alike end i = zero_alike
  at_alike (more e h) zero = e
  at_alike (more e h) (suc i) = at_alike h i

  pub last_alike : {l m : List ℕ} → AlikeList s l m → AlikeNumber s (last_of l) (last_of m)
  unfolding last_of
  last_alike end = zero_alike
  last_alike (more e end) = e
  last_alike (more e (more f h)) = last_alike (more f h)

  pub take_alike : (k : ℕ) {l m : List ℕ} → AlikeList s l m → AlikeList s (take k l) (take k m)
  take_alike zero h = end
  take_alike (suc k) end = end
  take_alike (suc k) (more e h) = more e (take_alike k h)

  pub drop_alike : (k : ℕ) {l m : List ℕ} → AlikeList s l m → AlikeList s (drop k l) (drop k m)
  drop_alike zero h = h
  drop_alike (suc k) end = end
  drop_alike (suc k) (more e h) = drop_alike k h

  pub segment-alike : (i j : ℕ) {l m : List ℕ} → AlikeList s l m → AlikeList s (segment l i j) (segment m i j)
  segment-alike i j h = take_alike (j - i) (drop_alike i h)

  reversed-alike : {l m : List ℕ} → AlikeList s l m → AlikeList s (reversed l) (reversed m)
  unfolding reversed
  reversed-alike end = end
  reversed-alike (more e h) = append_alike (reversed-alike h) (more e end)

  pub turned-alike : {l m : List ℕ} {x y : ℕ} → AlikeList s l m → AlikeNumber s x y → AlikeList s (turned l x) (turned m y)
  turned-alike {l} {m} h e =
      let inner : AlikeList s (segment l 1 (length l - 1)) (segment m 1 (length m - 1)) = subst (λ (k : ℕ). AlikeList s (segment l 1 (length l - 1)) (segment m 1 (k - 1))) (length_alike h) (segment-alike 1 (length l - 1) h) in
      known_choice (AlikeList s) (same_test e (at_alike h 0)) (λ z. inner) (λ z. reversed-alike inner)

  pub place_alike : (p q : VertexSet) → ((x y : ℕ) → AlikeNumber s x y → p x ≡ q y) → {l m : List ℕ} → AlikeList s l m → place_of p l ≡ place_of q m
  unfolding place_of
  place_alike p q f end = refl
  place_alike p q f (more {x} {y} e h) = λ i. cond (f x y e i) 0 (place_alike p q f h i + 1)

  pub beside_alike : {x y u v : ℕ} → AlikeNumber s x y → AlikeNumber s u v → {l m : List ℕ} → AlikeList s l m → pair_place x u l ≡ pair_place y v m
  unfolding pair_place
  beside_alike e f end = refl
  beside_alike e f (more g end) = refl
  beside_alike e f (more g (more k h)) =
      λ i. cond ((same_test g e i && same_test k f i) || (same_test g f i && same_test k e i)) 0 (beside_alike e f (more k h) i + 1)

  -- ---- lists of paths

  pub add_alike : {l m j k : List ℕ} → AlikeList s l m → AlikeList s j k → AlikeList s (add_path s.a l j) (add_path s.b m k)
  add_alike g h = known_choice (AlikeList s) (λ i. leb (length_alike g i + suc (length_alike h i)) (s.numbers i)) (λ z. append_alike g (more (none refl refl) h)) (λ z. g)

  pub put_alike : {l m j k : List ℕ} (i : ℕ) → AlikeList s l m → AlikeList s j k → AlikeList s (put_in s.a l i j) (put_in s.b m i k)
  put_alike i g h = known_choice (AlikeList s) (λ z. leb (length_alike g z + length_alike h z) (s.numbers z)) (λ z. append_alike (take_alike i g) (append_alike h (drop_alike i g))) (λ z. g)

  -- each stop is a length on both sides
  pub lengthened-alike : {l m : List ℕ} → AlikeList s l m → lengthened s.a l ≡ lengthened s.b m
  unfolding lengthened
  lengthened-alike end = refl
  lengthened-alike {l} {m} (more {x} {y} e h) = go e (lengthened-alike h)
    where
      go : {j k : List ℕ × ℕ} {x y : ℕ} → AlikeNumber s x y → j ≡ k → length_on s.a x j ≡ length_on s.b y k
      go (vertex e k) f = let t = same_test {s = s} (vertex e k) (none refl refl) in λ i. cond (t i) ((f i).1 ∷ (f i).0, 0) (e i ∷ (f i).0, (f i).1 + 1)
      go {j} {k} {x} {y} (none e g) f = rw (eq-eqb x s.a.vertices e, eq-eqb y s.b.vertices g) (λ i. ((f i).1 ∷ (f i).0, 0))

-- ---- tables

no_join : (b : Bounds) (t : ℕ → ℕ → Bool) (u v : ℕ) → ltb u b.vertices && ltb v b.vertices ≡ false → joined b t u v ≡ t
no_join b t u v e = (λ i x y. t x y || (e i && (is_pair (u, v) x y || is_pair (v, u) x y))) ∙ fun_ext (λ x. fun_ext (λ y. or-false (t x y)))

no_left : (u v c : ℕ) → c ≤ u → ltb u c && ltb v c ≡ false
no_left u v c h = rw (le-ltb u c h)

no_right : (u v c : ℕ) → c ≤ v → ltb u c && ltb v c ≡ false
no_right u v c h = go (ltb u c) (le-ltb v c h)
  where
    go : (t : Bool) {r : Bool} → r ≡ false → t && r ≡ false
    go true e = e
    go false e = refl

kept : {s : Sides} {t r u v : ℕ → ℕ → Bool} → AlikeTable s t r → u ≡ t → v ≡ r → AlikeTable s u v
kept h d e = record { same = d ∙ h.same ∙ sym e; low = λ x y k. h.low x y (sym (λ i. d i x y) ∙ k) }

pub bare_alike : {s : Sides} → AlikeTable s bare bare
bare_alike = record { same = refl; low = λ x y e. absurd (clash e refl) }

module _ {s : Sides} where
  -- none has no neighbours
  pub row_at : {t r : ℕ → ℕ → Bool} → AlikeTable s t r → {x y : ℕ} → AlikeNumber s x y → AlikeSet s (t x) (r y)
  row_at h {x} (vertex e k) = record { same = λ i. h.same i (e i); low = (row_alike h x).low }
  row_at {t} {r} h {x} {y} (none e k) = record { same = fun_ext (λ v. past x v (omega arith) ∙ sym (past y v (omega arith)) ∙ (λ i. h.same i y v)); low = (row_alike h x).low }
    where
      past : (x v : ℕ) → s.n ≤ x → t x v ≡ false
      past x v k = off_one (λ e. omega (arith, h.low x v e))

  pub edge-alike : {t r : ℕ → ℕ → Bool} → AlikeTable s t r → {x y u v : ℕ} → AlikeNumber s x y → AlikeNumber s u v → t x u ≡ r y v
  edge-alike h e f = member_alike (row_at h e) f

  pub near-alike : {t r : ℕ → ℕ → Bool} → AlikeTable s t r → {p q : VertexSet} → AlikeSet s p q → AlikeSet s (near s.a t p) (near s.b r q)
  near-alike {t} {r} d {p} {q} h = record {
    same = fun_ext (λ w. some_alike (next-to w));
    low = λ w e. let z = any-true (λ v. p v && t v w) (below s.a.vertices) e in (d.low z.0 w (and-true (p z.0) (t z.0 w) z.2).1).1;
  }
    where
      next-to : (w : ℕ) → AlikeSet s (λ v. p v && t v w) (λ v. q v && r v w)
      next-to w = common-alike h (record { same = λ i v. d.same i v w; low = λ v e. (d.low v w e).0 })

  -- an edge more; where an end is none nothing is joined
  joined-alike : {t r : ℕ → ℕ → Bool} → AlikeTable s t r → {u v x y : ℕ} → AlikeNumber s u x → AlikeNumber s v y → AlikeTable s (joined s.a t u v) (joined s.b r x y)
  joined-alike {t} {r} h {u} {v} (vertex e k) (vertex f j) = record {
    same = let tests = vertex-test {s = s} (vertex e k) in let others = vertex-test {s = s} (vertex f j) in
        λ i x y. h.same i x y || ((tests i && others i) && (is_pair (e i, f i) x y || is_pair (f i, e i) x y));
    low = low;
  }
    where
      ends : (c d x y : ℕ) → c < s.n → d < s.n → is_pair (c, d) x y ≡ true → (x < s.n) × (y < s.n)
      ends c d x y i z g = let w = and-true (eqb c x) (eqb d y) g in let l = eqb-true c x w.0 in let m = eqb-true d y w.1 in (omega arith, omega arith)

      low : (x y : ℕ) → joined s.a t u v x y ≡ true → (x < s.n) × (y < s.n)
      low x y g = ⊎_elim (h.low x y) (λ z. ⊎_elim (ends u v x y k j) (ends v u x y j k) (or-true (is_pair (u, v) x y) (is_pair (v, u) x y) (and-true (ltb u s.a.vertices && ltb v s.a.vertices) _ z).1)) (or-true (t x y) _ g)
  joined-alike {t} {r} h {u} {v} {x} {y} (vertex e k) (none f j) = kept h (no_join s.a t u v (no_right u v s.a.vertices (omega arith))) (no_join s.b r x y (no_right x y s.b.vertices (omega arith)))
  joined-alike {t} {r} h {u} {v} {x} {y} (none e k) f = kept h (no_join s.a t u v (no_left u v s.a.vertices (omega arith))) (no_join s.b r x y (no_left x y s.b.vertices (omega arith)))

  -- THE TABLE OF A LIST OF PATHS
  pub marked-alike : {t r : ℕ → ℕ → Bool} → AlikeTable s t r → {l m : List ℕ} → AlikeList s l m → AlikeTable s (marked s.a t l) (marked s.b r m)
  unfolding marked
  marked-alike h end = h
  marked-alike h (more e end) = h
  marked-alike {t} {r} h (more {x} {y} e (more {x = x'} {y = y'} f k)) = marked-alike {t = joined s.a t x x'} {r = joined s.b r y y'} (joined-alike h e f) (more f k)
