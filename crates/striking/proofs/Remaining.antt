-- What is left of a graph's missing pairs when they are struck out. Assumes nothing.
use Prim.Native.Nat.{ℕ, ◌<◌}
use mathlib.Core.Path.{◌≡◌, refl, sym, ap, ◌∙◌}
use mathlib.Core.Logic.{◌⊎◌, ◌≢◌, inl, inr, ⊎_elim, ⊎_swap}
use mathlib.Core.Bool.{Bool, true, false, cond}
use mathlib.Core.List.{List, [], ◌∷◌, ◌++◌, append-nil}
use native.Mathlib.Omega.{arith}
use borrow.Author.Tests.{eqb-true, eqb-false, eq-eqb}
use Rattle.connectivity.specs.Lists.{In}
use Rattle.connectivity.specs.Graph.{Graph, Adj, Simple, Walk, stay, hop, listed}
use Rattle.connectivity.specs.Connectivity.{connectivity}
use Rattle.connectivity.proofs.Lists.{in_append, in_left, in_right, or-true, true_or}
use Rattle.connectivity.proofs.Edges.{EdgeBefore, AscendingEdges, listed_in, in_listed}
use Rattle.graph.proofs.Tests.{left_true}
use Rattle.reading.proofs.Pairs.{ascends_cons}
use Rattle.local.proofs.Walking.{three_connected}
use Rattle.local.proofs.Test.{connectivity-three}
use Rattle.striking.specs.MendList.{with_pairs, is_three, remaining}
use Rattle.striking.proofs.Orders.{Descending}

-- a walk in a graph with more edges
walk_more : {g h : Graph} → ((u v : ℕ) → Adj g u v → Adj h u v) → {X : List ℕ} {u v : ℕ} → Walk g X u v → Walk h X u v
walk_more f stay = stay
walk_more f (hop {u = u} {v = v} k a b j) = hop (f u v k) a b (walk_more f j)

-- pairs of the vertices, each lower one first
abbrev pub PairsBelow : ℕ → List (ℕ × ℕ) → Type 0
PairsBelow n l = (e : ℕ × ℕ) → In e l → (e.0 < e.1) × (e.1 < n)

-- a pair moves from those that are proposed to those that are kept
pub to_kept : (p : ℕ × ℕ) (proposed kept : List (ℕ × ℕ)) (x : ℕ × ℕ) → In x ((p ∷ proposed) ++ kept) → In x (proposed ++ (p ∷ kept))
to_kept p proposed kept x (inl e) = in_right x proposed (p ∷ kept) (inl e)
to_kept p proposed kept x (inr k) = ⊎_elim (in_left x proposed (p ∷ kept)) (λ j. in_right x proposed (p ∷ kept) (inr j)) (in_append x proposed kept k)

pub from_kept : (p : ℕ × ℕ) (proposed kept : List (ℕ × ℕ)) (x : ℕ × ℕ) → In x (proposed ++ (p ∷ kept)) → In x ((p ∷ proposed) ++ kept)
from_kept p proposed kept x h = go (in_append x proposed (p ∷ kept) h)
  where
    go : In x proposed ⊎ In x (p ∷ kept) → In x ((p ∷ proposed) ++ kept)
    go (inl j) = inr (in_left x proposed kept j)
    go (inr (inl e)) = inl e
    go (inr (inr j)) = inr (in_right x proposed kept j)

module _ (g : Graph) (s : Simple g) where
  pub with-simple : (l : List (ℕ × ℕ)) → PairsBelow g.n l → Simple (with_pairs g l)
  with-simple l h = record {
    big = s.big;
    symmetric = λ u v a. ⊎_elim (λ k. left_true (listed l v u) (s.symmetric u v k)) (λ k. true_or (g.adj v u) (listed l v u) (in_listed l v u (⊎_swap (listed_in l u v k)))) (or-true (g.adj u v) (listed l u v) a);
    irreflexive = λ u a. ⊎_elim (s.irreflexive u) (λ k. ⊎_elim (self u) (self u) (listed_in l u u k)) (or-true (g.adj u u) (listed l u u) a);
    low = λ u v a. ⊎_elim (s.low u v) (λ k. ⊎_elim (λ i. let r = h (u, v) i in omega arith) (λ i. (h (v, u) i).1) (listed_in l u v k)) (or-true (g.adj u v) (listed l u v) a);
  }
    where
      self : (u : ℕ) → ¬ In {A = ℕ × ℕ} (u, u) l
      self u m = omega (arith, (h (u, u) m).0)

  with-more : (l m : List (ℕ × ℕ)) → ((x : ℕ × ℕ) → In x l → In x m) → (u v : ℕ) → Adj (with_pairs g l) u v → Adj (with_pairs g m) u v
  with-more l m f u v a = ⊎_elim (left_true (listed m u v))
      (λ k. true_or (g.adj u v) (listed m u v) (in_listed m u v (⊎_elim (λ i. inl (f (u, v) i)) (λ i. inr (f (v, u) i)) (listed_in l u v k)))) (or-true (g.adj u v) (listed l u v) a)

  -- the connectivity is 3 with these pairs
  abbrev pub Three : List (ℕ × ℕ) → Type 0
  Three l = connectivity (with_pairs g l) ≡ 3

  -- MORE PAIRS DO NO HARM.
  pub three_more : (l m : List (ℕ × ℕ)) → PairsBelow g.n l → PairsBelow g.n m → ((x : ℕ × ℕ) → In x l → In x m) → Three l → Three m
  three_more l m a b f e = connectivity-three (with_pairs g m) (with-simple m b)
      (λ c d hc hd ne u v hu hv. walk_more (with-more l m f) (three_connected (with_pairs g l) (with-simple l a) e c d hc hd ne u v hu hv))

  -- m is within l, and does without q
  abbrev pub Without : List (ℕ × ℕ) → ℕ × ℕ → List (ℕ × ℕ) → Type 0
  Without l q m = (x : ℕ × ℕ) → In x m → In x l × (¬ (x ≡ q))

  -- the connectivity is 3 with all of them, and not without any one
  pub record Least (l : List (ℕ × ℕ)) : Type 0 where
    pub good : Three l
    pub tight : (q : ℕ × ℕ) → In q l → (m : List (ℕ × ℕ)) → PairsBelow g.n m → Without l q m → ¬ Three m

  -- what remains is of what was proposed, or was kept
  pub remaining-in : (proposed kept : List (ℕ × ℕ)) (x : ℕ × ℕ) → In x (remaining g proposed kept) → In x (proposed ++ kept)
  unfolding remaining
  remaining-in [] kept x h = h
  remaining-in (p ∷ proposed) kept x h = go (is_three (with_pairs g (proposed ++ kept))) (remaining-in proposed kept x) (remaining-in proposed (p ∷ kept) x) h
    where
      go : (b : Bool) → (In x (remaining g proposed kept) → In x (proposed ++ kept)) → (In x (remaining g proposed (p ∷ kept)) → In x (proposed ++ (p ∷ kept)))
          → In x (cond b (remaining g proposed kept) (remaining g proposed (p ∷ kept))) → In x ((p ∷ proposed) ++ kept)
      go true r t k = inr (r k)
      go false r t k = from_kept p proposed kept x (t k)

  -- it ascends
  pub remaining-ascends : (proposed kept : List (ℕ × ℕ)) → Descending proposed → AscendingEdges kept → ((d e : ℕ × ℕ) → In d proposed → In e kept → EdgeBefore d e) → AscendingEdges (remaining g proposed kept)
  unfolding remaining
  remaining-ascends [] kept h a f = a
  remaining-ascends (p ∷ proposed) kept h a f =
      go (is_three (with_pairs g (proposed ++ kept))) (remaining-ascends proposed kept h.1 a (λ d e m. f d e (inr m)))
      (remaining-ascends proposed (p ∷ kept) h.1 (ascends_cons p kept (λ e m. f p e (inl refl) m) a) before)
    where
      before : (d e : ℕ × ℕ) → In d proposed → In e (p ∷ kept) → EdgeBefore d e
      before d e m (inl i) = rw i (h.0 d m)
      before d e m (inr k) = f d e (inr m) k

      go : (b : Bool) → AscendingEdges (remaining g proposed kept) → AscendingEdges (remaining g proposed (p ∷ kept)) → AscendingEdges (cond b (remaining g proposed kept) (remaining g proposed (p ∷ kept)))
      go true r t = r
      go false r t = t

  abbrev Tight : List (ℕ × ℕ) → List (ℕ × ℕ) → Type 0
  Tight proposed kept = (q : ℕ × ℕ) → In q kept → (m : List (ℕ × ℕ)) → PairsBelow g.n m → Without (proposed ++ kept) q m → ¬ Three m

  -- WHAT REMAINS IS A LEAST LIST.
  pub remaining-least : (proposed kept : List (ℕ × ℕ)) → PairsBelow g.n (proposed ++ kept) → Three (proposed ++ kept) → Tight proposed kept → Least (remaining g proposed kept)
  unfolding remaining
  remaining-least [] kept h e t = record { good = e; tight = t }
  remaining-least (p ∷ proposed) kept h e t = go (is_three (with_pairs g (proposed ++ kept))) refl
      (λ k. remaining-least proposed kept (λ x m. h x (inr m)) (eqb-true _ _ k) (λ q m l b w. t q m l b (λ x j. (inr (w x j).0, (w x j).1))))
      (λ k. remaining-least proposed (p ∷ kept) low (three_more ((p ∷ proposed) ++ kept) (proposed ++ (p ∷ kept)) h low (to_kept p proposed kept) e) (tight (eqb-false _ _ k)))
    where
      low : PairsBelow g.n (proposed ++ (p ∷ kept))
      low x m = h x (from_kept p proposed kept x m)

      drop : (x : ℕ × ℕ) → In x ((p ∷ proposed) ++ kept) → ¬ (x ≡ p) → In x (proposed ++ kept)
      drop x (inl i) n = absurd (n i)
      drop x (inr j) n = j

      tight : connectivity (with_pairs g (proposed ++ kept)) ≢ 3 → (q : ℕ × ℕ) → In q (p ∷ kept) → (m : List (ℕ × ℕ)) → PairsBelow g.n m → Without (proposed ++ (p ∷ kept)) q m → Three m → ⊥
      tight n q (inl i) m b w k = n (three_more m (proposed ++ kept) b (λ x j. h x (inr j)) (λ x j. drop x (from_kept p proposed kept x (w x j).0) (λ z. (w x j).1 (z ∙ sym i))) k)
      tight n q (inr j) m b w k = t q j m b (λ x i. (from_kept p proposed kept x (w x i).0, (w x i).1)) k

      go : (b : Bool) → is_three (with_pairs g (proposed ++ kept)) ≡ b → (is_three (with_pairs g (proposed ++ kept)) ≡ true → Least (remaining g proposed kept)) → (is_three (with_pairs g (proposed ++ kept)) ≡ false → Least (remaining g proposed (p ∷ kept)))
          → Least (cond b (remaining g proposed kept) (remaining g proposed (p ∷ kept)))
      go true k r z = r k
      go false k r z = z k

  -- where the connectivity is 3 without any, nothing remains
  pub remaining-none : (proposed : List (ℕ × ℕ)) → PairsBelow g.n proposed → Three [] → remaining g proposed [] ≡ []
  unfolding remaining
  remaining-none [] h e = refl
  remaining-none (p ∷ proposed) h e =
      let low : PairsBelow g.n (proposed ++ []) = rw append-nil (λ x m. h x (inr m)) in
      ap (λ (b : Bool). cond b (remaining g proposed []) (remaining g proposed (p ∷ []))) (eq-eqb _ 3 (three_more [] (proposed ++ []) (λ x m. absurd m) low (λ x m. absurd m) e))
      ∙ remaining-none proposed (λ x m. h x (inr m)) e
