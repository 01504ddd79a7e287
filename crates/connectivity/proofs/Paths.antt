-- Laws of paths: cutting and joining, ends and inner vertices, neighbours on a path, the edges that paths use, paths as lists.
use mathlib.Core.Path.{◌≡◌, refl, ap, sym, ◌∙◌, subst}
use mathlib.Core.Logic.{inl, inr, ◌⊎◌, ⊎_elim, ◌≢◌, ⊎_map}
use mathlib.Core.List.{List, [], ◌∷◌, ◌++◌}
use Prim.Native.Nat.{ℕ, ◌≤◌, ◌<◌, min, max, suc, ◌+◌}
use native.Mathlib.Nat.{min_comm, max_comm}
use native.Mathlib.Omega.{arith}
use native.Mathlib.Decide.{ℕ_discrete}
use lib.ListN.{length, length-append}
use Rattle.connectivity.specs.Lists.{In, NoDup}
use Rattle.connectivity.specs.Path.{Path, link, vertices, End, Along, IsPath, edge, path_edges, edges_along, used_edges}
use Rattle.connectivity.specs.Build.{InBuild, IsBranch, end_pairs}
use Rattle.connectivity.proofs.Lists.{in_right, in_left, in_single, in_append, nodup_apart, nodup_left, rev}
use Rattle.connectivity.proofs.Order.{Separates}

-- the inner vertices of all links
abbrev pub inner_vertices : List Path → List ℕ
inner_vertices [] = []
inner_vertices (L ∷ ls) = L.inner ++ inner_vertices ls

-- a path from the list of its vertices, of which there are at least two
abbrev pub last_of : ℕ → List ℕ → ℕ
last_of a [] = a
last_of a (b ∷ l) = last_of b l

abbrev pub init_of : ℕ → List ℕ → List ℕ
init_of a [] = []
init_of a (b ∷ l) = a ∷ init_of b l

abbrev pub link_of : List ℕ → Path
link_of [] = link 0 [] 0
link_of (a ∷ []) = link a [] a
link_of (a ∷ b ∷ l) = link a (init_of b l) (last_of b l)

init_last : (a : ℕ) (l : List ℕ) → init_of a l ++ (last_of a l ∷ []) ≡ a ∷ l
init_last a [] = refl
init_last a (b ∷ l) = ap (λ (k : List ℕ). a ∷ k) (init_last b l)

pub vertices-of : (l : List ℕ) → 2 ≤ length l → vertices (link_of l) ≡ l
vertices-of [] h = absurd (omega arith)
vertices-of (a ∷ []) h = absurd (omega arith)
vertices-of (a ∷ b ∷ l) h = ap (λ (k : List ℕ). a ∷ k) (init_last b l)

init_end : (b : ℕ) (l : List ℕ) (t : ℕ) → init_of b (l ++ (t ∷ [])) ≡ b ∷ l
init_end b [] t = refl
init_end b (a ∷ l) t = ap (λ (k : List ℕ). b ∷ k) (init_end a l t)

pub last_end : (b : ℕ) (l : List ℕ) (t : ℕ) → last_of b (l ++ (t ∷ [])) ≡ t
last_end b [] t = refl
last_end b (a ∷ l) t = last_end a l t

pub link-vertices : (P : Path) → link_of (vertices P) ≡ P
link-vertices P = go P.s P.inner P.t
  where
    go : (s : ℕ) (l : List ℕ) (t : ℕ) → link_of (s ∷ (l ++ (t ∷ []))) ≡ link s l t
    go s [] t = refl
    go s (b ∷ l) t = λ i. link s (init_end b l t i) (last_end b l t i)

pub two_vertices : (P : Path) → 2 ≤ length (vertices P)
two_vertices P = omega (arith, length-append P.inner (P.t ∷ []))

-- ends and inner vertices
pub end_s : (L : Path) → In L.s (vertices L)
end_s L = inl refl

pub end_t : (L : Path) → In L.t (vertices L)
end_t L = inr (in_right L.t L.inner (L.t ∷ []) (inl refl))

pub inner_in : (w : ℕ) (L : Path) → In w L.inner → In w (vertices L)
inner_in w L m = inr (in_left w L.inner (L.t ∷ []) m)

pub end_vertex : (z : ℕ) (L : Path) → End z L → In z (vertices L)
end_vertex z L (inl e) = inl e
end_vertex z L (inr e) = inr (in_right z L.inner (L.t ∷ []) (inl e))

pub end_or_inner : (L : Path) (w : ℕ) → In w (vertices L) → End w L ⊎ In w L.inner
end_or_inner L w (inl e) = inl (inl e)
end_or_inner L w (inr h) = ⊎_elim inr (λ k. inl (inr (in_single w L.t k))) (in_append w L.inner (L.t ∷ []) h)

pub end_of_lem : (L : Path) (w : ℕ) → In w (vertices L) → ¬ In w L.inner → End w L
end_of_lem L w h n = ⊎_elim (λ e. e) (λ k. absurd (n k)) (end_or_inner L w h)

pub inner_of : (L : Path) (w : ℕ) → In w (vertices L) → ¬ End w L → In w L.inner
inner_of L w h n = ⊎_elim (λ e. absurd (n e)) (λ k. k) (end_or_inner L w h)

pub ends_differ : (L : Path) → NoDup (vertices L) → L.s ≢ L.t
ends_differ L nd e = nd.0 (in_right L.s L.inner (L.t ∷ []) (inl e))

pub inner_not_end : (L : Path) → NoDup (vertices L) → (w : ℕ) → In w L.inner → ¬ End w L
inner_not_end L nd w h (inl e) = nd.0 (in_left L.s L.inner (L.t ∷ []) (rw e at h))
inner_not_end L nd w h (inr e) = nodup_apart L.inner (L.t ∷ []) nd.1 w h (inl e)

pub nodup_inner : (L : Path) → NoDup (vertices L) → NoDup L.inner
nodup_inner L nd = nodup_left L.inner (L.t ∷ []) nd.1

-- a list that holds the ends and the inner vertices holds them all
pub all-vertices : (L : Path) (D : List ℕ) → In L.s D → In L.t D → ((w : ℕ) → In w L.inner → In w D) → (w : ℕ) → In w (vertices L) → In w D
all-vertices L D hs ht f w h = ⊎_elim end (f w) (end_or_inner L w h)
  where
    end : End w L → In w D
    end (inl e) = rw e hs
    end (inr e) = rw e ht

-- neighbours are joined by an edge: cutting, joining, reversing
pub along-cut : (E : ℕ → ℕ → Type 0) (s : ℕ) (p : List ℕ) (x : ℕ) (q : List ℕ) (t : ℕ) → Along E s (p ++ (x ∷ q)) t → Along E s p x × Along E x q t
along-cut E s [] x q t w = w
along-cut E s (a ∷ p) x q t w = let r = along-cut E a p x q t w.1 in ((w.0, r.0), r.1)

pub along-join : (E : ℕ → ℕ → Type 0) (s : ℕ) (p : List ℕ) (x : ℕ) (r : List ℕ) (t : ℕ) → Along E s p x → Along E x r t → Along E s (p ++ (x ∷ r)) t
along-join E s [] x r t a b = (a, b)
along-join E s (c ∷ p) x r t a b = (a.0, along-join E c p x r t a.1 b)

pub along-last : (E : ℕ → ℕ → Type 0) (s : ℕ) (l : List ℕ) (t : ℕ) → Along E s l t → E (last_of s l) t
along-last E s [] t w = w
along-last E s (a ∷ l) t w = along-last E a l t w.1

pub last_of_lem : (s : ℕ) (l : List ℕ) → (last_of s l ≡ s) ⊎ In (last_of s l) l
last_of_lem s [] = inl refl
last_of_lem s (a ∷ l) = inr (last_of_lem a l)

module _ (E : ℕ → ℕ → Type 0) (esym : (u v : ℕ) → E u v → E v u) where
  pub along-rev : (s : ℕ) (l : List ℕ) (t : ℕ) → Along E s l t → Along E t (rev l) s
  along-rev s [] t w = esym s t w
  along-rev s (a ∷ l) t w = along-join E t (rev l) a [] s (along-rev a l t w.1) (esym s a w.0)

  -- every vertex of a path is on an edge
  pub along-edge : (s : ℕ) (l : List ℕ) (t : ℕ) → Along E s l t → (z : ℕ) → In z (s ∷ (l ++ (t ∷ []))) → (y : ℕ) × E z y
  along-edge s [] t w z (inl e) = (t, rw e w)
  along-edge s [] t w z (inr h) = (s, rw (in_single z t h) (esym s t w))
  along-edge s (a ∷ l) t w z (inl e) = (a, rw e w.0)
  along-edge s (a ∷ l) t w z (inr h) = along-edge a l t w.1 z h

-- x, y are neighbours on L, in this order
abbrev pub head_of : List ℕ → ℕ → ℕ
head_of [] t = t
head_of (a ∷ l) t = a

pub record Consecutive (L : Path) (x y : ℕ) : Type 0 where
  pub u : List ℕ
  pub v : List ℕ
  pub cut : L.inner ≡ u ++ v
  pub left : x ≡ last_of L.s u
  pub right : y ≡ head_of v L.t

consecutive_cons : (s a : ℕ) (l : List ℕ) (t x y : ℕ) → Consecutive (link a l t) x y → Consecutive (link s (a ∷ l) t) x y
consecutive_cons s a l t x y g = record { u = a ∷ g.u; v = g.v; cut = ap (λ (k : List ℕ). a ∷ k) g.cut; left = g.left; right = g.right }

last_vertex : (s : ℕ) (u v : List ℕ) (t : ℕ) → In (last_of s u) (s ∷ ((u ++ v) ++ (t ∷ [])))
last_vertex s [] v t = inl refl
last_vertex s (b ∷ u) v t = inr (last_vertex b u v t)

head_vertex : (u v : List ℕ) (t : ℕ) → In (head_of v t) ((u ++ v) ++ (t ∷ []))
head_vertex [] [] t = inl refl
head_vertex [] (a ∷ v) t = inl refl
head_vertex (b ∷ u) v t = inr (head_vertex u v t)

pub consecutive_left : (L : Path) (x y : ℕ) → Consecutive L x y → In x (vertices L)
consecutive_left L x y g = subst (λ (k : ℕ). In k (vertices L)) (sym g.left) (rw g.cut (last_vertex L.s g.u g.v L.t))

pub consecutive_right : (L : Path) (x y : ℕ) → Consecutive L x y → In y (vertices L)
consecutive_right L x y g = subst (λ (k : ℕ). In k (vertices L)) (sym g.right) (rw g.cut (inr (head_vertex g.u g.v L.t)))

pub consecutive_differ : (L : Path) (x y : ℕ) → NoDup (vertices L) → Consecutive L x y → x ≢ y
consecutive_differ L x y nd g e = go L.s g.u g.v L.t (rw g.cut at nd) (sym g.left ∙ e ∙ g.right)
  where
    go : (s : ℕ) (u v : List ℕ) (t : ℕ) → NoDup (s ∷ ((u ++ v) ++ (t ∷ []))) → last_of s u ≡ head_of v t → ⊥
    go s [] v t n k = n.0 (rw k (head_vertex [] v t))
    go s (b ∷ u) v t n k = go b u v t n.1 k

pub consecutive_edge : (E : ℕ → ℕ → Type 0) (L : Path) (x y : ℕ) → IsPath E L → Consecutive L x y → E x y
consecutive_edge E L x y g k = rw (k.left, k.right) (go L.s k.u k.v L.t (rw k.cut at g.along))
  where
    go : (s : ℕ) (u v : List ℕ) (t : ℕ) → Along E s (u ++ v) t → E (last_of s u) (head_of v t)
    go s [] [] t w = w
    go s [] (a ∷ v) t w = w.0
    go s (b ∷ u) v t w = go b u v t w.1

-- two vertices of a path: one stands between them, or they are neighbours
abbrev SomeBetween : List ℕ → ℕ → ℕ → Type 0
SomeBetween l x y = (z : ℕ) × In z l × Separates z x y l

abbrev pub Neighbours : Path → ℕ → ℕ → Type 0
Neighbours L x y = Consecutive L x y ⊎ Consecutive L y x

pub between-or_consecutive : (s : ℕ) (l : List ℕ) (t x y : ℕ) → In x (vertices (link s l t)) → In y (vertices (link s l t)) → x ≢ y → SomeBetween (vertices (link s l t)) x y ⊎ Neighbours (link s l t) x y
between-or_consecutive s [] t x y (inl e) (inl k) ne = absurd (ne (e ∙ sym k))
between-or_consecutive s [] t x y (inl e) (inr k) ne = inr (inl (record { u = []; v = []; cut = refl; left = e; right = in_single y t k }))
between-or_consecutive s [] t x y (inr e) (inl k) ne = inr (inr (record { u = []; v = []; cut = refl; left = k; right = in_single x t e }))
between-or_consecutive s [] t x y (inr e) (inr k) ne = absurd (ne (in_single x t e ∙ sym (in_single y t k)))
between-or_consecutive s (a ∷ l) t x y (inl e) (inl k) ne = absurd (ne (e ∙ sym k))
between-or_consecutive s (a ∷ l) t x y (inl e) (inr (inl k)) ne = inr (inl (record { u = []; v = a ∷ l; cut = refl; left = e; right = k }))
between-or_consecutive s (a ∷ l) t x y (inl e) (inr (inr k)) ne = inl (a, inr (inl refl), inl (inl (e, inl (refl, k))))
between-or_consecutive s (a ∷ l) t x y (inr (inl e)) (inl k) ne = inr (inr (record { u = []; v = a ∷ l; cut = refl; left = k; right = e }))
between-or_consecutive s (a ∷ l) t x y (inr (inr e)) (inl k) ne = inl (a, inr (inl refl), inr (inl (k, inl (refl, e))))
between-or_consecutive s (a ∷ l) t x y (inr e) (inr k) ne = ⊎_map (λ r. (r.0, inr r.1, ⊎_map inr inr r.2)) (⊎_map (consecutive_cons s a l t x y) (consecutive_cons s a l t y x)) (between-or_consecutive a l t x y e k ne)

-- an edge and its two ends
pub edge-comm : (u v : ℕ) → edge u v ≡ edge v u
edge-comm u v = rw (min_comm u v, max_comm u v)

pub edge-sorted : (u v : ℕ) → u < v → edge u v ≡ (u, v)
edge-sorted u v h = let p : min u v ≡ u = omega arith in let q : max u v ≡ v = omega arith in λ i. (p i, q i)

abbrev pub SamePair : ℕ → ℕ → ℕ → ℕ → Type 0
SamePair u v x y = ((u ≡ x) × (v ≡ y)) ⊎ ((u ≡ y) × (v ≡ x))

pub edge_same : (u v x y : ℕ) → edge u v ≡ edge x y → SamePair u v x y
edge_same u v x y e = go (ap (λ (p : ℕ × ℕ). p.0) e) (ap (λ (p : ℕ × ℕ). p.1) e) (ℕ_discrete u x)
  where
    go : min u v ≡ min x y → max u v ≡ max x y → Dec (u ≡ x) → SamePair u v x y
    go p q (yes k) = inl (k, omega arith)
    go p q (no k) = inr (omega arith, omega arith)

pub same_edge : (u v x y : ℕ) → SamePair u v x y → edge u v ≡ edge x y
same_edge u v x y (inl e) = rw (e.0, e.1)
same_edge u v x y (inr e) = rw (e.0, e.1) (edge-comm y x)

pub same_trans : (x y p q s t : ℕ) → SamePair x y p q → SamePair x y s t → SamePair p q s t
same_trans x y p q s t (inl e) (inl k) = inl (sym e.0 ∙ k.0, sym e.1 ∙ k.1)
same_trans x y p q s t (inl e) (inr k) = inr (sym e.0 ∙ k.0, sym e.1 ∙ k.1)
same_trans x y p q s t (inr e) (inl k) = inr (sym e.1 ∙ k.1, sym e.0 ∙ k.0)
same_trans x y p q s t (inr e) (inr k) = inl (sym e.1 ∙ k.1, sym e.0 ∙ k.0)

-- two different ends are the two ends
pub both_ends : (P : Path) (x y : ℕ) → x ≢ y → End x P → End y P → SamePair x y P.s P.t
both_ends P x y ne (inl a) (inl b) = absurd (ne (a ∙ sym b))
both_ends P x y ne (inl a) (inr b) = inl (a, b)
both_ends P x y ne (inr a) (inl b) = inr (a, b)
both_ends P x y ne (inr a) (inr b) = absurd (ne (a ∙ sym b))

-- the edges of a path are the pairs of neighbours
pub length_path : (L : Path) → length (path_edges L) ≡ suc (length L.inner)
length_path L = go L.s L.inner L.t
  where
    go : (s : ℕ) (l : List ℕ) (t : ℕ) → length (edges_along s l t) ≡ suc (length l)
    go s [] t = refl
    go s (a ∷ l) t = ap suc (go a l t)

pub length_used : (ls : List Path) → length (used_edges ls) ≡ length ls + length (inner_vertices ls)
length_used [] = omega arith
length_used (L ∷ ls) = let ih = length_used ls in omega (arith, length-append (path_edges L) (used_edges ls), length_path L, length-append L.inner (inner_vertices ls))

edge-consecutive : (s : ℕ) (l : List ℕ) (t : ℕ) (e : ℕ × ℕ) → In e (edges_along s l t) → (x : ℕ) × (y : ℕ) × Consecutive (link s l t) x y × (e ≡ edge x y)
edge-consecutive s [] t e h = (s, t, record { u = []; v = []; cut = refl; left = refl; right = refl }, in_single e (edge s t) h)
edge-consecutive s (a ∷ l) t e (inl k) = (s, a, record { u = []; v = a ∷ l; cut = refl; left = refl; right = refl }, k)
edge-consecutive s (a ∷ l) t e (inr k) = let r = edge-consecutive a l t e k in (r.0, r.1, consecutive_cons s a l t r.0 r.1 r.2, r.3)

pub path-consecutive : (L : Path) (e : ℕ × ℕ) → In e (path_edges L) → (x : ℕ) × (y : ℕ) × Consecutive L x y × (e ≡ edge x y)
path-consecutive L e h = edge-consecutive L.s L.inner L.t e h

pub consecutive_path : (L : Path) (x y : ℕ) → Consecutive L x y → In (edge x y) (path_edges L)
consecutive_path L x y g = rw (g.cut, g.left, g.right) (go L.s g.u g.v L.t)
  where
    go : (s : ℕ) (u v : List ℕ) (t : ℕ) → In (edge (last_of s u) (head_of v t)) (edges_along s (u ++ v) t)
    go s [] [] t = inl refl
    go s [] (a ∷ v) t = inl refl
    go s (b ∷ u) v t = inr (go b u v t)

pub nodup_path : (L : Path) → NoDup (vertices L) → NoDup (path_edges L)
nodup_path L nd = go L.s L.inner L.t nd
  where
    off : (s a : ℕ) (l : List ℕ) (t : ℕ) → ¬ In s (vertices (link a l t)) → ¬ In (edge s a) (edges_along a l t)
    off s a l t n h = let r = edge-consecutive a l t (edge s a) h in
        ⊎_elim (λ (k : (s ≡ r.0) × (a ≡ r.1)). n (subst (λ (x : ℕ). In x (vertices (link a l t))) (sym k.0) (consecutive_left (link a l t) r.0 r.1 r.2))) (λ k. n (subst (λ (x : ℕ). In x (vertices (link a l t))) (sym k.0) (consecutive_right (link a l t) r.0 r.1 r.2))) (edge_same s a r.0 r.1 r.3)

    go : (s : ℕ) (l : List ℕ) (t : ℕ) → NoDup (vertices (link s l t)) → NoDup (edges_along s l t)
    go s [] t nd = ((λ h. h), tt)
    go s (a ∷ l) t nd = (off s a l t nd.0, go a l t nd.1)

pub used_in : (ls : List Path) (e : ℕ × ℕ) → In e (used_edges ls) → (M : Path) × In M ls × In e (path_edges M)
used_in [] e h = absurd h
used_in (L ∷ ls) e h = ⊎_elim (λ k. (L, inl refl, k)) (λ k. let r = used_in ls e k in (r.0, inr r.1, r.2)) (in_append e (path_edges L) (used_edges ls) h)

pub in_used : (ls : List Path) (e : ℕ × ℕ) (M : Path) → In M ls → In e (path_edges M) → In e (used_edges ls)
in_used [] e M h k = absurd h
in_used (L ∷ ls) e M (inl j) k = in_left e (path_edges L) (used_edges ls) (rw j at k)
in_used (L ∷ ls) e M (inr h) k = in_right e (path_edges L) (used_edges ls) (in_used ls e M h k)

-- the vertices of several paths, their ends, their inner vertices
abbrev pub built_vertices : List Path → List ℕ
built_vertices [] = []
built_vertices (L ∷ ls) = vertices L ++ built_vertices ls

abbrev pub branch_vertices : List Path → List ℕ
branch_vertices [] = []
branch_vertices (L ∷ ls) = L.s ∷ (L.t ∷ branch_vertices ls)

pub in_built : (L : Path) (ls : List Path) (w : ℕ) → In L ls → In w (vertices L) → In w (built_vertices ls)
in_built L [] w h k = absurd h
in_built L (M ∷ ls) w (inl e) k = in_left w (vertices M) (built_vertices ls) (rw e at k)
in_built L (M ∷ ls) w (inr h) k = in_right w (vertices M) (built_vertices ls) (in_built L ls w h k)

pub built_in_lem : (ls : List Path) (w : ℕ) → In w (built_vertices ls) → InBuild w ls
built_in_lem [] w h = absurd h
built_in_lem (M ∷ ls) w h = ⊎_elim (λ k. (M, inl refl, k)) (λ k. let r = built_in_lem ls w k in (r.0, inr r.1, r.2)) (in_append w (vertices M) (built_vertices ls) h)

pub in_branch : (L : Path) (ls : List Path) (w : ℕ) → In L ls → End w L → In w (branch_vertices ls)
in_branch L [] w h e = absurd h
in_branch L (M ∷ ls) w (inl i) (inl e) = inl (rw i at e)
in_branch L (M ∷ ls) w (inl i) (inr e) = inr (inl (rw i at e))
in_branch L (M ∷ ls) w (inr h) e = inr (inr (in_branch L ls w h e))

pub branch_in : (ls : List Path) (w : ℕ) → In w (branch_vertices ls) → IsBranch w ls
branch_in [] w h = absurd h
branch_in (L ∷ ls) w (inl e) = (L, inl refl, inl e)
branch_in (L ∷ ls) w (inr (inl e)) = (L, inl refl, inr e)
branch_in (L ∷ ls) w (inr (inr h)) = let r = branch_in ls w h in (r.0, inr r.1, r.2)

pub branch_built : (ls : List Path) (w : ℕ) → In w (branch_vertices ls) → In w (built_vertices ls)
branch_built ls w h = let r = branch_in ls w h in in_built r.0 ls w r.1 (end_vertex w r.0 r.2)

pub in_inner : (L : Path) (ls : List Path) (w : ℕ) → In L ls → In w L.inner → In w (inner_vertices ls)
in_inner L [] w h k = absurd h
in_inner L (M ∷ ls) w (inl e) k = in_left w M.inner (inner_vertices ls) (rw e at k)
in_inner L (M ∷ ls) w (inr h) k = in_right w M.inner (inner_vertices ls) (in_inner L ls w h k)

pub inner_on : (ls : List Path) (w : ℕ) → In w (inner_vertices ls) → (L : Path) × In L ls × In w L.inner
inner_on [] w h = absurd h
inner_on (L ∷ ls) w h = ⊎_elim (λ k. (L, inl refl, k)) (λ k. let r = inner_on ls w k in (r.0, inr r.1, r.2)) (in_append w L.inner (inner_vertices ls) h)

pub inner_built : (ls : List Path) (w : ℕ) → In w (inner_vertices ls) → In w (built_vertices ls)
inner_built ls w h = let r = inner_on ls w h in in_built r.0 ls w r.1 (inner_in w r.0 r.2)

pub in_ends : (ms : List Path) (M : Path) → In M ms → In {A = ℕ × ℕ} (M.s, M.t) (end_pairs ms)
in_ends [] M h = absurd h
in_ends (L ∷ ms) M (inl e) = inl (ap (λ (p : Path). (p.s, p.t)) e)
in_ends (L ∷ ms) M (inr h) = inr (in_ends ms M h)

pub ends_in_lem : (ms : List Path) (u v : ℕ) → In {A = ℕ × ℕ} (u, v) (end_pairs ms) → (L : Path) × In L ms × (u ≡ L.s) × (v ≡ L.t)
ends_in_lem [] u v h = absurd h
ends_in_lem (L ∷ ms) u v (inl e) = (L, inl refl, ap (λ (p : ℕ × ℕ). p.0) e, ap (λ (p : ℕ × ℕ). p.1) e)
ends_in_lem (L ∷ ms) u v (inr h) = let r = ends_in_lem ms u v h in (r.0, inr r.1, r.2, r.3)

pub length_ends : (ls : List Path) → length (end_pairs ls) ≡ length ls
length_ends [] = refl
length_ends (L ∷ ls) = ap suc (length_ends ls)
