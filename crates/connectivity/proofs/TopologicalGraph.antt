-- Graphs that are the same, additions, and the vertices and edges of a topological graph.
use mathlib.Core.Path.{◌≡◌, refl, sym, ◌∙◌, ap, subst}
use mathlib.Core.Logic.{◌≢◌, inl, inr}
use mathlib.Core.List.{List, [], ◌∷◌}
use mathlib.Core.Bool.{Bool, true, false, cond}
use Prim.Native.Nat.{ℕ, ◌<◌, min, max}
use native.Mathlib.Omega.{arith}
use native.Mathlib.Decide.{ℕ_discrete}
use lib.Dec.{eqb}
use borrow.Author.Tests.{eqb-true, eq-eqb}
use Rattle.connectivity.specs.Lists.{In}
use Rattle.connectivity.specs.Graph.{is_pair}
use Rattle.connectivity.specs.Path.{Path, edge}
use Rattle.connectivity.specs.Build.{IsBranch, four, six_pairs, end_pairs, link_ends}
use Rattle.connectivity.specs.TopologicalGraph.{TGraph, SameMembers, SameGraph, add_edge, without, subdivide, VertexVertex, EdgeVertex, EdgeEdge, Addition, vertex-vertex, edge-vertex, edge-edge, complete, ends_of, topological}
use Rattle.connectivity.proofs.Lists.{clash, and-true}
use Rattle.connectivity.proofs.Paths.{edge-comm}

-- Lists with the same members, and graphs that are the same.
members-refl : {A : Type 0} (l : List A) → SameMembers l l
members-refl l = ((λ a h. h), (λ a h. h))

members-trans : {A : Type 0} (k l m : List A) → SameMembers k l → SameMembers l m → SameMembers k m
members-trans k l m p q = ((λ a h. q.0 a (p.0 a h)), (λ a h. p.1 a (q.1 a h)))

into-cons : {A : Type 0} (x : A) (l m : List A) → ((a : A) → In a l → In a m) → (a : A) → In a (x ∷ l) → In a (x ∷ m)
into-cons x l m f a (inl e) = inl e
into-cons x l m f a (inr h) = inr (f a h)

members-cons : {A : Type 0} (x : A) (l m : List A) → SameMembers l m → SameMembers (x ∷ l) (x ∷ m)
members-cons x l m p = (into-cons x l m p.0, into-cons x m l p.1)

pub same_refl : (G : TGraph) → SameGraph G G
same_refl G = record { vertices = members-refl G.vertices; edges = members-refl G.edges }

pub same_sym : {G H : TGraph} → SameGraph G H → SameGraph H G
same_sym e = record { vertices = (e.vertices.1, e.vertices.0); edges = (e.edges.1, e.edges.0) }

pub same_trans : {F G H : TGraph} → SameGraph F G → SameGraph G H → SameGraph F H
same_trans {F} {G} {H} d e = record { vertices = members-trans F.vertices G.vertices H.vertices d.vertices e.vertices; edges = members-trans F.edges G.edges H.edges d.edges e.edges }

pub same_turn : {H : TGraph} (G : TGraph) (v w : ℕ) → SameGraph H (add_edge G v w) → SameGraph H (add_edge G w v)
same_turn {H} G v w e = subst (λ (k : ℕ × ℕ). SameGraph H (record { vertices = G.vertices; edges = k ∷ G.edges })) (edge-comm v w) e

-- Edges that are left out.
pub is_pair_lem : (e f : ℕ × ℕ) → is_pair e f.0 f.1 ≡ true → e ≡ f
is_pair_lem e f h = let r = and-true (eqb e.0 f.0) (eqb e.1 f.1) h in let p = eqb-true e.0 f.0 r.0 in let q = eqb-true e.1 f.1 r.1 in λ i. (p i, q i)

pair_is : (e f : ℕ × ℕ) → e ≡ f → is_pair e f.0 f.1 ≡ true
pair_is e f k = rw (eq-eqb e.0 f.0 (ap (λ (p : ℕ × ℕ). p.0) k), eq-eqb e.1 f.1 (ap (λ (p : ℕ × ℕ). p.1) k))

pub without_in : (f : ℕ × ℕ) (es : List (ℕ × ℕ)) (e : ℕ × ℕ) → In e (without f es) → In e es × (e ≢ f)
without_in f [] e h = absurd h
without_in f (d ∷ es) e h = go (is_pair d f.0 f.1) refl h (without_in f es e)
  where
    go : (t : Bool) → is_pair d f.0 f.1 ≡ t → In e (cond t (without f es) (d ∷ without f es)) → (In e (without f es) → In e es × (e ≢ f)) → In e (d ∷ es) × (e ≢ f)
    go true k h ih = let r = ih h in (inr r.0, r.1)
    go false k (inl i) ih = (inl i, λ j. clash (pair_is d f (sym i ∙ j)) k)
    go false k (inr h) ih = let r = ih h in (inr r.0, r.1)

pub in_without : (f : ℕ × ℕ) (es : List (ℕ × ℕ)) (e : ℕ × ℕ) → In e es → e ≢ f → In e (without f es)
in_without f [] e h n = absurd h
in_without f (d ∷ es) e h n = go (is_pair d f.0 f.1) refl h (in_without f es e)
  where
    go : (t : Bool) → is_pair d f.0 f.1 ≡ t → In e (d ∷ es) → (In e es → e ≢ f → In e (without f es)) → In e (cond t (without f es) (d ∷ without f es))
    go true k (inl i) ih = absurd (n (i ∙ is_pair_lem d f k))
    go true k (inr h) ih = ih h n
    go false k (inl i) ih = inl i
    go false k (inr h) ih = inr (ih h n)

into-without : (f : ℕ × ℕ) (l m : List (ℕ × ℕ)) → ((e : ℕ × ℕ) → In e l → In e m) → (e : ℕ × ℕ) → In e (without f l) → In e (without f m)
into-without f l m g e h = let r = without_in f l e h in in_without f m e (g e r.0) r.1

pub same_subdivide : {G H : TGraph} (a b v : ℕ) → SameGraph G H → SameGraph (subdivide G a b v) (subdivide H a b v)
same_subdivide {G} {H} a b v e =
    let f = edge a b in
    let x = members-cons (edge v b) (without f G.edges) (without f H.edges) (into-without f G.edges H.edges e.edges.0, into-without f H.edges G.edges e.edges.1) in
    record { vertices = members-cons v G.vertices H.vertices e.vertices; edges = members-cons (edge a v) (edge v b ∷ without f G.edges) (edge v b ∷ without f H.edges) x }

-- The vertices and the edges of a topological graph.
pub branch_vertex : (ls : List Path) (z : ℕ) → IsBranch z ls → In z (ends_of (end_pairs ls))
branch_vertex [] z r = absurd r.1
branch_vertex (M ∷ ls) z (L, inl i, inl e) = inl (rw i at e)
branch_vertex (M ∷ ls) z (L, inl i, inr e) = inr (inl (rw i at e))
branch_vertex (M ∷ ls) z (L, inr h, e) = inr (inr (branch_vertex ls z (L, h, e)))

pub vertex-branch : (ls : List Path) (z : ℕ) → In z (ends_of (end_pairs ls)) → IsBranch z ls
vertex-branch [] z h = absurd h
vertex-branch (L ∷ ls) z (inl e) = (L, inl refl, inl e)
vertex-branch (L ∷ ls) z (inr (inl e)) = (L, inl refl, inr e)
vertex-branch (L ∷ ls) z (inr (inr h)) = let r = vertex-branch ls z h in (r.0, inr r.1, r.2)

pub link-edge : (ls : List Path) (L : Path) → In L ls → In (edge L.s L.t) (link_ends ls)
link-edge [] L h = absurd h
link-edge (M ∷ ls) L (inl e) = inl (ap (λ (k : Path). edge k.s k.t) e)
link-edge (M ∷ ls) L (inr h) = inr (link-edge ls L h)

pub edge-link : (ls : List Path) (e : ℕ × ℕ) → In e (link_ends ls) → (L : Path) × In L ls × (e ≡ edge L.s L.t)
edge-link [] e h = absurd h
edge-link (L ∷ ls) e (inl k) = (L, inl refl, k)
edge-link (L ∷ ls) e (inr h) = let r = edge-link ls e h in (r.0, inr r.1, r.2)

pub ordered : (u v : ℕ) → u ≢ v → (edge u v).0 < (edge u v).1
ordered u v ne = omega arith

pub edge-ends : (u v : ℕ) (l : List ℕ) → In u l → In v l → In (edge u v).0 l × In (edge u v).1 l
edge-ends u v l hu hv = go (ℕ_discrete (min u v) u)
  where
    go : Dec (min u v ≡ u) → In (min u v) l × In (max u v) l
    go (yes e) = let k : max u v ≡ v = omega arith in (rw e hu, rw k hv)
    go (no e) = let j : min u v ≡ v = omega arith in let k : max u v ≡ u = omega arith in (rw j hv, rw k hu)

-- A link whose ends are vertices of the graph is one more edge.
pub link-added : (ls : List Path) (G : TGraph) (P : Path) → SameGraph (topological ls) G → In P.s G.vertices → In P.t G.vertices → SameGraph (topological (P ∷ ls)) (add_edge G P.s P.t)
link-added ls G P e hs ht = record { vertices = (into, λ z h. inr (inr (e.vertices.1 z h))); edges = members-cons (edge P.s P.t) (link_ends ls) G.edges e.edges }
  where
    into : (z : ℕ) → In z (P.s ∷ (P.t ∷ ends_of (end_pairs ls))) → In z G.vertices
    into z (inl k) = rw k hs
    into z (inr (inl k)) = rw k ht
    into z (inr (inr h)) = e.vertices.0 z h

-- THE START GIVES THE COMPLETE GRAPH ON FOUR VERTICES.
abbrev unordered : List (ℕ × ℕ) → List (ℕ × ℕ)
unordered [] = []
unordered (e ∷ es) = edge e.0 e.1 ∷ unordered es

link_ends-pairs : (ls : List Path) → link_ends ls ≡ unordered (end_pairs ls)
link_ends-pairs [] = refl
link_ends-pairs (L ∷ ls) = ap (λ (k : List (ℕ × ℕ)). edge L.s L.t ∷ k) (link_ends-pairs ls)

-- each of one list is in another
abbrev AllIn : List ℕ → List ℕ → Type 0
AllIn [] m = Unit {0}
AllIn (a ∷ l) m = In a m × AllIn l m

all_in : (l m : List ℕ) → AllIn l m → (z : ℕ) → In z l → In z m
all_in [] m f z h = absurd h
all_in (a ∷ l) m f z (inl e) = rw e f.0
all_in (a ∷ l) m f z (inr h) = all_in l m f.1 z h

four-ends : (p q r s : ℕ) → SameMembers (four p q r s) (ends_of (six_pairs p q r s))
four-ends p q r s = (
  all_in (four p q r s) (ends_of (six_pairs p q r s)) (inl refl, (inr (inl refl), (inr (inr (inr (inl refl))), (inr (inr (inr (inr (inr (inl refl))))), tt)))),
  all_in (ends_of (six_pairs p q r s)) (four p q r s) (ip, (iq, (ip, (ir, (ip, (is, (iq, (ir, (iq, (is, (ir, (is, tt)))))))))))),
)
  where
    ip : In p (four p q r s)
    ip = inl refl

    iq : In q (four p q r s)
    iq = inr (inl refl)

    ir : In r (four p q r s)
    ir = inr (inr (inl refl))

    is : In s (four p q r s)
    is = inr (inr (inr (inl refl)))

pub start-complete : (ls : List Path) (p q r s : ℕ) → end_pairs ls ≡ six_pairs p q r s → SameGraph (complete p q r s) (topological ls)
start-complete ls p q r s e = record {
  vertices = subst (λ (k : List (ℕ × ℕ)). SameMembers (four p q r s) (ends_of k)) (sym e) (four-ends p q r s);
  edges = subst (λ (k : List (ℕ × ℕ)). SameMembers (unordered (six_pairs p q r s)) k) (sym (link_ends-pairs ls ∙ ap unordered e)) (members-refl (unordered (six_pairs p q r s)));
}

-- THE THREE EXCLUDE EACH OTHER: they make no, one and two new vertices.
abbrev pub new_vertices : {G H : TGraph} → Addition G H → ℕ
new_vertices (vertex-vertex v w x) = 0
new_vertices (edge-vertex a b v w x) = 1
new_vertices (edge-edge a b c d v w x) = 2

one_new : {G H : TGraph} {a b v w : ℕ} → EdgeVertex G H a b v w → (z : ℕ) → In z H.vertices → ¬ In z G.vertices → z ≡ v
one_new {G} {H} {a} {b} {v} x z h n = go (x.result.vertices.0 z h)
  where
    go : In z (v ∷ G.vertices) → z ≡ v
    go (inl e) = e
    go (inr k) = absurd (n k)

a_not_b : {G H : TGraph} {v w a b x y : ℕ} → VertexVertex G H v w → EdgeVertex G H a b x y → ⊥
a_not_b {x = x} k l = l.new (k.result.vertices.0 x (l.result.vertices.1 x (inl refl)))

a_not_c : {G H : TGraph} {v w a b c d x y : ℕ} → VertexVertex G H v w → EdgeEdge G H a b c d x y → ⊥
a_not_c {y = y} k l = l.new_w (k.result.vertices.0 y (l.result.vertices.1 y (inl refl)))

b_not_c : {G H : TGraph} {a b v w c d e f x y : ℕ} → EdgeVertex G H a b v w → EdgeEdge G H c d e f x y → ⊥
b_not_c {x = x} {y = y} k l = l.differ (one_new k x (l.result.vertices.1 x (inr (inl refl))) l.new_v ∙ sym (one_new k y (l.result.vertices.1 y (inl refl)) l.new_w))

pub one_kind : {G H : TGraph} (x y : Addition G H) → new_vertices x ≡ new_vertices y
one_kind (vertex-vertex v w k) (vertex-vertex a b l) = refl
one_kind (vertex-vertex v w k) (edge-vertex a b x y l) = absurd (a_not_b k l)
one_kind (vertex-vertex v w k) (edge-edge a b c d x y l) = absurd (a_not_c k l)
one_kind (edge-vertex a b v w k) (vertex-vertex x y l) = absurd (a_not_b l k)
one_kind (edge-vertex a b v w k) (edge-vertex c d x y l) = refl
one_kind (edge-vertex a b v w k) (edge-edge c d e f x y l) = absurd (b_not_c k l)
one_kind (edge-edge a b c d v w k) (vertex-vertex x y l) = absurd (a_not_c l k)
one_kind (edge-edge a b c d v w k) (edge-vertex e f x y l) = absurd (b_not_c l k)
one_kind (edge-edge a b c d v w k) (edge-edge e f p q x y l) = refl

-- The graph that an addition makes may be listed in another order.
pub addition_same : {G H I : TGraph} → Addition G H → SameGraph H I → Addition G I
addition_same (vertex-vertex v w x) e = vertex-vertex v w (record { first = x.first; second = x.second; distinct = x.distinct; non_adjacent = x.non_adjacent; result = same_trans (same_sym e) x.result })
addition_same (edge-vertex a b v w x) e = edge-vertex a b v w (record { is_edge = x.is_edge; distinct = x.distinct; new = x.new; vertex = x.vertex; not_a = x.not_a; not_b = x.not_b; result = same_trans (same_sym e) x.result })
addition_same (edge-edge a b c d v w x) e = edge-edge a b c d v w (record { first = x.first; second = x.second; distinct = x.distinct; new_v = x.new_v; new_w = x.new_w; differ = x.differ; result = same_trans (same_sym e) x.result })
