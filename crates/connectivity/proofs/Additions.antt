-- Taking a path in makes one of the three additions of the topological graph; the graph of a finished build; sequences of additions.
use mathlib.Core.Path.{◌≡◌, refl, sym, ◌∙◌, ap, subst}
use mathlib.Core.Logic.{◌≢◌, ◌⊎◌, inl, inr, ⊎_elim}
use mathlib.Core.List.{List, [], ◌∷◌}
use mathlib.Core.Bool.{Bool, true, false, cond}
use Prim.Native.Nat.{ℕ, suc, ◌<◌}
use native.Mathlib.Omega.{arith}
use lib.ListN.{length}
use Rattle.connectivity.specs.Lists.{In, member}
use Rattle.connectivity.specs.Graph.{Graph, Adj, Simple, edges}
use Rattle.connectivity.specs.Path.{Path, vertices, End, IsPath, edge, edges_along, path_edges, used_edges}
use Rattle.connectivity.specs.Build.{InBuild, IsBranch, end_pairs, link_ends, BGPath, front_part, back_part, split_at, taken, final}
use Rattle.connectivity.specs.Certificate.{BuildRules}
use Rattle.connectivity.specs.TopologicalGraph.{TGraph, Adjacent, IsSimple, SameGraph, subdivide, VertexVertex, EdgeVertex, EdgeEdge, Addition, vertex-vertex, edge-vertex, edge-edge, complete, listed_graph, ends_of, topological, Place, branch, inner, Added, Additions, IsSequence}
use Rattle.connectivity.proofs.Lists.{member-in, member-out, in_single, in_below, below_in}
use Rattle.connectivity.proofs.Paths.{inner_in, end_vertex, end_t, end_or_inner, ends_differ, inner_not_end, edge_same, SamePair, in_inner, in_used, used_in}
use Rattle.connectivity.proofs.Edges.{edges-nodup, edges-in, edge-high, path-low}
use Rattle.connectivity.proofs.Split.{Piece, whole, front, back, piece_of, piece_inner, piece_end, split_path, split_skip}
use Rattle.connectivity.proofs.Invariant.{Invariant, add_path_lem, split_invariant}
use Rattle.connectivity.proofs.Start.{Subdivision, start-subdivision}
use Rattle.connectivity.proofs.EdgeUse.{InnerOnce, split_inner, Tally, tally_step, tally, tally_simple, used_edge, used_final, build-once}
use Rattle.connectivity.proofs.TopologicalGraph.{same_refl, same_sym, same_trans, same_turn, without_in, in_without, same_subdivide, branch_vertex, vertex-branch, link-edge, edge-link, ordered, edge-ends, link-added, addition_same}

-- two links that share two different vertices are one
abbrev ShareOne : List Path → Type 0
ShareOne ls = (L M : Path) → In L ls → In M ls → (c d : ℕ) → c ≢ d → In c (vertices L) → In d (vertices L) → In c (vertices M) → In d (vertices M) → L ≡ M

-- and so are two with the same ends
ends_one : (ls : List Path) → ShareOne ls → (L M : Path) → In L ls → In M ls → L.s ≢ L.t → edge L.s L.t ≡ edge M.s M.t → L ≡ M
ends_one ls so L M h_l hM ne e = go (edge_same L.s L.t M.s M.t e)
  where
    at : End L.s M → End L.t M → L ≡ M
    at a b = so L M h_l hM L.s L.t ne (inl refl) (end_t L) (end_vertex L.s M a) (end_vertex L.t M b)

    go : SamePair L.s L.t M.s M.t → L ≡ M
    go (inl k) = at (inl k.0) (inr k.1)
    go (inr k) = at (inr k.0) (inl k.1)

-- THE TOPOLOGICAL GRAPH OF A BUILD IS SIMPLE.
pub topological-simple : (E : ℕ → ℕ → Type 0) (links : List Path) (k : ℕ) → Tally E links k → IsSimple (topological links)
topological-simple E links k t = record { ends = ends; once = (tally_simple E links k t).ends_once }
  where
    ends : (e : ℕ × ℕ) → In e (link_ends links) → In e.0 (ends_of (end_pairs links)) × In e.1 (ends_of (end_pairs links)) × (e.0 < e.1)
    ends e h =
        let r = edge-link links e h in
        let L = r.0 in
        let q = edge-ends L.s L.t (ends_of (end_pairs links)) (branch_vertex links L.s (L, r.1, inl refl)) (branch_vertex links L.t (L, r.1, inr refl)) in
        rw r.2 (q.0, q.1, ordered L.s L.t (ends_differ L (t.invariant.is_path L r.1).nodup))

-- What becomes of a link that is split at x: it stays, or it stands there in two parts.
abbrev pub Kept : ℕ → Path → List Path → Type 0
Kept x L ks = ((¬ In x L.inner) × In L ks) ⊎ (In x L.inner × In (front_part x L) ks × In (back_part x L) ks)

kept_wider : (x : ℕ) (L M : Path) (ks : List Path) → Kept x L ks → Kept x L (M ∷ ks)
kept_wider x L M ks (inl r) = inl (r.0, inr r.1)
kept_wider x L M ks (inr r) = inr (r.0, inr r.1, inr r.2)

pub kept : (x : ℕ) (ls : List Path) (L : Path) → In L ls → Kept x L (split_at x ls)
kept x [] L h = absurd h
kept x (M ∷ ls) L h = go (member x M.inner) refl h (kept x ls L)
  where
    go : (b : Bool) → member x M.inner ≡ b → In L (M ∷ ls) → (In L ls → Kept x L (split_at x ls)) → Kept x L (cond b (front_part x M ∷ (back_part x M ∷ split_at x ls)) (M ∷ split_at x ls))
    go true e (inl k) ih = inr (rw k (member-in x M.inner e), inl (ap (front_part x) k), inr (inl (ap (back_part x) k)))
    go true e (inr k) ih = kept_wider x L (front_part x M) (back_part x M ∷ split_at x ls) (kept_wider x L (back_part x M) (split_at x ls) (ih k))
    go false e (inl k) ih = inl (rw k (member-out x M.inner e), inl k)
    go false e (inr k) ih = kept_wider x L M (split_at x ls) (ih k)

unsplit : (x : ℕ) (ls : List Path) → ((L : Path) → In L ls → ¬ In x L.inner) → split_at x ls ≡ ls
unsplit x [] f = refl
unsplit x (L ∷ ls) f = split_skip x L ls (f L (inl refl)) ∙ ap (λ (k : List Path). L ∷ k) (unsplit x ls (λ M h. f M (inr h)))

-- what a split needs to know of the links
record Proper (E : ℕ → ℕ → Type 0) (links : List Path) : Type 0 where
  is_path : (L : Path) → In L links → IsPath E L
  share_one : ShareOne links
  inner_once : InnerOnce links

module _ (E : ℕ → ℕ → Type 0) where
  -- SPLITTING AT AN INNER VERTEX SUBDIVIDES the edge of its link.
  module _ (links : List Path) (pr : Proper E links) (L : Path) (h_l : In L links) (x : ℕ) (hx : In x L.inner) where
    -- x is inside L alone
    only : (M : Path) → In M links → In x M.inner → M ≡ L
    only M h k = pr.inner_once M L h h_l x k (inner_in x L hx)

    parts : In (front_part x L) (split_at x links) × In (back_part x L) (split_at x links)
    parts = ⊎_elim (λ r. absurd (r.0 hx)) (λ r. (r.1, r.2)) (kept x links L h_l)

    split_vertex : (z : ℕ) → IsBranch z (split_at x links) → In z (x ∷ ends_of (end_pairs links))
    split_vertex z r = let q = piece_of x links r.0 r.1 in ⊎_elim (λ e. inl e) (λ e. inr (branch_vertex links z (q.0, q.1, e))) (piece_end x z q.0 r.0 q.2 r.2)

    vertex-split : (z : ℕ) → (z ≡ x) ⊎ IsBranch z links → IsBranch z (split_at x links)
    vertex-split z (inl e) = (back_part x L, parts.1, inl e)
    vertex-split z (inr (M, h, e)) = go e (kept x links M h)
      where
        go : End z M → Kept x M (split_at x links) → IsBranch z (split_at x links)
        go e (inl r) = (M, r.1, e)
        go (inl e) (inr r) = (front_part x M, r.1, inl e)
        go (inr e) (inr r) = (back_part x M, r.2, inr e)

    split_edge : (e : ℕ × ℕ) → In e (link_ends (split_at x links)) → In e (subdivide (topological links) L.s L.t x).edges
    split_edge e h = let r = edge-link (split_at x links) e h in let q = piece_of x links r.0 r.1 in go r.0 q.0 q.1 r.2 q.2
      where
        go : (p M : Path) → In M links → e ≡ edge p.s p.t → Piece x M p → In e (subdivide (topological links) L.s L.t x).edges
        go p M h k (whole n i) =
            let j : e ≡ edge M.s M.t = rw i at k in
            inr (inr (in_without (edge L.s L.t) (link_ends links) e (rw j (link-edge links M h))
            (λ l. n (rw (ends_one links pr.share_one M L h h_l (ends_differ M (pr.is_path M h).nodup) (sym j ∙ l)) hx))))
        go p M h k (front m i) = inl (rw (i, only M h m) at k)
        go p M h k (back m i) = inr (inl (rw (i, only M h m) at k))

    edge-split : (e : ℕ × ℕ) → In e (subdivide (topological links) L.s L.t x).edges → In e (link_ends (split_at x links))
    edge-split e (inl k) = rw k (link-edge (split_at x links) (front_part x L) parts.0)
    edge-split e (inr (inl k)) = rw k (link-edge (split_at x links) (back_part x L) parts.1)
    edge-split e (inr (inr h)) = let q = without_in (edge L.s L.t) (link_ends links) e h in let r = edge-link links e q.0 in go r.0 r.1 r.2 q.1 (kept x links r.0 r.1)
      where
        go : (M : Path) → In M links → e ≡ edge M.s M.t → e ≢ edge L.s L.t → Kept x M (split_at x links) → In e (link_ends (split_at x links))
        go M h k n (inl r) = rw k (link-edge (split_at x links) M r.1)
        go M h k n (inr r) = absurd (n (rw (only M h r.0) at k))

    split_subdivides : SameGraph (topological (split_at x links)) (subdivide (topological links) L.s L.t x)
    split_subdivides = record {
      vertices = ((λ z h. split_vertex z (vertex-branch (split_at x links) z h)), (λ z h. branch_vertex (split_at x links) z (vertex-split z (known z h))));
      edges = (split_edge, edge-split);
    }
      where
        known : (z : ℕ) → In z (x ∷ ends_of (end_pairs links)) → (z ≡ x) ⊎ IsBranch z links
        known z (inl e) = inl e
        known z (inr h) = inr (vertex-branch links z h)

-- A vertex of the build has a place, and no two: an inner vertex is no branch vertex.
pub place : (links : List Path) (x : ℕ) → InBuild x links → Place x links
place links x (L, h, k) = ⊎_elim (λ e. branch (L, h, e)) (λ i. inner L h i) (end_or_inner L x k)

pub inner_no_branch : (E : ℕ → ℕ → Type 0) (links : List Path) (k : ℕ) → Tally E links k → (L : Path) → In L links → (x : ℕ) → In x L.inner → ¬ IsBranch x links
inner_no_branch E links k t L h x m = (tally_simple E links k t).inner_only x (in_inner L links x h m)

-- Whatever the places of the two ends are, what they give is one of the three additions.
pub added-addition : {links : List Path} {s t : ℕ} (a : Place s links) (b : Place t links) (H : TGraph) → Added a b H → Addition (topological links) H
added-addition {links} {s} {t} (branch h) (branch k) H x = vertex-vertex s t x
added-addition {links} {s} {t} (inner L h i) (branch k) H x = edge-vertex L.s L.t s t x
added-addition {links} {s} {t} (branch h) (inner M k j) H x = edge-vertex M.s M.t t s x
added-addition {links} {s} {t} (inner L h i) (inner M k j) H x = edge-edge M.s M.t L.s L.t t s x

module _ (E : ℕ → ℕ → Type 0) (esym : (u v : ℕ) → E u v → E v u) (links : List Path) (k : ℕ) (t : Tally E links k) (P : Path) (f : BGPath E links P) where
  pr : Proper E links
  pr = record { is_path = t.invariant.is_path; share_one = t.invariant.share_one; inner_once = t.inner_once }

  -- the links after the first of the two splits
  halfway : Proper E (split_at P.t links)
  halfway =
      let B = P.s ∷ (P.t ∷ t.B) in
      let a = split_invariant E B (P ∷ links) (add_path_lem E esym t.B links t.invariant P f) P.t (inr (inl refl)) in
      let b : Invariant E B (P ∷ split_at P.t links) = rw (split_skip P.t P links (λ h. inner_not_end P f.is_path.nodup P.t h (inr refl))) at a in
      record { is_path = split_path E P.t links t.invariant.is_path; share_one = λ L M h_l hM. b.share_one L M (inr h_l) (inr hM); inner_once = split_inner E P.t links t.invariant.is_path t.inner_once }

  no_branch : (L : Path) → In L links → (x : ℕ) → In x L.inner → ¬ IsBranch x links
  no_branch = inner_no_branch E links k t

  abbrev G : TGraph
  G = topological links

  abbrev H : TGraph
  H = topological (taken links P)

  abbrev rest : List Path
  rest = split_at P.s (split_at P.t links)

  ends : P.s ≢ P.t
  ends = ends_differ P f.is_path.nodup

  -- nothing is split at a branch vertex
  unsplit_branch : (x : ℕ) → IsBranch x links → split_at x links ≡ links
  unsplit_branch x h = unsplit x links (λ L i m. no_branch L i x m h)

  unsplit_later : (x y : ℕ) → IsBranch x links → split_at x (split_at y links) ≡ split_at y links
  unsplit_later x y h = unsplit x (split_at y links) (λ p i m. let r = piece_of y links p i in no_branch r.0 r.1 x (piece_inner y x r.0 p r.2 m) h)

  new_vertex : (L : Path) → In L links → (x : ℕ) → In x L.inner → ¬ In x (ends_of (end_pairs links))
  new_vertex L h_l x h i = no_branch L h_l x h (vertex-branch links x i)

  both_branch : IsBranch P.s links → IsBranch P.t links → VertexVertex G H P.s P.t
  both_branch hs ht =
      let vs = branch_vertex links P.s hs in
      let vt = branch_vertex links P.t ht in
      record {
        first = vs;
        second = vt;
        distinct = ends;
        non_adjacent = apart;
        result = link-added rest G P (subst (λ (k : List Path). SameGraph (topological k) G) (sym (unsplit_later P.s P.t hs ∙ unsplit_branch P.t ht)) (same_refl G)) vs vt;
      }
    where
      apart : ¬ Adjacent G P.s P.t
      apart h = let r = edge-link links (edge P.s P.t) h in go r.0 r.1 (edge_same P.s P.t r.0.s r.0.t r.2)
        where
          go : (L : Path) → In L links → SamePair P.s P.t L.s L.t → ⊥
          go L h (inl e) = f.apart L h (end_vertex P.s L (inl e.0)) (end_vertex P.t L (inr e.1))
          go L h (inr e) = f.apart L h (end_vertex P.s L (inr e.0)) (end_vertex P.t L (inl e.1))

  first_inner : (L : Path) → In L links → In P.s L.inner → IsBranch P.t links → EdgeVertex G H L.s L.t P.s P.t
  first_inner L h_l hs ht =
      let vt = branch_vertex links P.t ht in
      record {
        is_edge = link-edge links L h_l;
        distinct = ends_differ L (pr.is_path L h_l).nodup;
        new = new_vertex L h_l P.s hs;
        vertex = vt;
        not_a = λ e. off (inl e);
        not_b = λ e. off (inr e);
        result = link-added rest (subdivide G L.s L.t P.s) P
            (subst (λ (k : List Path). SameGraph (topological (split_at P.s k)) (subdivide G L.s L.t P.s)) (sym (unsplit_branch P.t ht)) (split_subdivides E links pr L h_l P.s hs)) (inl refl) (inr vt);
      }
    where
      off : ¬ End P.t L
      off e = f.apart L h_l (inner_in P.s L hs) (end_vertex P.t L e)

  second_inner : IsBranch P.s links → (M : Path) → In M links → In P.t M.inner → EdgeVertex G H M.s M.t P.t P.s
  second_inner hs M hM ht =
      let vs = branch_vertex links P.s hs in
      let S = subdivide G M.s M.t P.t in
      record {
        is_edge = link-edge links M hM;
        distinct = ends_differ M (pr.is_path M hM).nodup;
        new = new_vertex M hM P.t ht;
        vertex = vs;
        not_a = λ e. off (inl e);
        not_b = λ e. off (inr e);
        result = same_turn S P.s P.t (link-added rest S P
            (subst (λ (k : List Path). SameGraph (topological k) S) (sym (unsplit_later P.s P.t hs)) (split_subdivides E links pr M hM P.t ht)) (inr vs) (inl refl));
      }
    where
      off : ¬ End P.s M
      off e = f.apart M hM (end_vertex P.s M e) (inner_in P.t M ht)

  both_inner : (L M : Path) → In L links → In P.s L.inner → In M links → In P.t M.inner → EdgeEdge G H M.s M.t L.s L.t P.t P.s
  both_inner L M h_l hs hM ht =
      let S = subdivide G M.s M.t P.t in
      let T = subdivide S L.s L.t P.s in
      record {
        first = link-edge links M hM;
        second = link-edge links L h_l;
        distinct = distinct;
        new_v = new_vertex M hM P.t ht;
        new_w = new_vertex L h_l P.s hs;
        differ = λ e. ends (sym e);
        result = same_turn T P.s P.t (link-added rest T P
            (same_trans (split_subdivides E (split_at P.t links) halfway L stays P.s hs) (same_subdivide L.s L.t P.s (split_subdivides E links pr M hM P.t ht))) (inl refl) (inr (inl refl)));
      }
    where
      off : ¬ In P.t (vertices L)
      off = f.apart L h_l (inner_in P.s L hs)

      stays : In L (split_at P.t links)
      stays = ⊎_elim (λ r. r.1) (λ r. absurd (off (inner_in P.t L r.0))) (kept P.t links L h_l)

      distinct : edge M.s M.t ≢ edge L.s L.t
      distinct e = off (inner_in P.t L (rw (ends_one links pr.share_one M L hM h_l (ends_differ M (pr.is_path M hM).nodup) e) at ht))

  -- TAKING A PATH IN IS ONE ADDITION, the one that the places of its ends give.
  pub added : (a : Place P.s links) (b : Place P.t links) → Added a b (topological (taken links P))
  added (branch h) (branch k) = both_branch h k
  added (inner L h i) (branch k) = first_inner L h i k
  added (branch h) (inner M k j) = second_inner h M k j
  added (inner L h i) (inner M k j) = both_inner L M h i k j

  pub addition : Addition (topological links) (topological (taken links P))
  addition = let a = place links P.s f.from in let b = place links P.t f.upto in added-addition a b H (added a b)

  pub simple_again : IsSimple (topological (taken links P))
  simple_again = topological-simple E (taken links P) (suc k) (tally_step E esym links k t P f)

-- A BUILD WITH EVERY VERTEX AS A BRANCH VERTEX: each link is a single edge, so the edges used are the ends of the links.
module _ (g : Graph) (p : Simple g) (links : List Path) (k : ℕ) (t : Tally (Adj g) links k) (all-branch : (z : ℕ) → z < g.n → IsBranch z links) where
  bare : (L : Path) → In L links → L.inner ≡ []
  bare L h = empty L.inner (λ w i. inner_no_branch (Adj g) links k t L h w i (all-branch w (path-low g p L (t.invariant.is_path L h) w (inner_in w L i))))
    where
      empty : (l : List ℕ) → ((w : ℕ) → ¬ In w l) → l ≡ []
      empty [] f = refl
      empty (x ∷ l) f = absurd (f x (inl refl))

  path-edges : (L : Path) → In L links → path_edges L ≡ edge L.s L.t ∷ []
  path-edges L h = ap (λ (l : List ℕ). edges_along L.s l L.t) (bare L h)

  pub link-used : (e : ℕ × ℕ) → In e (link_ends links) → In e (used_edges links)
  link-used e h = let r = edge-link links e h in in_used links e r.0 r.1 (rw (path-edges r.0 r.1) (inl r.2))

  pub used_link : (e : ℕ × ℕ) → In e (used_edges links) → In e (link_ends links)
  used_link e h = let r = used_in links e h in rw (in_single e (edge r.0.s r.0.t) (rw (path-edges r.0 r.1) at r.2)) (link-edge links r.0 r.1)

-- A FINISHED BUILD.
module _ (g : Graph) (p : Simple g) where
  module _ {a b c d : ℕ} {start further : List Path} (t : BuildRules g a b c d start further) where
    sub : Subdivision (Adj g) start
    sub = start-subdivision g a b c d start t.first

    done : Tally (Adj g) (final start further) (length further)
    done = tally (Adj g) p.symmetric start further sub t.steps

    to_edge : (e : ℕ × ℕ) → In e (link_ends (final start further)) → In e (edges g)
    to_edge e h = used_edge g p start further sub t.steps e (link-used g p (final start further) (length further) done t.all-branch e h)

    from_edge : (e : ℕ × ℕ) → In e (edges g) → In e (link_ends (final start further))
    from_edge e h =
        let once = build-once g p start further sub t.steps t.all-branch (omega (arith, t.enough, t.count)) in
        used_link g p (final start further) (length further) done t.all-branch e (used_final start further e (once.used e h))

    low : (z : ℕ) → IsBranch z (final start further) → z < g.n
    low z r = path-low g p r.0 (done.invariant.is_path r.0 r.1) z (end_vertex z r.0 r.2)

    -- ITS TOPOLOGICAL GRAPH IS THE GRAPH: all vertices below n, and exactly the edges.
    pub finished_graph : SameGraph (topological (final start further)) (listed_graph g)
    finished_graph = record {
      vertices = ((λ z h. below_in g.n z (low z (vertex-branch (final start further) z h))), (λ z h. branch_vertex (final start further) z (t.all-branch z (in_below g.n z h))));
      edges = (to_edge, from_edge);
    }

-- BG-SEQUENCE: "a sequence of BG-operations that constructs" a graph, here from F; every graph on the way is simple.
pub data BGSequence (F : TGraph) : TGraph → Type 0 where
  none : {G : TGraph} → IsSimple G → SameGraph F G → BGSequence F G
  then : {G H : TGraph} → BGSequence F G → Addition G H → IsSimple H → BGSequence F H

-- the last graph of a sequence may be listed in another order
sequence_same : {F G H : TGraph} → BGSequence F G → SameGraph G H → IsSimple H → BGSequence F H
sequence_same (none s e) k h = none h (same_trans e k)
sequence_same (then b a s) k h = then b (addition_same a k) h

additions_sequence : (E : ℕ → ℕ → Type 0) (F : TGraph) (links ps : List Path) → Additions E links ps → BGSequence F (topological links) → BGSequence F (topological (final links ps))
additions_sequence E F links [] a b = b
additions_sequence E F links (P ∷ ps) (o, a, later) b =
    additions_sequence E F (taken links P) ps later (then b (added-addition a.first a.last (topological (taken links P)) a.added) a.simple)

module _ (g : Graph) (p : Simple g) where
  pub listed-simple : IsSimple (listed_graph g)
  listed-simple = record {
    ends = λ e h. let r = edges-in g e h in (below_in g.n e.0 (p.low e.0 e.1 r.1), below_in g.n e.1 (edge-high g p e.0 e.1 r.1), r.0);
    once = edges-nodup g;
  }

  -- A SEQUENCE IN PATH FORM IS ONE OF ADDITIONS, from the complete graph on its four branch vertices to the graph.
  pub bg_sequence : {a b c d : ℕ} {start further : List Path} → IsSequence g a b c d start further → BGSequence (complete a b c d) (listed_graph g)
  bg_sequence {a} {b} {c} {d} {start} {further} q =
      sequence_same (additions_sequence (Adj g) (complete a b c d) start further q.additions (none q.simple (same_sym q.complete-four))) q.whole listed-simple
