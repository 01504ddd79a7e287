-- The built graph is simple throughout; a finished build uses every edge just once, with d - n - 2 further paths, d the number of edges.
use mathlib.Core.Path.{◌≡◌, refl, ap, ◌∙◌, sym, subst}
use mathlib.Core.Logic.{inr, ◌≢◌, inl, ⊎_elim}
use mathlib.Core.List.{List, ◌++◌, ◌∷◌, [], append_assoc, append-nil}
use mathlib.Core.Bool.{Bool, cond, false, true}
use Prim.Native.Nat.{ℕ, ◌+◌, suc, ◌<◌, ◌≤◌}
use native.Mathlib.Omega.{arith}
use lib.ListN.{length, length-append}
use Rattle.connectivity.specs.Lists.{member, In, NoDup}
use Rattle.connectivity.specs.Graph.{Graph, Simple, Adj, edges, edge_count}
use Rattle.connectivity.specs.Path.{edges_along, edge, Path, used_edges, path_edges, vertices, IsPath, End}
use Rattle.connectivity.specs.Build.{split_at, front_part, back_part, take_before, take_after, taken, InBuild, BGPath, end_pairs, Steps, final, link_ends, IsBranch}
use Rattle.connectivity.proofs.Lists.{member-in, in_right, in_left, in_append, nodup_left, nodup_append, nodup_apart, nodup_right, in_swap, fewer, at_most, at_least, nodup_count, pair?, filled}
use Rattle.connectivity.proofs.Paths.{path-consecutive, consecutive_left, consecutive_right, edge_same, consecutive_differ, SamePair, inner_in, end_or_inner, in_inner, built_in_lem, inner_built, branch_built, length_used, length_ends, in_ends, nodup_path, used_in, nodup_inner, length_path, all-vertices, both_ends, end_of_lem, in_used, ends_differ, end_s, end_t, inner_on, inner_not_end, end_vertex, consecutive_edge, inner_vertices}
use Rattle.connectivity.proofs.Edges.{in_edges, path-low, edges-nodup}
use Rattle.connectivity.proofs.Split.{split_list, split_kept, kept_split, piece_of, Piece, piece_inner, piece_in, piece_meet, piece_clear, split_path}
use Rattle.connectivity.proofs.Invariant.{Invariant, taken-invariant}
use Rattle.connectivity.proofs.Start.{Subdivision, the_four, start-invariant, end_start, four-branch, start-ends, clear_start, inner_sole, start-path}

-- The built graph is simple: no two links have the same two ends, and an inner vertex is inside one link, once, and no end.
pub record SimpleBuild (links : List Path) : Type 0 where
  pub ends_once : NoDup (link_ends links)
  pub inner_once : NoDup (inner_vertices links)
  pub inner_only : (w : ℕ) → In w (inner_vertices links) → ¬ IsBranch w links

-- Every edge of the graph is used by the paths just once, and nothing else is.
pub record EachEdgeOnce (g : Graph) (paths : List Path) : Type 0 where
  pub nodup : NoDup (used_edges paths)
  pub is_edge : (e : ℕ × ℕ) → In e (used_edges paths) → In e (edges g)
  pub used : (e : ℕ × ℕ) → In e (edges g) → In e (used_edges paths)

-- splitting keeps the edges, in order
pub edges-cut : (s : ℕ) (p : List ℕ) (x : ℕ) (q : List ℕ) (t : ℕ) → edges_along s (p ++ (x ∷ q)) t ≡ edges_along s p x ++ edges_along x q t
edges-cut s [] x q t = refl
edges-cut s (a ∷ p) x q t = ap (λ (k : List (ℕ × ℕ)). edge s a ∷ k) (edges-cut a p x q t)

pub split_used : (x : ℕ) (ls : List Path) → used_edges (split_at x ls) ≡ used_edges ls
split_used x [] = refl
split_used x (L ∷ ls) = go (member x L.inner) refl (split_used x ls)
  where
    go : (b : Bool) → member x L.inner ≡ b → used_edges (split_at x ls) ≡ used_edges ls → used_edges (cond b (front_part x L ∷ (back_part x L ∷ split_at x ls)) (L ∷ split_at x ls)) ≡ path_edges L ++ used_edges ls
    go false e ih = ap (λ (k : List (ℕ × ℕ)). path_edges L ++ k) ih
    go true e ih =
        let a = path_edges (front_part x L) in
        let b = path_edges (back_part x L) in
        let c : path_edges L ≡ a ++ b = ap (λ (k : List ℕ). edges_along L.s k L.t) (split_list x L.inner (member-in x L.inner e)) ∙ edges-cut L.s (take_before x L.inner) x (take_after x L.inner) L.t in
        ap (λ (k : List (ℕ × ℕ)). a ++ (b ++ k)) ih ∙ sym (append_assoc a b (used_edges ls)) ∙ ap (λ (k : List (ℕ × ℕ)). k ++ used_edges ls) (sym c)

taken-used : (links : List Path) (P : Path) → used_edges (taken links P) ≡ path_edges P ++ used_edges links
taken-used links P = ap (λ (k : List (ℕ × ℕ)). path_edges P ++ k) (split_used P.s (split_at P.t links) ∙ split_used P.t links)

-- the vertices of the build are those of the old one and the inner ones of the path
taken_in : (links : List Path) (P : Path) (w : ℕ) → InBuild w links → InBuild w (taken links P)
taken_in links P w h = let r = split_kept P.s w (split_at P.t links) (split_kept P.t w links h) in (r.0, inr r.1, r.2)

in_taken : (links : List Path) (P : Path) (M : Path) → In M (split_at P.s (split_at P.t links)) → (w : ℕ) → In w (vertices M) → InBuild w links
in_taken links P M hM w h = kept_split P.t w links (kept_split P.s w (split_at P.t links) (M, hM, h))

-- two paths with an edge in common share two vertices
shared_two : (P M : Path) → NoDup (vertices P) → (e : ℕ × ℕ) → In e (path_edges P) → In e (path_edges M) → (x : ℕ) × (y : ℕ) × (x ≢ y) × In x (vertices P) × In y (vertices P) × In x (vertices M) × In y (vertices M)
shared_two P M nd e hP hM =
    let a = path-consecutive P e hP in
    let b = path-consecutive M e hM in
    let u = consecutive_left M b.0 b.1 b.2 in
    let v = consecutive_right M b.0 b.1 b.2 in
    let r = on a.0 a.1 b.0 b.1 u v (edge_same a.0 a.1 b.0 b.1 (sym a.3 ∙ b.3)) in
    (a.0, a.1, consecutive_differ P a.0 a.1 nd a.2, consecutive_left P a.0 a.1 a.2, consecutive_right P a.0 a.1 a.2, r.0, r.1)
  where
    also : {x u : ℕ} → x ≡ u → In u (vertices M) → In x (vertices M)
    also e h = subst (λ (k : ℕ). In k (vertices M)) (sym e) h

    on : (x y u v : ℕ) → In u (vertices M) → In v (vertices M) → SamePair x y u v → In x (vertices M) × In y (vertices M)
    on x y u v hu hv (inl e) = (also e.0 hu, also e.1 hv)
    on x y u v hu hv (inr e) = (also e.0 hv, also e.1 hu)

-- an inner vertex lies on just one link
abbrev pub InnerOnce : List Path → Type 0
InnerOnce links = (L M : Path) → In L links → In M links → (w : ℕ) → In w L.inner → In w (vertices M) → L ≡ M

module _ (E : ℕ → ℕ → Type 0) where
  pub split_inner : (x : ℕ) (links : List Path) → ((L : Path) → In L links → IsPath E L) → InnerOnce links → InnerOnce (split_at x links)
  split_inner x links path once p q hp hq w wp wq = go (piece_of x links p hp) (piece_of x links q hq)
    where
      go : ((L : Path) × In L links × Piece x L p) → ((M : Path) × In M links × Piece x M q) → p ≡ q
      go a b =
          let nd = (path a.0 a.1).nodup in
          let e : a.0 ≡ b.0 = once a.0 b.0 a.1 b.1 w (piece_inner x w a.0 p a.2 wp) (piece_in x w b.0 q b.2 wq) in
          piece_meet x b.0 p q (path b.0 b.1).nodup (rw e at a.2) b.2 w (λ k. piece_clear x a.0 p nd a.2 (rw k at wp)) (inner_in w p wp) wq

  pub taken-inner : (links : List Path) → ((L : Path) → In L links → IsPath E L) → InnerOnce links → (P : Path) → BGPath E links P → InnerOnce (taken links P)
  taken-inner links path once P f = go
    where
      path-t : (L : Path) → In L (split_at P.t links) → IsPath E L
      path-t = split_path E P.t links path

      -- no end of P is inside a link any more
      clear : (M : Path) → In M (split_at P.s (split_at P.t links)) → (w : ℕ) → In w M.inner → ¬ End w P
      clear M h w k e =
          let a = piece_of P.s (split_at P.t links) M h in
          let b = piece_of P.t links a.0 a.1 in
          ⊎_elim (λ j. piece_clear P.s a.0 M (path-t a.0 a.1).nodup a.2 (rw j at k)) (λ j. piece_clear P.t b.0 a.0 (path b.0 b.1).nodup b.2 (rw j at (piece_inner P.s w a.0 M a.2 k))) e

      go : (L M : Path) → In L (taken links P) → In M (taken links P) → (w : ℕ) → In w L.inner → In w (vertices M) → L ≡ M
      go L M (inl e) (inl k) w h j = e ∙ sym k
      go L M (inl e) (inr k) w h j = absurd (f.new w (rw e at h) (in_taken links P M k w j))
      go L M (inr e) (inl k) w h j = absurd (⊎_elim (clear L e w h) (λ i. f.new w i (in_taken links P L e w (inner_in w L h))) (end_or_inner P w (rw k at j)))
      go L M (inr e) (inr k) w h j = split_inner P.s (split_at P.t links) path-t (split_inner P.t links path once) L M e k w h j

-- What a build of k further paths adds up to: its vertices D, each once, its edges, each once, and their number.
pub record Tally (E : ℕ → ℕ → Type 0) (links : List Path) (k : ℕ) : Type 0 where
  pub B : List ℕ
  pub invariant : Invariant E B links
  pub inner_once : InnerOnce links
  pub D : List ℕ
  pub nodup : NoDup D
  pub into : (w : ℕ) → InBuild w links → In w D
  pub back : (w : ℕ) → In w D → InBuild w links
  pub once : NoDup (used_edges links)
  pub size : length (used_edges links) ≡ length D + 2 + k

module _ (E : ℕ → ℕ → Type 0) (esym : (u v : ℕ) → E u v → E v u) where
  pub tally_start : (ls : List Path) → Subdivision E ls → Tally E ls 0
  tally_start ls x =
      let B = the_four x in
      let inv = start-invariant E ls x esym in
      record {
        B = B;
        invariant = inv;
        inner_once = inner;
        D = inner_vertices ls ++ B;
        nodup = x.paths.nodup;
        into = λ w h. ⊎_elim (λ e. in_right w (inner_vertices ls) B (end_start E (the_four x) ls x.paths h.0 h.1 w e)) (λ k. in_left w (inner_vertices ls) B (in_inner h.0 ls w h.1 k)) (end_or_inner h.0 w h.2);
        back = λ w h. built_in_lem ls w (⊎_elim (inner_built ls w) (λ k. branch_built ls w (four-branch E ls x w k)) (in_append w (inner_vertices ls) B h));
        once = used ls (λ L h. h) (ends_links ls (start-ends E ls x));
        size = omega (arith, length_used ls, length-append (inner_vertices ls) B, length_ends ls, ap length x.paths.shape);
      }
    where
      inner : InnerOnce ls
      inner L M h_l hM w h k = ⊎_elim (λ e. absurd (clear_start E (the_four x) ls x.paths L h_l w h (end_start E (the_four x) ls x.paths M hM w e)))
          (λ j. inner_sole ls (nodup_left (inner_vertices ls) (the_four x) x.paths.nodup) L M h_l hM w h j) (end_or_inner M w k)

      ends_links : (ms : List Path) → NoDup (end_pairs ms) → NoDup ms
      ends_links [] nd = tt
      ends_links (M ∷ ms) nd = ((λ h. nd.0 (in_ends ms M h)), ends_links ms nd.1)

      used : (ms : List Path) → ((L : Path) → In L ms → In L ls) → NoDup ms → NoDup (used_edges ms)
      used [] f nd = tt
      used (M ∷ ms) f nd = nodup_append (path_edges M) (used_edges ms) (nodup_path M path) (used ms (λ L h. f L (inr h)) nd.1) apart
        where
          path : NoDup (vertices M)
          path = (start-path E (the_four x) ls x.paths M (f M (inl refl))).nodup

          apart : (e : ℕ × ℕ) → In e (path_edges M) → ¬ In e (used_edges ms)
          apart e h k =
              let r = used_in ms e k in
              let s = shared_two M r.0 path e h r.2 in
              nd.0 (rw ((start-invariant E ls x esym).share_one M r.0 (f M (inl refl)) (f r.0 (inr r.1)) s.0 s.1 s.2 s.3 s.4 s.5 s.6) r.1)

  pub tally_step : (links : List Path) (k : ℕ) → Tally E links k → (P : Path) → BGPath E links P → Tally E (taken links P) (suc k)
  tally_step links k t P f =
      let u = taken-used links P in
      let path = f.is_path.nodup in
      record {
        B = P.s ∷ (P.t ∷ t.B);
        invariant = taken-invariant E esym t.B links t.invariant P f;
        inner_once = taken-inner E links t.invariant.is_path t.inner_once P f;
        D = P.inner ++ t.D;
        nodup = nodup_append P.inner t.D (nodup_inner P path) t.nodup (λ w h j. f.new w h (t.back w j));
        into = λ w h. into w h.0 h.1 h.2;
        back = λ w h. ⊎_elim (λ j. (P, inl refl, inner_in w P j)) (λ j. taken_in links P w (t.back w j)) (in_append w P.inner t.D h);
        once = subst (λ (m : List (ℕ × ℕ)). NoDup m) (sym u) (nodup_append (path_edges P) (used_edges links) (nodup_path P path) t.once apart);
        size = omega (arith, t.size, length-append P.inner t.D, length-append (path_edges P) (used_edges links), length_path P, ap length u);
      }
    where
      old : (w : ℕ) → InBuild w links → In w (P.inner ++ t.D)
      old w h = in_right w P.inner t.D (t.into w h)

      into : (w : ℕ) (L : Path) → In L (taken links P) → In w (vertices L) → In w (P.inner ++ t.D)
      into w L (inl e) h = all-vertices P (P.inner ++ t.D) (old P.s f.from) (old P.t f.upto) (λ z j. in_left z P.inner t.D j) w (rw e at h)
      into w L (inr m) h = old w (in_taken links P L m w h)

      -- an edge of P that a link has: the link holds both ends of P
      apart : (e : ℕ × ℕ) → In e (path_edges P) → ¬ In e (used_edges links)
      apart e h j =
          let r = used_in links e j in
          let s = shared_two P r.0 f.is_path.nodup e h r.2 in
          hit r.0 r.1 (both_ends P s.0 s.1 s.2 (end r.0 r.1 s.0 s.3 s.5) (end r.0 r.1 s.1 s.4 s.6)) s.5 s.6
        where
          end : (M : Path) → In M links → (z : ℕ) → In z (vertices P) → In z (vertices M) → End z P
          end M hM z a b = end_of_lem P z a (λ i. f.new z i (M, hM, b))

          hit : (M : Path) → In M links → {x y : ℕ} → SamePair x y P.s P.t → In x (vertices M) → In y (vertices M) → ⊥
          hit M hM (inl e) a b = f.apart M hM (subst (λ (k : ℕ). In k (vertices M)) e.0 a) (subst (λ (k : ℕ). In k (vertices M)) e.1 b)
          hit M hM (inr e) a b = f.apart M hM (subst (λ (k : ℕ). In k (vertices M)) e.1 b) (subst (λ (k : ℕ). In k (vertices M)) e.0 a)

  pub tally_steps : (links ps : List Path) (k : ℕ) → Tally E links k → Steps E links ps → Tally E (final links ps) (k + length ps)
  tally_steps links [] k t s = subst (λ (m : ℕ). Tally E links m) (omega arith) t
  tally_steps links (P ∷ ps) k t s = subst (λ (m : ℕ). Tally E (final (taken links P) ps) m) (omega arith) (tally_steps (taken links P) ps (suc k) (tally_step links k t P s.0) s.1)

  pub tally : (start further : List Path) → Subdivision E start → Steps E start further → Tally E (final start further) (length further)
  tally start further x s = subst (λ (m : ℕ). Tally E (final start further) m) (omega arith) (tally_steps start further 0 (tally_start start x) s)

-- THE BUILT GRAPH IS SIMPLE, after the start and after every accepted path.
module _ (E : ℕ → ℕ → Type 0) (links : List Path) (k : ℕ) (t : Tally E links k) where
  nodup_links : (ms : List Path) → NoDup (used_edges ms) → NoDup ms
  nodup_links [] nd = tt
  nodup_links (M ∷ ms) nd = ((λ h. nodup_apart (path_edges M) (used_edges ms) nd (first M.inner) (first_in M.inner) (in_used ms (first M.inner) M h (first_in M.inner))), nodup_links ms (nodup_right (path_edges M) (used_edges ms) nd))
    where
      first : List ℕ → ℕ × ℕ
      first [] = edge M.s M.t
      first (a ∷ l) = edge M.s a

      first_in : (l : List ℕ) → In (first l) (edges_along M.s l M.t)
      first_in [] = inl refl
      first_in (a ∷ l) = inl refl

  pub tally_simple : SimpleBuild links
  tally_simple = record { ends_once = ends links (λ L h. h) (nodup_links links t.once); inner_once = inner links (λ L h. h) (nodup_links links t.once); inner_only = only }
    where
      path : (L : Path) → In L links → NoDup (vertices L)
      path L h = (t.invariant.is_path L h).nodup

      end_link : (ms : List Path) (e : ℕ × ℕ) → In e (link_ends ms) → (M : Path) × In M ms × (e ≡ edge M.s M.t)
      end_link [] e h = absurd h
      end_link (M ∷ ms) e (inl i) = (M, inl refl, i)
      end_link (M ∷ ms) e (inr h) = let r = end_link ms e h in (r.0, inr r.1, r.2)

      same : (L M : Path) → In L links → In M links → SamePair L.s L.t M.s M.t → L ≡ M
      same L M h_l hM (inl e) = t.invariant.share_one L M h_l hM L.s L.t (ends_differ L (path L h_l)) (end_s L) (end_t L) (subst (λ (k : ℕ). In k (vertices M)) (sym e.0) (end_s M)) (subst (λ (k : ℕ). In k (vertices M)) (sym e.1) (end_t M))
      same L M h_l hM (inr e) = t.invariant.share_one L M h_l hM L.s L.t (ends_differ L (path L h_l)) (end_s L) (end_t L) (subst (λ (k : ℕ). In k (vertices M)) (sym e.0) (end_t M)) (subst (λ (k : ℕ). In k (vertices M)) (sym e.1) (end_s M))

      ends : (ms : List Path) → ((L : Path) → In L ms → In L links) → NoDup ms → NoDup (link_ends ms)
      ends [] f nd = tt
      ends (M ∷ ms) f nd = ((λ h. let r = end_link ms (edge M.s M.t) h in nd.0 (rw (same M r.0 (f M (inl refl)) (f r.0 (inr r.1)) (edge_same M.s M.t r.0.s r.0.t r.2)) r.1)), ends ms (λ L h. f L (inr h)) nd.1)

      inner : (ms : List Path) → ((L : Path) → In L ms → In L links) → NoDup ms → NoDup (inner_vertices ms)
      inner [] f nd = tt
      inner (M ∷ ms) f nd = nodup_append M.inner (inner_vertices ms) (nodup_inner M (path M (f M (inl refl)))) (inner ms (λ L h. f L (inr h)) nd.1)
          (λ w h j. let r = inner_on ms w j in nd.0 (rw (t.inner_once M r.0 (f M (inl refl)) (f r.0 (inr r.1)) w h (inner_in w r.0 r.2)) r.1))

      only : (w : ℕ) → In w (inner_vertices links) → ¬ IsBranch w links
      only w h b =
          let r = inner_on links w h in
          inner_not_end b.0 (path b.0 b.1) w (rw (t.inner_once r.0 b.0 r.1 b.1 w r.2 (end_vertex w b.0 b.2)) at r.2) b.2

-- The edges that the start and the further paths use are those of the links at the end.
pub used_append : (ls ms : List Path) → used_edges (ls ++ ms) ≡ used_edges ls ++ used_edges ms
used_append [] ms = refl
used_append (L ∷ ls) ms = ap (λ (k : List (ℕ × ℕ)). path_edges L ++ k) (used_append ls ms) ∙ sym (append_assoc (path_edges L) (used_edges ls) (used_edges ms))

-- with one path more: it stands in front at the end, and behind in the list
taken-both : (links : List Path) (P : Path) (ps : List Path) → used_edges (taken links P) ++ used_edges ps ≡ path_edges P ++ (used_edges links ++ used_edges ps)
taken-both links P ps = ap (λ (k : List (ℕ × ℕ)). k ++ used_edges ps) (taken-used links P) ∙ append_assoc (path_edges P) (used_edges links) (used_edges ps)

in_final : (links ps : List Path) (e : ℕ × ℕ) → In e (used_edges links ++ used_edges ps) → In e (used_edges (final links ps))
in_final links [] e h = rw append-nil at h
in_final links (P ∷ ps) e h = in_final (taken links P) ps e (subst (λ (k : List (ℕ × ℕ)). In e k) (sym (taken-both links P ps)) (in_swap e (used_edges links) (path_edges P) (used_edges ps) h))

final-in : (links ps : List Path) (e : ℕ × ℕ) → In e (used_edges (final links ps)) → In e (used_edges links ++ used_edges ps)
final-in links [] e h = rw append-nil h
final-in links (P ∷ ps) e h = in_swap e (path_edges P) (used_edges links) (used_edges ps) (subst (λ (k : List (ℕ × ℕ)). In e k) (taken-both links P ps) (final-in (taken links P) ps e h))

length_final : (links ps : List Path) → length (used_edges (final links ps)) ≡ length (used_edges links) + length (used_edges ps)
length_final links [] = omega arith
length_final links (P ∷ ps) = let ih = length_final (taken links P) ps in omega (arith, ap length (taken-used links P), length-append (path_edges P) (used_edges links), length-append (path_edges P) (used_edges ps))

pub used_final : (links ps : List Path) (e : ℕ × ℕ) → In e (used_edges (links ++ ps)) → In e (used_edges (final links ps))
used_final links ps e h = in_final links ps e (subst (λ (k : List (ℕ × ℕ)). In e k) (used_append links ps) h)

module _ (g : Graph) (p : Simple g) (start further : List Path) (x : Subdivision (Adj g) start) (s : Steps (Adj g) start further) where
  built : Tally (Adj g) (final start further) (length further)
  built = tally (Adj g) p.symmetric start further x s

  pub build-simple : SimpleBuild (final start further)
  build-simple = tally_simple (Adj g) (final start further) (length further) built

  pub used_edge : (e : ℕ × ℕ) → In e (used_edges (final start further)) → In e (edges g)
  used_edge e h =
      let r = used_in (final start further) e h in
      let w = path-consecutive r.0 e r.2 in
      rw w.3 (in_edges g p w.0 w.1 (consecutive_edge (Adj g) r.0 w.0 w.1 (built.invariant.is_path r.0 r.1) w.2))

  build-low : (w : ℕ) → In w built.D → w < g.n
  build-low w h = let r = built.back w h in path-low g p r.0 (built.invariant.is_path r.0 r.1) w r.2

  -- THE EDGES USED ARE NEVER MORE THAN THOSE OF THE GRAPH.
  pub used_most : length (used_edges (final start further)) ≤ edge_count g
  used_most = fewer (used_edges (final start further)) (edges g) built.once used_edge

  module _ (all-branch : (z : ℕ) → z < g.n → IsBranch z (final start further)) where
    all-built : length built.D ≡ g.n
    all-built = omega (arith, at_most g.n built.D built.nodup build-low, at_least g.n built.D (λ w h. let r = all-branch w h in built.into w (r.0, r.1, end_vertex w r.0 r.2)))

    -- THE NUMBER OF FURTHER PATHS of a build that has every vertex as a branch vertex and uses every edge.
    pub build-count : ((e : ℕ × ℕ) → In e (edges g) → In e (used_edges (final start further))) → length further + g.n + 2 ≡ edge_count g
    build-count f = omega (arith, built.size, all-built, used_most, fewer (edges g) (used_edges (final start further)) (edges-nodup g) f)

    -- EVERY EDGE IS USED JUST ONCE where that is the number.
    pub build-once : length further + g.n + 2 ≡ edge_count g → EachEdgeOnce g (start ++ further)
    build-once e = record {
      nodup = nodup_count pair? (used_edges (start ++ further)) (edges g) (edges-nodup g) used (omega (arith, n, length_final start further, ap length (used_append start further), length-append (used_edges start) (used_edges further)));
      is_edge = λ f h. used_edge f (used_final start further f h);
      used = used;
    }
      where
        n : length (used_edges (final start further)) ≡ edge_count g
        n = omega (arith, built.size, all-built, e)

        used : (f : ℕ × ℕ) → In f (edges g) → In f (used_edges (start ++ further))
        used f h = subst (λ (k : List (ℕ × ℕ)). In f k) (sym (used_append start further)) (final-in start further f (filled pair? (used_edges (final start further)) (edges g) built.once used_edge (omega (arith, n)) f h))
