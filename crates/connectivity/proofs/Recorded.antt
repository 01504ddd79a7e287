-- A build as the list of its whole paths, newest first; nothing else is kept, and no path is ever split. Its branch vertices are
-- the ends of its paths. Putting vertices into a path keeps the record (the reroute).
use mathlib.Core.Path.{◌≡◌, refl, ◌∙◌, sym, ap, subst}
use mathlib.Core.Logic.{◌⊎◌, inl, inr, ⊎_elim, ⊎_map}
use mathlib.Core.List.{List, [], ◌∷◌, ◌++◌, append_assoc, append-nil}
use Prim.Native.Nat.{ℕ, ◌<◌, ◌+◌}
use native.Mathlib.Omega.{arith}
use lib.ListN.{length, length-append}
use Rattle.connectivity.specs.Lists.{In, NoDup}
use Rattle.connectivity.specs.Path.{Path, IsPath, vertices, End, link, Along, used_edges, path_edges}
use Rattle.connectivity.specs.Build.{InBuild, end_pairs}
use Rattle.connectivity.proofs.Lists.{beside, nodup_left, nodup_right, nodup_apart, in_left, in_right, in_append, nodup_append}
use Rattle.connectivity.proofs.Order.{Separates, Between, in_insert, insert_in, between-insert, nodup_insert}
use Rattle.connectivity.proofs.Paths.{built_vertices, branch_vertices, built_in_lem, in_inner, end_or_inner, inner_of, in_built, inner_in, end_s, end_t, nodup_inner, inner_built, branch_built, last_of, head_of, along-join, Consecutive, length_path, inner_vertices}
use Rattle.connectivity.proofs.Start.{Subdivision, start-path, the_four, subdivision_differ, four-branch, clear_start, end_start}

-- s and t are not both on one link of l: a branch vertex stands between them
abbrev pub Apart : List ℕ → List ℕ → ℕ → ℕ → Type 0
Apart B l s t = In s l → In t l → (z : ℕ) × In z B × Separates z s t l

-- a further path, said of whole paths
pub record Extends (E : ℕ → ℕ → Type 0) (ls : List Path) (P : Path) : Type 0 where
  pub is_path : IsPath E P
  pub from : In P.s (built_vertices ls)
  pub upto : In P.t (built_vertices ls)
  pub new : (w : ℕ) → In w P.inner → ¬ In w (built_vertices ls)
  pub apart : (M : Path) → In M ls → Apart (branch_vertices ls) (vertices M) P.s P.t

-- THE RECORD: six paths of a start, and further ones.
abbrev pub Recorded : (E : ℕ → ℕ → Type 0) → List Path → Type 0
Recorded E [] = ⊥
Recorded E (P ∷ ls) = Subdivision E (P ∷ ls) ⊎ (Extends E ls P × Recorded E ls)

pub recorded_path : (E : ℕ → ℕ → Type 0) (ls : List Path) → Recorded E ls → (L : Path) → In L ls → IsPath E L
recorded_path E [] v L h = absurd h
recorded_path E (P ∷ ls) (inl x) L h = start-path E (the_four x) (P ∷ ls) x.paths L h
recorded_path E (P ∷ ls) (inr f) L (inl e) = rw e f.0.is_path
recorded_path E (P ∷ ls) (inr f) L (inr h) = recorded_path E ls f.1 L h

-- four different branch vertices
pub recorded_four : (E : ℕ → ℕ → Type 0) (ls : List Path) → Recorded E ls → (B : List ℕ) × NoDup B × (length B ≡ 4) × ((w : ℕ) → In w B → In w (branch_vertices ls))
recorded_four E [] v = absurd v
recorded_four E (P ∷ ls) (inl x) = (the_four x, subdivision_differ E (P ∷ ls) x, refl, four-branch E (P ∷ ls) x)
recorded_four E (P ∷ ls) (inr f) = let r = recorded_four E ls f.1 in (r.0, r.1, r.2, λ w h. inr (inr (r.3 w h)))

-- a branch vertex that is not in a list of at most three
pub branch_beside : (E : ℕ → ℕ → Type 0) (ls : List Path) → Recorded E ls → (l : List ℕ) → length l < 4 → (z : ℕ) × In z (branch_vertices ls) × (¬ In z l)
branch_beside E ls v l h = let r = recorded_four E ls v in let z = beside r.0 l r.1 (omega (arith, r.2)) in (z.0, r.3 z.0 z.1, z.2)

-- inner vertices are new when their path is taken
abbrev Fresh : List Path → Type 0
Fresh [] = Unit {0}
Fresh (P ∷ ls) = ((w : ℕ) → In w P.inner → ¬ In w (built_vertices ls)) × Fresh ls

recorded_fresh : (E : ℕ → ℕ → Type 0) (ls : List Path) → Recorded E ls → Fresh ls
recorded_fresh E [] v = tt
recorded_fresh E (P ∷ ls) (inl x) = of (P ∷ ls) (λ L h. h) (nodup_left (inner_vertices (P ∷ ls)) (the_four x) x.paths.nodup)
  where
    of : (ms : List Path) → ((L : Path) → In L ms → In L (P ∷ ls)) → NoDup (inner_vertices ms) → Fresh ms
    of [] f nd = tt
    of (M ∷ ms) f nd = ((λ w h k. off w h (built_in_lem ms w k)), of ms (λ L h. f L (inr h)) (nodup_right M.inner (inner_vertices ms) nd))
      where
        off : (w : ℕ) → In w M.inner → ¬ InBuild w ms
        off w h r = ⊎_elim (λ e. clear_start E (the_four x) (P ∷ ls) x.paths M (f M (inl refl)) w h (end_start E (the_four x) (P ∷ ls) x.paths r.0 (f r.0 (inr r.1)) w e))
            (λ j. nodup_apart M.inner (inner_vertices ms) nd w h (in_inner r.0 ms w r.1 j)) (end_or_inner r.0 w r.2)
recorded_fresh E (P ∷ ls) (inr f) = (f.0.new, recorded_fresh E ls f.1)

-- a vertex that is no branch vertex is on one path only
pub recorded_sole : (E : ℕ → ℕ → Type 0) (ls : List Path) → Recorded E ls → (L M : Path) → In L ls → In M ls → (w : ℕ) → In w (vertices L) → In w (vertices M) → ¬ In w (branch_vertices ls) → L ≡ M
recorded_sole E ls v = sole ls (recorded_fresh E ls v)
  where
    not_end : (P : Path) (ls : List Path) (w : ℕ) → ¬ In w (branch_vertices (P ∷ ls)) → ¬ End w P
    not_end P ls w n e = n (⊎_map (λ k. k) inl e)

    sole : (ls : List Path) → Fresh ls → (L M : Path) → In L ls → In M ls → (w : ℕ) → In w (vertices L) → In w (vertices M) → ¬ In w (branch_vertices ls) → L ≡ M
    sole [] f L M h_l hM w a b n = absurd h_l
    sole (P ∷ ls) f L M (inl e) (inl k) w a b n = e ∙ sym k
    sole (P ∷ ls) f L M (inl e) (inr k) w a b n = absurd (f.0 w (inner_of P w (rw e at a) (not_end P ls w n)) (in_built M ls w k b))
    sole (P ∷ ls) f L M (inr e) (inl k) w a b n = absurd (f.0 w (inner_of P w (rw k at b) (not_end P ls w n)) (in_built L ls w e a))
    sole (P ∷ ls) f L M (inr e) (inr k) w a b n = sole ls f.1 L M e k w a b (λ j. n (inr (inr j)))

-- THE REROUTE. M is L with vertices of q put in.
pub record Wider (q : List ℕ) (L M : Path) : Type 0 where
  pub s_eq : M.s ≡ L.s
  pub t_eq : M.t ≡ L.t
  pub keep : (w : ℕ) → In w (vertices L) → In w (vertices M)
  pub only : (w : ℕ) → In w (vertices M) → In w (vertices L) ⊎ In w q
  pub between : (s z t : ℕ) → Between s z t (vertices L) → Between s z t (vertices M)
  pub inner : (w : ℕ) → In w M.inner → In w L.inner ⊎ In w q

data Grow (q : List ℕ) : List Path → List Path → Type 0 where
  none : Grow q [] []
  both : {L M : Path} {ls ms : List Path} → Wider q L M → Grow q ls ms → Grow q (L ∷ ls) (M ∷ ms)

grow_refl : (q : List ℕ) (ls : List Path) → Grow q ls ls
grow_refl q [] = none
grow_refl q (L ∷ ls) = both (record { s_eq = refl; t_eq = refl; keep = λ w h. h; only = λ w h. inl h; between = λ s z t h. h; inner = λ w h. inl h }) (grow_refl q ls)

grow_at : (q : List ℕ) (newer : List Path) (L M : Path) (older : List Path) → Wider q L M → Grow q (newer ++ (L ∷ older)) (newer ++ (M ∷ older))
grow_at q [] L M older w = both w (grow_refl q older)
grow_at q (P ∷ newer) L M older w = both (record { s_eq = refl; t_eq = refl; keep = λ w h. h; only = λ w h. inl h; between = λ s z t h. h; inner = λ w h. inl h }) (grow_at q newer L M older w)

grow_keep : {q : List ℕ} {ls ms : List Path} → Grow q ls ms → (w : ℕ) → In w (built_vertices ls) → In w (built_vertices ms)
grow_keep none w h = h
grow_keep (both {L = L} {M = M} {ls = ls} {ms = ms} a g) w h = ⊎_elim (λ k. in_left w (vertices M) (built_vertices ms) (a.keep w k)) (λ k. in_right w (vertices M) (built_vertices ms) (grow_keep g w k)) (in_append w (vertices L) (built_vertices ls) h)

grow_only : {q : List ℕ} {ls ms : List Path} → Grow q ls ms → (w : ℕ) → In w (built_vertices ms) → In w (built_vertices ls) ⊎ In w q
grow_only none w h = inl h
grow_only (both {L = L} {M = M} {ls = ls} {ms = ms} a g) w h = ⊎_elim (λ k. ⊎_map (in_left w (vertices L) (built_vertices ls)) (λ j. j) (a.only w k))
    (λ k. ⊎_map (in_right w (vertices L) (built_vertices ls)) (λ j. j) (grow_only g w k)) (in_append w (vertices M) (built_vertices ms) h)

grow_branch : {q : List ℕ} {ls ms : List Path} → Grow q ls ms → branch_vertices ms ≡ branch_vertices ls
grow_branch none = refl
grow_branch (both a g) = rw (a.s_eq, a.t_eq, grow_branch g)

grow_ends : {q : List ℕ} {ls ms : List Path} → Grow q ls ms → end_pairs ms ≡ end_pairs ls
grow_ends none = refl
grow_ends (both a g) = rw (a.s_eq, a.t_eq, grow_ends g)

grow_inner : {q : List ℕ} {ls ms : List Path} → Grow q ls ms → (w : ℕ) → In w (inner_vertices ms) → In w (inner_vertices ls) ⊎ In w q
grow_inner none w h = inl h
grow_inner (both {L = L} {M = M} {ls = ls} {ms = ms} a g) w h = ⊎_elim (λ k. ⊎_map (in_left w L.inner (inner_vertices ls)) (λ j. j) (a.inner w k))
    (λ k. ⊎_map (in_right w L.inner (inner_vertices ls)) (λ j. j) (grow_inner g w k)) (in_append w M.inner (inner_vertices ms) h)

grow_old : {q : List ℕ} {ls ms : List Path} → Grow q ls ms → (M : Path) → In M ms → (L : Path) × In L ls × Wider q L M
grow_old none M h = absurd h
grow_old (both {L = L} a g) M (inl e) = (L, inl refl, rw e a)
grow_old (both a g) M (inr h) = let r = grow_old g M h in (r.0, inr r.1, r.2)

module _ (E : ℕ → ℕ → Type 0) (q : List ℕ) where
  -- a path that extends the list extends the wider list
  extends_grow : (ls ms : List Path) (P : Path) → Grow q ls ms → Extends E ls P → ((w : ℕ) → In w q → ¬ In w (vertices P)) → Extends E ms P
  extends_grow ls ms P g f n = record {
    is_path = f.is_path;
    from = grow_keep g P.s f.from;
    upto = grow_keep g P.t f.upto;
    new = λ w h k. ⊎_elim (f.new w h) (λ j. n w j (inner_in w P h)) (grow_only g w k);
    apart = λ M h. apart M (grow_old g M h);
  }
    where
      old : (L M : Path) → Wider q L M → (w : ℕ) → In w (vertices P) → In w (vertices M) → In w (vertices L)
      old L M a w p h = ⊎_elim (λ k. k) (λ k. absurd (n w k p)) (a.only w h)

      apart : (M : Path) → ((L : Path) × In L ls × Wider q L M) → Apart (branch_vertices ms) (vertices M) P.s P.t
      apart M r hs ht =
          let c = f.apart r.0 r.1 (old r.0 M r.2 P.s (end_s P) hs) (old r.0 M r.2 P.t (end_t P) ht) in
          (c.0, rw (grow_branch g) c.1, ⊎_map (r.2.between P.s c.0 P.t) (r.2.between P.t c.0 P.s) c.2)

  -- the widened path extends where the old one did
  extends_self : (ls : List Path) (L M : Path) → Wider q L M → IsPath E M → Extends E ls L → ((w : ℕ) → In w q → ¬ In w (built_vertices ls)) → Extends E ls M
  extends_self ls L M a path f n = record {
    is_path = path;
    from = rw a.s_eq f.from;
    upto = rw a.t_eq f.upto;
    new = λ w h k. ⊎_elim (λ j. f.new w j k) (λ j. n w j k) (a.inner w h);
    apart = λ N h. subst (λ (s : ℕ). Apart (branch_vertices ls) (vertices N) s M.t) (sym a.s_eq) (subst (λ (t : ℕ). Apart (branch_vertices ls) (vertices N) L.s t) (sym a.t_eq) (f.apart N h));
  }

  module _ (L M : Path) (older : List Path) (a : Wider q L M) (path : IsPath E M) where
    inner_nodup : (B : List ℕ) (newer : List Path) → NoDup (inner_vertices (newer ++ (L ∷ older)) ++ B) → ((w : ℕ) → In w q → ¬ In w (inner_vertices (newer ++ (L ∷ older)) ++ B)) → NoDup (inner_vertices (newer ++ (M ∷ older)) ++ B)
    inner_nodup B [] nd n =
        let k : NoDup (L.inner ++ (inner_vertices older ++ B)) = rw append_assoc at nd in
        rw append_assoc (nodup_append M.inner (inner_vertices older ++ B) (nodup_inner M path.nodup) (nodup_right L.inner (inner_vertices older ++ B) k)
        (λ w h j. ⊎_elim (λ i. nodup_apart L.inner (inner_vertices older ++ B) k w i j) (λ i. n w i (rw append_assoc (in_right w L.inner (inner_vertices older ++ B) j))) (a.inner w h)))
    inner_nodup B (P ∷ newer) nd n =
        let k : NoDup (P.inner ++ (inner_vertices (newer ++ (L ∷ older)) ++ B)) = rw append_assoc at nd in
        let n' : (w : ℕ) → In w q → ¬ In w (P.inner ++ (inner_vertices (newer ++ (L ∷ older)) ++ B)) = λ w h j. n w h (rw append_assoc j) in
        rw append_assoc (nodup_append P.inner (inner_vertices (newer ++ (M ∷ older)) ++ B) (nodup_left P.inner (inner_vertices (newer ++ (L ∷ older)) ++ B) k)
        (inner_nodup B newer (nodup_right P.inner (inner_vertices (newer ++ (L ∷ older)) ++ B) k) (λ w h j. n' w h (in_right w P.inner (inner_vertices (newer ++ (L ∷ older)) ++ B) j)))
        (λ w h j. off w h k n' (in_append w (inner_vertices (newer ++ (M ∷ older))) B j)))
      where
        off : (w : ℕ) → In w P.inner → NoDup (P.inner ++ (inner_vertices (newer ++ (L ∷ older)) ++ B))
            → ((w : ℕ) → In w q → ¬ In w (P.inner ++ (inner_vertices (newer ++ (L ∷ older)) ++ B))) → In w (inner_vertices (newer ++ (M ∷ older))) ⊎ In w B → ⊥
        off w h k n' (inr j) = nodup_apart P.inner (inner_vertices (newer ++ (L ∷ older)) ++ B) k w h (in_right w (inner_vertices (newer ++ (L ∷ older))) B j)
        off w h k n' (inl j) = ⊎_elim (λ i. nodup_apart P.inner (inner_vertices (newer ++ (L ∷ older)) ++ B) k w h (in_left w (inner_vertices (newer ++ (L ∷ older))) B i))
            (λ i. n' w i (in_left w P.inner (inner_vertices (newer ++ (L ∷ older)) ++ B) h)) (grow_inner (grow_at q newer L M older a) w j)

    subdivision_replace : (newer : List Path) → ((w : ℕ) → In w q → ¬ In w (built_vertices (newer ++ (L ∷ older)))) → Subdivision E (newer ++ (L ∷ older)) → Subdivision E (newer ++ (M ∷ older))
    subdivision_replace newer n x = record {
      p = x.p;
      q = x.q;
      r = x.r;
      s = x.s;
      pq = x.pq;
      qr = x.qr;
      rs = x.rs;
      paths = record {
        shape = grow_ends (grow_at q newer L M older a) ∙ x.paths.shape;
        along = λ N h. ⊎_elim (λ k. x.paths.along N (in_left N newer (L ∷ older) k)) (λ k. ⊎_elim (λ e. rw e path.along) (λ j. x.paths.along N (in_right N newer (L ∷ older) (inr j))) k) (in_append N newer (M ∷ older) h);
        nodup = inner_nodup (the_four x) newer x.paths.nodup
            (λ w h k. n w h (⊎_elim (inner_built (newer ++ (L ∷ older)) w) (λ j. branch_built (newer ++ (L ∷ older)) w (four-branch E (newer ++ (L ∷ older)) x w j)) (in_append w (inner_vertices (newer ++ (L ∷ older))) (the_four x) k)));
      };
    }

    recorded_replace : (newer : List Path) → ((w : ℕ) → In w q → ¬ In w (built_vertices (newer ++ (L ∷ older)))) → Recorded E (newer ++ (L ∷ older)) → Recorded E (newer ++ (M ∷ older))
    recorded_replace [] n (inl x) = inl (subdivision_replace [] n x)
    recorded_replace [] n (inr f) = inr (extends_self older L M a path f.0 (λ w h k. n w h (in_right w (vertices L) (built_vertices older) k)), f.1)
    recorded_replace (P ∷ newer) n (inl x) = inl (subdivision_replace (P ∷ newer) n x)
    recorded_replace (P ∷ newer) n (inr f) = inr (
      extends_grow (newer ++ (L ∷ older)) (newer ++ (M ∷ older)) P (grow_at q newer L M older a) f.0 (λ w h k. n w h (in_left w (vertices P) (built_vertices (newer ++ (L ∷ older))) k)),
      recorded_replace newer (λ w h k. n w h (in_right w (vertices P) (built_vertices (newer ++ (L ∷ older))) k)) f.1,
    )

-- the path with q put in behind the first part of its inner vertices
abbrev pub fill : Path → List ℕ → List ℕ → List ℕ → Path
fill L u q v = link L.s (u ++ (q ++ v)) L.t

along-fill : (E : ℕ → ℕ → Type 0) (s : ℕ) (u q v : List ℕ) (t : ℕ) → Along E s (u ++ v) t → Along E (last_of s u) q (head_of v t) → Along E s (u ++ (q ++ v)) t
along-fill E s [] q [] t a b = rw append-nil b
along-fill E s [] q (c ∷ v) t a b = along-join E s q c v t b a.1
along-fill E s (c ∷ u) q v t a b = (a.0, along-fill E c u q v t a.1 b)

module _ (L : Path) (u q v : List ℕ) (e : L.inner ≡ u ++ v) where
  old_vertices : vertices L ≡ (L.s ∷ u) ++ (v ++ (L.t ∷ []))
  old_vertices = rw e (ap (λ (k : List ℕ). L.s ∷ k) (append_assoc u v (L.t ∷ [])))

  new_vertices_lem : vertices (fill L u q v) ≡ (L.s ∷ u) ++ (q ++ (v ++ (L.t ∷ [])))
  new_vertices_lem = ap (λ (k : List ℕ). L.s ∷ k) (simp append_assoc)

  fill_wider : Wider q L (fill L u q v)
  fill_wider = record {
    s_eq = refl;
    t_eq = refl;
    keep = λ w h. subst (λ (k : List ℕ). In w k) (sym new_vertices_lem) (in_insert w (L.s ∷ u) q (v ++ (L.t ∷ [])) (subst (λ (k : List ℕ). In w k) old_vertices h));
    only = λ w h. ⊎_map (subst (λ (k : List ℕ). In w k) (sym old_vertices)) (λ k. k) (insert_in w (L.s ∷ u) q (v ++ (L.t ∷ [])) (subst (λ (k : List ℕ). In w k) new_vertices_lem h));
    between = λ a z b h. subst (λ (k : List ℕ). Between a z b k) (sym new_vertices_lem) (between-insert a z b (L.s ∷ u) q (v ++ (L.t ∷ [])) (subst (λ (k : List ℕ). Between a z b k) old_vertices h));
    inner = λ w h. rw e (insert_in w u q v h);
  }

  fill_path : (E : ℕ → ℕ → Type 0) → IsPath E L → Along E (last_of L.s u) q (head_of v L.t) → NoDup q → ((w : ℕ) → In w q → ¬ In w (vertices L)) → IsPath E (fill L u q v)
  fill_path E g y nd n = record {
    along = along-fill E L.s u q v L.t (rw e at g.along) y;
    nodup = subst (λ (k : List ℕ). NoDup k) (sym new_vertices_lem) (nodup_insert (L.s ∷ u) q (v ++ (L.t ∷ [])) (subst (λ (k : List ℕ). NoDup k) old_vertices g.nodup) nd (λ w h k. n w h (subst (λ (k : List ℕ). In w k) (sym old_vertices) k)));
  }

-- x and y are neighbours on the path L of the record newer ++ (L ∷ older); the new vertices q lead from x to y
module _ (E : ℕ → ℕ → Type 0) (newer : List Path) (L : Path) (older : List Path) (val : Recorded E (newer ++ (L ∷ older))) (x y : ℕ) (g : Consecutive L x y)
    (q : List ℕ) (along : Along E x q y) (nodup : NoDup q) (new : (w : ℕ) → In w q → ¬ In w (built_vertices (newer ++ (L ∷ older)))) where
  abbrev pub rerouted : List Path
  rerouted = newer ++ (fill L g.u q g.v ∷ older)

  pub reroute-branch : branch_vertices rerouted ≡ branch_vertices (newer ++ (L ∷ older))
  reroute-branch = grow_branch (grow_at q newer L (fill L g.u q g.v) older (fill_wider L g.u q g.v g.cut))

  pub reroute : Recorded E rerouted
  reroute =
      let h_l = in_right L newer (L ∷ older) (inl refl) in
      let path = fill_path L g.u q g.v g.cut E (recorded_path E (newer ++ (L ∷ older)) val L h_l) (rw (← g.left, ← g.right) along) nodup (λ w h k. new w h (in_built L (newer ++ (L ∷ older)) w h_l k)) in
      recorded_replace E q L (fill L g.u q g.v) older (fill_wider L g.u q g.v g.cut) path newer new val

  -- the reroute uses more edges
  pub reroute-longer : length (used_edges rerouted) ≡ length (used_edges (newer ++ (L ∷ older))) + length q
  reroute-longer = go newer
    where
      M : Path
      M = fill L g.u q g.v

      filled_length : length M.inner ≡ length L.inner + length q
      filled_length = omega (arith, length-append g.u (q ++ g.v), length-append q g.v, length-append g.u g.v, ap length g.cut)

      go : (newer : List Path) → length (used_edges (newer ++ (fill L g.u q g.v ∷ older))) ≡ length (used_edges (newer ++ (L ∷ older))) + length q
      go [] = omega (arith, filled_length, length-append (path_edges L) (used_edges older), length-append (path_edges (fill L g.u q g.v)) (used_edges older), length_path L, length_path (fill L g.u q g.v))
      go (P ∷ newer) = let ih = go newer in omega (arith, length-append (path_edges P) (used_edges (newer ++ (L ∷ older))), length-append (path_edges P) (used_edges (newer ++ (fill L g.u q g.v ∷ older))))
