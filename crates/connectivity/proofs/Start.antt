-- The start: six paths between four branch vertices that meet only at their ends (a subdivision of the complete graph on four vertices).
use mathlib.Core.Path.{◌≡◌, ap, ◌∙◌, sym, refl, subst}
use mathlib.Core.Logic.{inl, inr, ⊎_elim, ◌≢◌, ◌⊎◌, ⊎_map}
use mathlib.Core.List.{List, [], ◌∷◌, ◌++◌, append_assoc}
use Prim.Native.Nat.{ℕ, ◌<◌}
use native.Mathlib.Omega.{arith}
use native.Mathlib.Decide.{ℕ_discrete}
use Rattle.connectivity.specs.Lists.{In, NoDup}
use Rattle.connectivity.specs.Graph.{Graph, Adj}
use Rattle.connectivity.specs.Path.{Path, Along, IsPath, End, vertices}
use Rattle.connectivity.specs.Build.{end_pairs, four, Starts, StartRules, six_pairs}
use Rattle.connectivity.proofs.Lists.{in_append, in_left, in_right, nodup_append, nodup_swap, nodup_apart, four-differ, nodup_right, nodup_left, nodup_snoc, in_single, beside, either}
use Rattle.connectivity.proofs.Paths.{nodup_inner, in_inner, in_ends, SamePair, ends_in_lem, end_or_inner, branch_vertices, in_branch, same_trans, both_ends, inner_vertices}
use Rattle.connectivity.proofs.Walks.{AllFree, Connected, along-connected, connected_back, Free, Removed, removed-free, all-free?, connected_trans, one_free, here}
use Rattle.connectivity.proofs.Edges.{ascending_nodup}
use Rattle.connectivity.proofs.Invariant.{Invariant}

-- the pairs of a list; of four vertices they are the six pairs
abbrev pub pairs_with : ℕ → List ℕ → List (ℕ × ℕ)
pairs_with a [] = []
pairs_with a (b ∷ l) = (a, b) ∷ pairs_with a l

abbrev pub pairs_of : List ℕ → List (ℕ × ℕ)
pairs_of [] = []
pairs_of (a ∷ l) = pairs_with a l ++ pairs_of l

with-member : (a u v : ℕ) (l : List ℕ) → In {A = ℕ × ℕ} (u, v) (pairs_with a l) → (u ≡ a) × In v l
with-member a u v [] h = absurd h
with-member a u v (b ∷ l) (inl e) = (ap (λ (p : ℕ × ℕ). p.0) e, inl (ap (λ (p : ℕ × ℕ). p.1) e))
with-member a u v (b ∷ l) (inr h) = let r = with-member a u v l h in (r.0, inr r.1)

member-with : (a u v : ℕ) (l : List ℕ) → u ≡ a → In v l → In {A = ℕ × ℕ} (u, v) (pairs_with a l)
member-with a u v [] e h = h
member-with a u v (b ∷ l) e (inl k) = inl (λ i. (e i, k i))
member-with a u v (b ∷ l) e (inr k) = inr (member-with a u v l e k)

pairs_in : (u v : ℕ) (l : List ℕ) → In {A = ℕ × ℕ} (u, v) (pairs_of l) → In u l × In v l
pairs_in u v [] h = absurd h
pairs_in u v (a ∷ l) h = ⊎_elim (λ k. let r = with-member a u v l k in (inl r.0, inr r.1)) (λ k. let r = pairs_in u v l k in (inr r.0, inr r.1)) (in_append {A = ℕ × ℕ} (u, v) (pairs_with a l) (pairs_of l) h)

in_pairs : (u v : ℕ) (l : List ℕ) → In u l → In v l → u ≢ v → In {A = ℕ × ℕ} (u, v) (pairs_of l) ⊎ In {A = ℕ × ℕ} (v, u) (pairs_of l)
in_pairs u v [] hu hv ne = absurd hu
in_pairs u v (a ∷ l) (inl e) (inl k) ne = absurd (ne (e ∙ sym k))
in_pairs u v (a ∷ l) (inl e) (inr k) ne = inl (in_left {A = ℕ × ℕ} (u, v) (pairs_with a l) (pairs_of l) (member-with a u v l e k))
in_pairs u v (a ∷ l) (inr h) (inl k) ne = inr (in_left {A = ℕ × ℕ} (v, u) (pairs_with a l) (pairs_of l) (member-with a v u l k h))
in_pairs u v (a ∷ l) (inr h) (inr k) ne = ⊎_map (in_right {A = ℕ × ℕ} (u, v) (pairs_with a l) (pairs_of l)) (in_right {A = ℕ × ℕ} (v, u) (pairs_with a l) (pairs_of l)) (in_pairs u v l h k ne)

pairs_differ : (u v : ℕ) (l : List ℕ) → NoDup l → In {A = ℕ × ℕ} (u, v) (pairs_of l) → u ≢ v
pairs_differ u v [] nd h e = h
pairs_differ u v (a ∷ l) nd h e = ⊎_elim (λ k. let r = with-member a u v l k in nd.0 (rw (← r.0, e) r.1)) (λ k. pairs_differ u v l nd.1 k e) (in_append {A = ℕ × ℕ} (u, v) (pairs_with a l) (pairs_of l) h)

-- PATHS BETWEEN THE VERTICES OF B, one for each pair, that meet only at their ends.
pub record StartPaths (E : ℕ → ℕ → Type 0) (B : List ℕ) (ls : List Path) : Type 0 where
  pub shape : end_pairs ls ≡ pairs_of B
  pub along : (L : Path) → In L ls → Along E L.s L.inner L.t
  pub nodup : NoDup (inner_vertices ls ++ B)

-- the start of the rules
pub record Subdivision (E : ℕ → ℕ → Type 0) (ls : List Path) : Type 0 where
  pub p : ℕ
  pub q : ℕ
  pub r : ℕ
  pub s : ℕ
  pub pq : p < q
  pub qr : q < r
  pub rs : r < s
  pub paths : StartPaths E (four p q r s) ls

abbrev pub the_four : {E : ℕ → ℕ → Type 0} {ls : List Path} → Subdivision E ls → List ℕ
the_four x = four x.p x.q x.r x.s

-- the order in which paths are taken in does not matter
module _ (E : ℕ → ℕ → Type 0) where
  starts_nodup : (B : List ℕ) (ps : List Path) → NoDup B → Starts E B ps → NoDup (inner_vertices ps ++ B)
  starts_nodup B [] nd s = nd
  starts_nodup B (P ∷ ps) nd s =
      let ih = starts_nodup (P.inner ++ B) ps (nodup_append P.inner B (nodup_inner P s.0.nodup) nd s.1) s.2 in
      rw append_assoc (nodup_swap (inner_vertices ps) P.inner B ih)

  starts_path : (B : List ℕ) (ps : List Path) → Starts E B ps → (L : Path) → In L ps → IsPath E L
  starts_path B [] s L h = absurd h
  starts_path B (P ∷ ps) s L (inl e) = rw e s.0
  starts_path B (P ∷ ps) s L (inr h) = starts_path (P.inner ++ B) ps s.2 L h

  pub nodup_starts : (B : List ℕ) (ps : List Path) → ((L : Path) → In L ps → IsPath E L) → NoDup (inner_vertices ps ++ B) → Starts E B ps
  nodup_starts B [] g nd = tt
  nodup_starts B (P ∷ ps) g nd =
      let k : NoDup (P.inner ++ (inner_vertices ps ++ B)) = rw append_assoc at nd in
      (g P (inl refl), (λ w h j. nodup_apart P.inner (inner_vertices ps ++ B) k w h (in_right w (inner_vertices ps) B j)), nodup_starts (P.inner ++ B) ps (λ L h. g L (inr h)) (nodup_swap P.inner (inner_vertices ps) B k))

pub start-subdivision : (g : Graph) (p q r s : ℕ) (start : List Path) → StartRules g p q r s start → Subdivision (Adj g) start
start-subdivision g p q r s start x = record {
  p = p;
  q = q;
  r = r;
  s = s;
  pq = x.pq;
  qr = x.qr;
  rs = x.rs;
  paths = record {
    shape = x.shape;
    along = λ L h. (starts_path (Adj g) (four p q r s) start x.starts L h).along;
    nodup = starts_nodup (Adj g) (four p q r s) start (four-differ p q r s x.pq x.qr x.rs) x.starts;
  };
}

-- an inner vertex is inside one path only
pub inner_sole : (ms : List Path) → NoDup (inner_vertices ms) → (L M : Path) → In L ms → In M ms → (w : ℕ) → In w L.inner → In w M.inner → L ≡ M
inner_sole [] nd L M h_l hM w a b = absurd h_l
inner_sole (P ∷ ms) nd L M (inl e) (inl k) w a b = e ∙ sym k
inner_sole (P ∷ ms) nd L M (inl e) (inr k) w a b = absurd (nodup_apart P.inner (inner_vertices ms) nd w (rw e at a) (in_inner M ms w k b))
inner_sole (P ∷ ms) nd L M (inr h) (inl k) w a b = absurd (nodup_apart P.inner (inner_vertices ms) nd w (rw k at b) (in_inner L ms w h a))
inner_sole (P ∷ ms) nd L M (inr h) (inr k) w a b = inner_sole ms (nodup_right P.inner (inner_vertices ms) nd) L M h k w a b

-- a path is found by its two ends
ends_sole : (ms : List Path) → NoDup (end_pairs ms) → (L M : Path) → In L ms → In M ms → L.s ≡ M.s → L.t ≡ M.t → L ≡ M
ends_sole [] nd L M h_l hM a b = absurd h_l
ends_sole (P ∷ ms) nd L M (inl e) (inl k) a b = e ∙ sym k
ends_sole (P ∷ ms) nd L M (inl e) (inr k) a b = absurd (nd.0 (rw (ap (λ (l : Path). l.s) (sym e) ∙ a, ap (λ (l : Path). l.t) (sym e) ∙ b) (in_ends ms M k)))
ends_sole (P ∷ ms) nd L M (inr h) (inl k) a b = absurd (nd.0 (rw (sym (a ∙ ap (λ (l : Path). l.s) k), sym (b ∙ ap (λ (l : Path). l.t) k)) (in_ends ms L h)))
ends_sole (P ∷ ms) nd L M (inr h) (inr k) a b = ends_sole ms nd.1 L M h k a b

pub six_nodup : (p q r s : ℕ) → p < q → q < r → r < s → NoDup (six_pairs p q r s)
six_nodup p q r s a b c = ascending_nodup (six_pairs p q r s) (inr (refl, b), (inr (refl, c), (inl a, (inr (refl, c), (inl b, tt)))))

pub six_order : (p q r s u v : ℕ) → p < q → q < r → r < s → In {A = ℕ × ℕ} (u, v) (six_pairs p q r s) → u < v
six_order p q r s u v a b c h = go h
  where
    at : (x y : ℕ) → x < y → ◌≡◌ {A = ℕ × ℕ} (u, v) (x, y) → u < v
    at x y h e = omega (arith, h, ap (λ (k : ℕ × ℕ). k.0) e, ap (λ (k : ℕ × ℕ). k.1) e)

    go : In {A = ℕ × ℕ} (u, v) (six_pairs p q r s) → u < v
    go (inl e) = at p q a e
    go (inr (inl e)) = at p r (omega arith) e
    go (inr (inr (inl e))) = at p s (omega arith) e
    go (inr (inr (inr (inl e)))) = at q r b e
    go (inr (inr (inr (inr (inl e))))) = at q s (omega arith) e
    go (inr (inr (inr (inr (inr (inl e)))))) = at r s c e
    go (inr (inr (inr (inr (inr (inr e)))))) = absurd e

-- the ends of L are u and v
abbrev pub Joins : Path → ℕ → ℕ → Type 0
Joins L u v = SamePair u v L.s L.t

joins_end : (L : Path) (u v w : ℕ) → Joins L u v → End w L → (w ≡ u) ⊎ (w ≡ v)
joins_end L u v w (inl t) (inl e) = inl (e ∙ sym t.0)
joins_end L u v w (inl t) (inr e) = inr (e ∙ sym t.1)
joins_end L u v w (inr t) (inl e) = inr (e ∙ sym t.1)
joins_end L u v w (inr t) (inr e) = inl (e ∙ sym t.0)

joins_right : (L : Path) (u v : ℕ) → Joins L u v → End v L
joins_right L u v (inl t) = inr t.1
joins_right L u v (inr t) = inl t.1

inner_list : (ms : List Path) → NoDup (inner_vertices ms) → (M : Path) → In M ms → NoDup M.inner
inner_list [] nd M h = absurd h
inner_list (L ∷ ms) nd M (inl e) = rw e (nodup_left L.inner (inner_vertices ms) nd)
inner_list (L ∷ ms) nd M (inr h) = inner_list ms (nodup_right L.inner (inner_vertices ms) nd) M h

module _ (E : ℕ → ℕ → Type 0) (B : List ℕ) (ls : List Path) (x : StartPaths E B ls) where
  pub start-differ : NoDup B
  start-differ = nodup_right (inner_vertices ls) B x.nodup

  ends_pair : (L : Path) → In L ls → In {A = ℕ × ℕ} (L.s, L.t) (pairs_of B)
  ends_pair L h = subst (λ (k : List (ℕ × ℕ)). In {A = ℕ × ℕ} (L.s, L.t) k) x.shape (in_ends ls L h)

  pub end_start : (L : Path) → In L ls → (z : ℕ) → End z L → In z B
  end_start L h z (inl e) = rw e (pairs_in L.s L.t B (ends_pair L h)).0
  end_start L h z (inr e) = rw e (pairs_in L.s L.t B (ends_pair L h)).1

  pub clear_start : (L : Path) → In L ls → (w : ℕ) → In w L.inner → ¬ In w B
  clear_start L h w k = nodup_apart (inner_vertices ls) B x.nodup w (in_inner L ls w h k)

  pub start-path : (L : Path) → In L ls → IsPath E L
  start-path L h = record { along = x.along L h; nodup = (first, nodup_snoc L.inner L.t (inner_list ls (nodup_left (inner_vertices ls) B x.nodup) L h) (λ k. clear_start L h L.t k (end_start L h L.t (inr refl)))) }
    where
      first : ¬ In L.s (L.inner ++ (L.t ∷ []))
      first k = ⊎_elim (λ j. clear_start L h L.s j (end_start L h L.s (inl refl))) (λ j. pairs_differ L.s L.t B start-differ (ends_pair L h) (in_single L.s L.t j)) (in_append L.s L.inner (L.t ∷ []) k)

  -- every two vertices of B are joined by a path
  pub start-joined : (u v : ℕ) → In u B → In v B → u ≢ v → (L : Path) × In L ls × Joins L u v
  start-joined u v hu hv ne = ⊎_elim (λ h. let r = find u v h in (r.0, r.1, inl (r.2, r.3))) (λ h. let r = find v u h in (r.0, r.1, inr (r.3, r.2))) (in_pairs u v B hu hv ne)
    where
      find : (u v : ℕ) → In {A = ℕ × ℕ} (u, v) (pairs_of B) → (L : Path) × In L ls × (u ≡ L.s) × (v ≡ L.t)
      find u v h = ends_in_lem ls u v (subst (λ (k : List (ℕ × ℕ)). In {A = ℕ × ℕ} (u, v) k) (sym x.shape) h)

  -- two of them meet only at their ends
  start-meet : (L M : Path) → In L ls → In M ls → (w : ℕ) → In w (vertices L) → In w (vertices M) → (L ≡ M) ⊎ (End w L × End w M)
  start-meet L M h_l hM w a b = go (end_or_inner L w a) (end_or_inner M w b)
    where
      go : End w L ⊎ In w L.inner → End w M ⊎ In w M.inner → (L ≡ M) ⊎ (End w L × End w M)
      go (inl e) (inl k) = inr (e, k)
      go (inl e) (inr k) = absurd (clear_start M hM w k (end_start L h_l w e))
      go (inr h) (inl k) = absurd (clear_start L h_l w h (end_start M hM w k))
      go (inr h) (inr k) = inl (inner_sole ls (nodup_left (inner_vertices ls) B x.nodup) L M h_l hM w h k)

module _ (E : ℕ → ℕ → Type 0) (ls : List Path) (x : Subdivision E ls) where
  pub subdivision_differ : NoDup (the_four x)
  subdivision_differ = start-differ E (the_four x) ls x.paths

  joined : (u v : ℕ) → In u (the_four x) → In v (the_four x) → u ≢ v → (L : Path) × In L ls × Joins L u v
  joined = start-joined E (the_four x) ls x.paths

  meet : (L M : Path) → In L ls → In M ls → (w : ℕ) → In w (vertices L) → In w (vertices M) → (L ≡ M) ⊎ (End w L × End w M)
  meet = start-meet E (the_four x) ls x.paths

  pub four-branch : (w : ℕ) → In w (the_four x) → In w (branch_vertices ls)
  four-branch w h =
      let z = beside (the_four x) (w ∷ []) subdivision_differ (omega arith) in
      let r = joined z.0 w z.1 h (λ e. z.2 (inl e)) in
      in_branch r.0 ls w r.1 (joins_right r.0 z.0 w r.2)

  pub start-ends : NoDup (end_pairs ls)
  start-ends = subst (λ (k : List (ℕ × ℕ)). NoDup k) (sym x.paths.shape) (six_nodup x.p x.q x.r x.s x.pq x.qr x.rs)

  share_one : (L M : Path) → In L ls → In M ls → (c d : ℕ) → c ≢ d → In c (vertices L) → In d (vertices L) → In c (vertices M) → In d (vertices M) → L ≡ M
  share_one L M h_l hM c d ne lc ld mc md = go (meet L M h_l hM c lc mc) (meet L M h_l hM d ld md)
    where
      order : (N : Path) → In N ls → N.s < N.t
      order N h = six_order x.p x.q x.r x.s N.s N.t x.pq x.qr x.rs (ends_pair E (the_four x) ls x.paths N h)

      same : SamePair L.s L.t M.s M.t → L ≡ M
      same (inl e) = ends_sole ls start-ends L M h_l hM e.0 e.1
      same (inr e) = absurd (omega (arith, order L h_l, order M hM, e.0, e.1))

      go : (L ≡ M) ⊎ (End c L × End c M) → (L ≡ M) ⊎ (End d L × End d M) → L ≡ M
      go (inl e) r = e
      go (inr a) (inl e) = e
      go (inr a) (inr b) = same (same_trans c d L.s L.t M.s M.t (both_ends L c d ne a.0 b.0) (both_ends M c d ne a.1 b.1))

  -- the four stay connected without any two vertices: of three routes between two of them one is free
  module _ (esym : (u v : ℕ) → E u v → E v u) (c d : ℕ) where
    joins_connected : (L : Path) (u v : ℕ) → In L ls → Joins L u v → AllFree c d (vertices L) → Connected E c d u v
    joins_connected L u v h t f = go t (along-connected E c d L.s L.inner L.t (x.paths.along L h) f)
      where
        go : Joins L u v → Connected E c d L.s L.t → Connected E c d u v
        go (inl t) j = rw (t.0, t.1) j
        go (inr t) j = rw (t.0, t.1) (connected_back E esym c d j)

    -- a removed vertex on the path from a free p to y is not on the path between a and b, where y is neither
    off_route : (L M : Path) (p y a b w : ℕ) → In L ls → In M ls → Joins L p y → Joins M a b → y ≢ a → y ≢ b → Free c d p → Removed c d w → In w (vertices L) → ¬ In w (vertices M)
    off_route L M p y a b w h_l hM tL tM ya yb fp kw wL wM = go (meet L M h_l hM w wL wM)
      where
        not_y : (z : ℕ) → z ≡ y → ¬ End z M
        not_y z e k = ⊎_elim (λ j. ya (sym e ∙ j)) (λ j. yb (sym e ∙ j)) (joins_end M a b z tM k)

        go : (L ≡ M) ⊎ (End w L × End w M) → ⊥
        go (inl e) = not_y y refl (rw e at (joins_right L p y tL))
        go (inr k) = ⊎_elim (λ e. removed-free c d p (rw e at kw) fp) (λ e. not_y w e k.1) (joins_end L p y w tL k.0)

    module _ (u v : ℕ) (hu : In u (the_four x)) (hv : In v (the_four x)) (ne : u ≢ v) (fu : Free c d u) (fv : Free c d v) where
      -- a removed vertex on the path from u or from v to z
      abbrev Blocked : ℕ → Type 0
      Blocked z = (w : ℕ) × Removed c d w × (p : ℕ) × Free c d p × ((p ≡ u) ⊎ (p ≡ v)) × (M : Path) × In M ls × Joins M p z × In w (vertices M)

      route : (z : ℕ) → In z (the_four x) → z ≢ u → z ≢ v → Connected E c d u v ⊎ Blocked z
      route z hz zu zv =
          let a = joined u z hu hz (λ e. zu (sym e)) in
          let b = joined v z hv hz (λ e. zv (sym e)) in
          go a b (all-free? c d (vertices a.0)) (all-free? c d (vertices b.0))
        where
          go : (a : (L : Path) × In L ls × Joins L u z) (b : (L : Path) × In L ls × Joins L v z)
              → AllFree c d (vertices a.0) ⊎ ((w : ℕ) × In w (vertices a.0) × Removed c d w)
              → AllFree c d (vertices b.0) ⊎ ((w : ℕ) × In w (vertices b.0) × Removed c d w) → Connected E c d u v ⊎ Blocked z
          go a b (inl f) (inl g) = inl (connected_trans E esym c d (joins_connected a.0 u z a.1 a.2 f) (connected_back E esym c d (joins_connected b.0 v z b.1 b.2 g)))
          go a b (inr r) g = inr (r.0, r.2, u, fu, inl refl, a.0, a.1, a.2, r.1)
          go a b (inl f) (inr r) = inr (r.0, r.2, v, fv, inr refl, b.0, b.1, b.2, r.1)

      four-connected : Connected E c d u v
      four-connected =
          let y = beside (the_four x) (u ∷ (v ∷ [])) subdivision_differ (omega arith) in
          let z = beside (the_four x) (y.0 ∷ (u ∷ (v ∷ []))) subdivision_differ (omega arith) in
          let L = joined u v hu hv ne in
          go y.0 z.0 (λ e. y.2 (inl e)) (λ e. y.2 (inr (inl e))) (λ e. z.2 (inr (inl e))) (λ e. z.2 (inr (inr (inl e)))) (λ e. z.2 (inl (sym e))) L.0 L.1 L.2
          (all-free? c d (vertices L.0)) (route y.0 y.1 (λ e. y.2 (inl e)) (λ e. y.2 (inr (inl e)))) (route z.0 z.1 (λ e. z.2 (inr (inl e))) (λ e. z.2 (inr (inr (inl e)))))
        where
          go : (y z : ℕ) → y ≢ u → y ≢ v → z ≢ u → z ≢ v → y ≢ z → (L : Path) → In L ls → Joins L u v
              → AllFree c d (vertices L) ⊎ ((w : ℕ) × In w (vertices L) × Removed c d w) → Connected E c d u v ⊎ Blocked y → Connected E c d u v ⊎ Blocked z → Connected E c d u v
          go y z yu yv zu zv yz L h t (inl f) a b = joins_connected L u v h t f
          go y z yu yv zu zv yz L h t (inr r) (inl j) b = j
          go y z yu yv zu zv yz L h t (inr r) (inr a) (inl j) = j
          go y z yu yv zu zv yz L h t (inr r) (inr a) (inr b) = absurd (one_free c d a.0 b.0 r.0 a.1 b.1 r.2 ab
              (λ e. off_route a.5 L a.2 y u v a.0 a.6 h a.7 t yu yv a.3 a.1 a.8 (subst (λ (k : ℕ). In k (vertices L)) (sym e) r.1))
              (λ e. off_route b.5 L b.2 z u v b.0 b.6 h b.7 t zu zv b.3 b.1 b.8 (subst (λ (k : ℕ). In k (vertices L)) (sym e) r.1)))
            where
              off : (p : ℕ) → (p ≡ u) ⊎ (p ≡ v) → y ≢ p
              off p (inl e) k = yu (k ∙ e)
              off p (inr e) k = yv (k ∙ e)

              ab : a.0 ≢ b.0
              ab e = off_route a.5 b.5 a.2 y b.2 z a.0 a.6 b.6 a.7 b.7 (off b.2 b.4) yz a.3 a.1 a.8 (subst (λ (k : ℕ). In k (vertices b.5)) (sym e) b.8)

    four-stay : (u v : ℕ) → In u (the_four x) → In v (the_four x) → Free c d u → Free c d v → Connected E c d u v
    four-stay u v hu hv fu fv = ⊎_elim (λ e. rw e here) (λ e. four-connected u v hu hv e fu fv) (either (ℕ_discrete u v))

  -- THE START KEEPS THE INVARIANT.
  pub start-invariant : ((u v : ℕ) → E u v → E v u) → Invariant E (the_four x) ls
  start-invariant esym = record { is_path = start-path E (the_four x) ls x.paths; ends = end_start E (the_four x) ls x.paths; share_one = share_one; connected = four-stay esym }
