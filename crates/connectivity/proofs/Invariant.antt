-- What a build keeps: links are paths, two links share at most one vertex, and the branch vertices stay connected, IN THE WHOLE
-- GRAPH, without any two vertices. A step keeps it: first the path is added, which is all the graph theory, then links are split.
use mathlib.Core.Path.{◌≡◌, ◌∙◌, sym, refl, subst}
use mathlib.Core.Logic.{◌≢◌, inl, inr, ⊎_elim}
use mathlib.Core.List.{List, ◌∷◌, []}
use Prim.Native.Nat.{ℕ}
use native.Mathlib.Decide.{ℕ_discrete}
use Rattle.connectivity.specs.Lists.{In}
use Rattle.connectivity.specs.Path.{Path, IsPath, End, vertices}
use Rattle.connectivity.specs.Build.{BGPath, split_at, taken, Steps, final}
use Rattle.connectivity.proofs.Lists.{either}
use Rattle.connectivity.proofs.Paths.{end_or_inner, both_ends, end_of_lem, SamePair, inner_not_end}
use Rattle.connectivity.proofs.Walks.{Free, Connected, AllFree, reach-end, ReachesEnd, connected_trans, along-connected, connected_back, here}
use Rattle.connectivity.proofs.Split.{split_path, piece_of, piece_end, Piece, piece_in, piece_meet, split_skip}

-- B lists the branch vertices.
pub record Invariant (E : ℕ → ℕ → Type 0) (B : List ℕ) (links : List Path) : Type 0 where
  pub is_path : (L : Path) → In L links → IsPath E L
  pub ends : (L : Path) → In L links → (z : ℕ) → End z L → In z B
  pub share_one : (L M : Path) → In L links → In M links → (c d : ℕ) → c ≢ d → In c (vertices L) → In d (vertices L) → In c (vertices M) → In d (vertices M) → L ≡ M
  pub connected : (c d u v : ℕ) → In u B → In v B → Free c d u → Free c d v → Connected E c d u v

module _ (E : ℕ → ℕ → Type 0) (esym : (u v : ℕ) → E u v → E v u) (B : List ℕ) (links : List Path) (inv : Invariant E B links) where
  -- x and y are the ends of a path whose inner vertices Q are on no link: from x one comes to a branch vertex
  reach-branch : (c d x y : ℕ) (Q : List ℕ) → (AllFree c d Q → Free c d x → Free c d y → Connected E c d x y)
      → (L M : Path) → In L links → In M links → In x (vertices L) → In y (vertices M) → ¬ In y (vertices L)
      → ((w : ℕ) → In w Q → ¬ In w (vertices L)) → Free c d x
      → (z : ℕ) × In z B × Free c d z × Connected E c d x z
  reach-branch c d x y Q br L M h_l hM hx hy ny fr fx = go (reach-end E esym c d L x (inv.is_path L h_l) hx fx)
    where
      Goal : Type 0
      Goal = (z : ℕ) × In z B × Free c d z × Connected E c d x z

      second : Free c d y → Connected E c d x y → In c (vertices L) → In d (vertices L) → c ≢ d → ReachesEnd E c d M y → Goal
      second fy j hc hd ne (inl r) = (r.0, inv.ends M hM r.0 r.1, r.2, connected_trans E esym c d j r.3)
      second fy j hc hd ne (inr r) = absurd (ny (rw (inv.share_one L M h_l hM c d ne hc hd r.0 r.1) hy))

      off : (w : ℕ) → ¬ In w (vertices L) → In c (vertices L) → In d (vertices L) → Free c d w
      off w n hc hd = ((λ e. n (subst (λ (k : ℕ). In k (vertices L)) (sym e) hc)), (λ e. n (subst (λ (k : ℕ). In k (vertices L)) (sym e) hd)))

      go : ReachesEnd E c d L x → Goal
      go (inl r) = (r.0, inv.ends L h_l r.0 r.1, r.2, r.3)
      go (inr r) =
          let fy = off y ny r.0 r.1 in
          second fy (br (λ w m. off w (fr w m) r.0 r.1) fx fy) r.0 r.1 r.2 (reach-end E esym c d M y (inv.is_path M hM) hy fy)

  -- P is added, and its ends become branch vertices
  module _ (P : Path) (bg : BGPath E links P) where
    cross : (c d : ℕ) → AllFree c d P.inner → Free c d P.s → Free c d P.t → Connected E c d P.s P.t
    cross c d f fx fy = along-connected E c d P.s P.inner P.t bg.is_path.along every
      where
        end : (u : ℕ) → End u P → Free c d u
        end u (inl e) = rw e fx
        end u (inr e) = rw e fy

        every : AllFree c d (vertices P)
        every u h = ⊎_elim (end u) (f u) (end_or_inner P u h)

    -- from an end of P, if it is free, one comes to an old branch vertex
    from_s : (c d : ℕ) → Free c d P.s → (z : ℕ) × In z B × Free c d z × Connected E c d P.s z
    from_s c d f = let L = bg.from in let M = bg.upto in
        reach-branch c d P.s P.t P.inner (cross c d) L.0 M.0 L.1 M.1 L.2 M.2 (bg.apart L.0 L.1 L.2)
        (λ w m h. bg.new w m (L.0, L.1, h)) f

    from_t : (c d : ℕ) → Free c d P.t → (z : ℕ) × In z B × Free c d z × Connected E c d P.t z
    from_t c d f = let L = bg.upto in let M = bg.from in
        reach-branch c d P.t P.s P.inner (λ a fx fy. connected_back E esym c d (cross c d a fy fx)) L.0 M.0 L.1 M.1 L.2 M.2
        (λ h. bg.apart L.0 L.1 h L.2) (λ w m h. bg.new w m (L.0, L.1, h)) f

    to_branch : (c d u : ℕ) → In u (P.s ∷ (P.t ∷ B)) → Free c d u → (z : ℕ) × In z B × Free c d z × Connected E c d u z
    to_branch c d u (inl e) f = rw e (from_s c d (rw e at f))
    to_branch c d u (inr (inl e)) f = rw e (from_t c d (rw e at f))
    to_branch c d u (inr (inr m)) f = (u, m, f, here)

    -- P shares at most one vertex with an old link
    lone : (M : Path) → In M links → (c d : ℕ) → c ≢ d → In c (vertices P) → In d (vertices P) → In c (vertices M) → In d (vertices M) → ⊥
    lone M hM c d ne pc pd mc md = go (both_ends P c d ne (shared c pc mc) (shared d pd md))
      where
        shared : (u : ℕ) → In u (vertices P) → In u (vertices M) → End u P
        shared u h k = end_of_lem P u h (λ j. bg.new u j (M, hM, k))

        on : {u v : ℕ} → u ≡ v → In u (vertices M) → In v (vertices M)
        on e h = subst (λ (k : ℕ). In k (vertices M)) e h

        go : SamePair c d P.s P.t → ⊥
        go (inl e) = bg.apart M hM (on e.0 mc) (on e.1 md)
        go (inr e) = bg.apart M hM (on e.1 md) (on e.0 mc)

    pub add_path_lem : Invariant E (P.s ∷ (P.t ∷ B)) (P ∷ links)
    add_path_lem = record { is_path = path; ends = ends; share_one = share; connected = conn }
      where
        path : (L : Path) → In L (P ∷ links) → IsPath E L
        path L (inl e) = rw e bg.is_path
        path L (inr m) = inv.is_path L m

        ends : (L : Path) → In L (P ∷ links) → (z : ℕ) → End z L → In z (P.s ∷ (P.t ∷ B))
        ends L (inl e) z (inl k) = inl (rw e at k)
        ends L (inl e) z (inr k) = inr (inl (rw e at k))
        ends L (inr m) z k = inr (inr (inv.ends L m z k))

        share : (L M : Path) → In L (P ∷ links) → In M (P ∷ links) → (c d : ℕ) → c ≢ d → In c (vertices L) → In d (vertices L) → In c (vertices M) → In d (vertices M) → L ≡ M
        share L M (inl e) (inl k) c d ne lc ld mc md = e ∙ sym k
        share L M (inl e) (inr k) c d ne lc ld mc md = absurd (lone M k c d ne (rw e at lc) (rw e at ld) mc md)
        share L M (inr e) (inl k) c d ne lc ld mc md = absurd (lone L e c d ne (rw k at mc) (rw k at md) lc ld)
        share L M (inr e) (inr k) c d ne lc ld mc md = inv.share_one L M e k c d ne lc ld mc md

        conn : (c d u v : ℕ) → In u (P.s ∷ (P.t ∷ B)) → In v (P.s ∷ (P.t ∷ B)) → Free c d u → Free c d v → Connected E c d u v
        conn c d u v hu hv fu fv =
            let a = to_branch c d u hu fu in
            let b = to_branch c d v hv fv in
            connected_trans E esym c d a.3 (connected_trans E esym c d (inv.connected c d a.0 b.0 a.1 b.1 a.2 b.2) (connected_back E esym c d b.3))

-- links are split at a branch vertex
module _ (E : ℕ → ℕ → Type 0) (B : List ℕ) (links : List Path) (inv : Invariant E B links) (x : ℕ) (hx : In x B) where
  pub split_invariant : Invariant E B (split_at x links)
  split_invariant = record { is_path = split_path E x links inv.is_path; ends = ends; share_one = λ p q hp hq. share p q (piece_of x links p hp) (piece_of x links q hq); connected = inv.connected }
    where
      ends : (p : Path) → In p (split_at x links) → (z : ℕ) → End z p → In z B
      ends p m z h = let r = piece_of x links p m in ⊎_elim (λ e. rw e hx) (inv.ends r.0 r.1 z) (piece_end x z r.0 p r.2 h)

      -- one of the two shared vertices is not x
      share : (p q : Path) → ((L : Path) × In L links × Piece x L p) → ((M : Path) × In M links × Piece x M q) → (c d : ℕ) → c ≢ d → In c (vertices p) → In d (vertices p) → In c (vertices q) → In d (vertices q) → p ≡ q
      share p q a b c d ne pc pd qc qd =
          let e : a.0 ≡ b.0 = inv.share_one a.0 b.0 a.1 b.1 c d ne (piece_in x c a.0 p a.2 pc) (piece_in x d a.0 p a.2 pd) (piece_in x c b.0 q b.2 qc) (piece_in x d b.0 q b.2 qd) in
          let meet = piece_meet x b.0 p q (inv.is_path b.0 b.1).nodup (rw e at a.2) b.2 in
          ⊎_elim (λ k. meet d (λ j. ne (k ∙ sym j)) pd qd) (λ k. meet c k pc qc) (either (ℕ_discrete c x))

-- THE STEP, AND ALL STEPS.
module _ (E : ℕ → ℕ → Type 0) (esym : (u v : ℕ) → E u v → E v u) where
  pub taken-invariant : (B : List ℕ) (links : List Path) → Invariant E B links → (P : Path) → BGPath E links P → Invariant E (P.s ∷ (P.t ∷ B)) (taken links P)
  taken-invariant B links inv P f =
      let B' = P.s ∷ (P.t ∷ B) in
      let nd = f.is_path.nodup in
      let a = split_invariant E B' (P ∷ links) (add_path_lem E esym B links inv P f) P.t (inr (inl refl)) in
      let a' : Invariant E B' (P ∷ split_at P.t links) = rw (split_skip P.t P links (λ h. inner_not_end P nd P.t h (inr refl))) at a in
      let b = split_invariant E B' (P ∷ split_at P.t links) a' P.s (inl refl) in
      rw (split_skip P.s P (split_at P.t links) (λ h. inner_not_end P nd P.s h (inl refl))) at b

  pub steps-invariant : (B : List ℕ) (links ps : List Path) → Invariant E B links → Steps E links ps → (C : List ℕ) × Invariant E C (final links ps)
  steps-invariant B links [] inv s = (B, inv)
  steps-invariant B links (P ∷ ps) inv s = steps-invariant (P.s ∷ (P.t ∷ B)) (taken links P) ps (taken-invariant B links inv P s.0) s.1
