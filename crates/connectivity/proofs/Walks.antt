-- Walks that avoid two vertices c and d along a relation E, and the walks of the definition.
use mathlib.Core.Path.{◌≡◌, refl, ◌∙◌, sym, subst}
use mathlib.Core.Logic.{◌⊎◌, ◌≢◌, inl, inr, ⊎_elim}
use mathlib.Core.List.{List, [], ◌∷◌, ◌++◌, append_assoc}
use Prim.Native.Nat.{ℕ}
use native.Mathlib.Decide.{ℕ_discrete}
use Rattle.connectivity.specs.Lists.{In, NoDup}
use Rattle.connectivity.specs.Graph.{Graph, Walk, stay, hop, Simple, Adj}
use Rattle.connectivity.specs.Path.{Along, Path, End, vertices, IsPath}
use Rattle.connectivity.proofs.Lists.{meet_once, in_right, in_widen, in_split}
use Rattle.connectivity.proofs.Paths.{end_or_inner, along-cut}

-- u is removed; u is not
abbrev pub Removed : ℕ → ℕ → ℕ → Type 0
Removed c d u = (u ≡ c) ⊎ (u ≡ d)

abbrev pub Free : ℕ → ℕ → ℕ → Type 0
Free c d u = (u ≢ c) × (u ≢ d)

abbrev pub AllFree : ℕ → ℕ → List ℕ → Type 0
AllFree c d l = (u : ℕ) → In u l → Free c d u

pub data Connected (E : ℕ → ℕ → Type 0) (c d : ℕ) : ℕ → ℕ → Type 0 where
  here : {u : ℕ} → Connected E c d u u
  move : {u v w : ℕ} → E u v → Free c d u → Free c d v → Connected E c d v w → Connected E c d u w

pub removed-free : (c d u : ℕ) → Removed c d u → ¬ Free c d u
removed-free c d u (inl e) f = f.0 e
removed-free c d u (inr e) f = f.1 e

pub free? : (c d u : ℕ) → Free c d u ⊎ Removed c d u
free? c d u = go (ℕ_discrete u c) (ℕ_discrete u d)
  where
    go : Dec (u ≡ c) → Dec (u ≡ d) → Free c d u ⊎ Removed c d u
    go (yes e) k = inr (inl e)
    go (no e) (yes k) = inr (inr k)
    go (no e) (no k) = inl (e, k)

-- all of l is free, or some vertex of it is removed
pub all-free? : (c d : ℕ) (l : List ℕ) → AllFree c d l ⊎ ((u : ℕ) × In u l × Removed c d u)
all-free? c d [] = inl (λ u m. absurd m)
all-free? c d (b ∷ l) = go (free? c d b) (all-free? c d l)
  where
    both : Free c d b → AllFree c d l → AllFree c d (b ∷ l)
    both f g u (inl e) = rw e f
    both f g u (inr m) = g u m

    go : Free c d b ⊎ Removed c d b → AllFree c d l ⊎ ((u : ℕ) × In u l × Removed c d u) → AllFree c d (b ∷ l) ⊎ ((u : ℕ) × In u (b ∷ l) × Removed c d u)
    go (inr k) r = inr (b, inl refl, k)
    go (inl f) (inl g) = inl (both f g)
    go (inl f) (inr r) = inr (r.0, inr r.1, r.2)

-- two different removed vertices of S: they are c and d
pub both_removed : (c d u v : ℕ) (S : List ℕ) → Removed c d u → Removed c d v → u ≢ v → In u S → In v S → In c S × In d S × (c ≢ d)
both_removed c d u v S (inl e) (inl k) ne hu hv = absurd (ne (e ∙ sym k))
both_removed c d u v S (inl e) (inr k) ne hu hv = (rw e at hu, rw k at hv, λ p. ne (e ∙ p ∙ sym k))
both_removed c d u v S (inr e) (inl k) ne hu hv = (rw k at hv, rw e at hu, λ p. ne (e ∙ sym p ∙ sym k))
both_removed c d u v S (inr e) (inr k) ne hu hv = absurd (ne (e ∙ sym k))

-- of three different vertices one is free
pub one_free : (c d x y z : ℕ) → Removed c d x → Removed c d y → Removed c d z → x ≢ y → x ≢ z → y ≢ z → ⊥
one_free c d x y z (inl p) (inl q) r a b e = a (p ∙ sym q)
one_free c d x y z (inr p) (inr q) r a b e = a (p ∙ sym q)
one_free c d x y z (inl p) (inr q) (inl r) a b e = b (p ∙ sym r)
one_free c d x y z (inl p) (inr q) (inr r) a b e = e (q ∙ sym r)
one_free c d x y z (inr p) (inl q) (inl r) a b e = e (q ∙ sym r)
one_free c d x y z (inr p) (inl q) (inr r) a b e = b (p ∙ sym r)

pub along-connected : (E : ℕ → ℕ → Type 0) (c d s : ℕ) (l : List ℕ) (t : ℕ) → Along E s l t → AllFree c d (s ∷ (l ++ (t ∷ []))) → Connected E c d s t
along-connected E c d s [] t w f = move w (f s (inl refl)) (f t (inr (inl refl))) here
along-connected E c d s (a ∷ l) t w f = move w.0 (f s (inl refl)) (f a (inr (inl refl))) (along-connected E c d a l t w.1 (λ u m. f u (inr m)))

-- from x the walk along L comes to an end of L, or c and d are two vertices of L
abbrev pub ReachesEnd : (E : ℕ → ℕ → Type 0) (c d : ℕ) → Path → ℕ → Type 0
ReachesEnd E c d L x = ((z : ℕ) × End z L × Free c d z × Connected E c d x z) ⊎ (In c (vertices L) × In d (vertices L) × (c ≢ d))

module _ (E : ℕ → ℕ → Type 0) (esym : (u v : ℕ) → E u v → E v u) (c d : ℕ) where
  pub connected_trans : {u v w : ℕ} → Connected E c d u v → Connected E c d v w → Connected E c d u w
  connected_trans here r = r
  connected_trans (move k f g j) r = move k f g (connected_trans j r)

  pub connected_back : {u v : ℕ} → Connected E c d u v → Connected E c d v u
  connected_back here = here
  connected_back (move {u = u} {v = v} k f g j) = connected_trans (connected_back j) (move (esym u v k) g f here)

  from_inside : (s : ℕ) (p : List ℕ) (x : ℕ) (q : List ℕ) (t : ℕ) → Along E s p x → Along E x q t → NoDup (s ∷ (p ++ (x ∷ (q ++ (t ∷ []))))) → Free c d x
      → ((z : ℕ) × ((z ≡ s) ⊎ (z ≡ t)) × Free c d z × Connected E c d x z) ⊎ (In c (s ∷ (p ++ (x ∷ (q ++ (t ∷ []))))) × In d (s ∷ (p ++ (x ∷ (q ++ (t ∷ []))))) × (c ≢ d))
  from_inside s p x q t wp wq nd fx = go (all-free? c d (s ∷ (p ++ (x ∷ [])))) (all-free? c d (x ∷ (q ++ (t ∷ []))))
    where
      whole : List ℕ
      whole = s ∷ (p ++ (x ∷ (q ++ (t ∷ []))))

      ne : (u v : ℕ) → In u (s ∷ (p ++ (x ∷ []))) → In v (x ∷ (q ++ (t ∷ []))) → Removed c d u → u ≢ v
      ne u v hu hv ku e = removed-free c d x (rw (meet_once x u (s ∷ p) (q ++ (t ∷ [])) nd hu (subst (λ (w : ℕ). In w (x ∷ (q ++ (t ∷ [])))) (sym e) hv)) at ku) fx

      go : AllFree c d (s ∷ (p ++ (x ∷ []))) ⊎ ((u : ℕ) × In u (s ∷ (p ++ (x ∷ []))) × Removed c d u)
          → AllFree c d (x ∷ (q ++ (t ∷ []))) ⊎ ((u : ℕ) × In u (x ∷ (q ++ (t ∷ []))) × Removed c d u)
          → ((z : ℕ) × ((z ≡ s) ⊎ (z ≡ t)) × Free c d z × Connected E c d x z) ⊎ (In c whole × In d whole × (c ≢ d))
      go (inl f) r = inl (s, inl refl, f s (inl refl), connected_back (along-connected E c d s p x wp f))
      go (inr a) (inl f) = inl (t, inr refl, f t (inr (in_right t q (t ∷ []) (inl refl))), along-connected E c d x q t wq f)
      go (inr a) (inr b) = inr (both_removed c d a.0 b.0 whole a.2 b.2 (ne a.0 b.0 a.1 b.1 a.2)
          (in_widen a.0 x (s ∷ p) (q ++ (t ∷ [])) a.1) (in_right b.0 (s ∷ p) (x ∷ (q ++ (t ∷ []))) b.1))

  pub reach-end : (L : Path) (x : ℕ) → IsPath E L → In x (vertices L) → Free c d x → ReachesEnd E c d L x
  reach-end L x g h f = ⊎_elim (λ e. inl (x, e, f, here)) (λ k. let r = in_split x L.inner k in inside r.0 r.1 r.2) (end_or_inner L x h)
    where
      inside : (p q : List ℕ) → L.inner ≡ p ++ (x ∷ q) → ReachesEnd E c d L x
      inside p q e =
          let k : L.inner ++ (L.t ∷ []) ≡ p ++ (x ∷ (q ++ (L.t ∷ []))) = rw e (append_assoc p (x ∷ q) (L.t ∷ [])) in
          let w = along-cut E L.s p x q L.t (rw e at g.along) in
          rw k (from_inside L.s p x q L.t w.0 w.1 (rw k at g.nodup) f)

-- the walks of the definition
pub walk_trans : {g : Graph} {X : List ℕ} {u v w : ℕ} → Walk g X u v → Walk g X v w → Walk g X u w
walk_trans stay r = r
walk_trans (hop k f h j) r = hop k f h (walk_trans j r)

pub walk_back : {g : Graph} {X : List ℕ} {u v : ℕ} → Simple g → Walk g X u v → Walk g X v u
walk_back p stay = stay
walk_back p (hop {u = u} {v = v} k f h j) = walk_trans (walk_back p j) (hop (p.symmetric u v k) h f stay)

-- fewer removed vertices, the same walk
pub walk_wider : {g : Graph} {X Y : List ℕ} {u v : ℕ} → ((w : ℕ) → In w Y → In w X) → Walk g X u v → Walk g Y u v
walk_wider i stay = stay
walk_wider i (hop {u = u} {v = v} k f h j) = hop k (λ m. f (i u m)) (λ m. h (i v m)) (walk_wider i j)

pub connected_walk : {g : Graph} {X : List ℕ} {c d u v : ℕ} → ((w : ℕ) → In w X → Removed c d w) → Connected (Adj g) c d u v → Walk g X u v
connected_walk i here = stay
connected_walk {c = c} {d = d} i (move {u = u} {v = v} k f h j) = hop k (λ m. removed-free c d u (i u m) f) (λ m. removed-free c d v (i v m) h) (connected_walk i j)
