-- Order in a list: `Before z t l` (z stands before t) and `Between s z t l` (s, then z, then t); both are kept when vertices are put in.
use mathlib.Core.Path.{◌≡◌, refl}
use mathlib.Core.Logic.{◌⊎◌, inr, inl, ⊎_swap, ⊎_map, ⊎_elim}
use mathlib.Core.List.{List, [], ◌∷◌, ◌++◌}
use Prim.Native.Nat.{ℕ}
use Rattle.connectivity.specs.Lists.{In, NoDup}
use Rattle.connectivity.proofs.Lists.{in_right, in_append, nodup_append, in_left}

abbrev pub Before : ℕ → ℕ → List ℕ → Type 0
Before z t [] = ⊥
Before z t (b ∷ l) = ((z ≡ b) × In t l) ⊎ Before z t l

abbrev pub Between : ℕ → ℕ → ℕ → List ℕ → Type 0
Between s z t [] = ⊥
Between s z t (b ∷ l) = ((s ≡ b) × Before z t l) ⊎ Between s z t l

-- one way or the other
abbrev pub Separates : ℕ → ℕ → ℕ → List ℕ → Type 0
Separates z s t l = Between s z t l ⊎ Between t z s l

before_right : (z t : ℕ) (p l : List ℕ) → Before z t l → Before z t (p ++ l)
before_right z t [] l h = h
before_right z t (b ∷ p) l h = inr (before_right z t p l h)

pub between-right : (s z t : ℕ) (p l : List ℕ) → Between s z t l → Between s z t (p ++ l)
between-right s z t [] l h = h
between-right s z t (b ∷ p) l h = inr (between-right s z t p l h)

-- q is put in between u and v
pub in_insert : (w : ℕ) (u q v : List ℕ) → In w (u ++ v) → In w (u ++ (q ++ v))
in_insert w [] q v h = in_right w q v h
in_insert w (b ∷ u) q v (inl e) = inl e
in_insert w (b ∷ u) q v (inr h) = inr (in_insert w u q v h)

pub insert_in : (w : ℕ) (u q v : List ℕ) → In w (u ++ (q ++ v)) → In w (u ++ v) ⊎ In w q
insert_in w [] q v h = ⊎_swap (in_append w q v h)
insert_in w (b ∷ u) q v (inl e) = inl (inl e)
insert_in w (b ∷ u) q v (inr h) = ⊎_map inr (λ k. k) (insert_in w u q v h)

pub nodup_insert : (u q v : List ℕ) → NoDup (u ++ v) → NoDup q → ((w : ℕ) → In w q → ¬ In w (u ++ v)) → NoDup (u ++ (q ++ v))
nodup_insert [] q v n m f = nodup_append q v m n f
nodup_insert (b ∷ u) q v n m f = ((λ h. ⊎_elim n.0 (λ k. f b k (inl refl)) (insert_in b u q v h)), nodup_insert u q v n.1 m (λ w h k. f w h (inr k)))

before_insert : (z t : ℕ) (u q v : List ℕ) → Before z t (u ++ v) → Before z t (u ++ (q ++ v))
before_insert z t [] q v h = before_right z t q v h
before_insert z t (b ∷ u) q v (inl h) = inl (h.0, in_insert t u q v h.1)
before_insert z t (b ∷ u) q v (inr h) = inr (before_insert z t u q v h)

pub between-insert : (s z t : ℕ) (u q v : List ℕ) → Between s z t (u ++ v) → Between s z t (u ++ (q ++ v))
between-insert s z t [] q v h = between-right s z t q v h
between-insert s z t (b ∷ u) q v (inl h) = inl (h.0, before_insert z t u q v h.1)
between-insert s z t (b ∷ u) q v (inr h) = inr (between-insert s z t u q v h)

-- from the two parts of an append
pub between_join : (s z t : ℕ) (m r : List ℕ) → In s m → Before z t r → Between s z t (m ++ r)
between_join s z t [] r h k = absurd h
between_join s z t (b ∷ m) r (inl e) k = inl (e, before_right z t m r k)
between_join s z t (b ∷ m) r (inr h) k = inr (between_join s z t m r h k)

-- what stands between two members of a part of a list without duplicates stands in that part, and not at its ends
before_in : (z t : ℕ) (l : List ℕ) → Before z t l → In z l × In t l
before_in z t [] h = absurd h
before_in z t (b ∷ l) (inl h) = (inl h.0, inr h.1)
before_in z t (b ∷ l) (inr h) = let r = before_in z t l h in (inr r.0, inr r.1)

pub between_in : (s z t : ℕ) (l : List ℕ) → Between s z t l → In s l × In t l
between_in s z t [] h = absurd h
between_in s z t (b ∷ l) (inl h) = (inl h.0, inr (before_in z t l h.1).1)
between_in s z t (b ∷ l) (inr h) = let r = between_in s z t l h in (inr r.0, inr r.1)

-- drop v
before_shrink : (z t : ℕ) (m v : List ℕ) → NoDup (m ++ v) → Before z t (m ++ v) → In t m → Before z t m
before_shrink z t [] v nd h k = k
before_shrink z t (b ∷ m) v nd (inl h) (inl e) = absurd (nd.0 (rw e at h.1))
before_shrink z t (b ∷ m) v nd (inl h) (inr k) = inl (h.0, k)
before_shrink z t (b ∷ m) v nd (inr h) (inl e) = absurd (nd.0 (rw e at (before_in z t (m ++ v) h).1))
before_shrink z t (b ∷ m) v nd (inr h) (inr k) = inr (before_shrink z t m v nd.1 h k)

between-shrink : (s z t : ℕ) (m v : List ℕ) → NoDup (m ++ v) → Between s z t (m ++ v) → In t m → Between s z t m
between-shrink s z t [] v nd h k = k
between-shrink s z t (b ∷ m) v nd (inl h) (inl e) = absurd (nd.0 (rw e at (before_in z t (m ++ v) h.1).1))
between-shrink s z t (b ∷ m) v nd (inl h) (inr k) = inl (h.0, before_shrink z t m v nd.1 h.1 k)
between-shrink s z t (b ∷ m) v nd (inr h) (inl e) = absurd (nd.0 (rw e at (between_in s z t (m ++ v) h).1))
between-shrink s z t (b ∷ m) v nd (inr h) (inr k) = inr (between-shrink s z t m v nd.1 h k)

-- drop u
pub between-part : (s z t : ℕ) (u m v : List ℕ) → NoDup (u ++ (m ++ v)) → Between s z t (u ++ (m ++ v)) → In s m → In t m → Between s z t m
between-part s z t [] m v nd h hs ht = between-shrink s z t m v nd h ht
between-part s z t (b ∷ u) m v nd (inl h) hs ht = absurd (nd.0 (in_right b u (m ++ v) (in_left b m v (rw h.0 at hs))))
between-part s z t (b ∷ u) m v nd (inr h) hs ht = between-part s z t u m v nd.1 h hs ht

before_inner : (z t : ℕ) (l : List ℕ) (b : ℕ) → Before z t (l ++ (b ∷ [])) → In z l
before_inner z t [] b (inl k) = k.1
before_inner z t [] b (inr k) = k
before_inner z t (c ∷ l) b (inl k) = inl k.0
before_inner z t (c ∷ l) b (inr k) = inr (before_inner z t l b k)

pub between-inner : (s z t a : ℕ) (l : List ℕ) (b : ℕ) → Between s z t (a ∷ (l ++ (b ∷ []))) → In z l
between-inner s z t a [] b (inl h) = before_inner z t [] b h.1
between-inner s z t a [] b (inr h) = ⊎_elim (λ k. k.1) (λ k. k) h
between-inner s z t a (c ∷ l) b (inl h) = before_inner z t (c ∷ l) b h.1
between-inner s z t a (c ∷ l) b (inr h) = inr (between-inner s z t c l b h)
