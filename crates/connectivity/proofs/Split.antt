-- Splitting the links at a vertex.
use mathlib.Core.Path.{◌≡◌, refl, ap, ◌∙◌, subst, sym}
use mathlib.Core.Logic.{inl, inr, ◌⊎◌, ◌≢◌, ⊎_elim}
use mathlib.Core.List.{List, ◌++◌, ◌∷◌, [], append_assoc}
use mathlib.Core.Bool.{Bool, cond, true, false}
use Prim.Native.Nat.{ℕ}
use lib.Dec.{eqb}
use borrow.Author.Tests.{eqb-true, eqb-false}
use Rattle.connectivity.specs.Lists.{In, member, NoDup}
use Rattle.connectivity.specs.Path.{Path, vertices, End, IsPath, Along}
use Rattle.connectivity.specs.Build.{take_before, take_after, front_part, back_part, split_at, InBuild}
use Rattle.connectivity.proofs.Lists.{member-in, member-out, in_widen, in_right, in_left, nodup_right, nodup_head, meet_once, in_append, out_member}
use Rattle.connectivity.proofs.Paths.{along-cut}

pub split_list : (x : ℕ) (l : List ℕ) → In x l → l ≡ take_before x l ++ (x ∷ take_after x l)
split_list x [] m = absurd m
split_list x (a ∷ l) m = go (eqb x a) refl m (split_list x l)
  where
    go : (b : Bool) → eqb x a ≡ b → In x (a ∷ l) → (In x l → l ≡ take_before x l ++ (x ∷ take_after x l)) → a ∷ l ≡ cond b [] (a ∷ take_before x l) ++ (x ∷ cond b l (take_after x l))
    go true k m ih = rw (eqb-true x a k)
    go false k (inl h) ih = absurd (eqb-false x a k h)
    go false k (inr h) ih = ap (λ (t : List ℕ). a ∷ t) (ih h)

before_clear : (x : ℕ) (l : List ℕ) → ¬ In x (take_before x l)
before_clear x [] m = m
before_clear x (a ∷ l) m = go (eqb x a) refl m (before_clear x l)
  where
    go : (b : Bool) → eqb x a ≡ b → In x (cond b [] (a ∷ take_before x l)) → ¬ In x (take_before x l) → ⊥
    go true e m ih = m
    go false e (inl h) ih = eqb-false x a e h
    go false e (inr h) ih = ih h

-- p is what the split at x makes of L
pub data Piece (x : ℕ) (L : Path) (p : Path) : Type 0 where
  whole : ¬ In x L.inner → p ≡ L → Piece x L p
  front : In x L.inner → p ≡ front_part x L → Piece x L p
  back : In x L.inner → p ≡ back_part x L → Piece x L p

pub piece_of : (x : ℕ) (links : List Path) (p : Path) → In p (split_at x links) → (L : Path) × In L links × Piece x L p
piece_of x [] p m = absurd m
piece_of x (L ∷ ls) p m = go (member x L.inner) refl m (λ h. let r = piece_of x ls p h in (r.0, inr r.1, r.2))
  where
    Goal : Type 0
    Goal = (M : Path) × In M (L ∷ ls) × Piece x M p

    go : (b : Bool) → member x L.inner ≡ b → In p (cond b (front_part x L ∷ (back_part x L ∷ split_at x ls)) (L ∷ split_at x ls)) → (In p (split_at x ls) → Goal) → Goal
    go true e (inl h) old = (L, inl refl, front (member-in x L.inner e) h)
    go true e (inr (inl h)) old = (L, inl refl, back (member-in x L.inner e) h)
    go true e (inr (inr h)) old = old h
    go false e (inl h) old = (L, inl refl, whole (member-out x L.inner e) h)
    go false e (inr h) old = old h

-- the vertices of a link that is split
pub split_vertices : (x : ℕ) (L : Path) → In x L.inner → vertices L ≡ (L.s ∷ take_before x L.inner) ++ (x ∷ (take_after x L.inner ++ (L.t ∷ [])))
split_vertices x L m = ap (λ (l : List ℕ). L.s ∷ l) (ap (λ (l : List ℕ). l ++ (L.t ∷ [])) (split_list x L.inner m) ∙ append_assoc (take_before x L.inner) (x ∷ take_after x L.inner) (L.t ∷ []))

in_vertices : (x u : ℕ) (L : Path) → In x L.inner → In u ((L.s ∷ take_before x L.inner) ++ (x ∷ (take_after x L.inner ++ (L.t ∷ [])))) → In u (vertices L)
in_vertices x u L m h = subst (λ (k : List ℕ). In u k) (sym (split_vertices x L m)) h

nodup_split : (x : ℕ) (L : Path) → In x L.inner → NoDup (vertices L) → NoDup ((L.s ∷ take_before x L.inner) ++ (x ∷ (take_after x L.inner ++ (L.t ∷ []))))
nodup_split x L m nd = subst (λ (k : List ℕ). NoDup k) (split_vertices x L m) nd

pub piece_in : (x u : ℕ) (L p : Path) → Piece x L p → In u (vertices p) → In u (vertices L)
piece_in x u L p (whole n e) h = rw e at h
piece_in x u L p (front m e) h = in_vertices x u L m (in_widen u x (L.s ∷ take_before x L.inner) (take_after x L.inner ++ (L.t ∷ [])) (rw e at h))
piece_in x u L p (back m e) h = in_vertices x u L m (in_right u (L.s ∷ take_before x L.inner) (x ∷ (take_after x L.inner ++ (L.t ∷ []))) (rw e at h))

pub piece_inner : (x w : ℕ) (L p : Path) → Piece x L p → In w p.inner → In w L.inner
piece_inner x w L p (whole n e) h = rw e at h
piece_inner x w L p (front m e) h = subst (λ (k : List ℕ). In w k) (sym (split_list x L.inner m)) (in_left w (take_before x L.inner) (x ∷ take_after x L.inner) (rw e at h))
piece_inner x w L p (back m e) h = subst (λ (k : List ℕ). In w k) (sym (split_list x L.inner m)) (in_right w (take_before x L.inner) (x ∷ take_after x L.inner) (inr (rw e at h)))

pub piece_clear : (x : ℕ) (L p : Path) → NoDup (vertices L) → Piece x L p → ¬ In x p.inner
piece_clear x L p nd (whole n e) h = n (rw e at h)
piece_clear x L p nd (front m e) h = before_clear x L.inner (rw e at h)
piece_clear x L p nd (back m e) h = (nodup_right (L.s ∷ take_before x L.inner) (x ∷ (take_after x L.inner ++ (L.t ∷ []))) (nodup_split x L m nd)).0 (in_left x (take_after x L.inner) (L.t ∷ []) (rw e at h))

pub piece_end : (x z : ℕ) (L p : Path) → Piece x L p → End z p → (z ≡ x) ⊎ End z L
piece_end x z L p (whole n e) h = inr (rw e at h)
piece_end x z L p (front m e) (inl h) = inr (inl (rw e at h))
piece_end x z L p (front m e) (inr h) = inl (rw e at h)
piece_end x z L p (back m e) (inl h) = inl (rw e at h)
piece_end x z L p (back m e) (inr h) = inr (inr (rw e at h))

module _ (E : ℕ → ℕ → Type 0) where
  split_along : (x : ℕ) (L : Path) → In x L.inner → IsPath E L → Along E L.s (take_before x L.inner) x × Along E x (take_after x L.inner) L.t
  split_along x L m g = along-cut E L.s (take_before x L.inner) x (take_after x L.inner) L.t (subst (λ (k : List ℕ). Along E L.s k L.t) (split_list x L.inner m) g.along)

  pub piece_path : (x : ℕ) (L p : Path) → Piece x L p → IsPath E L → IsPath E p
  piece_path x L p (whole n e) g = rw e g
  piece_path x L p (front m e) g = rw e (record { along = (split_along x L m g).0; nodup = nodup_head x (L.s ∷ take_before x L.inner) (take_after x L.inner ++ (L.t ∷ [])) (nodup_split x L m g.nodup) })
  piece_path x L p (back m e) g = rw e (record { along = (split_along x L m g).1; nodup = nodup_right (L.s ∷ take_before x L.inner) (x ∷ (take_after x L.inner ++ (L.t ∷ []))) (nodup_split x L m g.nodup) })

  pub split_path : (x : ℕ) (links : List Path) → ((L : Path) → In L links → IsPath E L) → (p : Path) → In p (split_at x links) → IsPath E p
  split_path x links f p h = let r = piece_of x links p h in piece_path x r.0 p r.2 (f r.0 r.1)

-- two pieces of one link share x alone
pub piece_meet : (x : ℕ) (L p q : Path) → NoDup (vertices L) → Piece x L p → Piece x L q → (w : ℕ) → w ≢ x → In w (vertices p) → In w (vertices q) → p ≡ q
piece_meet x L p q nd (whole n e) (whole m k) w ne hp hq = e ∙ sym k
piece_meet x L p q nd (whole n e) (front m k) w ne hp hq = absurd (n m)
piece_meet x L p q nd (whole n e) (back m k) w ne hp hq = absurd (n m)
piece_meet x L p q nd (front n e) (whole m k) w ne hp hq = absurd (m n)
piece_meet x L p q nd (front n e) (front m k) w ne hp hq = e ∙ sym k
piece_meet x L p q nd (front n e) (back m k) w ne hp hq = absurd (ne (meet_once x w (L.s ∷ take_before x L.inner) (take_after x L.inner ++ (L.t ∷ [])) (nodup_split x L n nd) (rw e at hp) (rw k at hq)))
piece_meet x L p q nd (back n e) (whole m k) w ne hp hq = absurd (m n)
piece_meet x L p q nd (back n e) (front m k) w ne hp hq = absurd (ne (meet_once x w (L.s ∷ take_before x L.inner) (take_after x L.inner ++ (L.t ∷ [])) (nodup_split x L n nd) (rw k at hq) (rw e at hp)))
piece_meet x L p q nd (back n e) (back m k) w ne hp hq = e ∙ sym k

-- a vertex of a link is on a piece of it
pub split_kept : (x z : ℕ) (links : List Path) → InBuild z links → InBuild z (split_at x links)
split_kept x z [] r = absurd r.1
split_kept x z (M ∷ ls) r = go (member x M.inner) refl r.0 r.1 r.2 (λ L k h. split_kept x z ls (L, k, h))
  where
    two : In x M.inner → In z (vertices M) → (p : Path) × In p (front_part x M ∷ (back_part x M ∷ split_at x ls)) × In z (vertices p)
    two e k = ⊎_elim (λ a. (front_part x M, inl refl, in_left z (M.s ∷ take_before x M.inner) (x ∷ []) a)) (λ a. (back_part x M, inr (inl refl), a))
        (in_append z (M.s ∷ take_before x M.inner) (x ∷ (take_after x M.inner ++ (M.t ∷ []))) (subst (λ (l : List ℕ). In z l) (split_vertices x M e) k))

    go : (b : Bool) → member x M.inner ≡ b → (L : Path) → In L (M ∷ ls) → In z (vertices L) → ((L : Path) → In L ls → In z (vertices L) → InBuild z (split_at x ls))
        → (p : Path) × In p (cond b (front_part x M ∷ (back_part x M ∷ split_at x ls)) (M ∷ split_at x ls)) × In z (vertices p)
    go true e L (inl k) h ih = two (member-in x M.inner e) (rw k at h)
    go true e L (inr k) h ih = let r = ih L k h in (r.0, inr (inr r.1), r.2)
    go false e L (inl k) h ih = (M, inl refl, rw k at h)
    go false e L (inr k) h ih = let r = ih L k h in (r.0, inr r.1, r.2)

pub kept_split : (x z : ℕ) (links : List Path) → InBuild z (split_at x links) → InBuild z links
kept_split x z links r = let s = piece_of x links r.0 r.1 in (s.0, s.1, piece_in x z s.0 r.0 s.2 r.2)

-- a link without x inside stays as it is
pub split_skip : (x : ℕ) (P : Path) (ls : List Path) → ¬ In x P.inner → split_at x (P ∷ ls) ≡ P ∷ split_at x ls
split_skip x P ls n = rw (out_member x P.inner n)
