-- Links that are split: which pieces there are, and which ends a link joins. Assumes nothing.
use Prim.Native.Nat.{ℕ}
use mathlib.Core.List.{List, [], ◌∷◌}
use mathlib.Core.Bool.{Bool, true, false, cond}
use mathlib.Core.Path.{◌≡◌, refl, sym, ap, ◌∙◌, subst}
use mathlib.Core.Logic.{◌⊎◌, inl, inr, ⊎_elim, ◌↔◌}
use Rattle.connectivity.specs.Lists.{In, member}
use Rattle.connectivity.specs.Path.{vertices, Path, End}
use Rattle.connectivity.specs.Build.{IsBranch, split_at, front_part, back_part}
use Rattle.connectivity.proofs.Lists.{member-in, member-out, in_member, in?}
use Rattle.connectivity.proofs.Paths.{SamePair, same_trans, end_s, end_t}
use Rattle.connectivity.proofs.Split.{Piece, Piece.whole, Piece.front, Piece.back, piece_of, piece_inner, piece_end, split_skip}

-- a piece of a link is among the links after the split
pub piece_there : (x : ℕ) (links : List Path) (K : Path) → In K links → (p : Path) → Piece x K p → In p (split_at x links)
piece_there x [] K h p c = absurd h
piece_there x (M ∷ ls) K (inl e) p c = go (member x M.inner) refl (rw e at c)
  where
    go : (b : Bool) → member x M.inner ≡ b → Piece x M p → In p (cond b (front_part x M ∷ (back_part x M ∷ split_at x ls)) (M ∷ split_at x ls))
    go true m (whole n k) = absurd (n (member-in x M.inner m))
    go true m (front h k) = inl k
    go true m (back h k) = inr (inl k)
    go false m (whole n k) = inl k
    go false m (front h k) = absurd (member-out x M.inner m h)
    go false m (back h k) = absurd (member-out x M.inner m h)
piece_there x (M ∷ ls) K (inr h) p c = go (member x M.inner) (piece_there x ls K h p c)
  where
    go : (b : Bool) → In p (split_at x ls) → In p (cond b (front_part x M ∷ (back_part x M ∷ split_at x ls)) (M ∷ split_at x ls))
    go true i = inr (inr i)
    go false i = inr i

-- branch vertices stay, and x may become one
pub branch_kept : (x : ℕ) (links : List Path) (z : ℕ) → IsBranch z links → IsBranch z (split_at x links)
branch_kept x links z r = go r.0 r.1 (in? x r.0.inner) r.2
  where
    go : (L : Path) → In L links → Dec (In x L.inner) → End z L → IsBranch z (split_at x links)
    go L h (yes i) (inl e) = (front_part x L, piece_there x links L h (front_part x L) (front i refl), inl e)
    go L h (yes i) (inr e) = (back_part x L, piece_there x links L h (back_part x L) (back i refl), inr e)
    go L h (no i) e = (L, piece_there x links L h L (whole i refl), e)

pub branch_split : (x : ℕ) (links : List Path) (z : ℕ) → IsBranch z (split_at x links) → (z ≡ x) ⊎ IsBranch z links
branch_split x links z r = let a = piece_of x links r.0 r.1 in ⊎_elim inl (λ e. inr (a.0, a.1, e)) (piece_end x z a.0 r.0 a.2 r.2)

-- where no link has x inside nothing is split
pub split_none : (x : ℕ) (links : List Path) → ((L : Path) → In L links → ¬ In x L.inner) → split_at x links ≡ links
split_none x [] n = refl
split_none x (L ∷ ls) n = split_skip x L ls (n L (inl refl)) ∙ ap (λ (k : List Path). L ∷ k) (split_none x ls (λ M h. n M (inr h)))

split_two : (x : ℕ) (L : Path) (ls : List Path) → In x L.inner → split_at x (L ∷ ls) ≡ front_part x L ∷ (back_part x L ∷ split_at x ls)
split_two x L ls h = rw (in_member x L.inner h)

-- the order of two splits does not matter where no link has both vertices inside
swap_one : (x y : ℕ) (L : Path) (ls : List Path) → In x L.inner → ¬ In y L.inner → split_at x (split_at y ls) ≡ split_at y (split_at x ls)
    → split_at x (split_at y (L ∷ ls)) ≡ split_at y (split_at x (L ∷ ls))
swap_one x y L ls h n ih =
    let f = front_part x L in
    let b = back_part x L in
    ap (split_at x) (split_skip y L ls n) ∙ split_two x L (split_at y ls) h ∙ ap (λ (k : List Path). f ∷ (b ∷ k)) ih
    ∙ sym (ap (split_at y) (split_two x L ls h) ∙ split_skip y f (b ∷ split_at x ls) (λ i. n (piece_inner x y L f (front h refl) i))
    ∙ ap (λ (k : List Path). f ∷ k) (split_skip y b (split_at x ls) (λ i. n (piece_inner x y L b (back h refl) i))))

pub split_swap : (x y : ℕ) (links : List Path) → ((L : Path) → In L links → In x L.inner → ¬ In y L.inner) → split_at x (split_at y links) ≡ split_at y (split_at x links)
split_swap x y [] n = refl
split_swap x y (L ∷ ls) n = go (in? x L.inner) (in? y L.inner) (split_swap x y ls (λ M h. n M (inr h)))
  where
    go : Dec (In x L.inner) → Dec (In y L.inner) → split_at x (split_at y ls) ≡ split_at y (split_at x ls) → split_at x (split_at y (L ∷ ls)) ≡ split_at y (split_at x (L ∷ ls))
    go (yes h) (yes k) ih = absurd (n L (inl refl) h k)
    go (yes h) (no k) ih = swap_one x y L ls h k ih
    go (no h) (yes k) ih = sym (swap_one y x L ls k h (sym ih))
    go (no h) (no k) ih = ap (split_at x) (split_skip y L ls k) ∙ split_skip x L (split_at y ls) h ∙ ap (λ (m : List Path). L ∷ m) ih ∙ sym (ap (split_at y) (split_skip x L ls h) ∙ split_skip y L (split_at x ls) k)

-- the ends of a link, either way round, are on it
pub pair_on : (L : Path) (u v : ℕ) → SamePair u v L.s L.t → In u (vertices L) × In v (vertices L)
pair_on L u v (inl e) = (subst (λ (z : ℕ). In z (vertices L)) (sym e.0) (end_s L), subst (λ (z : ℕ). In z (vertices L)) (sym e.1) (end_t L))
pair_on L u v (inr e) = (subst (λ (z : ℕ). In z (vertices L)) (sym e.0) (end_t L), subst (λ (z : ℕ). In z (vertices L)) (sym e.1) (end_s L))

-- some link has the ends u and v, either way round
abbrev pub Joined : List Path → ℕ → ℕ → Type 0
Joined links u v = (L : Path) × In L links × SamePair u v L.s L.t

-- K is the only link with x inside, shares no inner vertex, and is the only one with its two ends
pub record Sole (links : List Path) (x : ℕ) (K : Path) : Type 0 where
  pub there : In K links
  pub inside : In x K.inner
  pub only : (M : Path) → In M links → (w : ℕ) → In w K.inner → In w M.inner → M ≡ K
  pub by_ends : (M : Path) → In M links → SamePair M.s M.t K.s K.t → M ≡ K

-- what a split does to the pairs of ends
abbrev pub Replaced : Type 0 → ℕ → Path → ℕ → ℕ → Type 0
Replaced J x K u v = ((J × (¬ SamePair u v K.s K.t)) ⊎ SamePair u v K.s x) ⊎ SamePair u v x K.t

pub split_joined : (links : List Path) (x : ℕ) (K : Path) → Sole links x K → (u v : ℕ) → Joined (split_at x links) u v ↔ Replaced (Joined links u v) x K u v
split_joined links x K one u v = (λ r. let a = piece_of x links r.0 r.1 in there r.0 a.0 a.1 a.2 r.2, again)
  where
    there : (p L : Path) → In L links → Piece x L p → SamePair u v p.s p.t → Replaced (Joined links u v) x K u v
    there p L h (whole n k) e =
        let f : SamePair u v L.s L.t = rw k at e in
        inl (inl ((L, h, f), λ j. n (rw (one.by_ends L h (same_trans u v L.s L.t K.s K.t f j)) one.inside)))
    there p L h (front i k) e = inl (inr (rw (one.only L h x one.inside i) at (rw k at e)))
    there p L h (back i k) e = inr (rw (one.only L h x one.inside i) at (rw k at e))

    old : (L : Path) → In L links → SamePair u v L.s L.t → ¬ SamePair u v K.s K.t → Dec (In x L.inner) → Joined (split_at x links) u v
    old L h e n (yes i) = absurd (n (rw (one.only L h x one.inside i) at e))
    old L h e n (no i) = (L, piece_there x links L h L (whole i refl), e)

    again : Replaced (Joined links u v) x K u v → Joined (split_at x links) u v
    again (inl (inl r)) = old r.0.0 r.0.1 r.0.2 r.1 (in? x r.0.0.inner)
    again (inl (inr e)) = (front_part x K, piece_there x links K one.there (front_part x K) (front one.inside refl), e)
    again (inr e) = (back_part x K, piece_there x links K one.there (back_part x K) (back one.inside refl), e)
