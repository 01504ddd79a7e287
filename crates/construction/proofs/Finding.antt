-- The first place of a list at which a test holds, and the first place of two neighbours.
use mathlib.Core.Path.{◌≡◌, refl, ap, ◌∙◌}
use mathlib.Core.Logic.{◌⊎◌, inl, inr, ⊎_map}
use mathlib.Core.List.{List, [], ◌∷◌, ◌++◌}
use mathlib.Core.Bool.{Bool, true, false, cond, ◌&&◌, ◌||◌}
use Prim.Native.Nat.{ℕ, suc, ◌+◌, ◌≤◌, ◌<◌}
use native.Mathlib.Omega.{arith}
use lib.Dec.{eqb}
use lib.ListN.{length, take}
use lib.Seq.{take-append-add}
use borrow.Author.Tests.{eqb-true, eq-eqb}
use Rattle.connectivity.specs.Lists.{In}
use Rattle.connectivity.proofs.Lists.{or-true, true_or, and-true}
use Rattle.connectivity.proofs.Paths.{SamePair}
use Rattle.construction.specs.Sets.{place_of}
use Rattle.construction.specs.Steps.{pair_place}

-- a place found stands before the end, and one not found at the end: numbers alone, since omega is slow beside sets
pub front_low : (p f l r : ℕ) → p ≡ f → l ≡ f + suc r → p < l
front_low p f l r h e = omega arith

pub end_high : (p l : ℕ) → p ≡ l → l ≤ p
end_high p l e = omega arith

pub record FirstAt (p : ℕ → Bool) (l : List ℕ) : Type 0 where
  pub front : List ℕ
  pub x : ℕ
  pub back : List ℕ
  pub is : l ≡ front ++ (x ∷ back)
  pub holds : p x ≡ true
  pub none : (w : ℕ) → In w front → p w ≡ false

pub first_at : (p : ℕ → Bool) (l : List ℕ) → FirstAt p l ⊎ ((w : ℕ) → In w l → p w ≡ false)
first_at p [] = inr (λ w h. absurd h)
first_at p (a ∷ l) = go (p a) refl (first_at p l)
  where
    more : p a ≡ false → (k : List ℕ) → ((w : ℕ) → In w k → p w ≡ false) → (w : ℕ) → In w (a ∷ k) → p w ≡ false
    more e k f w (inl i) = ap p i ∙ e
    more e k f w (inr h) = f w h

    go : (b : Bool) → p a ≡ b → FirstAt p l ⊎ ((w : ℕ) → In w l → p w ≡ false) → FirstAt p (a ∷ l) ⊎ ((w : ℕ) → In w (a ∷ l) → p w ≡ false)
    go true e r = inl (record { front = []; x = a; back = l; is = refl; holds = e; none = λ w h. absurd h })
    go false e (inl r) = inl (record { front = a ∷ r.front; x = r.x; back = r.back; is = ap (λ (k : List ℕ). a ∷ k) r.is; holds = r.holds; none = more e r.front r.none })
    go false e (inr f) = inr (more e l f)

pub place_is : (p : ℕ → Bool) (front : List ℕ) (x : ℕ) (back : List ℕ) → ((w : ℕ) → In w front → p w ≡ false) → p x ≡ true → place_of p (front ++ (x ∷ back)) ≡ length front
unfolding place_of
place_is p [] x back f h = ap (λ (b : Bool). cond b 0 (place_of p back + 1)) h
place_is p (a ∷ front) x back f h =
    let ih = place_is p front x back (λ w k. f w (inr k)) h in
    let e : place_of p (front ++ (x ∷ back)) + 1 ≡ suc (length front) = omega arith in
    ap (λ (b : Bool). cond b 0 (place_of p (front ++ (x ∷ back)) + 1)) (f a (inl refl)) ∙ e

pub place_none : (p : ℕ → Bool) (l : List ℕ) → ((w : ℕ) → In w l → p w ≡ false) → place_of p l ≡ length l
unfolding place_of
place_none p [] f = refl
place_none p (a ∷ l) f =
    let ih = place_none p l (λ w k. f w (inr k)) in
    let e : place_of p l + 1 ≡ suc (length l) = omega arith in
    ap (λ (b : Bool). cond b 0 (place_of p l + 1)) (f a (inl refl)) ∙ e

pub place_within : (p : ℕ → Bool) (l : List ℕ) → place_of p l ≤ length l
unfolding place_of
place_within p [] = omega arith
place_within p (a ∷ l) = go (p a) (place_within p l)
  where
    go : (b : Bool) → place_of p l ≤ length l → cond b 0 (place_of p l + 1) ≤ suc (length l)
    go true h = omega arith
    go false h = omega arith

-- the list up to the first place
pub up_to-first : (p : ℕ → Bool) (front : List ℕ) (x : ℕ) (back : List ℕ) → ((w : ℕ) → In w front → p w ≡ false) → p x ≡ true
    → take (place_of p (front ++ (x ∷ back)) + 1) (front ++ (x ∷ back)) ≡ front ++ (x ∷ [])
up_to-first p front x back f h = ap (λ (k : ℕ). take (k + 1) (front ++ (x ∷ back))) (place_is p front x back f h) ∙ take-append-add front (x ∷ back) 1

-- x and y as neighbours, in either order
abbrev is_pair : ℕ → ℕ → ℕ → ℕ → Bool
is_pair x y a b = (eqb a x && eqb b y) || (eqb a y && eqb b x)

both_same : (a b x y : ℕ) → eqb a x && eqb b y ≡ true → (a ≡ x) × (b ≡ y)
both_same a b x y e = let r = and-true (eqb a x) (eqb b y) e in (eqb-true a x r.0, eqb-true b y r.1)

pair_same : (x y a b : ℕ) → is_pair x y a b ≡ true → SamePair a b x y
pair_same x y a b e = ⊎_map (both_same a b x y) (both_same a b y x) (or-true (eqb a x && eqb b y) (eqb a y && eqb b x) e)

same_both : (a b x y : ℕ) → a ≡ x → b ≡ y → eqb a x && eqb b y ≡ true
same_both a b x y h k = ap (λ (c : Bool). c && eqb b y) (eq-eqb a x h) ∙ eq-eqb b y k

same_pair_lem : (x y a b : ℕ) → SamePair a b x y → is_pair x y a b ≡ true
same_pair_lem x y a b (inl e) = ap (λ (c : Bool). c || (eqb a y && eqb b x)) (same_both a b x y e.0 e.1)
same_pair_lem x y a b (inr e) = true_or (eqb a x && eqb b y) (eqb a y && eqb b x) (same_both a b y x e.0 e.1)

pub record PairAt (x y : ℕ) (l : List ℕ) : Type 0 where
  pub front : List ℕ
  pub a : ℕ
  pub b : ℕ
  pub back : List ℕ
  pub is : l ≡ front ++ (a ∷ (b ∷ back))
  pub same : SamePair a b x y
  pub place : pair_place x y l ≡ length front

pub pair-at : (x y : ℕ) (l : List ℕ) → PairAt x y l ⊎ (pair_place x y l ≡ length l)
unfolding pair_place
pair-at x y [] = inr refl
pair-at x y (a ∷ []) = inr refl
pair-at x y (a ∷ (b ∷ l)) = go (is_pair x y a b) refl (pair-at x y (b ∷ l))
  where
    down : is_pair x y a b ≡ false → pair_place x y (a ∷ (b ∷ l)) ≡ pair_place x y (b ∷ l) + 1
    down e = ap (λ (c : Bool). cond c 0 (pair_place x y (b ∷ l) + 1)) e

    go : (t : Bool) → is_pair x y a b ≡ t → PairAt x y (b ∷ l) ⊎ (pair_place x y (b ∷ l) ≡ length (b ∷ l)) → PairAt x y (a ∷ (b ∷ l)) ⊎ (pair_place x y (a ∷ (b ∷ l)) ≡ length (a ∷ (b ∷ l)))
    go true e r = inl (record { front = []; a = a; b = b; back = l; is = refl; same = pair_same x y a b e; place = ap (λ (c : Bool). cond c 0 (pair_place x y (b ∷ l) + 1)) e })
    go false e (inl r) = inl (record { front = a ∷ r.front; a = r.a; b = r.b; back = r.back; is = ap (λ (k : List ℕ). a ∷ k) r.is; same = r.same; place = omega (arith, r.place, down e) })
    go false e (inr h) = inr (omega (arith, h, down e))

before : (x y c d : ℕ) (l : List ℕ) → pair_place x y (d ∷ l) < length (d ∷ l) → pair_place x y (c ∷ (d ∷ l)) < length (c ∷ (d ∷ l))
unfolding pair_place
before x y c d l h = go (is_pair x y c d) refl
  where
    go : (t : Bool) → is_pair x y c d ≡ t → cond t 0 (pair_place x y (d ∷ l) + 1) < suc (length (d ∷ l))
    go true e = omega arith
    go false e = omega arith

pub pair-low : (x y : ℕ) (front : List ℕ) (a b : ℕ) (back : List ℕ) → SamePair a b x y → pair_place x y (front ++ (a ∷ (b ∷ back))) < length (front ++ (a ∷ (b ∷ back)))
unfolding pair_place
pair-low x y [] a b back s = let e = ap (λ (c : Bool). cond c 0 (pair_place x y (b ∷ back) + 1)) (same_pair_lem x y a b s) in omega arith
pair-low x y (c ∷ []) a b back s = before x y c a (b ∷ back) (pair-low x y [] a b back s)
pair-low x y (c ∷ (d ∷ front)) a b back s = before x y c d (front ++ (a ∷ (b ∷ back))) (pair-low x y (d ∷ front) a b back s)
