-- The places of a list: each place holds a member, each member has a place, and where nothing stands twice only one.
use mathlib.Core.Path.{◌≡◌, refl, ap, sym, subst, ◌∙◌}
use mathlib.Core.Logic.{inl, inr}
use mathlib.Core.List.{List, ◌++◌, [], ◌∷◌, append_assoc}
use Prim.Native.Nat.{ℕ, ◌≤◌, ◌<◌, ◌+◌, ◌-◌, zero, suc}
use native.Mathlib.Omega.{arith}
use lib.ListN.{length, get_or, take, drop, length-drop}
use lib.Seq.{get_or-append-add, get_or-drop}
use Rattle.connectivity.specs.Lists.{In, NoDup}
use Rattle.connectivity.proofs.Lists.{rev}
use Rattle.construction.specs.Steps.{segment}

pub at_in : {A : Type 0} (l : List A) (i : ℕ) (d : A) → i < length l → In (get_or l i d) l
at_in [] i d h = absurd (omega arith)
at_in (a ∷ l) zero d h = inl refl
at_in (a ∷ l) (suc i) d h = inr (at_in l i d (omega arith))

pub place_in : (l : List ℕ) (i : ℕ) → i < length l → In (get_or l i 0) l
place_in l i h = at_in l i 0 h

pub in_place : (w : ℕ) (l : List ℕ) → In w l → (i : ℕ) × (i < length l) × (get_or l i 0 ≡ w)
in_place w [] m = absurd m
in_place w (a ∷ l) (inl e) = (0, omega arith, sym e)
in_place w (a ∷ l) (inr m) = let r = in_place w l m in (suc r.0, omega arith, r.2)

pub same_place : (l : List ℕ) → NoDup l → (i j : ℕ) → i < length l → j < length l → get_or l i 0 ≡ get_or l j 0 → i ≡ j
same_place [] nd i j h k e = absurd (omega arith)
same_place (a ∷ l) nd zero zero h k e = refl
same_place (a ∷ l) nd zero (suc j) h k e = absurd (nd.0 (rw e (place_in l j (omega arith))))
same_place (a ∷ l) nd (suc i) zero h k e = absurd (nd.0 (rw (sym e) (place_in l i (omega arith))))
same_place (a ∷ l) nd (suc i) (suc j) h k e = ap suc (same_place l nd.1 i j (omega arith) (omega arith) e)

-- a place of an append, past the first list
pub place_past : (l k : List ℕ) (i : ℕ) → length l ≤ i → get_or (l ++ k) i 0 ≡ get_or k (i - length l) 0
place_past l k i h = let e : i ≡ length l + (i - length l) = omega arith in ap (λ (j : ℕ). get_or (l ++ k) j 0) e ∙ get_or-append-add l k (i - length l) 0

-- the places of a part
pub take_place : (l : List ℕ) (j k : ℕ) → j < k → j < length l → In (get_or l j 0) (take k l)
take_place [] j k h i = absurd (omega arith)
take_place (a ∷ l) j zero h i = absurd (omega arith)
take_place (a ∷ l) zero (suc k) h i = inl refl
take_place (a ∷ l) (suc j) (suc k) h i = inr (take_place l j k (omega arith) (omega arith))

pub segment-place : (l : List ℕ) (i j k : ℕ) → i ≤ k → k < j → k < length l → In (get_or l k 0) (segment l i j)
segment-place l i j k a b c =
    let e : i + (k - i) ≡ k = omega arith in
    subst (λ (v : ℕ). In v (segment l i j)) (get_or-drop i l (k - i) 0 ∙ ap (λ (m : ℕ). get_or l m 0) e) (take_place (drop i l) (k - i) (j - i) (omega arith) (omega (arith, length-drop i l)))

-- a list from its end
pub rev_split : (l : List ℕ) (v : ℕ) (k : List ℕ) → rev (l ++ (v ∷ k)) ≡ rev k ++ (v ∷ rev l)
rev_split [] v k = refl
rev_split (a ∷ l) v k = ap (λ (m : List ℕ). m ++ (a ∷ [])) (rev_split l v k) ∙ append_assoc (rev k) (v ∷ rev l) (a ∷ [])

pub rev_end : (l : List ℕ) (v : ℕ) → rev (l ++ (v ∷ [])) ≡ v ∷ rev l
rev_end l v = rev_split l v []

pub rev_rev : (l : List ℕ) → rev (rev l) ≡ l
rev_rev [] = refl
rev_rev (a ∷ l) = rev_end (rev l) a ∙ ap (λ (k : List ℕ). a ∷ k) (rev_rev l)
