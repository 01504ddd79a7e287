-- Lists of pairs that ascend or descend. Assumes nothing.
use Prim.Native.Nat.{ℕ}
use mathlib.Core.Path.{◌≡◌, refl, sym, ap, subst, ◌∙◌}
use mathlib.Core.Logic.{inl, inr, ⊎_elim}
use mathlib.Core.Bool.{Bool, true, false, cond}
use mathlib.Core.List.{List, [], ◌∷◌, ◌++◌, reverse, reverse-cons, append-nil}
use Rattle.connectivity.specs.Lists.{In, select}
use Rattle.connectivity.proofs.Lists.{in_append, in_left, in_right, in_single, select_in}
use Rattle.connectivity.proofs.Edges.{EdgeBefore, AscendingEdges, before_not, ascending_after}
use Rattle.reading.proofs.Doubles.{ascends_on}
use Rattle.reading.proofs.Pairs.{ascends_cons}

-- each pair comes behind all that follow it
abbrev pub Descending : List (ℕ × ℕ) → Type 0
Descending [] = Unit {0}
Descending (e ∷ l) = ((d : ℕ × ℕ) → In d l → EdgeBefore d e) × Descending l

descends_snoc : (l : List (ℕ × ℕ)) (e : ℕ × ℕ) → Descending l → ((d : ℕ × ℕ) → In d l → EdgeBefore e d) → Descending (l ++ (e ∷ []))
descends_snoc [] e h f = ((λ d m. absurd m), tt)
descends_snoc (a ∷ l) e h f =
    ((λ d m. ⊎_elim (h.0 d) (λ k. rw (in_single d e k) (f a (inl refl))) (in_append d l (e ∷ []) m)), descends_snoc l e h.1 (λ d m. f d (inr m)))

-- the members of a list that is turned
pub reverse_in : {A : Type 0} (x : A) (l : List A) → In x (reverse l) → In x l
reverse_in x [] h = h
reverse_in x (a ∷ l) h = ⊎_elim (λ k. inr (reverse_in x l k)) (λ k. inl (in_single x a k)) (in_append x (reverse l) (a ∷ []) (subst (In x) (reverse-cons a l) h))

pub in_reverse : {A : Type 0} (x : A) (l : List A) → In x l → In x (reverse l)
in_reverse x [] h = h
in_reverse x (a ∷ l) h = subst (In x) (sym (reverse-cons a l)) (⊎_elim (λ e. in_right x (reverse l) (a ∷ []) (inl e)) (λ k. in_left x (reverse l) (a ∷ []) (in_reverse x l k)) h)

-- a list that ascends, turned, descends
pub reverse_descends : (l : List (ℕ × ℕ)) → AscendingEdges l → Descending (reverse l)
reverse_descends [] h = tt
reverse_descends (e ∷ l) h = subst Descending (sym (reverse-cons e l)) (descends_snoc (reverse l) e (reverse_descends l (ascends_on e l h)) (λ d m. ascending_after e l h d (reverse_in d l m)))

-- those that pass a test, turned
select-append : {A : Type 0} (t : A → Bool) (k l : List A) → select t (k ++ l) ≡ select t k ++ select t l
select-append t [] l = refl
select-append t (a ∷ k) l = go (t a) (select-append t k l)
  where
    go : (b : Bool) → select t (k ++ l) ≡ select t k ++ select t l → cond b (a ∷ select t (k ++ l)) (select t (k ++ l)) ≡ cond b (a ∷ select t k) (select t k) ++ select t l
    go true e = ap (λ x. a ∷ x) e
    go false e = e

pub select-reverse : {A : Type 0} (t : A → Bool) (l : List A) → select t (reverse l) ≡ reverse (select t l)
select-reverse t [] = refl
select-reverse t (a ∷ l) = ap (select t) (reverse-cons a l) ∙ select-append t (reverse l) (a ∷ []) ∙ ap (λ x. x ++ select t (a ∷ [])) (select-reverse t l) ∙ go (t a)
  where
    go : (b : Bool) → reverse (select t l) ++ cond b (a ∷ []) [] ≡ reverse (cond b (a ∷ select t l) (select t l))
    go true = sym (reverse-cons a (select t l))
    go false = append-nil (reverse (select t l))

-- those of a list that ascends, ascend
pub select-ascends : (t : ℕ × ℕ → Bool) (l : List (ℕ × ℕ)) → AscendingEdges l → AscendingEdges (select t l)
select-ascends t [] h = tt
select-ascends t (e ∷ l) h = go (t e) (select-ascends t l (ascends_on e l h))
  where
    go : (b : Bool) → AscendingEdges (select t l) → AscendingEdges (cond b (e ∷ select t l) (select t l))
    go true r = ascends_cons e (select t l) (λ d m. ascending_after e l h d (select_in t l d m).0) r
    go false r = r

-- no pair comes before itself
before_self : (e : ℕ × ℕ) → ¬ EdgeBefore e e
before_self e h = before_not e e h h

pub descending_new : (e : ℕ × ℕ) (l : List (ℕ × ℕ)) → Descending (e ∷ l) → ¬ In e l
descending_new e l h m = before_self e (h.0 e m)

-- TWO LISTS THAT ASCEND AND HAVE THE SAME MEMBERS ARE THE SAME.
pub ascending_same : (k l : List (ℕ × ℕ)) → AscendingEdges k → AscendingEdges l → ((e : ℕ × ℕ) → In e k → In e l) → ((e : ℕ × ℕ) → In e l → In e k) → k ≡ l
ascending_same [] [] a b f g = refl
ascending_same [] (d ∷ l) a b f g = absurd (g d (inl refl))
ascending_same (e ∷ k) [] a b f g = absurd (f e (inl refl))
ascending_same (e ∷ k) (d ∷ l) a b f g = let i = first (f e (inl refl)) (g d (inl refl)) in (λ j. i j ∷ ascending_same k l (ascends_on e k a) (ascends_on d l b) (into i) (out i) j)
  where
    first : In e (d ∷ l) → In d (e ∷ k) → e ≡ d
    first (inl i) m = i
    first (inr h) (inl i) = sym i
    first (inr h) (inr m) = absurd (before_not d e (ascending_after d l b e h) (ascending_after e k a d m))

    into : e ≡ d → (x : ℕ × ℕ) → In x k → In x l
    into i x m = ⊎_elim (λ q. absurd (before_self x (subst (λ (z : ℕ × ℕ). EdgeBefore z x) (i ∙ sym q) (ascending_after e k a x m)))) (λ q. q) (f x (inr m))

    out : e ≡ d → (x : ℕ × ℕ) → In x l → In x k
    out i x m = ⊎_elim (λ q. absurd (before_self x (subst (λ (z : ℕ × ℕ). EdgeBefore z x) (sym i ∙ sym q) (ascending_after d l b x m)))) (λ q. q) (g x (inr m))
