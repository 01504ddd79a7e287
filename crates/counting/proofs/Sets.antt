-- Every set of pairs is listed, and each once. Assumes nothing.
use Prim.Native.Nat.{ℕ, ◌+◌, ◌^◌, ◌≤◌}
use mathlib.Core.Path.{◌≡◌, refl, ap, ◌∙◌}
use mathlib.Core.Logic.{◌⊎◌, inl, inr, ⊎_elim, ⊎_map}
use mathlib.Core.List.{List, [], ◌∷◌, map}
use native.Mathlib.Nat.{pow-suc}
use native.Mathlib.Omega.{arith}
use lib.ListN.{length, length-append, length-map}
use Rattle.connectivity.specs.Lists.{In, NoDup}
use Rattle.connectivity.proofs.Lists.{in_left, in_right, in_append, in_single, nodup_append}
use Rattle.connectivity.proofs.Edges.{EdgeBefore, AscendingEdges, ascending_after, before_not}
use Rattle.reading.proofs.Doubles.{ascends_on}
use Rattle.reading.proofs.Pairs.{ascends_cons}
use Rattle.counting.specs.Counts.{sets_of}

-- what a function makes of a list
pub in_map : {A B : Type 0} (f : A → B) (b : B) (l : List A) → In b (map f l) → (a : A) × In a l × (b ≡ f a)
in_map f b [] h = absurd h
in_map f b (a ∷ l) (inl e) = (a, inl refl, e)
in_map f b (a ∷ l) (inr h) = let r = in_map f b l h in (r.0, inr r.1, r.2)

pub map_in : {A B : Type 0} (f : A → B) (a : A) (l : List A) → In a l → In (f a) (map f l)
map_in f a [] h = absurd h
map_in f a (b ∷ l) (inl e) = inl (ap f e)
map_in f a (b ∷ l) (inr h) = inr (map_in f a l h)

pub nodup_map : {A B : Type 0} (f : A → B) (l : List A) → ((a b : A) → In a l → In b l → f a ≡ f b → a ≡ b) → NoDup l → NoDup (map f l)
nodup_map f [] one nd = tt
nodup_map f (a ∷ l) one nd = (first, nodup_map f l (λ b c h k. one b c (inr h) (inr k)) nd.1)
  where
    first : ¬ In (f a) (map f l)
    first h = let r = in_map f (f a) l h in nd.0 (rw (one a r.0 (inl refl) (inr r.1) r.2) r.1)

-- THERE ARE TWICE AS MANY SETS FOR EACH PAIR MORE.
pub sets_twice : (e : ℕ × ℕ) (es : List (ℕ × ℕ)) → length (sets_of (e ∷ es)) ≡ length (sets_of es) + length (sets_of es)
unfolding sets_of
sets_twice e es = length-append (sets_of es) (map (λ s. e ∷ s) (sets_of es)) ∙ ap (λ (k : ℕ). length (sets_of es) + k) (length-map (sets_of es) (λ s. e ∷ s))

pub sets_count : (ps : List (ℕ × ℕ)) → length (sets_of ps) ≡ 2 ^ length ps
unfolding sets_of
sets_count [] = refl
sets_count (e ∷ es) = omega (arith, sets_twice e es, sets_count es, pow-suc 2 (length es))

-- a set is one of the sets without the first pair, or one of them with it
split : (e : ℕ × ℕ) (es s : List (ℕ × ℕ)) → In s (sets_of (e ∷ es)) → In s (sets_of es) ⊎ ((t : List (ℕ × ℕ)) × In t (sets_of es) × (s ≡ e ∷ t))
unfolding sets_of
split e es s h = ⊎_map (λ k. k) (in_map (λ t. e ∷ t) s (sets_of es)) (in_append s (sets_of es) (map (λ t. e ∷ t) (sets_of es)) h)

without-first : (e : ℕ × ℕ) (es s : List (ℕ × ℕ)) → In s (sets_of es) → In s (sets_of (e ∷ es))
unfolding sets_of
without-first e es s h = in_left s (sets_of es) (map (λ t. e ∷ t) (sets_of es)) h

with_first : (e : ℕ × ℕ) (es s : List (ℕ × ℕ)) → In s (sets_of es) → In (e ∷ s) (sets_of (e ∷ es))
unfolding sets_of
with_first e es s h = in_right (e ∷ s) (sets_of es) (map (λ t. e ∷ t) (sets_of es)) (map_in (λ t. e ∷ t) s (sets_of es) h)

-- a set has only pairs of the list, and no more than it
pub set_members : (ps s : List (ℕ × ℕ)) → In s (sets_of ps) → (e : ℕ × ℕ) → In e s → In e ps
unfolding sets_of
set_members [] s h e i = rw (in_single s [] h) at i
set_members (p ∷ ps) s h e i = ⊎_elim (λ k. inr (set_members ps s k e i)) (λ r. go r.0 (set_members ps r.0 r.1 e) (rw r.2 at i)) (split p ps s h)
  where
    go : (t : List (ℕ × ℕ)) → (In e t → In e ps) → In e (p ∷ t) → In e (p ∷ ps)
    go t later (inl j) = inl j
    go t later (inr j) = inr (later j)

pub set_short : (ps s : List (ℕ × ℕ)) → In s (sets_of ps) → length s ≤ length ps
unfolding sets_of
set_short [] s h = rw (in_single s [] h) (omega arith)
set_short (p ∷ ps) s h = ⊎_elim (λ k. omega (arith, set_short ps s k)) (λ r. rw r.2 (omega (arith, set_short ps r.0 r.1))) (split p ps s h)

-- EACH SET STANDS IN THE LIST ONCE.
pub sets_nodup : (ps : List (ℕ × ℕ)) → NoDup ps → NoDup (sets_of ps)
unfolding sets_of
sets_nodup [] nd = ((λ h. h), tt)
sets_nodup (e ∷ es) nd =
    let later = sets_nodup es nd.1 in
    nodup_append (sets_of es) (map (λ s. e ∷ s) (sets_of es)) later (nodup_map (λ s. e ∷ s) (sets_of es) (λ a b h k j. cc) later) apart
  where
    apart : (s : List (ℕ × ℕ)) → In s (sets_of es) → ¬ In s (map (λ s. e ∷ s) (sets_of es))
    apart s h k = let r = in_map (λ s. e ∷ s) s (sets_of es) k in nd.0 (set_members es s h e (rw r.2 (inl refl)))

-- a set of a list that ascends, ascends
pub set_ascends : (ps s : List (ℕ × ℕ)) → AscendingEdges ps → In s (sets_of ps) → AscendingEdges s
unfolding sets_of
set_ascends [] s a h = rw (in_single s [] h) tt
set_ascends (p ∷ ps) s a h = ⊎_elim (set_ascends ps s (ascends_on p ps a)) (λ r. rw r.2 (more r.0 r.1 (set_ascends ps r.0 (ascends_on p ps a) r.1))) (split p ps s h)
  where
    more : (t : List (ℕ × ℕ)) → In t (sets_of ps) → AscendingEdges t → AscendingEdges (p ∷ t)
    more t k later = ascends_cons p t (λ f i. ascending_after p ps a f (set_members ps t k f i)) later

-- A LIST THAT ASCENDS, OF PAIRS OF THE LIST, IS ONE OF THE SETS.
pub ascends_set : (ps s : List (ℕ × ℕ)) → AscendingEdges ps → AscendingEdges s → ((e : ℕ × ℕ) → In e s → In e ps) → In s (sets_of ps)
unfolding sets_of
ascends_set [] [] a b f = inl refl
ascends_set [] (e ∷ s) a b f = absurd (f e (inl refl))
ascends_set (p ∷ ps) [] a b f = without-first p ps [] (ascends_set ps [] (ascends_on p ps a) tt (λ e h. absurd h))
ascends_set (p ∷ ps) (e ∷ s) a b f =
    ⊎_elim (λ j. rw j (with_first p ps s (ascends_set ps s (ascends_on p ps a) (ascends_on e s b) (same j))))
    (λ h. without-first p ps (e ∷ s) (ascends_set ps (e ∷ s) (ascends_on p ps a) b (other h)))
    (f e (inl refl))
  where
    later : (d : ℕ × ℕ) → In d s → EdgeBefore e d
    later = ascending_after e s b

    same : e ≡ p → (d : ℕ × ℕ) → In d s → In d ps
    same j d i = ⊎_elim (λ k. absurd (let z : EdgeBefore p p = rw j at (rw k at (later d i)) in before_not p p z z)) (λ k. k) (f d (inr i))

    other : In e ps → (d : ℕ × ℕ) → In d (e ∷ s) → In d ps
    other h d (inl i) = rw i h
    other h d (inr i) = ⊎_elim (λ k. absurd (before_not p e (ascending_after p ps a e h) (rw k at (later d i)))) (λ k. k) (f d (inr i))
