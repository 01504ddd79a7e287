-- Laws of lists: membership, no duplicates, counting, tests, decisions, the numbers below n, reversing.
use mathlib.Core.Path.{◌≡◌, ap, refl, subst, sym, ◌∙◌}
use mathlib.Core.Logic.{inl, inr, ◌⊎◌, ⊎_map, ⊎_elim}
use mathlib.Core.List.{List, ◌++◌, [], ◌∷◌}
use mathlib.Core.Bool.{Bool, true, false, ◌||◌, ◌&&◌, cond}
use Prim.Native.Nat.{ℕ, ◌≤◌, ◌<◌, ◌+◌, zero, suc, max}
use native.Mathlib.Omega.{arith}
use native.Mathlib.Decide.{ℕ_discrete}
use lib.Dec.{eqb}
use lib.ListN.{length, length-append}
use borrow.Author.Tests.{eqb-true, eqb-false}
use Rattle.connectivity.specs.Lists.{In, NoDup, member, any, all, select, up_from, below, Ascending}
use Rattle.connectivity.specs.Build.{four}

-- membership in an append
pub in_left : {A : Type 0} (a : A) (p q : List A) → In a p → In a (p ++ q)
in_left a [] q h = absurd h
in_left a (b ∷ p) q (inl e) = inl e
in_left a (b ∷ p) q (inr m) = inr (in_left a p q m)

pub in_right : {A : Type 0} (a : A) (p q : List A) → In a q → In a (p ++ q)
in_right a [] q h = h
in_right a (b ∷ p) q h = inr (in_right a p q h)

pub in_append : {A : Type 0} (a : A) (p q : List A) → In a (p ++ q) → In a p ⊎ In a q
in_append a [] q h = inr h
in_append a (b ∷ p) q (inl e) = inl (inl e)
in_append a (b ∷ p) q (inr m) = ⊎_map inr (λ h. h) (in_append a p q m)

pub in_single : {A : Type 0} (a b : A) → In a (b ∷ []) → a ≡ b
in_single a b (inl e) = e
in_single a b (inr h) = absurd h

pub in_two_swap : {A : Type 0} (a b v : A) → In v (a ∷ (b ∷ [])) → In v (b ∷ (a ∷ []))
in_two_swap a b v (inl e) = inr (inl e)
in_two_swap a b v (inr h) = inl (in_single v b h)

pub in_split : {A : Type 0} (x : A) (l : List A) → In x l → (p : List A) × (q : List A) × (l ≡ p ++ (x ∷ q))
in_split x [] m = absurd m
in_split x (b ∷ l) (inl e) = ([], l, rw e)
in_split {A} x (b ∷ l) (inr m) = let r = in_split x l m in (b ∷ r.0, r.1, ap (λ (k : List A). b ∷ k) r.2)

pub in_widen : {A : Type 0} (u x : A) (p q : List A) → In u (p ++ (x ∷ [])) → In u (p ++ (x ∷ q))
in_widen u x [] q h = inl (in_single u x h)
in_widen u x (b ∷ p) q (inl e) = inl e
in_widen u x (b ∷ p) q (inr m) = inr (in_widen u x p q m)

drop_one : {A : Type 0} (x a : A) (p q : List A) → In x (p ++ (a ∷ q)) → ¬ (x ≡ a) → In x (p ++ q)
drop_one x a [] q (inl e) n = absurd (n e)
drop_one x a [] q (inr h) n = h
drop_one x a (b ∷ p) q (inl e) n = inl e
drop_one x a (b ∷ p) q (inr h) n = inr (drop_one x a p q h n)

-- no duplicates in an append
pub nodup_left : {A : Type 0} (p q : List A) → NoDup (p ++ q) → NoDup p
nodup_left [] q nd = tt
nodup_left (b ∷ p) q nd = ((λ m. nd.0 (in_left b p q m)), nodup_left p q nd.1)

pub nodup_right : {A : Type 0} (p q : List A) → NoDup (p ++ q) → NoDup q
nodup_right [] q nd = nd
nodup_right (b ∷ p) q nd = nodup_right p q nd.1

pub nodup_apart : {A : Type 0} (p q : List A) → NoDup (p ++ q) → (x : A) → In x p → ¬ In x q
nodup_apart [] q nd x h k = h
nodup_apart (b ∷ p) q nd x (inl e) k = nd.0 (in_right b p q (rw e at k))
nodup_apart (b ∷ p) q nd x (inr h) k = nodup_apart p q nd.1 x h k

pub nodup_append : {A : Type 0} (p q : List A) → NoDup p → NoDup q → ((x : A) → In x p → ¬ In x q) → NoDup (p ++ q)
nodup_append [] q a b f = b
nodup_append {A} (x ∷ p) q a b f = ((λ h. go (in_append x p q h)), nodup_append p q a.1 b (λ y h. f y (inr h)))
  where
    go : In x p ⊎ In x q → ⊥
    go (inl h) = a.0 h
    go (inr h) = f x (inl refl) h

pub nodup_head : {A : Type 0} (x : A) (p q : List A) → NoDup (p ++ (x ∷ q)) → NoDup (p ++ (x ∷ []))
nodup_head x [] q nd = ((λ m. m), tt)
nodup_head x (b ∷ p) q nd = ((λ m. nd.0 (in_widen b x p q m)), nodup_head x p q nd.1)

pub nodup_snoc : {A : Type 0} (l : List A) (a : A) → NoDup l → ¬ In a l → NoDup (l ++ (a ∷ []))
nodup_snoc l a nd h = nodup_append l (a ∷ []) nd ((λ k. k), tt) (λ x k j. h (rw (in_single x a j) at k))

-- what stands up to x and also from x on is x
pub meet_once : (x u : ℕ) (p q : List ℕ) → NoDup (p ++ (x ∷ q)) → In u (p ++ (x ∷ [])) → In u (x ∷ q) → u ≡ x
meet_once x u [] q nd h k = in_single u x h
meet_once x u (b ∷ p) q nd (inl e) h = absurd (nd.0 (in_right b p (x ∷ q) (subst (λ (k : ℕ). In k (x ∷ q)) e h)))
meet_once x u (b ∷ p) q nd (inr m) h = meet_once x u p q nd.1 m h

-- the pigeonhole
pub fewer : {A : Type 0} (l m : List A) → NoDup l → ((x : A) → In x l → In x m) → length l ≤ length m
fewer [] m nd f = omega arith
fewer {A} (a ∷ l) m nd f =
    let r = in_split a m (f a (inl refl)) in
    let ih = fewer l (r.0 ++ r.1) nd.1 (λ x h. drop_one x a r.0 r.1 (subst (λ (k : List A). In x k) r.2 (f x (inr h))) (λ e. nd.0 (rw (← e) h))) in
    omega (arith, length-append r.0 r.1, length-append r.0 (a ∷ r.1), ap length r.2)

-- decisions
pub in_by? : {A : Type 0} → ((x y : A) → Dec (x ≡ y)) → (z : A) (l : List A) → Dec (In z l)
in_by? eq z [] = no (λ h. h)
in_by? {A} eq z (a ∷ l) = go (eq z a) (in_by? eq z l)
  where
    go : Dec (z ≡ a) → Dec (In z l) → Dec (In z (a ∷ l))
    go (yes e) d = yes (inl e)
    go (no e) (yes h) = yes (inr h)
    go (no e) (no h) = no out
      where
        out : In z (a ∷ l) → ⊥
        out (inl k) = e k
        out (inr k) = h k

pub in? : (z : ℕ) (l : List ℕ) → Dec (In z l)
in? = in_by? ℕ_discrete

pub pair? : (e f : ℕ × ℕ) → Dec (e ≡ f)
pair? e f = go (ℕ_discrete e.0 f.0) (ℕ_discrete e.1 f.1)
  where
    go : Dec (e.0 ≡ f.0) → Dec (e.1 ≡ f.1) → Dec (e ≡ f)
    go (yes p) (yes q) = yes (λ i. (p i, q i))
    go (yes p) (no q) = no (λ k. q (ap (λ (x : ℕ × ℕ). x.1) k))
    go (no p) d = no (λ k. p (ap (λ (x : ℕ × ℕ). x.0) k))

-- as many as there are, all different: all of them
pub filled : {A : Type 0} → ((x y : A) → Dec (x ≡ y)) → (l m : List A) → NoDup l → ((e : A) → In e l → In e m) → length m ≤ length l → (e : A) → In e m → In e l
filled {A} eq l m nd f h e k = go (in_by? eq e l)
  where
    into : (x : A) → In x (e ∷ l) → In x m
    into x (inl i) = rw i k
    into x (inr i) = f x i

    go : Dec (In e l) → In e l
    go (yes i) = i
    go (no i) = absurd (omega (arith, fewer (e ∷ l) m (i, nd) into))

-- a list that is no longer than a list without duplicates in it has no duplicates
pub nodup_count : {A : Type 0} → ((x y : A) → Dec (x ≡ y)) → (l m : List A) → NoDup m → ((x : A) → In x m → In x l) → length l ≤ length m → NoDup l
nodup_count eq [] m nd f h = tt
nodup_count {A} eq (a ∷ l) m nd f h = (twice, nodup_count eq l (r.0 ++ r.1) (nodup_append r.0 r.1 (nodup_left r.0 (a ∷ r.1) nd') (nodup_right r.0 (a ∷ r.1) nd').1 (λ x i j. nodup_apart r.0 (a ∷ r.1) nd' x i (inr j))) keep (omega (arith, length-append r.0 r.1, length-append r.0 (a ∷ r.1), ap length r.2)))
  where
    r : (p : List A) × (q : List A) × (m ≡ p ++ (a ∷ q))
    r = in_split a m (filled eq m (a ∷ l) nd f h a (inl refl))

    nd' : NoDup (r.0 ++ (a ∷ r.1))
    nd' = subst (λ (k : List A). NoDup k) r.2 nd

    twice : ¬ In a l
    twice j = omega (arith, fewer m l nd (λ x k. in_tail x (f x k)))
      where
        in_tail : (x : A) → In x (a ∷ l) → In x l
        in_tail x (inl e) = rw e j
        in_tail x (inr i) = i

    keep : (x : A) → In x (r.0 ++ r.1) → In x l
    keep x j = go (in_append x r.0 r.1 j)
      where
        old : In x (r.0 ++ (a ∷ r.1)) → ¬ (x ≡ a) → In x l
        old k ne = out (f x (subst (λ (k : List A). In x k) (sym r.2) k))
          where
            out : In x (a ∷ l) → In x l
            out (inl e) = absurd (ne e)
            out (inr i) = i

        go : In x r.0 ⊎ In x r.1 → In x l
        go (inl k) = old (in_left x r.0 (a ∷ r.1) k) (λ e. nodup_apart r.0 (a ∷ r.1) nd' x k (inl e))
        go (inr k) = old (in_right x r.0 (a ∷ r.1) (inr k)) (λ e. (nodup_right r.0 (a ∷ r.1) nd').0 (rw e at k))

-- reordering
pub in_swap : {A : Type 0} (w : A) (x y z : List A) → In w (x ++ (y ++ z)) → In w (y ++ (x ++ z))
in_swap w x y z h = ⊎_elim (λ k. in_right w y (x ++ z) (in_left w x z k)) (λ k. ⊎_elim (in_left w y (x ++ z)) (λ j. in_right w y (x ++ z) (in_right w x z j)) (in_append w y z k)) (in_append w x (y ++ z) h)

pub nodup_swap : (x y z : List ℕ) → NoDup (x ++ (y ++ z)) → NoDup (y ++ (x ++ z))
nodup_swap x y z nd = nodup_count ℕ_discrete (y ++ (x ++ z)) (x ++ (y ++ z)) nd (λ w h. in_swap w x y z h) (simp length-append (omega arith))

pub nodup_under : {A : Type 0} (p x y : List A) → NoDup (p ++ x) → NoDup y → ((w : A) → In w y → In w x) → NoDup (p ++ y)
nodup_under p x y nd ny f = nodup_append p y (nodup_left p x nd) ny (λ w h k. nodup_apart p x nd w h (f w k))

pub or? : {A B : Type 0} → Dec A → Dec B → Dec (A ⊎ B)
or? (yes a) b = yes (inl a)
or? (no a) (yes b) = yes (inr b)
or? {A} {B} (no a) (no b) = no go
  where
    go : A ⊎ B → ⊥
    go (inl h) = a h
    go (inr h) = b h

pub and_not? : {A B : Type 0} → Dec A → Dec B → Dec (A × (¬ B))
and_not? (no a) b = no (λ h. a h.0)
and_not? (yes a) (yes b) = no (λ h. h.1 b)
and_not? (yes a) (no b) = yes (a, b)

pub never? : Dec ⊥
never? = no (λ h. h)

pub either : {A : Type 0} → Dec A → A ⊎ (¬ A)
either (yes a) = inl a
either (no a) = inr a

-- a decision as a test
abbrev pub is_yes : {A : Type 0} → Dec A → Bool
is_yes (yes a) = true
is_yes (no a) = false

pub clash : {b : Bool} → b ≡ true → b ≡ false → ⊥
clash p q = let z : ◌≡◌ {A = ℕ} 0 1 = cc in omega arith

pub yes_true : {A : Type 0} (d : Dec A) → A → is_yes d ≡ true
yes_true (yes b) a = refl
yes_true (no b) a = absurd (b a)

pub no_false : {A : Type 0} (d : Dec A) → ¬ A → is_yes d ≡ false
no_false (yes b) a = absurd (a b)
no_false (no b) a = refl

pub true_yes : {A : Type 0} (d : Dec A) → is_yes d ≡ true → A
true_yes (yes b) e = b
true_yes (no b) e = absurd (clash e refl)

pub bool? : (b : Bool) → (b ≡ true) ⊎ (b ≡ false)
bool? true = inl refl
bool? false = inr refl

pub true? : (b : Bool) → Dec (b ≡ true)
true? true = yes refl
true? false = no (λ e. clash e refl)

-- the tests of the definitions
pub or-true : (a b : Bool) → a || b ≡ true → (a ≡ true) ⊎ (b ≡ true)
or-true true b e = inl refl
or-true false b e = inr e

pub true_or : (a b : Bool) → b ≡ true → a || b ≡ true
true_or true b e = refl
true_or false b e = e

pub or-false : (a b : Bool) → a || b ≡ false → (a ≡ false) × (b ≡ false)
or-false true b e = absurd (clash refl e)
or-false false b e = (refl, e)

pub and-true : (a b : Bool) → a && b ≡ true → (a ≡ true) × (b ≡ true)
and-true true b e = (refl, e)
and-true false b e = absurd (clash e refl)

and-false : (a b : Bool) → a && b ≡ false → (a ≡ false) ⊎ (b ≡ false)
and-false true b e = inr e
and-false false b e = inl refl

pub member-in : (x : ℕ) (l : List ℕ) → member x l ≡ true → In x l
member-in x [] e = absurd (clash e refl)
member-in x (a ∷ l) e = ⊎_map (eqb-true x a) (member-in x l) (or-true (eqb x a) (member x l) e)

pub member-out : (x : ℕ) (l : List ℕ) → member x l ≡ false → ¬ In x l
member-out x [] e h = h
member-out x (a ∷ l) e h = let r = or-false (eqb x a) (member x l) e in ⊎_elim (eqb-false x a r.0) (member-out x l r.1) h

pub in_member : (x : ℕ) (l : List ℕ) → In x l → member x l ≡ true
in_member x l h = ⊎_elim (λ e. e) (λ e. absurd (member-out x l e h)) (bool? (member x l))

pub out_member : (x : ℕ) (l : List ℕ) → ¬ In x l → member x l ≡ false
out_member x l h = ⊎_elim (λ e. absurd (h (member-in x l e))) (λ e. e) (bool? (member x l))

pub any-true : (p : ℕ → Bool) (l : List ℕ) → any p l ≡ true → (a : ℕ) × In a l × (p a ≡ true)
any-true p [] e = absurd (clash e refl)
any-true p (a ∷ l) e = ⊎_elim (λ k. (a, inl refl, k)) (λ k. let r = any-true p l k in (r.0, inr r.1, r.2)) (or-true (p a) (any p l) e)

pub true_any : (p : ℕ → Bool) (l : List ℕ) (a : ℕ) → In a l → p a ≡ true → any p l ≡ true
true_any p [] a h e = absurd h
true_any p (b ∷ l) a (inl j) e = rw (ap p (sym j) ∙ e)
true_any p (b ∷ l) a (inr j) e = true_or (p b) (any p l) (true_any p l a j e)

pub all_true : (p : ℕ → Bool) (l : List ℕ) → all p l ≡ true → (a : ℕ) → In a l → p a ≡ true
all_true p [] e a h = absurd h
all_true p (b ∷ l) e a (inl j) = ap p j ∙ (and-true (p b) (all p l) e).0
all_true p (b ∷ l) e a (inr j) = all_true p l (and-true (p b) (all p l) e).1 a j

pub all-false : (p : ℕ → Bool) (l : List ℕ) → all p l ≡ false → (a : ℕ) × In a l × (p a ≡ false)
all-false p [] e = absurd (clash refl e)
all-false p (b ∷ l) e = ⊎_elim (λ k. (b, inl refl, k)) (λ k. let r = all-false p l k in (r.0, inr r.1, r.2)) (and-false (p b) (all p l) e)

pub select_in : {A : Type 0} (p : A → Bool) (l : List A) (w : A) → In w (select p l) → In w l × (p w ≡ true)
select_in p [] w h = absurd h
select_in p (a ∷ l) w h = go (p a) refl h (λ k. let r = select_in p l w k in (inr r.0, r.1))
  where
    go : (b : Bool) → p a ≡ b → In w (cond b (a ∷ select p l) (select p l)) → (In w (select p l) → In w (a ∷ l) × (p w ≡ true)) → In w (a ∷ l) × (p w ≡ true)
    go true e (inl k) old = (inl k, ap p k ∙ e)
    go true e (inr k) old = old k
    go false e k old = old k

pub in_select : {A : Type 0} (p : A → Bool) (l : List A) (w : A) → In w l → p w ≡ true → In w (select p l)
in_select p [] w h e = h
in_select p (a ∷ l) w (inl j) e = rw (ap p (sym j) ∙ e) (inl j)
in_select p (a ∷ l) w (inr j) e = go (p a) (in_select p l w j e)
  where
    go : (b : Bool) → In w (select p l) → In w (cond b (a ∷ select p l) (select p l))
    go true k = inr k
    go false k = k

pub select_short : {A : Type 0} (p : A → Bool) (l : List A) → length (select p l) ≤ length l
select_short p [] = omega arith
select_short p (a ∷ l) = go (p a) (select_short p l)
  where
    go : (b : Bool) → length (select p l) ≤ length l → length (cond b (a ∷ select p l) (select p l)) ≤ suc (length l)
    go true h = omega arith
    go false h = omega arith

pub select-nodup : {A : Type 0} (p : A → Bool) (l : List A) → NoDup l → NoDup (select p l)
select-nodup p [] nd = tt
select-nodup p (a ∷ l) nd = go (p a) (select-nodup p l nd.1)
  where
    go : (b : Bool) → NoDup (select p l) → NoDup (cond b (a ∷ select p l) (select p l))
    go true ih = ((λ h. nd.0 (select_in p l a h).0), ih)
    go false ih = ih

-- the numbers below n
in_up : (a k w : ℕ) → In w (up_from a k) → (a ≤ w) × (w < a + k)
in_up a zero w h = absurd h
in_up a (suc k) w (inl e) = (omega arith, omega arith)
in_up a (suc k) w (inr h) = let r = in_up (suc a) k w h in (omega arith, omega arith)

up_in : (a k w : ℕ) → a ≤ w → w < a + k → In w (up_from a k)
up_in a zero w h j = absurd (omega arith)
up_in a (suc k) w h j = ⊎_map (λ e. e) (λ e. up_in (suc a) k w (omega arith) (omega arith)) (either (ℕ_discrete w a))

length_up : (a k : ℕ) → length (up_from a k) ≡ k
length_up a zero = refl
length_up a (suc k) = ap suc (length_up (suc a) k)

nodup_up : (a k : ℕ) → NoDup (up_from a k)
nodup_up a zero = tt
nodup_up a (suc k) = ((λ h. omega (arith, in_up (suc a) k a h)), nodup_up (suc a) k)

pub in_below : (n z : ℕ) → In z (below n) → z < n
in_below n z h = let r = in_up 0 n z h in omega arith

pub below_in : (n z : ℕ) → z < n → In z (below n)
below_in n z h = up_in 0 n z (omega arith) (omega arith)

pub length_below : (n : ℕ) → length (below n) ≡ n
length_below n = length_up 0 n

pub nodup_below : (n : ℕ) → NoDup (below n)
nodup_below n = nodup_up 0 n

pub below? : (a b : ℕ) → Dec (a < b)
below? a b = go (ℕ_discrete (max (suc a) b) b)
  where
    go : Dec (max (suc a) b ≡ b) → Dec (a < b)
    go (yes e) = yes (omega arith)
    go (no e) = no (λ h. omega arith)

-- different vertices below n: at most n, and if they are n then all of them
pub at_most : (n : ℕ) (l : List ℕ) → NoDup l → ((w : ℕ) → In w l → w < n) → length l ≤ n
at_most n l nd low = omega (arith, fewer l (below n) nd (λ w h. below_in n w (low w h)), length_below n)

pub at_least : (n : ℕ) (l : List ℕ) → ((w : ℕ) → w < n → In w l) → n ≤ length l
at_least n l f = omega (arith, fewer (below n) l (nodup_below n) (λ w h. f w (in_below n w h)), length_below n)

pub full : (n : ℕ) (l : List ℕ) → NoDup l → ((w : ℕ) → In w l → w < n) → length l ≡ n → (z : ℕ) → z < n → In z l
full n l nd low e z h = filled ℕ_discrete l (below n) nd (λ w k. below_in n w (low w k)) (omega (arith, length_below n)) z (below_in n z h)

-- some part of the numbers below n ascends
select-ascending : (p : ℕ → Bool) (a k : ℕ) → Ascending (select p (up_from a k)) × ((b : ℕ) → b < a → Ascending (b ∷ select p (up_from a k)))
select-ascending p a zero = (tt, λ b h. tt)
select-ascending p a (suc k) = go (p a) (select-ascending p (suc a) k)
  where
    go : (c : Bool) → Ascending (select p (up_from (suc a) k)) × ((b : ℕ) → b < suc a → Ascending (b ∷ select p (up_from (suc a) k)))
        → Ascending (cond c (a ∷ select p (up_from (suc a) k)) (select p (up_from (suc a) k))) × ((b : ℕ) → b < a → Ascending (b ∷ cond c (a ∷ select p (up_from (suc a) k)) (select p (up_from (suc a) k))))
    go true ih = (ih.1 a (omega arith), λ b h. (h, ih.1 a (omega arith)))
    go false ih = (ih.0, λ b h. ih.1 b (omega arith))

pub ascending_below : (p : ℕ → Bool) (n : ℕ) → Ascending (select p (below n))
ascending_below p n = (select-ascending p 0 n).0

-- every number below n has a property, or one of them has another
pub scan : (A B : ℕ → Type 0) → ((z : ℕ) → A z ⊎ B z) → (n : ℕ) → ((z : ℕ) → z < n → A z) ⊎ ((z : ℕ) × (z < n) × B z)
scan A B f zero = inl (λ z h. absurd (omega arith))
scan A B f (suc n) = go (f n) (scan A B f n)
  where
    more : A n → ((z : ℕ) → z < n → A z) → (z : ℕ) → z < suc n → A z
    more a g z h = last (ℕ_discrete z n)
      where
        last : Dec (z ≡ n) → A z
        last (yes e) = rw e a
        last (no e) = g z (omega arith)

    go : A n ⊎ B n → ((z : ℕ) → z < n → A z) ⊎ ((z : ℕ) × (z < n) × B z) → ((z : ℕ) → z < suc n → A z) ⊎ ((z : ℕ) × (z < suc n) × B z)
    go (inr b) r = inr (n, omega arith, b)
    go (inl a) (inl g) = inl (more a g)
    go (inl a) (inr r) = inr (r.0, omega arith, r.2)

pub all-in? : (B l : List ℕ) → ((z : ℕ) → In z l → In z B) ⊎ ((z : ℕ) × In z l × (¬ In z B))
all-in? B [] = inl (λ z h. absurd h)
all-in? B (a ∷ l) = go (in? a B) (all-in? B l)
  where
    both : In a B → ((z : ℕ) → In z l → In z B) → (z : ℕ) → In z (a ∷ l) → In z B
    both h f z (inl e) = rw e h
    both h f z (inr k) = f z k

    go : Dec (In a B) → ((z : ℕ) → In z l → In z B) ⊎ ((z : ℕ) × In z l × (¬ In z B)) → ((z : ℕ) → In z (a ∷ l) → In z B) ⊎ ((z : ℕ) × In z (a ∷ l) × (¬ In z B))
    go (no h) r = inr (a, inl refl, h)
    go (yes h) (inl f) = inl (both h f)
    go (yes h) (inr r) = inr (r.0, inr r.1, r.2)

-- four different numbers
pub four-differ : (p q r s : ℕ) → p < q → q < r → r < s → NoDup (four p q r s)
four-differ p q r s a b c = (one, (two, ((λ h. omega (arith, in_single r s h)), ((λ h. h), tt))))
  where
    one : ¬ In p (q ∷ (r ∷ (s ∷ [])))
    one (inl e) = omega arith
    one (inr (inl e)) = omega arith
    one (inr (inr (inl e))) = omega arith
    one (inr (inr (inr h))) = h

    two : ¬ In q (r ∷ (s ∷ []))
    two (inl e) = omega arith
    two (inr (inl e)) = omega arith
    two (inr (inr h)) = h

-- a longer list without duplicates has a member that the other has not
pub beside : (B l : List ℕ) → NoDup B → length l < length B → (y : ℕ) × In y B × (¬ In y l)
beside B l nd h = ⊎_elim (λ f. absurd (omega (arith, fewer B l nd f))) (λ r. r) (all-in? l B)

pub vertex-beside : (n : ℕ) → 4 ≤ n → (x y z : ℕ) → (v : ℕ) × (v < n) × (¬ In v (x ∷ (y ∷ (z ∷ []))))
vertex-beside n h x y z = let r = beside (below n) (x ∷ (y ∷ (z ∷ []))) (nodup_below n) (omega (arith, length_below n)) in (r.0, in_below n r.0 r.1, r.2)

-- reversing
abbrev pub rev : List ℕ → List ℕ
rev [] = []
rev (a ∷ l) = rev l ++ (a ∷ [])

pub rev_in : (w : ℕ) (l : List ℕ) → In w (rev l) → In w l
rev_in w [] h = h
rev_in w (a ∷ l) h = ⊎_elim (λ k. inr (rev_in w l k)) (λ k. inl (in_single w a k)) (in_append w (rev l) (a ∷ []) h)

pub in_rev : (w : ℕ) (l : List ℕ) → In w l → In w (rev l)
in_rev w [] h = h
in_rev w (a ∷ l) (inl e) = in_right w (rev l) (a ∷ []) (inl e)
in_rev w (a ∷ l) (inr h) = in_left w (rev l) (a ∷ []) (in_rev w l h)

pub nodup_rev : (l : List ℕ) → NoDup l → NoDup (rev l)
nodup_rev [] n = tt
nodup_rev (a ∷ l) n = nodup_snoc (rev l) a (nodup_rev l n.1) (λ h. n.0 (rev_in a l h))

pub length_rev : (l : List ℕ) → length (rev l) ≡ length l
length_rev [] = refl
length_rev (a ∷ l) = let ih = length_rev l in omega (arith, length-append (rev l) (a ∷ []))
