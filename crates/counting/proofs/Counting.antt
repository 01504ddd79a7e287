-- Counting the plans of a list one by one: what is counted and what is still to come are all. Assumes nothing.
use Prim.Native.Nat.{ℕ, zero, suc, ◌+◌, ◌≤◌, ◌<◌}
use mathlib.Core.List.{List, [], ◌∷◌}
use mathlib.Core.Path.{◌≡◌, refl, sym, ap, ◌∙◌}
use mathlib.Core.Logic.{◌≢◌}
use mathlib.Core.Bool.{Bool, true, false, cond, ◌&&◌}
use native.Mathlib.Omega.{arith}
use lib.Dec.{leb, eqb}
use lib.ListN.{length, get_or, set, drop, replicate, length-set, length-map, get_or-map, drop_of_length-le}
use lib.Seq.{drop-cons, get_or-set_same, get_or-set_other, ext_get_or}
use borrow.Author.Tests.{eq-eqb, ne_eqb, eqb-true, eqb-false, le-leb, lt-leb, leb-true}
use Rattle.vertexset.proofs.Laws.{zeros-at}
use Rattle.reading.specs.Plan.{Plan}
use Rattle.counting.specs.declared.Counts.{Counts}
use Rattle.counting.specs.Counts.{pairs_of, sets_of, plan_with, plans_of, connectivity_of, with_connectivity, min_size, max_size, count_of, counts_of}
use Rattle.counting.proofs.Drawing.{sets_most}
use Rattle.counting.proofs.Tally.{connectivity-most, one, with-length, with-most, with_none}

-- the plans that are still to come
abbrev Left : ℕ → ℕ → List Plan
Left n number = drop number (plans_of n)

pub record Counting (n number : ℕ) (of : List ℕ) : Type 0 where
  pub size : length of ≡ 4
  pub each : (k : ℕ) → k < 4 → get_or of k 0 + length (with_connectivity k (Left n number)) ≡ length (with_connectivity k (plans_of n))

pub count-start : (n : ℕ) → Counting n 0 (replicate 4 0)
count-start n = record { size = refl; each = λ k h. omega (arith, zeros-at 4 k) }

module _ {n number : ℕ} {of : List ℕ} (c : Counting n number of) (low : number < length (sets_of (pairs_of n))) where
  abbrev its_plan : Plan
  its_plan = plan_with n (get_or (sets_of (pairs_of n)) number [])

  -- the next plan
  next : Left n number ≡ its_plan ∷ Left n (number + 1)
  next =
      let s : suc number ≡ number + 1 = omega arith in
      let l : number < length (plans_of n) = omega (arith, length-map (sets_of (pairs_of n)) (plan_with n)) in
      drop-cons (plans_of n) number (plan_with n []) l ∙ (λ i. get_or-map (plan_with n) (sets_of (pairs_of n)) number [] i ∷ drop (s i) (plans_of n))

  -- it counts for its connectivity, and for nothing else
  later : (k : ℕ) {b : Bool} → eqb (connectivity_of its_plan) k ≡ b → length (with_connectivity k (Left n number)) ≡ one b + length (with_connectivity k (Left n (number + 1)))
  later k e = ap (λ (l : List Plan). length (with_connectivity k l)) next ∙ with-length k its_plan (Left n (number + 1)) ∙ ap (λ (b : Bool). one b + length (with_connectivity k (Left n (number + 1)))) e

  module _ {f : ℕ} (e : f ≡ connectivity_of its_plan) where
    pub count_low : f < 4
    count_low = omega (arith, connectivity-most its_plan)

    pub count_room : length (sets_of (pairs_of n)) ≤ 32768 → get_or of f 0 + 1 ≤ 32768
    count_room h = omega (arith, c.each f count_low, later f (eq-eqb _ f (sym e)), with-most f (plans_of n), length-map (sets_of (pairs_of n)) (plan_with n))

    pub count_next : Counting n (number + 1) (set of f (get_or of f 0 + 1))
    count_next = record { size = length-set of f (get_or of f 0 + 1) ∙ c.size; each = λ k h. go k h (eqb k f) refl }
      where
        go : (k : ℕ) → k < 4 → (b : Bool) → eqb k f ≡ b → get_or (set of f (get_or of f 0 + 1)) k 0 + length (with_connectivity k (Left n (number + 1))) ≡ length (with_connectivity k (plans_of n))
        go k h true t =
            let s : k ≡ f = eqb-true k f t in
            let g : get_or (set of f (get_or of f 0 + 1)) k 0 ≡ get_or of f 0 + 1 = ap (λ (j : ℕ). get_or (set of f (get_or of f 0 + 1)) j 0) s ∙ get_or-set_same of f (get_or of f 0 + 1) 0 (omega (arith, c.size, count_low)) in
            omega (arith, c.each k h, later k (eq-eqb _ k (sym e ∙ sym s)), ap (λ (j : ℕ). get_or of j 0) s)
        go k h false t =
            let s : k ≢ f = eqb-false k f t in
            let g = get_or-set_other of f k (get_or of f 0 + 1) 0 s in
            omega (arith, c.each k h, later k (ne_eqb _ k (λ q. s (sym (e ∙ q)))), g)

-- ---- the answers

-- one of the four
four-at : (n k : ℕ) → k < 4 → get_or (counts_of n).of k 0 ≡ count_of n k
four-at n zero h = refl
four-at n (suc zero) h = refl
four-at n (suc (suc zero)) h = refl
four-at n (suc (suc (suc zero))) h = refl
four-at n (suc (suc (suc (suc k)))) h = absurd (omega arith)

module _ (n : ℕ) where
  pub of_size : min_size ≤ n → n ≤ max_size → (k : ℕ) → count_of n k ≡ length (with_connectivity k (plans_of n))
  unfolding count_of
  of_size h l k = rw (le-leb min_size n h, le-leb n max_size l)

  pub none_below : n < min_size → (k : ℕ) → count_of n k ≡ 0
  unfolding count_of
  none_below h k = rw (lt-leb min_size n h)

  pub none_above : max_size < n → (k : ℕ) → count_of n k ≡ 0
  unfolding count_of
  none_above h k = rw (le-leb min_size n (omega arith), lt-leb n max_size h)

  pub no_grade : (k : ℕ) → 3 < k → count_of n k ≡ 0
  unfolding count_of
  no_grade k h = ap (λ (m : ℕ). cond (leb min_size n && leb n max_size) m 0) (with_none k (plans_of n) h) ∙ both (leb min_size n && leb n max_size)
    where
      both : (b : Bool) → ◌≡◌ {A = ℕ} (cond b 0 0) 0
      both true = refl
      both false = refl

  pub all-zero : ((k : ℕ) → count_of n k ≡ 0) → record { of = replicate 4 0 } ≡ counts_of n
  all-zero h = (λ i. record { of = sym (h 0) i ∷ (sym (h 1) i ∷ (sym (h 2) i ∷ (sym (h 3) i ∷ []))) })

  pub all-counted : min_size ≤ n → n ≤ max_size → {number : ℕ} {of : List ℕ} → Counting n number of → length (sets_of (pairs_of n)) ≤ number → record { of = of } ≡ counts_of n
  unfolding with_connectivity
  all-counted h l {number} {of} c e = ap (λ (x : List ℕ). record { of = x }) (ext_get_or 0 of (counts_of n).of c.size (λ k b. let l : k < 4 = omega (arith, c.size) in counted k l ∙ sym (four-at n k l)))
    where
      done : Left n number ≡ []
      done = drop_of_length-le (plans_of n) {i = number} (omega (arith, length-map (sets_of (pairs_of n)) (plan_with n)))

      counted : (k : ℕ) → k < 4 → get_or of k 0 ≡ count_of n k
      counted k b = let z : length (with_connectivity k (Left n number)) ≡ 0 = ap (λ (x : List Plan). length (with_connectivity k x)) done in omega (arith, c.each k b, of_size h l k)

-- no count is above the number of plans
pub count_most : (n k : ℕ) → count_of n k ≤ 32768
unfolding count_of
count_most n k = go (leb min_size n) (leb n max_size) refl refl
  where
    go : (a b : Bool) → leb min_size n ≡ a → leb n max_size ≡ b → cond (a && b) (length (with_connectivity k (plans_of n))) 0 ≤ 32768
    go true true e f =
        omega (arith, sets_most n (leb-true min_size n e) (leb-true n max_size f), with-most k (plans_of n), length-map (sets_of (pairs_of n)) (plan_with n))
    go true false e f = omega arith
    go false b e f = omega arith

pub one_count : (n k : ℕ) → k < 4 → {c : Counts} → c ≡ counts_of n → get_or c.of k 0 ≡ count_of n k
one_count n k h e = ap (λ (c : Counts). get_or c.of k 0) e ∙ four-at n k h
