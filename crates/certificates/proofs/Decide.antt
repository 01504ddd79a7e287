-- A test decides a proposition: one law for each way of putting tests together.
use Prim.Native.Nat.{ℕ, zero, suc, ◌<◌, ◌≤◌}
use mathlib.Core.Path.{◌≡◌, refl, sym}
use mathlib.Core.Logic.{◌⊎◌, inl, inr, ⊎_elim, ⊎_map}
use mathlib.Core.List.{List, [], ◌∷◌}
use mathlib.Core.Bool.{Bool, true, false, ◌&&◌, ◌||◌, not}
use native.Mathlib.Omega.{arith}
use native.Mathlib.Decide.{ℕ_discrete}
use lib.Dec.{eqb, leb, ltb}
use borrow.Author.Tests.{eqb-true, eq-eqb, leb-true, le-leb, ltb-true, lt-ltb}
use Rattle.connectivity.specs.Lists.{In, NoDup, member}
use Rattle.connectivity.specs.Path.{Path, Along}
use Rattle.connectivity.proofs.Lists.{clash, or-true, true_or, and-true, member-in, in_member}
use Rattle.certificates.specs.Tests.{some_below, all_below, any_link, each, along, distinct}
use Rattle.record.specs.Read.{within}

pub record Decides (b : Bool) (P : Type 0) : Type 0 where
  pub holds : b ≡ true → P
  pub passes : P → b ≡ true

-- the same in other words
pub decide_same : {b : Bool} {P Q : Type 0} → Decides b P → (P → Q) → (Q → P) → Decides b Q
decide_same d f g = record { holds = λ e. f (d.holds e); passes = λ q. d.passes (g q) }

-- two tests that decide the same
pub same_test : {a b : Bool} {P : Type 0} → Decides a P → Decides b P → a ≡ b
same_test {a = true} d e = sym (e.passes (d.holds refl))
same_test {a = false} {b = true} d e = d.passes (e.holds refl)
same_test {a = false} {b = false} d e = refl

pub decide_test : (b : Bool) → Decides b (b ≡ true)
decide_test b = record { holds = λ e. e; passes = λ e. e }

pub decide_true : Decides true (Unit {0})
decide_true = record { holds = λ e. tt; passes = λ u. refl }

pub decide_false : Decides false ⊥
decide_false = record { holds = λ e. clash e refl; passes = λ p. absurd p }

pub decide_and : {a b : Bool} {P Q : Type 0} → Decides a P → Decides b Q → Decides (a && b) (P × Q)
decide_and {a} {b} d e = record {
  holds = λ h. let r = and-true a b h in (d.holds r.0, e.holds r.1);
  passes = λ p. rw (d.passes p.0, e.passes p.1);
}

pub decide_or : {a b : Bool} {P Q : Type 0} → Decides a P → Decides b Q → Decides (a || b) (P ⊎ Q)
decide_or {a} {b} d e = record {
  holds = λ h. ⊎_map d.holds e.holds (or-true a b h);
  passes = λ p. ⊎_elim (λ x. rw (d.passes x)) (λ y. true_or a b (e.passes y)) p;
}

pub decide_not : {a : Bool} {P : Type 0} → Decides a P → Decides (not a) (¬ P)
decide_not {a = true} d = record { holds = λ h. absurd (clash h refl); passes = λ p. absurd (p (d.holds refl)) }
decide_not {a = false} d = record { holds = λ h p. clash (d.passes p) refl; passes = λ p. refl }

-- numbers
pub decide_equal : (a b : ℕ) → Decides (eqb a b) (a ≡ b)
decide_equal a b = record { holds = eqb-true a b; passes = eq-eqb a b }

pub decide_less : (a b : ℕ) → Decides (ltb a b) (a < b)
decide_less a b = record { holds = ltb-true a b; passes = lt-ltb a b }

pub decide_most : (a b : ℕ) → Decides (leb a b) (a ≤ b)
decide_most a b = record { holds = leb-true a b; passes = le-leb a b }

pub decide_within : (least most k : ℕ) → Decides (within least most k) ((least ≤ k) × (k ≤ most))
decide_within least most k = decide_and (decide_most least k) (decide_most k most)

-- the numbers below n
module _ {t : ℕ → Bool} {P : ℕ → Type 0} (d : (v : ℕ) → Decides (t v) (P v)) where
  pub decide_some : (n : ℕ) → Decides (some_below n t) ((v : ℕ) × (v < n) × P v)
  unfolding some_below
  decide_some zero = decide_same decide_false (λ p. absurd p) (λ p. absurd (omega (arith, p.1)))
  decide_some (suc n) = decide_same (decide_or (d n) (decide_some n)) to from
    where
      to : P n ⊎ ((v : ℕ) × (v < n) × P v) → (v : ℕ) × (v < suc n) × P v
      to (inl p) = (n, omega arith, p)
      to (inr p) = (p.0, omega (arith, p.1), p.2)

      from : (v : ℕ) × (v < suc n) × P v → P n ⊎ ((v : ℕ) × (v < n) × P v)
      from (v, h, p) = go (ℕ_discrete v n)
        where
          go : Dec (v ≡ n) → P n ⊎ ((v : ℕ) × (v < n) × P v)
          go (yes e) = inl (rw e at p)
          go (no e) = inr (v, omega arith, p)

  pub decide_all : (n : ℕ) → Decides (all_below n t) ((v : ℕ) → v < n → P v)
  unfolding all_below
  decide_all zero = decide_same decide_true (λ u v h. absurd (omega arith)) (λ f. tt)
  decide_all (suc n) = decide_same (decide_and (d n) (decide_all n)) to (λ f. (f n (omega arith), λ v h. f v (omega arith)))
    where
      to : P n × ((v : ℕ) → v < n → P v) → (v : ℕ) → v < suc n → P v
      to p v h = go (ℕ_discrete v n)
        where
          go : Dec (v ≡ n) → P v
          go (yes e) = rw e p.0
          go (no e) = p.1 v (omega arith)

  -- the vertices of a list
  pub decide_each : (l : List ℕ) → Decides (each t l) ((v : ℕ) → In v l → P v)
  unfolding each
  decide_each [] = decide_same decide_true (λ u v h. absurd h) (λ f. tt)
  decide_each (a ∷ l) = decide_same (decide_and (d a) (decide_each l)) to (λ f. (f a (inl refl), λ v h. f v (inr h)))
    where
      to : P a × ((v : ℕ) → In v l → P v) → (v : ℕ) → In v (a ∷ l) → P v
      to p v (inl e) = rw e p.0
      to p v (inr h) = p.1 v h

-- the links of a build
pub decide_any : {t : Path → Bool} {P : Path → Type 0} → ((L : Path) → Decides (t L) (P L)) → (ls : List Path) → Decides (any_link t ls) ((L : Path) × In L ls × P L)
unfolding any_link
decide_any d [] = decide_same decide_false (λ p. absurd p) (λ p. p.1)
decide_any {P = P} d (M ∷ ls) = decide_same (decide_or (d M) (decide_any d ls)) to from
  where
    to : P M ⊎ ((L : Path) × In L ls × P L) → (L : Path) × In L (M ∷ ls) × P L
    to (inl p) = (M, inl refl, p)
    to (inr p) = (p.0, inr p.1, p.2)

    from : (L : Path) × In L (M ∷ ls) × P L → P M ⊎ ((L : Path) × In L ls × P L)
    from (L, inl e, p) = inl (rw e at p)
    from (L, inr h, p) = inr (L, h, p)

-- membership, no duplicates, neighbours
pub decide_member : (v : ℕ) (l : List ℕ) → Decides (member v l) (In v l)
decide_member v l = record { holds = member-in v l; passes = in_member v l }

pub decide_distinct : (l : List ℕ) → Decides (distinct l) (NoDup l)
unfolding distinct
decide_distinct [] = decide_true
decide_distinct (v ∷ l) = decide_and (decide_not (decide_member v l)) (decide_distinct l)

pub decide_along : (adj : ℕ → ℕ → Bool) (s : ℕ) (l : List ℕ) (t : ℕ) → Decides (along adj s l t) (Along (λ u v. adj u v ≡ true) s l t)
unfolding along
decide_along adj s [] t = decide_test (adj s t)
decide_along adj s (v ∷ l) t = decide_and (decide_test (adj s v)) (decide_along adj v l t)
