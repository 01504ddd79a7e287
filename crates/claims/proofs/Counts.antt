-- Request 5: the plans of a size are all listed, each once, and each count is the number of those with that figure. Assumes nothing.
use Prim.Native.Nat.{ℕ, ◌-◌, ◌*◌, ◌/◌, ◌^◌}
use mathlib.Core.List.{List, map}
use mathlib.Core.Path.{◌≡◌, refl, sym, ap, subst, ◌∙◌}
use mathlib.Core.Logic.{inl, inr}
use native.Mathlib.Omega.{arith}
use lib.ListN.{length, length-map}
use Rattle.record.specs.declared.Answer.TheVariants.{Grade}
use Rattle.connectivity.specs.Lists.{In}
use Rattle.connectivity.proofs.Lists.{fewer}
use Rattle.reading.specs.Plan.{Plan, plan_bytes}
use Rattle.reading.proofs.Plans.{injective}
use Rattle.certifier.specs.declared.Made.{Made}
use Rattle.certifier.specs.Made.{length_from}
use Rattle.lines.specs.Lines.{digits_in}
use Rattle.counting.specs.Counts.{with_lower, pairs_among, pairs_of, sets_of, plans_of, connectivity_of, with_connectivity, count_of}
use Rattle.counting.proofs.Sets.{in_map, map_in, nodup_map}
use Rattle.reading.proofs.Pairs.{pairs_twice}
use Rattle.counting.proofs.Plans.{listed-allowed, allowed_listed, plans_nodup, plans_count}
use Rattle.counting.proofs.Tally.{with_in, in_with, with-nodup, with-sum}
use Rattle.counting.proofs.Grading.{kind-connectivity, pairs_fit, size_allowed}
use Rattle.counting.proofs.Counting.{of_size, none_below, none_above, no_grade}
use Rattle.countlines.specs.Text.{count_line}
use Rattle.claims.specs.Certified.{HasFigure}
use Rattle.claims.specs.Counts.{IsSimplePlan, Lists, IsSize, PlansListed, Counted, CountsTrue, RowsGraded, CountsAddUp, NothingElse, LinesComputed}
use Rattle.claims.proofs.Demands.{figure_computed}
use Rattle.claims.proofs.Maker.{length_at}

module _ (n : ℕ) (s : IsSize n) where
  -- of one record and another: a plan is known by its record
  one_plan : (p q : Plan) → In p (plans_of n) → In q (plans_of n) → plan_bytes p ≡ plan_bytes q → p ≡ q
  one_plan p q h k = injective p q (size_allowed n s.0 s.1 p h) (size_allowed n s.0 s.1 q k)

  simple : (P : List ℕ) (p : Plan) → In p (plans_of n) → P ≡ plan_bytes p → IsSimplePlan n P
  simple P p h e =
      let a = listed-allowed n s.0 (omega (arith, s.1)) (pairs_fit n s.0 s.1) p h in
      record { plan = p; is_plan = record { allowed = a.0; bytes = e }; boxes = a.1; no_doubles = a.2 }

  listed : {P : List ℕ} (x : IsSimplePlan n P) → In x.plan (plans_of n)
  listed x = allowed_listed n x.plan x.is_plan.allowed x.boxes x.no_doubles

  pub all_listed : Lists (IsSimplePlan n) (map plan_bytes (plans_of n))
  all_listed = record {
    each-once = nodup_map plan_bytes (plans_of n) one_plan (plans_nodup n);
    just = λ P. (
      (λ h. let p = in_map plan_bytes P (plans_of n) h in simple P p.0 p.1 p.2),
      λ x. subst (λ (Q : List ℕ). In Q (map plan_bytes (plans_of n))) (sym x.is_plan.bytes) (map_in plan_bytes x.plan (plans_of n) (listed x)),
    );
  }

  module _ (k : ℕ) where
    abbrev theirs : List (List ℕ)
    theirs = map plan_bytes (with_connectivity k (plans_of n))

    abbrev Has : List ℕ → Type 0
    Has P = IsSimplePlan n P × HasFigure P k

    found : (P : List ℕ) → In P theirs → (p : Plan) × In p (plans_of n) × (connectivity_of p ≡ k) × (P ≡ plan_bytes p)
    found P h =
        let p = in_map plan_bytes P (with_connectivity k (plans_of n)) h in
        let w = with_in k p.0 (plans_of n) p.1 in
        (p.0, w.0, w.1, p.2)

    has-figure : (P : List ℕ) → In P theirs → Has P
    unfolding simple
    has-figure P h =
        let p = found P h in
        let x = simple P p.0 p.1 p.3 in
        (x, record { plan = p.0; is_plan = x.is_plan; figure = (figure_computed p.0 x.is_plan.allowed k).1 (sym p.2) })

    figured : (P : List ℕ) → Has P → In P theirs
    figured P (x, f) =
        let a = f.is_plan.allowed in
        let e : k ≡ connectivity_of f.plan = (figure_computed f.plan a k).0 f.figure in
        let q : x.plan ≡ f.plan = injective x.plan f.plan x.is_plan.allowed a (sym x.is_plan.bytes ∙ f.is_plan.bytes) in
        let i = in_with k x.plan (plans_of n) (listed x) (ap connectivity_of q ∙ sym e) in
        subst (λ (Q : List ℕ). In Q theirs) (sym x.is_plan.bytes) (map_in plan_bytes x.plan (with_connectivity k (plans_of n)) i)

    theirs_listed : Lists Has theirs
    theirs_listed = record {
      each-once = nodup_map plan_bytes (with_connectivity k (plans_of n)) (λ p q h j. one_plan p q (with_in k p (plans_of n) h).0 (with_in k q (plans_of n) j).0) (with-nodup k (plans_of n) (plans_nodup n));
      just = λ P. (has-figure P, figured P);
    }

    -- two lists of the same records are of the same length
    as_long : (l : List (List ℕ)) → Lists Has l → count_of n k ≡ length l
    as_long l x =
        let a = fewer theirs l theirs_listed.each-once (λ P h. (x.just P).1 (has-figure P h)) in
        let b = fewer l theirs x.each-once (λ P h. figured P ((x.just P).0 h)) in
        omega (arith, of_size n s.0 s.1 k, length-map (with_connectivity k (plans_of n)) plan_bytes)

    graded : (P : List ℕ) → In P theirs → (length_from P).answer ≡ Grade k
    graded P h =
        let p = found P h in
        let a = size_allowed n s.0 s.1 p.0 p.1 in
        ap (λ (Q : List ℕ). (length_from Q).answer) p.3 ∙ ap (λ (m : Made). m.answer) (length_at p.0 a) ∙ ap Grade (kind-connectivity p.0 a ∙ p.2)

    pub counted : Counted n k
    counted = record { records = theirs; listed = theirs_listed; count = as_long; graded = graded }

pub plans_listed : PlansListed
plans_listed = all_listed

pub counts_true : CountsTrue
counts_true = counted

pub rows_graded : RowsGraded
rows_graded p a = (figure_computed p a _).1 (kind-connectivity p a)

half : (m p : ℕ) → 2 * m ≡ p → m ≡ p / 2
half m p e = omega arith

pub counts_add_up : CountsAddUp
counts_add_up n s = record {
  all = omega (arith, of_size n s.0 s.1 0, of_size n s.0 s.1 1, of_size n s.0 s.1 2, of_size n s.0 s.1 3, with-sum (plans_of n));
  power = plans_count n ∙ ap (λ (m : ℕ). 2 ^ m) (half (length (pairs_of n)) (n * (n - 1)) (pairs_twice n));
}

pub nothing_else : NothingElse
nothing_else n k (inl h) = none_below n h k
nothing_else n k (inr (inl h)) = none_above n h k
nothing_else n k (inr (inr h)) = no_grade n k h

pub lines_computed : LinesComputed
unfolding count_of with_connectivity sets_of pairs_among with_lower count_line digits_in
lines_computed = record { of_four = refl; of_five = refl; line = refl }
