-- REQUEST 5 of document 02, how rare each grade is: the plans of a size are all there, each once, and the counts are theirs.
use Rattle.std.specs.Prelude.{ℕ, ◌+◌, ◌-◌, ◌*◌, ◌/◌, ◌^◌, ◌≤◌, ◌<◌, List, [], ◌∷◌, map, ◌≡◌, ◌⊎◌, ◌↔◌, length}
use Rattle.record.specs.declared.Answer.TheVariants.{Grade}
use Rattle.connectivity.specs.Lists.{In, NoDup}
use Rattle.connectivity.specs.Graph.{HasConnectivity}
use Rattle.reading.specs.Plan.{Plan, Allowed, plan_bytes}
use Rattle.reading.specs.Code.{graph_of}
use Rattle.checker.specs.Check.{plan_graph}
use Rattle.certifier.specs.Made.{kind_in, length_from}
use Rattle.counting.specs.Counts.{plans_of, count_of, counts_of}
use Rattle.countlines.specs.Text.{count_line}
use Rattle.claims.specs.Certified.{IsPlan, HasFigure}

-- P is the record of a plan of n boxes in which no two cables are alike
pub record IsSimplePlan (n : ℕ) (P : List ℕ) : Type 0 where
  pub plan : Plan
  pub is_plan : IsPlan P plan
  pub boxes : plan.n ≡ n
  pub no_doubles : NoDup plan.edges

-- the list has just the records of which K holds, each once
pub record Lists (K : List ℕ → Type 0) (l : List (List ℕ)) : Type 0 where
  pub each-once : NoDup l
  pub just : (P : List ℕ) → In P l ↔ K P

abbrev pub IsSize : ℕ → Type 0
IsSize n = (4 ≤ n) × (n ≤ 6)

-- `plansOf`, by which a count is defined, are all plans of the size and each once: their records are just the accepted ones (`PlanAccepted`) of n boxes
-- without doubles.
abbrev pub PlansListed : Type 0
PlansListed = (n : ℕ) → IsSize n → Lists (IsSimplePlan n) (map plan_bytes (plans_of n))

-- "Each count is the number of plans with that loss figure": there is a list of their records, and every such list is as long as the count says. The maker
-- answers that grade for each of them.
pub record Counted (n k : ℕ) : Type 0 where
  pub records : List (List ℕ)
  pub listed : Lists (λ P. IsSimplePlan n P × HasFigure P k) records
  pub count : (l : List (List ℕ)) → Lists (λ P. IsSimplePlan n P × HasFigure P k) l → count_of n k ≡ length l
  pub graded : (P : List ℕ) → In P records → (length_from P).answer ≡ Grade k

abbrev pub CountsTrue : Type 0
CountsTrue = (n : ℕ) → IsSize n → (k : ℕ) → Counted n k

-- The plans are graded by `certifier::kind`, which answers `kindIn`: for the rows and the n of every plan that Records allows, counted or not, that is its figure.
abbrev pub RowsGraded : Type 0
RowsGraded = (p : Plan) → Allowed p → HasConnectivity (plan_graph p) (kind_in (graph_of p).rows (graph_of p).n)

-- "a line's counts add up to all plans of its size": to 2 to the number of pairs.
pub record AddsUp (n : ℕ) : Type 0 where
  pub all : count_of n 0 + (count_of n 1 + (count_of n 2 + count_of n 3)) ≡ length (plans_of n)
  pub power : length (plans_of n) ≡ 2 ^ (n * (n - 1) / 2)

abbrev pub CountsAddUp : Type 0
CountsAddUp = (n : ℕ) → IsSize n → AddsUp n

-- Any other size or grade has the count 0.
abbrev pub NothingElse : Type 0
NothingElse = (n k : ℕ) → ((n < 4) ⊎ ((6 < n) ⊎ (3 < k))) → count_of n k ≡ 0

-- "Four boxes give 26, 28, 9 and 1. Five give 296, 490, 212 and 26.", by computing the definition; and the line of four
pub record LinesComputed : Type 0 where
  pub of_four : (counts_of 4).of ≡ 26 ∷ 28 ∷ 9 ∷ 1 ∷ []
  pub of_five : (counts_of 5).of ≡ 296 ∷ 490 ∷ 212 ∷ 26 ∷ []
  pub line : count_line 4 ≡ 52 ∷ 32 ∷ 50 ∷ 54 ∷ 32 ∷ 50 ∷ 56 ∷ 32 ∷ 57 ∷ 32 ∷ 49 ∷ 10 ∷ []
