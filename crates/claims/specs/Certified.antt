-- What two records mean: a plan, its figure, and a certificate of its grade.
use Rattle.std.specs.Prelude.{ℕ, List, ◌≡◌}
use Rattle.connectivity.specs.Graph.{HasConnectivity}
use Rattle.connectivity.specs.Path.{Path}
use Rattle.connectivity.specs.TopologicalGraph.{IsSequence}
use Rattle.connectivity.specs.Certificate.{Certificate, Certificate.build, kind, Rules}
use Rattle.certificates.specs.Encoding.{certificate_bytes}
use Rattle.reading.specs.Plan.{Plan, Allowed, plan_bytes}
use Rattle.checker.specs.Check.{plan_graph}

-- P is the record of a plan that Records allows
pub record IsPlan (P : List ℕ) (p : Plan) : Type 0 where
  pub allowed : Allowed p
  pub bytes : P ≡ plan_bytes p

-- k is the loss figure of the plan whose record P is: the connectivity of its graph
pub record HasFigure (P : List ℕ) (k : ℕ) : Type 0 where
  pub plan : Plan
  pub is_plan : IsPlan P plan
  pub figure : HasConnectivity (plan_graph plan) k

-- beside a plan's record P, C is the record of a certificate of kind k, and every rule for that kind holds
pub record Certified (P C : List ℕ) (k : ℕ) : Type 0 where
  pub plan : Plan
  pub is_plan : IsPlan P plan
  pub certificate : Certificate
  pub bytes : C ≡ certificate_bytes certificate
  pub same_kind : kind certificate ≡ k
  pub rules : Rules (plan_graph plan) certificate

-- beside a plan's record P, C is the record of a certificate of kind 3, and its own start and further paths are a Barnette-Grünbaum
-- sequence in path form, from the complete graph on its own p, q, r, s to the plan's graph
pub record Sequenced (P C : List ℕ) : Type 0 where
  pub plan : Plan
  pub is_plan : IsPlan P plan
  pub p : ℕ
  pub q : ℕ
  pub r : ℕ
  pub s : ℕ
  pub start : List Path
  pub further : List Path
  pub bytes : C ≡ certificate_bytes (build p q r s start further)
  pub sequence : IsSequence (plan_graph plan) p q r s start further
