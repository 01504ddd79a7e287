-- THE CERTIFICATE OF AN ALLOWED PLAN keeps every rule beside the plan's own graph. Assumes nothing.
use mathlib.Core.Path.{subst}
use Rattle.connectivity.specs.Graph.{Graph, from_edges}
use Rattle.connectivity.specs.Certificate.{Rules}
use Rattle.reading.specs.Plan.{Plan, Allowed}
use Rattle.reading.specs.Code.{graph_of}
use Rattle.reading.proofs.Adjacency.{graph_listed}
use Rattle.construction.proofs.PlanLaws.{plan-drawn, plan-edges}
use Rattle.construction.proofs.CertificateLaws.{Constructed, certified}

module _ (p : Plan) (a : Allowed p) where
  pub plan-certified : Constructed (graph_of p).rows (graph_of p).n
  plan-certified = certified (graph_of p).rows (graph_of p).n (plan-drawn p a) (plan-edges p a)

  pub plan-rules : Rules (from_edges p.n p.edges) plan-certified.certificate
  plan-rules = subst (λ (g : Graph). Rules g plan-certified.certificate) (graph_listed p a) plan-certified.rules
