-- The list that the code finds of a plan is that of the definition, its pairs proper and in strict cable order. Assumes nothing.
use Rattle.connectivity.specs.Graph.{Simple, from_edges}
use Rattle.reading.specs.Plan.{Plan, Allowed}
use Rattle.reading.proofs.Doubles.{plan-simple}
use Rattle.striking.proofs.Struck.{list_low, list_ascends, plan-list}
use Rattle.mending.proofs.Decided.{ListRight}

simple : (p : Plan) → Allowed p → Simple (from_edges p.n p.edges)
simple p a = plan-simple p.n p.edges a.least a.each

pub list_right : ListRight
list_right = record {
  right = plan-list;
  proper = λ p a. list_low (from_edges p.n p.edges) (simple p a);
  ascending = λ p a. list_ascends (from_edges p.n p.edges) (simple p a);
}
