use lib.ListN.{take, drop}
use Rattle.vertexset.specs.Set.{capacity}
use Rattle.search.specs.Code.{route_in}
use Rattle.search.proofs.Back.{Going}
use Rattle.search.proofs.route.Given as goal

abbrev pub invariant-loop : goal.invariant-loop
invariant-loop l = Going (take l.r.count l.space) (take l.r.count (drop capacity l.space)) l.r.seeds (route_in l.space l.r) l.path.items l.i l.counter
