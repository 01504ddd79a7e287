-- `detours::find_on` meets its contract: a path goes on, and without one the cut stays. Assumes nothing.

use Prim.Native.Nat.{◌<◌}
use mathlib.Core.Path.{ap, ◌∙◌}
use mathlib.Core.List.{◌∷◌, []}
use lib.ListN.{length}
use Rattle.std.proofs.lemmas.Result.{err_from_is_err_and}
use Rattle.search.specs.Code.{Vertices, path_room}
use Rattle.search.proofs.Back.{pushed-items}
use Rattle.vertexset.specs.declared.VertexSet.{VertexSet}
use Rattle.construction.specs.Search.{explore}
use Rattle.detours.specs.Code.{found_of, answered_in}
use Rattle.detours.proofs.Answered.{grows_room, grows_none, grows_on}
use Rattle.detours.proofs.find_on.Goals as goal

pub returns-in_err-path-clause-value : goal.returns-in_err-path-clause-value
returns-in_err-path-clause-value c = let a = c.args in
    let o = c.single in
    let p = err_from_is_err_and c.from_residual.result c.from_residual.ensures.1 in
    rw (p.1, p.2) (grows_none a.space.now (explore a.rows.now a.seeds a.goals o.result) o.result a.x c.in_err-path.ensures.value
    ∙ ap (λ (r : VertexSet). found_of (answered_in a.space.now (explore a.rows.now a.seeds a.goals r) r (a.x ∷ []))) o.ensures)

pub returns-clause-value : goal.returns-clause-value
returns-clause-value c = let a = c.args in
    let o = c.single in
    let room : length c.in_ok-path.path.items < path_room = grows_room a.space.now (explore a.rows.now a.seeds a.goals o.result) o.result a.x c.in_ok-path.ensures.value in
    let items = ap (λ (v : Vertices). v.items) c.push.ensures ∙ pushed-items c.in_ok-path.path a.x room in
    grows_on a.space.now (explore a.rows.now a.seeds a.goals o.result) o.result a.x c.in_ok-path.ensures.value items
    ∙ ap (λ (r : VertexSet). found_of (answered_in a.space.now (explore a.rows.now a.seeds a.goals r) r (a.x ∷ []))) o.ensures
