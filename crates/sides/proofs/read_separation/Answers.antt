-- `sides::read_separation` meets its contract. Assumes nothing.

use Prim.Native.Nat.{ℕ}
use mathlib.Core.Bool.{Bool}
use mathlib.Core.Path.{◌≡◌, ◌∙◌, ap}
use Rattle.vertexset.specs.Set.{has}
use Rattle.vertexset.specs.declared.VertexSet.{VertexSet}
use Rattle.vertexset.proofs.Laws.{empty-has}
use Rattle.connectivity.specs.Certificate.{Certificate.separation}
use Rattle.certificates.specs.Tests.{nobody}
use Rattle.certificates.specs.Records.{side, body}
use Rattle.paths.specs.Items.{end_read, limited}
use Rattle.graph.specs.Rows.{rows_graph}
use Rattle.paths.proofs.Ends.{end_into}
use Rattle.sides.proofs.Reading.{limited-same}
use Rattle.sides.proofs.read_separation.Goals as goal

pub returns : goal.returns
returns c = let a = c.args in
    let g = rows_graph a.n a.rows.now in
    let e : has c.empty.result.words ≡ nobody = ap (λ (s : VertexSet). has s.words) c.empty.ensures ∙ empty-has in
    c.read_side.ensures ∙ ap (λ (p : ℕ → Bool). end_read (limited a.n (side g p) a.s.now a.at)) e
    ∙ limited-same a.n a.s.now a.at (side g nobody) (body g 0) (end_into separation (side g nobody) a.s.now a.at)
