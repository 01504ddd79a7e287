-- `search::route` meets its contract: what was put so far, with the way back that is left, is the whole route. Assumes nothing.

use mathlib.Core.Path.{refl, ap, ◌∙◌}
use native.Mathlib.Omega.{arith}
use Rattle.search.specs.Code.{Vertices}
use Rattle.search.proofs.Back.{pushed-items, going_end, going-seed, going_on}
use Rattle.search.proofs.route.Goals as goal

pub loop-init : goal.loop-init
loop-init c = rw (c.push.ensures, c.new-path.ensures) (record { room = refl; rest = refl })

pub returns-then-i-r : goal.returns-then-i-r
returns-then-i-r c =
    ap (λ (p : Vertices). p.items) c.push-in-loop.ensures
    ∙ pushed-items c.loop.path c.entry.result (omega (arith, c.loop.invariant.room, c.loop-test.true))
    ∙ going-seed c.loop.invariant c.entry.ensures c.loop-test.true c.if-i-r.true

pub loop-preserved : goal.loop-preserved
loop-preserved c =
    rw (c.push-in-loop.ensures, pushed-items c.loop.path c.entry.result (omega (arith, c.loop.invariant.room, c.loop-test.true))) (going_on c.loop.invariant c.entry.ensures c.loop-test.true c.if-i-r.false c.entry-i.ensures)

pub returns : goal.returns
returns c = going_end c.loop.invariant c.loop-test.false
