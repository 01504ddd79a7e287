-- `detours::with_all` meets its contract: the rest of the list, taken in from here, gives the whole. Assumes nothing.

use mathlib.Core.Path.{sym, ◌∙◌}
use Rattle.vertexset.specs.Set.{inserted}
use Rattle.detours.proofs.Lists.{fold_turn, fold_end}
use Rattle.detours.proofs.with_all.Goals as goal

pub loop-v-preserved : goal.loop-v-preserved
loop-v-preserved c = let l = c.loop-v in
    rw c.insert-all.ensures (sym (fold_turn inserted l.all c.args.list.now l.v-index c.loop-v-test.true) ∙ l.invariant)

pub returns : goal.returns
returns c = let l = c.loop-v in sym (fold_end inserted l.all _ l.v-index c.loop-v-test.false) ∙ l.invariant
