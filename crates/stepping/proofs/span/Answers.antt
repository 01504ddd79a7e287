-- `stepping::span` meets its contract. Assumes nothing.

use mathlib.Core.Path.{refl}
use Rattle.stepping.proofs.Working.{run_spans}
use Rattle.stepping.proofs.span.Goals as goal

pub returns : goal.returns
returns c = (refl, run_spans c.args.list.now c.args.set c.args.first c.run_len.ensures.value c.empty.ensures c.with_all.ensures)
