-- `starting::join_paths` meets its contract. Assumes nothing.

use mathlib.Core.Path.{◌∙◌}
use Rattle.construction.specs.Start.{marked, three_paths}
use Rattle.starting.proofs.Paths.{three_marked}
use Rattle.starting.proofs.join_paths.Goals as goal

pub returns : goal.returns
returns c = let a = c.args in
    c.mark.ensures
    ∙ three_marked c.as_slice.result.now c.as_slice-2.result.now c.as_slice-3.result.now c.as_slice.ensures.fits (c.put_all-k.ensures.after, c.put_all-k.ensures.value) (c.add_path-first.ensures.flat_after, c.add_path-first.ensures.value) (c.add_path-second.ensures.flat_after, c.add_path-second.ensures.value) (c.add_path-len.ensures.flat_after, c.add_path-len.ensures.value) a.table.now
    ∙ (λ i. marked a.table.now (three_paths (c.as_slice.ensures.value i) (c.as_slice-2.ensures.value i) (c.as_slice-3.ensures.value i)))
