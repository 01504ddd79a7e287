-- `build::read_build` meets its contract. Assumes nothing.

use mathlib.Core.Path.{◌∙◌}
use Rattle.build.proofs.Starts.{build-stop, build-low, build-on}
use Rattle.build.proofs.read_build.Goals as goal

pub returns-in-Err : goal.returns-in-Err
returns-in-Err c = let a = c.args in
    build-stop a.n a.rows.now a.s.now a.at a.count c.in-Err.ensures.value

pub read_further-requires : goal.read_further-requires
read_further-requires c = let a = c.args in
    let e = c.in-Ok.ensures in
    build-low a.n a.rows.now a.s.now a.at e.value e.pointers_after e.linked_after

pub returns : goal.returns
returns c = let a = c.args in
    let e = c.in-Ok.ensures in
    c.read_further.ensures ∙ build-on a.n a.rows.now a.s.now a.at e.value e.pointers_after e.linked_after a.count
