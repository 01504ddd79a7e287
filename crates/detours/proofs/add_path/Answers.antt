-- `detours::add_path` meets its contract: the stop, and the path behind it. Assumes nothing.

use mathlib.Core.Path.{ap, ◌∙◌}
use native.Mathlib.Omega.{arith}
use lib.ListN.{length, set, length-set}
use Prim.Native.Nat.{suc, ◌+◌, ◌≤◌}
use Rattle.construction.specs.Sets.{stop}
use Rattle.search.proofs.Placed.{placed-length}
use Rattle.detours.proofs.Filled.{first_put, first_end}
use Rattle.detours.proofs.add_path.Goals as goal

pub shape_of-flat : goal.shape_of-flat
shape_of-flat c = let p = c.put_all in
    let a = c.args in
    ap length p.ensures.after ∙ placed-length (set a.flat.now a.len stop) (a.len + 1) a.path.now ∙ length-set a.flat.now a.len stop

pub returns : goal.returns
returns c = let p = c.put_all in
    let a = c.args in
    let h : a.len + suc (length a.path.now) ≤ length a.flat.now = omega arith in
    record { flat_after = p.ensures.after ∙ first_put a.flat.now a.len stop a.path.now h; value = p.ensures.value ∙ first_end a.flat.now a.len stop a.path.now h }
