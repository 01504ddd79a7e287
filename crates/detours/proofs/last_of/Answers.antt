-- `detours::last_of` meets its contract. Assumes nothing.

use Prim.Native.Nat.{◌-◌}
use mathlib.Core.Path.{◌≡◌, ◌∙◌}
use native.Mathlib.Omega.{arith}
use lib.ListN.{length, get_or}
use Rattle.std.proofs.lemmas.Grind.{common_steps}
use Rattle.detours.proofs.Lists.{last_at}
use Rattle.detours.proofs.last_of.Goals as goal

pub returns : goal.returns
returns c = let l = c.args.list.now in
    let e : c.unwrap_or.result ≡ get_or l (length l - 1) 0 = grind (arith, common_steps) in
    e ∙ last_at l
