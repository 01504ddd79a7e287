-- `search::entry` meets its contract: what is before the end of the list is in it. Assumes nothing.
use Prim.Native.Nat.{◌<◌}
use mathlib.Core.Path.{◌≡◌, sym, ◌∙◌}
use native.Mathlib.Omega.{arith}
use lib.ListN.{get_or, drop}
use lib.Seq.{get_or-take}
use Rattle.std.proofs.lemmas.Grind.{common_steps}
use Rattle.search.proofs.entry.Goals as goal

pub returns : goal.returns
returns c = let a = c.args in
    let e : c.unwrap_or.result ≡ get_or (drop a.start a.items.now) a.i 0 = grind (arith, common_steps) in
    let h : a.i < a.count = omega arith in
    e ∙ sym (get_or-take a.count (drop a.start a.items.now) a.i 0 h)
