-- `mending::record_of` meets its contract: an allowed plan has a record, and the array has room for it. Assumes nothing.

use Prim.Native.Nat.{ℕ}
use mathlib.Core.Path.{◌≡◌, sym, ap, ◌∙◌}
use lib.ListN.{length, take}
use Rattle.std.specs.Prelude.{Some}
use Rattle.reading.specs.Plan.{plan_bytes}
use Rattle.mending.specs.Code.{plan_in}
use Rattle.mending.proofs.Recorded.{record_length, record_bytes}
use Rattle.mending.proofs.record_of.Goals as goal

pub unwrap-length-requires : goal.unwrap-length-requires
unwrap-length-requires c = rw (record_length c.args.n c.args.edges c.requires c.write_plan.ensures)

pub returns : goal.returns
returns c = let a = c.args in
    let some : Some c.unwrap-length.result ≡ Some (length (plan_bytes (plan_in a.n a.edges))) = sym c.unwrap-length.ensures ∙ record_length a.n a.edges c.requires c.write_plan.ensures in
    let l : c.unwrap-length.result ≡ length (plan_bytes (plan_in a.n a.edges)) = cc in
    c.front.ensures ∙ ap (λ (k : ℕ). take k c.write_plan.new.out) l ∙ record_bytes a.n a.edges c.requires c.write_plan.ensures
