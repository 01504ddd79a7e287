-- `mending::draft_of` meets its contract. Assumes nothing.

use mathlib.Core.Path.{◌∙◌}
use Rattle.mending.specs.Code.{plan_in}
use Rattle.mending.proofs.Recorded.{certified}
use Rattle.mending.proofs.draft_of.Goals as goal

pub returns : goal.returns
returns c = let a = c.args in
    let lent = c.as_slice.ensures.value ∙ c.record_of-mended.ensures in
    let made = certified (plan_in a.n a.mended) c.requires.1 {m = c.certify-made.result} {out = c.certify-made.new.out} (rw (← lent) (c.certify-made.ensures.value, c.certify-made.ensures.out_after)) in
    (λ i. record { list = record { items = c.record_of-list.ensures i }; mended = record { items = c.record_of-mended.ensures i }; certificate = record { items = (c.front-certificate.ensures ∙ made) i } })
