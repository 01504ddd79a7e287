-- `mending::mend` meets its contract. Assumes nothing.

use mathlib.Core.Logic.{inl, inr}
use mathlib.Core.Path.{ap, ◌∙◌}
use Rattle.mending.specs.Mend.{Outcome}
use Rattle.mending.proofs.Mends.{mend_refused, mend_lacks, mend_writes}
use Rattle.mending.proofs.mend.Goals as goal
use Rattle.mending.proofs.mend.Goals.{then-list-first-via-then-list-first, then-list-first-via-else-list-first+then-mended-second, then-list-first-via-else-list-first+else-mended-second+then-certificate-third}

pub returns-in-Err : goal.returns-in-Err
returns-in-Err c = let e = mend_refused c.args.plan.now c.args.list.now c.args.mended.now c.args.certificate.now c.in-Err.ensures in
    record {
      value = c.refused.ensures ∙ ap (λ (o : Outcome). o.answer) e;
      list_after = ap (λ (o : Outcome). o.list) e;
      mended_after = ap (λ (o : Outcome). o.mended) e;
      certificate_after = ap (λ (o : Outcome). o.certificate) e;
    }

pub returns-then-list-first : goal.returns-then-list-first
returns-then-list-first c = let a = c.args in
    let e = mend_lacks a.plan.now a.list.now a.mended.now a.certificate.now c.in-Ok.ensures c.as_slice-first.ensures.value c.as_slice-second.ensures.value c.as_slice-third.ensures.value
    (elim c.then-list-first.branch [
      | then-list-first-via-then-list-first w ↦ inl w.if-list-first.true
      | then-list-first-via-else-list-first+then-mended-second w ↦ inr (inl w.if-mended-second.true)
      | then-list-first-via-else-list-first+else-mended-second+then-certificate-third w ↦ inr (inr w.if-certificate-third.true)
    ]) in
    record {
      value = c.refused-then-list-first.ensures ∙ ap (λ (o : Outcome). o.answer) e;
      list_after = ap (λ (o : Outcome). o.list) e;
      mended_after = ap (λ (o : Outcome). o.mended) e;
      certificate_after = ap (λ (o : Outcome). o.certificate) e;
    }

pub returns : goal.returns
returns c = let a = c.args in
    let e = mend_writes a.plan.now a.list.now a.mended.now a.certificate.now c.in-Ok.ensures c.as_slice-first.ensures.value c.as_slice-second.ensures.value c.as_slice-third.ensures.value
    c.if-list-first.false c.if-mended-second.false c.if-certificate-third.false in
    record {
      value = ap (λ (o : Outcome). o.answer) e;
      list_after = c.put.ensures ∙ ap (λ (o : Outcome). o.list) e;
      mended_after = c.put-2.ensures ∙ ap (λ (o : Outcome). o.mended) e;
      certificate_after = c.put-3.ensures ∙ ap (λ (o : Outcome). o.certificate) e;
    }
