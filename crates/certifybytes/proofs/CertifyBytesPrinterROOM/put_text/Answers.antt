-- `put_text` of `CertifyBytes` meets its contract. Assumes nothing.
use Rattle.std.proofs.Common.{sym, ap, ◌∙◌, arith}
use Rattle.certifier.specs.declared.Made.{Made}
use Rattle.certifybytes.proofs.Cases.{made-counts, made-fits}
use Rattle.certifybytes.proofs.CertifyBytesPrinterROOM.put_text.Goals as goal

pub slice_bounds-certificate-end : goal.slice_bounds-certificate-end
slice_bounds-certificate-end c = (made-counts c.args.input.now (c.certify-made.ensures.value, c.certify-made.ensures.out_after)).0

pub slice_bounds-put_both-end : goal.slice_bounds-put_both-end
slice_bounds-put_both-end c = (made-counts c.args.input.now (c.certify-made.ensures.value, c.certify-made.ensures.out_after)).1

pub returns-clause-input_len_bound : goal.returns-clause-input_len_bound
returns-clause-input_len_bound c = made-fits c.args.input.now (λ i. omega (arith, c.type_inv.input i)) _ (ap (λ (x : Made). x.answer) (sym c.certify-made.ensures.value) ∙ c.in-Grade.is)
