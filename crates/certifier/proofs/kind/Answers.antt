-- `certifier::kind` meets its contract: the kind is the first number. Assumes nothing.

use Rattle.construction.specs.Certificate.{certificate_numbers}
use Rattle.certifier.proofs.Drafts.{first_number}
use Rattle.certifier.proofs.kind.Goals as goal

pub returns : goal.returns
returns c = let a = c.args in first_number (certificate_numbers a.rows.now a.n) c.certificate.ensures
