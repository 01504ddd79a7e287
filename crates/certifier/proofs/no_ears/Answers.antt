-- `certifier::no_ears` meets its contract. Assumes nothing.

use Rattle.certifier.proofs.no_ears.Goals as goal

pub returns : goal.returns
returns c = rw c.none.ensures
