-- `certifier::build_numbers` meets its contract. Assumes nothing.

use Rattle.construction.specs.Sets.{members}
use Rattle.certifier.proofs.Written.{members-short, numbers_are, build-filled}
use Rattle.certifier.proofs.build_numbers.Goals as goal

pub returns : goal.returns
returns c = let a = c.args in
    numbers_are (build-filled 3 (members a.four) a.list.now (members-short a.four) c.requires (c.put_members-first.ensures.after, c.put_members-first.ensures.value) (c.put_all-count.ensures.after, c.put_all-count.ensures.value))
