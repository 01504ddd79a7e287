-- `counting::set_count` meets its contract. Assumes nothing.

use Rattle.counting.proofs.Drawing.{pairs_twice_low, pairs_low, sets_all}
use Rattle.counting.proofs.set_count.Goals as goal

pub overflow_mul-result : goal.overflow_mul-result
overflow_mul-result c = record { fits = pairs_twice_low _ c.requires.0 c.requires.1 }

pub overflow_shl-result : goal.overflow_shl-result
overflow_shl-result c = pairs_low _ c.requires.0 c.requires.1

pub returns : goal.returns
returns c = sets_all _ c.requires.0 c.requires.1
