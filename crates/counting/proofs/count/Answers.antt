-- `counting::count` meets its contract. Assumes nothing.

use mathlib.Core.Path.{sym}
use Rattle.counting.proofs.Counting.{no_grade, one_count}
use Rattle.counting.proofs.count.Goals as goal

pub returns-then-grade : goal.returns-then-grade
returns-then-grade c = sym (no_grade _ _ c.if-grade.true)

pub returns : goal.returns
returns c = one_count _ _ c.if-grade.false c.count_all.ensures
