-- `Cursor::member` meets its contract. Assumes nothing.

use native.Mathlib.Omega.{arith}
use lib.Count.{trailing_le}
use Rattle.vertexset.proofs.Cursor.member.Goals as goal

pub overflow_cast-result-2 : goal.overflow_cast-result-2
overflow_cast-result-2 c = omega (arith, trailing_le 64 c.args.self.rest)

pub overflow_add-result : goal.overflow_add-result
overflow_add-result c = omega (arith, trailing_le 64 c.args.self.rest)
