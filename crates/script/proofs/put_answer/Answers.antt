-- `script::put_answer` meets its contract. Assumes nothing.

use mathlib.Core.Path.{ap, ◌∙◌}
use Prim.Native.Nat.{◌*◌}
use native.Mathlib.Omega.{arith}
use Rattle.std.specs.Int.{w64, to_le_bytes}
use Rattle.script.specs.Replay.{answer_word}
use Rattle.script.proofs.Answers.{word_put, answer_put}
use Rattle.script.proofs.put_answer.Goals as goal

pub returns-clause-out_after : goal.returns-clause-out_after
returns-clause-out_after c = let a = c.args in
    (answer_put a.out.now a.count a.a c.if-out-count.false
    (word_put a.out.now (8 * a.count) _ (answer_word a.a) (c.copy_from_slice.ensures.after ∙ c.to_le_bytes.ensures ∙ ap (to_le_bytes w64) c.answer_word.ensures) (omega arith))).1
