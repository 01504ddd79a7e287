-- `sessionlines::open` meets its contract. Assumes nothing.
use Rattle.sessionlines.specs.Lines.{answer_line}
use Rattle.sessionlines.proofs.Turns.{said, said_as, open_long, open_cut, open_part}
use Rattle.sessionlines.proofs.open.Goals as goal

pub returns-then-script-gt-LIMIT : goal.returns-then-script-gt-LIMIT
returns-then-script-gt-LIMIT c =
    let a = c.args in
    let p = c.say.ensures in
    let s = said_as a.out.now (open_long a.script.now c.if-script-gt-LIMIT.true c.none.ensures) (p.value, (p.out_after, p.line_len_bound)) in
    record { value = s.0; out_after = s.1.0; script_len_bound = s.1.1 }

pub returns-in_default : goal.returns-in_default
returns-in_default c =
    let a = c.args in
    let p = c.say-in_default.ensures in
    let s = said_as a.out.now (open_cut a.script.now c.if-script-gt-LIMIT.false c.part_at.ensures.value c.in_default.is c.none-in_default.ensures) (p.value, (p.out_after, p.line_len_bound)) in
    record { value = s.0; out_after = s.1.0; script_len_bound = s.1.1 }

pub returns : goal.returns
returns c =
    let a = c.args in
    let o = c.open-opened in
    let p = c.put_answer-len.ensures in
    let s = said_as a.out.now (open_part a.script.now c.if-script-gt-LIMIT.false c.part_at.ensures.value c.in-Some.is o.ensures)
    (said a.out.now (answer_line o.result.answer) o.result.session _ (p.value, (p.out_after, p.answer_len_bound))) in
    record { value = s.0; out_after = s.1.0; script_len_bound = s.1.1 }
