-- `sessionlines::call` meets its contract. Assumes nothing.
use Prim.Native.Nat.{◌+◌}
use mathlib.Core.List.{[]}
use lib.ListN.{get_or}
use native.Mathlib.Omega.{arith}
use borrow.Author.Rules.{rules}
use Rattle.script.proofs.Calls.{lone_call, part-call, no_call}
use Rattle.lines.proofs.Put.{put_none, lined}
use Rattle.sessionlines.specs.Lines.{answer_line}
use Rattle.sessionlines.proofs.Turns.{said, said_as, call_none, call_lone, call_unknown, call_cut, call_part}
use Rattle.sessionlines.proofs.call.Goals as goal
use Rattle.sessionlines.proofs.call.Goals.{in_default-via-then-byte-lt98, in_default-via-else-byte-lt98+else-byte-lt100}

pub returns-then-script-at : goal.returns-then-script-at
returns-then-script-at c =
    let a = c.args in
    let s = said_as a.out.now (call_none a.script.now a.turn.session a.turn.at c.if-script-at.true) (said a.out.now [] a.turn.session a.turn.at (lined a.out.now 0 [] (put_none a.out.now 0) (omega arith))) in
    record { value = s.0; out_after = s.1.0; at_len_bound = s.1.1 }

pub returns-in-99 : goal.returns-in-99
returns-in-99 c =
    let a = c.args in
    let x = c.step_alone-alone in
    let p = c.put_answer-len.ensures in
    let l = lone_call (get_or a.script.now a.turn.at 0) (omega arith) (omega arith) in
    let s = said_as a.out.now (call_lone a.script.now a.turn.session a.turn.at c.if-script-at.false l x.ensures)
    (said a.out.now (answer_line x.result.answer) x.result.session (a.turn.at + 1) (p.value, (p.out_after, p.answer_len_bound))) in
    record { value = s.0; out_after = s.1.0; at_len_bound = s.1.1 }

pub returns-in_default-part_at : goal.returns-in_default-part_at
returns-in_default-part_at c =
    let a = c.args in
    let p = c.say.ensures in
    let s = said_as a.out.now (call_cut a.script.now a.turn.session a.turn.at c.if-script-at.false (part-call _ c.in-115.is) c.part_at.ensures.value c.in_default-part_at.is)
    (p.value, (p.out_after, p.line_len_bound)) in
    record { value = s.0; out_after = s.1.0; at_len_bound = s.1.1 }

pub returns-in-Some : goal.returns-in-Some
returns-in-Some c =
    let a = c.args in
    let p = c.step.ensures in
    let s = said_as a.out.now (call_part a.script.now a.turn.session a.turn.at c.if-script-at.false (part-call _ c.in-115.is) c.part_at.ensures.value c.in-Some.is)
    (p.value, (p.out_after, p.end_len_bound)) in
    record { value = s.0; out_after = s.1.0; at_len_bound = s.1.1 }

pub returns-in_default : goal.returns-in_default
returns-in_default c =
    let a = c.args in
    let p = c.say-in_default.ensures in
    let n = no_call (get_or a.script.now a.turn.at 0) in
    let s = said_as a.out.now (call_unknown a.script.now a.turn.session a.turn.at c.if-script-at.false (elim c.in_default.branch [
      | in_default-via-then-byte-lt98 w ↦ n (λ e. omega arith) (λ e. omega arith) (λ e. omega arith) (λ e. omega arith)
      | in_default-via-else-byte-lt98+else-byte-lt100 w ↦ n (λ e. omega arith) (λ e. omega arith) (λ e. search rules) (λ e. search rules)
    ])) (p.value, (p.out_after, p.line_len_bound)) in
    record { value = s.0; out_after = s.1.0; at_len_bound = s.1.1 }
