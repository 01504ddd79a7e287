-- `script::replay_on` meets its contract. Assumes nothing.

use mathlib.Core.Path.{◌∙◌}
use native.Mathlib.Omega.{arith}
use lib.ListN.{get_or}
use borrow.Author.Rules.{rules}
use Rattle.script.proofs.Calls.{lone_call, part-call, no_call, script_done, call_unknown, call_cut, lone_steps, part_steps, step_start, step-path, step_full, step_answered}
use Rattle.script.proofs.replay_on.Goals as goal
use Rattle.script.proofs.replay_on.Goals.{in-115+in-Some+then-call-eq115, in-115+in-Some+else-call-eq115, in-99}

pub returns-in_default : goal.returns-in_default
returns-in_default c =
    let t = call_unknown c.loop-at.invariant c.loop-at-test.true (no_call (get_or c.args.s.now c.loop-at.at 0) (λ e. omega arith) (λ e. omega arith) (λ e. omega arith) (λ e. omega arith)) in
    record { value = t.0; out_after = t.1 }

pub returns-in_default-2 : goal.returns-in_default-2
returns-in_default-2 c =
    let t = call_unknown c.loop-at.invariant c.loop-at-test.true (no_call (get_or c.args.s.now c.loop-at.at 0) (λ e. omega arith) (λ e. omega arith) (λ e. search rules) (λ e. search rules)) in
    record { value = t.0; out_after = t.1 }

pub returns-in_default-part_at : goal.returns-in_default-part_at
returns-in_default-part_at c =
    let t = call_cut c.loop-at.invariant c.loop-at-test.true (part-call _ c.in-115.is) c.part_at.ensures.value c.in_default-part_at.is in
    record { value = t.0; out_after = t.1 }

pub returns-then-not-put_answer : goal.returns-then-not-put_answer
returns-then-not-put_answer c =
    let t = step_full c.loop-at.invariant (elim c.match-call.branch [
      | in-99 w ↦ lone_steps c.loop-at.invariant c.loop-at-test.true (lone_call (get_or c.args.s.now c.loop-at.at 0) (omega arith) (omega arith)) (w.now-is ∙ w.step_alone-now.ensures) w.at-is
      | in-115+in-Some+then-call-eq115 w ↦ part_steps c.loop-at.invariant c.loop-at-test.true (part-call _ w.in-115.is) w.part_at.ensures.value w.in-Some.is (step_start _ _ _ w.if-call-eq115.true (w.now-is ∙ w.start-now.ensures)) w.at-is
      | in-115+in-Some+else-call-eq115 w ↦ part_steps c.loop-at.invariant c.loop-at-test.true (part-call _ w.in-115.is) w.part_at.ensures.value w.in-Some.is (step-path _ _ _ w.if-call-eq115.false (w.now-is ∙ w.path-now.ensures)) w.at-is
    ]) (c.put_answer.ensures.value, c.put_answer.ensures.out_after) c.if-not-put_answer.true in
    record { value = t.0; out_after = t.1 }

pub loop-at-preserved : goal.loop-at-preserved
loop-at-preserved c = step_answered c.loop-at.invariant (elim c.match-call.branch [
  | in-99 w ↦ lone_steps c.loop-at.invariant c.loop-at-test.true (lone_call (get_or c.args.s.now c.loop-at.at 0) (omega arith) (omega arith)) (w.now-is ∙ w.step_alone-now.ensures) w.at-is
  | in-115+in-Some+then-call-eq115 w ↦ part_steps c.loop-at.invariant c.loop-at-test.true (part-call _ w.in-115.is) w.part_at.ensures.value w.in-Some.is (step_start _ _ _ w.if-call-eq115.true (w.now-is ∙ w.start-now.ensures)) w.at-is
  | in-115+in-Some+else-call-eq115 w ↦ part_steps c.loop-at.invariant c.loop-at-test.true (part-call _ w.in-115.is) w.part_at.ensures.value w.in-Some.is (step-path _ _ _ w.if-call-eq115.false (w.now-is ∙ w.path-now.ensures)) w.at-is
]) (c.put_answer.ensures.value, c.put_answer.ensures.out_after) c.if-not-put_answer.false

pub returns : goal.returns
returns c = let t = script_done c.loop-at.invariant c.loop-at-test.false in record { value = t.0; out_after = t.1 }
