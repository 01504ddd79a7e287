-- `certifier::lengthen` meets its contract: the places from i on are done. Assumes nothing.

use borrow.Author.Rules.{rules}
use Rattle.certifier.proofs.Written.{lengthen_start, lengthen_run, lengthen_stop, lengthen_on}
use Rattle.certifier.proofs.lengthen.Goals as goal

pub loop-i-init : goal.loop-i-init
loop-i-init c = lengthen_start _

pub loop-i-preserved-then-list-i-eq-CAPACITY : goal.loop-i-preserved-then-list-i-eq-CAPACITY
loop-i-preserved-then-list-i-eq-CAPACITY c = lengthen_stop _ c.loop-i.invariant c.loop-i-test.true c.if-list-i-eq-CAPACITY.true

pub overflow_add-k : goal.overflow_add-k
overflow_add-k c = let r = lengthen_run _ c.loop-i.invariant in search rules

pub loop-i-preserved : goal.loop-i-preserved
loop-i-preserved c = lengthen_on _ c.loop-i.invariant c.loop-i-test.true c.if-list-i-eq-CAPACITY.false
