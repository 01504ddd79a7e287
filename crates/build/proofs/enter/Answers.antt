-- `build::enter` meets its contract: a path of two vertices has none inside. Assumes nothing.

use Rattle.build.proofs.Inner.{inner_some, before_short, entered-short, entered-long}
use Rattle.build.proofs.enter.Goals as goal

pub returns-then-x-lt3 : goal.returns-then-x-lt3
returns-then-x-lt3 c = let a = c.args in
    let short = c.if-x-lt3.true in
    record { build_after = entered-short c.requires a.sets a.pointers.now a.linked.now short c.join.ensures; before_value = before_short c.requires a.sets a.pointers.now a.linked.now short }

pub take_inner-requires : goal.take_inner-requires
take_inner-requires c = let a = c.args in
    record { path_at = c.requires.there; nonzero = inner_some c.requires a.sets a.pointers.now a.linked.now c.if-x-lt3.false }

pub returns : goal.returns
returns c = let t = c.take_inner.ensures in
    let a = c.args in
    record { build_after = entered-long c.requires a.sets a.pointers.now a.linked.now t.sets_value t.pointers_after c.join.ensures; before_value = t.before_value }
