-- `starting::six_links` meets its contract: one link after the other, at the front of the array. Assumes nothing.

use Rattle.starting.proofs.Links.{link-start, link-turn, six_start}
use Rattle.starting.proofs.six_links.Goals as goal

pub loop-u-init : goal.loop-u-init
loop-u-init c = link-start _ _ _

pub loop-u-preserved : goal.loop-u-preserved
loop-u-preserved c = link-turn _ _ _ c.loop-u.invariant c.loop-u-test.true _ c.add_link-len.ensures.flat_after c.add_link-len.ensures.value

pub returns : goal.returns
returns c = six_start c.args.table.now c.args.four c.ascending-p.ensures.p c.ascending-p.ensures.q c.ascending-p.ensures.r c.ascending-p.ensures.s c.loop-u.invariant c.loop-u-test.false
