-- `local::withstands` meets its contract: what is left of the path gives the answer. Assumes nothing.
use Rattle.std.proofs.Common.{◌≡◌, ℕ, ◌-◌, ◌∙◌, length}
use lib.ListN.{replicate, length-replicate}
use Rattle.search.specs.Code.{search_space}
use Rattle.local.proofs.Trying.{tried_other, try_first, try_on, try_fails, try_end, closed_off, found-last}
use Rattle.local.proofs.+withstands.Goals as goal

zeros-long : length {A = ℕ} (replicate search_space 0) ≡ search_space
zeros-long = length-replicate {A = ℕ} search_space 0

pub returns-then-r-ge-CAPACITY : goal.returns-then-r-ge-CAPACITY
returns-then-r-ge-CAPACITY t c =
    let a = c.args in
    closed_off (replicate search_space 0) zeros-long a.rows.now a.u a.v a.removed _ _ c.single.ensures c.single-2.ensures c.explore-r.ensures.value a.k c.if-r-ge-CAPACITY.true

pub returns-then-k-eq0 : goal.returns-then-k-eq0
returns-then-k-eq0 t c =
    let a = c.args in
    found-last (replicate search_space 0) zeros-long a.rows.now a.u a.v a.removed _ _ c.single.ensures c.single-2.ensures c.explore-r.ensures.value a.k
    c.if-r-ge-CAPACITY.false c.if-k-eq0.true

pub loop-c-init : goal.loop-c-init
loop-c-init t c =
    let a = c.args in
    try_first (replicate search_space 0) zeros-long a.rows.now a.u a.v a.removed _ _ c.single.ensures c.single-2.ensures c.explore-r.ensures.value a.k
    c.if-r-ge-CAPACITY.false c.if-k-eq0.false c.explore-r.ensures.space_after (c.as_slice-c-items.ensures.value ∙ c.route-path.ensures)

pub returns-then-not-withstands : goal.returns-then-not-withstands
returns-then-not-withstands t c =
    let a = c.args in
    try_fails c.loop-c.invariant c.loop-c-test.true
    (tried_other (a.k - 1) a.rows.now a.u a.v a.removed _ c.if-c-u.false c.if-c-v.false c.insert.ensures c.withstands.ensures ∙ c.if-not-withstands.true)

pub loop-c-preserved : goal.loop-c-preserved
loop-c-preserved t c =
    let a = c.args in
    try_on c.loop-c.invariant c.loop-c-test.true
    (tried_other (a.k - 1) a.rows.now a.u a.v a.removed _ c.if-c-u.false c.if-c-v.false c.insert.ensures c.withstands.ensures ∙ c.if-not-withstands.false)

pub returns : goal.returns
returns t c = try_end c.loop-c.invariant c.loop-c-test.false
