-- `stepping::out_step` meets its contract. Assumes nothing.

use borrow.Author.Rules.{rules}
use Rattle.detours.proofs.Answered.{detour-settled}
use Rattle.stepping.proofs.Stepping.{out_done, out_stops, out_reroutes, out_extends}
use Rattle.stepping.proofs.out_step.Goals as goal

pub returns-then-is_empty : goal.returns-then-is_empty
returns-then-is_empty c = let a = c.args in
    out_done a.rows.now a.full a.flat.now a.b c.requires c.minus.ensures c.is_empty.ensures c.if-is_empty.true
    c.none.ensures c.stopped.ensures

pub returns-in-Err : goal.returns-in-Err
returns-in-Err c = let a = c.args in
    out_stops a.rows.now a.full a.flat.now a.b c.requires c.minus.ensures c.is_empty.ensures c.if-is_empty.false
    (detour-settled a.space.now (search rules) a.rows.now a.b.near a.b.built c.detour.ensures.value c.in-Err.ensures) c.stopped-in-Err.ensures

pub returns-then-k-b : goal.returns-then-k-b
returns-then-k-b c = let a = c.args in
    out_reroutes a.rows.now a.full a.flat.now a.b c.requires c.minus.ensures c.is_empty.ensures c.if-is_empty.false
    (detour-settled a.space.now (search rules) a.rows.now a.b.near a.b.built c.detour.ensures.value c.in-Ok.ensures) c.as_slice-path.ensures.value
    c.last_of.ensures c.number_at.ensures c.beside-k.ensures c.if-k-b.true c.reroute.ensures

pub returns : goal.returns
returns c = let a = c.args in
    out_extends a.rows.now a.full a.flat.now a.b c.requires c.minus.ensures c.is_empty.ensures c.if-is_empty.false
    (detour-settled a.space.now (search rules) a.rows.now a.b.near a.b.built c.detour.ensures.value c.in-Ok.ensures) c.as_slice-path.ensures.value
    c.last_of.ensures c.number_at.ensures c.beside-k.ensures c.if-k-b.false c.extend.ensures
