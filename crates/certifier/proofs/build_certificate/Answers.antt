-- `certifier::build_certificate` meets its contract. Assumes nothing.

use mathlib.Core.Path.{◌≡◌, ap, ◌∙◌}
use native.Mathlib.Omega.{arith}
use lib.ListN.{length, length-take}
use borrow.Author.Rules.{rules}
use Rattle.construction.specs.Ears.{path_space}
use Rattle.certifier.specs.Code.{numbers_of}
use Rattle.certifier.proofs.Certifying.{build-cut, build-room, done_short, build-done}
use Rattle.certifier.proofs.build_certificate.Goals as goal

pub slice_bounds-build-end : goal.slice_bounds-build-end
slice_bounds-build-end c = let l : length c.args.s.now.flat ≡ path_space = search rules in
    omega (arith, c.requires)

pub returns-then-is_cut : goal.returns-then-is_cut
returns-then-is_cut c = let a = c.args in
    c.cut_certificate.ensures
    ∙ ap numbers_of (build-cut a.rows.now a.n a.full a.s.now c.requires c.build-b.ensures c.is_cut.ensures c.if-is_cut.true)

pub lengthen-requires : goal.lengthen-requires
lengthen-requires c = let a = c.args in
    let l : length c.build-b.result.flat ≡ path_space = search rules in
    let r = build-room a.rows.now a.n a.full a.s.now c.requires c.build-b.ensures c.is_cut.ensures c.if-is_cut.false l in
    omega (arith, r.1, length-take c.build-b.result.len c.build-b.result.flat)

pub build_numbers-requires : goal.build_numbers-requires
build_numbers-requires c = let a = c.args in
    let l : length c.build-b.result.flat ≡ path_space = search rules in
    done_short a.rows.now a.n a.full a.s.now c.requires c.build-b.ensures c.is_cut.ensures c.if-is_cut.false c.lengthen.ensures l

pub returns : goal.returns
returns c = let a = c.args in
    c.build_numbers.ensures
    ∙ ap numbers_of (build-done a.rows.now a.n a.full a.s.now c.requires c.build-b.ensures c.is_cut.ensures c.if-is_cut.false c.lengthen.ensures)
