-- `certifier::cut_certificate` meets its contract. Assumes nothing.

use mathlib.Core.Path.{◌≡◌, ap, ◌∙◌}
use mathlib.Core.List.{[]}
use lib.ListN.{length}
use borrow.Author.Rules.{rules}
use Rattle.construction.specs.Ears.{no_cut, path_space, eared, ears}
use Rattle.certifier.specs.Code.{numbers_of}
use Rattle.certifier.proofs.Certifying.{ears-low, few_removed, ears-fail, ears-stand}
use Rattle.certifier.proofs.cut_certificate.Goals as goal

pub cut_numbers-requires : goal.cut_numbers-requires
cut_numbers-requires c = let l : length c.no_ears.result.flat ≡ path_space = search rules in
    ears-low (eared [] 0 no_cut) c.no_ears.result c.no_ears.ensures l

pub returns-then-size-lt2 : goal.returns-then-size-lt2
returns-then-size-lt2 c = let a = c.args in
    c.cut_numbers.ensures ∙ ap numbers_of (few_removed a.rows.now a.full a.c c.size.ensures c.if-size-lt2.true c.no_ears.result c.no_ears.ensures)

pub cut_numbers-requires-then-is_cut : goal.cut_numbers-requires-then-is_cut
cut_numbers-requires-then-is_cut c = let l : length c.find_ears-e.result.flat ≡ path_space = search rules in
    ears-low (ears c.args.rows.now c.args.full) c.find_ears-e.result c.find_ears-e.ensures l

pub returns-then-is_cut : goal.returns-then-is_cut
returns-then-is_cut c = let a = c.args in
    c.cut_numbers-then-is_cut.ensures
    ∙ ap numbers_of
    (ears-fail a.rows.now a.full a.c c.size.ensures c.if-size-lt2.false c.find_ears-e.result c.find_ears-e.ensures c.is_cut.ensures c.if-is_cut.true)

pub cut_numbers-requires-2 : goal.cut_numbers-requires-2
cut_numbers-requires-2 c = let l : length c.find_ears-e.result.flat ≡ path_space = search rules in
    ears-low (ears c.args.rows.now c.args.full) c.find_ears-e.result c.find_ears-e.ensures l

pub returns : goal.returns
returns c = let a = c.args in
    c.cut_numbers-2.ensures
    ∙ ap numbers_of
    (ears-stand a.rows.now a.full a.c c.size.ensures c.if-size-lt2.false c.find_ears-e.result c.find_ears-e.ensures c.is_cut.ensures c.if-is_cut.false)
