-- `certifier::certificate` meets its contract. Assumes nothing.

use mathlib.Core.Path.{◌≡◌, ap, ◌∙◌}
use lib.ListN.{length, replicate}
use borrow.Author.Rules.{rules}
use Rattle.search.specs.Code.{search_space}
use Rattle.construction.specs.Ears.{path_space}
use Rattle.construction.specs.Start as construction
use Rattle.certifier.specs.Code.{numbers_of}
use Rattle.certifier.proofs.Tree.{tree_is}
use Rattle.certifier.proofs.Certifying.{start-low}
use Rattle.certifier.proofs.Certificates.{whole_apart, whole_cut, whole_built}
use Rattle.certifier.proofs.certificate.Goals as goal

pub returns-then-not-is_empty : goal.returns-then-not-is_empty
returns-then-not-is_empty c = let a = c.args in
    let t = tree_is a.rows.now (replicate search_space 0) (search rules) c.single.ensures c.empty.ensures c.empty-2.ensures c.explore-tree.ensures.value in
    c.cut_certificate.ensures ∙ ap numbers_of
    (whole_apart a.rows.now a.n c.below-full.ensures t c.minus.ensures c.is_empty.ensures c.if-not-is_empty.true-raw c.empty-then-not-is_empty.ensures)

pub build_certificate-requires : goal.build_certificate-requires
build_certificate-requires c = let l : length c.in-Ok.s.flat ≡ path_space = search rules in
    start-low (construction.begin c.args.rows.now) c.in-Ok.ensures l

pub returns-in-Ok : goal.returns-in-Ok
returns-in-Ok c = let a = c.args in
    let t = tree_is a.rows.now (replicate search_space 0) (search rules) c.single.ensures c.empty.ensures c.empty-2.ensures c.explore-tree.ensures.value in
    c.build_certificate.ensures ∙ ap numbers_of (whole_built a.rows.now a.n c.below-full.ensures t c.minus.ensures c.is_empty.ensures c.if-not-is_empty.false-raw c.in-Ok.ensures)

pub returns-in-Err : goal.returns-in-Err
returns-in-Err c = let a = c.args in
    let t = tree_is a.rows.now (replicate search_space 0) (search rules) c.single.ensures c.empty.ensures c.empty-2.ensures c.explore-tree.ensures.value in
    c.cut_certificate-in-Err.ensures ∙ ap numbers_of (whole_cut a.rows.now a.n c.below-full.ensures t c.minus.ensures c.is_empty.ensures c.if-not-is_empty.false-raw c.in-Err.ensures)
