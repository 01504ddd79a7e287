-- `checker::read_body` meets its contract: each kind has its reader. Assumes nothing.

use Prim.Native.Nat.{ℕ, ◌≤◌}
use mathlib.Core.Path.{ap, ◌∙◌}
use native.Mathlib.Omega.{arith}
use Rattle.certificates.specs.Records.{body}
use Rattle.paths.specs.Items.{end_read}
use Rattle.graph.specs.Rows.{rows_graph}
use Rattle.build.specs.State.{build_body}
use Rattle.checker.proofs.Answers.{limited-open, kind-body_0, kind-body_1, kind-body_2, kind-body_3}
use Rattle.checker.proofs.read_body.Goals as goal

pub returns-in-0 : goal.returns-in-0
returns-in-0 c = let a = c.args in
    let g = rows_graph a.n a.rows.now in
    c.read_separation.ensures ∙ ap end_read (limited-open a.n (body g 0) a.s.now a.at c.requires) ∙ kind-body_0 g a.d a.s.now a.at a.k c.in-0.is

pub returns-in-1 : goal.returns-in-1
returns-in-1 c = let a = c.args in
    let g = rows_graph a.n a.rows.now in
    c.read_tree.ensures ∙ ap end_read (limited-open a.n (body g 1) a.s.now a.at c.requires) ∙ kind-body_1 g a.d a.s.now a.at a.k c.in-1.is

pub returns-in-2 : goal.returns-in-2
returns-in-2 c = let a = c.args in
    let g = rows_graph a.n a.rows.now in
    c.read_ears.ensures ∙ ap end_read (limited-open a.n (body g 2) a.s.now a.at c.requires) ∙ kind-body_2 g a.d a.s.now a.at a.k c.in-2.is

pub returns-in_default : goal.returns-in_default
returns-in_default c = let a = c.args in
    let g = rows_graph a.n a.rows.now in
    let h : 3 ≤ a.k = omega arith in
    c.read_build.ensures
    ∙ ap end_read (limited-open a.n (build_body g c.further_count.result) a.s.now a.at c.requires)
    ∙ ap (λ (count : ℕ). end_read (build_body g count a.s.now a.at)) c.further_count.ensures
    ∙ kind-body_3 g a.d a.s.now a.at a.k h
