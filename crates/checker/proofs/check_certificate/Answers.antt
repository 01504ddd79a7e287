-- `checker::check_certificate` meets its contract: the kind is read and tested, then the body is read. Assumes nothing.

use mathlib.Core.Path.{refl, sym, ap, ◌∙◌}
use borrow.Author.Tests.{lt-ltb, le-ltb}
use lib.ListN.{length}
use Rattle.graph.specs.Rows.{rows_graph}
use Rattle.record.proofs.Faults.{unread}
use Rattle.checker.specs.Code.{on_end}
use Rattle.checker.proofs.Answers.{kind-unread, kind-high, kind-few, kind-read}
use Rattle.checker.proofs.check_certificate.Goals as goal

pub returns-in_default : goal.returns-in_default
returns-in_default c = c.certificate_fault.ensures ∙ kind-unread _ _ _ (unread _ _ c.read_number-x.ensures c.in_default.not-Value)

pub returns-then-k-gt3 : goal.returns-then-k-gt3
returns-then-k-gt3 c = kind-high _ _ _ c.in-Value.ensures c.if-k-gt3.true

pub returns-then-not-enough : goal.returns-then-not-enough
returns-then-not-enough c = let a = c.args in
    kind-few (rows_graph a.n a.rows.now) a.d a.s.now c.in-Value.ensures c.if-k-gt3.false (sym c.if-not-enough.ensures)

pub returns-then-next-s : goal.returns-then-next-s
returns-then-next-s c = let a = c.args in
    rw (lt-ltb _ _ c.if-next-s.true) refl ∙ ap (on_end (length a.s.now) c.in-Value.k) c.in-Ok.ensures
    ∙ kind-read (rows_graph a.n a.rows.now) a.d a.s.now c.in-Value.ensures c.if-k-gt3.false (sym c.if-not-enough.ensures)

pub returns-else-next-s : goal.returns-else-next-s
returns-else-next-s c = let a = c.args in
    rw (le-ltb _ _ c.if-next-s.false) refl ∙ ap (on_end (length a.s.now) c.in-Value.k) c.in-Ok.ensures
    ∙ kind-read (rows_graph a.n a.rows.now) a.d a.s.now c.in-Value.ensures c.if-k-gt3.false (sym c.if-not-enough.ensures)

pub returns-in-Err : goal.returns-in-Err
returns-in-Err c = let a = c.args in
    ap (on_end (length a.s.now) c.in-Value.k) c.in-Err.ensures
    ∙ kind-read (rows_graph a.n a.rows.now) a.d a.s.now c.in-Value.ensures c.if-k-gt3.false (sym c.if-not-enough.ensures)
