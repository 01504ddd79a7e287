-- `script::part_at` meets its contract. Assumes nothing.

use Prim.Native.Nat.{◌+◌, ◌≤◌}
use mathlib.Core.Path.{◌≡◌, ◌∙◌}
use borrow.Author.Tests.{le-leb, lt-leb}
use native.Mathlib.Omega.{arith}
use lib.ListN.{length, get_or}
use borrow.Author.Rules.{rules}
use Rattle.script.specs.Script.{size_at, part_at}
use Rattle.script.proofs.part_at.Goals as goal

pub returns-in_err-low-clause-value : goal.returns-in_err-low-clause-value
unfolding part_at
returns-in_err-low-clause-value c = let a = c.args in
    c.from_residual.ensures ∙ rw (lt-leb (a.at + 2) (length a.s.now) (omega (arith, c.in_err-low.ensures.lookup)))

pub returns-in_err-high-clause-value : goal.returns-in_err-high-clause-value
unfolding part_at
returns-in_err-high-clause-value c = let a = c.args in
    c.from_residual-in_err-high.ensures ∙ rw (lt-leb (a.at + 2) (length a.s.now) (omega (arith, c.in_err-high.ensures.lookup)))

-- the two bytes of the length
pub returns-then-s-start-clause-value : goal.returns-then-s-start-clause-value
unfolding part_at
returns-then-s-start-clause-value c = let a = c.args in
    let low : c.in_ok-low.field-0.now ≡ get_or a.s.now a.at 0 = search rules in
    let high : c.in_ok-high.field-0.now ≡ get_or a.s.now (a.at + 1) 0 = search rules in
    let l : a.at + 2 ≤ length a.s.now = omega (arith, c.in_ok-high.ensures.lookup) in
    rw (le-leb (a.at + 2) (length a.s.now) l, lt-leb (a.at + 2 + size_at a.s.now a.at) (length a.s.now) (omega arith))

pub returns-clause-value : goal.returns-clause-value
unfolding part_at
returns-clause-value c = let a = c.args in
    let low : c.in_ok-low.field-0.now ≡ get_or a.s.now a.at 0 = search rules in
    let high : c.in_ok-high.field-0.now ≡ get_or a.s.now (a.at + 1) 0 = search rules in
    let l : a.at + 2 ≤ length a.s.now = omega (arith, c.in_ok-high.ensures.lookup) in
    rw (le-leb (a.at + 2) (length a.s.now) l, le-leb (a.at + 2 + size_at a.s.now a.at) (length a.s.now) (omega arith), low, high)
