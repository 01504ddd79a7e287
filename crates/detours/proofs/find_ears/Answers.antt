-- `detours::find_ears` meets its contract. Assumes nothing.

use Prim.Native.Nat.{ℕ}
use mathlib.Core.Path.{◌≡◌, ap, ◌∙◌}
use lib.ListN.{length, replicate, length-replicate}
use Rattle.search.specs.Code.{search_space}
use Rattle.detours.specs.Code.{ears_of}
use Rattle.detours.proofs.Answered.{cycle-settled}
use Rattle.detours.proofs.Earing.{ears_from, first_cut, first_on}
use Rattle.detours.proofs.find_ears.Goals as goal

pub returns-in-Ok : goal.returns-in-Ok
returns-in-Ok c = let a = c.args in
    let z : length {A = ℕ} (replicate search_space 0) ≡ search_space = length-replicate {A = ℕ} search_space 0 in
    c.more_ears.ensures
    ∙ ap ears_of (ap (ears_from a.rows.now a.full) c.as_slice.ensures.value ∙ first_on a.rows.now a.full (cycle-settled (replicate search_space 0) z a.rows.now c.cycle.ensures.value c.in-Ok.ensures))

pub returns-in-Err : goal.returns-in-Err
returns-in-Err c = let a = c.args in
    let z : length {A = ℕ} (replicate search_space 0) ≡ search_space = length-replicate {A = ℕ} search_space 0 in
    c.ears_of.ensures ∙ ap ears_of (first_cut a.rows.now a.full (cycle-settled (replicate search_space 0) z a.rows.now c.cycle.ensures.value c.in-Err.ensures))
