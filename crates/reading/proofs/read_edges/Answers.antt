-- `reading::read_edges` meets its contract: what is left to read gives the same from here as from the start, and leads to the same rows.
-- Assumes nothing.

use Prim.Native.Nat.{ℕ, ◌+◌, ◌-◌, ◌<◌, ◌≤◌}
use mathlib.Core.List.{List}
use mathlib.Core.Path.{◌≡◌, refl, sym, ap, ◌∙◌}
use native.Mathlib.Omega.{arith}
use Rattle.reading.specs.Code.{key_of}
use Rattle.reading.proofs.EdgeTests.{key_same}
use borrow.Author.Tests.{eq-eqb, ne_eqb, lt-ltb}
use Rattle.std.proofs.lemmas.Result.{err_from_is_err_and}
use Rattle.vertexset.specs.Set.{capacity}
use Rattle.graph.specs.Rows.{joined}
use Rattle.reading.proofs.Doubles.{counted-most}
use Rattle.record.proofs.Loops.{turn_go, turn_stop, turn_done, led-go, led-stop, led-done}
use Rattle.reading.specs.Code.{edge_loop, edge_after, edge_joined, edges_in, counted_pair}
use Rattle.reading.proofs.Reading.{edge_got, edge-bad, edge-low}
use Rattle.reading.proofs.read_edges.Goals as goal
use Rattle.reading.proofs.read_edges.Goals.{then-key, else-key}

pub loop-init : goal.loop-init
loop-init c = let z : c.args.m - 0 ≡ c.args.m = omega arith in (rw z, rw z, omega arith, omega arith)

pub returns-in_err-u : goal.returns-in_err-u
unfolding edges_in
returns-in_err-u c = let l = c.loop in
    let a = c.args in
    let k = edge-bad _ c.in_err-u.ensures in
    let r = err_from_is_err_and c.from_residual.result c.from_residual.ensures.1 in record {
      value = rw (r.1, r.2, k.3) (turn_stop (edge_loop a.n a.m) a.s.now (a.m - l.counter) (omega arith) l.before (l.before, l.d) l.at k.2 ∙ l.invariant.0);
      rows_after = ap (λ (st : (ℕ × ℕ) × List ℕ). st.1) (led-stop (edge_after a.n) edge_joined a.s.now (a.m - l.counter) (l.before, l.rows) l.at k.2 ∙ l.invariant.1);
    }

pub loop-preserved : goal.loop-preserved
loop-preserved c = let l = c.loop in
    let a = c.args in
    let e : ℕ × ℕ = (c.in_ok-u.u, c.in_ok-u.v) in
    let k = edge_got _ c.in_ok-u.ensures in
    let b = edge-low _ _ _ _ k in
    let z : a.m - (l.counter + 1) ≡ a.m - l.counter - 1 = omega arith in
    let t : 0 < a.m - l.counter = omega (arith, c.loop-test.true) in
    let r : c.join.new.rows ≡ joined l.rows e = c.join.ensures ∙ rw (lt-ltb c.in_ok-u.u capacity (omega arith), lt-ltb c.in_ok-u.v capacity (omega arith)) in
    let d : c.if-key.d ≡ counted_pair l.before l.d e = elim c.if-key.branch [
      | then-key w ↦ rw (← key_same l.before e (omega (arith, l.invariant.3)) (omega arith), ne_eqb (key_of l.before) (key_of e) (λ z. w.if-key.true (c.key.ensures ∙ z ∙ sym c.key-in-loop.ensures))) w.d-is
      | else-key w ↦ rw (← key_same l.before e (omega (arith, l.invariant.3)) (omega arith), eq-eqb (key_of l.before) (key_of e) (sym c.key.ensures ∙ w.if-key.false ∙ c.key-in-loop.ensures)) w.d-is
    ] in
    rw z (
      turn_go (edge_loop a.n a.m) a.s.now (a.m - l.counter) t l.before (l.before, l.d) k refl (ap (λ (d : ℕ). (e, d)) d) ∙ l.invariant.0,
      led-go (edge_after a.n) edge_joined a.s.now (a.m - l.counter) t (l.before, l.rows) k (ap (λ (rows : List ℕ). (e, rows)) r) ∙ l.invariant.1,
      omega (arith, d, counted-most l.before l.d e, l.invariant.2),
      omega arith,
    )

pub returns : goal.returns
unfolding edges_in
returns c = let l = c.loop in
    let a = c.args in
    let z : a.m - l.counter ≤ 0 = omega arith in record {
      value = turn_done (edge_loop a.n a.m) a.s.now (a.m - l.counter) z l.before (l.before, l.d) l.at ∙ l.invariant.0;
      rows_after = ap (λ (st : (ℕ × ℕ) × List ℕ). st.1) (led-done (edge_after a.n) edge_joined a.s.now (a.m - l.counter) z (l.before, l.rows) l.at ∙ l.invariant.1);
    }
