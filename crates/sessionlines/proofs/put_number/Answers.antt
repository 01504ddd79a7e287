-- `sessionlines::put_number` meets its contract. Assumes nothing.
use Prim.Native.Nat.{ℕ, ◌^◌, ◌<◌}
use mathlib.Core.List.{List, ◌++◌, append_assoc}
use mathlib.Core.Path.{sym}
use lib.ListN.{replicate, length-append}
use native.Mathlib.Omega.{arith}
use Rattle.lines.specs.Lines.{decimal, newline}
use Rattle.lines.proofs.Digits.{decimal-short}
use Rattle.lines.proofs.Put.{Put, Puts.none, Puts.more, Begins, begins, put_as}
use Rattle.sessionlines.proofs.put_number.Goals as goal

-- the number and the line's end in a buffer of their own
text : (n : ℕ) {a end : ℕ} {mid last : List ℕ} → n < 2 ^ 64 → Put (replicate 21 0) 0 (decimal n) a mid → Put mid a newline end last → Begins (decimal n ++ newline) end last
text n h p q =
    let d = decimal-short 19 n (omega arith) in
    begins {buffer = replicate 21 0} (more (more none (decimal n) p) newline q) (omega (arith, d, length-append (decimal n) newline))

pub slice_bounds-text-end : goal.slice_bounds-text-end
slice_bounds-text-end c =
    let p = c.put_decimal-a.ensures in
    let q = c.put_bytes-end.ensures in
    (text c.args.n (omega (arith, c.ranges)) (p.value, p.out_after) (q.value, q.out_after)).within

pub returns : goal.returns
returns c =
    let a = c.args in
    let p = c.put_decimal-a.ensures in
    let q = c.put_bytes-end.ensures in
    let b = text a.n (omega (arith, c.ranges)) (p.value, p.out_after) (q.value, q.out_after) in
    let d = decimal-short 19 a.n (omega (arith, c.ranges)) in
    let t = c.put_both.ensures in
    let s = put_as a.out.now 0 (sym (append_assoc a.label.now (decimal a.n) newline)) (rw b.front at t.value, rw b.front at t.out_after) in
    record {
      value = s.0;
      out_after = s.1;
      newline_len_bound = omega (arith, d, length-append (a.label.now ++ decimal a.n) newline, length-append a.label.now (decimal a.n));
    }
