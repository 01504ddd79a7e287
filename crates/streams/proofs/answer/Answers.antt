-- What is written is what is printed for the whole input, or a front of it: one byte more than the limit tells that the input is too long.
use Rattle.std.proofs.Common.{◌≡◌, ℕ, ◌<◌, ◌≤◌, List, length, arith}
use Rattle.std.proofs.lemmas.Result.{on_ok_weaker, on_err_weaker}
use Rattle.std.specs.Io.KnownBytes.{Appends}
use lib.ListN.{replicate, length-replicate}
use borrow.Author.Tests.{lt-ltb}
use Rattle.lines.specs.Lines.{too_long_line, input_limit, limited}
use Rattle.lines.proofs.Put.{Put, Begins, Puts.none, Puts.more, begins}
use Rattle.streams.specs.Front.{AppendsFront}
use Rattle.streams.proofs.Limit.{of_input}
use Rattle.streams.proofs.answer.Goals as goal

long : (f : List ℕ → List ℕ) (s : List ℕ) → input_limit < length s → limited f s ≡ too_long_line
long f s h = rw (lt-ltb input_limit (length s) h)

-- what stands at the start of a buffer of zeros that has room for it
said : (room : ℕ) (text : List ℕ) {next : ℕ} {out : List ℕ} → Put (replicate room 0) 0 text next out → length text ≤ room → Begins text next out
said room text p h = begins {buffer = replicate room 0} (more none text p) (omega (arith, h, length-replicate {A = ℕ} room 0))

pub whole_as_slice-print : goal.whole_as_slice-print
whole_as_slice-print g c = omega (arith, g.met.P.Printer.room)

pub shared_whole_as_front-write_full : goal.shared_whole_as_front-write_full
shared_whole_as_front-write_full g c =
    let p = c.print-len.ensures in
    let b = said g.row.ROOM _ (p.value, p.out_after) p.input_len_bound in
    (omega (arith, b.within, c.print-len.auto.out), omega (arith, g.met.P.Printer.room))

pub returns : goal.returns
returns g c =
    let p = c.print-len.ensures in
    let b = said g.row.ROOM _ (p.value, p.out_after) p.input_len_bound in
    let text = limited g.P.Printer.text in
    let front = c.in_ok-n.ensures.front in
    record {
      ok = on_ok_weaker _ (of_input input_limit text too_long_line (long g.P.Printer.text) _ _ front (Appends _ _) b.front) c.write_full.ensures.ok;
      err = on_err_weaker _ (of_input input_limit text too_long_line (long g.P.Printer.text) _ _ front (AppendsFront _ _) b.front) c.write_full.ensures.err;
    }
