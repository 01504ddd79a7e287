-- What a write took is what comes next of the bytes.
use Rattle.std.proofs.Common.{◌≡◌, ◌+◌, ◌-◌, ◌≤◌, ◌++◌, length, take, drop, arith, sym, ap, ◌∙◌, subst}
use Rattle.std.proofs.lemmas.List.{take_rest, length-drop}
use Rattle.std.specs.Io.KnownBytes.{Appends}
use Rattle.std.proofs.KnownBytes.{Appends-trans}
use lib.Seq.{take-add}
use Rattle.streams.proofs.write_full.Goals as goal

pub loop-done-preserved-in-Ok : goal.loop-done-preserved-in-Ok
loop-done-preserved-in-Ok g c =
    let from = c.loop-done.done in
    let n = c.in-Ok.n in
    let bytes = c.args.bytes.now in
    let rest = take_rest bytes from in
    let fits : n ≤ length bytes - from = rw (take_rest bytes from, length-drop from bytes) at c.in-Ok.ensures.bound in
    let e : take from bytes ++ take n (take (length bytes - from) (drop from bytes)) ≡ take (from + n) bytes =
    ap (λ l. take from bytes ++ take n l) rest ∙ sym (take-add from n bytes) in
    (omega arith, subst (Appends _ _) e (Appends-trans _ _ _ _ _ c.loop-done.invariant.1 c.in-Ok.ensures.bytes))
