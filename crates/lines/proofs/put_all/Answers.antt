-- `lines::put_all` meets its contract. Assumes nothing.
use Rattle.std.proofs.Common.{ℕ, ◌+◌, ◌≤◌, List, [], ◌++◌, get_or, length, take, flat_map, arith, length-append, ap, Bor}
use Rattle.std.proofs.lemmas.List.Folds.{length-flat_map-take}
use Rattle.lines.proofs.Put.{unput, put_none, put_more, put_as}
use Rattle.lines.proofs.Parts.{parts_more, parts_all}
use Rattle.lines.proofs.put_all.Goals as goal

-- no part
abbrev none : Bor (List ℕ)
none = record { ref_ptr = (0, 0); now = [] }

abbrev bytes : Bor (List ℕ) → List ℕ
bytes part = part.now

pub returns-then-room-part : goal.returns-then-room-part
returns-then-room-part c =
    let a = c.args in
    let p = unput a.out.now a.at (flat_map bytes a.parts.now)
    (omega (arith, c.loop-part.invariant, c.if-room-part.true, length-flat_map-take bytes a.parts.now c.loop-part.part-index none c.loop-part-test.true)) in
    record { value = p.0; out_after = p.1 }

pub loop-part-preserved : goal.loop-part-preserved
loop-part-preserved c =
    let xs = c.args.parts.now in
    let i = c.loop-part.part-index in
    omega (arith, c.loop-part.invariant, c.if-room-part.false, ap length (parts_more bytes xs i none c.loop-part-test.true), length-append (flat_map bytes (take i xs)) (bytes (get_or xs i none)))

pub loop-part-2-init : goal.loop-part-2-init
loop-part-2-init c =
    let e = parts_all bytes c.args.parts.now c.loop-part.part-index c.loop-part-test.false in
    (omega (arith, c.loop-part.invariant, ap length e), put_none c.args.out.now c.args.at)

pub loop-part-2-preserved : goal.loop-part-2-preserved
loop-part-2-preserved c =
    let a = c.args in
    let v = c.loop-part-2.invariant in
    let i = c.loop-part-2.part-index in
    let p = c.put_bytes-next.ensures in
    let part = get_or a.parts.now i none in
    let e = length-flat_map-take bytes a.parts.now i none c.loop-part-2-test.true in
    let fits : a.at + length (flat_map bytes (take i a.parts.now) ++ part.now) ≤ length a.out.now = omega (arith, v.0, e, length-append (flat_map bytes (take i a.parts.now)) part.now) in
    (v.0, put_as a.out.now a.at (parts_more bytes a.parts.now i none c.loop-part-2-test.true) (put_more a.out.now a.at _ _ fits v.1 (p.value, p.out_after)))

pub returns : goal.returns
returns c =
    let p = put_as c.args.out.now c.args.at (parts_all bytes c.args.parts.now c.loop-part-2.part-index c.loop-part-2-test.false) c.loop-part-2.invariant.1 in
    record { value = p.0; out_after = p.1 }
