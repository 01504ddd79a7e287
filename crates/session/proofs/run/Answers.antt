-- Every call moves on in the script, and what is written is what the script prints, or a front of it where a read or a write fails. Assumes nothing.
use Rattle.std.proofs.Common.{◌≡◌, ℕ, zero, suc, ◌<◌, List, [], ◌++◌, replicate, length, take, le_refl, refl, arith, sym, ap, ◌∙◌, append_assoc, append-nil}
use Rattle.std.specs.Io.KnownBytes.{Appends}
use Rattle.std.proofs.KnownBytes.{Appends-nil, Appends-trans}
use Rattle.streams.specs.Front.{AppendsFront}
use Rattle.streams.proofs.Front.{front_none, front_behind, on_err}
use Rattle.streams.proofs.Limit.{of_input}
use Rattle.sessions.specs.declared.Session.{Session}
use Rattle.sessions.specs.Session.{no_session}
use Rattle.lines.specs.Lines.{too_long_line, longest}
use Rattle.lines.proofs.Put.{put_length, lined_begins}
use Rattle.sessionlines.specs.declared.Turn.{Turn}
use Rattle.sessionlines.specs.Lines.{script_limit, open_turn, call_turn, lines_from, script_lines}
use Rattle.sessionlines.proofs.Turns.{said_lined, open_long, call_on, lines_enough, lines_ended}
use Rattle.session.proofs.run.Goals as goal

-- a turn, and the lines of the turns after it
one_more : (n : ℕ) (s : List ℕ) (session : Session) (at : ℕ) → length s ≡ n → at < n
    → lines_from n s session at ≡ (call_turn s session at).bytes ++ lines_from n s (call_turn s session at).session (call_turn s session at).at
unfolding lines_from
one_more zero s session at l h = absurd (omega arith)
one_more (suc k) s session at l h =
    let m = call_on s session at (omega arith) in
    ap (λ x. (call_turn s session at).bytes ++ x) (lines_enough k (suc k) s (call_turn s session at).session (call_turn s session at).at (omega arith) (omega arith))

-- a script that is too long prints that line, and nothing more
too_long : (s : List ℕ) → script_limit < length s → script_lines s ≡ too_long_line
too_long s h = rw (← open_long s h {n = no_session} refl) (ap (λ x. too_long_line ++ x) (lines_ended (length s) s no_session (length s) (le_refl _)) ∙ append-nil too_long_line)

pub loop-turn-smaller : goal.loop-turn-smaller
loop-turn-smaller g c =
    let k = c.loop-turn.turn in
    let s = take c.in_ok-n.n c.read_full.new.buf in
    let l : length s ≡ c.in_ok-n.n = sym c.in_ok-n.ensures.bound.1 in
    let m = call_on s k.session k.at (omega arith) in
    omega (arith, m, ap (λ (x : Turn). x.at) c.call-turn.ensures.value)

pub loop-turn-preserved : goal.loop-turn-preserved
loop-turn-preserved g c =
    let (long, done, wrote, rest) = c.loop-turn.invariant in
    let k = c.loop-turn.turn in
    let n = c.in_ok-n.n in
    let s = take n c.read_full.new.buf in
    let l : length s ≡ n = sym c.in_ok-n.ensures.bound.1 in
    let t = call_turn s k.session k.at in
    let e = c.call-turn.ensures in
    let p = said_lined c.loop-turn.out t (e.value, (e.out_after, e.at_len_bound)) in
    let b = lined_begins c.loop-turn.out t.bytes (omega arith) p in (
      put_length c.loop-turn.out 0 t.bytes (p.0, p.1.0) ∙ long,
      done ++ t.bytes,
      Appends-trans _ _ _ _ _ wrote (rw b.front at c.in_ok-write_full-2.ensures.ok),
      rw e.value (rest ∙ ap (λ x. done ++ x) (one_more n s k.session k.at l c.loop-turn-test.true) ∙ sym (append_assoc done t.bytes _)),
    )

pub returns-clause-ok : goal.returns-clause-ok
returns-clause-ok g c =
    let (long, done, wrote, rest) = c.loop-turn.invariant in
    let k = c.loop-turn.turn in
    let n = c.in_ok-n.n in
    let s = take n c.read_full.new.buf in
    let l : length s ≡ n = sym c.in_ok-n.ensures.bound.1 in
    let all : done ≡ script_lines s = sym (rest ∙ ap (λ x. done ++ x) (lines_ended n s k.session k.at (omega arith)) ∙ append-nil done) in
    of_input script_limit script_lines too_long_line too_long _ s c.in_ok-n.ensures.front (Appends _ _) all wrote

-- nothing was written
pub returns-in_err-n-clause-err : goal.returns-in_err-n-clause-err
returns-in_err-n-clause-err g c = on_err _ (front_none (g.R.Read.remaining c.args.reader.now) (g.W.Write.contents c.args.writer.now) script_lines)

-- a front of the opening's line
pub returns-in_err-write_full-clause-err : goal.returns-in_err-write_full-clause-err
returns-in_err-write_full-clause-err g c =
    let n = c.in_ok-n.n in
    let s = take n c.read_full.new.buf in
    let t = open_turn s in
    let e = c.open-turn.ensures in
    let p = said_lined (replicate longest 0) t (e.value, (e.out_after, e.script_len_bound)) in
    let b = lined_begins (replicate longest 0) t.bytes (le_refl _) p in
    let before = g.W.Write.contents c.args.writer.now in
    let front : AppendsFront before _ t.bytes = rw b.front at c.in_err-write_full.ensures.err in
    on_err _ (of_input script_limit script_lines too_long_line too_long _ s c.in_ok-n.ensures.front (AppendsFront before _) refl
    (front_behind before before _ [] t.bytes _ (script_lines s) (Appends-nil before) front refl))

-- the lines before, and a front of the next one
pub returns-in_err-write_full-2-clause-err : goal.returns-in_err-write_full-2-clause-err
returns-in_err-write_full-2-clause-err g c =
    let (long, done, wrote, rest) = c.loop-turn.invariant in
    let k = c.loop-turn.turn in
    let n = c.in_ok-n.n in
    let s = take n c.read_full.new.buf in
    let l : length s ≡ n = sym c.in_ok-n.ensures.bound.1 in
    let t = call_turn s k.session k.at in
    let e = c.call-turn.ensures in
    let p = said_lined c.loop-turn.out t (e.value, (e.out_after, e.at_len_bound)) in
    let b = lined_begins c.loop-turn.out t.bytes (omega arith) p in
    let front : AppendsFront _ _ t.bytes = rw b.front at c.in_err-write_full-2.ensures.err in
    let all = rest ∙ ap (λ x. done ++ x) (one_more n s k.session k.at l c.loop-turn-test.true) in
    on_err _ (of_input script_limit script_lines too_long_line too_long _ s c.in_ok-n.ensures.front (AppendsFront _ _) refl
    (front_behind _ _ _ done t.bytes _ (script_lines s) wrote front all))
