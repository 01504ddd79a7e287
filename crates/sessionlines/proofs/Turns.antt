-- A turn by its case; every call moves on in the script, so no line is left out. Assumes nothing.
use Prim.Native.Nat.{ℕ, zero, suc, ◌+◌, ◌<◌, ◌≤◌}
use mathlib.Core.List.{List, [], ◌++◌}
use mathlib.Core.Bool.{Bool, true, false, cond, ◌||◌}
use mathlib.Core.Path.{◌≡◌, refl, sym, ap, subst, ◌∙◌}
use Rattle.std.specs.Prelude.{Option, Some, None}
use native.Mathlib.Omega.{arith}
use lib.Dec.{leb, eqb}
use lib.ListN.{length, get_or}
use borrow.Author.Tests.{lt-ltb, le-ltb, le-leb, lt-leb, leb-true, leb-false}
use Rattle.sessions.specs.declared.Session.{Session}
use Rattle.sessions.specs.declared.Opened.{Opened}
use Rattle.sessions.specs.declared.Stepped.{Stepped}
use Rattle.sessions.specs.Session.{no_session, opening}
use Rattle.script.specs.Script.{part_at}
use Rattle.script.specs.Replay.{on_part, part_of, step_of, is_lone, lone_of}
use Rattle.script.proofs.Parts.{part_within}
use Rattle.lines.specs.Lines.{too_long_line, written, longest}
use Rattle.lines.proofs.Put.{Lined}
use Rattle.sessionlines.specs.declared.Turn.{Turn}
use Rattle.sessionlines.specs.Lines.{script_limit, Printed, printed, cut_short, unknown_call, answer_line, step_turn, open_turn, call_turn, turn_in, lines_from}

-- what the code answers to a turn, and the buffer then; LONGEST bytes are enough for the line
abbrev pub Said : List ℕ → Printed → Turn → List ℕ → Type 0
Said buffer t r out = (r ≡ turn_in buffer t) × ((out ≡ written buffer 0 t.bytes) × (length t.bytes ≤ longest))

module _ (buffer : List ℕ) where
  pub said : (bytes : List ℕ) (session : Session) (at : ℕ) {len : ℕ} {out : List ℕ} → Lined buffer 0 bytes len out
      → Said buffer (printed bytes session at) (record { session = session; at = at; len = len }) out
  said bytes session at p = (ap (λ (n : ℕ). record { session = session; at = at; len = n }) p.0, p.1)

  pub said_as : {t u : Printed} → t ≡ u → {r : Turn} {out : List ℕ} → Said buffer t r out → Said buffer u r out
  said_as e {r} {out} p = subst (λ (u : Printed). Said buffer u r out) e p

  pub said_lined : (t : Printed) {r : Turn} {out : List ℕ} → Said buffer t r out → Lined buffer 0 t.bytes r.len out
  said_lined t p = (ap (λ (r : Turn). r.len) p.0, p.1)

-- the opening
module _ (s : List ℕ) where
  pub open_long : script_limit < length s → {n : Session} → n ≡ no_session → printed too_long_line n (length s) ≡ open_turn s
  unfolding open_turn
  open_long h e = rw (lt-ltb script_limit (length s) h, e)

  module _ (h : length s ≤ script_limit) {x : Option (ℕ × ℕ)} (e : x ≡ part_at s 0) where
    pub open_cut : x ≡ None → {n : Session} → n ≡ no_session → printed cut_short n (length s) ≡ open_turn s
    unfolding open_turn
    open_cut f g = rw (le-ltb script_limit (length s) h, ← e, f, g)

    pub open_part : {start end : ℕ} → x ≡ Some (start, end) → {o : Opened} → o ≡ opening (part_of s start end) → printed (answer_line o.answer) o.session end ≡ open_turn s
    unfolding open_turn
    open_part f g = rw (le-ltb script_limit (length s) h, ← e, f, g)

-- a call
module _ (s : List ℕ) (session : Session) (at : ℕ) where
  pub call_none : length s ≤ at → printed [] session at ≡ call_turn s session at
  unfolding call_turn
  call_none h = rw (le-leb (length s) at h)

  module _ (h : at < length s) where
    pub call_lone : is_lone (get_or s at 0) ≡ true → {x : Stepped} → x ≡ lone_of (get_or s at 0) session → printed (answer_line x.answer) x.session (at + 1) ≡ call_turn s session at
    unfolding call_turn
    call_lone c e = rw (lt-leb (length s) at h, c, e)

    pub call_unknown : (is_lone (get_or s at 0) ≡ false) × (eqb (get_or s at 0) 115 || eqb (get_or s at 0) 112 ≡ false) → printed unknown_call session (length s) ≡ call_turn s session at
    unfolding call_turn
    call_unknown c = rw (lt-leb (length s) at h, c.0, c.1)

    module _ (c : (is_lone (get_or s at 0) ≡ false) × (eqb (get_or s at 0) 115 || eqb (get_or s at 0) 112 ≡ true)) {x : Option (ℕ × ℕ)} (e : x ≡ part_at s (at + 1)) where
      pub call_cut : x ≡ None → printed cut_short session (length s) ≡ call_turn s session at
      unfolding call_turn
      call_cut f = rw (lt-leb (length s) at h, c.0, c.1, ← e, f)

      pub call_part : {start end : ℕ} → x ≡ Some (start, end) → step_turn (step_of (get_or s at 0) session (part_of s start end)) start end ≡ call_turn s session at
      unfolding call_turn
      call_part f = rw (lt-leb (length s) at h, c.0, c.1, ← e, f)

    pub call_on : at < (call_turn s session at).at
    unfolding call_turn
    call_on = rw (lt-leb (length s) at h) (go (is_lone (get_or s at 0)) (eqb (get_or s at 0) 115 || eqb (get_or s at 0) 112))
      where
        parted : (x : Option (ℕ × ℕ)) → x ≡ part_at s (at + 1)
            → at < (on_part x (printed cut_short session (length s)) (λ start end. step_turn (step_of (get_or s at 0) session (part_of s start end)) start end)).at
        parted None e = h
        parted (Some p) e = let w = part_within s (at + 1) e refl in omega arith

        go : (b d : Bool) → at < (cond b (printed (answer_line (lone_of (get_or s at 0) session).answer) (lone_of (get_or s at 0) session).session (at + 1))
            (cond d (on_part (part_at s (at + 1)) (printed cut_short session (length s)) (λ start end. step_turn (step_of (get_or s at 0) session (part_of s start end)) start end))
            (printed unknown_call session (length s)))).at
        go true d = omega arith
        go false true = parted (part_at s (at + 1)) refl
        go false false = h

-- at the script's end nothing more is printed
pub lines_ended : (k : ℕ) (s : List ℕ) (session : Session) (at : ℕ) → length s ≤ at → lines_from k s session at ≡ []
unfolding lines_from
lines_ended zero s session at h = refl
lines_ended (suc k) s session at h = rw (← call_none s session at h) (lines_ended k s session at h)

one_turn : (k : ℕ) (s : List ℕ) (session : Session) (at : ℕ)
    → lines_from (suc k) s session at ≡ (call_turn s session at).bytes ++ lines_from k s (call_turn s session at).session (call_turn s session at).at
unfolding lines_from
one_turn k s session at = refl

-- as many turns as there are bytes left are enough: more print the same
pub lines_enough : (k j : ℕ) (s : List ℕ) (session : Session) (at : ℕ) → length s ≤ at + k → length s ≤ at + j → lines_from k s session at ≡ lines_from j s session at
lines_enough zero j s session at h i = let e : length s ≤ at = omega arith in lines_ended zero s session at e ∙ sym (lines_ended j s session at e)
lines_enough (suc k) zero s session at h i = let e : length s ≤ at = omega arith in lines_ended (suc k) s session at e ∙ sym (lines_ended zero s session at e)
lines_enough (suc k) (suc j) s session at h i = go (leb (length s) at) refl (λ m. lines_enough k j s (call_turn s session at).session (call_turn s session at).at (omega (arith, h, m)) (omega (arith, i, m)))
  where
    next : ℕ → List ℕ
    next f = lines_from f s (call_turn s session at).session (call_turn s session at).at

    go : (b : Bool) → leb (length s) at ≡ b → (at < (call_turn s session at).at → next k ≡ next j) → lines_from (suc k) s session at ≡ lines_from (suc j) s session at
    go true e r =
        let l : length s ≤ at = leb-true (length s) at e in
        lines_ended (suc k) s session at l ∙ sym (lines_ended (suc j) s session at l)
    go false e r =
        one_turn k s session at
        ∙ ap (λ (l : List ℕ). (call_turn s session at).bytes ++ l) (r (call_on s session at (leb-false (length s) at e)))
        ∙ sym (one_turn j s session at)
