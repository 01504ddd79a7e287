-- One call of a script, by its case; the fuel of a replay never runs out. Assumes nothing.
use Prim.Native.Nat.{ℕ, zero, suc, ◌+◌, ◌*◌, ◌<◌, ◌≤◌}
use mathlib.Core.List.{List}
use mathlib.Core.Bool.{Bool, true, false, cond, ◌||◌}
use mathlib.Core.Logic.{◌⊎◌, ⊎_elim, ◌≢◌}
use mathlib.Core.Path.{◌≡◌, refl, sym, ap, ◌∙◌}
use Rattle.std.specs.Prelude.{Option, Some, None}
use native.Mathlib.Omega.{arith}
use lib.Dec.{leb, eqb}
use lib.ListN.{length, get_or}
use borrow.Author.Tests.{le-leb, lt-leb, eq-eqb, ne_eqb}
use Rattle.record.specs.declared.Answer.{Answer}
use Rattle.sessions.specs.declared.Session.{Session}
use Rattle.sessions.specs.declared.Stepped.{Stepped}
use Rattle.sessions.specs.declared.Opened.{Opened}
use Rattle.sessions.specs.Session.{opening, start_step, path_step}
use Rattle.script.specs.declared.Replayed.{Replayed}
use Rattle.script.specs.Script.{part_at}
use Rattle.script.specs.Replay.{Reply, reply, has_room_for, with_answer, part_of, step_of, is_lone, lone_of, on_part, replay_on, opened, replay_of, status_of, status_number, replayed_of}
use Rattle.script.proofs.Parts.{part_within}
use Rattle.script.proofs.Answers.{Put, unput_same, put_room, put_after, put_length}

-- a call by its byte
module _ (call : ℕ) where
  pub lone_call : 98 ≤ call → call ≤ 99 → is_lone call ≡ true
  lone_call h i = ⊎_elim (λ (e : call ≡ 98). rw e) (λ (e : call ≡ 99). rw e) (search arith)

  pub part-call : (call ≡ 112) ⊎ (call ≡ 115) → (is_lone call ≡ false) × (eqb call 115 || eqb call 112 ≡ true)
  part-call = ⊎_elim (λ e. (rw e, rw e)) (λ e. (rw e, rw e))

  pub no_call : call ≢ 98 → call ≢ 99 → call ≢ 112 → call ≢ 115 → (is_lone call ≡ false) × (eqb call 115 || eqb call 112 ≡ false)
  no_call a b c d = (rw (ne_eqb call 99 b, ne_eqb call 98 a), rw (ne_eqb call 115 d, ne_eqb call 112 c))

-- what a replay does from a place on, the calls behind the next one left open
abbrev Rest : Type 0
Rest = Session → ℕ → List ℕ → ℕ → Reply

module _ (s : List ℕ) (session : Session) (at : ℕ) (buffer : List ℕ) (count : ℕ) where
  abbrev stepped : Rest → ℕ → ℕ → Reply
  stepped f start end =
      cond (has_room_for buffer count)
      (f (step_of (get_or s at 0) session (part_of s start end)).session end (with_answer buffer count (step_of (get_or s at 0) session (part_of s start end)).answer) (count + 1))
      (reply buffer count 3)

  abbrev called : Rest → Bool → Bool → Reply
  called f true known = cond (has_room_for buffer count)
      (f (lone_of (get_or s at 0) session).session (at + 1) (with_answer buffer count (lone_of (get_or s at 0) session).answer) (count + 1)) (reply buffer count 3)
  called f false true = on_part (part_at s (at + 1)) (reply buffer count 1) (stepped f)
  called f false false = reply buffer count 2

  abbrev turned : Rest → Reply
  turned f = cond (leb (length s) at) (reply buffer count 0) (called f (is_lone (get_or s at 0)) (eqb (get_or s at 0) 115 || eqb (get_or s at 0) 112))

  one_turn : (k : ℕ) → replay_on (suc k) s session at buffer count ≡ turned (replay_on k s)
  unfolding replay_on
  one_turn k = go (is_lone (get_or s at 0)) (eqb (get_or s at 0) 115 || eqb (get_or s at 0) 112)
    where
      go : (b c : Bool) → cond (leb (length s) at) (reply buffer count 0) (cond b
          (cond (has_room_for buffer count)
          (replay_on k s (lone_of (get_or s at 0) session).session (at + 1) (with_answer buffer count (lone_of (get_or s at 0) session).answer) (count + 1)) (reply buffer count 3))
          (cond c (on_part (part_at s (at + 1)) (reply buffer count 1) (stepped (replay_on k s))) (reply buffer count 2)))
          ≡ cond (leb (length s) at) (reply buffer count 0) (called (replay_on k s) b c)
      go true c = refl
      go false true = refl
      go false false = refl

  -- two rests that agree behind the place
  module _ (f g : Rest) (h : (x : Session) (e : ℕ) (b : List ℕ) (n : ℕ) → at < e → f x e b n ≡ g x e b n) where
    part_agrees : (p : Option (ℕ × ℕ)) → p ≡ part_at s (at + 1) → on_part p (reply buffer count 1) (stepped f) ≡ on_part p (reply buffer count 1) (stepped g)
    part_agrees None e = refl
    part_agrees (Some p) e =
        let w = part_within s (at + 1) e refl in
        ap (λ (r : Reply). cond (has_room_for buffer count) r (reply buffer count 3)) (h _ p.1 _ _ (omega arith))

    call_agrees : (b c : Bool) → called f b c ≡ called g b c
    call_agrees true c = ap (λ (r : Reply). cond (has_room_for buffer count) r (reply buffer count 3)) (h _ (at + 1) _ _ (omega arith))
    call_agrees false true = part_agrees (part_at s (at + 1)) refl
    call_agrees false false = refl

    turn_agrees : turned f ≡ turned g
    turn_agrees = ap (cond (leb (length s) at) (reply buffer count 0)) (call_agrees (is_lone (get_or s at 0)) (eqb (get_or s at 0) 115 || eqb (get_or s at 0) 112))

  -- a rest that ends in one of the four ways
  module _ (f : Rest) (h : (x : Session) (e : ℕ) (b : List ℕ) (n : ℕ) → (f x e b n).status ≤ 3) where
    room_ends : (x : Session) (e : ℕ) (b : List ℕ) (n : ℕ) (room : Bool) → (cond room (f x e b n) (reply buffer count 3)).status ≤ 3
    room_ends x e b n true = h x e b n
    room_ends x e b n false = omega arith

    part_ends : (p : Option (ℕ × ℕ)) → (on_part p (reply buffer count 1) (stepped f)).status ≤ 3
    part_ends None = omega arith
    part_ends (Some p) = room_ends _ _ _ _ (has_room_for buffer count)

    turn_ends : (over lone known : Bool) → (cond over (reply buffer count 0) (called f lone known)).status ≤ 3
    turn_ends true lone known = omega arith
    turn_ends false true known = room_ends _ _ _ _ (has_room_for buffer count)
    turn_ends false false true = part_ends (part_at s (at + 1))
    turn_ends false false false = omega arith

pub at_end : (k : ℕ) (s : List ℕ) (session : Session) (at : ℕ) (buffer : List ℕ) (count : ℕ) → length s ≤ at → replay_on k s session at buffer count ≡ reply buffer count 0
unfolding replay_on
at_end zero s session at buffer count h = refl
at_end (suc k) s session at buffer count h = rw (le-leb (length s) at h)

-- all fuels that are enough give the same
pub enough : (k j : ℕ) (s : List ℕ) (session : Session) (at : ℕ) (buffer : List ℕ) (count : ℕ) → length s ≤ at + k → length s ≤ at + j
    → replay_on k s session at buffer count ≡ replay_on j s session at buffer count
enough zero j s session at buffer count h i =
    let e : length s ≤ at = omega arith in at_end zero s session at buffer count e ∙ sym (at_end j s session at buffer count e)
enough (suc k) zero s session at buffer count h i =
    let e : length s ≤ at = omega arith in at_end (suc k) s session at buffer count e ∙ sym (at_end zero s session at buffer count e)
enough (suc k) (suc j) s session at buffer count h i =
    one_turn s session at buffer count k
    ∙ turn_agrees s session at buffer count (replay_on k s) (replay_on j s) (λ x e b n l. enough k j s x e b n (omega arith) (omega arith))
    ∙ sym (one_turn s session at buffer count j)

-- where the loop over the calls stands: the replay from here on is the whole one
pub record Replaying (s first : List ℕ) (whole : Reply) (session : Session) (at : ℕ) (buffer : List ℕ) (count : ℕ) : Type 0 where
  pub long : length buffer ≡ length first
  pub left : replay_on (length s) s session at buffer count ≡ whole

-- a call that steps to x: its answer is written, where it has room, and the replay goes on at next
pub record Steps (s : List ℕ) (session : Session) (at : ℕ) (buffer : List ℕ) (count : ℕ) (x : Stepped) (next : ℕ) : Type 0 where
  pub left : replay_on (length s) s session at buffer count
      ≡ cond (has_room_for buffer count) (replay_on (length s) s x.session next (with_answer buffer count x.answer) (count + 1)) (reply buffer count 3)

-- what the code answers where the replay ends
abbrev Told : Reply → List ℕ → ℕ → ℕ → Type 0
Told whole buffer count status = (record { count = count; status = status_of status } ≡ replayed_of whole) × (buffer ≡ whole.buffer)

told : {whole : Reply} {buffer : List ℕ} {count : ℕ} (status : ℕ) → whole ≡ reply buffer count status → Told whole buffer count status
told status e = (ap replayed_of (sym e), ap (λ (r : Reply). r.buffer) (sym e))

module _ {s first : List ℕ} {whole : Reply} {session : Session} {at : ℕ} {buffer : List ℕ} {count : ℕ} (p : Replaying s first whole session at buffer count) where
  ends : (status : ℕ) → replay_on (length s) s session at buffer count ≡ reply buffer count status → Told whole buffer count status
  ends status e = told status (sym p.left ∙ e)

  pub script_done : length s ≤ at → Told whole buffer count 0
  script_done h = ends 0 (at_end (length s) s session at buffer count h)

  pub has_room_lem : (a : Answer) {put : Bool} {out : List ℕ} → Put buffer count a put out → put ≡ true → 8 * count + 8 ≤ length first
  has_room_lem a q f = omega (arith, p.long, put_room buffer count a q f)

  module _ (h : at < length s) where
    any-call : {b c : Bool} → is_lone (get_or s at 0) ≡ b → eqb (get_or s at 0) 115 || eqb (get_or s at 0) 112 ≡ c
        → replay_on (length s) s session at buffer count ≡ called s session at buffer count (replay_on (length s) s) b c
    any-call e f =
        enough (length s) (suc (length s)) s session at buffer count (omega arith) (omega arith)
        ∙ one_turn s session at buffer count (length s)
        ∙ rw (lt-leb (length s) at h, e, f)

    pub call_unknown : (is_lone (get_or s at 0) ≡ false) × (eqb (get_or s at 0) 115 || eqb (get_or s at 0) 112 ≡ false) → Told whole buffer count 2
    call_unknown c = ends 2 (any-call c.0 c.1)

    pub lone_steps : is_lone (get_or s at 0) ≡ true → {x : Stepped} → x ≡ lone_of (get_or s at 0) session → {next : ℕ} → next ≡ at + 1
        → Steps s session at buffer count x next
    lone_steps c e n = record { left = rw (e, n) (any-call c refl) }

    module _ (c : (is_lone (get_or s at 0) ≡ false) × (eqb (get_or s at 0) 115 || eqb (get_or s at 0) 112 ≡ true)) {x : Option (ℕ × ℕ)} (e : x ≡ part_at s (at + 1)) where
      part_call : replay_on (length s) s session at buffer count ≡ on_part x (reply buffer count 1) (stepped s session at buffer count (replay_on (length s) s))
      part_call = any-call c.0 c.1 ∙ rw (← e)

      pub call_cut : x ≡ None → Told whole buffer count 1
      call_cut f = ends 1 (part_call ∙ rw f)

      pub part_steps : {start end : ℕ} → x ≡ Some (start, end) → {y : Stepped} → y ≡ step_of (get_or s at 0) session (part_of s start end) → {next : ℕ} → next ≡ end
          → Steps s session at buffer count y next
      part_steps w g n = record { left = rw (g, n) (part_call ∙ rw w) }

  module _ {x : Stepped} {next : ℕ} (t : Steps s session at buffer count x next) {put : Bool} {out : List ℕ} (q : Put buffer count x.answer put out) where
    pub step_full : put ≡ false → Told whole out count 3
    step_full f =
        let u = unput_same buffer count x.answer q f in
        rw u.1 (ends 3 (t.left ∙ rw u.0))

    pub step_answered : put ≡ true → Replaying s first whole x.session next out (count + 1)
    step_answered f =
        let u = put_after buffer count x.answer q f in
        record {
          long = put_length buffer count x.answer q f ∙ p.long;
          left = rw u.1 (sym (t.left ∙ rw u.0)) ∙ p.left;
        }

-- a start or a path, by the byte of the call
module _ (call : ℕ) (session : Session) (part : List ℕ) {x : Stepped} where
  pub step_start : call ≡ 115 → x ≡ start_step session part → x ≡ step_of call session part
  step_start c e = e ∙ sym (ap (λ (b : Bool). cond b (start_step session part) (path_step session part)) (eq-eqb call 115 c))

  pub step-path : (call ≡ 115 → ⊥) → x ≡ path_step session part → x ≡ step_of call session part
  step-path c e = e ∙ sym (ap (λ (b : Bool). cond b (start_step session part) (path_step session part)) (ne_eqb call 115 c))

-- the opening
module _ (s buffer : List ℕ) {x : Option (ℕ × ℕ)} (e : x ≡ part_at s 0) where
  on_part_lem : replay_of s buffer ≡ on_part x (reply buffer 0 1) (opened s buffer)
  on_part_lem = rw e

  pub opening-cut : x ≡ None → Told (replay_of s buffer) buffer 0 1
  opening-cut f = told 1 (on_part_lem ∙ rw f)

  module _ {start end : ℕ} (w : x ≡ Some (start, end)) {o : Opened} (g : o ≡ opening (part_of s start end))
      {put : Bool} {out : List ℕ} (q : Put buffer 0 o.answer put out) where
    pub opening-full : put ≡ false → Told (replay_of s buffer) out 0 3
    opening-full f =
        let u = unput_same buffer 0 o.answer q f in
        rw u.1 (told 3 (on_part_lem ∙ rw (w, u.0)))

    pub opening-answered : put ≡ true → {r : Replayed} {last : List ℕ}
        → (r ≡ replayed_of (replay_on (length s) s o.session end out 1)) × (last ≡ (replay_on (length s) s o.session end out 1).buffer)
        → (r ≡ replayed_of (replay_of s buffer)) × (last ≡ (replay_of s buffer).buffer)
    opening-answered f h =
        let u = put_after buffer 0 o.answer q f in
        let z : replay_on (length s) s o.session end out 1 ≡ replay_of s buffer = rw (u.1, g) (sym (on_part_lem ∙ rw (w, u.0))) in
        (h.0 ∙ ap replayed_of z, h.1 ∙ ap (λ (r : Reply). r.buffer) z)

-- a script ends in one of four ways, each of which has its number back
endings : (k : ℕ) (s : List ℕ) (session : Session) (at : ℕ) (buffer : List ℕ) (count : ℕ) → (replay_on k s session at buffer count).status ≤ 3
unfolding replay_on
endings zero s session at buffer count = omega arith
endings (suc k) s session at buffer count = rw (one_turn s session at buffer count k) (turn_ends s session at buffer count (replay_on k s) (endings k s) (leb (length s) at) (is_lone (get_or s at 0)) (eqb (get_or s at 0) 115 || eqb (get_or s at 0) 112))

pub status_back : (s buffer : List ℕ) → status_number (status_of (replay_of s buffer).status) ≡ (replay_of s buffer).status
status_back s buffer = back (replay_of s buffer).status (go (part_at s 0))
  where
    back : (n : ℕ) → n ≤ 3 → status_number (status_of n) ≡ n
    back zero h = refl
    back (suc zero) h = refl
    back (suc (suc zero)) h = refl
    back (suc (suc (suc n))) h = omega arith

    room : (r : Reply) → r.status ≤ 3 → (b : Bool) → (cond b r (reply buffer 0 3)).status ≤ 3
    room r h true = h
    room r h false = omega arith

    go : (p : Option (ℕ × ℕ)) → (on_part p (reply buffer 0 1) (opened s buffer)).status ≤ 3
    go None = omega arith
    go (Some p) = room _ (endings (length s) s _ _ _ _) (has_room_for buffer 0)
