-- THE EXPORTS: an accepted plan is written again, a word stands for its answer, every answer of an exported function fits, those of a script among them, lengths and counts are
-- read from their words, and a grade in a word is the figure of the plan. Assumes nothing.
use Prim.Native.Nat.{ℕ, zero, suc, ◌+◌, ◌*◌, ◌-◌, ◌/◌, ◌%◌, ◌≤◌, ◌<◌, ◌^◌, min}
use mathlib.Core.List.{List, [], ◌∷◌, ◌++◌, append_assoc}
use mathlib.Core.Bool.{Bool, true, false, cond, ◌||◌, and-false}
use mathlib.Core.Path.{◌≡◌, refl, sym, ap, ◌∙◌, subst}
use mathlib.Core.Logic.{⊎_elim}
use native.Mathlib.Nat.{pow-suc}
use Rattle.std.specs.Prelude.{Option, Some, None}
use native.Mathlib.Omega.{arith}
use lib.Dec.{leb, ltb, eqb}
use lib.ListN.{length, get_or, take, drop, length-take, length-drop, get_or-eq_default}
use lib.Seq.{get_or-take, get_or-drop, take_at, drop-drop, drop_at}
use borrow.Author.Tests.{ltb-true, ltb-false, lt-leb}
use Rattle.record.specs.Read.{Read, Read.Got, Read.Refused, Bytes, ended}
use Rattle.record.specs.Number.{list_bytes}
use Rattle.record.specs.declared.Answer.{Answer}
use Rattle.record.specs.declared.Answer.TheVariants.{Accepted, Grade, PlanFault, CertificateFault}
use Rattle.record.proofs.Laws.{ended-there}
use Rattle.connectivity.specs.Lists.{In, all}
use Rattle.connectivity.proofs.Lists.{all_true}
use Rattle.reading.specs.Plan.{Plan, plan, plan_bytes}
use Rattle.reading.specs.Code.{table_of, plan_read, whole_plan}
use Rattle.reading.proofs.Plans.{plan-law}
use Rattle.certifier.specs.declared.Made.{Made}
use Rattle.certifier.specs.Made.{certificate_room, length_from, made_from}
use Rattle.checker.specs.Check.{check_of}
use Rattle.graph.specs.Rows.{rows_graph}
use Rattle.paths.specs.Items.{limited}
use Rattle.build.specs.State.{build_start, build_path}
use Rattle.sessions.specs.declared.Session.{Session}
use Rattle.sessions.specs.declared.Opened.{Opened}
use Rattle.sessions.specs.declared.Stepped.{Stepped}
use Rattle.sessions.specs.Session.{opening, start_step, path_step, back_step, close_step, on_start, on_path, is_due, refused_step}
use Rattle.sessions.proofs.Calls.{back_either}
use Rattle.script.specs.Script.{part_at}
use Rattle.script.specs.Replay.{word, answer_word, word_bytes, answer_bytes, part_of, is_lone, replay_of}
use Rattle.script.proofs.Answers.{word-length}
use Rattle.writing.specs.Write.{with_plan}
use Rattle.writing.proofs.RoundTrip.{planned, record_again}
use Rattle.fikzarn.specs.Words.{rewritten, grade_word, made_word}
use Rattle.claims.specs.Certified.{HasFigure}
use Rattle.claims.specs.Calls.{Call, Call.start, Call.path, Call.back, Call.close, CallBytes, session_after}
use Rattle.claims.specs.Answers as listed
use Rattle.claims.specs.Answers.{Answers, OneOf}
use Rattle.claims.specs.Exports.{in_word, decoded, Fits, word_of, word_at, on_part_calls, calls_from, answers_of, script_answers}
use Rattle.claims.specs.Demands.{PlansAgain, WordsDecode, WordsAreAnswers, GradesInWords, AcceptedGrade, AcceptedGrade.checked, AcceptedGrade.made-for, AcceptedGrade.measured, AcceptedGrade.closed_on}
use Rattle.claims.proofs.Sessions.{Opens, Opens.refused, Opens.accepted, opens}
use Rattle.certifier.proofs.Room.{made-room, made_none, by_room}
use Rattle.certifier.proofs.Drafts.{length_most}
use Rattle.claims.proofs.Demands.{grade-is_figure}
use Rattle.claims.proofs.Answers.{demand1_answers}
use Rattle.claims.proofs.Scripts.{scripts_replay, replay_bounded}

-- AN ACCEPTED PLAN is written again where it has room
no_room : (p : Plan) (buffer : List ℕ) → length buffer < length (plan_bytes p) → with_plan buffer (table_of p) ≡ buffer
no_room p buffer h =
    let l : length buffer < 0 + length (plan_bytes p) = omega arith in
    rw (planned p, lt-leb (0 + length (plan_bytes p)) (length buffer) l, and-false, and-false, and-false)

pub plans_again : PlansAgain
unfolding plan_read
plans_again P bytes buffer = record {
  written = λ e room. ap (λ (a : Answer). rewritten a buffer (with_plan buffer (whole_plan P).plan)) e ∙ (record_again P bytes e buffer room).1;
  too_short = short (ended plan P 0) refl;
  refused = refused (ended plan P 0);
}
  where
    short : (x : Read Plan) → ended plan P 0 ≡ x → length buffer < length P → rewritten (plan_read x).answer buffer (with_plan buffer (plan_read x).plan) ≡ buffer
    short (Refused r q) e h = refl
    short (Got p next) e h = no_room p buffer (rw (ended-there plan-law bytes e).0 at h)

    refused : (x : Read Plan) → ¬ ((plan_read x).answer ≡ Accepted) → rewritten (plan_read x).answer buffer (with_plan buffer (plan_read x).plan) ≡ buffer
    refused (Refused r q) n = refl
    refused (Got p next) n = absurd (n refl)

-- A WORD taken apart gives what it was put together from, the place cut to six bytes
word-decoded : (kind number place : ℕ) → kind < 256 → number < 256 → decoded (word kind number place) ≡ in_word kind number (place % 281474976710656)
word-decoded kind number place k n =
    let c : word kind number place % 256 ≡ kind = omega arith in
    let h : word kind number place / 256 ≡ number + 256 * (place % 281474976710656) = omega arith in
    let d : word kind number place / 256 % 256 ≡ number = rw h (omega arith) in
    let e : word kind number place / 65536 ≡ place % 281474976710656 = omega arith in
    λ i. in_word (c i) (d i) (e i)

pub words_decode : WordsDecode
words_decode Accepted f = refl
words_decode (Grade k) f = word-decoded 1 k 0 (omega arith) f
words_decode (PlanFault r p) f = word-decoded 2 r p (omega arith) f.0 ∙ ap (PlanFault r) (omega arith)
words_decode (CertificateFault r p) f = word-decoded 3 r p (omega arith) f.0 ∙ ap (CertificateFault r) (omega arith)

-- EVERY LISTED ANSWER fits into a word: its numbers are of one byte
abbrev OneByte : List ℕ → Type 0
OneByte ns = all (λ r. ltb r 256) ns ≡ true

pub byte_number : (ns : List ℕ) → OneByte ns → (r : ℕ) → In r ns → r < 256
byte_number ns h r i = ltb-true r 256 (all_true (λ r. ltb r 256) ns h r i)

pub listed-fits : (l : Answers) (m c : ℕ) → OneByte l.grades → OneByte l.plan → OneByte l.certificate → m < 2 ^ 48 → c < 2 ^ 48 → (a : Answer) → OneOf l m c a → Fits a
listed-fits l m c g p f hm hc Accepted h = tt
listed-fits l m c g p f hm hc (Grade k) h = byte_number l.grades g k h
listed-fits l m c g p f hm hc (PlanFault r q) h = (byte_number l.plan p r h.0, let z : q < 2 ^ 48 = omega arith in z)
listed-fits l m c g p f hm hc (CertificateFault r q) h = (byte_number l.certificate f r h.0, let z : q < 2 ^ 48 = omega arith in z)

-- a grade's word has a length in the place, or three
pub grade-decoded : (place : ℕ) (a : Answer) → Fits a → decoded (grade_word a place) ≡ a
grade-decoded place Accepted h = words_decode Accepted h
grade-decoded place (Grade k) h = word-decoded 1 k place (omega arith) h
grade-decoded place (PlanFault r p) h = words_decode (PlanFault r p) h
grade-decoded place (CertificateFault r p) h = words_decode (CertificateFault r p) h

-- where it is a grade: no length is more than the room that is always enough
made-length : (P : List ℕ) → Bytes P → (buffer : List ℕ) → (made_from P buffer).length ≤ certificate_room
made-length P bp buffer = by_room P buffer
    (λ h. omega (arith, ap (λ (m : Made). m.length) (made_none P buffer h).0))
    (λ h. omega (arith, ap (λ (m : Made). m.length) (made-room P buffer h).0, length_most P bp))

made-placed : (m : Made) (k : ℕ) → k < 256 → m.length < 2 ^ 48 → m.answer ≡ Grade k → made_word m / 65536 ≡ m.length
made-placed m k f h e = ap (λ (a : Answer). grade_word a m.length / 65536) e ∙ omega arith

-- A GRADE in a word is in its two lowest bytes
in_word_lem : (c n p : ℕ) {k : ℕ} → in_word c n p ≡ Grade k → (c ≡ 1) × (n ≡ k)
in_word_lem zero n p e = let z : ◌≡◌ {A = ℕ} 0 1 = cc in absurd (omega arith)
in_word_lem (suc zero) n p e = (refl, cc)
in_word_lem (suc (suc zero)) n p e = let z : ◌≡◌ {A = ℕ} 0 1 = cc in absurd (omega arith)
in_word_lem (suc (suc (suc c))) n p e = let z : ◌≡◌ {A = ℕ} 0 1 = cc in absurd (omega arith)

-- a word with an answer in its two lowest bytes
record Lowest (w : ℕ) (a : Answer) : Type 0 where
  kind : w % 256 ≡ answer_word a % 256
  number : w / 256 % 256 ≡ answer_word a / 256 % 256

lowest_grade : (w : ℕ) (a : Answer) {k : ℕ} → Lowest w a → decoded w ≡ Grade k → (j : ℕ) × (a ≡ Grade j) × (j % 256 ≡ k)
lowest_grade w a {k} l e = let r = in_word_lem (w % 256) (w / 256 % 256) (w / 65536) e in go a (sym l.kind ∙ r.0) (sym l.number ∙ r.1)
  where
    go : (a : Answer) → answer_word a % 256 ≡ 1 → answer_word a / 256 % 256 ≡ k → (j : ℕ) × (a ≡ Grade j) × (j % 256 ≡ k)
    go Accepted c n = absurd (omega arith)
    go (Grade j) c n = let h : answer_word (Grade j) / 256 ≡ j = omega arith in (j, refl, sym (ap (λ (x : ℕ). x % 256) h) ∙ n)
    go (PlanFault r p) c n = absurd (omega arith)
    go (CertificateFault r p) c n = absurd (omega arith)

-- the maker's word, and a word of a buffer
made-lowest : (m : Made) → Lowest (made_word m) m.answer
made-lowest m = go m.answer
  where
    go : (a : Answer) → Lowest (grade_word a m.length) a
    go Accepted = record { kind = refl; number = refl }
    go (Grade k) = record { kind = omega arith; number = omega arith }
    go (PlanFault r p) = record { kind = refl; number = refl }
    go (CertificateFault r p) = record { kind = refl; number = refl }

lowest_two : (k w : ℕ) → (word_of (word_bytes (suc (suc k)) w) % 256 ≡ w % 256) × (word_of (word_bytes (suc (suc k)) w) / 256 % 256 ≡ w / 256 % 256)
unfolding word_bytes
lowest_two k w = (omega arith, omega arith)

told-lowest : (a : Answer) → Lowest (word_of (answer_bytes a)) a
told-lowest a = let r = lowest_two 6 (answer_word a) in record { kind = r.0; number = r.1 }

-- A FIGURE is a number of one byte
byte_figure : {P : List ℕ} {j k : ℕ} → HasFigure P j → j % 256 ≡ k → HasFigure P k
byte_figure {P} {j} {k} f e = subst (HasFigure P) (⊎_elim (λ r. omega arith) (λ r. omega arith) f.figure.reached) f

word-figure : (P : List ℕ) → Bytes P → (w : ℕ) (a : Answer) {k : ℕ} → Lowest w a → ((j : ℕ) → a ≡ Grade j → AcceptedGrade P j) → decoded w ≡ Grade k → HasFigure P k
word-figure P bp w a l from e =
    let g = lowest_grade w a l e in
    byte_figure (grade-is_figure P bp g.0 (from g.0 g.1)) g.2

-- THE CALLS OF A SCRIPT are handed parts of it, so bytes
part_bytes_lem : (s : List ℕ) → Bytes s → (a e : ℕ) → Bytes (part_of s a e)
part_bytes_lem s bytes a e i = go (ltb i (e - a)) refl
  where
    go : (b : Bool) → ltb i (e - a) ≡ b → get_or (part_of s a e) i 0 < 256
    go true f = rw (get_or-take (e - a) (drop a s) i 0 (ltb-true _ _ f), get_or-drop a s i 0) (bytes (a + i))
    go false f =
        let m = ltb-false i (e - a) f in
        let n = length-take (e - a) (drop a s) in
        let z : get_or (part_of s a e) i 0 ≡ 0 = get_or-eq_default (part_of s a e) 0 (omega arith) in omega (arith, z)

part_short : (s : List ℕ) (a e : ℕ) → length (part_of s a e) ≤ length s
part_short s a e = omega (arith, length-take (e - a) (drop a s), length-drop a s)

-- what holds of every part of a script holds of each part that its calls are handed
abbrev Each : (List ℕ → Type 0) → List Call → Type 0
Each Q [] = Unit {0}
Each Q (start part ∷ cs) = Q part × Each Q cs
Each Q (path part ∷ cs) = Q part × Each Q cs
Each Q (back ∷ cs) = Each Q cs
Each Q (close ∷ cs) = Each Q cs

calls_each : (Q : List ℕ → Type 0) (k : ℕ) (s : List ℕ) → ((a e : ℕ) → Q (part_of s a e)) → (at : ℕ) → Each Q (calls_from k s at)
unfolding calls_from
calls_each Q zero s part at = tt
calls_each Q (suc k) s part at =
    go (leb (length s) at) (is_lone (get_or s at 0)) (eqb (get_or s at 0) 99) (eqb (get_or s at 0) 115 || eqb (get_or s at 0) 112) (eqb (get_or s at 0) 115) (part_at s (at + 1)) (calls_each Q k s part)
  where
    go : (b c f d t : Bool) (p : Option (ℕ × ℕ)) → ((e : ℕ) → Each Q (calls_from k s e)) → Each Q
        (cond b [] (cond c (cond f close back ∷ calls_from k s (at + 1)) (cond d (on_part_calls p (λ a e. cond t (start (part_of s a e)) (path (part_of s a e)) ∷ calls_from k s e)) [])))
    go true c f d t p rest = tt
    go false true true d t p rest = rest (at + 1)
    go false true false d t p rest = rest (at + 1)
    go false false f true true (Some p) rest = (part p.0 p.1, rest p.1)
    go false false f true false (Some p) rest = (part p.0 p.1, rest p.1)
    go false false f true t None rest = tt
    go false false f false t p rest = tt

each-bytes : (calls : List Call) → Each Bytes calls → CallBytes calls
each-bytes [] h = tt
each-bytes (start part ∷ cs) h = (h.0, each-bytes cs h.1)
each-bytes (path part ∷ cs) h = (h.0, each-bytes cs h.1)
each-bytes (back ∷ cs) h = each-bytes cs h
each-bytes (close ∷ cs) h = each-bytes cs h

calls_bytes : (k : ℕ) (s : List ℕ) → Bytes s → (at : ℕ) → CallBytes (calls_from k s at)
calls_bytes k s bytes at = each-bytes (calls_from k s at) (calls_each Bytes k s (part_bytes_lem s bytes) at)

-- and short, so every answer of a script fits
abbrev Small : List ℕ → Type 0
Small part = length part < 2 ^ 48

answers-fit : (s : Session) (calls : List Call) → Each Small calls → (i : ℕ) → Fits (get_or (answers_of s calls) i Accepted)
answers-fit s [] h i = tt
answers-fit s (start part ∷ cs) h zero =
    listed-fits listed.start_answers 0 (length part) refl refl refl (omega arith) h.0 (start_step s part).answer (demand1_answers.starting s part)
answers-fit s (path part ∷ cs) h zero =
    listed-fits listed.path_answers 0 (length part) refl refl refl (omega arith) h.0 (path_step s part).answer (demand1_answers.pathing s part)
answers-fit s (back ∷ cs) h zero = listed-fits listed.back_answers 0 0 refl refl refl (omega arith) (omega arith) (back_step s).answer (demand1_answers.taking_back s)
answers-fit s (close ∷ cs) h zero = listed-fits listed.closing_answers 0 0 refl refl refl (omega arith) (omega arith) (close_step s).answer (demand1_answers.closing s)
answers-fit s (start part ∷ cs) h (suc i) = answers-fit (start_step s part).session cs h.1 i
answers-fit s (path part ∷ cs) h (suc i) = answers-fit (path_step s part).session cs h.1 i
answers-fit s (back ∷ cs) h (suc i) = answers-fit (back_step s).session cs h i
answers-fit s (close ∷ cs) h (suc i) = answers-fit (close_step s).session cs h i

script_fits : (s : List ℕ) → length s < 2 ^ 48 → (a e i : ℕ) → Fits (get_or (script_answers s a e) i Accepted)
script_fits s h a e zero =
    let P = part_of s a e in
    listed-fits listed.opening_answers (length P) 0 refl refl refl (omega (arith, part_short s a e)) (omega arith) (opening P).answer (demand1_answers.opening P)
script_fits s h a e (suc i) =
    answers-fit (opening (part_of s a e)).session (calls_from (length s) s e)
    (calls_each Small (length s) s (λ b c. let z : length (part_of s b c) < 2 ^ 48 = omega (arith, part_short s b c) in z) e) i

-- ONLY CLOSING answers a grade
opening-no_grade : (P : List ℕ) (j : ℕ) → (opening P).answer ≡ Grade j → ⊥
unfolding opening
opening-no_grade P j e = on (opens (ended plan P 0))
  where
    on : Opens (ended plan P 0) → ⊥
    on (refused r q f) = let z : ◌≡◌ {A = ℕ} 0 1 = cc (ap (λ (x : Opened). x.answer) f) in omega arith
    on (accepted p next g enough f) = let z : ◌≡◌ {A = ℕ} 0 1 = cc (ap (λ (x : Opened). x.answer) f) in omega arith

read_no_grade : {A : Type 0} (s : Session) (on : Read A → Stepped) → ((a : A) (next : ℕ) → (on (Got a next)).answer ≡ Accepted) → ((n at : ℕ) → (on (Refused n at)).answer ≡ CertificateFault n at)
    → (b : Bool) (x : Read A) {j : ℕ} → (cond b (on x) (refused_step s 31 0)).answer ≡ Grade j → ⊥
read_no_grade s on got bad true (Got a next) e = let z : ◌≡◌ {A = ℕ} 0 1 = cc (got a next) in omega arith
read_no_grade s on got bad true (Refused n at) e = let z : ◌≡◌ {A = ℕ} 0 1 = cc (bad n at) in omega arith
read_no_grade s on got bad false x e = let z : ◌≡◌ {A = ℕ} 0 1 = cc in omega arith

start-no_grade : (s : Session) (part : List ℕ) {j : ℕ} → (start_step s part).answer ≡ Grade j → ⊥
unfolding start_step
start-no_grade s part e = read_no_grade s (on_start s) (λ x next. refl) (λ n at. refl) s.ready (limited s.graph.n (build_start (rows_graph s.graph.n s.graph.rows)) part 0) e

path-no_grade : (s : Session) (part : List ℕ) {j : ℕ} → (path_step s part).answer ≡ Grade j → ⊥
unfolding path_step
path-no_grade s part e = read_no_grade s (on_path s) (λ x next. refl) (λ n at. refl) (is_due s)
    (limited s.graph.n (build_path (rows_graph s.graph.n s.graph.rows) s.build) part 0) e

back-no_grade : (s : Session) {j : ℕ} → (back_step s).answer ≡ Grade j → ⊥
back-no_grade s {j} = back_either s (λ x. x.answer ≡ Grade j → ⊥) (λ e. let z : ◌≡◌ {A = ℕ} 0 1 = cc in omega arith) (λ e. let z : ◌≡◌ {A = ℕ} 0 1 = cc in omega arith)

-- so a grade among the answers of calls is what closing answers after those before it
abbrev Closes : Session → ℕ → Type 0
Closes s j = (before : List Call) × CallBytes before × ((close_step (session_after s before)).answer ≡ Grade j)

closes : (s : Session) (calls : List Call) → CallBytes calls → (i : ℕ) {j : ℕ} → get_or (answers_of s calls) i Accepted ≡ Grade j → Closes s j
closes s [] bytes i e = let z : ◌≡◌ {A = ℕ} 0 1 = cc in absurd (omega arith)
closes s (start part ∷ cs) bytes zero e = absurd (start-no_grade s part e)
closes s (path part ∷ cs) bytes zero e = absurd (path-no_grade s part e)
closes s (back ∷ cs) bytes zero e = absurd (back-no_grade s e)
closes s (close ∷ cs) bytes zero e = ([], tt, e)
closes s (start part ∷ cs) bytes (suc i) e = let r = closes (start_step s part).session cs bytes.1 i e in (start part ∷ r.0, (bytes.0, r.1), r.2)
closes s (path part ∷ cs) bytes (suc i) e = let r = closes (path_step s part).session cs bytes.1 i e in (path part ∷ r.0, (bytes.0, r.1), r.2)
closes s (back ∷ cs) bytes (suc i) e = let r = closes (back_step s).session cs bytes i e in (back ∷ r.0, r.1, r.2)
closes s (close ∷ cs) bytes (suc i) e = let r = closes (close_step s).session cs bytes i e in (close ∷ r.0, r.1, r.2)

script_closes : (s : List ℕ) → Bytes s → (a e i j : ℕ) → get_or (script_answers s a e) i Accepted ≡ Grade j → Closes (opening (part_of s a e)).session j
script_closes s bytes a e zero j f = absurd (opening-no_grade (part_of s a e) j f)
script_closes s bytes a e (suc i) j f = closes (opening (part_of s a e)).session (calls_from (length s) s e) (calls_bytes (length s) s bytes e) i f

-- THE WORD AT A PLACE of answers written one after the other
nth_word : (answers : List Answer) (behind : List ℕ) (i : ℕ) → i < length answers → take 8 (drop (8 * i) (list_bytes answer_bytes answers ++ behind)) ≡ answer_bytes (get_or answers i Accepted)
unfolding list_bytes
nth_word [] behind i h = absurd (omega arith)
nth_word (a ∷ l) behind zero h =
    rw (append_assoc (answer_bytes a) (list_bytes answer_bytes l) behind) (take_at (answer_bytes a) (list_bytes answer_bytes l ++ behind) 8 (word-length 8 (answer_word a)))
nth_word (a ∷ l) behind (suc i) h =
    let z : 8 * suc i ≡ 8 + 8 * i = omega arith in
    let d : drop (8 * suc i) (answer_bytes a ++ list_bytes answer_bytes l ++ behind) ≡ drop (8 * i) (list_bytes answer_bytes l ++ behind) =
    rw (z, ← drop-drop (8 * i) 8 (answer_bytes a ++ list_bytes answer_bytes l ++ behind), append_assoc (answer_bytes a) (list_bytes answer_bytes l) behind)
    (ap (drop (8 * i)) (drop_at (answer_bytes a) (list_bytes answer_bytes l ++ behind) 8 (word-length 8 (answer_word a)))) in
    rw d (nth_word l behind i (omega arith))

told-word : (s buffer : List ℕ) (a e : ℕ) → part_at s 0 ≡ Some (a, e) → (i : ℕ) → i < (replay_of s buffer).count
    → word_at (replay_of s buffer).buffer i ≡ word_of (answer_bytes (get_or (script_answers s a e) i Accepted))
told-word s buffer a e w i h =
    let t = scripts_replay s buffer a e w in
    let answers = script_answers s a e in
    let room = length buffer / 8 in
    let n : length (take room answers) ≡ min room (length answers) = length-take room answers in
    let few : i < min (length answers) room = omega (arith, t.count) in
    let g : get_or (take room answers) i Accepted ≡ get_or answers i Accepted = get_or-take room answers i Accepted (omega arith) in
    ap (λ (b : List ℕ). word_at b i) t.buffer_then
    ∙ ap word_of (nth_word (take room answers) _ i (omega arith) ∙ ap answer_bytes g)

-- all bytes of an answer that fits are told
word_back : (k w : ℕ) → w < 256 ^ k → word_of (word_bytes k w) ≡ w
unfolding word_bytes
word_back zero w h = omega arith
word_back (suc k) w h = let e = word_back k (w / 256) (omega (arith, pow-suc 256 k)) in omega (arith, e)

fits_below : (a : Answer) → Fits a → answer_word a < 256 ^ 8
fits_below Accepted f = omega arith
fits_below (Grade k) f = omega arith
fits_below (PlanFault r p) f = omega arith
fits_below (CertificateFault r p) f = omega arith

told-decoded : (a : Answer) → Fits a → decoded (word_of (answer_bytes a)) ≡ a
told-decoded a f = ap decoded (word_back 8 (answer_word a) (fits_below a f)) ∙ words_decode a f

pub words_are_answers : WordsAreAnswers
words_are_answers = record {
  of_plan = λ P p. let a = (whole_plan P).answer in
      words_decode a (listed-fits listed.reading_answers (length P) 0 refl refl refl p (omega arith) a (demand1_answers.reading P));
  of_check = λ P C p c. let a = check_of P C in
      words_decode a (listed-fits listed.checking_answers (length P) (length C) refl refl refl p c a (demand1_answers.checking P C));
  of_certify = λ P buffer bp p. let m = made_from P buffer in
      grade-decoded m.length m.answer (listed-fits listed.making_answers (length P) 0 refl refl refl p (omega arith) m.answer (demand1_answers.making P bp buffer));
  length_of = λ P buffer bp k e.
      let g : In k (listed.making_answers).grades = subst (λ (a : Answer). OneOf listed.making_answers (length P) 0 a) e (demand1_answers.making P bp buffer) in
      made-placed (made_from P buffer) k (byte_number (listed.making_answers).grades refl k g) (omega (arith, made-length P bp buffer)) e;
  of_length = λ P bp p. let m = length_from P in
      grade-decoded m.length m.answer (listed-fits listed.measuring_answers (length P) 0 refl refl refl p (omega arith) m.answer (demand1_answers.measuring P bp));
  length_asked = λ P bp k e.
      let g : In k (listed.measuring_answers).grades = subst (λ (a : Answer). OneOf listed.measuring_answers (length P) 0 a) e (demand1_answers.measuring P bp) in
      made-placed (length_from P) k (byte_number (listed.measuring_answers).grades refl k g) (omega (arith, length_most P bp)) e;
  of_session = λ s buffer a e w h i c. ap decoded (told-word s buffer a e w i c) ∙ told-decoded (get_or (script_answers s a e) i Accepted) (script_fits s h a e i);
  status_of = λ s buffer. let b = replay_bounded s buffer in omega (arith, b.status);
  count_of = λ s buffer h. let b = replay_bounded s buffer in omega (arith, b.status, b.count);
}

pub grades_in_words : GradesInWords
grades_in_words = record {
  of_check = λ P C bp bc k e. word-figure P bp (answer_word (check_of P C)) (check_of P C) (record { kind = refl; number = refl }) (λ j f. checked C bc f) e;
  of_certify = λ P buffer bp k e. word-figure P bp (made_word (made_from P buffer)) (made_from P buffer).answer (made-lowest (made_from P buffer)) (λ j f. made-for buffer f) e;
  of_length = λ P bp k e. word-figure P bp (made_word (length_from P)) (length_from P).answer (made-lowest (length_from P)) (λ j f. measured f) e;
  of_session = λ s buffer bytes a e w i k h f. word-figure (part_of s a e) (part_bytes_lem s bytes a e) _ _ (told-lowest (get_or (script_answers s a e) i Accepted))
      (λ j g. let c = script_closes s bytes a e i j g in closed_on c.0 c.1 c.2) (ap decoded (sym (told-word s buffer a e w i h)) ∙ f);
}
