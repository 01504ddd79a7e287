-- THE DEMANDS, each as a statement beside its words; docs/PROOFS.md tells in which file of proofs/ each is proved. P, Q are plan records, C is a certificate record,
-- k a grade. That every call ends and that none has a condition to be met beforehand is what the kit proves of each public function.
use Rattle.std.specs.Prelude.{ℕ, suc, ◌+◌, ◌*◌, ◌/◌, ◌%◌, ◌^◌, ◌≤◌, ◌<◌, List, ◌∷◌, ◌++◌, ◌≡◌, ◌↔◌, Some, None, length, take, drop, get_or}
use Rattle.record.specs.Read.{Read.Refused, Bytes}
use Rattle.record.specs.Number.{number_bytes, list_bytes}
use Rattle.record.specs.Write.{overwritten}
use Rattle.record.specs.declared.Answer.{Answer}
use Rattle.record.specs.declared.Answer.TheVariants.{Accepted, Grade, PlanFault, CertificateFault}
use Rattle.connectivity.specs.Lists.{In, NoDup}
use Rattle.connectivity.specs.Graph.{Graph, Adj, Simple, listed, HasConnectivity}
use Rattle.connectivity.specs.Path.{Path, used_edges}
use Rattle.connectivity.specs.Build.{StartRules, BGPath, Steps, taken, final}
use Rattle.connectivity.specs.TopologicalGraph.{Addition, IsSimple, topological, Offered, Adds}
use Rattle.connectivity.specs.Connectivity.{connectivity}
use Rattle.reading.specs.Plan.{Plan, Allowed, plan, plan_bytes}
use Rattle.reading.specs.Code.{whole_plan}
use Rattle.sessions.specs.declared.Session.{Session}
use Rattle.sessions.specs.Session.{opening, start_step, path_step, back_step, close_step}
use Rattle.checker.specs.Check.{plan_graph, check_of, grade_of}
use Rattle.construction.specs.Ears.{path_space}
use Rattle.construction.specs.Construction.{certificate}
use Rattle.certifier.specs.Made.{certificate_room, made, length_from, made_from, filled_from}
use Rattle.script.specs.Script.{part_at}
use Rattle.script.specs.Replay.{answer_word, answer_bytes, part_of, reply, replay_of}
use Rattle.fikzarn.specs.Words.{plan_rewritten, made_word, replay_word}
use Rattle.lines.specs.Lines.{input_limit, plan_word, certificate_word, fault_line, too_long_line}
use Rattle.gradeline.specs.Line.{graded_line, grade_line}
use Rattle.certifybytes.specs.Bytes.{certify_bytes}
use Rattle.sessionlines.specs.Lines.{script_limit, answer_line, script_lines}
use Rattle.claims.specs.Certified.{IsPlan, HasFigure, Certified, Sequenced}
use Rattle.claims.specs.Session as of
use Rattle.claims.specs.Calls.{Call, CallBytes, called, session_after, heard, heard_on, Replayed}
use Rattle.claims.specs.Answers as listed
use Rattle.claims.specs.Answers.{OneOf}
use Rattle.claims.specs.Exports.{decoded, Fits, word_at, script_bytes, Short, calls_from, answers_of, script_answers, Tells}
use Rattle.claims.specs.Printed.{call_lines, GradePrinted, CertificatePrinted}

-- DEMAND 1. "a faulty record or a call out of turn gets the number and place listed in document 01; a refused session is unchanged".
-- From the opening on, whatever calls come, the session is that of documents 01 and 02 (specs/Session): each answers what that one answers and
-- leaves unread what that one leaves; a call that is refused leaves the session's value as it was and reads nothing, and a closing leaves it too.
pub record SessionIs (P : List ℕ) (calls : List Call) : Type 0 where
  pub opens : (opening P).answer ≡ (of.open_call P).answer
  pub answers : heard (opening P).session calls ≡ heard_on (of.open_call P).state calls
  pub unchanged : (c : Call) (r p : ℕ) → (called (session_after (opening P).session calls) c).answer ≡ CertificateFault r p
      → ((called (session_after (opening P).session calls) c).session ≡ session_after (opening P).session calls) × ((called (session_after (opening P).session calls) c).read ≡ 0)
  pub closed : (close_step (session_after (opening P).session calls)).session ≡ session_after (opening P).session calls

abbrev pub Demand1Sessions : Type 0
Demand1Sessions = (P : List ℕ) → Bytes P → (calls : List Call) → SessionIs P calls

-- Every answer is one that documents 01 and 02 list for that call: a refusal has one of its numbers and a place within the record, and where a
-- grade is due no answer is `Accepted`. Start, path, taking back and closing, on every value of a session.
pub record Demand1Answers : Type 0 where
  pub reading : (P : List ℕ) → OneOf listed.reading_answers (length P) 0 (whole_plan P).answer
  pub checking : (P C : List ℕ) → OneOf listed.checking_answers (length P) (length C) (check_of P C)
  pub checking_behind : (s : List ℕ) → OneOf listed.program_answers (length s) (length s) (grade_of s).answer
  pub making : (P : List ℕ) → Bytes P → (buffer : List ℕ) → OneOf listed.making_answers (length P) 0 (made_from P buffer).answer
  pub measuring : (P : List ℕ) → Bytes P → OneOf listed.measuring_answers (length P) 0 (length_from P).answer
  pub opening : (P : List ℕ) → OneOf listed.opening_answers (length P) 0 (opening P).answer
  pub starting : (s : Session) (part : List ℕ) → OneOf listed.start_answers 0 (length part) (start_step s part).answer
  pub pathing : (s : Session) (part : List ℕ) → OneOf listed.path_answers 0 (length part) (path_step s part).answer
  pub taking_back : (s : Session) → OneOf listed.back_answers 0 0 (back_step s).answer
  pub closing : (s : Session) → OneOf listed.closing_answers 0 0 (close_step s).answer

-- "Plan faults come before certificate faults": the checker gives a plan's fault exactly where reading the plan gives it.
abbrev pub PlanFaultsFirst : Type 0
PlanFaultsFirst = (P C : List ℕ) (r q : ℕ) → (check_of P C ≡ PlanFault r q) ↔ ((whole_plan P).answer ≡ PlanFault r q)

-- "a refused maker writes no byte". A plan's fault comes first. "Number 30 now means that the buffer is shorter than that certificate, and is
-- given for nothing else.": it is given, at 0, exactly where the plan is accepted and the buffer shorter than its certificate; and of all calls only the
-- maker (`Demand1Answers`) and, since request 6, mending, for its three buffers (`RefusedMends`), give it.
pub record MakerRefuses (P buffer : List ℕ) : Type 0 where
  pub kept : (r q : ℕ) → (made_from P buffer).answer ≡ PlanFault r q → (filled_from P buffer ≡ buffer) × ((made_from P buffer).length ≡ 0)
  pub fault : (r q : ℕ) → (whole_plan P).answer ≡ PlanFault r q → (made_from P buffer).answer ≡ PlanFault r q
  pub too_short : (q : ℕ) → ((made_from P buffer).answer ≡ PlanFault 30 q) ↔ (((whole_plan P).answer ≡ Accepted) × (length buffer < (length_from P).length) × (q ≡ 0))

abbrev pub RefusedKeeps : Type 0
RefusedKeeps = (P buffer : List ℕ) → MakerRefuses P buffer

-- 1,536 bytes are always enough.
pub record RoomNamed : Type 0 where
  pub number : certificate_room ≡ 1536
  pub enough : (P : List ℕ) → Bytes P → (length_from P).length ≤ certificate_room

-- DEMAND 2. "Beside an accepted plan, a certificate is accepted, with its kind as the grade, if every rule for that kind holds, and refused
-- if one is broken."
abbrev pub Demand2 : Type 0
Demand2 = (P C : List ℕ) (k : ℕ) → Bytes P → Bytes C → (check_of P C ≡ Grade k) ↔ Certified P C k

-- so beside an accepted plan every other certificate gets a certificate's fault.
abbrev pub RefusedElse : Type 0
RefusedElse =
    (P C : List ℕ) → Bytes P → Bytes C → (whole_plan P).answer ≡ Accepted → ((k : ℕ) → ¬ Certified P C k) → (r : ℕ) × (q : ℕ) × (check_of P C ≡ CertificateFault r q)

-- "For grade 3 the rules are the three Barnette-Grünbaum additions on simple graphs, from a four-box start to the whole plan." On a build that
-- a start and further paths give, whose topological graph is simple, and for a path along edges whose ends are in and whose inner vertices
-- are new, each once, the rule for a further path gives the addition (a), (b) or (c) by the places of its ends, to the topological graph of
-- the build then, which is simple; and wherever taking the path is any such addition, and the graph then is simple, the rule holds.
pub record RuleIsAddition (E : ℕ → ℕ → Type 0) (links : List Path) (P : Path) : Type 0 where
  pub before : IsSimple (topological links)
  pub there : BGPath E links P → Adds links P
  pub back : Addition (topological links) (topological (taken links P)) → IsSimple (topological (taken links P)) → BGPath E links P

abbrev pub RulesAreAdditions : Type 0
RulesAreAdditions =
    (g : Graph) → Simple g → (p q r s : ℕ) (start further : List Path) → StartRules g p q r s start → Steps (Adj g) start further
    → (P : Path) → Offered (Adj g) (final start further) P → RuleIsAddition (Adj g) (final start further) P

-- So a certificate of kind 3 is accepted exactly when its start is a subdivided complete graph on four vertices, each further path is such
-- an addition, and the last graph is the plan's;
abbrev pub Demand2Sequence : Type 0
Demand2Sequence = (P C : List ℕ) → Bytes P → Bytes C → (check_of P C ≡ Grade 3) ↔ Sequenced P C

-- "What a finished build of kind 3 uses just once is then each cabled pair.", and it uses nothing else.
pub record EachPairOnce (p : Plan) (paths : List Path) : Type 0 where
  pub nodup : NoDup (used_edges paths)
  pub cabled : (e : ℕ × ℕ) → In e (used_edges paths) → In e p.edges
  pub used : (e : ℕ × ℕ) → In e p.edges → In e (used_edges paths)

abbrev pub PairsOnce : Type 0
PairsOnce = (P C : List ℕ) (c : Sequenced P C) → EachPairOnce c.plan (c.start ++ c.further)

-- "A certificate of kind 3 is accepted exactly when these calls accept it and no byte is left."
abbrev pub AcceptedByCalls : Type 0
AcceptedByCalls = (p : Plan) → Allowed p → (C : List ℕ) → Bytes C → (check_of (plan_bytes p) C ≡ Grade 3) ↔ Replayed p C

-- "it accepts a plan exactly when its record is written as Records says and no byte is left"
abbrev pub PlanAccepted : Type 0
PlanAccepted = (P : List ℕ) → Bytes P → ((whole_plan P).answer ≡ Accepted) ↔ ((p : Plan) × IsPlan P p)

-- "A grade is accepted when the checker answers it for a plan and a certificate, the maker for a plan, or closing for the plan
-- its session was opened on.": the maker with a buffer or asked for the length alone, closing after any list of session calls (taking back is "in demand
-- 3's list too").
pub data AcceptedGrade (P : List ℕ) (k : ℕ) : Type 0 where
  checked : (C : List ℕ) → Bytes C → check_of P C ≡ Grade k → AcceptedGrade P k
  made-for : (buffer : List ℕ) → (made_from P buffer).answer ≡ Grade k → AcceptedGrade P k
  measured : (length_from P).answer ≡ Grade k → AcceptedGrade P k
  closed_on : (calls : List Call) → CallBytes calls → (close_step (session_after (opening P).session calls)).answer ≡ Grade k → AcceptedGrade P k

-- DEMAND 3. "Every accepted grade is its plan's loss figure, be it from the checker, from the maker or from closing a session, after any list of
-- session calls from its opening, refused ones among them."
abbrev pub GradeIsFigure : Type 0
GradeIsFigure = (P : List ℕ) → Bytes P → (k : ℕ) → AcceptedGrade P k → HasFigure P k

-- "For every two accepted plans, the same or different, and any accepted grade of each, whoever wrote the certificates, the two grades are
-- equal exactly when the two plans have the same loss figure"
abbrev pub SameGrades : Type 0
SameGrades =
    (P Q : List ℕ) → Bytes P → Bytes Q → (j k : ℕ) → AcceptedGrade P j → AcceptedGrade Q k → (j ≡ k) ↔ ((f : ℕ) × HasFigure P f × HasFigure Q f)

-- The figure is one number, and it is computed by `connectivity`.
abbrev pub FigureComputed : Type 0
FigureComputed = (p : Plan) → Allowed p → (k : ℕ) → HasConnectivity (plan_graph p) k ↔ (k ≡ connectivity (plan_graph p))

-- "Every accepted plan has an accepted certificate, and the maker, lent any buffer of at least the length that document 01 names, whatever is
-- in it, always writes one for that plan and answers its grade and its length." Request 2 names the certificate's own length, which
-- `certificate_length` answers with the grade. The buffer begins with the certificate and keeps every byte behind it.
pub record Writes (P buffer : List ℕ) : Type 0 where
  pub certificate : List ℕ
  pub grade : ℕ
  pub answer : made_from P buffer ≡ made (Grade grade) (length certificate)
  pub measured : length_from P ≡ made (Grade grade) (length certificate)
  pub begins : filled_from P buffer ≡ certificate ++ drop (length certificate) buffer
  pub short : length certificate ≤ certificate_room
  pub accepted : check_of P certificate ≡ Grade grade

abbrev pub MakerWrites : Type 0
MakerWrites = (P : List ℕ) → Bytes P → (whole_plan P).answer ≡ Accepted → (buffer : List ℕ) → (length_from P).length ≤ length buffer → Writes P buffer

-- "The same plan always gives the same certificate, however long the buffer.", and the same answer, where two buffers are long enough;
abbrev pub SameCertificate : Type 0
SameCertificate =
    (P a b : List ℕ) → (length_from P).length ≤ length a → (length_from P).length ≤ length b
    → (made_from P a ≡ made_from P b) × (take (made_from P a).length (filled_from P a) ≡ take (made_from P b).length (filled_from P b))

-- it is a function of the plan's boxes and cables: no row and no word is in it, and of the limits only the room for its paths
abbrev pub CertificateOfPlan : Type 0
CertificateOfPlan =
    (P buffer : List ℕ) (p : Plan) → IsPlan P p → (x : Writes P buffer)
    → x.certificate ≡ list_bytes number_bytes (certificate path_space (2 * p.n + 1) p.n (listed p.edges))

-- THE EXPORTS. `fikzarn_plan` writes an accepted plan again byte for byte, doubles included, where it has room, and keeps every byte
-- behind it; else it changes no byte.
pub record PlanAgain (P buffer : List ℕ) : Type 0 where
  pub written : (whole_plan P).answer ≡ Accepted → length P ≤ length buffer → plan_rewritten P buffer ≡ P ++ drop (length P) buffer
  pub too_short : length buffer < length P → plan_rewritten P buffer ≡ buffer
  pub refused : ¬ ((whole_plan P).answer ≡ Accepted) → plan_rewritten P buffer ≡ buffer

abbrev pub PlansAgain : Type 0
PlansAgain = (P : List ℕ) → Bytes P → (buffer : List ℕ) → PlanAgain P buffer

-- A word stands for its answer;
abbrev pub WordsDecode : Type 0
WordsDecode = (a : Answer) → Fits a → decoded (answer_word a) ≡ a

-- every plan record and list of calls has a script, from which they are read back;
pub record ScriptOf (P : List ℕ) (calls : List Call) : Type 0 where
  pub plan-at : part_at (script_bytes P calls) 0 ≡ Some (2, 2 + length P)
  pub plan : part_of (script_bytes P calls) 2 (2 + length P) ≡ P
  pub bytes : Bytes P → CallBytes calls → Bytes (script_bytes P calls)
  pub calls_behind : calls_from (length (script_bytes P calls)) (script_bytes P calls) (2 + length P) ≡ calls

abbrev pub ScriptsEncode : Type 0
ScriptsEncode = (P : List ℕ) (calls : List Call) → length P < 65536 → Short calls → ScriptOf P calls

-- a replay tells the answers of the script's calls, from the opening on;
abbrev pub ScriptsReplay : Type 0
ScriptsReplay = (s buffer : List ℕ) (a e : ℕ) → part_at s 0 ≡ Some (a, e) → Tells s buffer (script_answers s a e)

-- where the script is a plan record's and a list of calls' and the buffer has room for every answer, the whole reply is this;
abbrev pub ScriptReplies : Type 0
ScriptReplies =
    (P : List ℕ) (calls : List Call) (buffer : List ℕ) → length P < 65536 → Short calls → 8 * suc (length calls) ≤ length buffer
    → replay_of (script_bytes P calls) buffer ≡ reply (overwritten buffer 0 (list_bytes answer_bytes ((opening P).answer ∷ answers_of (opening P).session calls))) (suc (length calls)) 0

-- a script whose plan record is cut is answered nothing;
abbrev pub ScriptCut : Type 0
ScriptCut = (s buffer : List ℕ) → part_at s 0 ≡ None → replay_of s buffer ≡ reply buffer 0 1

-- what the exported functions answer is read from their words, where no record has 2 to the 48 bytes: the answer, the certificate's
-- length, each answer of a script, and how a replay ended with how many answers;
pub record WordsAreAnswers : Type 0 where
  pub of_plan : (P : List ℕ) → length P < 2 ^ 48 → decoded (answer_word (whole_plan P).answer) ≡ (whole_plan P).answer
  pub of_check : (P C : List ℕ) → length P < 2 ^ 48 → length C < 2 ^ 48 → decoded (answer_word (check_of P C)) ≡ check_of P C
  pub of_certify : (P buffer : List ℕ) → Bytes P → length P < 2 ^ 48 → decoded (made_word (made_from P buffer)) ≡ (made_from P buffer).answer
  pub length_of : (P buffer : List ℕ) → Bytes P → (k : ℕ) → (made_from P buffer).answer ≡ Grade k → made_word (made_from P buffer) / 65536 ≡ (made_from P buffer).length
  pub of_length : (P : List ℕ) → Bytes P → length P < 2 ^ 48 → decoded (made_word (length_from P)) ≡ (length_from P).answer
  pub length_asked : (P : List ℕ) → Bytes P → (k : ℕ) → (length_from P).answer ≡ Grade k → made_word (length_from P) / 65536 ≡ (length_from P).length
  pub of_session : (s buffer : List ℕ) (a e : ℕ) → part_at s 0 ≡ Some (a, e) → length s < 2 ^ 48 → (i : ℕ) → i < (replay_of s buffer).count
      → decoded (word_at (replay_of s buffer).buffer i) ≡ get_or (script_answers s a e) i Accepted
  pub status_of : (s buffer : List ℕ) → replay_word (replay_of s buffer) % 256 ≡ (replay_of s buffer).status
  pub count_of : (s buffer : List ℕ) → length buffer < 2 ^ 48 → replay_word (replay_of s buffer) / 65536 ≡ (replay_of s buffer).count

-- and a grade in a word is the figure of the plan.
pub record GradesInWords : Type 0 where
  pub of_check : (P C : List ℕ) → Bytes P → Bytes C → (k : ℕ) → decoded (answer_word (check_of P C)) ≡ Grade k → HasFigure P k
  pub of_certify : (P buffer : List ℕ) → Bytes P → (k : ℕ) → decoded (made_word (made_from P buffer)) ≡ Grade k → HasFigure P k
  pub of_length : (P : List ℕ) → Bytes P → (k : ℕ) → decoded (made_word (length_from P)) ≡ Grade k → HasFigure P k
  pub of_session : (s buffer : List ℕ) → Bytes s → (a e : ℕ) → part_at s 0 ≡ Some (a, e) → (i k : ℕ) → i < (replay_of s buffer).count
      → decoded (word_at (replay_of s buffer).buffer i) ≡ Grade k → HasFigure (part_of s a e) k

-- THE PROGRAMS. The session program prints a line for each call of its script, the opening's first: those of the session of documents 01 and 02.
abbrev pub SessionPrints : Type 0
SessionPrints =
    (P : List ℕ) (calls : List Call) → Bytes P → length (script_bytes P calls) ≤ script_limit
    → script_lines (script_bytes P calls) ≡ answer_line (of.open_call P).answer ++ call_lines (of.open_call P).state calls

-- "Its grade line is boxes, cables and grade": these are the plan's, and the grade is its figure;
abbrev pub GradePrints : Type 0
GradePrints = (s : List ℕ) → Bytes s → (n m k : ℕ) → grade_line s ≡ graded_line (Grade k) n m → GradePrinted s n m k

-- and for a plan with a certificate behind it the line is that of the checker's answer.
abbrev pub PrintsGrade : Type 0
PrintsGrade =
    (p : Plan) → Allowed p → (C : List ℕ) → length (plan_bytes p ++ C) ≤ input_limit
    → grade_line (plan_bytes p ++ C) ≡ graded_line (check_of (plan_bytes p) C) p.n (length p.edges)

-- "It prints `input too long`, or one line."; "else `plan refused R at P` or `certificate refused R at P`, with P from that record's start".
-- The maker's program does the same with a plan that it refuses.
pub record RefusalsPrinted : Type 0 where
  pub too_long : (s : List ℕ) → input_limit < length s → (grade_line s ≡ too_long_line) × (certify_bytes s ≡ too_long_line)
  pub plan-refused : (s : List ℕ) (r q : ℕ) → length s ≤ input_limit → plan s 0 ≡ Refused r q → grade_line s ≡ fault_line plan_word r q
  pub certificate-refused : (p : Plan) → Allowed p → (C : List ℕ) (r q : ℕ) → length (plan_bytes p ++ C) ≤ input_limit → check_of (plan_bytes p) C ≡ CertificateFault r q
      → grade_line (plan_bytes p ++ C) ≡ fault_line certificate_word r q
  pub making_refused : (P : List ℕ) (r q : ℕ) → length P ≤ input_limit → (whole_plan P).answer ≡ PlanFault r q → certify_bytes P ≡ fault_line plan_word r q

-- The maker's program prints a certificate behind every accepted plan.
abbrev pub CertifyPrints : Type 0
CertifyPrints = (P : List ℕ) → Bytes P → (whole_plan P).answer ≡ Accepted → CertificatePrinted P
