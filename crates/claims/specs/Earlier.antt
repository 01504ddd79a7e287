-- BEFORE REQUEST 7: the readers and the calls as edition 6 had them. A number that goes on after its second byte was refused 2 there, as a padded one. All that is written
-- here reads numbers; what reads none, such as the tests, the figures and the list of a mend, is today's and has not moved.
use Rattle.std.specs.Prelude.{ℕ, zero, suc, ◌+◌, ◌-◌, List, [], ◌∷◌, Bool, cond, not, ◌||◌, ltb, leb, length, drop}
use Rattle.record.specs.Read.{Read, Read.Got, Read.Refused, Reader, ◌needs⟨◌⟩◌, ◌▸◌, ◌▹◌, into, many, counted, check, ended, folded, within}
use Rattle.record.specs.Number.{number_at}
use Rattle.record.specs.declared.Number.{Number}
use Rattle.record.specs.declared.Number.TheVariants.{Value, Ended, Padded, Overlong}
use Rattle.record.specs.declared.Answer.{Answer}
use Rattle.record.specs.declared.Answer.TheVariants.{Grade, PlanFault}
use Rattle.connectivity.specs.Lists.{member}
use Rattle.connectivity.specs.Graph.{Graph, edge_count}
use Rattle.connectivity.specs.Path.{Path}
use Rattle.connectivity.specs.Build.{taken, final, further_count}
use Rattle.connectivity.specs.Certificate.{Certificate, Certificate.separation, Certificate.tree, Certificate.ears, Certificate.build}
use Rattle.graph.specs.Limits.{min_vertices, max_vertices, max_edges}
use Rattle.reading.specs.Plan.{Plan, proper, follows, plan_bytes}
use Rattle.reading.specs.Code.{plan_read, PlanTold}
use Rattle.certificates.specs.Tests.{nobody, with, all_below, both_hold, no_edge_between, path_along, path_new, ear_along, ear_ends, ear_new, ear_taken, Start, start_ends, start_taken, is_branch, in_build, ends_in, ends_apart}
use Rattle.certificates.specs.Records.{link_of, first_ear, later_ears, starting}
use Rattle.checker.specs.declared.Graded.{Graded}
use Rattle.checker.specs.Check.{plan_graph, on_certificate}
use Rattle.certifier.specs.declared.Made.{Made}
use Rattle.certifier.specs.Made.{length_by, record_by, fitted, filled_by}
use Rattle.mending.specs.Mend.{list_of, list_plan, mended_plan, Records, refusal, Outcome, have_room, wrote, too_short_outcome}
use Rattle.writing.specs.Write.{with_plan}
use Rattle.fikzarn.specs.Words.{rewritten}
use Rattle.claims.specs.Session.{State, State.never, State.waiting, State.building, Gives, refuses, on_plan_read, on_start_read, on_path_read, due, back_call, close_call}
use Rattle.claims.specs.Calls.{Call, Call.start as starts, Call.path as goes, Call.back as takes_back, Call.close as closes, Heard}

-- document 01's number for each fault of a number: 2 where "A number's second byte is 0, or is 128 or more."
abbrev pub as_read : Number → Read ℕ
as_read (Value v next) = Got v next
as_read (Ended p) = Refused 1 p
as_read (Padded p) = Refused 2 p
as_read (Overlong p) = Refused 2 p

unfoldable pub number : Reader ℕ
number s at = as_read (number_at s at)

-- THE PLAN RECORD
unfoldable pub edge : ℕ → ℕ × ℕ → Reader (ℕ × ℕ)
edge n before = (number ▸ λ lower. number) needs⟨ 5 ⟩ proper n needs⟨ 6 ⟩ follows before

unfoldable pub plan : Reader Plan
plan = into (λ p. record { n = p.0; edges = p.1 })
    (number needs⟨ 3 ⟩ within min_vertices max_vertices ▸ λ n. counted (number needs⟨ 4 ⟩ within 0 max_edges) (edge n) (λ before e. e) (0, 0))

-- THE CERTIFICATE RECORD
unfoldable pub vertex : ℕ → Reader ℕ
vertex n = number needs⟨ 9 ⟩ (λ v. ltb v n)

unfoldable pub side_vertex : ℕ → (ℕ → Bool) → ℕ → Reader ℕ
side_vertex n removed least = vertex n needs⟨ 20 ⟩ leb least needs⟨ 21 ⟩ (λ v. not (removed v))

unfoldable pub side : Graph → (ℕ → Bool) → Reader (List ℕ)
side g removed =
    counted (number needs⟨ 9 ⟩ within 0 g.n) (side_vertex g.n removed) (λ least v. suc v) 0
    needs⟨ 22 ⟩ (λ l. both_hold g.n removed (λ v. member v l))
    needs⟨ 23 ⟩ (λ l. no_edge_between g removed (λ v. member v l))

unfoldable pub pair : ℕ → (ℕ → ℕ → Bool) → (ℕ → Bool) → Reader (ℕ × ℕ)
pair n adj named =
    (vertex n ▸ λ new. vertex n) needs⟨ 24 ⟩ (λ p. adj p.0 p.1) needs⟨ 25 ⟩ (λ p. named p.1) needs⟨ 26 ⟩ (λ p. not (named p.0))

unfoldable pub vertex_list : ℕ → ℕ → Reader (List ℕ)
vertex_list n least = counted (number needs⟨ 9 ⟩ within least n) (λ (u : Unit {0}). vertex n) (λ u v. u) tt

unfoldable pub path : ℕ → ℕ → Reader Path
path n least = into link_of (vertex_list n least)

unfoldable pub ear : Graph → List ℕ → Reader Path
ear g B = path g.n 3 needs⟨ 24 ⟩ ear_along g B needs⟨ 25 ⟩ ear_ends B needs⟨ 26 ⟩ ear_new B

unfoldable pub start_path : Graph → Start → Reader Path
start_path g st = path g.n 2 needs⟨ 24 ⟩ path_along g needs⟨ 25 ⟩ start_ends st.ends needs⟨ 26 ⟩ path_new (λ v. member v st.built)

unfoldable pub further_path : Graph → List Path → Reader Path
further_path g links = path g.n 2 needs⟨ 24 ⟩ path_along g needs⟨ 25 ⟩ ends_in links needs⟨ 26 ⟩ path_new (in_build links) needs⟨ 27 ⟩ ends_apart links

unfoldable pub branch_four : ℕ → Reader (ℕ × (ℕ × (ℕ × ℕ)))
branch_four n = vertex n ▸ λ p. vertex n needs⟨ 20 ⟩ leb (suc p) ▸ λ q. vertex n needs⟨ 20 ⟩ leb (suc q) ▸ λ r. vertex n needs⟨ 20 ⟩ leb (suc r)

abbrev pub start_paths : Graph → ℕ × (ℕ × (ℕ × ℕ)) → Reader (List Path)
start_paths g b = many (start_path g) start_taken 6 (starting b)

unfoldable pub start : Graph → Reader ((ℕ × (ℕ × (ℕ × ℕ))) × List Path)
start g = branch_four g.n ▸ start_paths g

abbrev pub body : Graph → ℕ → Reader Certificate
body g zero = into separation (side g nobody)
body g (suc zero) =
    into (λ x. tree x.0 x.1.0 x.1.1.0 x.1.1.1)
    (vertex g.n ▸ λ c. vertex g.n ▸ λ first.
    many (pair g.n g.adj) (λ named p. with named p.0) (g.n - 1) (with nobody first) ▸ λ pairs.
    side g (with nobody c))
body g (suc (suc zero)) =
    into (λ x. ears x.0 x.1.0 (first_ear x.1.1.0) (later_ears x.1.1.0) x.1.1.1.1)
    (vertex g.n ▸ λ c. vertex g.n needs⟨ 20 ⟩ leb (suc c) ▸ λ d.
    counted (number needs⟨ 9 ⟩ within 1 (g.n - 2)) (ear g) ear_taken [] ▸ λ all.
    check 28 (all_below g.n (λ v. member v (folded ear_taken [] all))) ▸ λ u.
    side g (with (with nobody c) d))
body g (suc (suc (suc zero))) =
    into (λ x. build x.0.0.0 x.0.0.1.0 x.0.0.1.1.0 x.0.0.1.1.1 x.0.1 x.1.0)
    (start g ▸ λ x. many (further_path g) taken (further_count (edge_count g) g.n) x.1 ▸ λ further.
    check 28 (all_below g.n (is_branch (final x.1 further))))
body g (suc (suc (suc (suc k)))) = λ s at. Refused 8 at

unfoldable pub certificate : Graph → Reader Certificate
certificate g = number needs⟨ 8 ⟩ within 0 3 needs⟨ 29 ⟩ (λ k. ltb k 3 || leb (g.n + 2) (edge_count g)) ▹ body g

-- READING A PLAN, WRITING IT AGAIN, CHECKING, THE CHECKING PROGRAM
abbrev pub whole_plan : List ℕ → PlanTold
whole_plan s = plan_read (ended plan s 0)

abbrev pub leading_plan : List ℕ → PlanTold
leading_plan s = plan_read (plan s 0)

abbrev pub plan_rewritten : List ℕ → List ℕ → List ℕ
plan_rewritten s buffer = rewritten (whole_plan s).answer buffer (with_plan buffer (whole_plan s).plan)

abbrev pub certificate_answer : Plan → List ℕ → Answer
certificate_answer p c = on_certificate (ended (certificate (plan_graph p)) c 0)

abbrev pub on_plan : Read Plan → List ℕ → Answer
on_plan (Got p next) c = certificate_answer p c
on_plan (Refused r q) c = PlanFault r q

abbrev pub check_of : List ℕ → List ℕ → Answer
check_of p c = on_plan (ended plan p 0) c

abbrev pub on_leading : Read Plan → List ℕ → Graded
on_leading (Got p next) s = record { answer = certificate_answer p (drop next s); n = p.n; m = length p.edges }
on_leading (Refused r q) s = record { answer = PlanFault r q; n = 0; m = 0 }

abbrev pub grade_of : List ℕ → Graded
grade_of s = on_leading (plan s 0) s

-- THE MAKER, HOW LONG A CERTIFICATE IS, MENDING
abbrev pub length_from : List ℕ → Made
length_from s = length_by (whole_plan s).answer (whole_plan s).plan.graph

abbrev pub record_from : List ℕ → List ℕ
record_from s = record_by (whole_plan s).answer (whole_plan s).plan.graph

abbrev pub made_from : List ℕ → List ℕ → Made
made_from s buffer = fitted buffer (length_from s)

abbrev pub filled_from : List ℕ → List ℕ → List ℕ
filled_from s buffer = filled_by buffer (record_from s)

abbrev pub mend_records : Plan → Records
mend_records p = record { answer = Grade 3; list = plan_bytes (list_plan p); mended = plan_bytes (mended_plan p); certificate = record_from (plan_bytes (mended_plan p)) }

abbrev pub records_of : Plan → Records
records_of p = cond (ltb max_edges (length p.edges + length (list_of p))) (refusal 32 0) (mend_records p)

abbrev pub records_read : Read Plan → Records
records_read (Got p next) = records_of p
records_read (Refused r q) = refusal r q

abbrev pub records_from : List ℕ → Records
records_from s = records_read (ended plan s 0)

abbrev pub mend_from : List ℕ → List ℕ → List ℕ → List ℕ → Outcome
mend_from s list mended certificate =
    cond (have_room (records_from s) list mended certificate) (wrote (records_from s) list mended certificate) (too_short_outcome list mended certificate)

-- THE SESSION; taking back and closing read nothing
abbrev pub open_call : List ℕ → Gives
open_call P = on_plan_read (ended plan P 0)

abbrev pub start_call : State → List ℕ → Gives
start_call never part = refuses never part 31 0
start_call (waiting p) part = on_start_read p part (start (plan_graph p) part 0)
start_call (building p links earlier) part = refuses (building p links earlier) part 31 0

abbrev pub path_call : State → List ℕ → Gives
path_call never part = refuses never part 31 0
path_call (waiting p) part = refuses (waiting p) part 31 0
path_call (building p links earlier) part =
    cond (ltb (length earlier) (due p)) (on_path_read p links earlier part (further_path (plan_graph p) links part 0)) (refuses (building p links earlier) part 31 0)

abbrev pub called_on : State → Call → Gives
called_on z (starts part) = start_call z part
called_on z (goes part) = path_call z part
called_on z takes_back = back_call z
called_on z closes = close_call z

abbrev pub heard_on : State → List Call → List Heard
heard_on z [] = []
heard_on z (c ∷ cs) = record { answer = (called_on z c).answer; unread = (called_on z c).unread } ∷ heard_on (called_on z c).state cs
