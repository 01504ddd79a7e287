-- REQUEST 6 of document 02, cables that would mend a plan: what the list and the three records are, when a mend is refused, and that what is written depends on the plan alone.
use Rattle.std.specs.Prelude.{ℕ, ◌+◌, ◌/◌, ◌%◌, ◌^◌, ◌≤◌, ◌<◌, List, [], ◌++◌, ◌≡◌, ◌⊎◌, ◌↔◌, true, not, length, take, drop}
use Rattle.record.specs.Read.{Bytes}
use Rattle.record.specs.declared.Answer.TheVariants.{Grade, PlanFault}
use Rattle.connectivity.specs.Lists.{In, select}
use Rattle.connectivity.specs.Graph.{AscendingEdges, HasConnectivity, is_pair, from_edges}
use Rattle.reading.specs.Plan.{Plan, Allowed, plan_bytes}
use Rattle.reading.specs.Code.{whole_plan}
use Rattle.checker.specs.Check.{plan_graph, check_of}
use Rattle.certifier.specs.Made.{made, length_from, made_from, filled_from}
use Rattle.striking.specs.MendList.{with_pairs, is_three}
use Rattle.mending.specs.Mend.{list_of, list_plan, mended_plan, records_from, mend_from}
use Rattle.fikzarn.specs.Words.{mended_word}
use Rattle.lines.specs.Lines.{input_limit, plan_word, fault_line, too_long_line}
use Rattle.mendbytes.specs.Bytes.{mend_bytes}
use Rattle.claims.specs.Certified.{IsPlan, HasFigure}
use Rattle.claims.specs.Answers.{OneOf, mending_answers}
use Rattle.claims.specs.Exports.{decoded}

-- a list of pairs with one left out; how often an edge stands in a list
abbrev pub left_out : ℕ × ℕ → List (ℕ × ℕ) → List (ℕ × ℕ)
left_out e l = select (λ d. not (is_pair e d.0 d.1)) l

abbrev pub times : ℕ × ℕ → List (ℕ × ℕ) → ℕ
times e l = length (select (λ d. is_pair e d.0 d.1) l)

-- "the figure is still 3", by which a pair is struck out (`isThree`), says that the figure of the plan with those pairs is 3.
abbrev pub StillThree : Type 0
StillThree = (p : Plan) → Allowed p → (l : List (ℕ × ℕ)) → ((e : ℕ × ℕ) → In e l → (e.0 < e.1) × (e.1 < p.n))
    → (is_three (with_pairs (plan_graph p) l) ≡ true) ↔ HasConnectivity (with_pairs (plan_graph p) l) 3

-- THE LIST of a plan that Records allows.
pub record ListMends (p : Plan) : Type 0 where
  -- "With all of it the figure is 3, and with any one left out it is below 3."
  pub with_all : HasConnectivity (from_edges p.n (p.edges ++ list_of p)) 3
  pub one_left_out : (e : ℕ × ℕ) → In e (list_of p) → (k : ℕ) → HasConnectivity (from_edges p.n (p.edges ++ left_out e (list_of p))) k → k < 3
  -- "A plan of grade 3 gets an empty list, and a double never appears in it."
  pub nothing_to_lay : HasConnectivity (plan_graph p) 3 → list_of p ≡ []
  pub no_double : (e : ℕ × ℕ) → In e (list_of p) → ¬ In e p.edges
  -- "What remains is listed in cable order."
  pub in_order : AscendingEdges (list_of p)
  pub pairs : (e : ℕ × ℕ) → In e (list_of p) → (e.0 < e.1) × (e.1 < p.n)

abbrev pub ListsMend : Type 0
ListsMend = (p : Plan) → Allowed p → ListMends p

-- a buffer begins with these bytes and keeps every byte behind them, and so many were written
pub record Begins (buffer bytes after : List ℕ) (written : ℕ) : Type 0 where
  pub count : written ≡ length bytes
  pub front : take written after ≡ bytes
  pub behind : drop written after ≡ drop written buffer

-- THE THREE RECORDS, where plan and list together have no more than 512 cables: the list is a plan record; the mended plan is one, with the plan's cables, doubles kept,
-- and the list's, each as often as in both; its figure is 3; the certificate is what the maker writes for that record into any buffer that is long enough, and the checker accepts it beside it with grade 3.
pub record RecordsMend (p : Plan) : Type 0 where
  pub answer : (records_from (plan_bytes p)).answer ≡ Grade 3
  pub list : IsPlan (records_from (plan_bytes p)).list (list_plan p)
  pub mended : IsPlan (records_from (plan_bytes p)).mended (mended_plan p)
  pub edges : (e : ℕ × ℕ) → times e (mended_plan p).edges ≡ times e p.edges + times e (list_of p)
  pub figure : HasFigure (records_from (plan_bytes p)).mended 3
  pub graded : length_from (records_from (plan_bytes p)).mended ≡ made (Grade 3) (length (records_from (plan_bytes p)).certificate)
  pub makers : (buffer : List ℕ) → length (records_from (plan_bytes p)).certificate ≤ length buffer
      → Begins buffer (records_from (plan_bytes p)).certificate (filled_from (records_from (plan_bytes p)).mended buffer) (made_from (records_from (plan_bytes p)).mended buffer).length
  pub accepted : check_of (records_from (plan_bytes p)).mended (records_from (plan_bytes p)).certificate ≡ Grade 3

abbrev pub TheRecordsMend : Type 0
TheRecordsMend = (p : Plan) → Allowed p → length p.edges + length (list_of p) ≤ 512 → RecordsMend p

-- REFUSALS, in their order: the plan's faults; 32 at 0; 30 at 0, where a buffer is shorter than what would be written there, and else the plan is mended. So each is given exactly in
-- its own case: a plan is refused or accepted, and plan and list have more than 512 cables together or not. Each leaves every buffer as it was, and answers three lengths of 0.
pub record MendRefuses (P list mended certificate : List ℕ) : Type 0 where
  pub fault : (r q : ℕ) → (whole_plan P).answer ≡ PlanFault r q → (mend_from P list mended certificate).answer.answer ≡ PlanFault r q
  pub too_many : (p : Plan) → IsPlan P p → 512 < length p.edges + length (list_of p) → (mend_from P list mended certificate).answer.answer ≡ PlanFault 32 0
  pub too_short : (p : Plan) → IsPlan P p → length p.edges + length (list_of p) ≤ 512
      → (length list < length (records_from P).list) ⊎ ((length mended < length (records_from P).mended) ⊎ (length certificate < length (records_from P).certificate))
      → (mend_from P list mended certificate).answer.answer ≡ PlanFault 30 0
  pub enough : (p : Plan) → IsPlan P p → length p.edges + length (list_of p) ≤ 512
      → length (records_from P).list ≤ length list → length (records_from P).mended ≤ length mended → length (records_from P).certificate ≤ length certificate
      → (mend_from P list mended certificate).answer.answer ≡ Grade 3
  pub kept : (r q : ℕ) → (mend_from P list mended certificate).answer.answer ≡ PlanFault r q
      → ((mend_from P list mended certificate).list ≡ list) × ((mend_from P list mended certificate).mended ≡ mended) × ((mend_from P list mended certificate).certificate ≡ certificate)
  pub nothing_told : (r q : ℕ) → (mend_from P list mended certificate).answer.answer ≡ PlanFault r q
      → ((mend_from P list mended certificate).answer.list ≡ 0) × ((mend_from P list mended certificate).answer.mended ≡ 0) × ((mend_from P list mended certificate).answer.certificate ≡ 0)

abbrev pub RefusedMends : Type 0
RefusedMends = (P list mended certificate : List ℕ) → MendRefuses P list mended certificate

-- "a call that writes answers the length written in each buffer, in the order named, keeps the bytes behind it, and writes the same whatever buffers it is lent": in buffers that
-- are long enough, the answer and the lengths are those of the records, which depend on the plan alone, and each buffer begins with its record.
pub record MendWrites (P list mended certificate : List ℕ) : Type 0 where
  pub answer : (mend_from P list mended certificate).answer.answer ≡ (records_from P).answer
  pub in_list : Begins list (records_from P).list (mend_from P list mended certificate).list (mend_from P list mended certificate).answer.list
  pub in_mended : Begins mended (records_from P).mended (mend_from P list mended certificate).mended (mend_from P list mended certificate).answer.mended
  pub in_certificate_lem : Begins certificate (records_from P).certificate (mend_from P list mended certificate).certificate (mend_from P list mended certificate).answer.certificate

abbrev pub WrittenMends : Type 0
WrittenMends = (P list mended certificate : List ℕ) → length (records_from P).list ≤ length list → length (records_from P).mended ≤ length mended → length (records_from P).certificate ≤ length certificate
    → MendWrites P list mended certificate

-- WHAT `fikzarn_mend` ANSWERS: the word decodes to the answer, and where it is a grade to the three lengths, 16 bits each.
pub record MendWorded (P list mended certificate : List ℕ) : Type 0 where
  pub answer : length P < 2 ^ 48 → decoded (mended_word (mend_from P list mended certificate).answer) ≡ (mend_from P list mended certificate).answer.answer
  pub in_list : (k : ℕ) → (mend_from P list mended certificate).answer.answer ≡ Grade k → mended_word (mend_from P list mended certificate).answer / 65536 % 65536 ≡ (mend_from P list mended certificate).answer.list
  pub in_mended : (k : ℕ) → (mend_from P list mended certificate).answer.answer ≡ Grade k → mended_word (mend_from P list mended certificate).answer / 4294967296 % 65536 ≡ (mend_from P list mended certificate).answer.mended
  pub in_certificate_lem : (k : ℕ) → (mend_from P list mended certificate).answer.answer ≡ Grade k
      → mended_word (mend_from P list mended certificate).answer / 281474976710656 ≡ (mend_from P list mended certificate).answer.certificate

abbrev pub MendsWorded : Type 0
MendsWorded = (P list mended certificate : List ℕ) → Bytes P → MendWorded P list mended certificate

-- WHAT THE MENDING PROGRAM PRINTS: the three records one after the other, or the line of the refusal; an input of more than 4,096 bytes is too long.
pub record MendPrinted (P : List ℕ) : Type 0 where
  pub records : (p : Plan) → IsPlan P p → length p.edges + length (list_of p) ≤ 512 → mend_bytes P ≡ (records_from P).list ++ ((records_from P).mended ++ (records_from P).certificate)
  pub refusal : (r q : ℕ) → length P ≤ input_limit → (records_from P).answer ≡ PlanFault r q → mend_bytes P ≡ fault_line plan_word r q
  pub long : input_limit < length P → mend_bytes P ≡ too_long_line

abbrev pub MendsPrinted : Type 0
MendsPrinted = (P : List ℕ) → MendPrinted P

-- every answer of a mend is one that document 02 lists: grade 3, or a refusal of the plan with its number and a place within the record
abbrev pub MendAnswers : Type 0
MendAnswers = (P list mended certificate : List ℕ) → OneOf mending_answers (length P) 0 (mend_from P list mended certificate).answer.answer
