-- REQUEST 1 of document 02, two cables between the same boxes: what does not change with it.
use Rattle.std.specs.Prelude.{ℕ, ◌+◌, List, Bool, true, cond, ◌&&◌, ◌||◌, ◌≡◌, ◌↔◌, ltb, eqb, length}
use Rattle.record.specs.Read.{Bytes, Read, Read.Got, Read.Refused, Reader, Each, ◌needs⟨◌⟩◌, ◌▸◌, into, counted, within, ended}
use Rattle.record.specs.declared.Answer.TheVariants.{Accepted, PlanFault}
use Rattle.connectivity.specs.Lists.{In}
use Rattle.connectivity.specs.Build.{further_count}
use Rattle.reading.specs.Plan.{Plan, Allowed, proper, plan, plan_bytes, once}
use Rattle.reading.specs.Code.{graph_of}
use Rattle.sessions.specs.declared.Opened.{Opened}
use Rattle.sessions.specs.Session.{opening, no_session, opened_on}
use Rattle.checker.specs.Check.{check_of, grade_of}
use Rattle.certifier.specs.Made.{length_from, made_from, filled_from}
use Rattle.claims.specs.Certified.{HasFigure}
use Rattle.claims.specs.Earlier as earlier
use Rattle.claims.specs.Earlier.{number}
use Rattle.claims.specs.Numbers.{answer_before, read_before, graded_before}
use Rattle.claims.specs.Lengths.{EarlierKept}
use Rattle.claims.specs.Session.{pair_count, due}

-- an edge comes after its predecessor: the base edition's test for 6
abbrev pub comes_after : ℕ × ℕ → ℕ × ℕ → Bool
comes_after before e = ltb before.0 e.0 || (eqb before.0 e.0 && ltb before.1 e.1)

-- "Losing boxes is no different for it." A plan and the plan with each double written once: the second is a plan, no cable of it is equal to its
-- predecessor, and it has a cable between two boxes exactly where the first has one; the two have the same figure, every certificate gets the
-- same answer beside both, the maker answers and writes the same and tells the same length, and opening gives the same answer and the same session.
pub record SameOnce (p : Plan) : Type 0 where
  pub allowed : Allowed (once p)
  pub ascending : Each (λ before e. comes_after before e ≡ true) (λ before e. e) (0, 0) (once p).edges
  pub same_pairs : (e : ℕ × ℕ) → In e p.edges ↔ In e (once p).edges
  pub figures : (k : ℕ) → HasFigure (plan_bytes p) k ↔ HasFigure (plan_bytes (once p)) k
  pub answers : (C : List ℕ) → check_of (plan_bytes p) C ≡ check_of (plan_bytes (once p)) C
  pub measures : length_from (plan_bytes p) ≡ length_from (plan_bytes (once p))
  pub makes : (buffer : List ℕ) → made_from (plan_bytes p) buffer ≡ made_from (plan_bytes (once p)) buffer
  pub fills : (buffer : List ℕ) → filled_from (plan_bytes p) buffer ≡ filled_from (plan_bytes (once p)) buffer
  pub opens : opening (plan_bytes p) ≡ opening (plan_bytes (once p))

abbrev pub DoublesAside : Type 0
DoublesAside = (p : Plan) → Allowed p → SameOnce p

-- the base edition's plan record: document 01's Records as it stood, with its limits, its test for 6 and its numbers (specs/Earlier) written out
unfoldable pub base_edge : ℕ → ℕ × ℕ → Reader (ℕ × ℕ)
base_edge n before = (number ▸ λ lower. number) needs⟨ 5 ⟩ proper n needs⟨ 6 ⟩ comes_after before

unfoldable pub base_plan : Reader Plan
base_plan = into (λ p. record { n = p.0; edges = p.1 })
    (number needs⟨ 3 ⟩ within 4 128 ▸ λ n. counted (number needs⟨ 4 ⟩ within 0 512) (base_edge n) (λ before e. e) (0, 0))

-- its opening, which counted cables
abbrev pub base_opening : Read Plan → Opened
base_opening (Got p next) =
    cond (ltb (length p.edges) (p.n + 2)) (record { answer = PlanFault 29 0; session = no_session }) (record { answer = Accepted; session = opened_on (graph_of p) })
base_opening (Refused r q) = record { answer = PlanFault r q; session = no_session }

-- an opening in the numbers of the editions before request 7
abbrev pub opened_before : Opened → Opened
opened_before x = record { answer = answer_before x.answer; session = x.session }

-- A record is read as the base edition read it, but that 33 was 2 (request 7), whole or with bytes behind it, unless that edition refused it by 6: so every record that
-- it accepted is accepted, as the same plan, and every other refusal has its number and place. The plan of a record that it accepted has as many
-- pairs as cables, so what counted cables counts the same. Unless that edition refused the plan by 6, the checker, the checking program and
-- opening answer, in that edition's numbers, what they answered there; and for a plan that it accepted the maker answers and writes what it did, unless that was 30.
pub record BaseKept : Type 0 where
  pub whole : (P : List ℕ) → ((q : ℕ) → ¬ (ended base_plan P 0 ≡ Refused 6 q)) → read_before (ended plan P 0) ≡ ended base_plan P 0
  pub leading : (s : List ℕ) → ((q : ℕ) → ¬ (base_plan s 0 ≡ Refused 6 q)) → read_before (plan s 0) ≡ base_plan s 0
  pub counts : (s : List ℕ) (p : Plan) (next : ℕ) → base_plan s 0 ≡ Got p next → (pair_count p ≡ length p.edges) × (due p ≡ further_count (length p.edges) p.n)
  pub checks : (P C : List ℕ) → ((q : ℕ) → ¬ (ended base_plan P 0 ≡ Refused 6 q)) → answer_before (check_of P C) ≡ earlier.on_plan (ended base_plan P 0) C
  pub grades : (s : List ℕ) → ((q : ℕ) → ¬ (base_plan s 0 ≡ Refused 6 q)) → graded_before (grade_of s) ≡ earlier.on_leading (base_plan s 0) s
  pub opens : (P : List ℕ) → ((q : ℕ) → ¬ (ended base_plan P 0 ≡ Refused 6 q)) → opened_before (opening P) ≡ base_opening (ended base_plan P 0)
  pub makes : (P : List ℕ) → Bytes P → (buffer : List ℕ) (p : Plan) (next : ℕ) → ended base_plan P 0 ≡ Got p next → EarlierKept P buffer Accepted (graph_of p)
