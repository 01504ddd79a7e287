-- CABLES THAT WOULD MEND A PLAN (request 6 of document 02): which they are, what a mend answers, and what it leaves in the three lent buffers.
use Rattle.std.specs.Prelude.{ℕ, ◌+◌, List, [], ◌∷◌, Bool, cond, ◌&&◌, ltb, leb, length}
use Rattle.record.specs.Read.{Read, Read.Got, Read.Refused, ended}
use Rattle.record.specs.Write.{overwritten}
use Rattle.record.specs.declared.Answer.{Answer}
use Rattle.record.specs.declared.Answer.TheVariants.{Grade, PlanFault}
use Rattle.connectivity.specs.Graph.{from_edges}
use Rattle.graph.specs.Limits.{max_edges}
use Rattle.reading.specs.Plan.{Plan, plan, plan_bytes, follows}
use Rattle.certifier.specs.Made.{record_from}
use Rattle.striking.specs.MendList.{mend_list}
use Rattle.mending.specs.declared.Mended.{Mended}

-- two lists in cable order as one: each edge of the second before the first edge that it does not follow
unfoldable pub merged_into : ℕ × ℕ → (List (ℕ × ℕ) → List (ℕ × ℕ)) → List (ℕ × ℕ) → List (ℕ × ℕ)
merged_into e later [] = e ∷ later []
merged_into e later (m ∷ ms) = cond (follows e m) (e ∷ later (m ∷ ms)) (m ∷ merged_into e later ms)

unfoldable pub merged : List (ℕ × ℕ) → List (ℕ × ℕ) → List (ℕ × ℕ)
merged [] ms = ms
merged (e ∷ es) ms = merged_into e (merged es) ms

-- the list as a plan, and the mended plan: the plan's edges, doubles kept, and the list's, in cable order
abbrev pub list_of : Plan → List (ℕ × ℕ)
list_of p = mend_list (from_edges p.n p.edges)

abbrev pub list_plan : Plan → Plan
list_plan p = record { n = p.n; edges = list_of p }

abbrev pub mended_plan : Plan → Plan
mended_plan p = record { n = p.n; edges = merged p.edges (list_of p) }

-- the answer where there is room, and what is written there: "The list is written like a plan record (n, its size, its pairs), and the mended plan as a
-- record with the maker's certificate, each of the three in its own buffer"; nothing beside a refusal
pub record Records : Type 0 where
  pub answer : Answer
  pub list : List ℕ
  pub mended : List ℕ
  pub certificate : List ℕ

abbrev pub refusal : ℕ → ℕ → Records
refusal r q = record { answer = PlanFault r q; list = []; mended = []; certificate = [] }

abbrev pub mend_records : Plan → Records
mend_records p = record { answer = Grade 3; list = plan_bytes (list_plan p); mended = plan_bytes (mended_plan p); certificate = record_from (plan_bytes (mended_plan p)) }

-- "When plan and list together exceed 512 cables, number 32 at place 0 is given after all plan faults"
unfoldable pub records_of : Plan → Records
records_of p = cond (ltb max_edges (length p.edges + length (list_of p))) (refusal 32 0) (mend_records p)

unfoldable pub records_read : Read Plan → Records
records_read (Got p next) = records_of p
records_read (Refused r q) = refusal r q

abbrev pub records_from : List ℕ → Records
records_from s = records_read (ended plan s 0)

-- "A buffer is too short exactly when it is shorter than what would be written there."
abbrev pub have_room : Records → List ℕ → List ℕ → List ℕ → Bool
have_room x list mended certificate = leb (length x.list) (length list) && (leb (length x.mended) (length mended) && leb (length x.certificate) (length certificate))

-- what a mend answers, and what the three buffers then hold
pub record Outcome : Type 0 where
  pub answer : Mended
  pub list : List ℕ
  pub mended : List ℕ
  pub certificate : List ℕ

-- "a call that writes answers the length written in each buffer, in the order named, keeps the bytes behind it"
abbrev pub wrote : Records → List ℕ → List ℕ → List ℕ → Outcome
wrote x list mended certificate = record {
  answer = record { answer = x.answer; list = length x.list; mended = length x.mended; certificate = length x.certificate };
  list = overwritten list 0 x.list;
  mended = overwritten mended 0 x.mended;
  certificate = overwritten certificate 0 x.certificate;
}

-- "a buffer too short for any of the three records is number 30, after it; no refusal writes a byte"
abbrev pub too_short_outcome : List ℕ → List ℕ → List ℕ → Outcome
too_short_outcome list mended certificate = record {
  answer = record { answer = PlanFault 30 0; list = 0; mended = 0; certificate = 0 };
  list = list;
  mended = mended;
  certificate = certificate;
}

-- MENDING
unfoldable pub mend_from : List ℕ → List ℕ → List ℕ → List ℕ → Outcome
mend_from s list mended certificate =
    cond (have_room (records_from s) list mended certificate) (wrote (records_from s) list mended certificate) (too_short_outcome list mended certificate)
