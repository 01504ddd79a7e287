-- WHAT THE PROGRAMS PRINT for the records and the calls that they are handed.
use Rattle.std.specs.Prelude.{ℕ, List, [], ◌∷◌, ◌++◌, ◌≡◌, length}
use Rattle.record.specs.declared.Answer.TheVariants.{Grade}
use Rattle.reading.specs.Plan.{Plan, plan_bytes}
use Rattle.checker.specs.Check.{check_of}
use Rattle.certifybytes.specs.Bytes.{certify_bytes}
use Rattle.sessionlines.specs.Lines.{answer_line, step_line}
use Rattle.claims.specs.Certified.{HasFigure}
use Rattle.claims.specs.Session.{State, Gives}
use Rattle.claims.specs.Calls.{Call, Call.start, Call.path, Call.back, Call.close, called_on}

-- the session program's line for a call of the session of documents 01 and 02, and its lines for a list of calls
abbrev pub call_line : Call → Gives → List ℕ
call_line (start part) x = step_line (length x.unread) x.answer
call_line (path part) x = step_line (length x.unread) x.answer
call_line back x = answer_line x.answer
call_line close x = answer_line x.answer

abbrev pub call_lines : State → List Call → List ℕ
call_lines z [] = []
call_lines z (c ∷ cs) = call_line c (called_on z c) ++ call_lines (called_on z c).state cs

-- the input s begins with a plan of n boxes and m cables, and k is its figure
pub record GradePrinted (s : List ℕ) (n m k : ℕ) : Type 0 where
  pub plan : Plan
  pub certificate : List ℕ
  pub input : s ≡ plan_bytes plan ++ certificate
  pub boxes : n ≡ plan.n
  pub cables : m ≡ length plan.edges
  pub figure : HasFigure (plan_bytes plan) k

-- the plan is printed again, and behind it a certificate that the checker accepts
pub record CertificatePrinted (P : List ℕ) : Type 0 where
  pub certificate : List ℕ
  pub grade : ℕ
  pub bytes : certify_bytes P ≡ P ++ certificate
  pub accepted : check_of P certificate ≡ Grade grade
