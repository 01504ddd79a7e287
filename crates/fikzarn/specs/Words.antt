-- What the functions for callers in other languages answer.
use Rattle.std.specs.Prelude.{ℕ, ◌+◌, ◌*◌, ◌%◌, List}
use Rattle.record.specs.declared.Answer.{Answer}
use Rattle.record.specs.declared.Answer.TheVariants.{Accepted, Grade, PlanFault, CertificateFault}
use Rattle.reading.specs.Code.{whole_plan}
use Rattle.writing.specs.Write.{with_plan}
use Rattle.certifier.specs.declared.Made.{Made}
use Rattle.mending.specs.declared.Mended.{Mended}
use Rattle.script.specs.Replay.{word, answer_word, Reply}

-- the buffer after a plan was read: where the plan is accepted and has room, its record written again; else as it was
abbrev pub rewritten : Answer → List ℕ → List ℕ → List ℕ
rewritten Accepted buffer written = written
rewritten (Grade k) buffer written = buffer
rewritten (PlanFault r p) buffer written = buffer
rewritten (CertificateFault r p) buffer written = buffer

abbrev pub plan_rewritten : List ℕ → List ℕ → List ℕ
plan_rewritten s buffer = rewritten (whole_plan s).answer buffer (with_plan buffer (whole_plan s).plan)

-- the maker's answer as one word: a grade has the certificate's length in the place
abbrev pub grade_word : Answer → ℕ → ℕ
grade_word Accepted length = answer_word Accepted
grade_word (Grade k) length = word 1 k length
grade_word (PlanFault r p) length = answer_word (PlanFault r p)
grade_word (CertificateFault r p) length = answer_word (CertificateFault r p)

abbrev pub made_word : Made → ℕ
made_word m = grade_word m.answer m.length

-- a mend's answer as one word: a grade has the three lengths in the place, 16 bits each
abbrev pub lengths_place : Mended → ℕ
lengths_place m = m.list % 65536 + 65536 * (m.mended % 65536) + 4294967296 * (m.certificate % 65536)

abbrev pub mended_word : Mended → ℕ
mended_word m = grade_word m.answer (lengths_place m)

-- a replay as one word: how the script ended, and the number of answers in the place
abbrev pub replay_word : Reply → ℕ
replay_word r = word r.status 0 r.count

-- the edition of the format
abbrev pub edition : ℕ
edition = 7
