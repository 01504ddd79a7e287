-- The starred barns and plans of document 01, in one list, by computing the checker's definition. Assumes nothing.
use mathlib.Core.Path.{◌≡◌, refl}
use Rattle.record.specs.Read.{◌needs⟨◌⟩◌, ◌▸◌, ◌▹◌, into, many, check, ended, folded}
use Rattle.record.specs.Number.{number, number_in, higher_groups}
use Rattle.reading.specs.Plan.{edge, plan}
use Rattle.certificates.specs.Tests.{some_below, all_below, any_link, each, along, distinct}
use Rattle.certificates.specs.Records.{vertex, side_vertex, side, pair, vertex_list, path, ear, start_path, further_path, branch_four, start, certificate}
use Rattle.checker.specs.Check.{check_of, certificate_answer, grade_of}
use Rattle.lines.specs.Lines.{digits_in}
use Rattle.gradeline.specs.Line.{grade_line}
use Rattle.claims.specs.Starred.{starred, doubled, foreign, beside_link, AllAnswered, BarnAPrinted, BackTold, ForeignTold}

pub all-starred : AllAnswered starred
unfolding ◌needs⟨◌⟩◌ ◌▸◌ ◌▹◌ into many check ended folded number number_in higher_groups edge plan some_below all_below any_link each along distinct vertex side_vertex side pair vertex_list path ear start_path further_path branch_four start certificate check_of certificate_answer
all-starred = (refl, (refl, (refl, (refl, (refl, (refl, (refl, (refl, (refl, (refl, (refl, (refl, tt))))))))))))

-- and those of request 1
pub doubled-answered : AllAnswered doubled
unfolding ◌needs⟨◌⟩◌ ◌▸◌ ◌▹◌ into many check ended folded number number_in higher_groups edge plan some_below all_below any_link each along distinct vertex side_vertex side pair vertex_list path ear start_path further_path branch_four start certificate check_of certificate_answer
doubled-answered = (refl, (refl, (refl, (refl, tt))))

-- and those of request 7
pub foreign-answered : AllAnswered foreign
unfolding ◌needs⟨◌⟩◌ ◌▸◌ ◌▹◌ into many check ended folded number number_in higher_groups edge plan some_below all_below any_link each along distinct vertex side_vertex side pair vertex_list path ear start_path further_path branch_four start certificate check_of certificate_answer
foreign-answered = (refl, (refl, (refl, (refl, (refl, (refl, (refl, (refl, (refl, (refl, (refl, tt)))))))))))

-- barn A as the checking program prints it
pub barn_a_printed : BarnAPrinted
unfolding ◌needs⟨◌⟩◌ ◌▸◌ ◌▹◌ into many check ended folded number number_in higher_groups edge plan some_below all_below any_link each along distinct vertex side_vertex side pair vertex_list path ear start_path further_path branch_four start certificate grade_of certificate_answer grade_line digits_in
barn_a_printed = refl

-- the mistake that document 01 names
pub beside_link_lem : check_of beside_link.plan beside_link.certificate ≡ beside_link.answer
unfolding ◌needs⟨◌⟩◌ ◌▸◌ ◌▹◌ into many check ended folded number number_in higher_groups edge plan some_below all_below any_link each along distinct vertex side_vertex side pair vertex_list path ear start_path further_path branch_four start certificate check_of certificate_answer
beside_link_lem = refl

-- taking back, on the documents' session
pub back-told : BackTold
unfolding ◌needs⟨◌⟩◌ ◌▸◌ ◌▹◌ into many ended folded number number_in higher_groups edge plan all_below any_link each along distinct vertex vertex_list path start_path further_path branch_four start
back-told = refl

-- and request 7 in a session
pub foreign-told : ForeignTold
unfolding ◌needs⟨◌⟩◌ ◌▸◌ ◌▹◌ into many ended folded number number_in higher_groups edge plan all_below any_link each along distinct vertex vertex_list path start_path further_path branch_four start
foreign-told = refl
