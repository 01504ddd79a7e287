-- Worked examples of the certificate without words, by computing it: the numbers of Examples.
use mathlib.Core.List.{[], ◌∷◌}
use mathlib.Core.Path.{◌≡◌}
use Rattle.record.specs.Read.{folded}
use Rattle.vertexset.specs.Set.{first_from}
use Rattle.connectivity.specs.Graph.{listed}
use Rattle.construction.specs.Sets.{reversed, last_of, place_of}
use Rattle.construction.specs.Search.{back}
use Rattle.construction.specs.Steps.{pair_place}
use Rattle.construction.specs.Certificate as by_rows
use Rattle.construction.specs.Certificate.{pairs_from}
use Rattle.construction.specs.Construction.{visit, explore, detour, cycle, ears_on, ears, marked, sorted, begin, link_step, out_step, step, steps, build, add_edges, add_rows, finish, lengthened, certificate_numbers}
use Rattle.construction.proofs.Examples.{path-rows, path-numbers, four-rows, four-numbers, two_rows, two_numbers}
use Rattle.construction.proofs.Standing.{code_bounds}

pub path-same : by_rows.certificate_numbers path-rows 4 ≡ certificate_numbers code_bounds 4 (listed ((0, 1) ∷ (1, 2) ∷ (2, 3) ∷ []))
unfolding folded first_from reversed last_of place_of visit explore back detour cycle ears_on ears marked sorted begin link_step pair_place out_step step steps build add_edges add_rows finish certificate_numbers lengthened pairs_from
path-same = path-numbers

-- the complete graph on four vertices
pub four_same : by_rows.certificate_numbers four-rows 4 ≡ certificate_numbers code_bounds 4 (listed ((0, 1) ∷ (0, 2) ∷ (0, 3) ∷ (1, 2) ∷ (1, 3) ∷ (2, 3) ∷ []))
unfolding folded first_from reversed last_of place_of visit explore back detour cycle ears_on ears marked sorted begin link_step pair_place out_step step steps build add_edges add_rows finish certificate_numbers lengthened pairs_from
four_same = four-numbers

-- kind 2, with ears
pub two_same : by_rows.certificate_numbers two_rows 6 ≡ certificate_numbers code_bounds 6 (listed ((0, 1) ∷ (0, 2) ∷ (0, 3) ∷ (1, 2) ∷ (1, 3) ∷ (2, 3) ∷ (1, 4) ∷ (2, 4) ∷ (1, 5) ∷ (2, 5) ∷ []))
unfolding folded first_from reversed last_of place_of visit explore back detour cycle ears_on ears marked sorted begin link_step pair_place out_step step steps build add_edges add_rows finish certificate_numbers lengthened pairs_from
two_same = two_numbers
