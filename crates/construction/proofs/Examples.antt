-- Worked examples of the certificate, by computing the definition: the same numbers as the port that was run over all small graphs.
use Prim.Native.Nat.{ℕ}
use mathlib.Core.List.{List, [], ◌∷◌}
use mathlib.Core.Path.{◌≡◌, refl}
use lib.Count.{ones}
use Rattle.record.specs.Read.{folded}
use Rattle.vertexset.specs.Set.{zip, count, none, first_from}
use Rattle.graph.specs.Rows.{bare_rows, joined, words_from}
use Rattle.construction.specs.Sets.{reversed, last_of, place_of}
use Rattle.construction.specs.Search.{visit, explore, back}
use Rattle.construction.specs.Ears.{near, detour, cycle, ears_on, ears}
use Rattle.construction.specs.Start.{marked, sorted, begin}
use Rattle.construction.specs.Steps.{link_step, pair_place, out_step, step, steps, build, add_edges, add_rows, finish}
use Rattle.construction.specs.Certificate.{certificate_numbers, lengthened, pairs_from}

abbrev pub none_rows : List ℕ
none_rows = folded joined bare_rows ([])

pub none-numbers : certificate_numbers none_rows 4 ≡ 0 ∷ 1 ∷ 0 ∷ []
unfolding folded zip count none first_from words_from reversed last_of place_of visit explore back near detour cycle ears_on ears marked sorted begin link_step pair_place out_step step steps build add_edges add_rows finish certificate_numbers lengthened pairs_from ones
none-numbers = refl

abbrev pub path-rows : List ℕ
path-rows = folded joined bare_rows ((0, 1) ∷ (1, 2) ∷ (2, 3) ∷ [])

pub path-numbers : certificate_numbers path-rows 4 ≡ 1 ∷ 1 ∷ 0 ∷ 1 ∷ 0 ∷ 2 ∷ 1 ∷ 3 ∷ 2 ∷ 1 ∷ 0 ∷ []
unfolding folded zip count none first_from words_from reversed last_of place_of visit explore back near detour cycle ears_on ears marked sorted begin link_step pair_place out_step step steps build add_edges add_rows finish certificate_numbers lengthened pairs_from ones
path-numbers = refl

abbrev pub square_rows : List ℕ
square_rows = folded joined bare_rows ((0, 1) ∷ (0, 3) ∷ (1, 2) ∷ (2, 3) ∷ [])

pub square_numbers : certificate_numbers square_rows 4 ≡ 2 ∷ 1 ∷ 3 ∷ 1 ∷ 4 ∷ 3 ∷ 2 ∷ 1 ∷ 0 ∷ 1 ∷ 0 ∷ []
unfolding folded zip count none first_from words_from reversed last_of place_of visit explore back near detour cycle ears_on ears marked sorted begin link_step pair_place out_step step steps build add_edges add_rows finish certificate_numbers lengthened pairs_from ones
square_numbers = refl

abbrev pub four-rows : List ℕ
four-rows = folded joined bare_rows ((0, 1) ∷ (0, 2) ∷ (0, 3) ∷ (1, 2) ∷ (1, 3) ∷ (2, 3) ∷ [])

pub four-numbers : certificate_numbers four-rows 4 ≡ 3 ∷ 0 ∷ 1 ∷ 2 ∷ 3 ∷ 2 ∷ 0 ∷ 1 ∷ 2 ∷ 0 ∷ 2 ∷ 2 ∷ 0 ∷ 3 ∷ 2 ∷ 1 ∷ 2 ∷ 2 ∷ 1 ∷ 3 ∷ 2 ∷ 2 ∷ 3 ∷ []
unfolding folded zip count none first_from words_from reversed last_of place_of visit explore back near detour cycle ears_on ears marked sorted begin link_step pair_place out_step step steps build add_edges add_rows finish certificate_numbers lengthened pairs_from ones
four-numbers = refl

abbrev pub five_rows : List ℕ
five_rows = folded joined bare_rows ((0, 1) ∷ (0, 2) ∷ (0, 3) ∷ (0, 4) ∷ (1, 2) ∷ (1, 3) ∷ (1, 4) ∷ (2, 3) ∷ (2, 4) ∷ (3, 4) ∷ [])

pub five_numbers : certificate_numbers five_rows 5 ≡ 3 ∷ 0 ∷ 1 ∷ 2 ∷ 3 ∷ 3 ∷ 0 ∷ 4 ∷ 1 ∷ 2 ∷ 0 ∷ 2 ∷ 2 ∷ 0 ∷ 3 ∷ 2 ∷ 1 ∷ 2 ∷ 2 ∷ 1 ∷ 3 ∷ 2 ∷ 2 ∷ 3 ∷ 2 ∷ 2 ∷ 4 ∷ 2 ∷ 0 ∷ 1 ∷ 2 ∷ 3 ∷ 4 ∷ []
unfolding folded zip count none first_from words_from reversed last_of place_of visit explore back near detour cycle ears_on ears marked sorted begin link_step pair_place out_step step steps build add_edges add_rows finish certificate_numbers lengthened pairs_from ones
five_numbers = refl

abbrev pub prism_rows : List ℕ
prism_rows = folded joined bare_rows ((0, 1) ∷ (0, 2) ∷ (1, 2) ∷ (3, 4) ∷ (3, 5) ∷ (4, 5) ∷ (0, 3) ∷ (1, 4) ∷ (2, 5) ∷ [])

pub prism_numbers : certificate_numbers prism_rows 6 ≡ 3 ∷ 0 ∷ 1 ∷ 2 ∷ 3 ∷ 2 ∷ 0 ∷ 1 ∷ 2 ∷ 0 ∷ 2 ∷ 2 ∷ 0 ∷ 3 ∷ 2 ∷ 1 ∷ 2 ∷ 3 ∷ 1 ∷ 4 ∷ 3 ∷ 3 ∷ 2 ∷ 5 ∷ 3 ∷ 2 ∷ 5 ∷ 4 ∷ []
unfolding folded zip count none first_from words_from reversed last_of place_of visit explore back near detour cycle ears_on ears marked sorted begin link_step pair_place out_step step steps build add_edges add_rows finish certificate_numbers lengthened pairs_from ones
prism_numbers = refl

abbrev pub turned_rows : List ℕ
turned_rows = folded joined bare_rows ((0, 1) ∷ (0, 3) ∷ (0, 4) ∷ (0, 5) ∷ (1, 3) ∷ (1, 4) ∷ (1, 5) ∷ (2, 3) ∷ (2, 5) ∷ (3, 4) ∷ [])

pub turned-numbers : certificate_numbers turned_rows 6 ≡ 2 ∷ 3 ∷ 5 ∷ 3 ∷ 3 ∷ 3 ∷ 1 ∷ 0 ∷ 4 ∷ 0 ∷ 5 ∷ 2 ∷ 3 ∷ 3 ∷ 1 ∷ 4 ∷ 0 ∷ 1 ∷ 2 ∷ []
unfolding folded zip count none first_from words_from reversed last_of place_of visit explore back near detour cycle ears_on ears marked sorted begin link_step pair_place out_step step steps build add_edges add_rows finish certificate_numbers lengthened pairs_from ones
turned-numbers = refl

abbrev pub two_rows : List ℕ
two_rows = folded joined bare_rows ((0, 1) ∷ (0, 2) ∷ (0, 3) ∷ (1, 2) ∷ (1, 3) ∷ (2, 3) ∷ (1, 4) ∷ (2, 4) ∷ (1, 5) ∷ (2, 5) ∷ [])

pub two_numbers : certificate_numbers two_rows 6 ≡ 2 ∷ 1 ∷ 2 ∷ 4 ∷ 3 ∷ 2 ∷ 1 ∷ 0 ∷ 3 ∷ 1 ∷ 3 ∷ 0 ∷ 3 ∷ 2 ∷ 4 ∷ 1 ∷ 3 ∷ 2 ∷ 5 ∷ 1 ∷ 1 ∷ 4 ∷ []
unfolding folded zip count none first_from words_from reversed last_of place_of visit explore back near detour cycle ears_on ears marked sorted begin link_step pair_place out_step step steps build add_edges add_rows finish certificate_numbers lengthened pairs_from ones
two_numbers = refl

-- the search off the link 3, 7, 5, 2, 4 finds 1, 5, 2: it is cut at 5
abbrev pub leaving_rows : List ℕ
leaving_rows = folded joined bare_rows ((0, 1) ∷ (0, 3) ∷ (0, 4) ∷ (0, 6) ∷ (1, 3) ∷ (1, 4) ∷ (1, 5) ∷ (2, 4) ∷ (2, 5) ∷ (2, 6) ∷ (3, 7) ∷ (5, 7) ∷ (6, 7) ∷ [])

pub leaving_numbers : certificate_numbers leaving_rows 8 ≡ 3 ∷ 0 ∷ 1 ∷ 3 ∷ 4 ∷ 2 ∷ 0 ∷ 1 ∷ 2 ∷ 0 ∷ 3 ∷ 2 ∷ 0 ∷ 4 ∷ 2 ∷ 1 ∷ 3 ∷ 2 ∷ 1 ∷ 4 ∷ 5 ∷ 3 ∷ 7 ∷ 5 ∷ 2 ∷ 4 ∷ 2 ∷ 1 ∷ 5 ∷ 3 ∷ 0 ∷ 6 ∷ 7 ∷ 2 ∷ 6 ∷ 2 ∷ []
unfolding folded zip count none first_from words_from reversed last_of place_of visit explore back near detour cycle ears_on ears marked sorted begin link_step pair_place out_step step steps build add_edges add_rows finish certificate_numbers lengthened pairs_from ones
leaving_numbers = refl
