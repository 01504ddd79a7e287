-- The start's three searches; the first asks for three neighbours of vertex 0. Assumes nothing.
use Prim.Native.Nat.{ℕ, ◌≤◌, ◌<◌}
use mathlib.Core.Path.{◌≡◌, refl, ap, ◌∙◌}
use mathlib.Core.Bool.{true, cond}
use mathlib.Core.List.{List, [], ◌∷◌}
use lib.ListN.{get_or}
use borrow.Author.Tests.{lt-ltb, le-ltb}
use Rattle.std.specs.Prelude.{Ok, Err}
use Rattle.search.specs.Code.{Vertices}
use Rattle.vertexset.specs.Set.{none, empty_set, count}
use Rattle.vertexset.specs.declared.VertexSet.{VertexSet}
use Rattle.graph.specs.Rows.{row_of}
use Rattle.construction.specs.Sets.{minus, single, pair, set_with_all, least}
use Rattle.construction.specs.Search.{explore}
use Rattle.construction.specs.Ears as construction
use Rattle.construction.specs.Ears.{is_cut, answered, cycle}
use Rattle.construction.specs.Start.{Begun, begun, broken, third_path, across, start_on, crossed, thirded, around, begin}
use Rattle.detours.specs.Code.{cut_of, settled_of}
use Rattle.detours.specs.declared.Cut.{Cut}
use Rattle.detours.proofs.Answered.{ok_test, ok_path, err_test, err_cut}
use Rattle.starting.specs.Code.{paths_of, start_of}
use Rattle.starting.specs.declared.Start.{Start}

-- ---- a third path, and a path across

pub third_found : (rows around : List ℕ) (set row rest a b g none : VertexSet) (z : ℕ) → none ≡ empty_set → set ≡ set_with_all none around → row ≡ row_of rows 0
    → rest ≡ minus row set → z ≡ least rest → a ≡ single z → b ≡ single 0 → g ≡ minus set b
    → answered (explore rows a g (single 0)) (single 0) (0 ∷ []) ≡ third_path rows around
third_found rows around set row rest a b g none z p q r s t u v w = rw (u, t, s, r, w, v, q, p)

pub across-found : (rows around third : List ℕ) (ends seeds goals one two bare none : VertexSet) (b : ℕ) → b ≡ get_or third 0 0 → ends ≡ pair 0 b
    → none ≡ empty_set → one ≡ set_with_all none third → seeds ≡ minus one ends → bare ≡ empty_set → two ≡ set_with_all bare around → goals ≡ minus two ends
    → answered (explore rows seeds goals ends) ends [] ≡ across rows around third
across-found rows around third ends seeds goals one two bare none b p q r s t u v w = rw (t, w, s, v, r, u, q, p)

-- ---- where a search fails its cut is the start's, else its path goes on

-- what the definition calls broken is a cut
broken_is : {x : construction.Cut} → is_cut x ≡ true → {c : Cut} → c ≡ cut_of x → Err c ≡ start_of (broken x)
broken_is t e = rw t (ap Err e)

-- and a start is none
begun_is : (four : VertexSet) (flat : List ℕ) → Ok (paths_of (begun four flat)) ≡ start_of (begun four flat)
unfolding none
begun_is four flat = refl

module _ (g : construction.Found) (rest : List ℕ → Begun) where
  stage_cut : {c : Cut} → Err c ≡ settled_of g → Err c ≡ start_of (cond (is_cut g.cut_by) (broken g.cut_by) (rest g.path))
  stage_cut e =
      let z : broken g.cut_by ≡ cond (is_cut g.cut_by) (broken g.cut_by) (rest g.path) = rw (err_test g e) in
      broken_is (err_test g e) (err_cut g e) ∙ ap start_of z

  stage_on : {v : Vertices} → Ok v ≡ settled_of g → rest v.items ≡ cond (is_cut g.cut_by) (broken g.cut_by) (rest g.path)
  stage_on e = ap rest (ok_path g e) ∙ rw (ok_test g e)

module _ (rows : List ℕ) (row : VertexSet) (e : row ≡ row_of rows 0) (n : ℕ) (k : n ≡ count row.words) where
  counted : n ≡ count (row_of rows 0).words
  counted = k ∙ ap (λ (s : VertexSet). count s.words) e

  pub begin-few : (s : VertexSet) → s ≡ single 0 → n < 3 → Err (record { removed = row; side = s }) ≡ start_of (begin rows)
  unfolding begin none
  begin-few s z h = rw (← counted, lt-ltb n 3 h, e, z)

  module _ (enough : 3 ≤ n) where
    begin-on : around rows (cycle rows) ≡ begin rows
    unfolding begin
    begin-on = rw (← counted, le-ltb n 3 enough)

    pub cycle-cut : {c : Cut} → Err c ≡ settled_of (cycle rows) → Err c ≡ start_of (begin rows)
    cycle-cut q = stage_cut (cycle rows) (λ p. thirded rows p (third_path rows p)) q ∙ ap start_of begin-on

    module _ {v : Vertices} (q : Ok v ≡ settled_of (cycle rows)) where
      thirded_is : thirded rows v.items (third_path rows v.items) ≡ begin rows
      thirded_is = stage_on (cycle rows) (λ p. thirded rows p (third_path rows p)) q ∙ begin-on

      pub third_cut : {c : Cut} → Err c ≡ settled_of (third_path rows v.items) → Err c ≡ start_of (begin rows)
      third_cut t = stage_cut (third_path rows v.items) (λ p. crossed v.items p (across rows v.items p)) t ∙ ap start_of thirded_is

      module _ {w : Vertices} (t : Ok w ≡ settled_of (third_path rows v.items)) where
        crossed_is : crossed v.items w.items (across rows v.items w.items) ≡ begin rows
        crossed_is = stage_on (third_path rows v.items) (λ p. crossed v.items p (across rows v.items p)) t ∙ thirded_is

        pub across-cut : {c : Cut} → Err c ≡ settled_of (across rows v.items w.items) → Err c ≡ start_of (begin rows)
        across-cut y = stage_cut (across rows v.items w.items) (start_on v.items w.items) y ∙ ap start_of crossed_is

        pub across-on : {x : Vertices} → Ok x ≡ settled_of (across rows v.items w.items) → {s : Start} → s ≡ paths_of (start_on v.items w.items x.items) → Ok s ≡ start_of (begin rows)
        across-on {x} y z = ap Ok z ∙ begun_is (start_on v.items w.items x.items).four (start_on v.items w.items x.items).flat ∙ ap start_of (stage_on (across rows v.items w.items) (start_on v.items w.items) y ∙ crossed_is)
