-- The links of a start, as the code puts them together. Assumes nothing.
use Prim.Native.Nat.{ℕ, ◌+◌, ◌≤◌, ◌<◌}
use mathlib.Core.Path.{◌≡◌, refl, sym, ap, subst, ◌∙◌}
use mathlib.Core.List.{List, [], ◌∷◌}
use native.Mathlib.Numerals.{add-one}
use lib.ListN.{length, get_or, drop, replicate, drop_of_length-le}
use lib.Seq.{drop-cons}
use Rattle.vertexset.specs.Set.{inserted, next}
use Rattle.vertexset.specs.declared.VertexSet.{VertexSet}
use Rattle.graph.specs.Rows.{bare_rows}
use Rattle.construction.specs.Sets.{stop, single, pair, minus, last_of}
use Rattle.construction.specs.Search.{explore, route}
use Rattle.construction.specs.Ears.{path_space}
use Rattle.construction.specs.Start.{link_in, add_link, sorted, begun, marked, three_paths, four_of, start_on}
use Rattle.search.specs.Arrays.{placed, placed_end}
use Rattle.detours.proofs.Filled.{Filled, filled_none, filled_added}
use Rattle.starting.specs.Code.{paths_of}
use Rattle.starting.specs.declared.Start.{Start}

module _ (table : List ℕ) (four : VertexSet) (u w : ℕ) where
  pub link-path : {seeds goals ends removed : VertexSet} {l : List ℕ} → seeds ≡ single w → goals ≡ single u → ends ≡ pair u w → removed ≡ minus four ends
      → l ≡ route (explore table seeds goals removed) → l ≡ link_in table four u w
  link-path a b c d q = q ∙ rw (d, c, a, b)

-- ---- one link after the other

-- the links of pairs of branch vertices, behind others
unfoldable pub linked : List ℕ → VertexSet → List (ℕ × ℕ) → List ℕ → List ℕ
linked table four [] flat = flat
linked table four (e ∷ l) flat = linked table four l (add_link table four flat e.0 e.1)

-- the links of the pairs before a place stand at the front of the array, and those of the others come
pub record Linking (table : List ℕ) (four : VertexSet) (pairs : List (ℕ × ℕ)) (items : List ℕ) (len i : ℕ) : Type 0 where
  pub flat : List ℕ
  pub filled : Filled path_space items len flat
  pub ahead : linked table four (drop i pairs) flat ≡ linked table four pairs []

module _ (table : List ℕ) (four : VertexSet) (pairs : List (ℕ × ℕ)) where
  pub link-start : Linking table four pairs (replicate path_space 0) 0 0
  link-start = record { flat = []; filled = filled_none path_space; ahead = refl }

  module _ {items : List ℕ} {len i : ℕ} (f : Linking table four pairs items len i) where
    pub link-turn : i < length pairs → (d : ℕ × ℕ) {out : List ℕ} {end : ℕ}
        → out ≡ placed items len (stop ∷ link_in table four (get_or pairs i d).0 (get_or pairs i d).1) → end ≡ placed_end items len (stop ∷ link_in table four (get_or pairs i d).0 (get_or pairs i d).1)
        → Linking table four pairs out end (i + 1)
    unfolding linked
    link-turn h d a b =
        let z : drop i pairs ≡ get_or pairs i d ∷ drop (i + 1) pairs = rw (add-one i, drop-cons pairs i d h) in
        record {
          flat = add_link table four f.flat (get_or pairs i d).0 (get_or pairs i d).1;
          filled = filled_added f.filled (stop ∷ link_in table four (get_or pairs i d).0 (get_or pairs i d).1) a b;
          ahead = ap (λ (l : List (ℕ × ℕ)). linked table four l f.flat) (sym z) ∙ f.ahead;
        }

    link-end : length pairs ≤ i → Filled path_space items len (linked table four pairs [])
    unfolding linked
    link-end h =
        let z : drop i pairs ≡ [] = drop_of_length-le pairs h in
        subst (λ (l : List ℕ). Filled path_space items len l) (sym (ap (λ (l : List (ℕ × ℕ)). linked table four l f.flat) z) ∙ f.ahead) f.filled

-- the six pairs in the order of the record
abbrev pub six_pairs : ℕ → ℕ → ℕ → ℕ → List (ℕ × ℕ)
six_pairs p q r s = (p, q) ∷ ((p, r) ∷ ((p, s) ∷ ((q, r) ∷ ((q, s) ∷ ((r, s) ∷ [])))))

module _ (table : List ℕ) (four : VertexSet) {p q r s : ℕ} (a : p ≡ next four.words 0) (b : q ≡ next four.words (p + 1)) (c : r ≡ next four.words (q + 1)) (d : s ≡ next four.words (r + 1)) where
  six_sorted : linked table four (six_pairs p q r s) [] ≡ sorted table four
  unfolding linked sorted
  six_sorted = rw (d, c, b, a)

  pub six_start : {flat : List ℕ} {len i : ℕ} → Linking table four (six_pairs p q r s) flat len i → 6 ≤ i → ◌≡◌ {A = Start} (record { four = four; flat = flat; len = len }) (paths_of (begun four (sorted table four)))
  six_start l h = let f = link-end table four (six_pairs p q r s) l h in rw (f.array, f.size, six_sorted)

module _ (around third across : List ℕ) {x y z : ℕ} {first second four : VertexSet} {table : List ℕ} {s : Start} where
  pub start_is : x ≡ get_or third 0 0 → first ≡ pair 0 x → y ≡ get_or across 0 0 → second ≡ inserted first y → z ≡ last_of across → four ≡ inserted second z
      → table ≡ marked bare_rows (three_paths around third across) → s ≡ paths_of (begun four (sorted table four)) → s ≡ paths_of (start_on around third across)
  start_is a b c d e f g h =
      let q : four ≡ four_of third across = rw (f, d, b, a, c, e) in
      h ∙ rw (q, g)
