-- The edges that no path has, put behind the paths one by one. Assumes nothing.
use Prim.Native.Nat.{ℕ, suc, ◌+◌, ◌-◌, ◌≤◌, ◌<◌}
use mathlib.Core.Path.{◌≡◌, sym, ap, subst, ◌∙◌}
use mathlib.Core.Bool.{true, false}
use mathlib.Core.List.{List, [], ◌∷◌}
use native.Mathlib.Numerals.{add-one}
use native.Mathlib.Omega.{arith}
use lib.ListN.{length, take}
use Rattle.vertexset.specs.Set.{word_count}
use Rattle.vertexset.specs.Walk.{walk_from, going, meets, met, stepped}
use Rattle.vertexset.specs.declared.VertexSet.{VertexSet}
use Rattle.vertexset.specs.declared.Cursor.{Cursor}
use Rattle.vertexset.proofs.Walks.{Walks, ahead, walks_meets, walks_passes, walks_over}
use Rattle.graph.specs.Rows.{row_of, bare_rows}
use Rattle.connectivity.specs.Lists.{up_from}
use Rattle.construction.specs.Sets.{stop, minus, members_from}
use Rattle.construction.specs.Ears.{add_path}
use Rattle.construction.specs.Start.{marked}
use Rattle.construction.specs.Steps.{add_edges, add_rows, finish}
use Rattle.search.specs.Arrays.{placed, placed_end}
use Rattle.search.proofs.Members.{ahead_members}
use Rattle.detours.specs.Code.{Kept, FlatShows}
use Rattle.detours.proofs.Filled.{Flat, filled_take, filled_added, flat_shows, shows_flat, kept_flat}

-- ---- the edges from u to the members of a set above it

-- the paths so far, with the edges that are left, are the whole
pub record Adding (whole : List ℕ) (u : ℕ) (left items : List ℕ) (len : ℕ) : Type 0 where
  pub flat : List ℕ
  pub front : Flat items len flat
  pub same : add_edges u left flat ≡ whole

module _ (u : ℕ) (s : VertexSet) where
  pub edges-start : length s.words ≡ word_count → (items : List ℕ) (from : ℕ) {w : Cursor} → Kept items from → w ≡ walk_from s.words (u + 1)
      → Adding (add_edges u (members_from (u + 1) s) (take from items)) u (ahead s.words w) items from
  edges-start long items from k e = record {
    flat = take from items;
    front = kept_flat items from k;
    same = ap (λ (l : List ℕ). add_edges u l (take from items)) (ahead_members s long (u + 1) e);
  }

  module _ {whole items : List ℕ} {len : ℕ} {w : Cursor} (o : Walks s.words w) (a : Adding whole u (ahead s.words w) items len) where
    pub edges-end : going word_count w ≡ false → FlatShows items len whole
    unfolding add_edges
    edges-end g =
        let e : a.flat ≡ whole = ap (λ (l : List ℕ). add_edges u l a.flat) (sym (walks_over o g)) ∙ a.same in
        subst (λ (l : List ℕ). FlatShows items len l) e (flat_shows a.front)

    module _ (g : going word_count w ≡ true) {r : Cursor} (e : r ≡ stepped s.words w) where
      pub edges-passes : meets w ≡ false → Adding whole u (ahead s.words r) items len
      edges-passes m = subst (λ (left : List ℕ). Adding whole u left items len) (walks_passes o g e m) a

      pub edges-turn : meets w ≡ true → {v : ℕ} → v ≡ met w → {edge : List ℕ} → edge ≡ u ∷ (v ∷ []) → {out : List ℕ} → out ≡ placed items len (stop ∷ edge)
          → {end : ℕ} → end ≡ placed_end items len (stop ∷ edge) → Adding whole u (ahead s.words r) out end
      unfolding add_edges
      edges-turn m {v} k {edge} q b c =
          let f : edge ≡ u ∷ (met w ∷ []) = q ∙ ap (λ (x : ℕ). u ∷ (x ∷ [])) k in
          record {
            flat = add_path a.flat (u ∷ (met w ∷ []));
            front =
                filled_added a.front (stop ∷ (u ∷ (met w ∷ []))) (b ∙ ap (λ (l : List ℕ). placed items len (stop ∷ l)) f) (c ∙ ap (λ (l : List ℕ). placed_end items len (stop ∷ l)) f);
            same = ap (λ (l : List ℕ). add_edges u l a.flat) (sym (walks_meets o g e m)) ∙ a.same;
          }

-- ---- the edges that no path has, vertex by vertex

-- the same, with the edges of the vertices that are left
pub record Finishing (whole rows table : List ℕ) (n u : ℕ) (items : List ℕ) (len : ℕ) : Type 0 where
  pub flat : List ℕ
  pub front : Flat items len flat
  pub same : add_rows rows table (up_from u (n - u)) flat ≡ whole

module _ (rows : List ℕ) (n : ℕ) where
  pub rows_start : (items : List ℕ) (from : ℕ) {table : List ℕ} → Kept items from → table ≡ marked bare_rows (take from items)
      → Finishing (finish rows n (take from items)) rows table n 0 items from
  unfolding finish
  rows_start items from {table} k e = record {
    flat = take from items;
    front = kept_flat items from k;
    same = let z : n - 0 ≡ n = omega arith in rw (z, e);
  }

  module _ {whole table items : List ℕ} {u len : ℕ} (f : Finishing whole rows table n u items len) where
    pub rows_turn : {out : List ℕ} {more : ℕ} {a b s : VertexSet} → u < n → a ≡ row_of rows u → b ≡ row_of table u → s ≡ minus a b
        → FlatShows out more (add_edges u (members_from (u + 1) s) (take len items)) → Finishing whole rows table n (u + 1) out more
    unfolding add_rows
    rows_turn {out} {more} {a} {b} {s} h p q d g =
        let e : s ≡ minus (row_of rows u) (row_of table u) = rw (d, p, q) in
        let z : n - u ≡ suc (n - (u + 1)) = omega arith in
        let t : add_edges u (members_from (u + 1) s) (take len items) ≡ add_edges u (members_from (u + 1) (minus (row_of rows u) (row_of table u))) f.flat = rw (e, filled_take f.front) in
        let r : add_rows rows table (u ∷ up_from (suc u) (n - (u + 1))) f.flat ≡ whole = subst (λ (k : ℕ). add_rows rows table (up_from u k) f.flat ≡ whole) z f.same in
        record {
          flat = add_edges u (members_from (u + 1) s) (take len items);
          front = shows_flat g;
          same = ap (λ (l : List ℕ). add_rows rows table (up_from (u + 1) (n - (u + 1))) l) t ∙ ap (λ (k : ℕ). add_rows rows table (up_from k (n - (u + 1))) (add_edges u (members_from (u + 1) (minus (row_of rows u) (row_of table u))) f.flat)) (add-one u) ∙ r;
        }

    pub rows_end : n ≤ u → FlatShows items len whole
    unfolding add_rows
    rows_end h =
        let z : n - u ≡ 0 = omega arith in
        let e : f.flat ≡ whole = subst (λ (k : ℕ). add_rows rows table (up_from u k) f.flat ≡ whole) z f.same in
        subst (λ (l : List ℕ). FlatShows items len l) e (flat_shows f.front)
