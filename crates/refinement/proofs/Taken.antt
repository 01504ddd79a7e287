-- TAKING A PATH IN: the build that the code keeps shows the links afterwards too. Assumes nothing.
use Prim.Native.Nat.{ℕ, suc, ◌<◌}
use mathlib.Core.List.{List, [], ◌∷◌}
use mathlib.Core.Bool.{Bool, true, false, ◌||◌, or_assoc, or-false}
use mathlib.Core.Path.{◌≡◌, refl, sym, ap, ◌∙◌, subst}
use mathlib.Core.Logic.{◌⊎◌, inl, inr, ⊎_elim, ⊎_map, ◌≢◌}
use lib.Dec.{eqb}
use lib.ListN.{length}
use borrow.Author.Tests.{eqb-true, eq-eqb}
use Rattle.record.specs.Read.{folded}
use Rattle.vertexset.specs.Set.{has, inserted, word_count, capacity}
use Rattle.vertexset.specs.declared.VertexSet.{VertexSet}
use Rattle.vertexset.proofs.Laws.{inserted-has, inserted-length}
use Rattle.graph.specs.Rows.{adjacent_in, joined_rows, parted_rows}
use Rattle.connectivity.specs.Lists.{In, NoDup, member}
use Rattle.connectivity.specs.Graph.{Adj}
use Rattle.connectivity.specs.Path.{vertices, End, Path}
use Rattle.connectivity.specs.Build.{InBuild, IsBranch, BGPath, taken, split_at as splitLinks}
use Rattle.connectivity.proofs.Lists.{or-true, true_or, member-in, in_member}
use Rattle.connectivity.proofs.Paths.{SamePair, end_or_inner, inner_in, ends_differ, end_s, end_t}
use Rattle.connectivity.proofs.Split.{Piece, Piece.whole, Piece.front, Piece.back, piece_of, piece_inner, split_kept, kept_split}
use Rattle.connectivity.proofs.EdgeUse.{tally_step}
use Rattle.certificates.specs.Tests.{in_build, is_branch}
use Rattle.build.specs.declared.Build.{Build}
use Rattle.links.specs.declared.Link.{Link}
use Rattle.links.specs.declared.End.{End as PathEnd}
use Rattle.links.specs.declared.End.TheVariants.{Branch, Inner}
use Rattle.links.specs.declared.Addition.TheVariants.{VertexVertex, EdgeVertex, EdgeEdge}
use Rattle.links.specs.Ends.{link_end, same_link}
use Rattle.links.specs.Tables.{split_rows, split_mates, split_each, split_by, split_mates_by, point_along}
use Rattle.build.specs.State.{end_of, path_addition, entered, raised_at, raised, path_taken}
use Rattle.refinement.proofs.Tests.{same_test, iff_test, false_of, left_true, built_tells, branch_tells}
use Rattle.refinement.proofs.Pointers.{along-length}
use Rattle.refinement.proofs.Mates.{ends_length}
use Rattle.graph.proofs.Table.{Low, with-length, without-length, with-tells, without-tells}
use Rattle.refinement.proofs.Splits.{Sole, split_joined, split_none, split_swap, piece_there, branch_kept, branch_split, pair_on}
use Rattle.refinement.proofs.Runs.{Pointing, AllLow, ends, pointing_split, runs-more}
use Rattle.refinement.proofs.Shows.{Shows, Sizes, Listed, end_branch, end_inner, not_inside, path-of, sole_link, placed, Placed, every_edge, branch_shown}
use Rattle.refinement.proofs.Apart.{Holds, branch_branch, branch_inner, inner_branch, inner_inner}

-- the table with a link that is split, and with one more
module _ (T : List ℕ) (links : List Path) (h : Listed T links) where
  pub listed-split : (x : ℕ) (K : Path) → Sole links x K → AllLow (vertices K) → Listed (split_rows T x (ends K)) (splitLinks x links)
  listed-split x K one low =
      let a = low K.s (end_s K) in
      let b = low K.t (end_t K) in
      let c = low x (inner_in x K one.inside) in
      let T1 = parted_rows T K.s K.t in
      let l1 = without-length T h.long K.s K.t (a, b) in
      let T2 = joined_rows T1 K.s x in
      let l2 = with-length T1 l1 K.s x (a, c) in
      record {
        long = with-length T2 l2 x K.t (c, b);
        tells = λ u v.
            let w3 = with-tells T2 l2 x K.t (c, b) u v in
            let w2 = with-tells T1 l1 K.s x (a, c) u v in
            let w1 = without-tells T h.long K.s K.t (a, b) u v in
            let j = split_joined links x K one u v in
            let t = h.tells u v in (
              λ e. j.1 (⊎_map (λ p. ⊎_map (λ q. (t.0 (w1.0 q).0, (w1.0 q).1)) (λ q. q) (w2.0 p)) (λ p. p) (w3.0 e)),
              λ r. w3.1 (⊎_map (λ p. w2.1 (⊎_map (λ q. w1.1 (t.1 q.0, q.1)) (λ q. q) p)) (λ p. p) (j.0 r)),
            );
      }

  pub listed_more : (P : Path) → AllLow (vertices P) → Listed (joined_rows T P.s P.t) (P ∷ links)
  listed_more P low =
      let d : Low P.s P.t = (low P.s (end_s P), low P.t (end_t P)) in
      record {
        long = with-length T h.long P.s P.t d;
        tells = λ u v.
            let w = with-tells T h.long P.s P.t d u v in
            (λ e. ⊎_elim (λ k. let r = (h.tells u v).0 k in (r.0, inr r.1, r.2)) (λ k. (P, inl refl, k)) (w.0 e), λ r. w.1 (old u v r.0 r.1 r.2));
      }
    where
      old : (u v : ℕ) (L : Path) → In L (P ∷ links) → SamePair u v L.s L.t → (adjacent_in T u v ≡ true) ⊎ SamePair u v P.s P.t
      old u v L (inl e) k = inr (rw e at k)
      old u v L (inr i) k = inl ((h.tells u v).1 (L, i, k))

-- the vertices of a list as a set
pub members-length : (s : VertexSet) (l : List ℕ) → length s.words ≡ word_count → length (folded inserted s l).words ≡ word_count
unfolding folded
members-length s [] h = h
members-length s (a ∷ l) h = members-length (inserted s a) l (inserted-length s a h)

pub has-members : (s : VertexSet) (l : List ℕ) → length s.words ≡ word_count → AllLow l → (v : ℕ) → has (folded inserted s l).words v ≡ (has s.words v || member v l)
unfolding folded
has-members s [] h low v = sym (or-false (has s.words v))
has-members s (a ∷ l) h low v =
    has-members (inserted s a) l (inserted-length s a h) (λ w i. low w (inr i)) v
    ∙ ap (λ (t : ℕ → Bool). t v || member v l) (inserted-has s a h (low a (inl refl))) ∙ or_assoc (has s.words v) (eqb v a) (member v l)

-- what entering a path does to the vertices that are in, and to the lengths
pub built_more : (b : Build) → Sizes b → (P : Path) → AllLow (vertices P) → (v : ℕ) → has (entered b P).sets.built.words v ≡ (has b.sets.built.words v || member v P.inner)
built_more b z P low v = has-members b.sets.built P.inner z.built (λ w i. low w (inner_in w P i)) v

pub entered-sizes : (b : Build) → Sizes b → (P : Path) → Sizes (entered b P)
entered-sizes b z P = record {
  branch = z.branch;
  built = members-length b.sets.built P.inner z.built;
  pointers = ends_length (point_along b.pointers (vertices P)) P.inner ∙ along-length b.pointers P.s P.inner P.t ∙ z.pointers;
}

-- an end that is raised
raised-length : (s : VertexSet) (e : PathEnd) → length s.words ≡ word_count → length (raised_at s e).words ≡ word_count
raised-length s (Branch v) h = h
raised-length s (Inner v l) h = inserted-length s v h

raised-has : (s : VertexSet) (e : PathEnd) (x : ℕ) → length s.words ≡ word_count → x < capacity → ((e ≡ Branch x) × (has s.words x ≡ true)) ⊎ ((l : Link) × (e ≡ Inner x l)) → (v : ℕ) → has (raised_at s e).words v ≡ (has s.words v || eqb v x)
raised-has s e x h low (inl k) v = rw k.0 (same_test _ _ (λ t. left_true (eqb v x) t) (λ t. ⊎_elim (λ z. z) (λ z. rw (eqb-true v x z) k.1) (or-true (has s.words v) (eqb v x) t)))
raised-has s e x h low (inr k) v = rw k.1 (ap (λ (t : ℕ → Bool). t v) (inserted-has s x h low))

-- THE STEP
module _ {b : Build} {links : List Path} (sh : Shows b links) (P : Path) (bg : BGPath (Adj every_edge) links P) (low : AllLow (vertices P)) where
  pub differ : P.s ≢ P.t
  differ = ends_differ P bg.is_path.nodup

  pub apart : ¬ Holds links P.s P.t
  apart r = bg.apart r.0 r.1 r.2 r.3

  abbrev pub rest : List Path
  rest = splitLinks P.s (splitLinks P.t links)

  pub rest-built : (v : ℕ) → InBuild v rest → InBuild v links
  rest-built v r = kept_split P.t v links (kept_split P.s v (splitLinks P.t links) r)

  -- which addition it is, by the ends
  pub branches : IsBranch P.s links → IsBranch P.t links → path_addition b P ≡ VertexVertex
  branches p q =
      let f : adjacent_in b.linked P.s P.t ≡ false = false_of (λ e. apart ((branch_branch sh P.s P.t differ p q).0 e)) in
      rw (end_branch sh P.s p, end_branch sh P.t q, f)

  pub last_inner : IsBranch P.s links → (L : Path) → In L links → In P.t L.inner → path_addition b P ≡ EdgeVertex P.t (ends L)
  last_inner p L h i =
      let f : link_end P.s (ends L) ≡ false = false_of (λ e. apart ((branch_inner sh P.s P.t p L h i).0 e)) in
      rw (end_branch sh P.s p, end_inner sh P.t L h i, f)

  pub first_inner : (L : Path) → In L links → In P.s L.inner → IsBranch P.t links → path_addition b P ≡ EdgeVertex P.s (ends L)
  first_inner L h i q =
      let f : link_end P.t (ends L) ≡ false = false_of (λ e. apart ((inner_branch sh P.s P.t L h i q).0 e)) in
      rw (end_inner sh P.s L h i, end_branch sh P.t q, f)

  pub both_inner : (L M : Path) → In L links → In M links → In P.s L.inner → In P.t M.inner → path_addition b P ≡ EdgeEdge P.s (ends L) P.t (ends M)
  both_inner L M h k i j =
      let f : same_link (ends L) (ends M) ≡ false = false_of (λ e. apart ((inner_inner sh P.s P.t L M h k i j).0 e)) in
      rw (end_inner sh P.s L h i, end_inner sh P.t M k j, f)

  -- a branch vertex splits nothing
  none_last : IsBranch P.t links → splitLinks P.t links ≡ links
  none_last q = split_none P.t links (not_inside sh P.t q)

  none_first : IsBranch P.s links → rest ≡ splitLinks P.t links
  none_first p = split_none P.s (splitLinks P.t links) (λ M m i. let r = piece_of P.t links M m in not_inside sh P.s p r.0 r.1 (piece_inner P.t P.s r.0 M r.2 i))

  -- the link with the last vertex inside is not touched by the split at the first
  pub still_sole : (M : Path) → In M links → In P.t M.inner → Sole (splitLinks P.s links) P.t M
  still_sole M h j = record {
    there = piece_there P.s links M h M (whole (λ i. apart (M, h, inner_in P.s M i, inner_in P.t M j)) refl);
    inside = j;
    only = λ N m w j i. let r = piece_of P.s links N m in only N r.0 r.1 r.2 w j i;
    by_ends = λ N m e. let r = piece_of P.s links N m in by_ends N r.0 r.1 r.2 e;
  }
    where
      one : Sole links P.t M
      one = sole_link sh M h P.t j

      on : In P.s (vertices M) → ⊥
      on i = apart (M, h, i, inner_in P.t M j)

      only : (N K : Path) → In K links → Piece P.s K N → (w : ℕ) → In w M.inner → In w N.inner → N ≡ M
      only N K k (whole n e) w l i = e ∙ one.only K k w l (rw e at i)
      only N K k (front f e) w l i = absurd (on (rw (sym (one.only K k w l (piece_inner P.s w K N (front f e) i))) (inner_in P.s K f)))
      only N K k (back f e) w l i = absurd (on (rw (sym (one.only K k w l (piece_inner P.s w K N (back f e) i))) (inner_in P.s K f)))

      by_ends : (N K : Path) → In K links → Piece P.s K N → SamePair N.s N.t M.s M.t → N ≡ M
      by_ends N K k (whole n e) i = e ∙ one.by_ends K k (rw e at i)
      by_ends N K k (front f e) i = absurd (on (pair_on M K.s P.s (rw e at i)).1)
      by_ends N K k (back f e) i = absurd (on (pair_on M P.s K.t (rw e at i)).0)

  -- a table with the links split that the path splits: what holds of it beside the links holds beside the rest
  pub raised-rest : (split : List ℕ → ℕ → Link → List ℕ) (Q : List ℕ → List Path → Type 0)
      → ((t : List ℕ) (ls : List Path) → Q t ls → (x : ℕ) (K : Path) → Sole ls x K → NoDup (vertices K) → AllLow (vertices K) → Q (split t x (ends K)) (splitLinks x ls))
      → (t : List ℕ) → Q t links → Q (split_each split t (path_addition b P)) rest
  raised-rest split Q step t h = go (placed sh P.s bg.from) (placed sh P.t bg.upto)
    where
      at : (x : ℕ) (L : Path) → In L links → In x L.inner → Q (split t x (ends L)) (splitLinks x links)
      at x L k i = step t links h x L (sole_link sh L k x i) (path-of sh L k) (sh.low L k)

      go : Placed sh P.s → Placed sh P.t → Q (split_each split t (path_addition b P)) rest
      go (inl p) (inl q) = rw (branches p q, none_first p, none_last q) h
      go (inl p) (inr q) = rw (last_inner p q.0 q.1 q.2, none_first p) (at P.t q.0 q.1 q.2)
      go (inr p) (inl q) = rw (first_inner p.0 p.1 p.2 q, none_last q) (at P.s p.0 p.1 p.2)
      go (inr p) (inr q) =
          rw (both_inner p.0 q.0 p.1 q.1 p.2 q.2, split_swap P.s P.t links (λ L h i j. apart (L, h, inner_in P.s L i, inner_in P.t L j)))
          (step (split t P.s (ends p.0)) (splitLinks P.s links) (at P.s p.0 p.1 p.2) P.t q.0 (still_sole q.0 q.1 q.2) (path-of sh q.0 q.1) (sh.low q.0 q.1))

  pub raised-listed : Listed (split_by b.linked (path_addition b P)) rest
  raised-listed = raised-rest split_rows Listed (λ t ls h x K one nd low. listed-split t ls h x K one low) b.linked sh.linked

  raised-runs : Pointing (split_mates_by b.pointers (path_addition b P)) rest
  raised-runs = raised-rest split_mates Pointing pointing_split b.pointers (sh.sizes.pointers, sh.runs)

  low_first : P.s < capacity
  low_first = low P.s (end_s P)

  low_last : P.t < capacity
  low_last = low P.t (end_t P)

  first_length : length (raised_at b.sets.branch (end_of b P.s)).words ≡ word_count
  first_length = raised-length b.sets.branch (end_of b P.s) sh.sizes.branch

  raised-sizes : Sizes (raised b P)
  raised-sizes = record {
    branch = raised-length (raised_at b.sets.branch (end_of b P.s)) (end_of b P.t) first_length;
    built = sh.sizes.built;
    pointers = raised-runs.0;
  }

  -- what an end is in the code
  told : (x : ℕ) → Placed sh x → ((end_of b x ≡ Branch x) × (has b.sets.branch.words x ≡ true)) ⊎ ((l : Link) × (end_of b x ≡ Inner x l))
  told x (inl p) = inl (end_branch sh x p, (branch_shown sh x).1 p)
  told x (inr q) = inr (ends q.0, end_inner sh x q.0 q.1 q.2)

  taken-branch : (v : ℕ) → has (path_taken b P).sets.branch.words v ≡ is_branch (taken links P) v
  taken-branch v = iff_test (there, back) (branch_tells (taken links P) v)
    where
      set : has (path_taken b P).sets.branch.words v ≡ (has b.sets.branch.words v || eqb v P.s || eqb v P.t)
      set =
          let first = raised-has b.sets.branch (end_of b P.s) P.s sh.sizes.branch low_first (told P.s (placed sh P.s bg.from)) in
          raised-has (raised_at b.sets.branch (end_of b P.s)) (end_of b P.t) P.t first_length low_last (⊎_map (λ k. (k.0, first P.t ∙ left_true (eqb P.t P.s) k.1)) (λ k. k) (told P.t (placed sh P.t bg.upto))) v
          ∙ ap (λ (t : Bool). t || eqb v P.t) (first v)

      old : IsBranch v links → IsBranch v (taken links P)
      old r = let q = branch_kept P.s (splitLinks P.t links) v (branch_kept P.t links v r) in (q.0, inr q.1, q.2)

      there : has (path_taken b P).sets.branch.words v ≡ true → IsBranch v (taken links P)
      there e = ⊎_elim (λ k. ⊎_elim (λ j. old ((branch_shown sh v).0 j)) (λ j. (P, inl refl, inl (eqb-true v P.s j))) (or-true (has b.sets.branch.words v) (eqb v P.s) k))
          (λ k. (P, inl refl, inr (eqb-true v P.t k))) (or-true (has b.sets.branch.words v || eqb v P.s) (eqb v P.t) (sym set ∙ e))

      first : (has b.sets.branch.words v || eqb v P.s) ≡ true → has (path_taken b P).sets.branch.words v ≡ true
      first e = set ∙ left_true (eqb v P.t) e

      at_first : v ≡ P.s → has (path_taken b P).sets.branch.words v ≡ true
      at_first e = first (true_or (has b.sets.branch.words v) (eqb v P.s) (eq-eqb v P.s e))

      at_last : v ≡ P.t → has (path_taken b P).sets.branch.words v ≡ true
      at_last e = set ∙ true_or (has b.sets.branch.words v || eqb v P.s) (eqb v P.t) (eq-eqb v P.t e)

      back : IsBranch v (taken links P) → has (path_taken b P).sets.branch.words v ≡ true
      back r = go r.0 r.1 r.2
        where
          go : (L : Path) → In L (taken links P) → End v L → has (path_taken b P).sets.branch.words v ≡ true
          go L (inl e) k = ⊎_elim at_first at_last (rw e at k)
          go L (inr i) k = ⊎_elim at_first (λ q. ⊎_elim at_last (λ j. first (left_true (eqb v P.s) ((branch_shown sh v).1 j))) (branch_split P.t links v q)) (branch_split P.s (splitLinks P.t links) v (L, i, k))

  taken-built : (v : ℕ) → has (path_taken b P).sets.built.words v ≡ in_build (taken links P) v
  taken-built v = iff_test (there, λ r. back r.0 r.1 r.2) (built_tells (taken links P) v)
    where
      set : has (path_taken b P).sets.built.words v ≡ (has b.sets.built.words v || member v P.inner)
      set = built_more (raised b P) raised-sizes P low v

      there : has (path_taken b P).sets.built.words v ≡ true → InBuild v (taken links P)
      there e = ⊎_elim (λ k. let r = split_kept P.s v (splitLinks P.t links) (split_kept P.t v links ((built_tells links v).0 (sym (sh.built v) ∙ k))) in (r.0, inr r.1, r.2))
          (λ k. (P, inl refl, inner_in v P (member-in v P.inner k))) (or-true (has b.sets.built.words v) (member v P.inner) (sym set ∙ e))

      old : InBuild v links → has (path_taken b P).sets.built.words v ≡ true
      old r = set ∙ left_true (member v P.inner) (sh.built v ∙ (built_tells links v).1 r)

      back : (L : Path) → In L (taken links P) → In v (vertices L) → has (path_taken b P).sets.built.words v ≡ true
      back L (inl e) k = ⊎_elim (λ z. old (⊎_elim (λ y. subst (λ (u : ℕ). InBuild u links) (sym y) bg.from) (λ y. subst (λ (u : ℕ). InBuild u links) (sym y) bg.upto) z)) (λ i. set ∙ true_or (has b.sets.built.words v) (member v P.inner) (in_member v P.inner i)) (end_or_inner P v (rw e at k))
      back L (inr i) k = old (rest-built v (L, i, k))

  pub shows_taken : Shows (path_taken b P) (taken links P)
  shows_taken = record {
    sizes = entered-sizes (raised b P) raised-sizes P;
    branch = taken-branch;
    built = taken-built;
    linked = listed_more (split_by b.linked (path_addition b P)) rest raised-listed P low;
    runs = runs-more (split_mates_by b.pointers (path_addition b P)) rest raised-runs P bg.is_path.nodup low
        (λ L h w i j. bg.new w j (rest-built w (L, h, inner_in w L i)));
    low = all-low;
    steps = suc sh.steps;
    tally = tally_step (Adj every_edge) (λ u v e. e) links sh.steps sh.tally P bg;
  }
    where
      all-low : (L : Path) → In L (taken links P) → AllLow (vertices L)
      all-low L (inl e) w k = low w (rw e at k)
      all-low L (inr i) w k = let r = rest-built w (L, i, k) in sh.low r.0 r.1 w r.2
