-- TAKING A PATH BACK: the build that the code keeps is what it was before the path was taken in. Assumes nothing.
use Prim.Native.Nat.{ℕ, zero, suc, ◌+◌, ◌*◌, ◌-◌, ◌<◌, ◌≤◌}
use mathlib.Core.List.{List, [], ◌∷◌, ◌++◌}
use mathlib.Core.Bool.{Bool, true, false}
use mathlib.Core.Path.{◌≡◌, refl, sym, ap, ◌∙◌, subst}
use mathlib.Core.Logic.{inl, inr, ⊎_elim, ◌≢◌}
use native.Mathlib.Omega.{arith}
use lib.ListN.{length}
use borrow.Author.Tests.{eq-eqb, ne_eqb}
use Rattle.record.specs.Read.{Read.Got, folded}
use Rattle.vertexset.specs.Set.{has, inserted, removed, word_count, capacity}
use Rattle.vertexset.specs.declared.VertexSet.{VertexSet}
use Rattle.vertexset.proofs.Laws.{inserted-has, inserted-length, removed-inserted}
use Rattle.graph.specs.Rows.{adjacent_in, row_words, joined_rows, parted_rows}
use Rattle.graph.proofs.Rows.{part_joined}
use Rattle.connectivity.specs.Lists.{In, NoDup}
use Rattle.connectivity.specs.Graph.{Graph, Adj}
use Rattle.connectivity.specs.Path.{vertices, Path}
use Rattle.connectivity.specs.Build.{IsBranch, BGPath, take_before, take_after, split_at as splitLinks}
use Rattle.connectivity.proofs.Lists.{at_most, in?, nodup_apart, nodup_right}
use Rattle.connectivity.proofs.Paths.{inner_in, inner_not_end, nodup_inner, ends_differ, end_s, end_t}
use Rattle.connectivity.proofs.Split.{piece_of, piece_in}
use Rattle.certificates.specs.Records.{further_path}
use Rattle.build.specs.declared.Build.{Build}
use Rattle.links.specs.declared.Link.{Link}
use Rattle.links.specs.declared.End.{End}
use Rattle.links.specs.declared.End.TheVariants.{Branch, Inner}
use Rattle.links.specs.declared.Addition.{Addition}
use Rattle.links.specs.Tables.{pointer_count, pointer, point_along, last_from, cleared, split_rows, split_mates, split_by, split_mates_by, is_inner, link_split, rejoined_rows, rejoined_mates}
use Rattle.build.specs.State.{end_of, path_addition, entered, raised_at, raised, path_taken, trace_of, unwound, departed, rejoined, lowered, taken_back}
use Rattle.refinement.proofs.Tests.{false_of, built_tells}
use Rattle.refinement.proofs.Pointers.{Back, along-length}
use Rattle.refinement.proofs.Mates.{ends_length}
use Rattle.refinement.proofs.Places.{same_pointers, cleared_all, all-cleared_length, all-cleared_other, all-cleared_none}
use Rattle.refinement.proofs.Splits.{Joined, Sole, branch_split, pair_on}
use Rattle.refinement.proofs.Runs.{RunsAlong, AllLow, ends, cut, parts_mated, runs-more}
use Rattle.refinement.proofs.Shows.{Shows, Listed, Placed, placed, every_edge, not_inside, branch_shown, path-of, sole_link, clear, end_branch, end_inner}
use Rattle.refinement.proofs.Rejoined.{in_front, in_back, link-again, rejoined-mates, rejoined-rows}
use Rattle.refinement.proofs.Taken.{listed-split, differ, apart, rest, rest-built, branches, last_inner, first_inner, both_inner, still_sole, raised-listed}
use Rattle.refinement.proofs.Reading.{tests, further_path_lem}
use Rattle.refinement.proofs.Clean.{Clean, Neat, neat_split, shown_neat, raised-neat, entered_pointers, enter_other}

-- a set with a vertex more tells of the others what it did
module _ (set : VertexSet) (x : ℕ) (long : length set.words ≡ word_count) (low : x < capacity) (w : ℕ) where
  inserted-kept : has set.words w ≡ true → has (inserted set x).words w ≡ true
  inserted-kept e = ap (λ (t : ℕ → Bool). t w) (inserted-has set x long low) ∙ rw e

  inserted-other : w ≢ x → has set.words w ≡ false → has (inserted set x).words w ≡ false
  inserted-other n e = ap (λ (t : ℕ → Bool). t w) (inserted-has set x long low) ∙ rw (e, ne_eqb w x n)

-- THE INNER VERTICES GO, the last first
abbrev removed_all : VertexSet → List ℕ → VertexSet
removed_all set [] = set
removed_all set (v ∷ l) = removed (removed_all set l) v

-- .. out of the set, into which the last came last
removed-all : (set : VertexSet) (l : List ℕ) → length set.words ≡ word_count → NoDup l → AllLow l → ((w : ℕ) → In w l → has set.words w ≡ false) → removed_all (folded inserted set l) l ≡ set
unfolding folded
removed-all set [] long nd low new = refl
removed-all set (v ∷ l) long nd low new =
    ap (λ (s : VertexSet). removed s v) (removed-all (inserted set v) l (inserted-length set v long) nd.1 (λ w i. low w (inr i)) (λ w i. later w i (new w (inr i))))
    ∙ removed-inserted set v long (low v (inl refl)) (new v (inl refl))
  where
    later : (w : ℕ) → In w l → has set.words w ≡ false → has (inserted set v).words w ≡ false
    later w i e = inserted-other set v long (low v (inl refl)) w (λ k. nd.0 (subst (λ (u : ℕ). In u l) k i)) e

-- .. by the pointers back to the first end
unwound-step : (k s w v : ℕ) (set : VertexSet) (p : List ℕ) → w ≢ s → pointer p 0 w ≡ v → unwound (suc k) s w set p ≡ unwound k s v (removed set w) (cleared p w)
unfolding unwound
unwound-step k s w v set p n e = rw (ne_eqb w s n, e)

unwound-done : (k s : ℕ) (set : VertexSet) (p : List ℕ) → unwound k s s set p ≡ (set, p)
unfolding unwound
unwound-done zero s set p = refl
unwound-done (suc k) s set p = rw (eq-eqb s s refl)

none-unwound : (k s v : ℕ) (set : VertexSet) (p : List ℕ) → unwound (0 + k) s v set p ≡ unwound k s v set p
none-unwound k s v set p = let z : 0 + k ≡ k = omega arith in rw z

unwound-along : (s : ℕ) (p : List ℕ) (l : List ℕ) (k v : ℕ) (set : VertexSet) → Back (pointer p 0) v l → NoDup l → ¬ In s l
    → unwound (length l + k) s (last_from v l) set p ≡ unwound k s v (removed_all set l) (cleared_all p l)
unwound-along s p [] k v set h nd n = none-unwound k s v set p
unwound-along s p (w ∷ l) k v set h nd n =
    let z : suc (length l) + k ≡ length l + suc k = omega arith in
    ap (λ (m : ℕ). unwound m s (last_from w l) set p) z
    ∙ unwound-along s p l (suc k) w set h.1 nd.1 (λ i. n (inr i))
    ∙ unwound-step k s w v (removed_all set l) (cleared_all p l) (λ e. n (inl (sym e))) (all-cleared_other p l 0 w nd.0 ∙ h.0)

-- A PATH THAT ENTERED LEAVES
module _ (c : Build) (P : Path) (long : length c.pointers ≡ pointer_count) (low : AllLow (vertices P)) where
  abbrev after : List ℕ
  after = entered_pointers c.pointers long P low

  low_inner : AllLow P.inner
  low_inner w i = low w (inner_in w P i)

  after_long : length after ≡ pointer_count
  after_long = ends_length (point_along c.pointers (vertices P)) P.inner ∙ along-length c.pointers P.s P.inner P.t ∙ long

  module _ (bare : (w : ℕ) → In w P.inner → (i : ℕ) → pointer c.pointers (i * capacity) w ≡ 0) where
    pointers_again : cleared_all after P.inner ≡ c.pointers
    pointers_again = same_pointers (cleared_all after P.inner) c.pointers (all-cleared_length after P.inner ∙ after_long) long (λ i w h k. go i w h (in? w P.inner))
      where
        go : (i w : ℕ) → i < 3 → Dec (In w P.inner) → pointer (cleared_all after P.inner) (i * capacity) w ≡ pointer c.pointers (i * capacity) w
        go i w h (yes k) = all-cleared_none after P.inner after_long low_inner i w h k ∙ sym (bare w k i)
        go i w h (no n) = all-cleared_other after P.inner i w n ∙ enter_other c.pointers long P low i w n

    module _ (nd : NoDup (vertices P)) (size : length c.sets.built.words ≡ word_count) (new : (w : ℕ) → In w P.inner → has c.sets.built.words w ≡ false) (backs : Back (pointer after 0) P.s P.inner) where
      unwound-again : unwound capacity P.s (last_from P.s P.inner) (folded inserted c.sets.built P.inner) after ≡ (c.sets.built, c.pointers)
      unwound-again =
          let short : length P.inner ≤ capacity = at_most capacity P.inner (nodup_inner P nd) low_inner in
          let z : capacity ≡ length P.inner + (capacity - length P.inner) = omega arith in
          ap (λ (m : ℕ). unwound m P.s (last_from P.s P.inner) (folded inserted c.sets.built P.inner) after) z
          ∙ unwound-along P.s after P.inner (capacity - length P.inner) P.s (folded inserted c.sets.built P.inner) backs (nodup_inner P nd) (λ i. inner_not_end P nd P.s i (inl refl))
          ∙ unwound-done (capacity - length P.inner) P.s (removed_all (folded inserted c.sets.built P.inner) P.inner) (cleared_all after P.inner)
          ∙ pair (removed-all c.sets.built P.inner size (nodup_inner P nd) low_inner new) pointers_again
        where
          pair : {s t : VertexSet} {p q : List ℕ} → s ≡ t → p ≡ q → ◌≡◌ {A = VertexSet × List ℕ} (s, p) (t, q)
          pair e f i = (e i, f i)

      pub departed-entered : (b : Build) → length c.linked ≡ row_words → adjacent_in c.linked P.s P.t ≡ false → adjacent_in c.linked P.t P.s ≡ false → departed (entered c P) (trace_of b P) ≡ c
      departed-entered b rows n m =
          let l : parted_rows (joined_rows c.linked P.s P.t) P.t P.s ≡ c.linked = part_joined c.linked rows P.s P.t (low P.s (end_s P)) (low P.t (end_t P)) (ends_differ P nd) n m in
          λ i. record { sets = record { branch = c.sets.branch; built = (unwound-again i).0 }; pointers = (unwound-again i).1; linked = l i }

-- AN END THAT WAS RAISED IS LOWERED
abbrev split_end : Build → End → Build
split_end c (Branch v) = c
split_end c (Inner v l) = record { sets = record { branch = inserted c.sets.branch v; built = c.sets.built }; pointers = split_mates c.pointers v l; linked = split_rows c.linked v l }

-- .. where a link was split, which the pointers tell
rejoined-link : (c : Build) (x : ℕ) (l : Link) → link_split c.pointers c.sets.branch x ≡ l
    → rejoined c x ≡ record { sets = record { branch = removed c.sets.branch x; built = c.sets.built }; pointers = rejoined_mates c.pointers x l; linked = rejoined_rows c.linked x l }
rejoined-link c x l f = λ i. record {
  sets = record { branch = removed c.sets.branch x; built = c.sets.built };
  pointers = rejoined_mates c.pointers x (f i);
  linked = rejoined_rows c.linked x (f i);
}

-- a build beside links of which K can be split at x
record Splits (c : Build) (ls : List Path) (x : ℕ) (K : Path) : Type 0 where
  neat : Neat c.pointers ls
  listed : Listed c.linked ls
  size : length c.sets.branch.words ≡ word_count
  from : has c.sets.branch.words K.s ≡ true
  upto : has c.sets.branch.words K.t ≡ true
  flat : (w : ℕ) → In w K.inner → has c.sets.branch.words w ≡ false
  alone : ¬ IsBranch x ls
  one : Sole ls x K
  nodup : NoDup (vertices K)
  low : AllLow (vertices K)

lowered-split : (c : Build) (ls : List Path) (x : ℕ) (K : Path) → Splits c ls x K → rejoined (split_end c (Inner x (ends K))) x ≡ c
lowered-split c ls x K r =
    let p = rejoined-mates c.pointers long K x inside runs r.low (r.neat.tidy.middle K r.one.there) in
    let t = rejoined-rows c.linked ls r.listed x K r.one r.nodup r.low r.alone in
    let s = removed-inserted c.sets.branch x r.size low (r.flat x inside) in
    rejoined-link (split_end c (Inner x (ends K))) x (ends K) again ∙ (λ j. record { sets = record { branch = s j; built = c.sets.built }; pointers = p j; linked = t j })
  where
    inside : In x K.inner
    inside = r.one.inside

    low : x < capacity
    low = r.low x (inner_in x K inside)

    cut-nodup : NoDup (take_before x K.inner ++ (x ∷ take_after x K.inner))
    cut-nodup = subst (λ (l : List ℕ). NoDup l) (cut K x inside) (nodup_inner K r.nodup)

    long : length c.pointers ≡ pointer_count
    long = r.neat.pointing.0

    runs : RunsAlong c.pointers K
    runs = r.neat.pointing.1 K r.one.there

    other : (w : ℕ) → In w K.inner → w ≢ x → has (inserted c.sets.branch x).words w ≡ false
    other w i n = inserted-other c.sets.branch x r.size low w n (r.flat w i)

    again : link_split (split_mates c.pointers x (ends K)) (inserted c.sets.branch x) x ≡ ends K
    again =
        link-again c.pointers long K x inside runs (inserted c.sets.branch x) (inserted-kept c.sets.branch x r.size low K.s r.from) (inserted-kept c.sets.branch x r.size low K.t r.upto)
        (λ w i. other w (in_front c.pointers long K x inside runs w i) (λ e. nodup_apart (take_before x K.inner) (x ∷ take_after x K.inner) cut-nodup w i (inl e)))
        (λ w i. other w (in_back c.pointers long K x inside runs w i) (λ e. (nodup_right (take_before x K.inner) (x ∷ take_after x K.inner) cut-nodup).0 (subst (λ (u : ℕ). In u (take_after x K.inner)) e i)))
        (parts_mated c.pointers ls r.neat.pointing x K r.one r.nodup r.low)

-- the build with both ends raised, by the ends and the addition
abbrev raised_by : Build → End → End → Addition → Build
raised_by b d e a = record {
  sets = record { branch = raised_at (raised_at b.sets.branch d) e; built = b.sets.built };
  pointers = split_mates_by b.pointers a;
  linked = split_by b.linked a;
}

abbrev Again : Build → Path → End → End → Addition → Type 0
Again b P d e a = lowered (lowered (raised_by b d e a) P.t (is_inner e)) P.s (is_inner d) ≡ b

again_by : (b : Build) (P : Path) {d D e E : End} {a A : Addition} → d ≡ D → e ≡ E → a ≡ A → Again b P D E A → Again b P d e a
again_by b P {d} {D} {e} {E} {a} {A} p q r h = subst (λ (z : End). Again b P z e a) (sym p) (subst (λ (z : End). Again b P D z a) (sym q) (subst (λ (z : Addition). Again b P D E z) (sym r) h))

-- THE STEP BACK
module _ {b : Build} {links : List Path} (sh : Shows b links) (clean : Clean b links) (P : Path) (bg : BGPath (Adj every_edge) links P) (low : AllLow (vertices P)) where
  -- no link that is there before the path has both its ends
  never : (L : Path) → In L (rest sh P bg low) → In P.s (vertices L) → ¬ In P.t (vertices L)
  never L m i j =
      let r = piece_of P.s (splitLinks P.t links) L m in
      let q = piece_of P.t links r.0 r.1 in
      apart sh P bg low (q.0, q.1, piece_in P.t P.s q.0 r.0 q.2 (piece_in P.s P.s r.0 L r.2 i), piece_in P.t P.t q.0 r.0 q.2 (piece_in P.s P.t r.0 L r.2 j))

  none-there : ¬ Joined (rest sh P bg low) P.s P.t
  none-there r = let e = pair_on r.0 P.s P.t r.2 in never r.0 r.1 e.0 e.1

  none-back : ¬ Joined (rest sh P bg low) P.t P.s
  none-back r = let e = pair_on r.0 P.t P.s r.2 in never r.0 r.1 e.1 e.0

  left : departed (entered (raised b P) P) (trace_of b P) ≡ raised b P
  left =
      let n = raised-neat sh clean P bg low in
      let l = raised-listed sh P bg low in
      departed-entered (raised b P) P n.pointing.0 low (λ w i. n.tidy.outside w (λ r. bg.new w i (rest-built sh P bg low w r))) bg.is_path.nodup sh.sizes.built
      (λ w i. sh.built w ∙ false_of (λ e. bg.new w i ((built_tells links w).0 e)))
      (runs-more (raised b P).pointers (rest sh P bg low) n.pointing P bg.is_path.nodup low (λ L h w i j. bg.new w j (rest-built sh P bg low w (L, h, inner_in w L i))) P (inl refl)).0
      b l.long (false_of (λ e. none-there ((l.tells P.s P.t).0 e))) (false_of (λ e. none-back ((l.tells P.t P.s).0 e)))

  module _ (x : ℕ) (K : Path) (h : In K links) (i : In x K.inner) where
    alone_inside : ¬ IsBranch x links
    alone_inside r = not_inside sh x r K h i

    once : Splits b links x K
    once = record {
      neat = shown_neat sh clean P bg low;
      listed = sh.linked;
      size = sh.sizes.branch;
      from = (branch_shown sh K.s).1 (K, h, inl refl);
      upto = (branch_shown sh K.t).1 (K, h, inr refl);
      flat = clear sh K h;
      alone = alone_inside;
      one = sole_link sh K h x i;
      nodup = path-of sh K h;
      low = sh.low K h;
    }

  -- after the split at the first end the link with the last one inside can still be split
  twice : (K M : Path) (h : In K links) (k : In M links) (i : In P.s K.inner) (j : In P.t M.inner) → Splits (split_end b (Inner P.s (ends K))) (splitLinks P.s links) P.t M
  twice K M h k i j =
      let r = once P.s K h i in
      record {
        neat = neat_split b.pointers links r.neat P.s K r.one r.nodup r.low;
        listed = listed-split b.linked links sh.linked P.s K r.one r.low;
        size = inserted-length b.sets.branch P.s sh.sizes.branch;
        from = inserted-kept b.sets.branch P.s sh.sizes.branch (low P.s (end_s P)) M.s ((branch_shown sh M.s).1 (M, k, inl refl));
        upto = inserted-kept b.sets.branch P.s sh.sizes.branch (low P.s (end_s P)) M.t ((branch_shown sh M.t).1 (M, k, inr refl));
        flat = λ w l. inserted-other b.sets.branch P.s sh.sizes.branch (low P.s (end_s P)) w
            (λ e. apart sh P bg low (M, k, subst (λ (u : ℕ). In u (vertices M)) e (inner_in w M l), inner_in P.t M j)) (clear sh M k w l);
        alone = λ q. ⊎_elim (λ e. differ sh P bg low (sym e)) (alone_inside P.t M k j) (branch_split P.s links P.t q);
        one = still_sole sh P bg low M k j;
        nodup = path-of sh M k;
        low = sh.low M k;
      }

  lowered-raised : Again b P (end_of b P.s) (end_of b P.t) (path_addition b P)
  lowered-raised = go (placed sh P.s bg.from) (placed sh P.t bg.upto)
    where
      go : Placed sh P.s → Placed sh P.t → Again b P (end_of b P.s) (end_of b P.t) (path_addition b P)
      go (inl p) (inl q) = again_by b P (end_branch sh P.s p) (end_branch sh P.t q) (branches sh P bg low p q) refl
      go (inl p) (inr q) = again_by b P (end_branch sh P.s p) (end_inner sh P.t q.0 q.1 q.2) (last_inner sh P bg low p q.0 q.1 q.2) (lowered-split b links P.t q.0 (once P.t q.0 q.1 q.2))
      go (inr p) (inl q) = again_by b P (end_inner sh P.s p.0 p.1 p.2) (end_branch sh P.t q) (first_inner sh P bg low p.0 p.1 p.2 q) (lowered-split b links P.s p.0 (once P.s p.0 p.1 p.2))
      go (inr p) (inr q) = again_by b P (end_inner sh P.s p.0 p.1 p.2) (end_inner sh P.t q.0 q.1 q.2) (both_inner sh P bg low p.0 q.0 p.1 q.1 p.2 q.2)
          (ap (λ (c : Build). rejoined c P.s) (lowered-split (split_end b (Inner P.s (ends p.0))) (splitLinks P.s links) P.t q.0 (twice p.0 q.0 p.1 q.1 p.2 q.2))
          ∙ lowered-split b links P.s p.0 (once P.s p.0 p.1 p.2))

pub taken_back_lem : {b : Build} {links : List Path} → Shows b links → Clean b links → (P : Path) → BGPath (Adj every_edge) links P → AllLow (vertices P) → taken_back (path_taken b P) (trace_of b P) ≡ b
taken_back_lem {b} sh clean P bg low = ap (λ (c : Build). lowered (lowered c P.t (is_inner (end_of b P.t))) P.s (is_inner (end_of b P.s))) (left sh clean P bg low) ∙ lowered-raised sh clean P bg low

pub back_read : (g : Graph) (links : List Path) (s : List ℕ) (at : ℕ) {P : Path} {next : ℕ} → further_path g links s at ≡ Got P next → g.n ≤ capacity → {b : Build} → Shows b links → Clean b links → taken_back (path_taken b P) (trace_of b P) ≡ b
back_read g links s at {P} e h sh clean = taken_back_lem sh clean P (further_path_lem g links s at e) (λ w i. let z = (tests g links s at e).low w i in omega arith)
