-- WHAT THE TABLES HOLD BESIDE THE LINKS: nothing for a vertex that is not in, and no mates inside a link; so it is after the start and after every path. Assumes nothing.
use Prim.Native.Nat.{ℕ, ◌+◌, ◌*◌, ◌≤◌}
use mathlib.Core.List.{List, [], ◌∷◌, ◌++◌}
use mathlib.Core.Bool.{Bool, true, false, cond}
use mathlib.Core.Path.{◌≡◌, refl, sym, ap, ◌∙◌, subst}
use mathlib.Core.Logic.{◌⊎◌, inl, inr, ⊎_elim, ◌≢◌}
use native.Mathlib.Omega.{arith}
use lib.Dec.{ltb}
use lib.ListN.{length, get_or}
use Rattle.record.specs.Read.{Read.Got, ◌▸◌, folded}
use Rattle.vertexset.specs.Set.{capacity}
use Rattle.vertexset.proofs.Laws.{zeros-at}
use Rattle.connectivity.specs.Lists.{In, NoDup}
use Rattle.connectivity.specs.Graph.{Graph, Adj}
use Rattle.connectivity.specs.Path.{vertices, Path}
use Rattle.connectivity.specs.Build.{InBuild, BGPath, Starts, taken, take_before, take_after, front_part, back_part, split_at as splitLinks}
use Rattle.connectivity.proofs.Lists.{nodup_apart, nodup_right}
use Rattle.connectivity.proofs.Paths.{head_of, inner_in, nodup_inner}
use Rattle.connectivity.proofs.Split.{Piece, Piece.whole, Piece.front, Piece.back, piece_of, split_kept}
use Rattle.certificates.specs.Records.{branch_four, start_paths, further_path}
use Rattle.build.specs.declared.Build.{Build}
use Rattle.links.specs.Tables.{pointer_count, pointer, pointed, mates, point_along, last_from, mated_ends, split_mates, split_mates_by}
use Rattle.build.specs.State.{BuildStart, start_entered, started_build, bare_pointers, path_addition, path_taken}
use Rattle.refinement.proofs.Pointers.{along-length, along-other}
use Rattle.refinement.proofs.Mates.{last_in, ends_length, remated_ends}
use Rattle.refinement.proofs.Places.{pointed-other, along-mates}
use Rattle.refinement.proofs.Splits.{Sole}
use Rattle.refinement.proofs.Runs.{Pointing, RunsAlong, AllLow, ends, cut, first_cut, last_of-cut, pointing_split}
use Rattle.refinement.proofs.Shows.{Shows, every_edge}
use Rattle.refinement.proofs.Rejoined.{split_other, split_away, left_is, right_is, left_in_lem, right_in, in_front, in_back}
use Rattle.refinement.proofs.Taken.{rest, rest-built, raised-rest}
use Rattle.refinement.proofs.Reading.{tests, further_path_lem}
use Rattle.refinement.proofs.Start.{Four, four_of, Ascends, pair-got, four-read, bare_start, onto, within_more, all, there, back as started}

-- no mates inside a link
abbrev pub Middle : List ℕ → List Path → Type 0
Middle p links = (L : Path) → In L links → (w : ℕ) → In w L.inner → w ≢ head_of L.inner 0 → w ≢ last_from 0 L.inner → pointer p mates w ≡ 0

-- what a table holds beside the links: a vertex that is not in points to nothing, and of a link's inner vertices only the outermost have mates
pub record Tidy (p : List ℕ) (links : List Path) : Type 0 where
  pub outside : (w : ℕ) → ¬ InBuild w links → (i : ℕ) → pointer p (i * capacity) w ≡ 0
  pub middle : Middle p links

-- .. and so a build's
abbrev pub Clean : Build → List Path → Type 0
Clean b links = Tidy b.pointers links

-- the outermost of a list that is not empty, whatever stands for them where it is
head_any : (w : ℕ) (l : List ℕ) → In w l → (a b : ℕ) → head_of l a ≡ head_of l b
head_any w [] h a b = absurd h
head_any w (v ∷ l) h a b = refl

last_any : (w : ℕ) (l : List ℕ) → In w l → (a b : ℕ) → last_from a l ≡ last_from b l
last_any w [] h a b = absurd h
last_any w (v ∷ l) h a b = refl

head_or : (l : List ℕ) (x : ℕ) → (head_of l x ≡ x) ⊎ In (head_of l x) l
head_or [] x = inl refl
head_or (v ∷ l) x = inr (inl refl)

-- A LINK IS SPLIT: what is inside a piece was inside the link, and the split does not touch it
module _ (p : List ℕ) (links : List Path) (pointing : Pointing p links) (tidy : Tidy p links) (x : ℕ) (K : Path) (one : Sole links x K) (nd : NoDup (vertices K)) where
  long : length p ≡ pointer_count
  long = pointing.0

  runs : RunsAlong p K
  runs = pointing.1 K one.there

  abbrev front_of : List ℕ
  front_of = take_before x K.inner

  abbrev back-of : List ℕ
  back-of = take_after x K.inner

  cut-nodup : NoDup (front_of ++ (x ∷ back-of))
  cut-nodup = subst (λ (l : List ℕ). NoDup l) (cut K x one.inside) (nodup_inner K nd)

  disjoint : (w : ℕ) → In w front_of → ¬ In w (x ∷ back-of)
  disjoint w i = nodup_apart front_of (x ∷ back-of) cut-nodup w i

  front_middle : (w : ℕ) → In w front_of → w ≢ head_of front_of 0 → w ≢ last_from 0 front_of → pointer (split_mates p x (ends K)) mates w ≡ 0
  front_middle w i nf nl =
      let f : w ≢ head_of K.inner 0 = λ e. nf (e ∙ first_cut K x one.inside ∙ head_any w front_of i x 0) in
      let l : w ≢ last_from 0 K.inner = λ e. disjoint w i (subst (λ (z : ℕ). In z (x ∷ back-of)) (sym (e ∙ last_of-cut K x one.inside)) (last_in x back-of)) in
      split_other p long K x one.inside runs 2 w (λ z. (f, l, λ k. nl (k.1 ∙ left_is p long K x one.inside runs ∙ last_any w front_of i K.s 0), λ k. disjoint w i (inr (subst (λ (z : ℕ). In z back-of) (sym k.1) (right_in p long K x one.inside runs k.0)))))
      ∙ tidy.middle K one.there w (in_front p long K x one.inside runs w i) f l

  back-middle : (w : ℕ) → In w back-of → w ≢ head_of back-of 0 → w ≢ last_from 0 back-of → pointer (split_mates p x (ends K)) mates w ≡ 0
  back-middle w i nf nl =
      let f : w ≢ head_of K.inner 0 = λ e. ⊎_elim (λ k. (nodup_right front_of (x ∷ back-of) cut-nodup).0 (subst (λ (u : ℕ). In u back-of) (e ∙ first_cut K x one.inside ∙ k) i))
      (λ k. disjoint w (rw (e ∙ first_cut K x one.inside) k) (inr i)) (head_or front_of x) in
      let l : w ≢ last_from 0 K.inner = λ e. nl (e ∙ last_of-cut K x one.inside ∙ last_any w back-of i x 0) in
      split_other p long K x one.inside runs 2 w (λ z. (f, l, λ k. disjoint w (rw k.1 (left_in_lem p long K x one.inside runs k.0)) (inr i), λ k. nf (k.1 ∙ right_is p long K x one.inside runs ∙ head_any w back-of i K.t 0)))
      ∙ tidy.middle K one.there w (in_back p long K x one.inside runs w i) f l

  abbrev NoneInside : Path → Type 0
  NoneInside M = (w : ℕ) → In w M.inner → w ≢ head_of M.inner 0 → w ≢ last_from 0 M.inner → pointer (split_mates p x (ends K)) mates w ≡ 0

  pieces : (M L : Path) → In L links → Piece x L M → NoneInside M
  pieces M L i (whole n e) = subst NoneInside (sym e) (λ w j nf nl. split_away p long K x one.inside runs 2 w (λ k. n (rw (one.only L i w k j) one.inside)) ∙ tidy.middle L i w j nf nl)
  pieces M L i (front k e) = subst NoneInside (sym (e ∙ ap (front_part x) (one.only L i x one.inside k))) front_middle
  pieces M L i (back k e) = subst NoneInside (sym (e ∙ ap (back_part x) (one.only L i x one.inside k))) back-middle

  pub tidy_split : Tidy (split_mates p x (ends K)) (splitLinks x links)
  tidy_split = record {
    outside = λ w n i. split_away p long K x one.inside runs i w (λ k. n (split_kept x w links (K, one.there, inner_in w K k))) ∙ tidy.outside w (λ r. n (split_kept x w links r)) i;
    middle = λ M m. let s = piece_of x links M m in pieces M s.0 s.1 s.2;
  }

-- A PATH ENTERS: only its own inner vertices point anew, and only the outermost of them have mates
ends_other : (p l : List ℕ) (w : ℕ) → w ≢ head_of l 0 → w ≢ last_from 0 l → pointer (mated_ends p l) mates w ≡ pointer p mates w
ends_other p [] w nf nl = refl
ends_other p (v ∷ l) w nf nl = pointed-other (pointed p mates v (last_from v l)) 2 (last_from v l) v 2 w (λ e. nl) ∙ pointed-other p 2 v (last_from v l) 2 w (λ e. nf)

module _ (p : List ℕ) (long : length p ≡ pointer_count) (P : Path) (low : AllLow (vertices P)) where
  abbrev pub entered_pointers : List ℕ
  entered_pointers = mated_ends (point_along p (vertices P)) P.inner

  pub enter_other : (i w : ℕ) → ¬ In w P.inner → pointer entered_pointers (i * capacity) w ≡ pointer p (i * capacity) w
  enter_other i w n =
      let set = remated_ends (point_along p (vertices P)) (along-length p P.s P.inner P.t ∙ long) P.inner (λ u j. low u (inner_in u P j)) in
      set.others i w (λ e. n) ∙ along-other p P.s P.inner P.t i w n

  enter_middle : (w : ℕ) → w ≢ head_of P.inner 0 → w ≢ last_from 0 P.inner → pointer entered_pointers mates w ≡ pointer p mates w
  enter_middle w nf nl = ends_other (point_along p (vertices P)) P.inner w nf nl ∙ along-mates p P.s P.inner P.t w

  middle_more : (links : List Path) → Middle p links → ((w : ℕ) → In w P.inner → pointer p mates w ≡ 0) → ((L : Path) → In L links → (w : ℕ) → In w L.inner → ¬ In w P.inner) → Middle entered_pointers (P ∷ links)
  middle_more links old none new M (inl e) = subst (λ (N : Path). (w : ℕ) → In w N.inner → w ≢ head_of N.inner 0 → w ≢ last_from 0 N.inner → pointer entered_pointers mates w ≡ 0) (sym e)
      (λ w i nf nl. enter_middle w nf nl ∙ none w i)
  middle_more links old none new M (inr m) = λ w i nf nl. enter_other 2 w (new M m w i) ∙ old M m w i nf nl

  tidy_more : (links : List Path) → Tidy p links → ((w : ℕ) → In w P.inner → ¬ InBuild w links) → Tidy entered_pointers (P ∷ links)
  tidy_more links tidy new = record {
    outside = λ w n i. enter_other i w (λ k. n (P, inl refl, inner_in w P k)) ∙ tidy.outside w (λ r. n (r.0, inr r.1, r.2)) i;
    middle = middle_more links tidy.middle (λ w i. tidy.outside w (new w i) 2) (λ L m w i k. new w k (L, m, inner_in w L i));
  }

-- a table of pointers that run along links, and hold nothing beside them
pub record Neat (p : List ℕ) (links : List Path) : Type 0 where
  pub pointing : Pointing p links
  pub tidy : Tidy p links

pub neat_split : (p : List ℕ) (links : List Path) → Neat p links → (x : ℕ) (K : Path) → Sole links x K → NoDup (vertices K) → AllLow (vertices K) → Neat (split_mates p x (ends K)) (splitLinks x links)
neat_split p links n x K one nd low = record { pointing = pointing_split p links n.pointing x K one nd low; tidy = tidy_split p links n.pointing n.tidy x K one nd }

-- A PATH THAT IS TAKEN IN
module _ {b : Build} {links : List Path} (sh : Shows b links) (clean : Clean b links) (P : Path) (bg : BGPath (Adj every_edge) links P) (low : AllLow (vertices P)) where
  pub shown_neat : Neat b.pointers links
  shown_neat = record { pointing = (sh.sizes.pointers, sh.runs); tidy = clean }

  pub raised-neat : Neat (split_mates_by b.pointers (path_addition b P)) (rest sh P bg low)
  raised-neat = raised-rest sh P bg low split_mates Neat neat_split b.pointers shown_neat

pub clean_taken : {b : Build} {links : List Path} → Shows b links → Clean b links → (P : Path) → BGPath (Adj every_edge) links P → AllLow (vertices P) → Clean (path_taken b P) (taken links P)
clean_taken {b} sh clean P bg low =
    let n = raised-neat sh clean P bg low in
    tidy_more (split_mates_by b.pointers (path_addition b P)) n.pointing.0 P low (rest sh P bg low) n.tidy (λ w i r. bg.new w i (rest-built sh P bg low w r))

pub clean_read : (g : Graph) (links : List Path) (s : List ℕ) (at : ℕ) {P : Path} {next : ℕ} → further_path g links s at ≡ Got P next → g.n ≤ capacity → {b : Build} → Shows b links → Clean b links → Clean (path_taken b P) (taken links P)
clean_read g links s at {P} e h sh clean = clean_taken sh clean P (further_path_lem g links s at e) (λ w i. let z = (tests g links s at e).low w i in omega arith)

-- THE START: not even its branch vertices point to anything
record Fresh (p : List ℕ) (links : List Path) : Type 0 where
  long : length p ≡ pointer_count
  outside : (w : ℕ) → ((L : Path) → In L links → ¬ In w L.inner) → (i : ℕ) → pointer p (i * capacity) w ≡ 0
  middle : Middle p links

fresh_bare : Fresh bare_pointers []
fresh_bare = record { long = refl; outside = λ w n i. go (i * capacity) w (ltb w capacity); middle = λ L m. absurd m }
  where
    go : (k w : ℕ) (t : Bool) → cond t (get_or bare_pointers (k + w) 0) 0 ≡ 0
    go k w true = zeros-at pointer_count (k + w)
    go k w false = refl

fresh_more : (B : List ℕ) (ps done : List Path) (st : BuildStart) → Starts (Adj every_edge) B ps → ((L : Path) → In L ps → AllLow (vertices L)) → ((L : Path) → In L done → (w : ℕ) → In w L.inner → In w B)
    → Fresh st.build.pointers done → Fresh (folded start_entered st ps).build.pointers (onto ps done)
unfolding folded
fresh_more B [] done st starts low inner f = f
fresh_more B (P ∷ ps) done st starts low inner f = fresh_more (P.inner ++ B) ps (P ∷ done) (start_entered st P) starts.2 (λ L i. low L (inr i)) (within_more P done B inner) entering
  where
    new : (L : Path) → In L done → (w : ℕ) → In w L.inner → ¬ In w P.inner
    new L m w i k = starts.1 w k (inner L m w i)

    entering : Fresh (start_entered st P).build.pointers (P ∷ done)
    entering =
        let p = st.build.pointers in
        record {
          long = ends_length (point_along p (vertices P)) P.inner ∙ along-length p P.s P.inner P.t ∙ f.long;
          outside = λ w n i. enter_other p f.long P (low P (inl refl)) i w (n P (inl refl)) ∙ f.outside w (λ L m. n L (inr m)) i;
          middle = middle_more p f.long P (low P (inl refl)) done f.middle (λ w k. f.outside w (λ L m i. new L m w i k) 2) new;
        }

module _ (g : Graph) (h : g.n ≤ capacity) (b : Four) (asc : Ascends g.n b) (s : List ℕ) (at : ℕ) (start : List Path) {next : ℕ} (e : start_paths g b s at ≡ Got start next) where
  started_fresh : Fresh (started_build (b, start)).pointers (onto start [])
  started_fresh = let r = all g h b asc s at start e in fresh_more (four_of b) start [] (bare_start b) r.starts r.low (λ L i. absurd i) fresh_bare

  started_clean : Clean (started_build (b, start)) start
  started_clean = record {
    outside = λ w k. started_fresh.outside w (λ L m i. k (L, started g h b asc s at start e L m, inner_in w L i));
    middle = λ L m. started_fresh.middle L (there g h b asc s at start e L m);
  }

pub clean_start : (g : Graph) → g.n ≤ capacity → (s : List ℕ) (at : ℕ) {x : Four × List Path} {next : ℕ} → (branch_four g.n ▸ λ b. start_paths g b) s at ≡ Got x next → Clean (started_build x) x.1
clean_start g h s at {x} e =
    let r = pair-got (branch_four g.n) (λ b. start_paths g b) e in
    started_clean g h x.0 (four-read g.n s at r.1) s r.0 x.1 r.2
