-- THE CERTIFICATE OF A GRAPH KEEPS EVERY RULE: what the definition gives is the record of a certificate, and fits one.
use Prim.Native.Nat.{ℕ, ◌-◌, ◌≤◌, ◌<◌}
use mathlib.Core.Path.{◌≡◌, refl, sym, ap, subst, ◌∙◌}
use mathlib.Core.Bool.{Bool, true, false, cond}
use mathlib.Core.Logic.{◌⊎◌, inl, inr, ⊎_elim}
use mathlib.Core.List.{List, [], ◌∷◌, ◌++◌}
use native.Mathlib.Omega.{arith}
use lib.ListN.{length, get_or}
use borrow.Author.Tests.{lt-ltb, le-ltb}
use Rattle.vertexset.specs.Set.{has, empty_set, count}
use Rattle.graph.specs.Limits.{max_edges}
use Rattle.certificates.specs.Encoding.{certificate_bytes}
use Rattle.certificates.specs.Lengths.{path_numbers, pair_numbers, record_numbers}
use Rattle.certificates.proofs.Lengths.{numbers_bytes, kind-first}
use Rattle.connectivity.specs.Lists.{In, Ascending, select, below}
use Rattle.connectivity.specs.Graph.{Graph, edge_count}
use Rattle.connectivity.specs.Path.{Path}
use Rattle.connectivity.specs.Build.{end_pairs}
use Rattle.connectivity.specs.Certificate.{Certificate, kind, Rules, Separation}
use Rattle.connectivity.proofs.Lists.{ascending_below, in_below, below_in, select_in, in_select}
use Rattle.connectivity.proofs.Progress.{built_low}
use Rattle.connectivity.proofs.Completeness.{side-separation}
use Rattle.construction.specs.Sets.{minus, members, empty}
use Rattle.construction.specs.Search.{Reach}
use Rattle.construction.specs.Ears.{Cut, cut, no_cut, Eared, ears, path_space}
use Rattle.construction.specs.Start.{begin}
use Rattle.construction.specs.Steps.{build, finish}
use Rattle.construction.specs.Certificate.{certificate_room, lengthened, pairs_from, evidence, side_numbers, cut_numbers, build_numbers, chosen, cut_certificate, build_certificate, begun_certificate, full_set, certificate_numbers, certificate_record}
use Rattle.graph.specs.Rows.{rows_graph}
use Rattle.construction.proofs.Basics.{Drawn, IsCut}
use Rattle.construction.proofs.SetLaws.{sized_empty, empty-on, members-in, members-nodup, members-ascending, members-count, members-same}
use Rattle.construction.proofs.SpanningTree.{tree_of, pairs_of, tree_numbers_lem, tree_of_lem, tree_count, tree_cut}
use Rattle.construction.proofs.Detours.{OneCut, low_capacity}
use Rattle.construction.proofs.EarLaws.{EarsFound, ears-law}
use Rattle.construction.proofs.StartLaws.{Started, begin-law}
use Rattle.construction.proofs.BuildLaws.{Built, build-law}
use Rattle.construction.proofs.Flat.{newest_first, built_newest}
use Rattle.construction.proofs.FinishLaws.{FinishedWith, finish-law}
use Rattle.construction.proofs.NumberLaws.{lengthened-paths}
use Rattle.construction.proofs.CutRecords.{Written, none_written, one_written, two_written, ear-vertex}
use Rattle.construction.proofs.BuildRecords.{build-written}
use Rattle.record.specs.Number.{number_bytes, list_bytes, number_limit}

-- numbers alone: omega is slow beside sets
none_of : (k c : ℕ) → k ≡ c → k ≤ 1 → c < 2
none_of k c e h = omega arith

two_of : (k c : ℕ) → k ≡ c → 2 ≤ k → 2 ≤ c
two_of k c e h = omega arith

module _ (rows : List ℕ) (n : ℕ) (d : Drawn rows n) where
  abbrev g : Graph
  g = rows_graph n rows

  -- THE SIDE OF A CUT, as it is written
  side-of : (c : Cut) → IsCut rows n c → Separation g (members c.removed) (members c.side)
  side-of c i = subst (λ (l : List ℕ). Separation g (members c.removed) l) (sym same) (subst (λ (f : ℕ → Bool). Separation g (members c.removed) (select f (below n))) i.same_side (side-separation g (members c.removed) i.separated))
    where
      side : ℕ → Bool
      side = has c.side.words

      same : members c.side ≡ select side (below n)
      same = members-same c.side (select side (below n)) i.side-sized (ascending_below side n) (λ x h. low_capacity n x d.low (in_below n x (select_in side (below n) x h).0)) (λ x h. (select_in side (below n) x h).1)
          (λ x o. in_select side (below n) x (below_in n x (i.side-low x o)) o)

  -- the side beside the removed vertices, once these are known
  side-as : (c : Cut) → IsCut rows n c → (R : List ℕ) → members c.removed ≡ R → Separation g R (members c.side)
  side-as c i R h = subst (λ (l : List ℕ). Separation g l (members c.side)) h (side-of c i)

  removed-low : (c : Cut) → IsCut rows n c → (R : List ℕ) → members c.removed ≡ R → (w : ℕ) → In w R → w < n
  removed-low c i R h w k = i.low w (members-in c.removed w (subst (λ (l : List ℕ). In w l) (sym h) k))

  cut_as : (t : Reach) (e : Eared) (c : Cut) (R : List ℕ) → members c.removed ≡ R → Written g (length R ∷ (R ++ (evidence t e (length R) ++ side_numbers c.side))) → Written g (cut_numbers t e c)
  cut_as t e c R h = subst (λ (l : List ℕ). Written g (length l ∷ (l ++ (evidence t e (length l) ++ side_numbers c.side)))) (sym h)

  -- NOTHING, ONE VERTEX OR TWO REMOVED
  cut-none : (t : Reach) (e : Eared) (c : Cut) → IsCut rows n c → members c.removed ≡ [] → Written g (cut_numbers t e c)
  cut-none t e c i h = cut_as t e c [] h (none_written g d.simple d.low (members c.side) (side-as c i [] h) (members-nodup c.side))

  abbrev Spans : Type 0
  Spans = empty (minus (full_set n) (tree_of rows).shut) ≡ true

  abbrev pairs : List (ℕ × ℕ)
  pairs = pairs_of (tree_of rows).order (tree_of rows).from (length (tree_of rows).order - 1) 1

  cut-one : Spans → (e : Eared) (c : Cut) → IsCut rows n c → (r : ℕ) → members c.removed ≡ r ∷ [] → Written g (cut_numbers (tree_of rows) e c)
  cut-one all e c i r h = cut_as (tree_of rows) e c (r ∷ []) h
      (subst (λ (l : List ℕ). Written g (1 ∷ (r ∷ ((0 ∷ l) ++ side_numbers c.side)))) (sym same)
      (one_written g d.simple d.low r 0 pairs (members c.side)
      (record { c_low = removed-low c i (r ∷ []) h r (inl refl); first_low = zero_low; count = tree_count rows n d all; tree = tree_of_lem rows n d; separation = side-as c i (r ∷ []) h })
      (members-nodup c.side)))
    where
      same : pairs_from (tree_of rows).order (tree_of rows).from (length (tree_of rows).order - 1) 1 ≡ pair_numbers pairs
      same = tree_numbers_lem (tree_of rows).order (tree_of rows).from (length (tree_of rows).order - 1) 1

      zero_low : 0 < n
      zero_low = omega (arith, d.simple.big)

  cut-two : (c : Cut) → IsCut rows n c → (r q : ℕ) → members c.removed ≡ r ∷ (q ∷ []) → EarsFound rows n d → Written g (cut_numbers (tree_of rows) (ears rows (full_set n)) c)
  cut-two c i r q h k = cut_as (tree_of rows) (ears rows (full_set n)) c (r ∷ (q ∷ [])) h
      (subst (λ (l : List ℕ). Written g (2 ∷ (r ∷ (q ∷ (l ++ side_numbers c.side))))) (sym same)
      (two_written g d.simple d.low r q k.o.first k.o.later (members c.side)
      (record { order = order; low = removed-low c i (r ∷ (q ∷ [])) h q (inr (inl refl)); count = k.o.count; first = k.o.cycle; ears = k.o.are_ears; all_in = k.o.all_in; separation = side-as c i (r ∷ (q ∷ [])) h })
      (members-nodup c.side)))
    where
      all : List Path
      all = k.o.first ∷ k.o.later

      order : r < q
      order = (subst (λ (l : List ℕ). Ascending l) h (members-ascending c.removed)).0

      same : (ears rows (full_set n)).count ∷ (lengthened (ears rows (full_set n)).flat).0 ≡ length all ∷ path_numbers all
      same = (λ j. k.same_count j ∷ (ap (λ (l : List ℕ). (lengthened l).0) k.same_flat ∙ lengthened-paths all (λ w m. low_capacity n w d.low (ear-vertex g d.simple d.low k.o.first k.o.later k.o.cycle k.o.are_ears w m))) j)

  -- A CUT BY AT MOST ONE VERTEX
  cut-few : Spans → (e : Eared) (c : Cut) → IsCut rows n c → (R : List ℕ) → members c.removed ≡ R → length R ≤ 1 → Written g (cut_numbers (tree_of rows) e c)
  cut-few all e c i [] h l = cut-none (tree_of rows) e c i h
  cut-few all e c i (r ∷ []) h l = cut-one all e c i r h
  cut-few all e c i (r ∷ (q ∷ R)) h l = absurd (omega arith)

  one_cut : Spans → (e : Eared) (c : Cut) → OneCut rows n c → Written g (cut_numbers (tree_of rows) e c)
  one_cut all e c o = cut-few all e c o.is (members c.removed) refl o.one

  -- THE CERTIFICATE OF A CUT
  abbrev no_ears : Eared
  no_ears = record { flat = []; count = 0; cut_by = no_cut }

  counted : (c : Cut) → IsCut rows n c → (R : List ℕ) → members c.removed ≡ R → length R ≡ count c.removed.words
  counted c i R h = ap length (sym h) ∙ members-count c.removed i.removed-sized

  small_cut : (t : Reach) (c : Cut) → IsCut rows n c → (R : List ℕ) → members c.removed ≡ R → length R ≤ 1 → Written g (cut_numbers t no_ears c) → Written g (cut_certificate t rows (full_set n) c)
  small_cut t c i R h l = subst (λ (b : Bool). Written g (cond b (cut_numbers t no_ears c) (cut_numbers t (ears rows (full_set n)) (chosen (ears rows (full_set n)) c)))) (sym (lt-ltb (count c.removed.words) 2 (none_of (length R) (count c.removed.words) (counted c i R h) l)))

  pair-cut : Spans → (c : Cut) → IsCut rows n c → (r q : ℕ) → members c.removed ≡ r ∷ (q ∷ []) → EarsFound rows n d ⊎ OneCut rows n (ears rows (full_set n)).cut_by → Written g (cut_numbers (tree_of rows) (ears rows (full_set n)) (chosen (ears rows (full_set n)) c))
  pair-cut all c i r q h (inl k) = subst (λ (b : Bool). Written g (cut_numbers (tree_of rows) (ears rows (full_set n)) (cond b (ears rows (full_set n)).cut_by c))) (sym k.not_cut) (cut-two c i r q h k)
  pair-cut all c i r q h (inr k) = subst (λ (b : Bool). Written g (cut_numbers (tree_of rows) (ears rows (full_set n)) (cond b (ears rows (full_set n)).cut_by c))) (sym k.is.is_cut_lem) (one_cut all (ears rows (full_set n)) (ears rows (full_set n)).cut_by k)

  cut-written : Spans → (c : Cut) → IsCut rows n c → Written g (cut_certificate (tree_of rows) rows (full_set n) c)
  cut-written all c i = go (members c.removed) refl i.few
    where
      go : (R : List ℕ) → members c.removed ≡ R → length R ≤ 2 → Written g (cut_certificate (tree_of rows) rows (full_set n) c)
      go [] h l = small_cut (tree_of rows) c i [] h (omega arith) (cut-none (tree_of rows) no_ears c i h)
      go (r ∷ []) h l = small_cut (tree_of rows) c i (r ∷ []) h (omega arith) (cut-one all no_ears c i r h)
      go (r ∷ (q ∷ [])) h l = subst (λ (b : Bool). Written g (cond b (cut_numbers (tree_of rows) no_ears c) (cut_numbers (tree_of rows) (ears rows (full_set n)) (chosen (ears rows (full_set n)) c))))
          (sym (le-ltb (count c.removed.words) 2 (two_of (length (r ∷ (q ∷ []))) (count c.removed.words) (counted c i (r ∷ (q ∷ [])) h) (omega arith)))) (pair-cut all c i r q h (ears-law rows n d))
      go (r ∷ (q ∷ (x ∷ R))) h l = absurd (omega arith)

  -- where the tree does not reach every vertex
  tree_written : empty (minus (full_set n) (tree_of rows).shut) ≡ false → Written g (cut_certificate (tree_of rows) rows (full_set n) (cut empty_set (tree_of rows).shut))
  tree_written e = small_cut (tree_of rows) c (tree_cut rows n d e) [] nothing (omega arith) (cut-none (tree_of rows) no_ears c (tree_cut rows n d e) nothing)
    where
      c : Cut
      c = cut empty_set (tree_of rows).shut

      nothing : members empty_set ≡ []
      nothing = members-same empty_set [] sized_empty tt (λ x h. absurd h) (λ x h. absurd h) (λ x o. absurd (empty-on x o))

  module _ (few : edge_count g ≤ max_edges) where
    -- THE CERTIFICATE OF A BUILD
    finished_written : (s : Started rows n) → Built rows n (begin rows) s.ms → Written g (build_numbers (begin rows).four (finish rows n (build rows (full_set n) (begin rows)).flat))
    finished_written s k = go (finish-law rows n d k.ps k.six k.recorded k.all-branch few)
      where
        go : FinishedWith rows n k.ps → Written g (build_numbers (begin rows).four (finish rows n (build rows (full_set n) (begin rows)).flat))
        go f = subst (λ (l : List ℕ). Written g (3 ∷ l)) (sym (λ i. s.same_four i ++ paths i))
            (build-written g d.simple d.low few f.qs f.six f.recorded f.finished s.x.p s.x.q s.x.r s.x.s (ap end_pairs f.first ∙ k.ends ∙ s.x.paths.shape))
          where
            paths : (lengthened (finish rows n (build rows (full_set n) (begin rows)).flat)).0 ≡ path_numbers f.qs
            paths = ap (λ (l : List ℕ). (lengthened (finish rows n l)).0) k.same_flat ∙ ap (λ (l : List ℕ). (lengthened l).0) f.same
                ∙ lengthened-paths f.qs (λ w h. low_capacity n w d.low (built_low g d.simple (newest_first f.qs) f.recorded w (built_newest f.qs w h)))

    build-found : Spans → Started rows n → Written g (build_certificate (tree_of rows) rows n (full_set n) (begin rows).four (build rows (full_set n) (begin rows)))
    build-found all s = ⊎_elim (λ k. subst (λ (b : Bool). Written g (turn b)) (sym k.not_cut) (finished_written s k)) (λ c. subst (λ (b : Bool). Written g (turn b)) (sym c.is_cut_lem) (cut-written all (build rows (full_set n) (begin rows)).cut_by c)) (build-law rows n d few (begin rows) s.ms s.x s.same_flat s.same_four s.four-sized)
      where
        turn : Bool → List ℕ
        turn b = cond b (cut_certificate (tree_of rows) rows (full_set n) (build rows (full_set n) (begin rows)).cut_by) (build_numbers (begin rows).four (finish rows n (build rows (full_set n) (begin rows)).flat))

    begun-written : Spans → Written g (begun_certificate (tree_of rows) rows n (full_set n) (begin rows))
    begun-written all = ⊎_elim (λ s. subst (λ (b : Bool). Written g (turn b)) (sym s.not_cut) (build-found all s)) (λ c. subst (λ (b : Bool). Written g (turn b)) (sym c.is_cut_lem) (cut-written all (begin rows).cut_by c)) (begin-law rows n d)
      where
        turn : Bool → List ℕ
        turn b = cond b (cut_certificate (tree_of rows) rows (full_set n) (begin rows).cut_by) (build_certificate (tree_of rows) rows n (full_set n) (begin rows).four (build rows (full_set n) (begin rows)))

    all-written : Written g (certificate_numbers rows n)
    unfolding certificate_numbers
    all-written = go (empty (minus (full_set n) (tree_of rows).shut)) refl
      where
        go : (b : Bool) → empty (minus (full_set n) (tree_of rows).shut) ≡ b → Written g (cond b (begun_certificate (tree_of rows) rows n (full_set n) (begin rows)) (cut_certificate (tree_of rows) rows (full_set n) (cut empty_set (tree_of rows).shut)))
        go true e = begun-written e
        go false e = tree_written e

-- THE THEOREM
pub record Constructed (rows : List ℕ) (n : ℕ) : Type 0 where
  pub certificate : Certificate
  pub rules : Rules (rows_graph n rows) certificate
  pub numbers : certificate_numbers rows n ≡ record_numbers certificate
  pub grade : get_or (certificate_numbers rows n) 0 0 ≡ kind certificate
  pub bytes : certificate_record rows n ≡ certificate_bytes certificate
  pub few : length (certificate_numbers rows n) ≤ path_space
  pub short : length (certificate_record rows n) ≤ certificate_room
  pub small : (i : ℕ) → get_or (certificate_numbers rows n) i 0 < number_limit

pub certified : (rows : List ℕ) (n : ℕ) → Drawn rows n → edge_count (rows_graph n rows) ≤ max_edges → Constructed rows n
certified rows n d few =
    let w = all-written rows n d few in
    record {
      certificate = w.certificate;
      rules = w.rules;
      numbers = w.numbers;
      grade = ap (λ (l : List ℕ). get_or l 0 0) w.numbers ∙ kind-first w.certificate;
      bytes = ap (list_bytes number_bytes) w.numbers ∙ sym (numbers_bytes w.certificate);
      few = w.few;
      short = w.short;
      small = w.small;
    }
