-- The rows at work while pairs are struck out, and THE LIST THAT THE CODE MAKES IS THE LIST OF THE DEFINITION. Assumes nothing.
use Prim.Native.Nat.{ℕ, ◌<◌}
use mathlib.Core.Path.{◌≡◌, refl, sym, ap, subst, fun_ext, ◌∙◌}
use mathlib.Core.Logic.{◌⊎◌, inl, inr, ⊎_elim, ⊎_map, ◌↔◌}
use mathlib.Core.Bool.{Bool, true, false, cond, not, ◌||◌}
use mathlib.Core.List.{List, [], ◌∷◌, ◌++◌, reverse, append-nil}
use native.Mathlib.Omega.{arith}
use native.Mathlib.Decide.{ℕ_discrete, dec_lt}
use lib.ListN.{length}
use borrow.Author.Tests.{eqb-true, le-ltb, not-true}
use Rattle.record.specs.Read.{folded}
use Rattle.vertexset.specs.Set.{Words, capacity}
use Rattle.graph.specs.Rows.{row_words, adjacent_in, joined_rows, parted_rows, rows_graph}
use Rattle.graph.proofs.Tests.{iff_test, both_true, left_true, false_of}
use Rattle.graph.proofs.Table.{with-length, without-length, with-tells, without-tells}
use Rattle.connectivity.specs.Lists.{In, select}
use Rattle.connectivity.specs.Graph.{Graph, Adj, Simple, Walk, stay, hop, listed, from_edges}
use Rattle.connectivity.proofs.Lists.{in_append, in_left, or-true, true_or, and-true, bool?, clash, select_in, in_select}
use Rattle.connectivity.proofs.Edges.{AscendingEdges, listed_in, in_listed}
use Rattle.connectivity.proofs.Paths.{SamePair}
use Rattle.reading.specs.Pairs.{pairs_of}
use Rattle.reading.specs.Plan.{Plan, Allowed}
use Rattle.reading.specs.Code.{graph_of}
use Rattle.reading.proofs.EdgeTests.{proper-true}
use Rattle.reading.proofs.Adjacency.{adjacent_joined, graph_listed}
use Rattle.reading.proofs.Pairs.{pairs_proper, low_pairs, pairs_ascend}
use Rattle.construction.proofs.Basics.{Drawn}
use Rattle.construction.proofs.PlanLaws.{joined-size, joined_words, plan-drawn}
use Rattle.construction.proofs.Table.{two_words, parted_words}
use Rattle.local.specs.Withstands.{spared}
use Rattle.local.proofs.Test.{connectivity-three, spared-three}
use Rattle.striking.specs.MendList.{missing, with_pairs, is_three, remaining, mend_list}
use Rattle.striking.specs.Code.{struck_by, completed, struck_all, laid, added, list_in}
use Rattle.striking.proofs.Orders.{Descending, reverse_in, in_reverse, reverse_descends, select-reverse, select-ascends, descending_new, ascending_same}
use Rattle.striking.proofs.Remaining.{PairsBelow, to_kept, from_kept, with-simple, Three, three_more, Least, remaining-in, remaining-ascends, remaining-least}

-- ---- the list of a graph

module _ (g : Graph) (s : Simple g) where
  missing-low : PairsBelow g.n (missing g)
  missing-low e m = proper-true g.n e (pairs_proper g.n e (select_in (λ d. not (g.adj d.0 d.1)) (pairs_of g.n) e m).0)

  pub proposed_low : PairsBelow g.n (reverse (missing g))
  proposed_low e m = missing-low e (reverse_in e (missing g) m)

  -- with every missing pair all vertices are adjacent
  all-joined : (l : List (ℕ × ℕ)) → ((e : ℕ × ℕ) → In e (missing g) → In e l) → (u v : ℕ) → u < v → v < g.n → Adj (with_pairs g l) u v
  all-joined l f u v h k = ⊎_elim (left_true (listed l u v)) (λ e. true_or (g.adj u v) (listed l u v) (in_listed l u v (inl (f (u, v) (in_select (λ d. not (g.adj d.0 d.1)) (pairs_of g.n) (u, v) (low_pairs g.n (u, v) (h, k)) (rw e)))))) (bool? (g.adj u v))

  -- so the connectivity is 3
  complete-three : (l : List (ℕ × ℕ)) → PairsBelow g.n l → ((e : ℕ × ℕ) → In e (missing g) → In e l) → Three g s l
  complete-three l low f = connectivity-three (with_pairs g l) simple (λ c d hc hd ne u v hu hv. go u v hu hv (ℕ_discrete u v) (dec_lt u v))
    where
      simple : Simple (with_pairs g l)
      simple = with-simple g s l low

      go : {X : List ℕ} (u v : ℕ) → (u < g.n) × (¬ In u X) → (v < g.n) × (¬ In v X) → Dec (u ≡ v) → Dec (u < v) → Walk (with_pairs g l) X u v
      go u v hu hv (yes e) k = rw e stay
      go u v hu hv (no e) (yes k) = hop (all-joined l f u v k hv.0) hu.1 hv.1 stay
      go u v hu hv (no e) (no k) = hop (simple.symmetric v u (all-joined l f v u (omega arith) hu.0)) hu.1 hv.1 stay

  start-low : PairsBelow g.n (reverse (missing g) ++ [])
  start-low = rw append-nil proposed_low

  start-three : Three g s (reverse (missing g) ++ [])
  start-three = complete-three (reverse (missing g) ++ []) start-low (λ e m. in_left e (reverse (missing g)) [] (in_reverse e (missing g) m))

  -- THE LIST: of missing pairs, ascending, and least.
  list_missing : (e : ℕ × ℕ) → In e (mend_list g) → In e (missing g)
  unfolding mend_list
  list_missing e m = reverse_in e (missing g) (⊎_elim (λ k. k) (λ k. absurd k) (in_append e (reverse (missing g)) [] (remaining-in g s (reverse (missing g)) [] e m)))

  pub list_low : PairsBelow g.n (mend_list g)
  list_low e m = missing-low e (list_missing e m)

  pub list_new : (e : ℕ × ℕ) → In e (mend_list g) → g.adj e.0 e.1 ≡ false
  list_new e m = not-true (g.adj e.0 e.1) (select_in (λ d. not (g.adj d.0 d.1)) (pairs_of g.n) e (list_missing e m)).1

  pub list_ascends : AscendingEdges (mend_list g)
  unfolding mend_list
  list_ascends = remaining-ascends g s (reverse (missing g)) [] (reverse_descends (missing g) (select-ascends _ (pairs_of g.n) (pairs_ascend g.n))) tt (λ d e m k. absurd k)

  pub list_least : Least g s (mend_list g)
  unfolding mend_list
  list_least = remaining-least g s (reverse (missing g)) [] start-low start-three (λ q m. absurd m)

-- ---- the rows at work

module _ (plan : List ℕ) (n : ℕ) (d : Drawn plan n) where
  abbrev G : Graph
  G = rows_graph n plan

  abbrev is_missing : ℕ × ℕ → Bool
  is_missing e = not (adjacent_in plan e.0 e.1)

  -- they stand for the graph with these pairs
  pub record Working (work : List ℕ) (l : List (ℕ × ℕ)) : Type 0 where
    pub words : Words work
    pub size : length work ≡ row_words
    pub shows : (u v : ℕ) → adjacent_in work u v ≡ adjacent_in plan u v || listed l u v

  shown : {work : List ℕ} {l : List (ℕ × ℕ)} → Working work l → rows_graph n work ≡ with_pairs G l
  shown w = ap (λ (f : ℕ → ℕ → Bool). record { n = n; adj = f }) (fun_ext (λ u. fun_ext (λ v. w.shows u v)))

  drawn : {work : List ℕ} {l : List (ℕ × ℕ)} → PairsBelow n l → Working work l → Drawn work n
  drawn {work} {l} low w = record { words = w.words; size = w.size; low = d.low; simple = subst Simple (sym (shown w)) (with-simple G d.simple l low) }

  -- every pair joined
  work_start : Working (completed plan n) (reverse (missing G) ++ [])
  work_start = record {
    words = joined_words (pairs_of n) plan d.words;
    size = joined-size (pairs_of n) plan d.size;
    shows = λ u v. adjacent_joined (pairs_of n) plan proper d.size u v ∙ iff_test {A = (adjacent_in plan u v ≡ true) ⊎ Pair u v} (there u v) (back u v);
  }
    where
      Pair : ℕ → ℕ → Type 0
      Pair u v = In {A = ℕ × ℕ} (u, v) (pairs_of n) ⊎ In {A = ℕ × ℕ} (v, u) (pairs_of n)

      proper : (e : ℕ × ℕ) → In e (pairs_of n) → (e.0 < e.1) × (e.1 < capacity)
      proper e m = let r = proper-true n e (pairs_proper n e m) in (r.0, omega (arith, d.low))

      there : (u v : ℕ) → (adjacent_in plan u v || listed (pairs_of n) u v ≡ true) ↔ ((adjacent_in plan u v ≡ true) ⊎ Pair u v)
      there u v = (
        (λ e. ⊎_map (λ k. k) (listed_in (pairs_of n) u v) (or-true (adjacent_in plan u v) (listed (pairs_of n) u v) e)),
        λ k. ⊎_elim (left_true (listed (pairs_of n) u v)) (λ j. true_or (adjacent_in plan u v) (listed (pairs_of n) u v) (in_listed (pairs_of n) u v j)) k,
      )

      put : (e : ℕ × ℕ) → In e (pairs_of n) → adjacent_in plan e.0 e.1 ≡ false → In e (reverse (missing G) ++ [])
      put e m k = in_left e (reverse (missing G)) [] (in_reverse e (missing G) (in_select is_missing (pairs_of n) e m (rw k)))

      got : (e : ℕ × ℕ) → In e (reverse (missing G) ++ []) → In e (pairs_of n)
      got e m = (select_in is_missing (pairs_of n) e (reverse_in e (missing G) (⊎_elim (λ k. k) (λ k. absurd k) (in_append e (reverse (missing G)) [] m)))).0

      in_list : (u v : ℕ) → Pair u v → adjacent_in plan u v ≡ false → listed (reverse (missing G) ++ []) u v ≡ true
      in_list u v (inl m) k = in_listed (reverse (missing G) ++ []) u v (inl (put (u, v) m k))
      in_list u v (inr m) k = in_listed (reverse (missing G) ++ []) u v (inr (put (v, u) m (false_of (λ e. clash (d.simple.symmetric v u e) k))))

      back : (u v : ℕ) → (adjacent_in plan u v || listed (reverse (missing G) ++ []) u v ≡ true) ↔ ((adjacent_in plan u v ≡ true) ⊎ Pair u v)
      back u v = (
        (λ e. ⊎_map (λ k. k) (λ k. ⊎_map (got (u, v)) (got (v, u)) (listed_in (reverse (missing G) ++ []) u v k)) (or-true (adjacent_in plan u v) (listed (reverse (missing G) ++ []) u v) e)),
        λ k. ⊎_elim (left_true (listed (reverse (missing G) ++ []) u v))
            (λ j. ⊎_elim (left_true (listed (reverse (missing G) ++ []) u v)) (λ z. true_or (adjacent_in plan u v) (listed (reverse (missing G) ++ []) u v) (in_list u v j z)) (bool? (adjacent_in plan u v))) k,
      )

  module _ (e : ℕ × ℕ) (l : List (ℕ × ℕ)) (low : PairsBelow n (e ∷ l)) (new : ¬ In e l) (apart : adjacent_in plan e.0 e.1 ≡ false) where
    abbrev within : (e.0 < capacity) × (e.1 < capacity)
    within = let r = low e (inl refl) in let m = d.low in (omega arith, omega arith)

    not_planned : (u v : ℕ) → SamePair u v e.0 e.1 → adjacent_in plan u v ≡ false
    not_planned u v (inl i) = rw (i.0, i.1) apart
    not_planned u v (inr i) = rw (i.0, i.1) (false_of (λ k. clash (d.simple.symmetric e.1 e.0 k) apart))

    -- a pair of the others is another pair
    not_listed : (u v : ℕ) → In {A = ℕ × ℕ} (u, v) l ⊎ In {A = ℕ × ℕ} (v, u) l → ¬ SamePair u v e.0 e.1
    not_listed u v (inl m) (inl i) = new (subst (λ (x : ℕ × ℕ). In x l) (λ j. (i.0 j, i.1 j)) m)
    not_listed u v (inl m) (inr i) = let a = low (u, v) (inr m) in let b = low e (inl refl) in omega (arith, i.0, i.1)
    not_listed u v (inr m) (inl i) = let a = low (v, u) (inr m) in let b = low e (inl refl) in omega (arith, i.0, i.1)
    not_listed u v (inr m) (inr i) = new (subst (λ (x : ℕ × ℕ). In x l) (λ j. (i.1 j, i.0 j)) m)

    first_pair : (u v : ℕ) → In {A = ℕ × ℕ} (u, v) (e ∷ l) ⊎ In {A = ℕ × ℕ} (v, u) (e ∷ l) → SamePair u v e.0 e.1 ⊎ (In {A = ℕ × ℕ} (u, v) l ⊎ In {A = ℕ × ℕ} (v, u) l)
    first_pair u v (inl (inl i)) = inl (inl (ap (λ (x : ℕ × ℕ). x.0) i, ap (λ (x : ℕ × ℕ). x.1) i))
    first_pair u v (inl (inr m)) = inr (inl m)
    first_pair u v (inr (inl i)) = inl (inr (ap (λ (x : ℕ × ℕ). x.1) i, ap (λ (x : ℕ × ℕ). x.0) i))
    first_pair u v (inr (inr m)) = inr (inr m)

    pair-first : (u v : ℕ) → SamePair u v e.0 e.1 → In {A = ℕ × ℕ} (u, v) (e ∷ l) ⊎ In {A = ℕ × ℕ} (v, u) (e ∷ l)
    pair-first u v (inl i) = inl (inl (λ j. (i.0 j, i.1 j)))
    pair-first u v (inr i) = inr (inl (λ j. (i.1 j, i.0 j)))

    -- THE PAIR IS PARTED ..
    work_parted : (work : List ℕ) → Working work (e ∷ l) → Working (parted_rows work e.0 e.1) l
    work_parted work w = record {
      words = parted_words work e.0 e.1 w.words;
      size = without-length work w.size e.0 e.1 within;
      shows = λ u v. iff_test {A = (adjacent_in work u v ≡ true) × (¬ SamePair u v e.0 e.1)} (without-tells work w.size e.0 e.1 within u v) (there u v);
    }
      where
        there : (u v : ℕ) → (adjacent_in plan u v || listed l u v ≡ true) ↔ ((adjacent_in work u v ≡ true) × (¬ SamePair u v e.0 e.1))
        there u v = (
          λ k. ⊎_elim (λ a. (w.shows u v ∙ left_true (listed (e ∷ l) u v) a, λ i. clash a (not_planned u v i)))
              (λ a. let m = listed_in l u v a in (w.shows u v ∙ true_or (adjacent_in plan u v) (listed (e ∷ l) u v) (in_listed (e ∷ l) u v (⊎_map inr inr m)), not_listed u v m)) (or-true (adjacent_in plan u v) (listed l u v) k),
          λ k. ⊎_elim (left_true (listed l u v))
              (λ a. ⊎_elim (λ i. absurd (k.1 i)) (λ m. true_or (adjacent_in plan u v) (listed l u v) (in_listed l u v m)) (first_pair u v (listed_in (e ∷ l) u v a)))
              (or-true (adjacent_in plan u v) (listed (e ∷ l) u v) (sym (w.shows u v) ∙ k.0)),
        )

    -- .. AND JOINED AGAIN, and stands then anywhere in the list.
    work_joined : (work : List ℕ) (m : List (ℕ × ℕ)) → ((x : ℕ × ℕ) → In x (e ∷ l) → In x m) → ((x : ℕ × ℕ) → In x m → In x (e ∷ l)) → Working work l → Working (joined_rows work e.0 e.1) m
    work_joined work m f g w = record {
      words = two_words work e.0 e.1 w.words;
      size = with-length work w.size e.0 e.1 within;
      shows = λ u v. iff_test {A = (adjacent_in work u v ≡ true) ⊎ SamePair u v e.0 e.1} (with-tells work w.size e.0 e.1 within u v) (there u v);
    }
      where
        there : (u v : ℕ) → (adjacent_in plan u v || listed m u v ≡ true) ↔ ((adjacent_in work u v ≡ true) ⊎ SamePair u v e.0 e.1)
        there u v = (
          λ k. ⊎_elim (λ a. inl (w.shows u v ∙ left_true (listed l u v) a))
              (λ a. ⊎_elim inr (λ j. inl (w.shows u v ∙ true_or (adjacent_in plan u v) (listed l u v) (in_listed l u v j))) (first_pair u v (⊎_map (g (u, v)) (g (v, u)) (listed_in m u v a))))
              (or-true (adjacent_in plan u v) (listed m u v) k),
          λ k. ⊎_elim (λ a. ⊎_elim (left_true (listed m u v)) (λ b. listing u v (⊎_map inr inr (listed_in l u v b))) (or-true (adjacent_in plan u v) (listed l u v) (sym (w.shows u v) ∙ a)))
              (λ i. listing u v (pair-first u v i)) k,
        )
          where
            listing : (u v : ℕ) → In {A = ℕ × ℕ} (u, v) (e ∷ l) ⊎ In {A = ℕ × ℕ} (v, u) (e ∷ l) → adjacent_in plan u v || listed m u v ≡ true
            listing u v j = true_or (adjacent_in plan u v) (listed m u v) (in_listed m u v (⊎_map (f (u, v)) (f (v, u)) j))

    -- the test tells whether the connectivity is 3 without the pair
    test_right : (work : List ℕ) → Working work l → Three G d.simple (e ∷ l) → is_three (with_pairs G l) ≡ spared work e.0 e.1
    test_right work w three =
        let r = low e (inl refl) in
        ap is_three (sym (shown w)) ∙ spared-three work n (drawn (λ x m. low x (inr m)) w) e.0 e.1 (omega arith) r.1 (λ i. omega arith) (with_pairs G (e ∷ l)) refl (with-simple G d.simple (e ∷ l) low) three other
      where
        other : (a b : ℕ) → Adj (with_pairs G (e ∷ l)) a b → Adj (rows_graph n work) a b ⊎ SamePair a b e.0 e.1
        other a b k = ⊎_elim (λ i. inl (w.shows a b ∙ left_true (listed l a b) i))
            (λ i. ⊎_elim inr (λ m. inl (w.shows a b ∙ true_or (adjacent_in plan a b) (listed l a b) (in_listed l a b m))) (first_pair a b (listed_in (e ∷ l) a b i)))
            (or-true (adjacent_in plan a b) (listed (e ∷ l) a b) k)

  -- ALL PAIRS LOOKED AT: the rows then stand for the graph with what remains.
  pub work_struck : (todo kept : List (ℕ × ℕ)) (work : List ℕ) → Descending todo → PairsBelow n todo → PairsBelow n kept → ((x : ℕ × ℕ) → In x todo → ¬ In x kept)
      → Three G d.simple (select is_missing todo ++ kept) → Working work (select is_missing todo ++ kept)
      → Working (folded (struck_by plan) work todo) (remaining G (select is_missing todo) kept)
  unfolding folded remaining struck_by
  work_struck [] kept work desc low below fresh three w = w
  work_struck (e ∷ todo) kept work desc low below fresh three w =
      step (adjacent_in plan e.0 e.1) refl three w (λ k r b f t x. work_struck todo k r desc.1 (λ x m. low x (inr m)) b f t x)
    where
      S : List (ℕ × ℕ)
      S = select is_missing todo

      Later : Type 0
      Later = (k : List (ℕ × ℕ)) (r : List ℕ) → PairsBelow n k → ((x : ℕ × ℕ) → In x todo → ¬ In x k) → Three G d.simple (S ++ k) → Working r (S ++ k) → Working (folded (struck_by plan) r todo) (remaining G S k)

      within_all : PairsBelow n (e ∷ (S ++ kept))
      within_all x (inl i) = rw i (low e (inl refl))
      within_all x (inr m) = ⊎_elim (λ k. low x (inr (select_in is_missing todo x k).0)) (below x) (in_append x S kept m)

      new : ¬ In e (S ++ kept)
      new m = ⊎_elim (λ k. descending_new e todo desc (select_in is_missing todo e k).0) (fresh e (inl refl)) (in_append e S kept m)

      kept_below : PairsBelow n (e ∷ kept)
      kept_below x (inl i) = rw i (low e (inl refl))
      kept_below x (inr m) = below x m

      kept_fresh : (x : ℕ × ℕ) → In x todo → ¬ In x (e ∷ kept)
      kept_fresh x m (inl i) = descending_new e todo desc (subst (λ (z : ℕ × ℕ). In z todo) i m)
      kept_fresh x m (inr k) = fresh x (inr m) k

      tested : (b : Bool) (parted : List ℕ) → is_three (with_pairs G (S ++ kept)) ≡ b → adjacent_in plan e.0 e.1 ≡ false → Three G d.simple (e ∷ (S ++ kept)) → Working parted (S ++ kept) → Later
          → Working (folded (struck_by plan) (cond b parted (joined_rows parted e.0 e.1)) todo) (cond b (remaining G S kept) (remaining G S (e ∷ kept)))
      tested true parted t apart all w later = later kept parted below (λ x m. fresh x (inr m)) (eqb-true _ _ t) w
      tested false parted t apart all w later = later (e ∷ kept) (joined_rows parted e.0 e.1) kept_below kept_fresh
          (three_more G d.simple (e ∷ (S ++ kept)) (S ++ (e ∷ kept)) within_all (λ x m. within_all x (from_kept e S kept x m)) (to_kept e S kept) all)
          (work_joined e (S ++ kept) within_all new apart parted (S ++ (e ∷ kept)) (to_kept e S kept) (from_kept e S kept) w)

      step : (b : Bool) → adjacent_in plan e.0 e.1 ≡ b → Three G d.simple (cond (not b) (e ∷ S) S ++ kept) → Working work (cond (not b) (e ∷ S) S ++ kept) → Later
          → Working (folded (struck_by plan) (struck_by plan work e) todo) (remaining G (cond (not b) (e ∷ S) S) kept)
      step true k t x later = rw k (later kept work below (λ x m. fresh x (inr m)) t x)
      step false k t x later =
          let parted = parted_rows work e.0 e.1 in
          let y = work_parted e (S ++ kept) within_all new k work x in
          let r = test_right e (S ++ kept) within_all new k parted y t in
          rw (k, ← r) (tested (is_three (with_pairs G (S ++ kept))) parted refl k t y later)

  abbrev final : List ℕ
  final = struck_all plan (completed plan n) n

  work_end : Working final (mend_list G)
  unfolding mend_list
  work_end =
      let e = select-reverse is_missing (pairs_of n) in
      subst (λ (l : List (ℕ × ℕ)). Working final (remaining G l [])) e
      (work_struck (reverse (pairs_of n)) [] (completed plan n) (reverse_descends (pairs_of n) (pairs_ascend n)) (λ x m. proper-true n x (pairs_proper n x (reverse_in x (pairs_of n) m))) (λ x m. absurd m) (λ x m k. k)
      (subst (λ (l : List (ℕ × ℕ)). Three G d.simple (l ++ [])) (sym e) (start-three G d.simple)) (subst (λ (l : List (ℕ × ℕ)). Working (completed plan n) (l ++ [])) (sym e) work_start))

  -- THE LIST THAT THE CODE MAKES IS THE LIST OF THE DEFINITION.
  pub list_right : list_in plan n ≡ mend_list G
  unfolding list_in added
  list_right = rw (le-ltb capacity n d.low) (ascending_same (added plan final n) (mend_list G) (select-ascends (laid plan final) (pairs_of n) (pairs_ascend n)) (list_ascends G d.simple) into out)
    where
      listing : (e : ℕ × ℕ) → e.0 < e.1 → In {A = ℕ × ℕ} (e.0, e.1) (mend_list G) ⊎ In {A = ℕ × ℕ} (e.1, e.0) (mend_list G) → In e (mend_list G)
      listing e h (inl m) = m
      listing e h (inr m) = absurd (omega (arith, (list_low G d.simple (e.1, e.0) m).0))

      into : (e : ℕ × ℕ) → In e (added plan final n) → In e (mend_list G)
      into e m =
          let r = select_in (laid plan final) (pairs_of n) e m in
          let a = and-true (adjacent_in final e.0 e.1) (is_missing e) r.1 in
          ⊎_elim (λ k. absurd (clash k (not-true (adjacent_in plan e.0 e.1) a.1)))
          (λ k. listing e (proper-true n e (pairs_proper n e r.0)).0 (listed_in (mend_list G) e.0 e.1 k))
          (or-true (adjacent_in plan e.0 e.1) (listed (mend_list G) e.0 e.1) (sym (work_end.shows e.0 e.1) ∙ a.0))

      out : (e : ℕ × ℕ) → In e (mend_list G) → In e (added plan final n)
      out e m = in_select (laid plan final) (pairs_of n) e (low_pairs n e (list_low G d.simple e m))
          (both_true (work_end.shows e.0 e.1 ∙ true_or (adjacent_in plan e.0 e.1) (listed (mend_list G) e.0 e.1) (in_listed (mend_list G) e.0 e.1 (inl m))) (rw (list_new G d.simple e m)))

-- of an allowed plan
pub plan-list : (p : Plan) → Allowed p → list_in (graph_of p).rows p.n ≡ mend_list (from_edges p.n p.edges)
unfolding graph_of
plan-list p a = list_right (graph_of p).rows p.n (plan-drawn p a) ∙ ap mend_list (graph_listed p a)
