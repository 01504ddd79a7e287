-- The items of each kind, read one after the other, keep the rules of that kind and no others.
use Prim.Native.Nat.{ℕ, suc, ◌<◌, ◌≤◌}
use mathlib.Core.Path.{◌≡◌, refl, ap, sym, ◌∙◌, subst}
use mathlib.Core.Logic.{inl, ⊎_map}
use mathlib.Core.List.{List, [], ◌∷◌, ◌++◌, append-nil}
use mathlib.Core.Bool.{Bool, true, not}
use native.Mathlib.Omega.{arith}
use lib.Dec.{leb}
use lib.ListN.{length}
use borrow.Author.Tests.{eq-eqb}
use Rattle.record.specs.Read.{Each, folded, check, ◌needs⟨◌⟩◌}
use Rattle.record.specs.Number.{number_bytes, list_bytes, number_limit}
use Rattle.record.proofs.Laws.{Reads, pair-law, many-law, same_law, bytes_law, check-law}
use Rattle.connectivity.specs.Lists.{In}
use Rattle.connectivity.specs.Graph.{Graph, Adj, Simple}
use Rattle.connectivity.specs.Path.{Path}
use Rattle.connectivity.specs.Build.{IsBranch, four, end_pairs, Starts, StartRules, BGPath, taken, Steps}
use Rattle.connectivity.specs.Certificate.{Tree, Ears, inside}
use Rattle.connectivity.proofs.Lists.{clash, in_single}
use Rattle.certificates.specs.Tests.{nobody, with, begun, ear_taken, Start, start_taken, is_branch}
use Rattle.certificates.specs.Records.{vertex, pair, branch_four, starting, start}
use Rattle.certificates.specs.Encoding.{pair_bytes, start_bytes}
use Rattle.certificates.proofs.Decide.{Decides, decide_same, decide_test, decide_and, decide_or, decide_not, decide_equal, decide_most, decide_any}
use Rattle.certificates.proofs.Sides.{decided_law, vertex-law, decide_with}
use Rattle.certificates.proofs.Paths.{EarOk, StartOk, start_path-law}

pub checked_law : (r : ℕ) {ok : Bool} {P : Type 0} → Decides ok P → Reads (check r ok) (λ u. []) (λ u. P)
checked_law r {ok} d = same_law (check-law r ok) (λ u o. d.holds o) (λ u o. d.passes o)

-- two removed vertices as a test
pub decide_pair : (c d v : ℕ) → Decides (with (with nobody c) d v) (In v (c ∷ (d ∷ [])))
decide_pair c d v = decide_same (decide_or (decide_equal v c) (decide_equal v d)) (⊎_map (λ e. e) inl) (⊎_map (λ e. e) (in_single v d))

pub decide_branch : (links : List Path) (v : ℕ) → Decides (is_branch links v) (IsBranch v links)
decide_branch links v = decide_any (λ L. decide_or (decide_equal v L.s) (decide_equal v L.t)) links

-- a start with these ends still to be joined and these vertices in
abbrev pub start_at : List (ℕ × ℕ) → List ℕ → Start
start_at es B = record { ends = es; built = B }

module _ (g : Graph) where
  -- the pairs of kind 1
  abbrev pub PairOk : (ℕ → Bool) → ℕ × ℕ → Type 0
  PairOk named p = Adj g p.0 p.1 × (named p.1 ≡ true) × (not (named p.0) ≡ true)

  pub pair_read-law : Simple g → g.n < number_limit → (named : ℕ → Bool) → Reads (pair g.n g.adj named) pair_bytes (PairOk named)
  unfolding pair
  pair_read-law simple few named = same_law
      (decided_law (decided_law (decided_law (pair-law (vertex-law g.n few) (λ new. vertex-law g.n few))
      24 (λ p. decide_test (g.adj p.0 p.1))) 25 (λ p. decide_test (named p.1))) 26 (λ p. decide_test (not (named p.0))))
      (λ p o. (o.0.0.1, o.0.1, o.1))
      (λ p o. ((((simple.low p.0 p.1 o.0, simple.low p.1 p.0 (simple.symmetric p.0 p.1 o.0)), o.0), o.1), o.2))

  pub each-tree : (N : List ℕ) {named : ℕ → Bool} → ((v : ℕ) → Decides (named v) (In v N)) → (ps : List (ℕ × ℕ)) → Each PairOk (λ named p. with named p.0) named ps → Tree g N ps
  unfolding Each
  each-tree N d [] e = tt
  each-tree N d (p ∷ ps) e = ((decide_not (d p.0)).holds e.0.2, (d p.1).holds e.0.1, e.0.0, each-tree (p.0 ∷ N) (decide_with N d p.0) ps e.1)

  pub tree_each : (N : List ℕ) {named : ℕ → Bool} → ((v : ℕ) → Decides (named v) (In v N)) → (ps : List (ℕ × ℕ)) → Tree g N ps → Each PairOk (λ named p. with named p.0) named ps
  unfolding Each
  tree_each N d [] t = tt
  tree_each N d (p ∷ ps) t = ((t.2, (d p.1).passes t.1, (decide_not (d p.0)).passes t.0), tree_each (p.0 ∷ N) (decide_with N d p.0) ps t.3)

  -- the later ears of kind 2: some vertices are in
  begun-append : (l B : List ℕ) → begun B ≡ true → begun (l ++ B) ≡ true
  begun-append [] B h = h
  begun-append (a ∷ l) B h = refl

  pub each-ears : (es : List Path) (B : List ℕ) → begun B ≡ true → Each (EarOk g) ear_taken B es → Ears g B es
  unfolding Each
  each-ears [] B h e = tt
  each-ears (P ∷ es) [] h e = absurd (clash h refl)
  each-ears (P ∷ es) (b ∷ B) h e = (e.0, each-ears es (P.inner ++ (b ∷ B)) (begun-append P.inner (b ∷ B) refl) e.1)

  pub ears-each : (es : List Path) (B : List ℕ) → begun B ≡ true → Ears g B es → Each (EarOk g) ear_taken B es
  unfolding Each
  ears-each [] B h e = tt
  ears-each (P ∷ es) [] h e = absurd (clash h refl)
  ears-each (P ∷ es) (b ∷ B) h e = (e.0, ears-each es (P.inner ++ (b ∷ B)) (begun-append P.inner (b ∷ B) refl) e.1)

  pub ears-inside : (es : List Path) (B : List ℕ) → begun B ≡ true → folded ear_taken B es ≡ inside B es
  unfolding folded
  ears-inside [] B h = refl
  ears-inside (P ∷ es) [] h = absurd (clash h refl)
  ears-inside (P ∷ es) (b ∷ B) h = ears-inside es (P.inner ++ (b ∷ B)) (begun-append P.inner (b ∷ B) refl)

  -- the start of kind 3
  pub each-starts : (es : List (ℕ × ℕ)) (B : List ℕ) (ps : List Path) → length ps ≡ length es → Each (StartOk g) start_taken (start_at es B) ps → (end_pairs ps ≡ es) × Starts (Adj g) B ps
  unfolding Each
  each-starts [] B [] h o = (refl, tt)
  each-starts [] B (P ∷ ps) h o = absurd (omega arith)
  each-starts (e ∷ es) B [] h o = absurd (omega arith)
  each-starts (e ∷ es) B (P ∷ ps) h o =
      let k = (decide_and (decide_equal P.s e.0) (decide_equal P.t e.1)).holds o.0.ends in
      let r = each-starts es (P.inner ++ B) ps (omega arith) o.1 in
      (λ i. (k.0 i, k.1 i) ∷ r.0 i, (o.0.is_path, o.0.new, r.1))

  pub starts_each : (B : List ℕ) (ps : List Path) → Starts (Adj g) B ps → Each (StartOk g) start_taken (start_at (end_pairs ps) B) ps
  unfolding Each
  starts_each B [] o = tt
  starts_each B (P ∷ ps) o =
      (record { is_path = o.0; ends = rw (eq-eqb P.s P.s refl, eq-eqb P.t P.t refl); new = o.1 }, starts_each (P.inner ++ B) ps o.2)

  pub length_pairs : (ps : List Path) → length (end_pairs ps) ≡ length ps
  length_pairs [] = refl
  length_pairs (P ∷ ps) = ap suc (length_pairs ps)

  -- the further paths of kind 3
  pub each-steps : (links ps : List Path) → Each (BGPath (Adj g)) taken links ps → Steps (Adj g) links ps
  unfolding Each
  each-steps links [] e = tt
  each-steps links (P ∷ ps) e = (e.0, each-steps (taken links P) ps e.1)

  pub steps-each : (links ps : List Path) → Steps (Adj g) links ps → Each (BGPath (Adj g)) taken links ps
  unfolding Each
  steps-each links [] e = tt
  steps-each links (P ∷ ps) e = (e.0, steps-each (taken links P) ps e.1)

-- the four branch vertices
four_bytes : (p q r s : ℕ) → number_bytes p ++ (number_bytes q ++ (number_bytes r ++ number_bytes s)) ≡ list_bytes number_bytes (four p q r s)
unfolding list_bytes
four_bytes p q r s = simp append-nil

four-law : (n : ℕ) → n < number_limit → Reads (branch_four n) (λ b. list_bytes number_bytes (four b.0 b.1.0 b.1.1.0 b.1.1.1))
    (λ b. (b.0 < b.1.0) × (b.1.0 < b.1.1.0) × (b.1.1.0 < b.1.1.1) × (b.1.1.1 < n))
unfolding branch_four
four-law n few = bytes_law
    (same_law (pair-law (vertex-law n few) (λ p. pair-law (above p) (λ q. pair-law (above q) above)))
    (λ b o. (o.1.0.1, o.1.1.0.1, o.1.1.1.1, o.1.1.1.0))
    (λ b o. (omega (arith, o.0, o.1, o.2, o.3), ((omega (arith, o.0, o.1, o.2, o.3), o.0), ((omega (arith, o.0, o.1, o.2, o.3), o.1), (o.3, o.2))))))
    (λ b. four_bytes b.0 b.1.0 b.1.1.0 b.1.1.1)
  where
    above : (v : ℕ) → Reads (vertex n needs⟨ 20 ⟩ leb (suc v)) number_bytes (λ w. (w < n) × (suc v ≤ w))
    above v = decided_law (vertex-law n few) 20 (decide_most (suc v))

-- a start
pub start-law : (g : Graph) → Simple g → g.n < number_limit → Reads (start g) (λ x. start_bytes x.0.0 x.0.1.0 x.0.1.1.0 x.0.1.1.1 x.1)
    (λ x. StartRules g x.0.0 x.0.1.0 x.0.1.1.0 x.0.1.1.1 x.1)
unfolding start
start-law g simple few = same_law (pair-law (four-law g.n few) (λ b. many-law start_taken (start_path-law g simple few) 6 (starting b)))
    (λ x o.
    let st = each-starts g (starting x.0).ends (starting x.0).built x.1 o.1.0 o.1.1 in
    record { pq = o.0.0; qr = o.0.1; rs = o.0.2; low = o.0.3; shape = st.0; starts = st.1 })
    (λ x r. (
      (r.pq, r.qr, r.rs, r.low),
      (
        sym (length_pairs g x.1) ∙ ap length r.shape,
        subst (λ (es : List (ℕ × ℕ)). Each (StartOk g) start_taken (start_at es (starting x.0).built) x.1) r.shape (starts_each g _ x.1 r.starts),
      ),
    ))
