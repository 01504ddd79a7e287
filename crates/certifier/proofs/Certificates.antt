-- The numbers of a certificate, from the code's structs and from the definition's. Assumes nothing.
use Prim.Native.Nat.{ℕ, zero, suc, ◌+◌, ◌-◌}
use mathlib.Core.Path.{◌≡◌, refl, sym, ap, ◌∙◌}
use mathlib.Core.Bool.{Bool, true, false, cond, not}
use mathlib.Core.List.{List, [], ◌∷◌, ◌++◌}
use native.Mathlib.Omega.{arith}
use Rattle.std.specs.Prelude.{Ok, Err}
use lib.Dec.{ltb, eqb}
use lib.ListN.{length, take, replicate}
use lib.Seq.{take-append_seam}
use Rattle.record.specs.Read.{folded}
use Rattle.vertexset.specs.Set.{empty_set, inserted, below_set, count}
use Rattle.vertexset.specs.declared.VertexSet.{VertexSet}
use Rattle.connectivity.specs.Lists.{up_from, below}
use Rattle.construction.specs.Sets.{minus, set_with_all, members, empty}
use Rattle.construction.specs.Ears as construction
use Rattle.construction.specs.Ears.{no_cut, cut, is_cut, eared, ears, path_space}
use Rattle.construction.specs.Start.{Begun, begun, begin}
use Rattle.construction.specs.Steps.{State, build, finish}
use Rattle.construction.specs.Certificate.{tree_numbers, evidence, lengthened, cut_numbers, cut_certificate, build_certificate, begun_certificate, chosen, side_numbers, build_numbers, certificate_numbers, full_set}
use Rattle.search.specs.Code.{reach_of}
use Rattle.search.specs.declared.Reach.{Reach}
use Rattle.detours.specs.declared.Cut.{Cut}
use Rattle.detours.specs.Code.{cut_of, ears_of, flat_of}
use Rattle.starting.specs.Code.{paths_of, start_of}
use Rattle.starting.specs.declared.Start.{Start}
use Rattle.certifier.proofs.Certifying.{err_of, ok_of, build-same}
use Rattle.certifier.specs.Code.{first_search, evidence_in, cut_numbers_in, cut_certificate_in, built_certificate_in, start_certificate_in}

-- ---- the code's structs hold what the definition has

flat_same : (l : List ℕ) → take (length l) (flat_of l) ≡ l
flat_same l = take-append_seam l (replicate (path_space - length l) 0)

evidence-same : (rows : List ℕ) (e : construction.Eared) (k : ℕ) → evidence_in rows (ears_of e) k ≡ evidence (first_search rows) e k
evidence-same rows e k = ap (λ (l : List ℕ). cond (eqb k 0) [] (cond (eqb k 1) (tree_numbers (first_search rows)) (e.count ∷ (lengthened l).0))) (flat_same e.flat)

numbers_same : (rows : List ℕ) (e : construction.Eared) (c : construction.Cut) → cut_numbers_in rows (ears_of e) (cut_of c) ≡ cut_numbers (first_search rows) e c
numbers_same rows e c =
    ap (λ (l : List ℕ). length (members c.removed) ∷ (members c.removed ++ (l ++ side_numbers c.side))) (evidence-same rows e (length (members c.removed)))

pub cut-same : (rows : List ℕ) (full : VertexSet) (c : construction.Cut) → cut_certificate_in rows full (cut_of c) ≡ cut_certificate (first_search rows) rows full c
cut-same rows full c =
    ap (λ (l : List ℕ). cond (ltb (count c.removed.words) 2) l (cut_numbers_in rows (ears_of (ears rows full)) (cut_of (chosen (ears rows full) c)))) (numbers_same rows (eared [] 0 no_cut) c)
    ∙ ap (λ (l : List ℕ). cond (ltb (count c.removed.words) 2) (cut_numbers (first_search rows) (eared [] 0 no_cut) c) l) (numbers_same rows (ears rows full) (chosen (ears rows full) c))

module _ (rows : List ℕ) (n : ℕ) (full : VertexSet) where
  built_same : (four : VertexSet) (st : State) → built_certificate_in rows n full four st ≡ build_certificate (first_search rows) rows n full four st
  built_same four st = ap (λ (l : List ℕ). cond (is_cut st.cut_by) l (build_numbers four (finish rows n st.flat))) (cut-same rows full st.cut_by)

  pub start-same : (b : Begun) → start_certificate_in rows n full (paths_of b) ≡ build_certificate (first_search rows) rows n full b.four (build rows full b)
  start-same b =
      ap (λ (l : List ℕ). built_certificate_in rows n full b.four (build rows full (begun b.four l))) (flat_same b.flat)
      ∙ ap (built_certificate_in rows n full b.four) (build-same rows full b)
      ∙ built_same b.four (build rows full b)

-- ---- the vertices below n, taken in one by one

up_more : (n v : ℕ) → up_from v (suc n) ≡ up_from v n ++ ((v + n) ∷ [])
up_more zero v = let z : v + 0 ≡ v = omega arith in rw z
up_more (suc n) v = let z : v + suc n ≡ suc v + n = omega arith in ap (λ (l : List ℕ). v ∷ l) (up_more n (suc v) ∙ rw z)

with-more : (s : VertexSet) (l : List ℕ) (v : ℕ) → set_with_all s (l ++ (v ∷ [])) ≡ inserted (set_with_all s l) v
unfolding folded
with-more s [] v = refl
with-more s (a ∷ l) v = with-more (inserted s a) l v

below_more : (n : ℕ) → below (suc n) ≡ below n ++ (n ∷ [])
below_more n = up_more n 0 ∙ (let z : 0 + n ≡ n = omega arith in rw z)

below-full : (n : ℕ) → below_set n ≡ full_set n
unfolding below_set folded
below-full zero = refl
below-full (suc n) = ap (λ (s : VertexSet). inserted s n) (below-full n) ∙ sym (ap (set_with_all empty_set) (below_more n) ∙ with-more empty_set (below n) n)

-- ---- THE CERTIFICATE

whole : (rows : List ℕ) (n : ℕ) {b : Bool} → empty (minus (full_set n) (first_search rows).shut) ≡ b
    → cond b (begun_certificate (first_search rows) rows n (full_set n) (begin rows)) (cut_certificate (first_search rows) rows (full_set n) (cut empty_set (first_search rows).shut)) ≡ certificate_numbers rows n
unfolding certificate_numbers
whole rows n e =
    ap (λ (b : Bool). cond b (begun_certificate (first_search rows) rows n (full_set n) (begin rows)) (cut_certificate (first_search rows) rows (full_set n) (cut empty_set (first_search rows).shut))) (sym e)

module _ (rows : List ℕ) (n : ℕ) {full rest : VertexSet} {tree : Reach} (f₀ : full ≡ below_set n) (t : tree ≡ reach_of (first_search rows)) (m : rest ≡ minus full tree.shut) {all : Bool} (y : all ≡ empty rest) where
  f : full ≡ full_set n
  f = f₀ ∙ below-full n

  test : empty (minus (full_set n) (first_search rows).shut) ≡ all
  test =
      ap (λ (v : VertexSet). empty (minus v (first_search rows).shut)) (sym f) ∙ ap (λ (x : Reach). empty (minus full x.shut)) (sym t) ∙ ap empty (sym m) ∙ sym y

  cut-is : (c : construction.Cut) → cut_certificate_in rows full (cut_of c) ≡ cut_certificate (first_search rows) rows (full_set n) c
  cut-is c = ap (λ (v : VertexSet). cut_certificate_in rows v (cut_of c)) f ∙ cut-same rows (full_set n) c

  -- a vertex was not reached
  pub whole_apart : not all ≡ true → {none : VertexSet} → none ≡ empty_set → cut_certificate_in rows full (record { removed = none; side = tree.shut }) ≡ certificate_numbers rows n
  whole_apart h {none} z =
      ap (λ (v : VertexSet). cut_certificate_in rows full (cut_of (cut v tree.shut))) z
      ∙ cut-is (cut empty_set tree.shut)
      ∙ ap (λ (x : Reach). cut_certificate (first_search rows) rows (full_set n) (cut empty_set x.shut)) t
      ∙ whole rows n (test ∙ off all h)
    where
      off : (b : Bool) → not b ≡ true → b ≡ false
      off true e = sym e
      off false e = refl

  module _ (h : not all ≡ false) where
    on : (b : Bool) → not b ≡ false → b ≡ true
    on true q = refl
    on false q = sym q

    begun-is : {b : Bool} → is_cut (begin rows).cut_by ≡ b
        → cond b (cut_certificate (first_search rows) rows (full_set n) (begin rows).cut_by) (build_certificate (first_search rows) rows n (full_set n) (begin rows).four (build rows (full_set n) (begin rows)))
        ≡ certificate_numbers rows n
    begun-is q =
        ap
        (λ (b : Bool).
        cond b (cut_certificate (first_search rows) rows (full_set n) (begin rows).cut_by) (build_certificate (first_search rows) rows n (full_set n) (begin rows).four (build rows (full_set n) (begin rows))))
        (sym q)
        ∙ whole rows n (test ∙ on all h)

    pub whole_cut : {c : Cut} → Err c ≡ start_of (begin rows) → cut_certificate_in rows full c ≡ certificate_numbers rows n
    whole_cut e = let r = err_of (is_cut (begin rows).cut_by) _ e in ap (cut_certificate_in rows full) r.1 ∙ cut-is (begin rows).cut_by ∙ begun-is r.0

    pub whole_built : {s : Start} → Ok s ≡ start_of (begin rows) → start_certificate_in rows n full s ≡ certificate_numbers rows n
    whole_built e =
        let r = ok_of (is_cut (begin rows).cut_by) _ e in
        ap (start_certificate_in rows n full) r.1
        ∙ ap (λ (v : VertexSet). start_certificate_in rows n v (paths_of (begin rows))) f
        ∙ start-same rows n (full_set n) (begin rows)
        ∙ begun-is r.0
