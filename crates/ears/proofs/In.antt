-- The vertices that are in, as a set in place of a list. Assumes nothing.
use Prim.Native.Nat.{ℕ, ◌*◌, ◌≤◌}
use mathlib.Core.List.{List, [], ◌∷◌, ◌++◌}
use mathlib.Core.Bool.{Bool, true, false, cond, ◌||◌, or-true, or_assoc, false≢true}
use mathlib.Core.Path.{◌≡◌, refl, sym, ap, fun_ext, ◌∙◌}
use native.Mathlib.Omega.{arith}
use lib.Dec.{eqb}
use lib.ListN.{length}
use borrow.Author.Tests.{eqb-true}
use Rattle.std.specs.Prelude.{Result, Ok, Err}
use Rattle.record.specs.Read.{Read, Read.Got, Read.Refused, on_read, ◌needs⟨◌⟩◌, ◌▸◌, many, check, folded}
use Rattle.record.specs.declared.Answer.{Answer}
use Rattle.record.specs.declared.Answer.TheVariants.{CertificateFault}
use Rattle.record.specs.Loop.{Loop, runs, finish}
use Rattle.record.proofs.Loops.{needs_true, many-same, many-kept}
use Rattle.vertexset.specs.Set.{has, word_count, capacity}
use Rattle.vertexset.proofs.Laws.{empty-has}
use Rattle.connectivity.proofs.Lists.{and-true}
use Rattle.connectivity.specs.Lists.{member}
use Rattle.connectivity.specs.Graph.{Graph}
use Rattle.connectivity.specs.Path.{Path, vertices}
use Rattle.certificates.specs.Tests.{all_below, begun, ear_along, ear_ends, ear_new, ear_taken}
use Rattle.certificates.specs.Records.{path, ear}
use Rattle.paths.specs.Items.{told, end_read}
use Rattle.paths.proofs.Reading.{path-low}
use Rattle.paths.proofs.Sets.{taken-length, taken-has}
use Rattle.ears.specs.Code.{no_ears, ears_with, ear_beside, all_ears}
use Rattle.ears.specs.declared.Ears.{Ears}

-- the loop over the ears
abbrev pub ear_loop : Graph → Loop Ears Path Ears (Result ℕ Answer)
ear_loop g = record {
  item = λ e. ear_beside g e.begun (has e.set.words);
  after = ears_with;
  step = ears_with;
  ok = λ e next. cond (all_below g.n (has e.set.words)) (Ok next) (Err (CertificateFault 28 next));
  bad = λ r p. Err (CertificateFault r p);
}

-- the same vertices are in, and whether there is an ear yet
pub record Same (B : List ℕ) (e : Ears) : Type 0 where
  pub long : length e.set.words ≡ word_count
  pub begins : begun B ≡ e.begun
  pub in_both : (v : ℕ) → member v B ≡ has e.set.words v

same_none : Same [] no_ears
same_none = record { long = refl; begins = refl; in_both = λ v. ap (λ (f : ℕ → Bool). f v) (sym empty-has) }

same_ear : (g : Graph) (B : List ℕ) (e : Ears) → Same B e → (s : List ℕ) (at : ℕ) → ear g B s at ≡ ear_beside g e.begun (has e.set.words) s at
unfolding ear ear_beside
same_ear g B e r s at =
    ap (λ (b : Bool). ear_beside g b (λ v. member v B) s at) r.begins ∙ ap (λ (f : ℕ → Bool). ear_beside g e.begun f s at) (fun_ext r.in_both)

-- an ear that was read: its path, and its ends are in unless it is the first
ear-got : (g : Graph) (B : List ℕ) (s : List ℕ) (at : ℕ) {P : Path} {next : ℕ} → ear g B s at ≡ Got P next → (path g.n 3 s at ≡ Got P next) × (ear_ends B P ≡ true)
unfolding ear
ear-got g B s at f =
    let c = needs_true (path g.n 3 needs⟨ 24 ⟩ ear_along g B needs⟨ 25 ⟩ ear_ends B) 26 (ear_new B) {s = s} {at = at} f in
    let b = needs_true (path g.n 3 needs⟨ 24 ⟩ ear_along g B) 25 (ear_ends B) {s = s} {at = at} c.0 in
    let a = needs_true (path g.n 3) 24 (ear_along g B) {s = s} {at = at} b.0 in
    (a.0, b.1)

begun-append : (l : List ℕ) (b : ℕ) (B : List ℕ) → begun (l ++ (b ∷ B)) ≡ true
begun-append [] b B = refl
begun-append (a ∷ l) b B = refl

member-append : (v : ℕ) (l m : List ℕ) → member v (l ++ m) ≡ (member v l || member v m)
member-append v [] m = refl
member-append v (a ∷ l) m = rw (member-append v l m) (sym (or_assoc (eqb v a) (member v l) (member v m)))

begun-taken : (B : List ℕ) (P : Path) → begun (ear_taken B P) ≡ true
begun-taken [] P = refl
begun-taken (b ∷ B) P = begun-append P.inner b B

member-taken : (B : List ℕ) (P : Path) (v : ℕ) → ear_ends B P ≡ true → member v (ear_taken B P) ≡ (member v B || member v (vertices P))
member-taken [] P v h = refl
member-taken (b ∷ B) P v h =
    let t = and-true (member P.s (b ∷ B)) (member P.t (b ∷ B)) h in
    member-append v P.inner (b ∷ B)
    ∙ go (member v P.inner) (member v (b ∷ B)) (eqb v P.s) (eqb v P.t)
    (λ q. ap (λ (z : ℕ). member z (b ∷ B)) (eqb-true v P.s q) ∙ t.0) (λ q. ap (λ (z : ℕ). member z (b ∷ B)) (eqb-true v P.t q) ∙ t.1)
    ∙ ap (λ (z : Bool). member v (b ∷ B) || (eqb v P.s || z)) (sym (member-append v P.inner (P.t ∷ [])))
  where
    go : (i d x y : Bool) → (x ≡ true → d ≡ true) → (y ≡ true → d ≡ true) → (i || d) ≡ (d || (x || (i || (y || false))))
    go i true x y f k = or-true i
    go i false true y f k = absurd (false≢true (f refl))
    go i false false true f k = absurd (false≢true (k refl))
    go i false false false f k = refl

same_taken : (g : Graph) → g.n ≤ capacity → (B : List ℕ) (e : Ears) → Same B e → (s : List ℕ) (at : ℕ) (P : Path) (next : ℕ) → ear g B s at ≡ Got P next → Same (ear_taken B P) (ears_with e P)
same_taken g h B e r s at P next f =
    let p = ear-got g B s at f in
    let low = path-low g.n 3 (64 * word_count) s at (omega arith) (omega arith) p.0 in
    record {
      long = taken-length e.set (vertices P) r.long;
      begins = begun-taken B P;
      in_both = λ v. member-taken B P v p.1 ∙ ap (λ (b : Bool). b || member v (vertices P)) (r.in_both v) ∙ sym (taken-has e.set (vertices P) v r.long low);
    }

-- the loop gives what the ears give
pub ears-begin : (g : Graph) → g.n ≤ capacity → (k : ℕ) (s : List ℕ) (from : ℕ) → runs (ear_loop g) k no_ears no_ears s from ≡ end_read (all_ears g k s from)
unfolding runs ◌▸◌ check told
ears-begin g h k s from =
    rw (← many-same Same (ear g) ear_taken (ear_loop g).item ears_with (same_ear g) (same_taken g h) k [] no_ears same_none s from)
    (go (many (ear g) ear_taken k [] s from) refl)
  where
    tested : List Path → ℕ → Read (List Path × Unit {0})
    tested all mid = on_read (check 28 (all_below g.n (λ v. member v (folded ear_taken [] all))) s mid) (λ u next. Got (all, u) next)

    pick : (b : Bool) (all : List Path) (mid : ℕ) → cond b (Ok mid) (Err (CertificateFault 28 mid)) ≡ end_read {A = List Path × Unit {0}} (on_read (cond b (Got tt mid) (Refused 28 mid)) (λ u next. Got (all, u) next))
    pick true all mid = refl
    pick false all mid = refl

    go : (x : Read (List Path)) → many (ear g) ear_taken k [] s from ≡ x → finish ears_with (ear_loop g).ok (ear_loop g).bad no_ears x ≡ end_read (on_read x tested)
    go (Got all next) m =
        let r = many-kept Same (ear g) ear_taken (ear_loop g).item ears_with (same_ear g) (same_taken g h) k [] no_ears same_none s from m in
        ap (λ (f : ℕ → Bool). cond (all_below g.n f) (Ok next) (Err (CertificateFault 28 next))) (sym (fun_ext r.in_both)) ∙ pick (all_below g.n (λ v. member v (folded ear_taken [] all))) all next
    go (Refused q p) m = refl
