-- What a reader accepts: exactly the bytes of a value that is in order. One law for each way of putting readers together. Assumes nothing.
use Prim.Native.Nat.{ℕ, zero, suc, ◌+◌, ◌-◌, ◌<◌, ◌≤◌}
use mathlib.Core.List.{List, [], ◌∷◌, ◌++◌}
use mathlib.Core.Bool.{Bool, true, false, cond}
use mathlib.Core.Path.{◌≡◌, refl, sym, ap, ◌∙◌, subst}
use mathlib.Core.Logic.{◌⊎◌, inl, inr, ⊎_elim}
use native.Mathlib.Omega.{arith}
use native.Mathlib.Numerals.{add-one}
use lib.ListN.{length, get_or, drop, drop_of_length-le, length-drop}
use lib.Seq.{drop-cons}
use lib.Dec.{ltb}
use borrow.Author.Tests.{ltb-false, le-ltb}
use Rattle.record.specs.Read.{Read, Read.Got, Read.Refused, Reader, Bytes, Each, on_read, ◌needs⟨◌⟩◌, ◌▸◌, ◌▹◌, into, many, counted, check, ended}
use Rattle.record.specs.Number.{list_bytes}

-- the bytes from at up to next are these
pub data Spans (s : List ℕ) : ℕ → List ℕ → ℕ → Type 0 where
  none : {at : ℕ} → Spans s at [] at
  more : {at next b : ℕ} {bs : List ℕ} → at < length s → get_or s at 0 ≡ b → Spans s (at + 1) bs next → Spans s at (b ∷ bs) next

pub spans_join : {s bs cs : List ℕ} {at mid next : ℕ} → Spans s at bs mid → Spans s mid cs next → Spans s at (bs ++ cs) next
spans_join none q = q
spans_join (more i e p) q = more i e (spans_join p q)

pub spans_part : {s : List ℕ} (bs : List ℕ) {cs : List ℕ} {at next : ℕ} → Spans s at (bs ++ cs) next → (mid : ℕ) × (Spans s at bs mid) × (Spans s mid cs next)
spans_part [] p = (_, none, p)
spans_part (b ∷ bs) (more i e p) = let r = spans_part bs p in (r.0, more i e r.1, r.2)

-- the reader gives v and the place after it exactly where the bytes from the place on are v's and v is in order
pub record Reads {A : Type 0} (R : Reader A) (enc : A → List ℕ) (Ok : A → Type 0) : Type 0 where
  pub there : {s : List ℕ} {at next : ℕ} {v : A} → Bytes s → R s at ≡ Got v next → (Spans s at (enc v) next) × (Ok v)
  pub back : {s : List ℕ} {at next : ℕ} {v : A} → Spans s at (enc v) next → Ok v → R s at ≡ Got v next

-- a step that gave a value had one before it
pub on_got : {A B : Type 0} (x : Read A) (f : A → ℕ → Read B) {w : B} {next : ℕ} → on_read x f ≡ Got w next
    → (v : A) × (mid : ℕ) × (x ≡ Got v mid) × (f v mid ≡ Got w next)
on_got (Got v mid) f e = (v, mid, refl, e)
on_got (Refused r p) f e = let z : ◌≡◌ {A = ℕ} 0 1 = cc in absurd (omega arith)

pub test_got : {A : Type 0} (b : Bool) (x : Read A) (r p : ℕ) {w : A} {next : ℕ} → cond b x (Refused r p) ≡ Got w next → (b ≡ true) × (x ≡ Got w next)
test_got true x r p e = (refl, e)
test_got false x r p e = let z : ◌≡◌ {A = ℕ} 0 1 = cc in absurd (omega arith)

pub split_got : {A : Type 0} (b : Bool) (x y : Read A) {w : A} {next : ℕ} → cond b x y ≡ Got w next
    → ((b ≡ true) × (x ≡ Got w next)) ⊎ ((b ≡ false) × (y ≡ Got w next))
split_got true x y e = inl (refl, e)
split_got false x y e = inr (refl, e)

-- what holds of a value and its end holds of any that equal them
abbrev at_got : {A : Type 0} → (A → ℕ → Type 0) → Read A → Type 0
at_got P (Got v n) = P v n
at_got P (Refused r p) = ⊥

pub carry : {A : Type 0} (P : A → ℕ → Type 0) {a b : A} {m n : ℕ} → Got a m ≡ Got b n → P a m → P b n
carry P e p = subst (at_got P) e p

module _ {A : Type 0} {R : Reader A} {enc : A → List ℕ} {Ok : A → Type 0} (h : Reads R enc Ok) where
  pub needs_law : (r : ℕ) (ok : A → Bool) → Reads (R needs⟨ r ⟩ ok) enc (λ v. (Ok v) × (ok v ≡ true))
  unfolding ◌needs⟨◌⟩◌
  needs_law r ok = record {
    there = λ {s} {at} {next} {v} bytes e.
        let g = on_got (R s at) _ e in
        let t = test_got (ok g.0) _ r at g.3 in
        let q = h.there bytes g.2 in
        carry (λ w n. (Spans s at (enc w) n) × ((Ok w) × (ok w ≡ true))) t.1 (q.0, (q.1, t.0));
    back = λ {s} {at} {next} {v} p i. rw (h.back p i.0, i.1);
  }

  pub pair-law : {B : A → Type 0} {f : (a : A) → Reader (B a)} {encB : (a : A) → B a → List ℕ} {OkB : (a : A) → B a → Type 0}
      → ((a : A) → Reads (f a) (encB a) (OkB a)) → Reads (R ▸ f) (λ x. enc x.0 ++ encB x.0 x.1) (λ x. (Ok x.0) × (OkB x.0 x.1))
  unfolding ◌▸◌
  pair-law {f = f} {encB = encB} {OkB = OkB} hB = record {
    there = λ {s} {at} {next} {v} bytes e.
        let g = on_got (R s at) _ e in
        let k = on_got (f g.0 s g.1) _ g.3 in
        let p = h.there bytes g.2 in
        let q = (hB g.0).there bytes k.2 in
        carry (λ x n. (Spans s at (enc x.0 ++ encB x.0 x.1) n) × ((Ok x.0) × (OkB x.0 x.1))) k.3 (spans_join p.0 q.0, (p.1, q.1));
    back = λ {s} {at} {next} {v} p i. let q = spans_part (enc v.0) p in rw (h.back q.1 i.0, (hB v.0).back q.2 i.1);
  }

module _ {S A : Type 0} {item : S → Reader A} {enc : A → List ℕ} {Ok : S → A → Type 0} (after : S → A → S) (h : (st : S) → Reads (item st) enc (Ok st)) where
  abbrev Law-of : ℕ → S → Type 0
  Law-of k st = Reads (many item after k st) (list_bytes enc) (λ l. (length l ≡ k) × (Each Ok after st l))

  none_left : (st : S) {s : List ℕ} {at next : ℕ} {v : List A} → Spans s at (list_bytes enc v) next → length v ≡ 0 → many item after 0 st s at ≡ Got v next
  unfolding many list_bytes
  none_left st {v = []} none i = refl
  none_left st {v = a ∷ l} p i = absurd (omega arith)

  one_more : (k : ℕ) (st : S) → ((a : A) → Law-of k (after st a)) → {s : List ℕ} {at next : ℕ} {v : List A} → Spans s at (list_bytes enc v) next → length v ≡ suc k → Each Ok after st v
      → many item after (suc k) st s at ≡ Got v next
  unfolding many list_bytes Each
  one_more k st ih {v = []} p i j = absurd (omega arith)
  one_more k st ih {v = a ∷ l} p i j =
      let q = spans_part (enc a) p in
      let n : length l ≡ k = omega arith in
      rw ((h st).back q.1 j.0, (ih a).back {v = l} q.2 (n, j.1))

  pub many-law : (k : ℕ) (st : S) → Law-of k st
  unfolding many list_bytes Each
  many-law zero st = record {
    there = λ {s} {at} {next} {v} bytes e. carry (λ l n. (Spans s at (list_bytes enc l) n) × ((length l ≡ 0) × (Each Ok after st l))) e (none, (refl, tt));
    back = λ {s} {at} {next} {v} p i. none_left st p i.0;
  }
  many-law (suc k) st = record {
    there = λ {s} {at} {next} {v} bytes e.
        let g = on_got (item st s at) _ e in
        let k₂ = on_got (many item after k (after st g.0) s g.1) _ g.3 in
        let p = (h st).there bytes g.2 in
        let q = (many-law k (after st g.0)).there bytes k₂.2 in
        carry (λ l n. (Spans s at (list_bytes enc l) n) × ((length l ≡ suc k) × (Each Ok after st l))) k₂.3 (spans_join p.0 q.0, (ap suc q.1.0, (p.1, q.1.1)));
    back = λ {s} {at} {next} {v} p i. one_more k st (λ a. many-law k (after st a)) p i.0 i.1;
  }

pub leads_law : {A B : Type 0} {R : Reader A} {f : A → Reader B} {enc : A → List ℕ} {encB : B → List ℕ} {Ok : A → Type 0} {OkB : B → Type 0}
    (key : B → A) → Reads R enc Ok → ((a : A) → Ok a → Reads (f a) encB (λ b. (key b ≡ a) × (OkB b)))
    → Reads (R ▹ f) (λ b. enc (key b) ++ encB b) (λ b. (Ok (key b)) × (OkB b))
unfolding ◌▹◌
leads_law {R = R} {f} {enc} {encB} {Ok} {OkB} key h hB = record {
  there = λ {s} {at} {next} {v} bytes e.
      let g = on_got (R s at) _ e in
      let p = h.there bytes g.2 in
      let q = (hB g.0 p.1).there bytes g.3 in
      let z : key v ≡ g.0 = q.1.0 in
      rw z (spans_join p.0 q.0, (p.1, q.1.1));
  back = λ {s} {at} {next} {v} p i.
      let q = spans_part (enc (key v)) p in
      rw (h.back q.1 i.0) ((hB (key v) i.0).back q.2 (refl, i.1));
}

pub counted-law : {S A : Type 0} {item : S → Reader A} {enc : A → List ℕ} {Ok : S → A → Type 0} (after : S → A → S) → ((st : S) → Reads (item st) enc (Ok st))
    → {count : Reader ℕ} {encC : ℕ → List ℕ} {OkC : ℕ → Type 0} → Reads count encC OkC → (st : S)
    → Reads (counted count item after st) (λ l. encC (length l) ++ list_bytes enc l) (λ l. (OkC (length l)) × (Each Ok after st l))
counted-law after h hC st = leads_law length hC (λ k o. many-law after h k st)

pub into-law : {A B : Type 0} {R : Reader A} {enc : A → List ℕ} {Ok : A → Type 0} {encB : B → List ℕ} {OkB : B → Type 0} → Reads R enc Ok
    → (f : A → B) → ((a : A) → Ok a → encB (f a) ≡ enc a) → ((a : A) → Ok a → OkB (f a)) → ((b : B) → OkB b → (a : A) × (f a ≡ b) × (Ok a))
    → Reads (into f R) encB OkB
unfolding into
into-law {R = R} {enc} {Ok} {encB} {OkB} h f same on off = record {
  there = λ {s} {at} {next} {v} bytes e.
      let g = on_got (R s at) _ e in
      let p = h.there bytes g.2 in
      carry (λ w n. (Spans s at (encB w) n) × (OkB w)) g.3 (rw (same g.0 p.1) p.0, on g.0 p.1);
  back = λ {s} {at} {next} {v} p i.
      let o = off v i in
      let q : Spans s at (enc o.0) next = rw (← same o.0 o.2, o.1) p in
      rw (h.back q o.2, o.1);
}

pub check-law : (r : ℕ) (ok : Bool) → Reads (check r ok) (λ u. []) (λ u. ok ≡ true)
unfolding check
check-law r ok = record {
  there = λ {s} {at} {next} {v} bytes e. let t = test_got ok _ r at e in carry (λ u n. (Spans s at [] n) × (ok ≡ true)) t.1 (none, t.0);
  back = λ {s} {at} {next} {v} p i. rw i (stay p);
}
  where
    stay : {s : List ℕ} {at next : ℕ} {u : Unit {0}} → Spans s at [] next → Got tt at ≡ Got u next
    stay none = refl

-- the same in other words
pub same_law : {A : Type 0} {R : Reader A} {enc : A → List ℕ} {Ok Ok' : A → Type 0} → Reads R enc Ok → ((v : A) → Ok v → Ok' v) → ((v : A) → Ok' v → Ok v) → Reads R enc Ok'
same_law h f g = record {
  there = λ {s} {at} {next} {v} bytes e. let p = h.there bytes e in (p.0, f v p.1);
  back = λ {s} {at} {next} {v} p i. h.back p (g v i);
}

pub bytes_law : {A : Type 0} {R : Reader A} {enc enc' : A → List ℕ} {Ok : A → Type 0} → Reads R enc Ok → ((v : A) → enc v ≡ enc' v) → Reads R enc' Ok
bytes_law {enc = enc} {enc'} h same = record {
  there = λ {s} {at} {next} {v} bytes e. let p = h.there bytes e in (rw (← same v) p.0, p.1);
  back = λ {s} {at} {next} {v} p i. let q : Spans s at (enc v) next = rw (same v) p in h.back q i;
}

-- each item in other words
pub each_same : {S A : Type 0} {Ok Ok' : S → A → Type 0} (after : S → A → S) → ((st : S) (a : A) → Ok st a → Ok' st a) → (st : S) (l : List A) → Each Ok after st l → Each Ok' after st l
unfolding Each
each_same after f st [] e = tt
each_same after f st (a ∷ l) e = (f st a e.0, each_same after f (after st a) l e.1)

-- nothing left
pub spans_drop : {s bs : List ℕ} {at next : ℕ} → Spans s at bs next → length s ≤ next → drop at s ≡ bs
spans_drop {s} none h = drop_of_length-le s h
spans_drop {s} (more {at} i e p) h = let r = spans_drop p h in drop-cons s at 0 i ∙ rw (← add-one at, e, r)

pub drop_spans : (s bs : List ℕ) (at : ℕ) → at ≤ length s → drop at s ≡ bs → Spans s at bs (length s)
drop_spans s [] at i e =
    let l : length s - at ≡ 0 = sym (length-drop at s) ∙ ap length e in
    let z : at ≡ length s = omega arith in
    rw (← z) none
drop_spans s (b ∷ bs) at i e =
    let l : length s - at ≡ suc (length bs) = sym (length-drop at s) ∙ ap length e in
    let j : at < length s = omega arith in
    let k = drop-cons s at 0 j in
    let f : get_or s at 0 ≡ b = cc in
    let r : drop (at + 1) s ≡ bs = rw add-one (cc) in
    more j f (drop_spans s bs (at + 1) (let z : at + 1 ≤ length s = omega arith in z) r)

-- a whole record is accepted exactly where it is read and nothing is left
module _ {A : Type 0} (R : Reader A) {s : List ℕ} {v : A} {next : ℕ} where
  pub ended-got : ended R s 0 ≡ Got v next → (R s 0 ≡ Got v next) × (length s ≤ next)
  unfolding ended
  ended-got e =
      let g = on_got (R s 0) _ e in
      ⊎_elim
      (λ k. let y : ◌≡◌ {A = ℕ} 0 1 = cc k.1 in absurd (omega arith))
      (λ k. (g.2 ∙ k.1, carry (λ w n. length s ≤ n) k.1 (ltb-false _ _ k.0)))
      (split_got (ltb g.1 (length s)) _ _ g.3)

  pub got_ended : R s 0 ≡ Got v next → length s ≤ next → ended R s 0 ≡ Got v next
  unfolding ended
  got_ended e h = rw (e, le-ltb next (length s) h)

-- a whole record is accepted with a value exactly where its bytes are the value's and the value is in order
module _ {A : Type 0} {R : Reader A} {enc : A → List ℕ} {Ok : A → Type 0} (h : Reads R enc Ok) {s : List ℕ} {v : A} where
  pub ended-there : {next : ℕ} → Bytes s → ended R s 0 ≡ Got v next → (s ≡ enc v) × (Ok v)
  ended-there bytes e =
      let g = ended-got R e in
      let p = h.there bytes g.0 in
      (spans_drop p.0 g.1, p.1)

  pub ended-back : s ≡ enc v → Ok v → ended R s 0 ≡ Got v (length s)
  ended-back e i =
      let z : 0 ≤ length s = omega arith in
      let n : length s ≤ length s = omega arith in
      got_ended R (h.back (drop_spans s (enc v) 0 z e) i) n
