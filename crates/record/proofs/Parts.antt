-- What follows from the law of any reader.
use Prim.Native.Nat.{ℕ, ◌+◌, ◌<◌, ◌≤◌}
use mathlib.Core.List.{List, [], ◌∷◌, ◌++◌}
use mathlib.Core.Path.{◌≡◌, refl, sym, ◌∙◌}
use native.Mathlib.Omega.{arith}
use native.Mathlib.Numerals.{add-one}
use lib.ListN.{length, get_or, drop, length-drop}
use lib.Seq.{get_or-drop, drop-drop, drop-cons}
use Rattle.record.specs.Read.{Read.Got, Reader, Bytes, Each}
use Rattle.record.specs.Number.{list_bytes}
use Rattle.record.proofs.Write.{spans_between}
use Rattle.record.proofs.Laws.{Reads, Spans, Spans.none, Spans.more, spans_join, spans_part, drop_spans}

-- the bytes of a part are the bytes from there on
part_on : (s : List ℕ) (k : ℕ) {at next : ℕ} {bs : List ℕ} → Spans (drop k s) at bs next → Spans s (k + at) bs (k + next)
part_on s k none = none
part_on s k (more {at} {next} {b} {bs} i e p) =
    let j : k + at < length s = omega (arith, length-drop k s) in
    let z : k + (at + 1) ≡ k + at + 1 = omega arith in
    more j (sym (get_or-drop k s at 0) ∙ e) (rw z at (part_on s k p))

part_off : (s : List ℕ) (k : ℕ) (at next : ℕ) (bs : List ℕ) → Spans s (k + at) bs (k + next) → Spans (drop k s) at bs next
part_off s k at next bs p = go bs at (k + at) (k + next) p refl refl
  where
    go : (bs : List ℕ) (at a n : ℕ) → Spans s a bs n → a ≡ k + at → n ≡ k + next → Spans (drop k s) at bs next
    go [] at a n none e f = let z : at ≡ next = omega arith in rw z none
    go (b ∷ bs) at a n (more i g p) e f =
        let j : at < length (drop k s) = omega (arith, length-drop k s) in
        let y : get_or (drop k s) at 0 ≡ b = get_or-drop k s at 0 ∙ rw (← e) g in
        let z : a + 1 ≡ k + (at + 1) = omega arith in
        more j y (go bs (at + 1) (a + 1) n p z f)

pub spans_length : {s bs : List ℕ} {at next : ℕ} → Spans s at bs next → next ≡ at + length bs
spans_length none = omega arith
spans_length (more i e p) = let r = spans_length p in omega arith

spans_front : {s bs : List ℕ} {at next : ℕ} → Spans s at bs next → drop at s ≡ bs ++ drop next s
spans_front none = refl
spans_front {s} (more {at} i e p) = let r = spans_front p in drop-cons s at 0 i ∙ rw (← add-one at, e, r)

module _ {A : Type 0} {R : Reader A} {enc : A → List ℕ} {Ok : A → Type 0} (h : Reads R enc Ok) where
  -- a part that is handed in is accepted where the record is accepted from there on: sessions, and the program's certificate
  pub part_there : (s : List ℕ) (k : ℕ) {v : A} {next : ℕ} → Bytes s → R (drop k s) 0 ≡ Got v next → R s k ≡ Got v (k + next)
  part_there s k {v} bytes e =
      let b : Bytes (drop k s) = λ i. rw (get_or-drop k s i 0) (bytes (k + i)) in
      let p = h.there b e in
      let z : k + 0 ≡ k = omega arith in
      h.back {v = v} (rw z at (part_on s k p.0)) p.1

  pub part_back : (s : List ℕ) (k : ℕ) {v : A} {next : ℕ} → Bytes s → R s k ≡ Got v (k + next) → R (drop k s) 0 ≡ Got v next
  part_back s k {v} {next} bytes e =
      let p = h.there bytes e in
      let z : k ≡ k + 0 = omega arith in
      h.back {v = v} (part_off s k 0 next (enc v) (rw (← z) p.0)) p.1

  -- what is written is read back as one value only
  pub one_value : {v w : A} → Ok v → Ok w → enc v ≡ enc w → v ≡ w
  one_value {v} {w} o q e =
      let z : 0 ≤ length (enc v) = omega arith in
      let a = h.back {v = v} (drop_spans (enc v) (enc v) 0 z refl) o in
      let b = h.back {v = w} (drop_spans (enc v) (enc w) 0 z e) q in
      cc

  -- a value at the start of a record, whatever follows
  pub leads_there : {s : List ℕ} {v : A} {next : ℕ} → Bytes s → R s 0 ≡ Got v next → (s ≡ enc v ++ drop next s) × (next ≡ length (enc v)) × (Ok v)
  leads_there {s} {v} {next} bytes e =
      let p = h.there bytes e in
      let n : next ≡ length (enc v) = omega (arith, spans_length p.0) in
      (spans_front p.0, n, p.1)

  pub leads_back : (v : A) (rest : List ℕ) → Ok v → R (enc v ++ rest) 0 ≡ Got v (length (enc v))
  leads_back v rest o =
      let n : 0 + length (enc v) ≡ length (enc v) = omega arith in
      h.back {v = v} (rw n at (spans_between [] (enc v) rest 0 refl)) o

-- items read by one call each, every call on the part that the one before it left unread; m bytes in all
pub data Calls {S A : Type 0} (item : S → Reader A) (after : S → A → S) : S → List ℕ → List A → ℕ → Type 0 where
  no_call : {st : S} {part : List ℕ} → Calls item after st part [] 0
  call : {st : S} {part : List ℕ} {a : A} {l : List A} {k m : ℕ} → item st part 0 ≡ Got a k → Calls item after (after st a) (drop k part) l m → Calls item after st part (a ∷ l) (k + m)

module _ {S A : Type 0} {item : S → Reader A} {enc : A → List ℕ} {Ok : S → A → Type 0} (after : S → A → S) (h : (st : S) → Reads (item st) enc (Ok st)) (s : List ℕ) (bytes : Bytes s) where
  -- these calls accept exactly what many items one after the other are
  pub calls_there : (st : S) (l : List A) (at next : ℕ) → Spans s at (list_bytes enc l) next → Each Ok after st l → (m : ℕ) × (next ≡ at + m) × Calls item after st (drop at s) l m
  unfolding list_bytes Each
  calls_there st [] at next p e = (0, spans_length p, no_call)
  calls_there st (a ∷ l) at next p e =
      let q = spans_part (enc a) p in
      let k = length (enc a) in
      let i : q.0 ≡ at + k = spans_length q.1 in
      let r = calls_there (after st a) l (at + k) next (rw i at q.2) e.1 in
      let c : Calls item after (after st a) (drop k (drop at s)) l r.0 = rw (drop-drop k at s) r.2 in
      (k + r.0, omega (arith, r.1), call (part_back (h st) s at bytes ((h st).back {v = a} (rw i at q.1) e.0)) c)

  pub calls_back : (st : S) (l : List A) (at m : ℕ) → Calls item after st (drop at s) l m → (Spans s at (list_bytes enc l) (at + m)) × (Each Ok after st l)
  unfolding list_bytes Each
  calls_back st l at m c = go st l at (drop at s) m c refl
    where
      go : (st : S) (l : List A) (at : ℕ) (part : List ℕ) (m : ℕ) → Calls item after st part l m → part ≡ drop at s → (Spans s at (list_bytes enc l) (at + m)) × (Each Ok after st l)
      go st [] at part m no_call f = (let z : at ≡ at + 0 = omega arith in rw (← z) none, tt)
      go st (a ∷ l) at part m (call {k = k} {m = j} e c) f =
          let p = (h st).there bytes (part_there (h st) s at bytes (rw f at e)) in
          let r = go (after st a) l (at + k) (drop k part) j c (rw f (drop-drop k at s)) in
          let z : at + k + j ≡ at + (k + j) = omega arith in
          (spans_join p.0 (rw z at r.0), (p.1, r.1))
