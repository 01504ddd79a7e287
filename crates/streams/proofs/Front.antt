-- Fronts of what is written.
use Rattle.std.proofs.Common.{◌≡◌, ℕ, ◌+◌, inl, inr, List, ◌++◌, Option, None, Some, IfSome, OnErr, Result, Ok, Err, length, take, arith, sym, ap, ◌∙◌, subst}
use Rattle.std.proofs.lemmas.Bool.{cases_lt}
use Rattle.std.proofs.lemmas.List.{take_all, take-append-le}
use Rattle.std.proofs.Math.Seq.{take-append_seam, take-append-add}
use Rattle.std.specs.Io.KnownBytes.{Appends}
use Rattle.std.proofs.KnownBytes.{Appends-nil, Appends-trans}
use Rattle.streams.specs.Front.{AppendsFront}

-- nothing was written: that is the front of length 0, whatever the answer to the input is
pub front_none : (input a : Option (List ℕ)) (f : List ℕ → List ℕ) → IfSome input (λ xs. AppendsFront a a (f xs))
front_none None a f = tt
front_none (Some xs) a f = (0, Appends-nil a)

-- a front of the first part is one of the whole
front_of : (k : ℕ) (xs ys : List ℕ) → (j : ℕ) × (take j (xs ++ ys) ≡ take k xs)
front_of k xs ys = elim (cases_lt (length xs) k) [
  | inl h ↦ (length xs, take-append_seam xs ys ∙ sym (take_all k xs (omega arith)))
  | inr h ↦ (k, take-append-le k xs ys h)
]

-- all of `done` was written, and then a front of `next`
pub front_behind : (a b c : Option (List ℕ)) (done next rest all : List ℕ) → Appends a b done → AppendsFront b c next → all ≡ done ++ (next ++ rest) → AppendsFront a c all
front_behind a b c done next rest all p q e =
    let front = front_of q.0 next rest in
    let same : done ++ take q.0 next ≡ take (length done + front.0) all =
    ap (λ l. done ++ l) (sym front.1) ∙ sym (take-append-add done (next ++ rest) front.0) ∙ ap (take (length done + front.0)) (sym e) in
    (length done + front.0, subst (Appends a c) same (Appends-trans a b c done _ p q.1))

-- what holds anyway holds after an error
pub on_err : {T E P : Type 0} (r : Result T E) → P → OnErr r P
on_err (Ok x) p = tt
on_err (Err e) p = p
