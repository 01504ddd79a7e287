-- How long the texts are that are put together piece by piece. Assumes nothing.
use Prim.Native.Nat.{ℕ, ◌^◌, ◌≤◌, ◌<◌}
use mathlib.Core.List.{List, [], ◌++◌, append_assoc, append-nil}
use mathlib.Core.Path.{◌≡◌}
use native.Mathlib.Omega.{arith}
use lib.ListN.{length, replicate, length-append}
use Rattle.lines.specs.Lines.{decimal, refused_word, at_word, newline, fault_line, boxes_text, cables_text, size_text}
use Rattle.lines.proofs.Digits.{decimal-short}
use Rattle.lines.proofs.Put.{Put, Puts.none, Puts.more, Begins, begins}

-- 48 bytes are enough: `certificate` has 11, a byte in decimal 3, a place 20
pub fault_short : (who : List ℕ) (number place : ℕ) → length who ≤ 11 → number < 256 → place < 2 ^ 64 → length (fault_line who number place) ≤ 48
unfolding fault_line
fault_short who number place h i j =
    let n : length (decimal number) ≤ 3 = decimal-short 2 number (omega arith) in
    let m : length (decimal place) ≤ 20 = decimal-short 19 place (omega arith) in
    simp length-append (omega arith)

pub size_short : (n m : ℕ) → n < 65536 → m < 65536 → length (size_text n m) ≤ 24
size_short n m h i =
    let a : length (decimal n) ≤ 5 = decimal-short 4 n (omega arith) in
    let b : length (decimal m) ≤ 5 = decimal-short 4 m (omega arith) in
    simp length-append (omega arith)

-- a plan's numbers in a buffer of their own
pub size_begins : (n m : ℕ) {next : ℕ} {out : List ℕ} → n < 65536 → m < 65536 → Put (replicate 48 0) 0 (size_text n m) next out → Begins (size_text n m) next out
size_begins n m h i p = let l = size_short n m h i in begins {buffer = replicate 48 0} (more none (size_text n m) p) (omega arith)

-- the parts that are put one behind the other are the line
pub fault_parts : (who : List ℕ) (number place : ℕ) {xs ys : List ℕ} → xs ≡ decimal number → ys ≡ decimal place
    → who ++ (refused_word ++ (xs ++ (at_word ++ (ys ++ (newline ++ []))))) ≡ fault_line who number place
unfolding fault_line
fault_parts who number place d e = rw (d, e) (simp append_assoc)

pub size_parts : (n m : ℕ) {xs ys : List ℕ} → xs ≡ decimal n → ys ≡ decimal m → boxes_text ++ (xs ++ (cables_text ++ (ys ++ []))) ≡ size_text n m
size_parts n m d e = rw (d, e) (simp (append_assoc, append-nil))
