-- A line from the counts of its size, and how long the lines are. Assumes nothing.
use Prim.Native.Nat.{ℕ, ◌≤◌}
use Prim.Native.Nat.{◌+◌, ◌<◌}
use mathlib.Core.List.{List, [], ◌++◌, append_assoc, append-nil}
use mathlib.Core.Path.{◌≡◌, sym, ap, subst, ◌∙◌}
use Rattle.std.specs.List.{flat_map}
use native.Mathlib.Omega.{arith}
use lib.ListN.{length, take, replicate, get_or, length-append}
use lib.Seq.{take_all}
use Rattle.counting.specs.declared.Counts.{Counts}
use Rattle.counting.specs.Counts.{max_size, count_of, counts_of}
use Rattle.counting.proofs.Counting.{count_most}
use Rattle.lines.specs.Lines.{decimal, newline, longest}
use Rattle.lines.proofs.Digits.{decimal-short}
use Rattle.lines.proofs.Parts.{parts_more}
use Rattle.lines.proofs.Put.{Put, Puts, Puts.none, Puts.more, Begins, begins}
use Rattle.countlines.specs.Text.{blank, count_line, count_text, text_room}

digits : (n k : ℕ) → length (decimal (count_of n k)) ≤ 5
digits n k = decimal-short 4 (count_of n k) (omega (arith, count_most n k))

pub line_short : (n : ℕ) → n ≤ max_size → length (count_line n) ≤ longest
unfolding count_line
line_short n h =
    let a : length (decimal n) ≤ 1 = decimal-short 0 n (omega arith) in
    simp length-append (omega (arith, digits n 0, digits n 1, digits n 2, digits n 3))

-- a size and counts behind it
abbrev pub told : ℕ → List ℕ → List ℕ
told n counts = decimal n ++ flat_map (λ k. blank ++ decimal k) counts

in_turn : (n s a b c d e : List ℕ) → (n ++ ((s ++ a) ++ ((s ++ b) ++ ((s ++ c) ++ ((s ++ d) ++ []))))) ++ e ≡ n ++ s ++ a ++ s ++ b ++ s ++ c ++ s ++ d ++ e
in_turn n s a b c d e = simp (append_assoc, append-nil)

pub told-line : (n : ℕ) {c : Counts} → c ≡ counts_of n → told n c.of ++ newline ≡ count_line n
unfolding count_line
told-line n e = ap (λ (x : Counts). told n x.of ++ newline) e ∙ in_turn (decimal n) blank (decimal (count_of n 0)) (decimal (count_of n 1)) (decimal (count_of n 2)) (decimal (count_of n 3)) newline

-- put piece by piece
pub told_first : (n : ℕ) (counts : List ℕ) {end : ℕ} {line : List ℕ} → Put (replicate 48 0) 0 (decimal n) end line → Puts (replicate 48 0) 0 (told n (take 0 counts)) end line
told_first n counts {end} {line} p = subst (λ (t : List ℕ). Puts (replicate 48 0) 0 t end line) (sym (append-nil (decimal n))) (more none (decimal n) p)

pub told_more : (n : ℕ) (counts : List ℕ) (i : ℕ) {mid end : ℕ} {line last : List ℕ} → i < length counts → Puts (replicate 48 0) 0 (told n (take i counts)) mid line
    → Put line mid (blank ++ decimal (get_or counts i 0)) end last → Puts (replicate 48 0) 0 (told n (take (i + 1) counts)) end last
told_more n counts i {mid} {end} {line} {last} h t p =
    let f : ℕ → List ℕ = λ k. blank ++ decimal k in
    let e : told n (take i counts) ++ f (get_or counts i 0) ≡ told n (take (i + 1) counts) =
    append_assoc (decimal n) (flat_map f (take i counts)) (f (get_or counts i 0)) ∙ ap (λ l. decimal n ++ l) (parts_more f counts i 0 h) in
    subst (λ (t : List ℕ). Puts (replicate 48 0) 0 t end last) e (more t (f (get_or counts i 0)) p)

pub told_begins : (n : ℕ) {c : Counts} (i : ℕ) {end : ℕ} {line : List ℕ} → n ≤ max_size → c ≡ counts_of n → length c.of ≤ i → Puts (replicate 48 0) 0 (told n (take i c.of)) end line
    → Begins (told n c.of) end line
told_begins n {c} i {end} {line} h is l p =
    let t = subst (λ (xs : List ℕ). Puts (replicate 48 0) 0 (told n xs) end line) (take_all i c.of l) p in
    begins {buffer = replicate 48 0} t (omega (arith, line_short n h, ap length (told-line n is), length-append (told n c.of) newline))

pub text_short : length count_text ≤ text_room
unfolding count_text
text_short = simp length-append (omega (arith, line_short 4 (omega arith), line_short 5 (omega arith), line_short 6 (omega arith)))

pub begins_as : {buffer text as-text : List ℕ} {next : ℕ} {last : List ℕ} → text ≡ as-text → length as-text ≤ length buffer → Puts buffer 0 text next last → Begins as-text next last
begins_as {next = next} {last = last} e h p = subst (λ (t : List ℕ). Begins t next last) e (begins p (omega (arith, ap length e)))
