-- WHAT THE COUNTING PROGRAM PRINTS (request 5 of document 02): "a line for each size, with the size and the counts for grades 0 to 3, single blanks
-- between, sizes ascending".
use Rattle.std.specs.Prelude.{ℕ, ◌*◌, List, [], ◌∷◌, ◌++◌}
use Rattle.lines.specs.Lines.{decimal, newline, longest}
use Rattle.counting.specs.Counts.{count_of}

abbrev pub blank : List ℕ
blank = 32 ∷ []

unfoldable pub count_line : ℕ → List ℕ
count_line n = decimal n ++ blank ++ decimal (count_of n 0) ++ blank ++ decimal (count_of n 1) ++ blank ++ decimal (count_of n 2) ++ blank ++ decimal (count_of n 3) ++ newline

unfoldable pub count_text : List ℕ
count_text = count_line 4 ++ count_line 5 ++ count_line 6

-- the text has room in so many bytes
abbrev pub text_room : ℕ
text_room = 3 * longest
