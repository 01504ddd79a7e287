-- Writing into a lent buffer.
use Rattle.std.specs.Prelude.{ℕ, ◌+◌, List, ◌++◌, Bool, cond, ◌&&◌, Option, Some, None, length, take, drop, ltb, leb}
use Rattle.record.specs.Number.{number_bytes, number_limit}

-- the buffer with these bytes at a place; every other byte keeps its value
abbrev pub overwritten : List ℕ → ℕ → List ℕ → List ℕ
overwritten buffer at bytes = take at buffer ++ bytes ++ drop (at + length bytes) buffer

-- these bytes have room from the place on
abbrev pub has_room : List ℕ → ℕ → List ℕ → Bool
has_room buffer at bytes = leb (at + length bytes) (length buffer)

-- the number can be written: it has a form of one or two bytes, and there is room for it
abbrev pub can_write : List ℕ → ℕ → ℕ → Bool
can_write buffer at v = ltb v number_limit && has_room buffer at (number_bytes v)

-- the place after the number, or that nothing was written
abbrev pub written_number : List ℕ → ℕ → ℕ → Option ℕ
written_number buffer at v = cond (can_write buffer at v) (Some (at + length (number_bytes v))) None

-- the buffer then
abbrev pub with_number : List ℕ → ℕ → ℕ → List ℕ
with_number buffer at v = cond (can_write buffer at v) (overwritten buffer at (number_bytes v)) buffer
