-- A session script: a plan record with its length before it, then calls: `s` or `p` with a part, its length before it, or `b` or `c`.
use Rattle.std.specs.Prelude.{ℕ, ◌+◌, ◌*◌, List, cond, Option, Some, None, length, get_or, leb}

-- a length of two bytes, the lower first, then that many bytes
abbrev pub size_at : List ℕ → ℕ → ℕ
size_at s at = get_or s at 0 + 256 * get_or s (at + 1) 0

-- a part behind its length, by where it begins and ends
unfoldable pub part_at : List ℕ → ℕ → Option (ℕ × ℕ)
part_at s at =
    cond (leb (at + 2) (length s)) (cond (leb (at + 2 + size_at s at) (length s)) (Some (at + 2, at + 2 + size_at s at)) None) None
