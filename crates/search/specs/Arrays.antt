-- Lists at the front of the code's arrays.
use Rattle.std.specs.Prelude.{ℕ, ◌≡◌, ◌≤◌, ◌+◌, ◌-◌, List, ◌++◌, cond, length, take, replicate}
use Rattle.record.specs.Write.{overwritten, has_room}

-- a list at the front of an array of this size, and zeros behind it
abbrev pub padded : ℕ → List ℕ → List ℕ
padded size l = l ++ replicate (size - length l) 0

-- an array of this size has a list of this length at its front
pub record Fronted (size : ℕ) (items : List ℕ) (count : ℕ) : Type 0 where
  pub sized : length items ≡ size
  pub within : count ≤ length items
  pub zeros : items ≡ padded size (take count items)

-- the array with the numbers l from a place on, where they have room; else nothing changes
abbrev pub placed : List ℕ → ℕ → List ℕ → List ℕ
placed items at l = cond (has_room items at l) (overwritten items at l) items

-- the place behind them
abbrev pub placed_end : List ℕ → ℕ → List ℕ → ℕ
placed_end items at l = cond (has_room items at l) (at + length l) at
