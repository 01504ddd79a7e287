-- A set of which one word is changed, in a loop that looks at every word: as it was up to that word, changed behind it. Assumes nothing.
use mathlib.Core.Path.{◌≡◌, refl}
use mathlib.Core.List.{List}
use mathlib.Core.Bool.{Bool, true, false, cond}
use mathlib.Core.Logic.{◌≢◌}
use Prim.Native.Nat.{ℕ, ◌+◌, ◌≤◌, ◌/◌, ◌%◌, ◌^◌}
use native.Mathlib.Omega.{arith}
use lib.Dec.{ltb}
use lib.ListN.{length, get_or, set}
use lib.Seq.{set_out}
use borrow.Author.Tests.{lt-ltb, le-ltb, ltb-true, ltb-false}

-- the word of v as f makes it of that word and of the bit of v
abbrev pub changed : (ℕ → ℕ → ℕ) → List ℕ → ℕ → List ℕ
changed f ws v = set ws (v / 64) (f (get_or ws (v / 64) 0) (2 ^ (v % 64)))

-- the words when those before i were looked at
abbrev pub passed : (ℕ → ℕ → ℕ) → List ℕ → ℕ → ℕ → List ℕ
passed f ws v i = cond (ltb (v / 64) i) (changed f ws v) ws

-- another word does not matter
pub other : (k i : ℕ) → i ≢ k → ltb k (i + 1) ≡ ltb k i
other k i n = go (ltb k i) refl
  where
    go : (b : Bool) → ltb k i ≡ b → ltb k (i + 1) ≡ b
    go true e = lt-ltb k (i + 1) (omega (arith, ltb-true k i e))
    go false e = le-ltb k (i + 1) (omega (arith, ltb-false k i e))

-- all words were passed: changed, or there is no such word
pub all-passed : (f : ℕ → ℕ → ℕ) (ws : List ℕ) (v i : ℕ) → length ws ≤ i → passed f ws v i ≡ changed f ws v
all-passed f ws v i h = go (ltb (v / 64) i) refl
  where
    go : (b : Bool) → ltb (v / 64) i ≡ b → cond b (changed f ws v) ws ≡ changed f ws v
    go true e = refl
    go false e = let l : length ws ≤ v / 64 = omega (arith, ltb-false (v / 64) i e) in rw set_out
