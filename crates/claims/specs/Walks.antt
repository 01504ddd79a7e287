-- REQUEST 3 of document 02, from box to box in a set: the next member from a number on, and how many steps a walk takes. Over any number of words.
use Rattle.std.specs.Prelude.{ℕ, ◌+◌, ◌-◌, ◌/◌, ◌^◌, ◌≤◌, List, [], ◌∷◌, true, ◌≡◌, ◌↔◌, length}
use Rattle.connectivity.specs.Lists.{select, up_from}
use Rattle.vertexset.specs.Set.{Words, has, count, past, next}
use Rattle.vertexset.specs.Walk.{walk_from, steps, walked}

-- x is in the set and is not below v
abbrev pub From : List ℕ → ℕ → ℕ → Type 0
From ws v x = (has ws x ≡ true) × (v ≤ x)

-- "The next box from a number on is the least in the set that isn't below it, and none is answered exactly when there is no such box": none is
-- `past`, the first number past the words.
pub record Next (ws : List ℕ) (v r : ℕ) : Type 0 where
  pub least : ¬ (r ≡ past ws) → From ws v r × ((x : ℕ) → From ws v x → r ≤ x)
  pub none : (r ≡ past ws) ↔ ((x : ℕ) → ¬ From ws v x)

-- `VertexSet::next_from` answers `next`.
abbrev pub NextLeast : Type 0
NextLeast = (ws : List ℕ) (v : ℕ) → Next ws v (next ws v)

-- the members that are not below v, ascending
abbrev pub list_from : List ℕ → ℕ → List ℕ
list_from ws v = select (has ws) (up_from v (past ws - v))

-- "a walk takes at most one step for each box in the set and one for each word", however often it is asked to go on. So many steps are enough: it then has
-- taken just one for each member that is not below v and one for each word from v's on, and has met each of these members once, in ascending order.
-- There are no more of them than the set's size, `count`, which `VertexSet::size` answers.
pub record Walked (ws : List ℕ) (v : ℕ) : Type 0 where
  pub few : (k : ℕ) → steps ws k (walk_from ws v) ≤ length (list_from ws v) + length ws
  pub just : (k : ℕ) → length (list_from ws v) + length ws ≤ k → steps ws k (walk_from ws v) ≡ length (list_from ws v) + (length ws - v / 64)
  pub all : (k : ℕ) → length (list_from ws v) + length ws ≤ k → walked ws k (walk_from ws v) ≡ list_from ws v
  pub sized : length (list_from ws v) ≤ count ws

-- `VertexSet::walk_from` gives `walkFrom`, and each call of `Cursor::step` is one step of `steps` and of `walked`.
abbrev pub WalksBounded : Type 0
WalksBounded = (ws : List ℕ) → Words ws → (v : ℕ) → Walked ws v

-- ---- an example: four words, the first two empty, then the last vertex of the third and two vertices of the fourth

abbrev pub four_words : List ℕ
four_words = 0 ∷ (0 ∷ (2 ^ 63 ∷ (5 ∷ [])))

-- three members and four words: seven steps, and never more; from 192 on two members and one word
pub record Example : Type 0 where
  pub members : walked four_words 7 (walk_from four_words 0) ≡ 191 ∷ (192 ∷ (194 ∷ []))
  pub not_sooner : walked four_words 5 (walk_from four_words 0) ≡ 191 ∷ (192 ∷ [])
  pub all-steps : steps four_words 100 (walk_from four_words 0) ≡ 7
  pub later : walked four_words 3 (walk_from four_words 192) ≡ 192 ∷ (194 ∷ [])
  pub later_steps : steps four_words 100 (walk_from four_words 192) ≡ 3
  pub at_once : next four_words 0 ≡ 191
  pub itself : next four_words 191 ≡ 191
  pub behind : next four_words 193 ≡ 194
  pub none_left : next four_words 195 ≡ past four_words
