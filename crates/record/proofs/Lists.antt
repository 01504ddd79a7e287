-- Lists of bytes. Assumes nothing.
use Prim.Native.Nat.{ℕ, zero, suc, ◌<◌}
use mathlib.Core.List.{List, [], ◌∷◌, ◌++◌}
use Rattle.record.specs.Read.{Bytes}

pub bytes_cons : (b : ℕ) (l : List ℕ) → b < 256 → Bytes l → Bytes (b ∷ l)
bytes_cons b l h f zero = h
bytes_cons b l h f (suc i) = f i

pub bytes_append : (l m : List ℕ) → Bytes l → Bytes m → Bytes (l ++ m)
bytes_append [] m h f = f
bytes_append (b ∷ l) m h f = bytes_cons b (l ++ m) (h 0) (bytes_append l m (λ i. h (suc i)) f)
