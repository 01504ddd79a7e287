-- The second reading of an accepted plan: its numbers, laid one after the other, are the edges in the order of the record. Assumes nothing.
use Prim.Native.Nat.{ℕ, zero, suc, ◌+◌, ◌-◌, ◌*◌, ◌<◌, ◌≤◌}
use mathlib.Core.List.{List, [], ◌∷◌, ◌++◌}
use mathlib.Core.Path.{◌≡◌, refl, sym, ap, ◌∙◌}
use native.Mathlib.Omega.{arith}
use lib.ListN.{length, length-append, replicate, set}
use lib.Seq.{set_at, append_snoc}
use Rattle.record.specs.Read.{Read, Read.Got, ◌needs⟨◌⟩◌, ◌▸◌, ◌▹◌, into, many, led, folded, within}
use Rattle.record.specs.Number.{number, number_at, fault_number, fault_place}
use Rattle.record.specs.declared.Number.{Number}
use Rattle.record.specs.declared.Number.TheVariants.{Value}
use Rattle.record.proofs.Faults.{NoValue, no_value}
use Rattle.record.proofs.Laws.{on_got, carry}
use Rattle.record.proofs.Loops.{needs_true, many-length, many-same, led-go, led-stop, led-done, led-folded}
use Rattle.record.proofs.Bounds.{within-true}
use Rattle.graph.specs.Limits.{min_vertices, max_vertices, max_edges}
use Rattle.connectivity.specs.TopologicalGraph.{ends_of}
use Rattle.reading.specs.Plan.{Plan, edge, plan, proper, follows}
use Rattle.reading.specs.Code.{end_count, no_ends, ends_array, number_laid, numbers_in, ends_read}

pub ends_length : (es : List (ℕ × ℕ)) → length (ends_of es) ≡ 2 * length es
ends_length [] = refl
ends_length (e ∷ es) = omega (arith, ends_length es)

-- a number more behind those laid, where a zero stood
pub put_next : (l : List ℕ) (v k : ℕ) → set (l ++ replicate (suc k) 0) (length l) v ≡ (l ++ (v ∷ [])) ++ replicate k 0
put_next l v k = set_at l 0 (replicate k 0) v (length l) refl ∙ sym (append_snoc l v (replicate k 0))

lay_all : (l vs : List ℕ) (k : ℕ) → length vs ≤ k → (folded number_laid (length l, l ++ replicate k 0) vs).1 ≡ l ++ (vs ++ replicate (k - length vs) 0)
unfolding folded
lay_all l [] k f = let z : k - 0 ≡ k = omega arith in rw z
lay_all l (v ∷ vs) zero f = absurd (omega arith)
lay_all l (v ∷ vs) (suc k) f =
    let n : length l + 1 ≡ length (l ++ (v ∷ [])) = omega (arith, length-append l (v ∷ [])) in
    let z : suc k - suc (length vs) ≡ k - length vs = omega arith in
    ap (λ (x : List ℕ). (folded number_laid (length l + 1, x) vs).1) (put_next l v k)
    ∙ ap (λ (i : ℕ). (folded number_laid (i, (l ++ (v ∷ [])) ++ replicate k 0) vs).1) n
    ∙ lay_all (l ++ (v ∷ [])) vs k (omega arith)
    ∙ rw z (append_snoc l v _)

-- the numbers of an edge that was read
edge-numbers : (n : ℕ) (before : ℕ × ℕ) (s : List ℕ) (at : ℕ) {e : ℕ × ℕ} {next : ℕ} → edge n before s at ≡ Got e next
    → (mid : ℕ) × (number s at ≡ Got e.0 mid) × (number s mid ≡ Got e.1 next)
unfolding edge ◌▸◌
edge-numbers n before s at g =
    let a = needs_true ((number ▸ λ lower. number) needs⟨ 5 ⟩ proper n) 6 (follows before) {s = s} {at = at} g in
    let b = needs_true (number ▸ λ lower. number) 5 (proper n) {s = s} {at = at} a.0 in
    let c = on_got (number s at) _ b.0 in
    let d = on_got (number s c.1) _ c.3 in
    carry (λ e z. (mid : ℕ) × (number s at ≡ Got e.0 mid) × (number s mid ≡ Got e.1 z)) d.3 (c.1, c.2, d.2)

-- two numbers for each edge
abbrev numbers : ℕ → List ℕ → ℕ → Read (List ℕ)
numbers k s at = many (λ (u : Unit {0}). number) (λ u v. u) k tt s at

all-numbers : (n k : ℕ) (before : ℕ × ℕ) (s : List ℕ) (at : ℕ) {es : List (ℕ × ℕ)} {next : ℕ} → many (edge n) (λ before e. e) k before s at ≡ Got es next
    → numbers (2 * k) s at ≡ Got (ends_of es) next
unfolding many
all-numbers n zero before s at g = carry (λ es z. numbers 0 s at ≡ Got (ends_of es) z) g refl
all-numbers n (suc k) before s at g =
    let a = on_got (edge n before s at) _ g in
    let b = on_got (many (edge n) (λ before e. e) k a.0 s a.1) _ a.3 in
    let c = edge-numbers n before s at a.2 in
    let z : 2 * suc k ≡ suc (suc (2 * k)) = omega arith in
    carry (λ es y. numbers (2 * suc k) s at ≡ Got (ends_of es) y) b.3 (rw (z, c.1, c.2, all-numbers n k a.0 s a.1 b.2))

numbers_laid : (k : ℕ) (s : List ℕ) (at : ℕ) {l : List ℕ} {next : ℕ} → numbers k s at ≡ Got l next → numbers_in k no_ends s at ≡ (folded number_laid (0, no_ends) l).1
unfolding numbers_in
numbers_laid k s at {l} e =
    let m : many (λ (st : ℕ × List ℕ). number) number_laid k (0, no_ends) s at ≡ numbers k s at =
    many-same (λ st u. Unit {0}) (λ (st : ℕ × List ℕ). number) number_laid (λ (u : Unit {0}). number) (λ u v. u) (λ st u r s at. refl) (λ st u r s at a mid e. tt) k (0, no_ends) tt tt s at
    in
    ap (λ (st : ℕ × List ℕ). st.1) (led-folded (λ (st : ℕ × List ℕ). number) number_laid k (0, no_ends) s at (m ∙ e))

-- one turn of the loop that lays numbers, its end, and a number that can't be read
pub lay_go : (s : List ℕ) (at k i : ℕ) → i < k → (ends : List ℕ) {v next : ℕ} → Value v next ≡ number_at s at
    → led (λ st. number) number_laid (k - (i + 1)) (i + 1, set ends i v) s next ≡ led (λ st. number) number_laid (k - i) (i, ends) s at
unfolding number
lay_go s at k i h ends e =
    let z : k - (i + 1) ≡ k - i - 1 = omega arith in
    let p : 0 < k - i = omega arith in
    rw z (led-go (λ (st : ℕ × List ℕ). number) number_laid s (k - i) p (i, ends) {at = at} (rw (← e)) refl)

pub lay_stop : (s : List ℕ) (at k i : ℕ) (ends : List ℕ) {x : Number} → x ≡ number_at s at → NoValue x
    → (i, ends) ≡ led (λ st. number) number_laid k (i, ends) s at
unfolding number
lay_stop s at k i ends {x} e t = led-stop (λ (st : ℕ × List ℕ). number) number_laid s k (i, ends) at {r = fault_number x} {p = fault_place x} (rw (← e) (no_value x t))

pub lay_done : (s : List ℕ) (at k i : ℕ) (ends : List ℕ) → k ≤ i → (i, ends) ≡ led (λ st. number) number_laid (k - i) (i, ends) s at
lay_done s at k i ends h = let z : k - i ≤ 0 = omega arith in led-done (λ (st : ℕ × List ℕ). number) number_laid s (k - i) z (i, ends) at

-- the two numbers before the edges
module _ (ends : List ℕ) (m : ℕ) (s : List ℕ) where
  pub read_first : {x : Number} → x ≡ number_at s 0 → NoValue x → ends ≡ ends_read ends m s
  unfolding ends_read number
  read_first {x} e t = rw (← e, no_value x t)

  pub read_second : {n mid : ℕ} {y : Number} → Value n mid ≡ number_at s 0 → y ≡ number_at s mid → NoValue y → ends ≡ ends_read ends m s
  unfolding ends_read number
  read_second {y = y} e f t = rw (← e, ← f, no_value y t)

  pub read_both : {n mid k at : ℕ} → Value n mid ≡ number_at s 0 → Value k at ≡ number_at s mid → numbers_in (2 * m) ends s at ≡ ends_read ends m s
  unfolding ends_read number
  read_both e f = rw (← e, ← f)

-- the parts of a plan that was read
record Parts (s : List ℕ) (p : Plan) (next : ℕ) : Type 0 where
  mid : ℕ
  at : ℕ
  vertices : number s 0 ≡ Got p.n mid
  count : number s mid ≡ Got (length p.edges) at
  few : length p.edges ≤ max_edges
  edges : many (edge p.n) (λ before e. e) (length p.edges) (0, 0) s at ≡ Got p.edges next

parts : (s : List ℕ) {p : Plan} {next : ℕ} → plan s 0 ≡ Got p next → Parts s p next
unfolding plan into ◌▸◌ ◌▹◌
parts s {p} {next} e =
    let a = on_got _ _ e in
    let b = on_got ((number needs⟨ 3 ⟩ within min_vertices max_vertices) s 0) _ a.2 in
    let c = on_got _ _ b.3 in
    let d = on_got ((number needs⟨ 4 ⟩ within 0 max_edges) s b.1) _ c.2 in
    let n = needs_true number 3 (within min_vertices max_vertices) {s = s} {at = 0} b.2 in
    let m = needs_true number 4 (within 0 max_edges) {s = s} {at = b.1} d.2 in
    let k = many-length (edge b.0) (λ before e. e) d.0 (0, 0) s d.1 d.3 in
    let f : length c.0 ≤ max_edges = omega (arith, k, (within-true 0 max_edges d.0 m.1).1) in
    carry (λ p z. Parts s p z) a.3 (carry (λ (x : ℕ × List (ℕ × ℕ)) z. Parts s (record { n = x.0; edges = x.1 }) z) c.3
    (record { mid = b.1; at = d.1; vertices = n.0; count = rw k m.0; few = f; edges = rw k d.3 }))

pub plan-few : (s : List ℕ) {p : Plan} {next : ℕ} → plan s 0 ≡ Got p next → length p.edges ≤ max_edges
plan-few s e = (parts s e).few

-- THE SECOND READING GIVES THE EDGES, IN THE ORDER OF THE RECORD.
pub ends_got : (s : List ℕ) {p : Plan} {next : ℕ} → plan s 0 ≡ Got p next → ends_read no_ends (length p.edges) s ≡ ends_array p.edges
unfolding ends_read
ends_got s {p} e =
    let q = parts s e in
    rw (q.vertices, q.count) (numbers_laid (2 * length p.edges) s q.at (all-numbers p.n (length p.edges) (0, 0) s q.at q.edges)
    ∙ lay_all [] (ends_of p.edges) end_count (omega (arith, ends_length p.edges, q.few)))
