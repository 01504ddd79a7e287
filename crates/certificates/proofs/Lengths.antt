-- HOW MANY NUMBERS AND BYTES A CERTIFICATE HAS: its bytes are those of its numbers, each has one or two, and the rules tell how many the numbers are.
use Prim.Native.Nat.{ℕ, suc, ◌+◌, ◌*◌}
use mathlib.Core.Path.{◌≡◌, refl, sym, ap, ◌∙◌}
use mathlib.Core.Bool.{Bool, true, false, cond}
use mathlib.Core.List.{List, [], ◌∷◌, ◌++◌, append_assoc}
use native.Mathlib.Omega.{arith}
use lib.ListN.{length, get_or, length-append}
use lib.Dec.{leb}
use borrow.Author.Tests.{leb-true, leb-false}
use Rattle.record.specs.Number.{number_bytes, list_bytes}
use Rattle.record.proofs.Write.{one_byte, long_bytes}
use Rattle.connectivity.specs.Lists.{select}
use Rattle.connectivity.specs.Graph.{Graph, Simple, edges, edge_count}
use Rattle.connectivity.specs.Path.{Path, vertices, path_edges, used_edges}
use Rattle.connectivity.specs.Build.{four}
use Rattle.connectivity.specs.Certificate.{Certificate, Certificate.separation, Certificate.tree, Certificate.ears, Certificate.build, kind, Rules, inside, EarRules, BuildRules}
use Rattle.connectivity.proofs.Lists.{fewer, at_most, at_least}
use Rattle.connectivity.proofs.Paths.{length_path, length_ends}
use Rattle.connectivity.proofs.Edges.{path-low, edges-nodup}
use Rattle.connectivity.proofs.Completeness.{ears-size}
use Rattle.connectivity.proofs.Main.{edges-once}
use Rattle.certificates.specs.Encoding.{side_bytes, path_bytes, pair_bytes, certificate_bytes}
use Rattle.certificates.specs.Lengths.{path_numbers, pair_numbers, record_numbers, number_count, wide}

-- THE BYTES OF THE NUMBERS
bytes_append : {A : Type 0} (f : A → List ℕ) (l m : List A) → list_bytes f (l ++ m) ≡ list_bytes f l ++ list_bytes f m
unfolding list_bytes
bytes_append f [] m = refl
bytes_append f (a ∷ l) m = ap (λ (k : List ℕ). f a ++ k) (bytes_append f l m) ∙ sym (append_assoc (f a) (list_bytes f l) (list_bytes f m))

pair-bytes : (l : List (ℕ × ℕ)) → list_bytes number_bytes (pair_numbers l) ≡ list_bytes pair_bytes l
unfolding list_bytes
pair-bytes [] = refl
pair-bytes (e ∷ l) =
    ap (λ (k : List ℕ). number_bytes e.0 ++ (number_bytes e.1 ++ k)) (pair-bytes l) ∙ sym (append_assoc (number_bytes e.0) (number_bytes e.1) (list_bytes pair_bytes l))

path_bytes_lem : (ps : List Path) → list_bytes number_bytes (path_numbers ps) ≡ list_bytes path_bytes ps
unfolding list_bytes
path_bytes_lem [] = refl
path_bytes_lem (P ∷ ps) =
    ap (λ (k : List ℕ). number_bytes (length (vertices P)) ++ k) (bytes_append number_bytes (vertices P) (path_numbers ps) ∙ ap (λ (k : List ℕ). list_bytes number_bytes (vertices P) ++ k) (path_bytes_lem ps))
    ∙ sym (append_assoc (number_bytes (length (vertices P))) (list_bytes number_bytes (vertices P)) (list_bytes path_bytes ps))

-- THE BYTES OF A CERTIFICATE ARE THOSE OF ITS NUMBERS.
pub numbers_bytes : (x : Certificate) → certificate_bytes x ≡ list_bytes number_bytes (record_numbers x)
unfolding list_bytes
numbers_bytes (separation S) = refl
numbers_bytes (tree c first pairs S) = sym (ap (λ (k : List ℕ). number_bytes 1 ++ (number_bytes c ++ (number_bytes first ++ k)))
    (bytes_append number_bytes (pair_numbers pairs) (length S ∷ S) ∙ ap (λ (k : List ℕ). k ++ side_bytes S) (pair-bytes pairs)))
numbers_bytes (ears c d first later S) = sym (ap (λ (k : List ℕ). number_bytes 2 ++ (number_bytes c ++ (number_bytes d ++ k)))
    (bytes_append number_bytes (length all ∷ path_numbers all) (length S ∷ S) ∙ ap (λ (k : List ℕ). (number_bytes (length all) ++ k) ++ side_bytes S) (path_bytes_lem all)))
  where
    all : List Path
    all = first ∷ later
numbers_bytes (build p q r s start further) = sym (ap (λ (k : List ℕ). number_bytes 3 ++ k)
    (bytes_append number_bytes (four p q r s) (path_numbers (start ++ further))
    ∙ ap (λ (k : List ℕ). list_bytes number_bytes (four p q r s) ++ k) (path_bytes_lem (start ++ further) ∙ bytes_append path_bytes start further)
    ∙ sym (append_assoc (list_bytes number_bytes (four p q r s)) (list_bytes path_bytes start) (list_bytes path_bytes further))))

-- the kind stands first
pub kind-first : (x : Certificate) → get_or (record_numbers x) 0 0 ≡ kind x
kind-first (separation S) = refl
kind-first (tree c first pairs S) = refl
kind-first (ears c d first later S) = refl
kind-first (build p q r s start further) = refl

-- A BYTE A NUMBER, AND ONE MORE WHERE IT COSTS TWO.
pub bytes_count : (l : List ℕ) → length (list_bytes number_bytes l) ≡ length l + wide l
unfolding list_bytes
bytes_count [] = refl
bytes_count (v ∷ l) = go (leb 128 v) refl (bytes_count l)
  where
    rest : List ℕ
    rest = list_bytes number_bytes l

    go : (b : Bool) → leb 128 v ≡ b → length rest ≡ length l + wide l
        → length (number_bytes v ++ rest) ≡ suc (length l) + length (cond b (v ∷ select (λ w. leb 128 w) l) (select (λ w. leb 128 w) l))
    go true e ih = omega (arith, long_bytes v (leb-true _ _ e), length-append (number_bytes v) rest)
    go false e ih = omega (arith, ap length (one_byte v (leb-false _ _ e)), length-append (number_bytes v) rest)

-- HOW MANY THE NUMBERS ARE. A pair has two.
pair-count : (l : List (ℕ × ℕ)) → length (pair_numbers l) ≡ 2 * length l
pair-count [] = refl
pair-count (e ∷ l) = let ih = pair-count l in omega arith

-- a path has two more than it has edges
path-count : (ps : List Path) → length (path_numbers ps) ≡ length (used_edges ps) + 2 * length ps
path-count [] = refl
path-count (P ∷ ps) =
    let ih = path-count ps in
    omega (arith, length-append (vertices P) (path_numbers ps), length-append P.inner (P.t ∷ []), length-append (path_edges P) (used_edges ps), length_path P)

-- ears have one for each vertex that is new, and three more for each ear: both its ends are in already, and its length is written
ears-count : (B : List ℕ) (es : List Path) → length (path_numbers es) + length B ≡ length (inside B es) + 3 * length es
ears-count B [] = omega arith
ears-count B (P ∷ es) =
    let ih = ears-count (P.inner ++ B) es in
    omega (arith, length-append P.inner B, length-append (vertices P) (path_numbers es), length-append P.inner (P.t ∷ []))

module _ (g : Graph) (p : Simple g) where
  -- the ears hold every vertex, each once
  all-inside : (c d : ℕ) (first : Path) (later : List Path) (S : List ℕ) → EarRules g c d first later S → length (inside (vertices first) later) ≡ g.n
  all-inside c d first later S r =
      let path = r.first.is_path in
      let f = (ears-size g p (vertices first) later (path.nodup, path-low g p first path) r.ears).0 in
      omega (arith, at_most g.n (inside (vertices first) later) f.0 f.1, at_least g.n (inside (vertices first) later) r.all_in)

  -- the paths of a build use every edge, each once
  all-used : (a b c d : ℕ) (start further : List Path) → BuildRules g a b c d start further → length (used_edges (start ++ further)) ≡ edge_count g
  all-used a b c d start further r =
      let o = edges-once g p a b c d start further r in
      let used = used_edges (start ++ further) in
      omega (arith, fewer used (edges g) o.nodup o.is_edge, fewer (edges g) used (edges-nodup g) o.used)

-- "2+s numbers for kind 0, 2n+2+s for kind 1, n+3k+3+s for kind 2 and 3d−2n+13 for kind 3", of every certificate that keeps the rules.
pub numbers_count : (g : Graph) → Simple g → (x : Certificate) → Rules g x → length (record_numbers x) ≡ number_count g x
numbers_count g p (separation S) r = omega arith
numbers_count g p (tree c first pairs S) r = omega (arith, p.big, r.count, pair-count pairs, length-append (pair_numbers pairs) (length S ∷ S))
numbers_count g p (ears c d first later S) r = omega (
  arith,
  all-inside g p c d first later S r,
  ears-count (vertices first) later,
  length-append (vertices first) (path_numbers later),
  length-append (path_numbers (first ∷ later)) (length S ∷ S),
)
numbers_count g p (build a b c d start further) r = omega (
  arith,
  r.enough,
  r.count,
  ap length r.first.shape,
  length_ends start,
  all-used g p a b c d start further r,
  path-count (start ++ further),
  length-append start further,
)
