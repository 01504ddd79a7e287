-- A certificate of kind 2, one statement of the code after the other. Assumes nothing.
use Prim.Native.Nat.{ℕ, suc, ◌-◌, ◌*◌, ◌<◌, ◌≤◌}
use mathlib.Core.List.{List, []}
use mathlib.Core.Bool.{Bool}
use mathlib.Core.Path.{◌≡◌, refl, sym, ap, ◌∙◌}
use native.Mathlib.Omega.{arith}
use lib.Dec.{leb}
use borrow.Author.Tests.{le-leb, lt-leb}
use Rattle.std.specs.Prelude.{Result, Err}
use Rattle.record.specs.declared.Answer.{Answer}
use Rattle.record.specs.declared.Answer.TheVariants.{CertificateFault}
use Rattle.record.specs.Read.{Read.Got, Read.Refused, Reader, ◌needs⟨◌⟩◌, ◌▸◌, many, counted, check, folded, within}
use Rattle.record.specs.Number.{number}
use Rattle.record.proofs.Loops.{needs_got, leads_bad, leads_got}
use Rattle.vertexset.specs.Set.{has, empty_set, inserted, word_count, capacity}
use Rattle.vertexset.specs.declared.VertexSet.{VertexSet}
use Rattle.vertexset.proofs.Laws.{empty-has, inserted-has, inserted-length}
use Rattle.connectivity.specs.Lists.{member}
use Rattle.connectivity.specs.Graph.{Graph}
use Rattle.connectivity.specs.Path.{Path}
use Rattle.certificates.specs.Tests.{nobody, with, all_below, ear_taken}
use Rattle.certificates.specs.Records.{vertex, ear, side, body}
use Rattle.paths.specs.Items.{end_read, limited}
use Rattle.paths.proofs.Told.{limited-in}
use Rattle.paths.proofs.Ends.{end_into, end_stop, end_then, end_same, front_stop, front_then}
use Rattle.ears.specs.Code.{all_ears}

-- the lost pair as a set
pub lost_pair : {e x y : VertexSet} {c d : ℕ} → e ≡ empty_set → x ≡ inserted e c → y ≡ inserted x d → c < 64 * word_count → d < 64 * word_count → has y.words ≡ with (with nobody c) d
lost_pair {e} {x} {y} {c} {d} p q r h k =
    ap (λ (z : VertexSet). has z.words) (r ∙ ap (λ (z : VertexSet). inserted z d) (q ∙ ap (λ (z : VertexSet). inserted z c) p))
    ∙ inserted-has (inserted empty_set c) d (inserted-length empty_set c refl) k
    ∙ ap (λ (f : ℕ → Bool). with f d) (inserted-has empty_set c refl h ∙ ap (λ (f : ℕ → Bool). with f c) empty-has)

-- the second of the pair, tested
module _ (n c : ℕ) (s : List ℕ) (at : ℕ) {d next : ℕ} (e : vertex n s at ≡ Got d next) where
  pub higher_got : c < d → (vertex n needs⟨ 20 ⟩ leb (suc c)) s at ≡ Got d next
  higher_got h = needs_got (vertex n) 20 (leb (suc c)) e ∙ rw (le-leb (suc c) d h)

  pub higher_not : d ≤ c → (vertex n needs⟨ 20 ⟩ leb (suc c)) s at ≡ Refused 20 at
  higher_not h = let k : d < suc c = omega arith in needs_got (vertex n) 20 (leb (suc c)) e ∙ rw (lt-leb (suc c) d k)

module _ (g : Graph) (s : List ℕ) (at : ℕ) (low : g.n ≤ capacity) where
  -- what is left to read after each item
  abbrev side_after : ℕ → ℕ → List Path → Unit {0} → Reader (List ℕ)
  side_after c d all u = side g (with (with nobody c) d)

  abbrev all_vertices_in : List Path → Reader (Unit {0})
  all_vertices_in all = check 28 (all_below g.n (λ v. member v (folded ear_taken [] all)))

  abbrev ears_after : ℕ → ℕ → Reader (List Path × (Unit {0} × List ℕ))
  ears_after c d = counted (number needs⟨ 9 ⟩ within 1 (g.n - 2)) (ear g) ear_taken [] ▸ λ all. all_vertices_in all ▸ side_after c d all

  abbrev higher : ℕ → Reader ℕ
  higher c = vertex g.n needs⟨ 20 ⟩ leb (suc c)

  pair_after : (c : ℕ) → Reader (ℕ × (List Path × (Unit {0} × List ℕ)))
  pair_after c = higher c ▸ ears_after c

  whole : {x : Result ℕ Answer} → x ≡ end_read ((vertex g.n ▸ pair_after) s at) → x ≡ end_read (limited g.n (body g 2) s at)
  unfolding pair_after
  whole e = e ∙ end_into _ (vertex g.n ▸ pair_after) s at ∙ ap end_read (sym (limited-in g.n at _ low))

  pub ears-first : {q p : ℕ} → vertex g.n s at ≡ Refused q p → Err (CertificateFault q p) ≡ end_read (limited g.n (body g 2) s at)
  ears-first e = whole (end_stop (vertex g.n) pair_after e)

  module _ {c second : ℕ} (e : vertex g.n s at ≡ Got c second) where
    pub ears-second : {q p : ℕ} → higher c s second ≡ Refused q p → Err (CertificateFault q p) ≡ end_read (limited g.n (body g 2) s at)
    unfolding pair_after
    ears-second f = whole (end_stop (higher c) (ears_after c) f ∙ end_then (vertex g.n) pair_after e)

    module _ {d third : ℕ} (f : higher c s second ≡ Got d third) where
      later : {x : Result ℕ Answer} → x ≡ end_read (ears_after c d s third) → x ≡ end_read (limited g.n (body g 2) s at)
      unfolding pair_after
      later k = whole (k ∙ end_then (higher c) (ears_after c) f ∙ end_then (vertex g.n) pair_after e)

      pub ears-count : {q p : ℕ} → (number needs⟨ 9 ⟩ within 1 (g.n - 2)) s third ≡ Refused q p → Err (CertificateFault q p) ≡ end_read (limited g.n (body g 2) s at)
      ears-count k = later (end_stop _ (λ all. all_vertices_in all ▸ side_after c d all) (leads_bad (number needs⟨ 9 ⟩ within 1 (g.n - 2)) _ k))

      module _ {k from : ℕ} (h : (number needs⟨ 9 ⟩ within 1 (g.n - 2)) s third ≡ Got k from) where
        counted-on : {x : Result ℕ Answer} → x ≡ end_read ((many (ear g) ear_taken k [] ▸ λ all. all_vertices_in all ▸ side_after c d all) s from)
            → x ≡ end_read (limited g.n (body g 2) s at)
        counted-on l = later (l ∙ end_same _ _ (λ all. all_vertices_in all ▸ side_after c d all) (leads_got (number needs⟨ 9 ⟩ within 1 (g.n - 2)) _ h))

        pub ears-all : {q p : ℕ} → all_ears g k s from ≡ Refused q p → Err (CertificateFault q p) ≡ end_read (limited g.n (body g 2) s at)
        ears-all l = counted-on (front_stop _ all_vertices_in (side_after c d) s from l)

        pub ears-side : {removed : ℕ → Bool} {x : List Path × Unit {0}} {next : ℕ} → removed ≡ with (with nobody c) d → all_ears g k s from ≡ Got x next
            → end_read (limited g.n (side g removed) s next) ≡ end_read (limited g.n (body g 2) s at)
        ears-side {removed} {x} {next} r l =
            ap end_read (limited-in g.n next _ low) ∙ ap (λ (t : ℕ → Bool). end_read (side g t s next)) r ∙ counted-on (front_then _ all_vertices_in (side_after c d) s from l)
