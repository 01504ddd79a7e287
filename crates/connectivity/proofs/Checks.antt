-- Tests that compute, each together with what it shows when it comes out true.
use mathlib.Core.Path.{◌≡◌, refl}
use mathlib.Core.Logic.{◌⊎◌, inl, inr, ⊎_map}
use mathlib.Core.List.{List, [], ◌∷◌, ◌++◌}
use mathlib.Core.Bool.{Bool, true, false, not, ◌&&◌, ◌||◌}
use Prim.Native.Nat.{ℕ, ◌-◌, ◌≤◌, ◌<◌}
use lib.Dec.{eqb, ltb, leb}
use lib.ListN.{length}
use borrow.Author.Tests.{eqb-true, ltb-true, leb-true, not-true}
use Rattle.connectivity.specs.Lists.{In, NoDup, Ascending, below, member}
use Rattle.connectivity.specs.Graph.{Graph, Adj}
use Rattle.connectivity.specs.Path.{Path, vertices, End, Along, IsPath}
use Rattle.connectivity.specs.Build.{InBuild, IsBranch, four, six_pairs, end_pairs, Starts, StartRules}
use Rattle.connectivity.specs.Certificate.{Separation, Tree, TreeRules, Cycle, Ears}
use Rattle.connectivity.proofs.Lists.{clash, and-true, or-true, member-in, member-out, in_below, below_in}
use Rattle.connectivity.proofs.Edges.{EdgeList, AscendingEdges, ascending_nodup}

pub record Check (A : Type 0) : Type 0 where
  pub test : Bool
  pub shows : test ≡ true → A

pub proved : {A : Type 0} (c : Check A) → c.test ≡ true → A
proved c e = c.shows e

-- Connectives.
pub shows_both : {A B : Type 0} (c : Check A) (d : Check B) → c.test && d.test ≡ true → A × B
shows_both c d e = let r = and-true c.test d.test e in (c.shows r.0, d.shows r.1)

abbrev pub both : {A B : Type 0} → Check A → Check B → Check (A × B)
both c d = record { test = c.test && d.test; shows = shows_both c d }

pub shows_either : {A B : Type 0} (c : Check A) (d : Check B) → c.test || d.test ≡ true → A ⊎ B
shows_either c d e = ⊎_map (λ h. c.shows h) (λ h. d.shows h) (or-true c.test d.test e)

abbrev pub either : {A B : Type 0} → Check A → Check B → Check (A ⊎ B)
either c d = record { test = c.test || d.test; shows = shows_either c d }

abbrev pub giving : {A B : Type 0} → Check A → (A → B) → Check B
giving c f = record { test = c.test; shows = λ e. f (c.shows e) }

abbrev pub holds : {A : Type 0} → A → Check A
holds a = record { test = true; shows = λ e. a }

abbrev pub fails : {A : Type 0} → Check A
fails = record { test = false; shows = λ e. absurd (clash e refl) }

pub shows_not : {A : Type 0} (b : Bool) → (b ≡ false → A) → not b ≡ true → A
shows_not b f e = f (not-true b e)

-- Numbers and edges.
abbrev pub equal : (a b : ℕ) → Check (a ≡ b)
equal a b = record { test = eqb a b; shows = eqb-true a b }

abbrev pub less : (a b : ℕ) → Check (a < b)
less a b = record { test = ltb a b; shows = ltb-true a b }

abbrev pub at_most : (a b : ℕ) → Check (a ≤ b)
at_most a b = record { test = leb a b; shows = leb-true a b }

abbrev pub edge_check : (g : Graph) (u v : ℕ) → Check (Adj g u v)
edge_check g u v = record { test = g.adj u v; shows = λ e. e }

abbrev pub no_edge_lem : (g : Graph) (u v : ℕ) → Check (¬ Adj g u v)
no_edge_lem g u v = record { test = not (g.adj u v); shows = shows_not (g.adj u v) (λ e h. clash h e) }

-- Lists.
abbrev pub is_in : (x : ℕ) (l : List ℕ) → Check (In x l)
is_in x l = record { test = member x l; shows = member-in x l }

abbrev pub not_in : (x : ℕ) (l : List ℕ) → Check (¬ In x l)
not_in x l = record { test = not (member x l); shows = shows_not (member x l) (member-out x l) }

-- where x stands in the list nothing is asked
pub shows_unless : {A : Type 0} (x : ℕ) (l : List ℕ) → In x l ⊎ A → ¬ In x l → A
shows_unless x l (inl h) n = absurd (n h)
shows_unless x l (inr a) n = a

abbrev pub unless_in : {A : Type 0} (x : ℕ) (l : List ℕ) → Check A → Check (¬ In x l → A)
unless_in x l c = giving (either (is_in x l) c) (shows_unless x l)

pub each-cons : {A : Type 0} (P : A → Type 0) (a : A) (l : List A) → P a × ((x : A) → In x l → P x) → (x : A) → In x (a ∷ l) → P x
each-cons P a l r x (inl e) = rw e r.0
each-cons P a l r x (inr h) = r.1 x h

abbrev pub each : {A : Type 0} (P : A → Type 0) (l : List A) → ((x : A) → Check (P x)) → Check ((x : A) → In x l → P x)
each P [] c = holds (λ x h. absurd h)
each P (a ∷ l) c = giving (both (c a) (each P l c)) (each-cons P a l)

pub some_cons : {A : Type 0} (P : A → Type 0) (a : A) (l : List A) → P a ⊎ ((x : A) × In x l × P x) → (x : A) × In x (a ∷ l) × P x
some_cons P a l (inl h) = (a, inl refl, h)
some_cons P a l (inr r) = (r.0, inr r.1, r.2)

abbrev pub some : {A : Type 0} (P : A → Type 0) (l : List A) → ((x : A) → Check (P x)) → Check ((x : A) × In x l × P x)
some P [] c = fails
some P (a ∷ l) c = giving (either (c a) (some P l c)) (some_cons P a l)

abbrev pub each_below : (P : ℕ → Type 0) (n : ℕ) → ((x : ℕ) → Check (P x)) → Check ((x : ℕ) → x < n → P x)
each_below P n c = giving (each P (below n) c) (λ f x h. f x (below_in n x h))

abbrev pub some_below : (P : ℕ → Type 0) (n : ℕ) → ((x : ℕ) → Check (P x)) → Check ((x : ℕ) × (x < n) × P x)
some_below P n c = giving (some P (below n) c) (λ r. (r.0, in_below n r.0 r.1, r.2))

abbrev pub none_check : (l B : List ℕ) → Check ((w : ℕ) → In w l → ¬ In w B)
none_check l B = each (λ w. ¬ In w B) l (λ w. not_in w B)

abbrev pub some_of : (l : List ℕ) → Check ((w : ℕ) × In w l)
some_of [] = fails
some_of (a ∷ l) = holds (a, inl refl)

abbrev pub distinct : (l : List ℕ) → Check (NoDup l)
distinct [] = holds tt
distinct (a ∷ l) = both (not_in a l) (distinct l)

abbrev pub ascending : (l : List ℕ) → Check (Ascending l)
ascending [] = holds tt
ascending (a ∷ []) = holds tt
ascending (a ∷ (b ∷ l)) = both (less a b) (ascending (b ∷ l))

pub pairs_cons : (e f : ℕ × ℕ) (l m : List (ℕ × ℕ)) → ((e.0 ≡ f.0) × (e.1 ≡ f.1)) × (l ≡ m) → e ∷ l ≡ f ∷ m
pairs_cons e f l m r = λ i. (r.0.0 i, r.0.1 i) ∷ r.1 i

abbrev pub same_pairs_check : (l m : List (ℕ × ℕ)) → Check (l ≡ m)
same_pairs_check [] [] = holds refl
same_pairs_check [] (f ∷ m) = fails
same_pairs_check (e ∷ l) [] = fails
same_pairs_check (e ∷ l) (f ∷ m) = giving (both (both (equal e.0 f.0) (equal e.1 f.1)) (same_pairs_check l m)) (pairs_cons e f l m)

-- Graphs by their edges.
abbrev pub ascending_edges : (es : List (ℕ × ℕ)) → Check (AscendingEdges es)
ascending_edges [] = holds tt
ascending_edges (e ∷ []) = holds tt
ascending_edges (e ∷ (f ∷ es)) = both (either (less e.0 f.0) (both (equal e.0 f.0) (less e.1 f.1))) (ascending_edges (f ∷ es))

abbrev pub edge_list : (n : ℕ) (es : List (ℕ × ℕ)) → Check (EdgeList n es)
edge_list n es =
    giving (both (at_most 4 n) (both (each (λ (e : ℕ × ℕ). (e.0 < e.1) × (e.1 < n)) es (λ e. both (less e.0 e.1) (less e.1 n))) (ascending_edges es)))
    (λ r. record { big = r.0; each = r.1.0; once = ascending_nodup es r.1.1 })

-- Paths and builds.
abbrev pub along : (g : Graph) (s : ℕ) (l : List ℕ) (t : ℕ) → Check (Along (Adj g) s l t)
along g s [] t = edge_check g s t
along g s (a ∷ l) t = both (edge_check g s a) (along g a l t)

abbrev pub path_check : (g : Graph) (L : Path) → Check (IsPath (Adj g) L)
path_check g L = giving (both (along g L.s L.inner L.t) (distinct (vertices L))) (λ r. record { along = r.0; nodup = r.1 })

abbrev pub in_build : (z : ℕ) (links : List Path) → Check (InBuild z links)
in_build z links = some (λ (L : Path). In z (vertices L)) links (λ L. is_in z (vertices L))

abbrev pub is_branch : (z : ℕ) (links : List Path) → Check (IsBranch z links)
is_branch z links = some (λ (L : Path). End z L) links (λ L. either (equal z L.s) (equal z L.t))

abbrev pub starts : (g : Graph) (B : List ℕ) (ps : List Path) → Check (Starts (Adj g) B ps)
starts g B [] = holds tt
starts g B (P ∷ ps) = giving (both (path_check g P) (both (none_check P.inner B) (starts g (P.inner ++ B) ps))) (λ r. (r.0, r.1.0, r.1.1))

abbrev pub start_rules : (g : Graph) (p q r s : ℕ) (start : List Path) → Check (StartRules g p q r s start)
start_rules g p q r s start =
    giving (both (both (both (less p q) (less q r)) (both (less r s) (less s g.n))) (both (same_pairs_check (end_pairs start) (six_pairs p q r s)) (starts g (four p q r s) start)))
    (λ r. record { pq = r.0.0.0; qr = r.0.0.1; rs = r.0.1.0; low = r.0.1.1; shape = r.1.0; starts = r.1.1 })

-- Separations, trees and ears.
abbrev pub no_edges_check : (g : Graph) (X S : List ℕ) → Check ((u : ℕ) → In u S → (v : ℕ) → v < g.n → ¬ In v X → ¬ In v S → ¬ Adj g u v)
no_edges_check g X S =
    each (λ u. (v : ℕ) → v < g.n → ¬ In v X → ¬ In v S → ¬ Adj g u v) S (λ u.
    each_below (λ v. ¬ In v X → ¬ In v S → ¬ Adj g u v) g.n (λ v. unless_in v X (unless_in v S (no_edge_lem g u v))))

abbrev pub remaining : (g : Graph) (X S : List ℕ) → Check ((w : ℕ) → In w S → (w < g.n) × (¬ In w X))
remaining g X S = each (λ w. (w < g.n) × (¬ In w X)) S (λ w. both (less w g.n) (not_in w X))

abbrev pub separation : (g : Graph) (X S : List ℕ) → Check (Separation g X S)
separation g X S =
    giving (both (both (ascending S) (remaining g X S)) (both (some_of S) (both (some_below (λ v. (¬ In v X) × (¬ In v S)) g.n (λ v. both (not_in v X) (not_in v S))) (no_edges_check g X S))))
    (λ r. let v = r.1.1.0 in record {
      ascending = r.0.0;
      remaining = r.0.1;
      some_side = r.1.0;
      some_rest = (v.0, ((v.1, v.2.0), v.2.1));
      no_edge = λ u w h k. r.1.1.1 u h w k.0.0 k.0.1 k.1;
    })

abbrev pub tree : (g : Graph) (named : List ℕ) (ps : List (ℕ × ℕ)) → Check (Tree g named ps)
tree g named [] = holds tt
tree g named (e ∷ ps) =
    giving (both (both (not_in e.0 named) (is_in e.1 named)) (both (edge_check g e.0 e.1) (tree g (e.0 ∷ named) ps)))
    (λ r. (r.0.0, r.0.1, r.1.0, r.1.1))

abbrev pub tree_rules : (g : Graph) (c f : ℕ) (ps : List (ℕ × ℕ)) (S : List ℕ) → Check (TreeRules g c f ps S)
tree_rules g c f ps S =
    giving (both (both (less c g.n) (less f g.n)) (both (equal (length ps) (g.n - 1)) (both (tree g (f ∷ []) ps) (separation g (c ∷ []) S))))
    (λ r. record { c_low = r.0.0; first_low = r.0.1; count = r.1.0; tree = r.1.1.0; separation = r.1.1.1 })

abbrev pub cycle : (g : Graph) (P : Path) → Check (Cycle g P)
cycle g P =
    giving (both (path_check g P) (both (edge_check g P.t P.s) (at_most 3 (length (vertices P)))))
    (λ r. record { is_path = r.0; closes = r.1.0; long = r.1.1 })

-- what an ear is asked for besides being a path
abbrev pub on_ears : (B : List ℕ) (P : Path) → Check ((In P.s B × In P.t B) × (((w : ℕ) → In w P.inner → ¬ In w B) × (3 ≤ length (vertices P))))
on_ears B P = both (both (is_in P.s B) (is_in P.t B)) (both (none_check P.inner B) (at_most 3 (length (vertices P))))

abbrev pub ears : (g : Graph) (B : List ℕ) (es : List Path) → Check (Ears g B es)
ears g B [] = holds tt
ears g B (P ∷ es) = both
    (giving (both (path_check g P) (on_ears B P)) (λ r. record { is_path = r.0; from = r.1.0.0; upto = r.1.0.1; new = r.1.1.0; long = r.1.1.1 }))
    (ears g (P.inner ++ B) es)
