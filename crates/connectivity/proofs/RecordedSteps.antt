-- From the record of whole paths to the steps of the rules: the links are the paths split at the branch vertices.
use mathlib.Core.Path.{◌≡◌, sym, ◌∙◌, ap, subst, refl}
use mathlib.Core.Logic.{inr, inl, ⊎_elim}
use mathlib.Core.List.{List, [], ◌∷◌, ◌++◌, append-nil, append_assoc}
use Prim.Native.Nat.{ℕ}
use Rattle.connectivity.specs.Lists.{In, NoDup}
use Rattle.connectivity.specs.Path.{Path, vertices, used_edges, IsPath}
use Rattle.connectivity.specs.Build.{split_at, take_after, take_before, InBuild, IsBranch, BGPath, taken, Steps, final}
use Rattle.connectivity.proofs.Lists.{in_right, in_left}
use Rattle.connectivity.proofs.Order.{Between, between-inner, between-part}
use Rattle.connectivity.proofs.Paths.{branch_vertices, built_in_lem, branch_built, end_of_lem, in_built, inner_not_end, branch_in}
use Rattle.connectivity.proofs.Split.{Piece, whole, front, split_vertices, back, piece_of, split_kept, split_skip, split_path, piece_clear, piece_inner}
use Rattle.connectivity.proofs.Start.{Subdivision, clear_start, the_four, end_start, start-path}
use Rattle.connectivity.proofs.EdgeUse.{split_used}
use Rattle.connectivity.proofs.Recorded.{Extends, Recorded}

abbrev pub split_all : List ℕ → List Path → List Path
split_all [] ls = ls
split_all (x ∷ xs) ls = split_at x (split_all xs ls)

abbrev pub links_of : List Path → List Path
links_of ls = split_all (branch_vertices ls) ls

-- the vertices of p stand together on L
abbrev PartOf : Path → Path → Type 0
PartOf p L = (u : List ℕ) × (v : List ℕ) × (vertices L ≡ u ++ (vertices p ++ v))

piece_part : (x : ℕ) (L p : Path) → Piece x L p → PartOf p L
piece_part x L p (whole n e) = ([], [], rw e (sym (append-nil (vertices L))))
piece_part x L p (front m e) = ([], take_after x L.inner ++ (L.t ∷ []), rw e (split_vertices x L m ∙ sym (append_assoc (L.s ∷ take_before x L.inner) (x ∷ []) (take_after x L.inner ++ (L.t ∷ [])))))
piece_part x L p (back m e) = (L.s ∷ take_before x L.inner, [], rw e (split_vertices x L m ∙ ap (λ (k : List ℕ). (L.s ∷ take_before x L.inner) ++ k) (sym (append-nil (x ∷ (take_after x L.inner ++ (L.t ∷ [])))))))

all-part : (xs : List ℕ) (ls : List Path) (p : Path) → In p (split_all xs ls) → (L : Path) × In L ls × PartOf p L
all-part [] ls p m = (p, m, ([], [], sym (append-nil (vertices p))))
all-part (x ∷ xs) ls p m =
    let r = piece_of x (split_all xs ls) p m in
    let s = all-part xs ls r.0 r.1 in
    (s.0, s.1, join p r.0 s.0 (piece_part x r.0 p r.2) s.2)
  where
    join : (p q L : Path) → PartOf p q → PartOf q L → PartOf p L
    join p q L a b = (b.0 ++ a.0, a.1 ++ b.1, b.2 ∙ ap (λ (k : List ℕ). b.0 ++ (k ++ b.1)) a.2 ∙ simp append_assoc)

part_in : (p L : Path) (w : ℕ) → PartOf p L → In w (vertices p) → In w (vertices L)
part_in p L w a h = subst (λ (k : List ℕ). In w k) (sym a.2) (in_right w a.0 (vertices p ++ a.1) (in_left w (vertices p) a.1 h))

all-kept : (xs : List ℕ) (ls : List Path) (z : ℕ) → InBuild z ls → InBuild z (split_all xs ls)
all-kept [] ls z h = h
all-kept (x ∷ xs) ls z h = split_kept x z (split_all xs ls) (all-kept xs ls z h)

all-skip : (xs : List ℕ) (P : Path) (ls : List Path) → ((x : ℕ) → In x xs → ¬ In x P.inner) → split_all xs (P ∷ ls) ≡ P ∷ split_all xs ls
all-skip [] P ls f = refl
all-skip (x ∷ xs) P ls f = ap (split_at x) (all-skip xs P ls (λ z m. f z (inr m))) ∙ split_skip x P (split_all xs ls) (f x (inl refl))

all-used : (xs : List ℕ) (ls : List Path) → used_edges (split_all xs ls) ≡ used_edges ls
all-used [] ls = refl
all-used (x ∷ xs) ls = split_used x (split_all xs ls) ∙ all-used xs ls

-- further paths, the oldest first, and the record with them
abbrev pub Extensions : (E : ℕ → ℕ → Type 0) → List Path → List Path → Type 0
Extensions E ls [] = Unit {0}
Extensions E ls (P ∷ ps) = Extends E ls P × Extensions E (P ∷ ls) ps

abbrev pub record_of : List Path → List Path → List Path
record_of ls [] = ls
record_of ls (P ∷ ps) = record_of (P ∷ ls) ps

pub record_snoc : (ls ps : List Path) (P : Path) → record_of ls (ps ++ (P ∷ [])) ≡ P ∷ record_of ls ps
record_snoc ls [] P = refl
record_snoc ls (Q ∷ ps) P = record_snoc (Q ∷ ls) ps P

module _ (E : ℕ → ℕ → Type 0) where
  all-path : (xs : List ℕ) (ls : List Path) → ((L : Path) → In L ls → IsPath E L) → (p : Path) → In p (split_all xs ls) → IsPath E p
  all-path [] ls g = g
  all-path (x ∷ xs) ls g = split_path E x (split_all xs ls) (all-path xs ls g)

  all-clear : (xs : List ℕ) (ls : List Path) → ((L : Path) → In L ls → IsPath E L) → (p : Path) → In p (split_all xs ls) → (w : ℕ) → In w p.inner → ¬ In w xs
  all-clear [] ls g p m w h k = k
  all-clear (x ∷ xs) ls g p m w h k =
      let r = piece_of x (split_all xs ls) p m in
      ⊎_elim (λ e. piece_clear x r.0 p (all-path xs ls g r.0 r.1).nodup r.2 (rw e at h)) (all-clear xs ls g r.0 r.1 w (piece_inner x w r.0 p r.2 h)) k

  module _ (ls : List Path) (paths : (L : Path) → In L ls → IsPath E L) where
    -- a branch vertex of the record is an end of a link
    pub branch_end : (z : ℕ) → In z (branch_vertices ls) → IsBranch z (links_of ls)
    branch_end z h =
        let k = all-kept (branch_vertices ls) ls z (built_in_lem ls z (branch_built ls z h)) in
        (k.0, k.1, end_of_lem k.0 z k.2 (λ m. all-clear (branch_vertices ls) ls paths k.0 k.1 z m h))

    -- a path that extends the record may be taken
    pub extends_bg : (P : Path) → Extends E ls P → BGPath E (links_of ls) P
    extends_bg P f = record {
      is_path = f.is_path;
      from = all-kept (branch_vertices ls) ls P.s (built_in_lem ls P.s f.from);
      upto = all-kept (branch_vertices ls) ls P.t (built_in_lem ls P.t f.upto);
      new = λ w m r. let s = all-part (branch_vertices ls) ls r.0 r.1 in f.new w m (in_built s.0 ls w s.1 (part_in r.0 s.0 w s.2 r.2));
      apart = λ p hp hs ht. go p hp hs ht (all-part (branch_vertices ls) ls p hp);
    }
      where
        go : (p : Path) → In p (links_of ls) → In P.s (vertices p) → In P.t (vertices p) → ((L : Path) × In L ls × PartOf p L) → ⊥
        go p hp hs ht r =
            let c = f.apart r.0 r.1 (part_in p r.0 P.s r.2 hs) (part_in p r.0 P.t r.2 ht) in
            all-clear (branch_vertices ls) ls paths p hp c.0 (⊎_elim (λ b. inner P.s P.t c.0 b hs ht) (λ b. inner P.t P.s c.0 b ht hs) c.2) c.1
          where
            inner : (s t z : ℕ) → Between s z t (vertices r.0) → In s (vertices p) → In t (vertices p) → In z p.inner
            inner s t z b hs ht = between-inner s z t p.s p.inner p.t
                (between-part s z t r.2.0 (vertices p) r.2.1 (subst (λ (k : List ℕ). NoDup k) r.2.2 (paths r.0 r.1).nodup) (subst (λ (k : List ℕ). Between s z t k) r.2.2 b) hs ht)

    links_taken : (P : Path) → Extends E ls P → links_of (P ∷ ls) ≡ taken (links_of ls) P
    links_taken P f = all-skip (branch_vertices (P ∷ ls)) P ls clear
      where
        clear : (w : ℕ) → In w (branch_vertices (P ∷ ls)) → ¬ In w P.inner
        clear w (inl e) h = inner_not_end P f.is_path.nodup w h (inl e)
        clear w (inr (inl e)) h = inner_not_end P f.is_path.nodup w h (inr e)
        clear w (inr (inr k)) h = f.new w h (branch_built ls w k)

  -- THE RECORD GIVES THE STEPS.
  pub record_steps : (ls ps : List Path) → ((L : Path) → In L ls → IsPath E L) → Extensions E ls ps → Steps E (links_of ls) ps × (final (links_of ls) ps ≡ links_of (record_of ls ps))
  record_steps ls [] paths f = (tt, refl)
  record_steps ls (P ∷ ps) paths f =
      let e = links_taken ls paths P f.0 in
      let r = record_steps (P ∷ ls) ps (λ L h. ⊎_elim (λ i. rw i f.0.is_path) (paths L) h) f.1 in
      ((extends_bg ls paths P f.0, subst (λ (k : List Path). Steps E k ps) e r.0), ap (λ (k : List Path). final k ps) (sym e) ∙ r.1)

  -- the start is not split
  start-links : (ls : List Path) → Subdivision E ls → links_of ls ≡ ls
  start-links ls x = unsplit (branch_vertices ls) ls (λ L h w k j. let r = branch_in ls w j in clear_start E (the_four x) ls x.paths L h w k (end_start E (the_four x) ls x.paths r.0 r.1 w r.2))
    where
      nothing : (B : List ℕ) → split_all B [] ≡ []
      nothing [] = refl
      nothing (x ∷ B) = ap (split_at x) (nothing B)

      unsplit : (B : List ℕ) (ls : List Path) → ((L : Path) → In L ls → (w : ℕ) → In w L.inner → ¬ In w B) → split_all B ls ≡ ls
      unsplit B [] f = nothing B
      unsplit B (P ∷ ls) f = all-skip B P ls (λ w h k. f P (inl refl) w k h) ∙ ap (λ (k : List Path). P ∷ k) (unsplit B ls (λ L h. f L (inr h)))

  -- a record is a start and further paths
  record StartAndSteps (ls : List Path) : Type 0 where
    pub start : List Path
    pub subdivision : Subdivision E start
    pub further : List Path
    pub extensions : Extensions E start further
    pub gives : record_of start further ≡ ls

  start-and_steps : (ls : List Path) → Recorded E ls → StartAndSteps ls
  start-and_steps [] v = absurd v
  start-and_steps (P ∷ ls) (inl x) = record { start = P ∷ ls; subdivision = x; further = []; extensions = tt; gives = refl }
  start-and_steps (P ∷ ls) (inr f) =
      let r = start-and_steps ls f.1 in
      record {
        start = r.start;
        subdivision = r.subdivision;
        further = r.further ++ (P ∷ []);
        extensions = snoc r.start r.further P r.extensions (subst (λ (k : List Path). Extends E k P) (sym r.gives) f.0);
        gives = record_snoc r.start r.further P ∙ ap (λ (k : List Path). P ∷ k) r.gives;
      }
    where
      snoc : (ls ps : List Path) (P : Path) → Extensions E ls ps → Extends E (record_of ls ps) P → Extensions E ls (ps ++ (P ∷ []))
      snoc ls [] P f h = (h, tt)
      snoc ls (Q ∷ ps) P f h = (f.0, snoc (Q ∷ ls) ps P f.1 h)

  -- THE BUILD OF A RECORD, in the words of the rules.
  pub record BuildOf (ls : List Path) : Type 0 where
    pub start : List Path
    pub subdivision : Subdivision E start
    pub further : List Path
    pub steps : Steps E start further
    pub links : final start further ≡ links_of ls
    pub gives : record_of start further ≡ ls

  pub build-of : (ls : List Path) → Recorded E ls → BuildOf ls
  build-of ls val =
      let r = start-and_steps ls val in
      let x = r.subdivision in
      let e = start-links r.start x in
      let s = record_steps r.start r.further (start-path E (the_four x) r.start x.paths) r.extensions in
      record {
        start = r.start;
        subdivision = x;
        further = r.further;
        steps = subst (λ (k : List Path). Steps E k r.further) e s.0;
        links = ap (λ (k : List Path). final k r.further) (sym e) ∙ s.1 ∙ ap links_of r.gives;
        gives = r.gives;
      }

  pub build-used : (ls : List Path) (b : BuildOf ls) → used_edges (final b.start b.further) ≡ used_edges ls
  build-used ls b = ap used_edges b.links ∙ all-used (branch_vertices ls) ls
