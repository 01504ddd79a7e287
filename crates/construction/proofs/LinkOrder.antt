-- The six links in the order of the record, and the four branch vertices ascending.
use Prim.Native.Nat.{ℕ, suc, ◌+◌, ◌*◌, ◌≤◌, ◌<◌}
use mathlib.Core.Path.{◌≡◌, refl, sym, ap, subst, ◌∙◌}
use mathlib.Core.Logic.{inl, inr, ◌≢◌}
use mathlib.Core.List.{List, [], ◌∷◌, ◌++◌, append-nil}
use native.Mathlib.Omega.{arith}
use lib.ListN.{length, get_or, length-append}
use Rattle.vertexset.specs.Set.{next, capacity}
use Rattle.vertexset.specs.declared.VertexSet.{VertexSet}
use Rattle.connectivity.specs.Lists.{In, Ascending}
use Rattle.connectivity.specs.Graph.{Graph, Adj, Simple}
use Rattle.connectivity.specs.Path.{Path, vertices, edge, used_edges}
use Rattle.connectivity.specs.Build.{four, end_pairs, six_pairs}
use Rattle.connectivity.proofs.Lists.{fewer}
use Rattle.connectivity.proofs.Start.{StartPaths, Subdivision, the_four, start-differ}
use Rattle.connectivity.proofs.FirstLinks.{OneOf, sorted-start}
use Rattle.construction.specs.Sets.{stop, members, least}
use Rattle.construction.specs.Ears.{path_space, add_path}
use Rattle.construction.specs.Start.{link_in, next_after, six_links, sorted}
use Rattle.graph.specs.Rows.{rows_graph}
use Rattle.construction.proofs.Basics.{Drawn, Sized, On, flatten}
use Rattle.construction.proofs.SetLaws.{next-on, next-first, members-in, in_members, members-nodup, members-ascending, added-room, flatten_append}
use Rattle.construction.proofs.LinksIn.{Linked, linked}

-- paths in one list, with room for more: k paths, none longer than a closed path through every vertex
pub record Room (flat : List ℕ) (ms : List Path) (k : ℕ) : Type 0 where
  pub same : flat ≡ flatten ms
  pub short : length (flatten ms) ≤ k * (capacity + 3)

pub add_room : (flat path : List ℕ) (ms : List Path) (k : ℕ) (M : Path) → Room flat ms k → k ≤ 8 → path ≡ vertices M → length (vertices M) ≤ capacity + 2 → Room (add_path flat path) (ms ++ (M ∷ [])) (suc k)
add_room flat path ms k M r few e short = record {
  same = (λ i. add_path (r.same i) (e i)) ∙ added-room path_space (flatten ms) (stop ∷ vertices M) (omega (arith, r.short)) ∙ sym more;
  short = omega (arith, r.short, ap length more, length-append (flatten ms) (stop ∷ vertices M));
}
  where
    more : flatten (ms ++ (M ∷ [])) ≡ flatten ms ++ (stop ∷ vertices M)
    more = flatten_append ms (M ∷ []) ∙ ap (λ (l : List ℕ). flatten ms ++ (stop ∷ l)) (append-nil (vertices M))

-- FOUR VERTICES, ascending: the least, and each time the next
record Four (set : VertexSet) : Type 0 where
  pub a : ℕ
  pub b : ℕ
  pub c : ℕ
  pub d : ℕ
  pub ab : a < b
  pub bc : b < c
  pub cd : c < d
  pub all : members set ≡ four a b c d
  pub first : least set ≡ a
  pub second : next_after set a ≡ b
  pub third : next_after set b ≡ c
  pub fourth : next_after set c ≡ d

next_of : (s : VertexSet) (v b : ℕ) → Sized s → On s b → v ≤ b → ((x : ℕ) → On s x → v ≤ x → b ≤ x) → next s.words v ≡ b
next_of s v b h on l f = let n = next-first s v h b on l in let m = next-on s v h n.1 in both (next s.words v) n.0 (f (next s.words v) m.0 m.1)
  where
    both : (k : ℕ) → k ≤ b → b ≤ k → k ≡ b
    both k p q = omega arith

-- which of the four are not below another
four-above : (a b c d x : ℕ) → a < b → b < c → c < d → In x (four a b c d) → (a ≤ x) × (a + 1 ≤ x → b ≤ x) × (b + 1 ≤ x → c ≤ x) × (c + 1 ≤ x → d ≤ x)
four-above a b c d x ab bc cd (inl e) = omega arith
four-above a b c d x ab bc cd (inr (inl e)) = omega arith
four-above a b c d x ab bc cd (inr (inr (inl e))) = omega arith
four-above a b c d x ab bc cd (inr (inr (inr (inl e)))) = omega arith
four-above a b c d x ab bc cd (inr (inr (inr (inr h)))) = absurd h

one_more : (a b : ℕ) → a < b → a + 1 ≤ b
one_more a b h = omega arith

four-order : (set : VertexSet) → Sized set → length (members set) ≡ 4 → Four set
four-order set sized = go (members set) refl (members-ascending set)
  where
    go : (l : List ℕ) → members set ≡ l → Ascending l → length l ≡ 4 → Four set
    go [] e up n = absurd (omega arith)
    go (a ∷ []) e up n = absurd (omega arith)
    go (a ∷ (b ∷ [])) e up n = absurd (omega arith)
    go (a ∷ (b ∷ (c ∷ []))) e up n = absurd (omega arith)
    go (a ∷ (b ∷ (c ∷ (d ∷ (z ∷ l))))) e up n = absurd (omega arith)
    go (a ∷ (b ∷ (c ∷ (d ∷ [])))) e up n = record {
      a = a;
      b = b;
      c = c;
      d = d;
      ab = up.0;
      bc = up.1.0;
      cd = up.1.1.0;
      all = e;
      first = next_of set 0 a sized (on a (inl refl)) (omega arith) (λ x k l. (above x k).0);
      second = next_of set (a + 1) b sized (on b (inr (inl refl))) (one_more a b up.0) (λ x k. (above x k).1);
      third = next_of set (b + 1) c sized (on c (inr (inr (inl refl)))) (one_more b c up.1.0) (λ x k. (above x k).2);
      fourth = next_of set (c + 1) d sized (on d (inr (inr (inr (inl refl))))) (one_more c d up.1.1.0) (λ x k. (above x k).3);
    }
      where
        on : (x : ℕ) → In x (four a b c d) → On set x
        on x h = members-in set x (subst (λ (k : List ℕ). In x k) (sym e) h)

        above : (x : ℕ) → On set x → (a ≤ x) × (a + 1 ≤ x → b ≤ x) × (b + 1 ≤ x → c ≤ x) × (c + 1 ≤ x → d ≤ x)
        above x h = four-above a b c d x up.0 up.1.0 up.1.1.0 (subst (λ (k : List ℕ). In x k) e (in_members set x sized h))

-- the four of a start are those of its pairs
four_same : {E : ℕ → ℕ → Type 0} (ms : List Path) (x : Subdivision E ms) (a b c d : ℕ) → end_pairs ms ≡ six_pairs a b c d → four a b c d ≡ the_four x
four_same ms x a b c d e = λ i. four (at 0 (λ (p : ℕ × ℕ). p.0) i) (at 0 (λ (p : ℕ × ℕ). p.1) i) (at 5 (λ (p : ℕ × ℕ). p.0) i) (at 5 (λ (p : ℕ × ℕ). p.1) i)
  where
    at : (k : ℕ) (f : ℕ × ℕ → ℕ) → f (get_or (six_pairs a b c d) k (0, 0)) ≡ f (get_or (six_pairs x.p x.q x.r x.s) k (0, 0))
    at k f = ap (λ (l : List (ℕ × ℕ)). f (get_or l k (0, 0))) (sym e ∙ x.paths.shape)

-- THE START AS THE RECORD HAS IT
pub record InOrder (g : Graph) (table : List ℕ) (set : VertexSet) : Type 0 where
  pub ms : List Path
  pub x : Subdivision (Adj g) ms
  pub same_flat : sorted table set ≡ flatten ms
  pub same_four : members set ≡ the_four x

module _ (g : Graph) (p : Simple g) (table : List ℕ) (drawn : Drawn table capacity) (B : List ℕ) (four-long : length B ≡ 4) (six : List Path) (x : StartPaths (Adj g) B six) (y : StartPaths (Adj (rows_graph capacity table)) B six)
    (only : (u v : ℕ) → Adj (rows_graph capacity table) u v → In (edge u v) (used_edges six))
    (set : VertexSet) (sized : Sized set) (into : (w : ℕ) → In w B → On set w) (out : (w : ℕ) → On set w → In w B) where
  four-members : length (members set) ≡ 4
  four-members = size (length (members set)) (length B) (fewer (members set) B (members-nodup set) (λ w h. out w (members-in set w h))) (fewer B (members set) (start-differ (Adj g) B six x) (λ w h. in_members set w sized (into w h))) four-long
    where
      size : (k l : ℕ) → k ≤ l → l ≤ k → l ≡ 4 → k ≡ 4
      size k l a b e = omega arith

  -- the links between the four, in order
  module _ (f : Four set) where
    abbrev Path' : ℕ → ℕ → Type 0
    Path' u v = Linked six table set u v

    in_B : (w : ℕ) → In w (four f.a f.b f.c f.d) → In w B
    in_B w h = out w (members-in set w (subst (λ (k : List ℕ). In w k) (sym f.all) h))

    sorted-as : sorted table set ≡ six_links table set f.a f.b f.c f.d
    unfolding sorted
    sorted-as =
        let q = ap (next_after set) f.first ∙ f.second in
        let r = ap (next_after set) q ∙ f.third in
        let s = ap (next_after set) r ∙ f.fourth in
        λ i. six_links table set (f.first i) (q i) (r i) (s i)

    module _ (m1 : Path' f.a f.b) (m2 : Path' f.a f.c) (m3 : Path' f.a f.d) (m4 : Path' f.b f.c) (m5 : Path' f.b f.d) (m6 : Path' f.c f.d) where
      abbrev six' : List Path
      six' = m1.M ∷ (m2.M ∷ (m3.M ∷ (m4.M ∷ (m5.M ∷ (m6.M ∷ [])))))

      one : (M : Path) → In M six' → OneOf six M
      one M (inl e) = rw e m1.one
      one M (inr (inl e)) = rw e m2.one
      one M (inr (inr (inl e))) = rw e m3.one
      one M (inr (inr (inr (inl e)))) = rw e m4.one
      one M (inr (inr (inr (inr (inl e))))) = rw e m5.one
      one M (inr (inr (inr (inr (inr (inl e)))))) = rw e m6.one
      one M (inr (inr (inr (inr (inr (inr h)))))) = absurd h

      shape : end_pairs six' ≡ six_pairs f.a f.b f.c f.d
      shape = λ i. (m1.from i, m1.upto i) ∷ ((m2.from i, m2.upto i) ∷ ((m3.from i, m3.upto i) ∷ ((m4.from i, m4.upto i) ∷ ((m5.from i, m5.upto i) ∷ ((m6.from i, m6.upto i) ∷ [])))))

      room : Room (six_links table set f.a f.b f.c f.d) six' 6
      room = more m6 5 _ _ (more m5 4 _ _ (more m4 3 _ _ (more m3 2 _ _ (more m2 1 _ _ (more m1 0 [] [] (record { same = refl; short = omega arith }) (omega arith)) (omega arith)) (omega arith)) (omega arith)) (omega arith)) (omega arith)
        where
          more : {u v : ℕ} (m : Path' u v) (k : ℕ) (flat : List ℕ) (ms : List Path) → Room flat ms k → k ≤ 8 → Room (add_path flat (link_in table set u v)) (ms ++ (m.M ∷ [])) (suc k)
          more {u} {v} m k flat ms r few = add_room flat (link_in table set u v) ms k m.M r few m.same (omega (arith, m.short))

      ordered : InOrder g table set
      ordered =
          let s = sorted-start g p B six x f.a f.b f.c f.d f.ab f.bc f.cd in_B six' shape one in
          record { ms = six'; x = s; same_flat = sorted-as ∙ room.same; same_four = f.all ∙ four_same six' s f.a f.b f.c f.d shape }

    link-in : (u v : ℕ) → In u (four f.a f.b f.c f.d) → In v (four f.a f.b f.c f.d) → u < v → Path' u v
    link-in u v hu hv l = linked table drawn B six y only set sized into out u v (in_B u hu) (in_B v hv) (λ e. differ u v l e)
      where
        differ : (u v : ℕ) → u < v → u ≢ v
        differ u v l e = omega arith

  -- THE LINKS ARE FOUND, IN THE ORDER OF THE RECORD.
  pub in_order : InOrder g table set
  in_order = go (four-order set sized four-members)
    where
      less : (u v w : ℕ) → u < v → v < w → u < w
      less u v w a b = omega arith

      go : Four set → InOrder g table set
      go f =
          ordered f (link-in f f.a f.b (inl refl) (inr (inl refl)) f.ab) (link-in f f.a f.c (inl refl) (inr (inr (inl refl))) (less f.a f.b f.c f.ab f.bc))
          (link-in f f.a f.d (inl refl) (inr (inr (inr (inl refl)))) (less f.a f.c f.d (less f.a f.b f.c f.ab f.bc) f.cd))
          (link-in f f.b f.c (inr (inl refl)) (inr (inr (inl refl))) f.bc) (link-in f f.b f.d (inr (inl refl)) (inr (inr (inr (inl refl)))) (less f.b f.c f.d f.bc f.cd))
          (link-in f f.c f.d (inr (inr (inl refl))) (inr (inr (inr (inl refl)))) f.cd)
