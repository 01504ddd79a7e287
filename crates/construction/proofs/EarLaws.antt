-- EARS: the definition lists an ear decomposition, or at most one vertex cuts the graph.
use Prim.Native.Nat.{ℕ, zero, suc, ◌+◌, ◌*◌, ◌-◌, ◌≤◌, ◌<◌}
use mathlib.Core.Path.{◌≡◌, refl, sym, ap, subst, ◌∙◌}
use mathlib.Core.Bool.{Bool, true, false, cond}
use mathlib.Core.Logic.{◌⊎◌, inl, inr, ⊎_elim, ⊎_map}
use mathlib.Core.List.{List, [], ◌∷◌, ◌++◌, append_assoc, append-nil}
use native.Mathlib.Omega.{arith}
use lib.ListN.{length, length-append}
use Rattle.vertexset.specs.Set.{has, empty_set, capacity}
use Rattle.vertexset.specs.declared.VertexSet.{VertexSet}
use Rattle.connectivity.specs.Lists.{In, NoDup}
use Rattle.connectivity.specs.Graph.{Adj, Graph}
use Rattle.connectivity.specs.Path.{Path, link, vertices}
use Rattle.connectivity.specs.Certificate.{Cycle, Ear, Ears, inside}
use Rattle.connectivity.proofs.Lists.{rev, rev_in, nodup_snoc, length_rev, bool?, clash, beside, full, at_most, in_append, in_left, in_right}
use Rattle.connectivity.proofs.Paths.{along-rev, along-join, end_or_inner, inner_in, two_vertices}
use Rattle.connectivity.proofs.Edges.{path-low}
use Rattle.connectivity.proofs.FirstLinks.{reversed}
use Rattle.connectivity.proofs.Completeness.{EarDecomposition, ear-fair, ear-grows, ears-size}
use Rattle.construction.specs.Sets.{stop, minus, set_with_all, empty}
use Rattle.construction.specs.Ears.{no_cut, is_cut, near, detour, cycle, path_space, add_path, Eared, eared, ears_on, ears}
use Rattle.construction.specs.Certificate.{full_set}
use Rattle.graph.specs.Rows.{rows_graph}
use Rattle.construction.proofs.Basics.{Drawn, Sized, On, flatten}
use Rattle.construction.proofs.SetLaws.{sized_empty, sized_all, sized_minus, all-on, on_all, empty-on, empty-none, on_minus, on_full, added-room}
use Rattle.construction.proofs.Flat.{rev_vertices, path-reversed}
use Rattle.construction.proofs.Detours.{OneCut, Detoured, DetourLaw, Cycled, detour-law, cycle-law, no_cut_lem, low_capacity, full_sized}

length_vertices : (P : Path) → length (vertices P) ≡ length P.inner + 2
length_vertices P = omega (arith, length-append P.inner (P.t ∷ []))

pub record EarsFound (rows : List ℕ) (n : ℕ) (d : Drawn rows n) : Type 0 where
  pub not_cut : is_cut (ears rows (full_set n)).cut_by ≡ false
  pub o : EarDecomposition (rows_graph n rows) d.simple
  pub same_flat : (ears rows (full_set n)).flat ≡ flatten (o.first ∷ o.later)
  pub same_count : (ears rows (full_set n)).count ≡ suc (length o.later)

abbrev pub EarsCut : List ℕ → ℕ → Type 0
EarsCut rows n = OneCut rows n (ears rows (full_set n)).cut_by

module _ (rows : List ℕ) (n : ℕ) (d : Drawn rows n) where
  abbrev g : Graph
  g = rows_graph n rows

  -- the vertices that are in are B; the list has room for the others: an ear lists three numbers and its new vertices, at most 4 for each of these
  record Stage (B flat : List ℕ) (set : VertexSet) : Type 0 where
    pub sized : Sized set
    pub on : (w : ℕ) → On set w → In w B
    pub back : (w : ℕ) → In w B → On set w
    pub two : 2 ≤ length B
    pub nodup : NoDup B
    pub low : (w : ℕ) → In w B → w < n
    pub room : length flat + 4 * n ≤ path_space + 4 * length B

  -- the ears that are still to come
  record Later (B flat : List ℕ) (k : ℕ) (e : Eared) : Type 0 where
    pub not_cut : is_cut e.cut_by ≡ false
    pub es : List Path
    pub are_ears : Ears g B es
    pub all_in : (z : ℕ) → z < n → In z (inside B es)
    pub same_flat : e.flat ≡ flat ++ flatten es
    pub same_count : e.count ≡ k + length es

  abbrev Answer : List ℕ → List ℕ → ℕ → Eared → Type 0
  Answer B flat k e = Later B flat k e ⊎ OneCut rows n e.cut_by

  done : (B flat : List ℕ) (k : ℕ) → ((z : ℕ) → z < n → In z B) → Later B flat k (eared flat k no_cut)
  done B flat k h = record { not_cut = no_cut_lem; es = []; are_ears = tt; all_in = h; same_flat = sym (append-nil flat); same_count = omega arith }

  -- ONE EAR MORE
  module _ (B flat : List ℕ) (set : VertexSet) (st : Stage B flat set) (P : Path) (ear : Ear g B P) (path : List ℕ) (same : path ≡ vertices P) where
    new_nodup : NoDup (P.inner ++ B)
    new_nodup = (ear-fair g d.simple B P ear (st.nodup, st.low)).0

    new_low : (w : ℕ) → In w (P.inner ++ B) → w < n
    new_low = (ear-fair g d.simple B P ear (st.nodup, st.low)).1

    has_room_lem : length flat + length (stop ∷ path) ≤ path_space
    has_room_lem = numbers (length flat) n (length B) (length P.inner) (length path) (length (P.inner ++ B)) st.room (ap length same ∙ length_vertices P) (length-append P.inner B) (ear-grows g d.simple B P ear) (at_most n (P.inner ++ B) new_nodup new_low)
      where
        numbers : (f n b i p c : ℕ) → f + 4 * n ≤ path_space + 4 * b → p ≡ i + 2 → c ≡ i + b → b < c → c ≤ n → f + suc p ≤ path_space
        numbers f n b i p c r e j h k = omega arith

    taken : add_path flat path ≡ flat ++ (stop ∷ vertices P)
    taken = added-room path_space flat (stop ∷ path) has_room_lem ∙ ap (λ (l : List ℕ). flat ++ (stop ∷ l)) same

    more : Stage (P.inner ++ B) (add_path flat path) (set_with_all set path)
    more = record {
      sized = sized_all set path st.sized;
      on = λ w h. ⊎_elim (λ i. in_right w P.inner B (st.on w i)) (λ i. on_ear w (subst (λ (l : List ℕ). In w l) same i)) (all-on set path w st.sized h);
      back = λ w h. on_all set path w st.sized (low_capacity n w d.low (new_low w h)) (⊎_elim (λ i. inr (subst (λ (l : List ℕ). In w l) (sym same) (inner_in w P i))) (λ i. inl (st.back w i)) (in_append w P.inner B h));
      two = twice (length B) (length (P.inner ++ B)) st.two (ear-grows g d.simple B P ear);
      nodup = new_nodup;
      low = new_low;
      room = numbers (length flat) n (length B) (length P.inner) (length (add_path flat path)) (length (vertices P)) (length (P.inner ++ B)) st.room (ap length taken ∙ length-append flat (stop ∷ vertices P)) (length_vertices P) (length-append P.inner B) (ear-grows g d.simple B P ear);
    }
      where
        on_ear : (w : ℕ) → In w (vertices P) → In w (P.inner ++ B)
        on_ear w h = ⊎_elim (λ e. in_right w P.inner B (⊎_elim (λ i. subst (λ (v : ℕ). In v B) (sym i) ear.from) (λ i. subst (λ (v : ℕ). In v B) (sym i) ear.upto) e)) (in_left w P.inner B) (end_or_inner P w h)

        twice : (b c : ℕ) → 2 ≤ b → b < c → 2 ≤ c
        twice b c h k = omega arith

        numbers : (f n b i p v c : ℕ) → f + 4 * n ≤ path_space + 4 * b → p ≡ f + suc v → v ≡ i + 2 → c ≡ i + b → b < c → p + 4 * n ≤ path_space + 4 * c
        numbers f n b i p v c r e m j h = omega arith

    later : (k : ℕ) (e : Eared) → Later (P.inner ++ B) (add_path flat path) (k + 1) e → Later B flat k e
    later k e r = record {
      not_cut = r.not_cut;
      es = P ∷ r.es;
      are_ears = (ear, r.are_ears);
      all_in = r.all_in;
      same_flat = r.same_flat ∙ ap (λ (l : List ℕ). l ++ flatten r.es) taken ∙ append_assoc flat (stop ∷ vertices P) (flatten r.es);
      same_count = r.same_count ∙ count (length r.es);
    }
      where
        count : (m : ℕ) → k + 1 + m ≡ k + suc m
        count m = omega arith

  -- THE EAR OF A DETOUR
  ear-of : (B flat : List ℕ) (set : VertexSet) → Stage B flat set → (r : Detoured rows n set) → Ear g B (reversed (link r.x r.q r.y))
  ear-of B flat set st r = record {
    is_path = path-reversed (Adj g) d.simple.symmetric (link r.x r.q r.y) r.is_path;
    from = st.on r.y r.y_on;
    upto = st.on r.x r.x_on;
    new = λ w h i. r.new w (rev_in w r.q h) (st.back w i);
    long = long (length r.q) (length (rev r.q)) r.some (length_rev r.q) (length_vertices (reversed (link r.x r.q r.y)));
  }
    where
      long : (k l : ℕ) → 0 < k → l ≡ k → length (vertices (reversed (link r.x r.q r.y))) ≡ l + 2 → 3 ≤ length (vertices (reversed (link r.x r.q r.y)))
      long k l h e i = omega arith

  listed : (set : VertexSet) (r : Detoured rows n set) → (detour rows (near rows set) set).path ≡ vertices (reversed (link r.x r.q r.y))
  listed set r = r.same ∙ rev_vertices (link r.x r.q r.y)

  detour-of : (B flat : List ℕ) (set : VertexSet) → Stage B flat set → empty (minus (full_set n) set) ≡ false → DetourLaw rows n set
  detour-of B flat set st some =
      let a = beside B [] st.nodup (pos (length B) st.two) in
      let b = beside B (a.0 ∷ []) st.nodup st.two in
      detour-law rows n d set st.sized (λ w h. st.low w (st.on w h)) a.0 b.0 (st.back a.0 a.1) (st.back b.0 b.1) (λ e. b.2 (inl (sym e))) some
    where
      pos : (k : ℕ) → 2 ≤ k → 0 < k
      pos k h = omega arith

  -- one turn: every vertex is in; or a detour cuts, or is the next ear
  module _ (B flat : List ℕ) (k : ℕ) (set : VertexSet) (st : Stage B flat set) (next : Eared) (go_on : Detoured rows n set → Answer B flat k next) where
    abbrev ended : Eared
    ended = eared flat k (detour rows (near rows set) set).cut_by

    cut-or_ear : DetourLaw rows n set → Answer B flat k (cond (is_cut (detour rows (near rows set) set).cut_by) ended next)
    cut-or_ear w = ⊎_elim
        (λ r. subst (λ (b : Bool). Answer B flat k (cond b ended next)) (sym r.not_cut) (go_on r))
        (λ c. subst (λ (b : Bool). Answer B flat k (cond b ended next)) (sym c.is.is_cut_lem) (inr c)) w

    abbrev turned : Eared
    turned = cond (is_cut (detour rows (near rows set) set).cut_by) ended next

    turn : Answer B flat k (cond (empty (minus (full_set n) set)) (eared flat k no_cut) turned)
    turn = ⊎_elim
        (λ e. subst (λ (b : Bool). Answer B flat k (cond b (eared flat k no_cut) turned)) (sym e) (inl (done B flat k (all_in e))))
        (λ e. subst (λ (b : Bool). Answer B flat k (cond b (eared flat k no_cut) turned)) (sym e) (cut-or_ear (detour-of B flat set st e)))
        (bool? (empty (minus (full_set n) set)))
      where
        all_in : empty (minus (full_set n) set) ≡ true → (z : ℕ) → z < n → In z B
        all_in e z h = ⊎_elim (λ i. st.on z i)
            (λ i. absurd (empty-none (minus (full_set n) set) (sized_minus (full_set n) set (full_sized n) st.sized) e z (on_minus (full_set n) set (full_sized n) st.sized z (on_full n z d.low h) (λ j. clash j i)))) (bool? (has set.words z))

  abbrev listing : VertexSet → List ℕ
  listing set = (detour rows (near rows set) set).path

  run : (f : ℕ) (B flat : List ℕ) (k : ℕ) (set : VertexSet) → Stage B flat set → n ≤ length B + f → Answer B flat k (ears_on rows (full_set n) f flat k set)
  unfolding ears_on
  run zero B flat k set st h = inl (done B flat k (full n B st.nodup st.low (omega (arith, at_most n B st.nodup st.low))))
  run (suc f) B flat k set st h = turn B flat k set st next (λ r.
      let P = reversed (link r.x r.q r.y) in
      let ear = ear-of B flat set st r in
      ⊎_map (later B flat set st P ear (listing set) (listed set r) k next) (λ c. c)
      (run f (P.inner ++ B) (add_path flat (listing set)) (k + 1) (set_with_all set (listing set)) (more B flat set st P ear (listing set) (listed set r)) (fuel (length B) (length (P.inner ++ B)) f h (ear-grows g d.simple B P ear))))
    where
      next : Eared
      next = ears_on rows (full_set n) f (add_path flat (listing set)) (k + 1) (set_with_all set (listing set))

      fuel : (b c f : ℕ) → n ≤ b + suc f → b < c → n ≤ c + f
      fuel b c f h k = omega arith

  -- THE FIRST EAR
  module _ (c : Cycled rows n) where
    abbrev P : Path
    P = c.P

    abbrev first : Path
    first = link P.t (rev P.inner ++ (P.s ∷ [])) 0

    first_listed : (cycle rows).path ≡ vertices first
    first_listed = c.same ∙ ap (λ (l : List ℕ). l ++ (0 ∷ [])) (rev_vertices P)

    first_cycle : Cycle g first
    first_cycle = record {
      is_path = record {
        along = along-join (Adj g) P.t (rev P.inner) P.s [] 0 (along-rev (Adj g) d.simple.symmetric P.s P.inner P.t c.is_path.along) (d.simple.symmetric 0 P.s c.ks);
        nodup = nodup_snoc (vertices (reversed P)) 0 (path-reversed (Adj g) d.simple.symmetric P c.is_path).nodup (λ h. c.off (rev_in 0 (vertices P) (subst (λ (l : List ℕ). In 0 l) (sym (rev_vertices P)) h)));
      };
      closes = c.kt;
      long = long (length (rev P.inner)) (length first.inner) (length (vertices first)) (length-append (rev P.inner) (P.s ∷ [])) (length_vertices first);
    }
      where
        long : (a b v : ℕ) → b ≡ a + 1 → v ≡ b + 2 → 3 ≤ v
        long a b v e i = omega arith

    first_low : (w : ℕ) → In w (vertices first) → w < n
    first_low = path-low g d.simple first first_cycle.is_path

    few : length (vertices first) ≤ n
    few = at_most n (vertices first) first_cycle.is_path.nodup first_low

    first_taken : add_path [] (cycle rows).path ≡ stop ∷ vertices first
    first_taken = added-room path_space [] (stop ∷ (cycle rows).path) (room (length (cycle rows).path) (length (vertices first)) n (ap length first_listed) few d.low) ∙ ap (λ (l : List ℕ). stop ∷ l) first_listed
      where
        room : (p v n : ℕ) → p ≡ v → v ≤ n → n ≤ capacity → 0 + suc p ≤ path_space
        room p v n e h k = omega arith

    first_stage : Stage (vertices first) (add_path [] (cycle rows).path) (set_with_all empty_set (cycle rows).path)
    first_stage = record {
      sized = sized_all empty_set (cycle rows).path sized_empty;
      on = λ w h. ⊎_elim (λ i. absurd (empty-on w i)) (λ i. subst (λ (l : List ℕ). In w l) first_listed i) (all-on empty_set (cycle rows).path w sized_empty h);
      back = λ w h. on_all empty_set (cycle rows).path w sized_empty (low_capacity n w d.low (first_low w h)) (inr (subst (λ (l : List ℕ). In w l) (sym first_listed) h));
      two = two_vertices first;
      nodup = first_cycle.is_path.nodup;
      low = first_low;
      room = room (length (add_path [] (cycle rows).path)) (length (vertices first)) n (ap length first_taken) few d.low;
    }
      where
        room : (p v n : ℕ) → p ≡ suc v → v ≤ n → n ≤ capacity → p + 4 * n ≤ path_space + 4 * v
        room p v n e h k = omega arith

    abbrev others : Eared
    others = ears_on rows (full_set n) capacity (add_path [] (cycle rows).path) 1 (set_with_all empty_set (cycle rows).path)

    all-later : Answer (vertices first) (add_path [] (cycle rows).path) 1 others
    all-later = run capacity (vertices first) (add_path [] (cycle rows).path) 1 (set_with_all empty_set (cycle rows).path) first_stage (fuel (length (vertices first)) n d.low)
      where
        fuel : (v n : ℕ) → n ≤ capacity → n ≤ v + capacity
        fuel v n h = omega arith

    decomposition : Later (vertices first) (add_path [] (cycle rows).path) 1 others → EarDecomposition g d.simple
    decomposition r = record { first = first; later = r.es; cycle = first_cycle; are_ears = r.are_ears; all_in = r.all_in; count = count }
      where
        size : (NoDup (inside (vertices first) r.es) × ((w : ℕ) → In w (inside (vertices first) r.es) → w < n)) × (length (vertices first) + length r.es ≤ length (inside (vertices first) r.es))
        size = ears-size g d.simple (vertices first) r.es (first_cycle.is_path.nodup, first_low) r.are_ears

        small : (v e i n : ℕ) → 3 ≤ v → v + e ≤ i → i ≤ n → suc e ≤ n - 2
        small v e i n a b c = omega arith

        count : suc (length r.es) ≤ n - 2
        count = small (length (vertices first)) (length r.es) (length (inside (vertices first) r.es)) n first_cycle.long size.1 (at_most n (inside (vertices first) r.es) size.0.0 size.0.1)

  abbrev Ended : Eared → Type 0
  Ended e = OneCut rows n e.cut_by

  abbrev whole : Bool → Eared
  whole b = cond b (eared [] 0 (cycle rows).cut_by) (ears_on rows (full_set n) capacity (add_path [] (cycle rows).path) 1 (set_with_all empty_set (cycle rows).path))

  ears-is : ears rows (full_set n) ≡ whole (is_cut (cycle rows).cut_by)
  unfolding ears
  ears-is = refl

  first_found : Cycled rows n → EarsFound rows n d ⊎ EarsCut rows n
  unfolding decomposition
  first_found c = ⊎_map all (λ t. subst (λ (e : Eared). Ended e) (sym is) t) (all-later c)
    where
      is : ears rows (full_set n) ≡ others c
      is = ears-is ∙ ap whole c.not_cut

      all : Later (vertices (first c)) (add_path [] (cycle rows).path) 1 (others c) → EarsFound rows n d
      all r = record {
        not_cut = ap (λ (e : Eared). is_cut e.cut_by) is ∙ r.not_cut;
        o = decomposition c r;
        same_flat = ap (λ (e : Eared). e.flat) is ∙ r.same_flat ∙ ap (λ (l : List ℕ). l ++ flatten r.es) (first_taken c);
        same_count = ap (λ (e : Eared). e.count) is ∙ r.same_count ∙ one (length r.es);
      }
        where
          one : (m : ℕ) → 1 + m ≡ suc m
          one m = omega arith

-- EARS
pub ears-law : (rows : List ℕ) (n : ℕ) (d : Drawn rows n) → EarsFound rows n d ⊎ EarsCut rows n
ears-law rows n d = ⊎_elim (first_found rows n d) (λ t. inr (subst (λ (e : Eared). OneCut rows n e.cut_by) (sym (ears-is rows n d ∙ ap (whole rows n d) t.is.is_cut_lem)) t)) (cycle-law rows n d)
