-- What one turn of a loop that reads items does. Assumes nothing.
use Prim.Native.Nat.{ℕ, zero, suc, ◌-◌, ◌<◌, ◌≤◌}
use mathlib.Core.List.{List, [], ◌∷◌}
use mathlib.Core.Bool.{Bool, true, false, cond}
use mathlib.Core.Path.{◌≡◌, refl, sym, ap, ◌∙◌}
use native.Mathlib.Omega.{arith}
use lib.ListN.{length}
use Rattle.record.specs.Read.{Read, Read.Got, Read.Refused, Reader, on_read, ◌needs⟨◌⟩◌, ◌▸◌, ◌▹◌, many, or_kept, led, folded}
use Rattle.record.specs.Loop.{Loop, runs, finish}
use Rattle.record.proofs.Laws.{on_got, test_got, carry}

module _ {S A T R : Type 0} (L : Loop S A T R) where
  fold_on : (t : T) (a : A) (x : Read (List A)) → finish L.step L.ok L.bad t (on_read x (λ l next. Got (a ∷ l) next)) ≡ finish L.step L.ok L.bad (L.step t a) x
  unfolding folded
  fold_on t a (Got l next) = refl
  fold_on t a (Refused r p) = refl

  pub turn_start : (k : ℕ) {st st' : S} {t t' : T} (s : List ℕ) (at : ℕ) → st ≡ st' → t ≡ t' → runs L k st t s at ≡ runs L k st' t' s at
  turn_start k s at e f = rw (e, f)

  pub turn_go : (s : List ℕ) (k : ℕ) → 0 < k → (st : S) {st' : S} (t : T) {t' : T} {at next : ℕ} {a : A} → L.item st s at ≡ Got a next → st' ≡ L.after st a → t' ≡ L.step t a
      → runs L (k - 1) st' t' s next ≡ runs L k st t s at
  unfolding runs many
  turn_go s zero h st t e f g = absurd (omega arith)
  turn_go s (suc k) h st t {next = next} {a = a} e f g =
      let z : suc k - 1 ≡ k = omega arith in
      rw (e, z, f, g) (sym (fold_on t a (many L.item L.after k (L.after st a) s next)))

  pub turn_stop : (s : List ℕ) (k : ℕ) → 0 < k → (st : S) (t : T) (at : ℕ) {r p : ℕ} → L.item st s at ≡ Refused r p → L.bad r p ≡ runs L k st t s at
  unfolding runs many
  turn_stop s zero h st t at e = absurd (omega arith)
  turn_stop s (suc k) h st t at e = rw e

  pub turn_done : (s : List ℕ) (k : ℕ) → k ≤ 0 → (st : S) (t : T) (at : ℕ) → L.ok t at ≡ runs L k st t s at
  unfolding runs many folded
  turn_done s zero h st t at = refl
  turn_done s (suc k) h st t at = absurd (omega arith)

-- what one turn of a loop does to the state that it leaves, and what that is after the last item
module _ {S A : Type 0} (item : S → Reader A) (after : S → A → S) where
  pub led-go : (s : List ℕ) (k : ℕ) → 0 < k → (st : S) {st' : S} {at next : ℕ} {a : A} → item st s at ≡ Got a next → st' ≡ after st a
      → led item after (k - 1) st' s next ≡ led item after k st s at
  unfolding led
  led-go s zero h st e f = absurd (omega arith)
  led-go s (suc k) h st e f = let z : suc k - 1 ≡ k = omega arith in rw (e, z, f)

  pub led-stop : (s : List ℕ) (k : ℕ) (st : S) (at : ℕ) {r p : ℕ} → item st s at ≡ Refused r p → st ≡ led item after k st s at
  unfolding led
  led-stop s zero st at e = refl
  led-stop s (suc k) st at e = rw e

  pub led-done : (s : List ℕ) (k : ℕ) → k ≤ 0 → (st : S) (at : ℕ) → st ≡ led item after k st s at
  unfolding led
  led-done s zero h st at = refl
  led-done s (suc k) h st at = absurd (omega arith)

  pub led-folded : (k : ℕ) (st : S) (s : List ℕ) (at : ℕ) {l : List A} {next : ℕ} → many item after k st s at ≡ Got l next → led item after k st s at ≡ folded after st l
  unfolding many led folded
  led-folded zero st s at e = carry (λ l n. st ≡ folded after st l) e refl
  led-folded (suc k) st s at e =
      let g = on_got (item st s at) _ e in
      let q = on_got (many item after k (after st g.0) s g.1) _ g.3 in
      let one : led item after (suc k) st s at ≡ led item after k (after st g.0) s g.1 = ap (λ (x : Read A). or_kept x (λ a mid. led item after k (after st a) s mid) st) g.2 in
      carry (λ l n. led item after (suc k) st s at ≡ folded after st l) q.3 (one ∙ led-folded k (after st g.0) s g.1 q.2)

-- a test that was passed
pub needs_true : {A : Type 0} (R : Reader A) (r : ℕ) (ok : A → Bool) {s : List ℕ} {at next : ℕ} {v : A} → (R needs⟨ r ⟩ ok) s at ≡ Got v next → (R s at ≡ Got v next) × (ok v ≡ true)
unfolding ◌needs⟨◌⟩◌
needs_true R r ok {s} {at} e =
    let g = on_got (R s at) _ e in
    let t = test_got (ok g.0) _ r at g.3 in
    (g.2 ∙ t.1, carry (λ w n. ok w ≡ true) t.1 t.0)

-- what each item that was read has
unfoldable pub All : {A : Type 0} → (A → Type 0) → List A → Type 0
All Q [] = Unit {0}
All Q (a ∷ l) = (Q a) × (All Q l)

pub many-all : {S A : Type 0} {Q : A → Type 0} (item : S → Reader A) (after : S → A → S) → ((st : S) (s : List ℕ) (at : ℕ) (a : A) (next : ℕ) → item st s at ≡ Got a next → Q a)
    → (k : ℕ) (st : S) (s : List ℕ) (at : ℕ) {l : List A} {next : ℕ} → many item after k st s at ≡ Got l next → All Q l
unfolding many All
many-all {Q = Q} item after f zero st s at e = carry (λ l n. All Q l) e tt
many-all {Q = Q} item after f (suc k) st s at e =
    let g = on_got (item st s at) _ e in
    let q = on_got (many item after k (after st g.0) s g.1) _ g.3 in
    carry (λ l n. All Q l) q.3 (f st s at g.0 g.1 g.2, many-all item after f k (after st g.0) s g.1 q.2)

-- as many items as were asked for
pub many-length : {S A : Type 0} (item : S → Reader A) (after : S → A → S) (k : ℕ) (st : S) (s : List ℕ) (at : ℕ) {l : List A} {next : ℕ} → many item after k st s at ≡ Got l next → length l ≡ k
unfolding many
many-length item after zero st s at e = carry (λ l n. length l ≡ 0) e refl
many-length item after (suc k) st s at e =
    let g = on_got (item st s at) _ e in
    let q = on_got (many item after k (after st g.0) s g.1) _ g.3 in
    carry (λ l n. length l ≡ suc k) q.3 (ap suc (many-length item after k (after st g.0) s g.1 q.2))

-- one step of reading, forwards
module _ {A : Type 0} (R : Reader A) {s : List ℕ} {at : ℕ} where
  pub needs_bad : (r : ℕ) (ok : A → Bool) {q p : ℕ} → R s at ≡ Refused q p → (R needs⟨ r ⟩ ok) s at ≡ Refused q p
  unfolding ◌needs⟨◌⟩◌
  needs_bad r ok e = rw e

  pub needs_got : (r : ℕ) (ok : A → Bool) {v : A} {next : ℕ} → R s at ≡ Got v next → (R needs⟨ r ⟩ ok) s at ≡ cond (ok v) (Got v next) (Refused r at)
  unfolding ◌needs⟨◌⟩◌
  needs_got r ok e = rw e

  pub leads_bad : {B : Type 0} (f : A → Reader B) {q p : ℕ} → R s at ≡ Refused q p → (R ▹ f) s at ≡ Refused q p
  unfolding ◌▹◌
  leads_bad f e = rw e

  pub leads_got : {B : Type 0} (f : A → Reader B) {v : A} {mid : ℕ} → R s at ≡ Got v mid → (R ▹ f) s at ≡ f v s mid
  unfolding ◌▹◌
  leads_got f e = rw e

-- an item that was read, and three tests
on_cond : {A B : Type 0} (b : Bool) (x y : Read A) (f : A → ℕ → Read B) → on_read (cond b x y) f ≡ cond b (on_read x f) (on_read y f)
on_cond true x y f = refl
on_cond false x y f = refl

pub three_tests : {A : Type 0} (R : Reader A) (t u w : A → Bool) (p q r : ℕ) {s : List ℕ} {at : ℕ} {v : A} {next : ℕ} → R s at ≡ Got v next
    → (R needs⟨ p ⟩ t needs⟨ q ⟩ u needs⟨ r ⟩ w) s at ≡ cond (t v) (cond (u v) (cond (w v) (Got v next) (Refused r at)) (Refused q at)) (Refused p at)
unfolding ◌needs⟨◌⟩◌
three_tests {A} R t u w p q r {s} {at} {v} {next} e =
    rw e (ap (λ (y : Read A). on_read y (λ a z. cond (w a) (Got a z) (Refused r at))) (on_cond (t v) (Got v next) (Refused p at) (λ a z. cond (u a) (Got a z) (Refused q at)))
    ∙ on_cond (t v) (cond (u v) (Got v next) (Refused q at)) (Refused p at) (λ a z. cond (w a) (Got a z) (Refused r at))
    ∙ ap (λ (y : Read A). cond (t v) y (Refused p at)) (on_cond (u v) (Got v next) (Refused q at) (λ a z. cond (w a) (Got a z) (Refused r at))))

-- two ways of keeping the state, related by R: where the items are the same beside related states, and an item that was read keeps R
module _ {S U A : Type 0} (R : S → U → Type 0) (item : S → Reader A) (after : S → A → S) (other : U → Reader A) (next : U → A → U)
    (same : (st : S) (u : U) → R st u → (s : List ℕ) (at : ℕ) → item st s at ≡ other u s at)
    (kept : (st : S) (u : U) → R st u → (s : List ℕ) (at : ℕ) (a : A) (mid : ℕ) → item st s at ≡ Got a mid → R (after st a) (next u a)) where
  pub many-same : (k : ℕ) (st : S) (u : U) → R st u → (s : List ℕ) (at : ℕ) → many item after k st s at ≡ many other next k u s at
  unfolding many
  many-same zero st u r s at = refl
  many-same (suc k) st u r s at = rw (← same st u r s at)
      (go (item st s at) (λ a mid e. many-same k (after st a) (next u a) (kept st u r s at a mid e) s mid))
    where
      go : (x : Read A) → ((a : A) (mid : ℕ) → x ≡ Got a mid → many item after k (after st a) s mid ≡ many other next k (next u a) s mid)
          → on_read x (λ a mid. on_read (many item after k (after st a) s mid) (λ l z. Got (a ∷ l) z))
          ≡ on_read x (λ a mid. on_read (many other next k (next u a) s mid) (λ l z. Got (a ∷ l) z))
      go (Got a mid) ih = ap (λ (y : Read (List A)). on_read y (λ l z. Got (a ∷ l) z)) (ih a mid refl)
      go (Refused q p) ih = refl

  pub many-kept : (k : ℕ) (st : S) (u : U) → R st u → (s : List ℕ) (at : ℕ) {l : List A} {z : ℕ} → many item after k st s at ≡ Got l z → R (folded after st l) (folded next u l)
  unfolding many folded
  many-kept zero st u r s at e = carry (λ l n. R (folded after st l) (folded next u l)) e r
  many-kept (suc k) st u r s at e =
      let g = on_got (item st s at) _ e in
      let q = on_got (many item after k (after st g.0) s g.1) _ g.3 in
      carry (λ l n. R (folded after st l) (folded next u l)) q.3 (many-kept k (after st g.0) (next u g.0) (kept st u r s at g.0 g.1 g.2) s g.1 q.2)

-- two readers that agree, each with a test; the tests need to agree only on what was read
pub needs_same : {A : Type 0} (R Q : Reader A) (r : ℕ) (ok fine : A → Bool) (s : List ℕ) (at : ℕ) → R s at ≡ Q s at → ((v : A) (next : ℕ) → Q s at ≡ Got v next → ok v ≡ fine v)
    → (R needs⟨ r ⟩ ok) s at ≡ (Q needs⟨ r ⟩ fine) s at
unfolding ◌needs⟨◌⟩◌
needs_same {A} R Q r ok fine s at e f = rw e (go (Q s at) refl)
  where
    go : (x : Read A) → Q s at ≡ x → on_read x (λ v next. cond (ok v) (Got v next) (Refused r at)) ≡ on_read x (λ v next. cond (fine v) (Got v next) (Refused r at))
    go (Got v next) k = rw (f v next k)
    go (Refused q p) k = refl

-- two readers that agree, each with what comes after it; that needs to agree only where the first item was read
pub then_same : {A : Type 0} {B : A → Type 0} (R Q : Reader A) (f f' : (a : A) → Reader (B a)) (s : List ℕ) (at : ℕ) → R s at ≡ Q s at → ((a : A) (mid : ℕ) → Q s at ≡ Got a mid → f a s mid ≡ f' a s mid)
    → (R ▸ f) s at ≡ (Q ▸ f') s at
unfolding ◌▸◌
then_same {A} {B} R Q f f' s at e h = rw e (go (Q s at) refl)
  where
    paired : (a : A) → B a → ℕ → Read ((a : A) × B a)
    paired a b next = Got (a, b) next

    go : (x : Read A) → Q s at ≡ x → on_read x (λ a mid. on_read (f a s mid) (paired a)) ≡ on_read x (λ a mid. on_read (f' a s mid) (paired a))
    go (Got a mid) k = rw (h a mid k)
    go (Refused r p) k = refl
