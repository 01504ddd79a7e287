-- WHAT A MEND ANSWERS, as a word of `fikzarn_mend` and in the bytes that the mending program prints. Assumes nothing.
use Prim.Native.Nat.{ℕ, ◌+◌, ◌*◌, ◌/◌, ◌%◌, ◌≤◌, ◌<◌}
use mathlib.Core.List.{List}
use mathlib.Core.Bool.{Bool, true, false, cond}
use mathlib.Core.Path.{◌≡◌, refl, sym, ap, ◌∙◌, subst}
use mathlib.Core.Logic.{inl, inr, ⊎_map}
use native.Mathlib.Omega.{arith}
use lib.Dec.{ltb}
use lib.ListN.{length}
use Rattle.record.specs.Read.{Read, Read.Got, Read.Refused, Bytes, ended}
use Rattle.record.specs.declared.Answer.{Answer}
use Rattle.record.specs.declared.Answer.TheVariants.{Grade}
use Rattle.graph.specs.Limits.{max_edges}
use Rattle.reading.specs.Plan.{Plan, plan}
use Rattle.reading.specs.Code.{plan_read}
use Rattle.reading.proofs.Lengths.{plan-short}
use Rattle.lines.specs.Lines.{input_limit}
use Rattle.mending.specs.declared.Mended.{Mended}
use Rattle.mending.specs.Mend.{list_of, Records, refusal, records_of, records_read, records_from, mend_from}
use Rattle.fikzarn.specs.Words.{lengths_place, mended_word}
use Rattle.fikzarn.proofs.Words.{lengths_word}
use Rattle.mending.proofs.Fits.{records_fit, mend_either}
use Rattle.mendbytes.proofs.Cases.{long_bytes, told-bytes}
use Rattle.claims.specs.Answers as listed
use Rattle.claims.specs.Answers.{OneOf}
use Rattle.claims.specs.Mending.{MendsWorded, MendsPrinted, MendAnswers}
use Rattle.claims.proofs.Answers.{demand1_answers}
use Rattle.claims.proofs.Exports.{byte_number, listed-fits, grade-decoded}
use Rattle.claims.proofs.Mending.{the_records_mend}

-- THE ANSWERS: the plan's faults, 32, or grade 3
records_answer : (P : List ℕ) → OneOf listed.mending_answers (length P) 0 (records_from P).answer
unfolding plan_read records_read records_of
records_answer P = go (ended plan P 0) (demand1_answers.reading P)
  where
    test : (b : Bool) (x : Records) → x.answer ≡ Grade 3 → OneOf listed.mending_answers (length P) 0 (cond b (refusal 32 0) x).answer
    test true x e = (inr (inr (inl refl)), omega arith)
    test false x e = subst (OneOf listed.mending_answers (length P) 0) (sym e) (inl refl)

    go : (x : Read Plan) → OneOf listed.reading_answers (length P) 0 (plan_read x).answer → OneOf listed.mending_answers (length P) 0 (records_read x).answer
    go (Got p next) h = test (ltb max_edges (length p.edges + length (list_of p))) _ refl
    go (Refused r q) h = (⊎_map (λ e. e) (λ e. inr (inr e)) h.0, h.1)

pub mend_answers : MendAnswers
mend_answers P list mended certificate =
    mend_either P list mended certificate (λ o. OneOf listed.mending_answers (length P) 0 o.answer.answer) (inr (inl refl), omega arith) (records_answer P)

-- THE WORD: three lengths of two bytes each
abbrev TwoBytes : Mended → Type 0
TwoBytes m = (m.list < 65536) × (m.mended < 65536) × (m.certificate < 65536)

two_bytes : (P list mended certificate : List ℕ) → Bytes P → TwoBytes (mend_from P list mended certificate).answer
two_bytes P list mended certificate bytes =
    let f = records_fit P bytes in mend_either P list mended certificate (λ o. TwoBytes o.answer) (omega arith) (omega arith)

-- from the third, the fifth and the seventh byte on
parts : (k a b c : ℕ) → k < 256 → a < 65536 → b < 65536 → c < 65536 → (w : ℕ) → w ≡ 1 + 256 * k + 65536 * (a + 65536 * b + 4294967296 * c)
    → (w / 65536 ≡ a + 65536 * (b + 65536 * c)) × (w / 4294967296 ≡ b + 65536 * c) × (w / 281474976710656 ≡ c)
parts k a b c hk ha hb hc w e = (omega arith, omega arith, omega arith)

lowest : (w a x : ℕ) → a < 65536 → w ≡ a + 65536 * x → w % 65536 ≡ a
lowest w a x h e = omega arith

cut : (a : ℕ) → a < 65536 → a % 65536 ≡ a
cut a h = omega arith

lengths_told : (m : Mended) {k : ℕ} → k < 256 → TwoBytes m → m.answer ≡ Grade k
    → (mended_word m / 65536 % 65536 ≡ m.list) × (mended_word m / 4294967296 % 65536 ≡ m.mended) × (mended_word m / 281474976710656 ≡ m.certificate)
lengths_told m {k} h b f =
    let e : lengths_place m ≡ m.list + 65536 * m.mended + 4294967296 * m.certificate = omega (arith, cut m.list b.0, cut m.mended b.1, cut m.certificate b.2) in
    let p = parts k m.list m.mended m.certificate h b.0 b.1 b.2 (mended_word m) (sym (lengths_word m f) ∙ ap (λ (n : ℕ). 1 + 256 * k + 65536 * n) e) in
    (lowest (mended_word m / 65536) m.list _ b.0 p.0, lowest (mended_word m / 4294967296) m.mended _ b.1 p.1, p.2)

byte_grade : (P : List ℕ) (a : Answer) {k : ℕ} → OneOf listed.mending_answers (length P) 0 a → a ≡ Grade k → k < 256
byte_grade P a {k} h e = byte_number (listed.mending_answers).grades refl k (subst (λ (x : Answer). OneOf listed.mending_answers (length P) 0 x) e h)

pub mends_worded : MendsWorded
mends_worded P list mended certificate bytes =
    let m = (mend_from P list mended certificate).answer in
    let a = mend_answers P list mended certificate in
    let b = two_bytes P list mended certificate bytes in
    record {
      answer = λ h. grade-decoded (lengths_place m) m.answer (listed-fits listed.mending_answers (length P) 0 refl refl refl h (omega arith) m.answer a);
      in_list = λ k e. (lengths_told m (byte_grade P m.answer a e) b e).0;
      in_mended = λ k e. (lengths_told m (byte_grade P m.answer a e) b e).1;
      in_certificate_lem = λ k e. (lengths_told m (byte_grade P m.answer a e) b e).2;
    }

-- THE BYTES
pub mends_printed : MendsPrinted
mends_printed P = record {
  records = λ p i h.
      let l : length P ≤ input_limit = omega (arith, plan-short p i.allowed, ap length i.bytes) in
      sym (told-bytes P l (ap (λ (s : List ℕ). (records_from s).answer) i.bytes ∙ (the_records_mend p i.allowed h).answer));
  refusal = λ r q h e. sym (told-bytes P h e);
  long = λ h. sym (long_bytes P h);
}
