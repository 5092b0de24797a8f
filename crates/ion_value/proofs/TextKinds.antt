-- No run of text is both a timestamp and a number.
use Rattle.std.proofs.Common.{◌≡◌, ◌≢◌, ◌⊎◌, ℕ, Bool, true, false, ◌||◌, ◌==◌, Err, List, [], ◌∷◌, take, codes, inl, inr, refl, sym, ap, ◌∙◌, arith}
use Rattle.std.proofs.lemmas.Bool.{cases_Bool, eqb-true, and_parts}
use Rattle.std.proofs.lemmas.Bool.Decides.{nat_tests}
use Rattle.std.proofs.Math.Bool.{and-false}
use Rattle.ion_meter.specs.declared.fault.Reason.TheVariants.{BadToken}
use Rattle.ion_value.specs.declared.timestamp.Timestamp.{Timestamp}
use Rattle.ion_value.specs.Digits.{is_digit, is_hex_digit, is_binary_digit, is_whole, cut_at}
use Rattle.ion_value.specs.Int.{is_based, int_of_digits, int_of_text}
use Rattle.ion_value.specs.Decimal.{Parts, is_exponent_mark, is_point, parts_of, decimal_of_parts, decimal_of_text}
use Rattle.ion_value.specs.Timestamp.{digits_at, looks_like, timestamp_of_text}
use Rattle.ion_value.specs.TimestampRuns.{unread, begins_time, after_year, from_year}
use Rattle.ion_value.proofs.TextStages.{date-text}

-- ---- how a timestamp begins

-- four digits, and a letter or a dash
pub data BeginsDated : List ℕ → Type 0 where
  dated : (a b c d x : ℕ) (rest : List ℕ) → is_digit a ≡ true → is_digit b ≡ true → is_digit c ≡ true → is_digit d ≡ true → (x ≡ 84) ⊎ (x ≡ 45) → BeginsDated (a ∷ b ∷ c ∷ d ∷ x ∷ rest)

after-dated : (a b c d : ℕ) (bytes : List ℕ) (t : Timestamp) → is_digit a ≡ true → is_digit b ≡ true → is_digit c ≡ true → is_digit d ≡ true
    → after_year t bytes ≢ Err BadToken → BeginsDated (a ∷ b ∷ c ∷ d ∷ bytes)
after-dated a b c d [] t p q r s good = absurd (good refl)
after-dated a b c d (x ∷ rest) t p q r s good =
    elim (cases_Bool (84 == x)) [
      | inl e ↦ dated a b c d x rest p q r s (inl (sym (eqb-true 84 x e)))
      | inr e ↦ elim (cases_Bool (45 == x)) [
        | inl f ↦ dated a b c d x rest p q r s (inr (sym (eqb-true 45 x f)))
        | inr f ↦ absurd (good (rw (e, f) refl))
      ]
    ]

year-dated : (run : List ℕ) → from_year unread run ≢ Err BadToken → BeginsDated run
year-dated [] good = absurd (good refl)
year-dated (a ∷ []) good = absurd (good (simp and-false))
year-dated (a ∷ b ∷ []) good = absurd (good (simp and-false))
year-dated (a ∷ b ∷ c ∷ []) good = absurd (good (simp and-false))
year-dated (a ∷ b ∷ c ∷ d ∷ bytes) good =
    elim (cases_Bool (is_digit a)) [
      | inl p ↦ elim (cases_Bool (is_digit b)) [
        | inl q ↦ elim (cases_Bool (is_digit c)) [
          | inl r ↦ elim (cases_Bool (is_digit d)) [
            | inl s ↦ after-dated a b c d bytes (record unread { year = digits_at 0 4 (a ∷ b ∷ c ∷ d ∷ []) }) p q r s (rw (p, q, r, s) at good)
            | inr s ↦ absurd (good (rw (p, q, r, s) refl))
          ]
          | inr r ↦ absurd (good (rw (p, q, r) refl))
        ]
        | inr q ↦ absurd (good (rw (p, q) refl))
      ]
      | inr p ↦ absurd (good (rw p refl))
    ]

-- a time begins so too
minute-dated : (run : List ℕ) → begins_time run ≡ true → BeginsDated run
minute-dated [] e = absurd (cc)
minute-dated (a ∷ []) e = absurd (let f = simp and-false at e in cc)
minute-dated (a ∷ b ∷ []) e = absurd (let f = simp and-false at e in cc)
minute-dated (a ∷ b ∷ c ∷ []) e = absurd (let f = simp and-false at e in cc)
minute-dated (a ∷ b ∷ c ∷ d ∷ []) e = absurd (let f = simp and-false at e in cc)
minute-dated (a ∷ b ∷ c ∷ d ∷ x ∷ rest) e =
    let first = and_parts (is_digit a) (looks_like (codes "000-00-00T00:00") (take 15 (b ∷ c ∷ d ∷ x ∷ rest))) e in
    let second = and_parts (is_digit b) (looks_like (codes "00-00-00T00:00") (take 14 (c ∷ d ∷ x ∷ rest))) first.1 in
    let third = and_parts (is_digit c) (looks_like (codes "0-00-00T00:00") (take 13 (d ∷ x ∷ rest))) second.1 in
    let fourth = and_parts (is_digit d) (looks_like (codes "-00-00T00:00") (take 12 (x ∷ rest))) third.1 in
    let fifth = and_parts (45 == x) (looks_like (codes "00-00T00:00") (take 11 rest)) fourth.1 in
    dated a b c d x rest first.0 second.0 third.0 fourth.0 (inr (sym (eqb-true 45 x fifth.0)))

text-dated : (run : List ℕ) → timestamp_of_text run ≢ Err BadToken → BeginsDated run
text-dated run good =
    elim (cases_Bool (begins_time run)) [
      | inl e ↦ minute-dated run e
      | inr e ↦ year-dated run (λ bad. good (sym (date-text run e) ∙ bad))
    ]

-- ---- what begins so is no number

record IsDigitAlone (b : ℕ) : Type 0 where
  minus : (b == 45) ≡ false
  point : is_point b ≡ false
  exponent : is_exponent_mark b ≡ false
  sixteen : (b == 120 || b == 88) ≡ false
  two : (b == 98 || b == 66) ≡ false

digit-alone : (b : ℕ) → is_digit b ≡ true → IsDigitAlone b
digit-alone b e = record {
  minus = grind (arith, nat_tests);
  point = grind (arith, nat_tests);
  exponent = grind (arith, nat_tests);
  sixteen = grind (arith, nat_tests);
  two = grind (arith, nat_tests);
}

-- its digits do not go on
dated-whole : (run : List ℕ) → BeginsDated run → is_whole run ≡ false
dated-whole _ (dated a b c d x rest p q r s (inl e)) = rw (e, p, q, r, s) refl
dated-whole _ (dated a b c d x rest p q r s (inr e)) = rw (e, p, q, r, s) refl

int-bad : (negative : Bool) (bytes : List ℕ) → is_whole bytes ≡ false → is_based 120 88 is_hex_digit bytes ≡ false → is_based 98 66 is_binary_digit bytes ≡ false
    → int_of_digits negative bytes ≡ Err BadToken
int-bad negative bytes ten sixteen two = rw (ten, sixteen, two) refl

dated-int : (run : List ℕ) → BeginsDated run → int_of_text run ≡ Err BadToken
unfolding int_of_text
dated-int _ (dated a b c d x rest p q r s e) =
    let run : List ℕ = a ∷ b ∷ c ∷ d ∷ x ∷ rest in
    let first = digit-alone a p in
    let second = digit-alone b q in
    let sixteen : is_based 120 88 is_hex_digit run ≡ false = simp (second.sixteen, and-false) in
    let two : is_based 98 66 is_binary_digit run ≡ false = simp (second.two, and-false) in
    rw first.minus (int-bad false run (dated-whole run (dated a b c d x rest p q r s e)) sixteen two)

decimal-bad : (negative : Bool) (p : Parts) → is_whole p.whole ≡ false → decimal_of_parts negative p ≡ Err BadToken
decimal-bad negative p e = rw e refl

cut-five : (test : ℕ → Bool) (a b c d x : ℕ) (rest : List ℕ) → test a ≡ false → test b ≡ false → test c ≡ false → test d ≡ false → test x ≡ false
    → (cut_at test (a ∷ b ∷ c ∷ d ∷ x ∷ rest)).0 ≡ a ∷ b ∷ c ∷ d ∷ x ∷ (cut_at test rest).0
unfolding cut_at
cut-five test a b c d x rest p q r s e = rw (p, q, r, s, e) refl

mark-alone : (x : ℕ) → (x ≡ 84) ⊎ (x ≡ 45) → (is_exponent_mark x ≡ false) × (is_point x ≡ false)
mark-alone x (inl e) = rw e (refl, refl)
mark-alone x (inr e) = rw e (refl, refl)

dated-parts : (run : List ℕ) → BeginsDated run → is_whole (parts_of run).whole ≡ false
unfolding parts_of
dated-parts _ (dated a b c d x rest p q r s e) =
    let k = digit-alone a p in
    let l = digit-alone b q in
    let m = digit-alone c r in
    let n = digit-alone d s in
    let o = mark-alone x e in
    let prefix = (cut_at is_exponent_mark rest).0 in
    let mark = cut-five is_exponent_mark a b c d x rest k.exponent l.exponent m.exponent n.exponent o.0 in
    let point = cut-five is_point a b c d x prefix k.point l.point m.point n.point o.1 in
    let whole = ap (λ xs. (cut_at is_point xs).0) mark ∙ point in
    ap (λ xs. is_whole xs) whole ∙ dated-whole (a ∷ b ∷ c ∷ d ∷ x ∷ (cut_at is_point prefix).0) (dated a b c d x (cut_at is_point prefix).0 p q r s e)

dated-decimal : (run : List ℕ) → BeginsDated run → decimal_of_text run ≡ Err BadToken
unfolding decimal_of_text
dated-decimal _ (dated a b c d x rest p q r s e) =
    let run : List ℕ = a ∷ b ∷ c ∷ d ∷ x ∷ rest in
    let first = digit-alone a p in
    let bad = decimal-bad false (parts_of run) (dated-parts run (dated a b c d x rest p q r s e)) in
    rw first.minus bad

pub timestamp-no_number : (run : List ℕ) → timestamp_of_text run ≢ Err BadToken → (int_of_text run ≡ Err BadToken) × (decimal_of_text run ≡ Err BadToken)
timestamp-no_number run good =
    let begins = text-dated run good in
    (dated-int run begins, dated-decimal run begins)
