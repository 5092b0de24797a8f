-- What is read from text is a timestamp, or refused for one of three reasons.
use Rattle.std.proofs.Common.{◌≡◌, ◌⊎◌, ℕ, suc, ◌+◌, ◌-◌, ◌*◌, ◌^◌, ◌<◌, ◌≤◌, Bool, true, false, ◌&&◌, ◌||◌, ◌==◌, nat_lt, None, Result, Ok, Err, IfOk, IfErr, MatchResult, List, [], ◌∷◌, length, take, drop, map, codes, inl, inr, refl, sym, arith}
use Rattle.std.proofs.lemmas.Bool.{cases_Bool, ne_eqb, and_parts, ltb-false, leb-true}
use Rattle.std.proofs.lemmas.Bool.Decides.{nat_tests}
use Rattle.std.proofs.lemmas.List.{take_all, length-map}
use Rattle.std.proofs.Math.Nat.{pow-zero, pow-suc, mul-le-mul_right}
use Rattle.ion_meter.specs.declared.fault.Reason.{Reason}
use Rattle.ion_meter.specs.declared.fault.Reason.TheVariants.{BadToken, Range, BadTimestamp}
use Rattle.ion_value.specs.declared.timestamp.Precision.TheVariants.{Year, Month, Day}
use Rattle.ion_value.specs.declared.timestamp.Timestamp.{Timestamp}
use Rattle.ion_value.specs.Number.{number}
use Rattle.ion_value.specs.Digits.{is_digit, digit_value, all_are, first_is, cut_at}
use Rattle.ion_value.specs.Timestamp.{IsTimestamp, IsMoment, is_moment, IsOffset, KeepsPrecision, utc_of, fields, looks_like, digits_at, is_offset_mark, has_offset_shape, has_seconds_shape, precision_of_seconds, is_text_offset, minutes_of_text, offset_of_text, date_in_range, with_utc, time_in_range, time_of_parts, timestamp_of_text}
use Rattle.ion_value.proofs.Days.{utc-is, utc_of-unknown}
use Rattle.ion_value.proofs.TimestampOctets.{is_moment-is}
use Rattle.ion_value.proofs.TimestampText.{offset_of-bound}

abbrev pub IsTextRefusal : Reason → Type 0
IsTextRefusal e = (e ≡ BadToken) ⊎ ((e ≡ Range) ⊎ (e ≡ BadTimestamp))

abbrev IsReading : Result Timestamp Reason → Type 0
IsReading r = MatchResult r IsTimestamp IsTextRefusal

-- ---- dates

date-reading : (t : Timestamp) → t.offset ≡ None → KeepsPrecision t.precision t → IsReading (date_in_range t)
date-reading t unknown keeps =
    elim (cases_Bool (is_moment t)) [
      | inl e ↦
          let m = is_moment-is t e in
          rw e (record { moment = m; offset = rw unknown tt; utc = (t, utc_of-unknown t m unknown); precision = keeps })
      | inr e ↦ rw e (inr (inr refl))
    ]

-- ---- times

with_utc-reading : (t : Timestamp) (r : Result Timestamp Reason) → r ≡ utc_of t → IsMoment t → IsOffset t.offset → KeepsPrecision t.precision t → IsReading (with_utc t r)
with_utc-reading t (Ok u) e m offset keeps = record { moment = m; offset = offset; utc = (u, sym e); precision = keeps }
with_utc-reading t (Err x) e m offset keeps =
    let is = rw (← e) at (utc-is t m offset).refused in
    inr (inr is.0)

time-reading : (fits : Bool) (t : Timestamp) → (fits ≡ true → IsOffset t.offset) → KeepsPrecision t.precision t → IsReading (time_in_range fits t)
time-reading fits t offset keeps =
    elim (cases_Bool (is_moment t && fits)) [
      | inl e ↦
          let parts = and_parts (is_moment t) fits e in
          rw e (with_utc-reading t (utc_of t) refl (is_moment-is t parts.0) (offset parts.1) keeps)
      | inr e ↦ rw e (inr (inr refl))
    ]

text_offset-bound : (bytes : List ℕ) → is_text_offset bytes ≡ true → IsOffset (offset_of_text bytes)
text_offset-bound bytes e =
    let parts = and_parts _ _ e in
    let hours = leb-true (digits_at 1 2 bytes) 23 parts.0 in
    let minutes = leb-true (digits_at 4 2 bytes) 59 parts.1 in
    offset_of-bound (first_is (λ b. b == 45) bytes) (minutes_of_text bytes) (omega arith)

digit-small : (d : ℕ) → is_digit d ≡ true → digit_value d + 1 ≤ 10
digit-small d e = grind (arith, nat_tests)

-- digits spell a number below the base to their number
pub digits-lt : (ds : List ℕ) → all_are is_digit ds ≡ true → number 10 (map digit_value ds) < 10 ^ length ds
digits-lt [] all = rw pow-zero (omega arith)
digits-lt (d ∷ ds) all =
    let parts = and_parts (is_digit d) (all_are is_digit ds) all in
    let digit : digit_value d + 1 ≤ 10 = digit-small d parts.0 in
    let rest = digits-lt ds parts.1 in
    let whole : (digit_value d + 1) * 10 ^ length ds ≤ 10 * 10 ^ length ds = mul-le-mul_right (10 ^ length ds) digit in
    let long : length (map digit_value ds) ≡ length ds = simp length-map in
    rw (long, pow-suc) (omega arith)

abbrev text_time : List ℕ → List ℕ → List ℕ → Timestamp
text_time run seconds offset = record {
  precision = precision_of_seconds (length seconds);
  year = digits_at 0 4 run;
  month = digits_at 5 2 run;
  day = digits_at 8 2 run;
  hour = digits_at 11 2 run;
  minute = digits_at 14 2 run;
  second = digits_at 1 2 seconds;
  fraction = digits_at 4 (length seconds) seconds;
  offset = offset_of_text offset;
}

seconds-keep : (run seconds offset : List ℕ) → has_seconds_shape seconds ≡ true → nat_lt 38 (length (drop 4 seconds)) ≡ false
    → KeepsPrecision (precision_of_seconds (length seconds)) (text_time run seconds offset)
seconds-keep run [] offset shape short = (refl, refl)
seconds-keep run (a ∷ []) offset shape short = refl
seconds-keep run (a ∷ b ∷ []) offset shape short = refl
seconds-keep run (a ∷ b ∷ c ∷ []) offset shape short = refl
seconds-keep run (a ∷ b ∷ c ∷ p ∷ []) offset shape short = refl
seconds-keep run (a ∷ b ∷ c ∷ p ∷ d ∷ ds) offset shape short =
    let n : ℕ = length ds in
    let some : (suc (suc (suc (suc (suc n)))) == 0) ≡ false = ne_eqb _ 0 (λ z. absurd (omega arith)) in
    let three : (suc (suc (suc (suc (suc n)))) == 3) ≡ false = ne_eqb _ 3 (λ z. absurd (omega arith)) in
    let count : suc (suc (suc (suc n))) - 3 ≡ suc n = omega arith in
    let all : take (suc (suc (suc (suc n)))) ds ≡ ds = take_all (suc (suc (suc (suc n)))) ds (omega arith) in
    let least : 1 ≤ suc n = omega arith in
    let parts = rw (some, three) at shape in
    let digits : all_are is_digit (d ∷ ds) ≡ true = (and_parts _ _ (and_parts _ _ parts).1).1 in
    rw (count, all) (least, ltb-false 38 (suc n) short, digits-lt (d ∷ ds) digits)

parts-reading : (run seconds offset : List ℕ) → IsReading (time_of_parts run seconds offset)
parts-reading run seconds offset =
    elim (cases_Bool (has_seconds_shape seconds && has_offset_shape offset)) [
      | inl e ↦ elim (cases_Bool (nat_lt 38 (length (drop 4 seconds)))) [
        | inl long ↦ rw (e, long) (inr (inl refl))
        | inr short ↦
            let shape = and_parts (has_seconds_shape seconds) (has_offset_shape offset) e in
            rw (e, short) (time-reading (is_text_offset offset) (text_time run seconds offset) (text_offset-bound offset) (seconds-keep run seconds offset shape.0 short))
      ]
      | inr e ↦ rw e (inl refl)
    ]

-- ---- the whole run

text-reading : (run : List ℕ) → IsReading (timestamp_of_text run)
unfolding timestamp_of_text
text-reading run =
    elim (cases_Bool (looks_like (codes "0000T") run)) [
      | inl y ↦ rw y (date-reading (fields Year (digits_at 0 4 run) 1 1 0 0 0 0) refl (refl, refl, refl, refl, refl, refl, refl))
      | inr y ↦ elim (cases_Bool (looks_like (codes "0000-00T") run)) [
        | inl m ↦ rw (y, m) (date-reading (fields Month (digits_at 0 4 run) (digits_at 5 2 run) 1 0 0 0 0) refl (refl, refl, refl, refl, refl, refl))
        | inr m ↦ elim (cases_Bool (looks_like (codes "0000-00-00") run || looks_like (codes "0000-00-00T") run)) [
          | inl d ↦ rw (y, m, d) (date-reading (fields Day (digits_at 0 4 run) (digits_at 5 2 run) (digits_at 8 2 run) 0 0 0 0) refl (refl, refl, refl, refl, refl))
          | inr d ↦ elim (cases_Bool (looks_like (codes "0000-00-00T00:00") (take 16 run))) [
            | inl t ↦ rw (y, m, d, t) (parts-reading run (cut_at is_offset_mark (drop 16 run)).0 (cut_at is_offset_mark (drop 16 run)).1)
            | inr t ↦ rw (y, m, d, t) (inl refl)
          ]
        ]
      ]
    ]

reading : (r : Result Timestamp Reason) → IsReading r → IfOk r IsTimestamp × IfErr r IsTextRefusal
reading (Ok t) is = (is, tt)
reading (Err e) is = (tt, is)

pub text-valid : (run : List ℕ) (r : Result Timestamp Reason) → r ≡ timestamp_of_text run → IfOk r IsTimestamp × IfErr r IsTextRefusal
text-valid run r e = reading r (rw e (text-reading run))
