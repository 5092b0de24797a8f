-- Reading the text of a timestamp gives the timestamp.
use Rattle.std.proofs.Common.{◌≡◌, ◌≢◌, ◌⊎◌, ℕ, zero, suc, ◌+◌, ◌*◌, ◌/◌, ◌%◌, ◌^◌, ◌<◌, ◌≤◌, ℤ, pos, negsuc, true, false, ◌||◌, ◌==◌, Option, Some, None, Ok, List, [], ◌∷◌, ◌++◌, get_or, map, codes, inl, inr, refl, sym, ap, ◌∙◌, arith, append_assoc, subst, lit<, lit≤}
use Rattle.std.proofs.lemmas.Bool.{cases_Bool, le-leb, ne_eqb, le-ltb}
use Rattle.std.proofs.lemmas.Bool.Decides.{nat_tests}
use Rattle.std.proofs.lemmas.Int.{ints}
use Rattle.std.proofs.lemmas.List.{map-append, append-nil}
use Rattle.std.proofs.Math.Nat.{pow-suc}
use Rattle.jiff_core.specs.Calendar.{days_in_month, is_leap_year}
use Rattle.ion_value.specs.declared.timestamp.Precision.{Precision}
use Rattle.ion_value.specs.declared.timestamp.Precision.TheVariants.{Year, Month, Day, Minute, Second, Fraction}
use Rattle.ion_value.specs.declared.timestamp.Timestamp.{Timestamp}
use Rattle.ion_value.specs.Number.{number}
use Rattle.ion_value.specs.Digits.{is_digit, digit_value, all_are, fixed_digits}
use Rattle.ion_value.specs.Timestamp.{IsTimestamp, IsMoment, IsOffset, fields, is_offset_mark, has_offset_shape, is_text_offset, offset_of_text, date_in_range, time_in_range, timestamp_of_text, day_text, minute_text, second_text, minutes_text, offset_text, text_to, timestamp_text}
use Rattle.ion_value.specs.TimestampRuns.{two_digits, four_digits, unread, with_offset, with_fraction, after_second, after_minute, after_day, after_month, after_year, from_year, offset_of}
use Rattle.ion_value.proofs.Numbers.{number-append_one}
use Rattle.ion_value.proofs.TimestampOctets.{is_moment-true}
use Rattle.ion_value.proofs.FixedDigits.{fixed_digits-two, fixed_digits-four, length-fixed_digits}
use Rattle.ion_value.proofs.LeadingDigits.{all_are-append}
use Rattle.ion_value.proofs.TimestampText.{offset-some, two_digits-some}
use Rattle.ion_value.proofs.TextParts.{fraction-mark, second-offset}
use Rattle.ion_value.proofs.TextStages.{minute-plain, minute-offset, minute-bytes, month-plain, year_month-plain, year-plain, date-read}

-- ---- digits

digit-plus : (d : ℕ) → d < 10 → (is_digit (48 + d) ≡ true) × (digit_value (48 + d) ≡ d)
digit-plus d small = (grind (arith, nat_tests), grind (arith, nat_tests))

two-fixed : (n : ℕ) → n < 100 → Some n ≡ two_digits (48 + n / 10) (48 + n % 10)
two-fixed n small =
    let tens = digit-plus (n / 10) (omega arith) in
    let ones = digit-plus (n % 10) (omega arith) in
    let whole : n / 10 * 10 + (n % 10 * 1 + 0) ≡ n = omega arith in
    rw (tens.0, ones.0, tens.1, ones.1, whole) refl

four-two : (a b c d h o : ℕ) → Some h ≡ two_digits a b → Some o ≡ two_digits c d → Some (h * 100 + o) ≡ four_digits a b c d
four-two a b c d h o e f =
    let first = two_digits-some a b h e in
    let second = two_digits-some c d o f in
    rw (first.0, first.1, second.0, second.1, first.2, second.2) (ap Some (omega arith))

pub fixed_digits-are : (count n : ℕ) → all_are is_digit (fixed_digits count n) ≡ true
unfolding fixed_digits
fixed_digits-are zero n = refl
fixed_digits-are (suc count) n =
    let last = digit-plus (n % 10) (omega arith) in
    rw (all_are-append is_digit (fixed_digits count (n / 10)) ((48 + n % 10) ∷ []), fixed_digits-are count (n / 10), last.0) refl

pub number-fixed_digits : (count n : ℕ) → n < 10 ^ count → number 10 (map digit_value (fixed_digits count n)) ≡ n
unfolding fixed_digits
number-fixed_digits zero n small = omega arith
number-fixed_digits (suc count) n small =
    let prefix : n / 10 < 10 ^ count = omega (arith, pow-suc 10 count) in
    let last = digit-plus (n % 10) (omega arith) in
    rw (
      map-append digit_value (fixed_digits count (n / 10)) ((48 + n % 10) ∷ []),
      number-append_one 10 (map digit_value (fixed_digits count (n / 10))) (digit_value (48 + n % 10)),
      last.1,
      number-fixed_digits count (n / 10) prefix,
    ) (omega arith)

-- ---- one part after the other

-- the two digits of a number
abbrev tens : ℕ → ℕ
tens n = 48 + n / 10

abbrev ones : ℕ → ℕ
ones n = 48 + n % 10

year-written : (t : Timestamp) (n : ℕ) (rest : List ℕ) → n < 10000 → from_year t (fixed_digits 4 n ++ rest) ≡ after_year (record t { year = n }) rest
year-written t n rest small =
    let a : n / 100 < 100 = omega arith in
    let b : n % 100 < 100 = omega arith in
    let whole : n / 100 * 100 + n % 100 ≡ n = omega arith in
    let high : ℕ = n / 100 in
    let low : ℕ = n % 100 in
    let digits = four-two (tens high) (ones high) (tens low) (ones low) high low (two-fixed high a) (two-fixed low b) in
    rw (fixed_digits-four n, fixed_digits-two (n / 100) a, fixed_digits-two (n % 100) b)
    (sym (year-plain t (tens high) (ones high) (tens low) (ones low) n rest (ap Some (sym whole) ∙ digits)))

month-written : (t : Timestamp) (n : ℕ) (rest : List ℕ) → n < 100 → after_year t (45 ∷ (fixed_digits 2 n ++ rest)) ≡ after_month (record t { precision = Month; month = n }) rest
month-written t n rest small = rw (fixed_digits-two n small) (sym (year_month-plain t (tens n) (ones n) n rest (two-fixed n small)))

day-written : (t : Timestamp) (n : ℕ) (rest : List ℕ) → n < 100 → after_month t (45 ∷ (fixed_digits 2 n ++ rest)) ≡ after_day (record t { precision = Day; day = n }) rest
day-written t n rest small = rw (fixed_digits-two n small) (sym (month-plain t (tens n) (ones n) n rest (two-fixed n small)))

second-written : (t : Timestamp) (n : ℕ) (rest : List ℕ) → n < 100 → after_minute t (58 ∷ (fixed_digits 2 n ++ rest)) ≡ after_second (record t { precision = Second; second = n }) rest
second-written t n rest small = rw (fixed_digits-two n small) (sym (minute-plain t (tens n) (ones n) n rest (two-fixed n small)))

fraction-written : (t : Timestamp) (count n b : ℕ) (rest : List ℕ) → 1 ≤ count → count ≤ 38 → n < 10 ^ count → is_offset_mark b ≡ true
    → after_second t (46 ∷ (fixed_digits count n ++ b ∷ rest)) ≡ with_offset (record t { precision = Fraction count; fraction = n }) (b ∷ rest)
fraction-written t count n b rest some few small mark =
    let first = fraction-mark t (fixed_digits count n) b n rest (fixed_digits-are count n) mark (sym (number-fixed_digits count n small)) in
    let none : (count == 0) ≡ false = ne_eqb count 0 (λ e. absurd (omega arith)) in
    first ∙ ap (λ k. with_fraction t k n (b ∷ rest)) (length-fixed_digits count n) ∙ rw (none, le-ltb 38 count few) refl

-- ---- offsets

offset-minutes : (s k : ℕ) → (s ≡ 43) ⊎ (s ≡ 45) → k < 1440
    → (has_offset_shape (s ∷ minutes_text k) ≡ true) × (is_text_offset (s ∷ minutes_text k) ≡ true) × (offset_of_text (s ∷ minutes_text k) ≡ offset_of (s == 45) k)
offset-minutes s k sign small =
    let h : ℕ = k / 60 in
    let m : ℕ = k % 60 in
    let hours : h < 100 = omega arith in
    let minutes : m < 100 = omega arith in
    let whole : 60 * (k / 60) + k % 60 ≡ k = omega arith in
    let bytes : List ℕ = s ∷ tens h ∷ ones h ∷ 58 ∷ tens m ∷ ones m ∷ [] in
    let text : s ∷ minutes_text k ≡ bytes = rw (fixed_digits-two h hours, fixed_digits-two m minutes) refl in
    let told = offset-some bytes h m (lit≤ tt) (lit< tt) sign refl (two-fixed h hours) (two-fixed m minutes) in
    let exists : is_text_offset bytes ≡ true = told.1.exists ∙ rw (le-leb h 23 (omega arith), le-leb m 59 (omega arith)) refl in
    let P : List ℕ → Type 0 = λ xs. (has_offset_shape xs ≡ true) × (is_text_offset xs ≡ true) × (offset_of_text xs ≡ offset_of (s == 45) k) in
    subst P (sym text) (told.0, exists, told.1.value ∙ ap (λ n. offset_of (s == 45) n) whole)

offset-written : (o : Option ℤ) → IsOffset o → (has_offset_shape (offset_text o) ≡ true) × (is_text_offset (offset_text o) ≡ true) × (offset_of_text (offset_text o) ≡ o)
offset-written None h = (refl, refl, refl)
offset-written (Some (pos zero)) h = (refl, refl, refl)
offset-written (Some (pos (suc n))) h = offset-minutes 43 (suc n) (inl refl) (omega (arith, ints))
offset-written (Some (negsuc n)) h =
    let told = offset-minutes 45 (suc n) (inr refl) (omega (arith, ints)) in
    let some : (suc n == 0) ≡ false = ne_eqb (suc n) 0 (λ e. absurd (omega arith)) in
    (told.0, told.1, told.2 ∙ rw some refl)

-- it begins with its mark
record BeginsWithMark (text : List ℕ) : Type 0 where
  first : ℕ
  rest : List ℕ
  is : text ≡ first ∷ rest
  mark : is_offset_mark first ≡ true

offset-mark : (o : Option ℤ) → BeginsWithMark (offset_text o)
offset-mark None = record { first = 45; rest = codes "00:00"; is = refl; mark = refl }
offset-mark (Some (pos zero)) = record { first = 90; rest = []; is = refl; mark = refl }
offset-mark (Some (pos (suc n))) = record { first = 43; rest = minutes_text (suc n); is = refl; mark = refl }
offset-mark (Some (negsuc n)) = record { first = 45; rest = minutes_text (suc n); is = refl; mark = refl }

mark-other : (text : List ℕ) (b : ℕ) → BeginsWithMark text → is_offset_mark b ≡ false → get_or text 0 0 ≢ b
mark-other text b begins other same =
    let first : begins.first ≡ b = sym (ap (λ xs. get_or xs 0 0) begins.is) ∙ same in
    let mark = rw first at begins.mark in
    cc

-- ---- what is in range

date-ok : (t : Timestamp) → IsTimestamp t → date_in_range t ≡ Ok t
date-ok t h = rw (is_moment-true t h.moment) refl

time-ok : (t : Timestamp) → IsTimestamp t → time_in_range true t ≡ Ok t
time-ok t h = rw (is_moment-true t h.moment, h.utc.1) refl

offset-read : (t u : Timestamp) → IsTimestamp u → u ≡ record t { offset = u.offset } → with_offset t (offset_text u.offset) ≡ Ok u
offset-read t u h same =
    let o = offset-written u.offset h.offset in
    rw (o.0, o.1, o.2) (ap (λ (x : Timestamp). time_in_range true x) (sym same) ∙ time-ok u h)

-- a timestamp by its fields
same_fields : (t : Timestamp) (p : Precision) (month day hour minute second fraction : ℕ) (offset : Option ℤ) → t.precision ≡ p → t.month ≡ month → t.day ≡ day → t.hour ≡ hour → t.minute ≡ minute
    → t.second ≡ second → t.fraction ≡ fraction → t.offset ≡ offset
    → t ≡ record { precision = p; year = t.year; month = month; day = day; hour = hour; minute = minute; second = second; fraction = fraction; offset = offset }
same_fields t p month day hour minute second fraction offset a b c d e f g h =
    λ i. record { precision = a i; year = t.year; month = b i; day = c i; hour = d i; minute = e i; second = f i; fraction = g i; offset = h i }

-- ---- the whole text

month-small : (t : Timestamp) → IsMoment t → t.month ≤ 12
month-small t m = m.date.1.1

days-few : (y : ℤ) (m : ℕ) → days_in_month y m ≤ 31
days-few y m =
    elim (cases_Bool (m == 2)) [
      | inl e ↦ elim (cases_Bool (is_leap_year y)) [ inl l ↦ rw (e, l) (lit≤ tt) | inr l ↦ rw (e, l) (lit≤ tt) ]
      | inr e ↦ elim (cases_Bool ((m == 4) || (m == 6) || (m == 9) || (m == 11))) [ inl l ↦ rw (e, l) (lit≤ tt) | inr l ↦ rw (e, l) (lit≤ tt) ]
    ]

day-small : (t : Timestamp) → IsMoment t → t.day ≤ 31
day-small t m = omega (arith, m.date.2.1, days-few (pos t.year) t.month)

year-text : (t : Timestamp) (rest : List ℕ) → IsMoment t → from_year unread (fixed_digits 4 t.year ++ rest) ≡ after_year (fields Year t.year 1 1 0 0 0 0) rest
year-text t rest m = year-written unread t.year rest (omega (arith, m.year.1))

month-text : (t : Timestamp) (rest : List ℕ) → IsMoment t
    → from_year unread (fixed_digits 4 t.year ++ (45 ∷ (fixed_digits 2 t.month ++ rest))) ≡ after_month (fields Month t.year t.month 1 0 0 0 0) rest
month-text t rest m = year-text t (45 ∷ (fixed_digits 2 t.month ++ rest)) m ∙ month-written (fields Year t.year 1 1 0 0 0 0) t.month rest (omega (arith, month-small t m))

day-text : (t : Timestamp) (rest : List ℕ) → IsMoment t → from_year unread (day_text t ++ rest) ≡ after_day (fields Day t.year t.month t.day 0 0 0 0) rest
day-text t rest m =
    simp append_assoc (
    month-text t (45 ∷ (fixed_digits 2 t.day ++ rest)) m
    ∙ day-written (fields Month t.year t.month 1 0 0 0 0) t.day rest (omega (arith, day-small t m))
    )

minute-text : (t : Timestamp) (rest : List ℕ) → IsMoment t → timestamp_of_text (minute_text t ++ rest) ≡ after_minute (fields Minute t.year t.month t.day t.hour t.minute 0 0) rest
minute-text t rest m =
    let hour = m.hour in
    let minute = m.minute in
    let high : ℕ = t.year / 100 in
    let low : ℕ = t.year % 100 in
    let few_high : high < 100 = omega (arith, m.year.1) in
    let few_low : low < 100 = omega arith in
    let few_months : t.month < 100 = omega (arith, month-small t m) in
    let few_days : t.day < 100 = omega (arith, day-small t m) in
    let few_hours : t.hour < 100 = omega arith in
    let few_minutes : t.minute < 100 = omega arith in
    let year : t.year / 100 * 100 + t.year % 100 ≡ t.year = omega arith in
    let digits = four-two (tens high) (ones high) (tens low) (ones low) high low (two-fixed high few_high) (two-fixed low few_low) in
    let text : minute_text t ++ rest
    ≡ tens high ∷ ones high ∷ tens low ∷ ones low ∷ 45 ∷ tens t.month ∷ ones t.month ∷ 45 ∷ tens t.day ∷ ones t.day
    ∷ 84 ∷ tens t.hour ∷ ones t.hour ∷ 58 ∷ tens t.minute ∷ ones t.minute ∷ rest =
    rw (
      fixed_digits-four t.year,
      fixed_digits-two (t.year / 100) few_high,
      fixed_digits-two (t.year % 100) few_low,
      fixed_digits-two t.month few_months,
      fixed_digits-two t.day few_days,
      fixed_digits-two t.hour few_hours,
      fixed_digits-two t.minute few_minutes,
    ) refl in
    ap (λ xs. timestamp_of_text xs) text
    ∙ minute-bytes (tens high) (ones high) (tens low) (ones low) (tens t.month) (ones t.month) (tens t.day) (ones t.day) (tens t.hour) (ones t.hour) (tens t.minute) (ones t.minute)
    t.year t.month t.day t.hour t.minute rest (ap Some (sym year) ∙ digits) (two-fixed t.month few_months) (two-fixed t.day few_days) (two-fixed t.hour few_hours) (two-fixed t.minute few_minutes)

second-text : (t : Timestamp) (rest : List ℕ) → IsMoment t → timestamp_of_text (second_text t ++ rest) ≡ after_second (fields Second t.year t.month t.day t.hour t.minute t.second 0) rest
second-text t rest m =
    let second = m.second in
    let whole : second_text t ++ rest ≡ minute_text t ++ (58 ∷ (fixed_digits 2 t.second ++ rest)) = append_assoc (minute_text t) (58 ∷ fixed_digits 2 t.second) rest in
    ap (λ xs. timestamp_of_text xs) whole
    ∙ minute-text t (58 ∷ (fixed_digits 2 t.second ++ rest)) m
    ∙ second-written (fields Minute t.year t.month t.day t.hour t.minute 0 0) t.second rest (omega arith)

-- what is written to a precision is read
to-read : (p : Precision) (t : Timestamp) → IsTimestamp t → t.precision ≡ p → timestamp_of_text (text_to p t) ≡ Ok t
to-read Year t h e =
    let k = rw e at h.precision in
    let same = same_fields t Year 1 1 0 0 0 0 None e k.0 k.1 k.2 k.3 k.4 k.5 k.6 in
    date-read (text_to Year t) t (year-text t (84 ∷ []) h.moment ∙ ap date_in_range (sym same) ∙ date-ok t h)
to-read Month t h e =
    let k = rw e at h.precision in
    let same = same_fields t Month t.month 1 0 0 0 0 None e refl k.0 k.1 k.2 k.3 k.4 k.5 in
    date-read (text_to Month t) t (month-text t (84 ∷ []) h.moment ∙ ap date_in_range (sym same) ∙ date-ok t h)
to-read Day t h e =
    let k = rw e at h.precision in
    let same = same_fields t Day t.month t.day 0 0 0 0 None e refl refl k.0 k.1 k.2 k.3 k.4 in
    date-read (text_to Day t) t (ap (λ xs. from_year unread xs) (sym (append-nil (day_text t))) ∙ day-text t [] h.moment ∙ ap date_in_range (sym same) ∙ date-ok t h)
to-read Minute t h e =
    let k = rw e at h.precision in
    let same = same_fields t Minute t.month t.day t.hour t.minute 0 0 t.offset e refl refl refl refl k.0 k.1 refl in
    let minute : Timestamp = fields Minute t.year t.month t.day t.hour t.minute 0 0 in
    let other = mark-other (offset_text t.offset) 58 (offset-mark t.offset) refl in
    minute-text t (offset_text t.offset) h.moment ∙ sym (minute-offset minute (offset_text t.offset) (inr other)) ∙ offset-read minute t h same
to-read Second t h e =
    let k = rw e at h.precision in
    let same = same_fields t Second t.month t.day t.hour t.minute t.second 0 t.offset e refl refl refl refl refl k refl in
    let second : Timestamp = fields Second t.year t.month t.day t.hour t.minute t.second 0 in
    let other = mark-other (offset_text t.offset) 46 (offset-mark t.offset) refl in
    second-text t (offset_text t.offset) h.moment ∙ sym (second-offset second (offset_text t.offset) (inr other)) ∙ offset-read second t h same
to-read (Fraction n) t h e =
    let k = rw e at h.precision in
    let same = same_fields t (Fraction n) t.month t.day t.hour t.minute t.second t.fraction t.offset e refl refl refl refl refl refl refl in
    let second : Timestamp = fields Second t.year t.month t.day t.hour t.minute t.second 0 in
    let whole : Timestamp = fields (Fraction n) t.year t.month t.day t.hour t.minute t.second t.fraction in
    let begins = offset-mark t.offset in
    second-text t (46 ∷ (fixed_digits n t.fraction ++ offset_text t.offset)) h.moment
    ∙ ap (λ xs. after_second second (46 ∷ (fixed_digits n t.fraction ++ xs))) begins.is
    ∙ fraction-written second n t.fraction begins.first begins.rest k.0 k.1 k.2 begins.mark
    ∙ ap (λ xs. with_offset whole xs) (sym begins.is)
    ∙ offset-read whole t h same

pub text-read : (t : Timestamp) → IsTimestamp t → timestamp_of_text (timestamp_text t) ≡ Ok t
unfolding timestamp_text
text-read t h = to-read t.precision t h refl
