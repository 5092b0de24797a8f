-- What is read after the year, the month, the day and the minute of a timestamp in text.
use Rattle.std.proofs.Common.{◌≡◌, ◌≢◌, ◌⊎◌, ℕ, zero, suc, ◌+◌, ◌-◌, ◌*◌, map, ◌<◌, ◌≤◌, Bool, true, false, ◌&&◌, ◌||◌, ◌==◌, if◌then◌else◌, Some, None, Result, Ok, Err, List, [], ◌∷◌, length, take, drop, get_or, codes, inl, inr, refl, sym, ap, ◌∙◌, arith}
use Rattle.std.proofs.lemmas.Bool.{cases_Bool, ne_eqb, eqb-true, and_parts}
use Rattle.std.proofs.lemmas.List.{take_all}
use Rattle.std.proofs.Math.Seq.{drop-cons}
use Rattle.std.proofs.Math.Bool.{and-false}
use Rattle.ion_meter.specs.declared.fault.Reason.{Reason}
use Rattle.ion_meter.specs.declared.fault.Reason.TheVariants.{BadToken}
use Rattle.ion_value.specs.declared.timestamp.Precision.TheVariants.{Year, Month, Day, Minute, Second}
use Rattle.ion_value.specs.declared.timestamp.Timestamp.{Timestamp}
use Rattle.ion_value.specs.Number.{number}
use Rattle.ion_value.specs.Digits.{is_digit, digit_value, all_are, cut_at}
use Rattle.ion_value.specs.Timestamp.{fields, looks_like, digits_at, is_offset_mark, has_seconds_shape, date_in_range, time_of_parts, timestamp_of_text}
use Rattle.ion_value.specs.TimestampRuns.{two_digits, four_digits, unread, with_offset, with_point, with_seconds, begins_time, to_the_minute, after_second, after_minute, after_day, after_month, after_year, from_year}
use Rattle.ion_value.proofs.TextParts.{digit-no_mark, shape-mark}
use Rattle.ion_value.proofs.TimestampText.{two_digits-some, two_digits-none}

-- ---- the first bytes of a list by their places

abbrev pub reads : ℕ → ℕ → List ℕ → List ℕ
reads zero i bytes = drop i bytes
reads (suc n) i bytes = get_or bytes i 0 ∷ reads n (suc i) bytes

reads-from : (n i : ℕ) (bytes : List ℕ) → i + n ≤ length bytes → drop i bytes ≡ reads n i bytes
reads-from zero i bytes within = refl
reads-from (suc n) i bytes within =
    let here : i < length bytes = omega arith in
    drop-cons bytes i 0 here ∙ ap (λ xs. get_or bytes i 0 ∷ xs) (reads-from n (suc i) bytes (omega arith))

pub reads-is : (n : ℕ) (bytes : List ℕ) → n ≤ length bytes → bytes ≡ reads n 0 bytes
reads-is n bytes within = reads-from n 0 bytes (omega arith)

-- ---- what stands after the minute

length-cut : (test : ℕ → Bool) (bytes : List ℕ) → length (cut_at test bytes).0 ≤ length bytes
unfolding cut_at
length-cut test [] = omega arith
length-cut test (b ∷ bytes) = elim (cases_Bool (test b)) [ inl e ↦ rw e (omega arith) | inr e ↦ rw e (omega (arith, length-cut test bytes)) ]

two_places : (bytes : List ℕ) → length bytes < 2 → looks_like (codes "00") (take 2 bytes) ≡ false
two_places [] few = refl
two_places (b ∷ []) few = and-false (is_digit b)
two_places (b ∷ c ∷ bytes) few = absurd (omega arith)

pub minute-offset : (t : Timestamp) (bytes : List ℕ) → (length bytes < 3) ⊎ (get_or bytes 0 0 ≢ 58) → with_offset t bytes ≡ after_minute t bytes
unfolding cut_at
minute-offset t [] _ = refl
minute-offset t (b ∷ bytes) (inl few) =
    let short : length (cut_at is_offset_mark bytes).0 < 2 = omega (arith, length-cut is_offset_mark bytes) in
    elim (cases_Bool (is_offset_mark b)) [
      | inl e ↦ rw e refl
      | inr e ↦ rw (e, shape-mark b bytes e, two_places (cut_at is_offset_mark bytes).0 short, and-false) refl
    ]
minute-offset t (b ∷ bytes) (inr no_colon) =
    elim (cases_Bool (is_offset_mark b)) [
      | inl e ↦ rw e refl
      | inr e ↦ rw (e, shape-mark b bytes e, ne_eqb 58 b (λ p. no_colon (sym p))) refl
    ]

pub minute-plain : (t : Timestamp) (s1 s2 n : ℕ) (rest : List ℕ) → Some n ≡ two_digits s1 s2 → after_second (record t { precision = Second; second = n }) rest ≡ after_minute t (58 ∷ s1 ∷ s2 ∷ rest)
unfolding cut_at
minute-plain t s1 s2 n rest e =
    let digits = two_digits-some s1 s2 n e in
    rw (digit-no_mark s1 digits.0, digit-no_mark s2 digits.1, digits.0, digits.1, digits.2) refl

minute-bad_plain : (t : Timestamp) (s1 s2 : ℕ) (rest : List ℕ) → None ≡ two_digits s1 s2 → after_minute t (58 ∷ s1 ∷ s2 ∷ rest) ≡ Err BadToken
unfolding cut_at
minute-bad_plain t s1 s2 rest e =
    elim (cases_Bool (is_digit s1)) [
      | inl p ↦
          let q : is_digit s2 ≡ false = rw p at (two_digits-none s1 s2 e) in
          elim (cases_Bool (is_offset_mark s2)) [
            | inl m ↦ rw (digit-no_mark s1 p, m, p) refl
            | inr m ↦ rw (digit-no_mark s1 p, m, p, q) refl
          ]
      | inr p ↦ elim (cases_Bool (is_offset_mark s1)) [ inl m ↦ rw m refl | inr m ↦ rw (m, p) refl ]
    ]

-- the same of bytes by their places
minute-reads : (bytes : List ℕ) → 3 ≤ length bytes → get_or bytes 0 0 ≡ 58 → bytes ≡ 58 ∷ reads 2 1 bytes
minute-reads bytes within colon = reads-is 3 bytes within ∙ ap (λ b. b ∷ reads 2 1 bytes) colon

pub minute-second : (t : Timestamp) (bytes : List ℕ) (n : ℕ) → 3 ≤ length bytes → get_or bytes 0 0 ≡ 58 → Some n ≡ two_digits (get_or bytes 1 0) (get_or bytes 2 0)
    → after_second (record t { precision = Second; second = n }) (drop 3 bytes) ≡ after_minute t bytes
minute-second t bytes n within colon e =
    minute-plain t (get_or bytes 1 0) (get_or bytes 2 0) n (drop 3 bytes) e ∙ sym (ap (λ xs. after_minute t xs) (minute-reads bytes within colon))

pub minute-bad : (t : Timestamp) (bytes : List ℕ) → 3 ≤ length bytes → get_or bytes 0 0 ≡ 58 → None ≡ two_digits (get_or bytes 1 0) (get_or bytes 2 0)
    → Err BadToken ≡ after_minute t bytes
minute-bad t bytes within colon e =
    sym (ap (λ xs. after_minute t xs) (minute-reads bytes within colon) ∙ minute-bad_plain t (get_or bytes 1 0) (get_or bytes 2 0) (drop 3 bytes) e)

-- ---- what stands after the month and the year

pub month-plain : (t : Timestamp) (d1 d2 n : ℕ) (rest : List ℕ) → Some n ≡ two_digits d1 d2 → after_day (record t { precision = Day; day = n }) rest ≡ after_month t (45 ∷ d1 ∷ d2 ∷ rest)
month-plain t d1 d2 n rest e =
    let digits = two_digits-some d1 d2 n e in
    rw (digits.0, digits.1, digits.2) refl

pub year_month-plain : (t : Timestamp) (m1 m2 n : ℕ) (rest : List ℕ) → Some n ≡ two_digits m1 m2 → after_month (record t { precision = Month; month = n }) rest ≡ after_year t (45 ∷ m1 ∷ m2 ∷ rest)
year_month-plain t m1 m2 n rest e =
    let digits = two_digits-some m1 m2 n e in
    rw (digits.0, digits.1, digits.2) refl

-- ---- the tests of the definition, one part after the other

-- what the definition tests after the month and after the year
abbrev flat_month : Timestamp → List ℕ → Result Timestamp Reason
flat_month t bytes =
    if looks_like (codes "T") bytes then date_in_range t
    else (if looks_like (codes "-00") bytes || looks_like (codes "-00T") bytes then date_in_range (record t { precision = Day; day = digits_at 1 2 bytes })
    else Err BadToken)

abbrev flat_year : Timestamp → List ℕ → Result Timestamp Reason
flat_year t bytes =
    if looks_like (codes "T") bytes then date_in_range t
    else (if looks_like (codes "-00T") bytes then date_in_range (record t { precision = Month; month = digits_at 1 2 bytes })
    else (if looks_like (codes "-00-00") bytes || looks_like (codes "-00-00T") bytes
    then date_in_range (record t { precision = Day; month = digits_at 1 2 bytes; day = digits_at 4 2 bytes })
    else Err BadToken))

month-dash : (t : Timestamp) (bytes : List ℕ) → after_month t (45 ∷ bytes) ≡ flat_month t (45 ∷ bytes)
month-dash t [] = refl
month-dash t (d1 ∷ []) = simp and-false
month-dash t (d1 ∷ d2 ∷ bytes) =
    elim (cases_Bool (is_digit d1)) [
      | inl p ↦ elim (cases_Bool (is_digit d2)) [ inl q ↦ rw (p, q) refl | inr q ↦ rw (p, q) refl ]
      | inr p ↦ rw p refl
    ]

month-flat : (t : Timestamp) (bytes : List ℕ) → after_month t bytes ≡ flat_month t bytes
month-flat t [] = refl
month-flat t (b ∷ bytes) =
    elim (cases_Bool (45 == b)) [
      | inl dash ↦ rw (sym (eqb-true 45 b dash)) (month-dash t bytes)
      | inr other ↦ rw other refl
    ]

year-dash : (t : Timestamp) (bytes : List ℕ) → after_year t (45 ∷ bytes) ≡ flat_year t (45 ∷ bytes)
year-dash t [] = refl
year-dash t (m1 ∷ []) = simp and-false
year-dash t (m1 ∷ m2 ∷ bytes) =
    elim (cases_Bool (is_digit m1)) [
      | inl p ↦ elim (cases_Bool (is_digit m2)) [
        | inl q ↦ rw (p, q) (month-flat (record t { precision = Month; month = digits_at 0 2 (m1 ∷ m2 ∷ []) }) bytes)
        | inr q ↦ rw (p, q) refl
      ]
      | inr p ↦ rw p refl
    ]

year-flat : (t : Timestamp) (bytes : List ℕ) → after_year t bytes ≡ flat_year t bytes
year-flat t [] = refl
year-flat t (b ∷ bytes) =
    elim (cases_Bool (45 == b)) [
      | inl dash ↦ rw (sym (eqb-true 45 b dash)) (year-dash t bytes)
      | inr other ↦ rw other refl
    ]

-- ---- times

-- seconds are at least three bytes
shape-short : (b : ℕ) (seconds : List ℕ) → looks_like (codes ":00") (take 3 (b ∷ seconds)) ≡ false → has_seconds_shape (b ∷ seconds) ≡ false
shape-short b seconds e =
    let some : (suc (length seconds) == 0) ≡ false = ne_eqb (suc (length seconds)) 0 (λ z. absurd (omega arith)) in
    rw (some, e) refl

-- with digits after a point
time-digits : (run : List ℕ) (b s1 s2 p : ℕ) (digits offset : List ℕ) → looks_like (codes ":00") (b ∷ s1 ∷ s2 ∷ []) ≡ true
    → (looks_like (codes ".0") (take 2 (p ∷ digits)) && all_are is_digit digits) ≡ true
    → with_point (record (to_the_minute unread run) { precision = Second; second = digits_at 0 2 (s1 ∷ s2 ∷ []) }) (p ∷ digits) offset ≡ time_of_parts run (b ∷ s1 ∷ s2 ∷ p ∷ digits) offset
time-digits run b s1 s2 p [] offset e good = let none = and-false (46 == p) in let bad = rw none at good in absurd (cc)
time-digits run b s1 s2 p (d ∷ digits) offset e good =
    let n : ℕ = length digits in
    let some : (suc (suc (suc (suc (suc n)))) == 0) ≡ false = ne_eqb _ 0 (λ z. absurd (omega arith)) in
    let three : (suc (suc (suc (suc (suc n)))) == 3) ≡ false = ne_eqb _ 3 (λ z. absurd (omega arith)) in
    let count : suc (suc (suc (suc n))) - 3 ≡ suc n = omega arith in
    let all : take (suc (suc (suc (suc n)))) digits ≡ digits = take_all (suc (suc (suc (suc n)))) digits (omega arith) in
    rw (some, three, e, good, count, all) refl

time-point : (run : List ℕ) (b s1 s2 : ℕ) (tail offset : List ℕ) → looks_like (codes ":00") (b ∷ s1 ∷ s2 ∷ []) ≡ true
    → with_point (record (to_the_minute unread run) { precision = Second; second = digits_at 0 2 (s1 ∷ s2 ∷ []) }) tail offset ≡ time_of_parts run (b ∷ s1 ∷ s2 ∷ tail) offset
time-point run b s1 s2 [] offset e = rw e refl
time-point run b s1 s2 (p ∷ digits) offset e =
    let n : ℕ = length digits in
    let some : (suc (suc (suc (suc n))) == 0) ≡ false = ne_eqb _ 0 (λ z. absurd (omega arith)) in
    let three : (suc (suc (suc (suc n))) == 3) ≡ false = ne_eqb _ 3 (λ z. absurd (omega arith)) in
    elim (cases_Bool (looks_like (codes ".0") (take 2 (p ∷ digits)) && all_are is_digit digits)) [
      | inl good ↦ time-digits run b s1 s2 p digits offset e good
      | inr bad ↦ rw (some, three, e, bad) refl
    ]

time-parts : (run seconds offset : List ℕ) → with_seconds (to_the_minute unread run) seconds offset ≡ time_of_parts run seconds offset
time-parts run [] offset = refl
time-parts run (b ∷ []) offset = simp and-false
time-parts run (b ∷ s1 ∷ []) offset = simp and-false
time-parts run (b ∷ s1 ∷ s2 ∷ tail) offset =
    elim (cases_Bool (looks_like (codes ":00") (b ∷ s1 ∷ s2 ∷ []))) [
      | inl e ↦
          let here : with_seconds (to_the_minute unread run) (b ∷ s1 ∷ s2 ∷ tail) offset
          ≡ with_point (record (to_the_minute unread run) { precision = Second; second = digits_at 0 2 (s1 ∷ s2 ∷ []) }) tail offset = rw e refl in
          here ∙ time-point run b s1 s2 tail offset e
      | inr e ↦ rw (shape-short b (s1 ∷ s2 ∷ tail) e, e) refl
    ]

-- ---- the whole run

-- the tests of the definition, where what stands after a minute is told
abbrev tests : List ℕ → Result Timestamp Reason → Result Timestamp Reason
tests run time =
    if looks_like (codes "0000T") run then date_in_range (fields Year (digits_at 0 4 run) 1 1 0 0 0 0)
    else (if looks_like (codes "0000-00T") run then date_in_range (fields Month (digits_at 0 4 run) (digits_at 5 2 run) 1 0 0 0 0)
    else (if looks_like (codes "0000-00-00") run || looks_like (codes "0000-00-00T") run
    then date_in_range (fields Day (digits_at 0 4 run) (digits_at 5 2 run) (digits_at 8 2 run) 0 0 0 0)
    else time))

-- a date
date-year : (a b c d : ℕ) (rest : List ℕ) → from_year unread (a ∷ b ∷ c ∷ d ∷ rest) ≡ tests (a ∷ b ∷ c ∷ d ∷ rest) (Err BadToken)
date-year a b c d rest =
    let run : List ℕ = a ∷ b ∷ c ∷ d ∷ rest in
    let year : Timestamp = fields Year (digits_at 0 4 run) 1 1 0 0 0 0 in
    elim (cases_Bool (is_digit a)) [
      | inl p ↦ elim (cases_Bool (is_digit b)) [
        | inl q ↦ elim (cases_Bool (is_digit c)) [
          | inl r ↦ elim (cases_Bool (is_digit d)) [
            | inl s ↦
                let first : from_year unread run ≡ after_year year rest = rw (p, q, r, s) refl in
                let flat : flat_year year rest ≡ tests run (Err BadToken) = rw (p, q, r, s) refl in
                first ∙ year-flat year rest ∙ flat
            | inr s ↦ rw (p, q, r, s) refl
          ]
          | inr r ↦ rw (p, q, r) refl
        ]
        | inr q ↦ rw (p, q) refl
      ]
      | inr p ↦ rw p refl
    ]

date-tests : (run : List ℕ) → from_year unread run ≡ tests run (Err BadToken)
date-tests [] = refl
date-tests (a ∷ []) = simp and-false
date-tests (a ∷ b ∷ []) = simp and-false
date-tests (a ∷ b ∷ c ∷ []) = simp and-false
date-tests (a ∷ b ∷ c ∷ d ∷ rest) = date-year a b c d rest

-- where no time begins
pub date-text : (run : List ℕ) → begins_time run ≡ false → from_year unread run ≡ timestamp_of_text run
unfolding timestamp_of_text
date-text run other = date-tests run ∙ rw other refl

tests-read : (run : List ℕ) (time : Result Timestamp Reason) (t : Timestamp) → tests run (Err BadToken) ≡ Ok t → tests run time ≡ Ok t
tests-read run time t e =
    elim (cases_Bool (looks_like (codes "0000T") run)) [
      | inl p ↦ rw p (rw p at e)
      | inr p ↦ elim (cases_Bool (looks_like (codes "0000-00T") run)) [
        | inl q ↦ rw (p, q) (rw (p, q) at e)
        | inr q ↦ elim (cases_Bool (looks_like (codes "0000-00-00") run || looks_like (codes "0000-00-00T") run)) [
          | inl r ↦ rw (p, q, r) (rw (p, q, r) at e)
          | inr r ↦ let bad = rw (p, q, r) at e in absurd (cc)
        ]
      ]
    ]

-- and where a date is read
pub date-read : (run : List ℕ) (t : Timestamp) → from_year unread run ≡ Ok t → timestamp_of_text run ≡ Ok t
unfolding timestamp_of_text
date-read run t e =
    let cut = cut_at is_offset_mark (drop 16 run) in
    tests-read run (if begins_time run then time_of_parts run cut.0 cut.1 else Err BadToken) t (sym (date-tests run) ∙ e)

-- ---- a run that begins with a time

shape-within : (cs run : List ℕ) → looks_like cs (take (length cs) run) ≡ true → length cs ≤ length run
shape-within [] run e = omega arith
shape-within (c ∷ cs) [] e = absurd (cc)
shape-within (c ∷ cs) (b ∷ run) e = omega (arith, shape-within cs run (and_parts (if c == 48 then is_digit b else c == b) (looks_like cs (take (length cs) run)) e).1)

-- more bytes than a shape has do not look like it
looks-long : (cs bytes : List ℕ) → length cs < length bytes → looks_like cs bytes ≡ false
looks-long [] [] long = absurd (omega arith)
looks-long [] (b ∷ bytes) long = refl
looks-long (c ∷ cs) [] long = absurd (omega arith)
looks-long (c ∷ cs) (b ∷ bytes) long = rw (looks-long cs bytes (omega arith)) (and-false (if c == 48 then is_digit b else c == b))

pub minute-within : (run : List ℕ) → begins_time run ≡ true → 16 ≤ length run
minute-within run e = shape-within (codes "0000-00-00T00:00") run e

pub minute-short : (run : List ℕ) → length run < 16 → begins_time run ≡ false
minute-short run short = elim (cases_Bool (begins_time run)) [ inl e ↦ absurd (omega (arith, minute-within run e)) | inr e ↦ e ]

pub minute-text : (run : List ℕ) → begins_time run ≡ true → after_minute (to_the_minute unread run) (drop 16 run) ≡ timestamp_of_text run
unfolding timestamp_of_text
minute-text run e =
    let within = minute-within run e in
    let cut = cut_at is_offset_mark (drop 16 run) in
    let year = looks-long (codes "0000T") run (omega arith) in
    let month = looks-long (codes "0000-00T") run (omega arith) in
    let day = looks-long (codes "0000-00-00") run (omega arith) in
    let day_t = looks-long (codes "0000-00-00T") run (omega arith) in
    time-parts run cut.0 cut.1 ∙ sym (rw (year, month, day, day_t, e) refl)

-- its digits
shape-at : (cs run : List ℕ) (k : ℕ) → looks_like cs (take (length cs) run) ≡ true → k < length cs
    → (if get_or cs k 0 == 48 then is_digit (get_or run k 0) else get_or cs k 0 == get_or run k 0) ≡ true
shape-at [] run k e lt = absurd (omega arith)
shape-at (c ∷ cs) [] k e lt = absurd (cc)
shape-at (c ∷ cs) (b ∷ run) zero e lt = (and_parts _ _ e).0
shape-at (c ∷ cs) (b ∷ run) (suc k) e lt = shape-at cs run k (and_parts _ _ e).1 (omega arith)

-- a number is that of two digits from a place on, if these are digits
abbrev pub IsOfDigits : List ℕ → ℕ → ℕ → Type 0
IsOfDigits run i n =
    is_digit (get_or run i 0) ≡ true → is_digit (get_or run (suc i) 0) ≡ true → n ≡ digits_at 0 2 (get_or run i 0 ∷ get_or run (suc i) 0 ∷ [])

of_digits-at : (run : List ℕ) (i n : ℕ) → begins_time run ≡ true → i < 15 → is_digit (get_or run i 0) ≡ true → is_digit (get_or run (suc i) 0) ≡ true
    → IsOfDigits run i n → n ≡ digits_at i 2 run
of_digits-at run i n e lt tens ones is =
    let within = minute-within run e in
    is tens ones ∙ sym (ap (λ xs. number 10 (map digit_value (take 2 xs))) (reads-from 2 i run (omega arith)))

pub to_the_minute-is : (t : Timestamp) (run : List ℕ) (y z m d h i : ℕ) → begins_time run ≡ true
    → IsOfDigits run 0 y → IsOfDigits run 2 z → IsOfDigits run 5 m → IsOfDigits run 8 d → IsOfDigits run 11 h → IsOfDigits run 14 i
    → record t { precision = Minute; year = y * 100 + z; month = m; day = d; hour = h; minute = i } ≡ to_the_minute t run
to_the_minute-is t run y z m d h i e is_y is_z is_m is_d is_h is_i =
    let within = minute-within run e in
    let at = λ (k : ℕ) (lt : k < 16). shape-at (codes "0000-00-00T00:00") run k e lt in
    let first = is_y (at 0 (omega arith)) (at 1 (omega arith)) in
    let second = is_z (at 2 (omega arith)) (at 3 (omega arith)) in
    let four = ap (λ xs. number 10 (map digit_value (take 4 xs))) (reads-from 4 0 run (omega arith)) in
    let year : y * 100 + z ≡ digits_at 0 4 run = omega (arith, first, second, four) in
    let month = of_digits-at run 5 m e (omega arith) (at 5 (omega arith)) (at 6 (omega arith)) is_m in
    let day = of_digits-at run 8 d e (omega arith) (at 8 (omega arith)) (at 9 (omega arith)) is_d in
    let hour = of_digits-at run 11 h e (omega arith) (at 11 (omega arith)) (at 12 (omega arith)) is_h in
    let minute = of_digits-at run 14 i e (omega arith) (at 14 (omega arith)) (at 15 (omega arith)) is_i in
    rw (year, month, day, hour, minute) refl

-- ---- the year

four_digits-some : (a b c d n : ℕ) → Some n ≡ four_digits a b c d
    → (is_digit a ≡ true) × (is_digit b ≡ true) × (is_digit c ≡ true) × (is_digit d ≡ true) × (n ≡ digits_at 0 4 (a ∷ b ∷ c ∷ d ∷ []))
four_digits-some a b c d n e =
    elim (cases_Bool (is_digit a && is_digit b && is_digit c && is_digit d)) [
      | inl p ↦
          let f = rw p at e in
          let first = and_parts _ _ p in
          let second = and_parts _ _ first.0 in
          let third = and_parts _ _ second.0 in
          (third.0, third.1, second.1, first.1, cc)
      | inr p ↦ let f = rw p at e in absurd (cc)
    ]

-- a time by its digits
pub minute-bytes : (a b c d m1 m2 d1 d2 h1 h2 i1 i2 y m day h i : ℕ) (rest : List ℕ) → Some y ≡ four_digits a b c d → Some m ≡ two_digits m1 m2 → Some day ≡ two_digits d1 d2
    → Some h ≡ two_digits h1 h2 → Some i ≡ two_digits i1 i2
    → timestamp_of_text (a ∷ b ∷ c ∷ d ∷ 45 ∷ m1 ∷ m2 ∷ 45 ∷ d1 ∷ d2 ∷ 84 ∷ h1 ∷ h2 ∷ 58 ∷ i1 ∷ i2 ∷ rest) ≡ after_minute (fields Minute y m day h i 0 0) rest
minute-bytes a b c d m1 m2 d1 d2 h1 h2 i1 i2 y m day h i rest e_y e_m e_d e_h e_i =
    let run : List ℕ = a ∷ b ∷ c ∷ d ∷ 45 ∷ m1 ∷ m2 ∷ 45 ∷ d1 ∷ d2 ∷ 84 ∷ h1 ∷ h2 ∷ 58 ∷ i1 ∷ i2 ∷ rest in
    let years = four_digits-some a b c d y e_y in
    let months = two_digits-some m1 m2 m e_m in
    let days = two_digits-some d1 d2 day e_d in
    let hours = two_digits-some h1 h2 h e_h in
    let minutes = two_digits-some i1 i2 i e_i in
    let begins : begins_time run ≡ true =
    rw (years.0, years.1, years.2, years.3, months.0, months.1, days.0, days.1, hours.0, hours.1, minutes.0, minutes.1) refl in
    sym (minute-text run begins) ∙ rw (years.4, months.2, days.2, hours.2, minutes.2) refl

pub year-plain : (t : Timestamp) (a b c d n : ℕ) (rest : List ℕ) → Some n ≡ four_digits a b c d → after_year (record t { year = n }) rest ≡ from_year t (a ∷ b ∷ c ∷ d ∷ rest)
year-plain t a b c d n rest e =
    let digits = four_digits-some a b c d n e in
    rw (digits.0, digits.1, digits.2, digits.3, digits.4) refl

year-bad_plain : (t : Timestamp) (a b c d : ℕ) (rest : List ℕ) → None ≡ four_digits a b c d → from_year t (a ∷ b ∷ c ∷ d ∷ rest) ≡ Err BadToken
year-bad_plain t a b c d rest e =
    elim (cases_Bool (is_digit a)) [
      | inl p ↦ elim (cases_Bool (is_digit b)) [
        | inl q ↦ elim (cases_Bool (is_digit c)) [
          | inl r ↦ elim (cases_Bool (is_digit d)) [
            | inl s ↦ let f = rw (p, q, r, s) at e in absurd (cc)
            | inr s ↦ rw (p, q, r, s) refl
          ]
          | inr r ↦ rw (p, q, r) refl
        ]
        | inr q ↦ rw (p, q) refl
      ]
      | inr p ↦ rw p refl
    ]

pub year-read : (t : Timestamp) (run : List ℕ) (n : ℕ) → 4 ≤ length run → Some n ≡ four_digits (get_or run 0 0) (get_or run 1 0) (get_or run 2 0) (get_or run 3 0)
    → after_year (record t { year = n }) (drop 4 run) ≡ from_year t run
year-read t run n within e =
    year-plain t (get_or run 0 0) (get_or run 1 0) (get_or run 2 0) (get_or run 3 0) n (drop 4 run) e ∙ sym (ap (λ xs. from_year t xs) (reads-is 4 run within))

pub year-bad : (t : Timestamp) (run : List ℕ) → 4 ≤ length run → None ≡ four_digits (get_or run 0 0) (get_or run 1 0) (get_or run 2 0) (get_or run 3 0) → Err BadToken ≡ from_year t run
year-bad t run within e =
    sym (ap (λ xs. from_year t xs) (reads-is 4 run within) ∙ year-bad_plain t (get_or run 0 0) (get_or run 1 0) (get_or run 2 0) (get_or run 3 0) (drop 4 run) e)
