-- In which steps the code reads a timestamp in text: its parts one after the other, each with what stands after it.
use Rattle.std.specs.Prelude.{◌≡◌, ℕ, ◌+◌, ◌*◌, ◌≤◌, Bool, true, false, not, ◌&&◌, ◌||◌, ◌==◌, nat_le, nat_lt, if◌then◌else◌, List, [], ◌∷◌, ◌++◌, length, take, drop, map, codes, Option, Some, None, ℤ, Result, Ok, Err}
use Rattle.ion_meter.specs.declared.fault.Reason.{Reason}
use Rattle.ion_meter.specs.declared.fault.Reason.TheVariants.{BadToken, Range}
use Rattle.ion_value.specs.declared.timestamp.Precision.TheVariants.{Year, Month, Day, Minute, Second, Fraction}
use Rattle.ion_value.specs.declared.timestamp.Timestamp.{Timestamp}
use Rattle.ion_value.specs.declared.timestamp_text.Digits.{Digits}
use Rattle.ion_value.specs.declared.timestamp_text.TextOffset.{TextOffset}
use Rattle.ion_value.specs.Number.{number, signed}
use Rattle.ion_value.specs.Digits.{is_digit, digit_value, first_is, all_are, cut_at, fixed_digits}
use Rattle.ion_value.specs.Timestamp.{fields, looks_like, digits_at, is_offset_mark, has_offset_shape, is_text_offset, offset_of_text, date_in_range, time_in_range}

-- the number of two bytes, where they are digits
abbrev pub two_digits : ℕ → ℕ → Option ℕ
two_digits a b = if is_digit a && is_digit b then Some (digits_at 0 2 (a ∷ b ∷ [])) else None

-- the same of four bytes
abbrev pub four_digits : ℕ → ℕ → ℕ → ℕ → Option ℕ
four_digits a b c d =
    if is_digit a && is_digit b && is_digit c && is_digit d then Some (digits_at 0 4 (a ∷ b ∷ c ∷ d ∷ [])) else None

-- before the year is read
abbrev pub unread : Timestamp
unread = fields Year 0 1 1 0 0 0 0

-- what a step gives that leaves a timestamp, or fails
abbrev pub outcome : Result (Unit {0}) Reason → Timestamp → Result Timestamp Reason
outcome (Ok _) t = Ok t
outcome (Err e) t = Err e

-- with the offset in these bytes
abbrev pub offset_in_range : Timestamp → List ℕ → Result Timestamp Reason
offset_in_range t bytes = time_in_range (is_text_offset bytes) (record t { offset = offset_of_text bytes })

-- the same where the bytes have the shape of an offset, and else `BadToken`
abbrev pub with_offset : Timestamp → List ℕ → Result Timestamp Reason
with_offset t bytes = if has_offset_shape bytes then offset_in_range t bytes else Err BadToken

-- why a time with more than 38 digits of a fraction is none, by the bytes after these: `Range` where they have an offset's shape
abbrev pub too_long : List ℕ → Reason
too_long bytes = if has_offset_shape bytes then Range else BadToken

-- with a fraction of so many digits, and the offset in the bytes after it
abbrev pub with_fraction : Timestamp → ℕ → ℕ → List ℕ → Result Timestamp Reason
with_fraction t count n bytes =
    if count == 0 then Err BadToken
    else (if nat_lt 38 count then Err (too_long bytes) else with_offset (record t { precision = Fraction count; fraction = n }) bytes)

-- with what stands after the second: a point and digits, or nothing, and the offset
abbrev pub with_point : Timestamp → List ℕ → List ℕ → Result Timestamp Reason
with_point t [] offset = with_offset t offset
with_point t (b ∷ digits) offset =
    if (looks_like (codes ".0") (take 2 (b ∷ digits)) && all_are is_digit digits) && has_offset_shape offset
    then (if nat_lt 38 (length digits) then Err Range
    else offset_in_range (record t { precision = Fraction (length digits); fraction = number 10 (map digit_value digits) }) offset)
    else Err BadToken

-- a time to the second and all that stands after the second, or why it is no timestamp
abbrev pub after_second : Timestamp → List ℕ → Result Timestamp Reason
after_second t bytes = with_point t (cut_at is_offset_mark bytes).0 (cut_at is_offset_mark bytes).1

-- with what stands after the minute: seconds, or nothing, and the offset
abbrev pub with_seconds : Timestamp → List ℕ → List ℕ → Result Timestamp Reason
with_seconds t [] offset = with_offset t offset
with_seconds t (b ∷ seconds) offset =
    if looks_like (codes ":00") (take 3 (b ∷ seconds))
    then with_point (record t { precision = Second; second = digits_at 0 2 seconds }) (drop 2 seconds) offset
    else Err BadToken

-- a time to the minute and all that stands after the minute, or why it is no timestamp
abbrev pub after_minute : Timestamp → List ℕ → Result Timestamp Reason
after_minute t bytes = with_seconds t (cut_at is_offset_mark bytes).0 (cut_at is_offset_mark bytes).1

-- a run that begins with a date, an hour and a minute, and what it tells to the minute
abbrev pub begins_time : List ℕ → Bool
begins_time run = looks_like (codes "0000-00-00T00:00") (take 16 run)

-- a timestamp with the date, hour and minute of such a run
abbrev pub to_the_minute : Timestamp → List ℕ → Timestamp
to_the_minute t run =
    record t { precision = Minute; year = digits_at 0 4 run; month = digits_at 5 2 run; day = digits_at 8 2 run; hour = digits_at 11 2 run; minute = digits_at 14 2 run }

-- a date to the day and all that stands after the day: nothing, or `T`
abbrev pub after_day : Timestamp → List ℕ → Result Timestamp Reason
after_day t bytes = if looks_like [] bytes || looks_like (codes "T") bytes then date_in_range t else Err BadToken

-- a date to the month and all that stands after the month: `T`, or a day and its end
abbrev pub after_month : Timestamp → List ℕ → Result Timestamp Reason
after_month t bytes =
    if looks_like (codes "T") bytes then date_in_range t
    else (if looks_like (codes "-00") (take 3 bytes)
    then after_day (record t { precision = Day; day = digits_at 1 2 bytes }) (drop 3 bytes)
    else Err BadToken)

-- a date to the year and all that stands after the year: `T`, or a month and what is after it
abbrev pub after_year : Timestamp → List ℕ → Result Timestamp Reason
after_year t bytes =
    if looks_like (codes "T") bytes then date_in_range t
    else (if looks_like (codes "-00") (take 3 bytes)
    then after_month (record t { precision = Month; month = digits_at 1 2 bytes }) (drop 3 bytes)
    else Err BadToken)

-- with the year and what stands after it
abbrev pub from_year : Timestamp → List ℕ → Result Timestamp Reason
from_year t run =
    if looks_like (codes "0000") (take 4 run) then after_year (record t { year = digits_at 0 4 run }) (drop 4 run) else Err BadToken

-- an offset of a sign and so many minutes, unknown where these are minus zero
abbrev pub offset_of : Bool → ℕ → Option ℤ
offset_of negative minutes = if negative && (minutes == 0) then None else Some (signed negative minutes)

-- what the bytes of an offset tell
pub record IsOffsetOf (bytes : List ℕ) (offset : TextOffset) : Type 0 where
  pub exists : is_text_offset bytes ≡ (nat_le offset.hours 23 && nat_le offset.minutes 59)
  pub value : offset_of_text bytes ≡ offset_of offset.negative (60 * offset.hours + offset.minutes)

-- so many bytes at the front are digits, and no more of them, or as many as are wanted
pub record AreDigits (most : ℕ) (bytes : List ℕ) (count : ℕ) : Type 0 where
  pub within : count ≤ length bytes
  pub few : count ≤ most
  pub digits : all_are is_digit (take count bytes) ≡ true
  pub ends : nat_lt count most ≡ true → first_is is_digit (drop count bytes) ≡ false

-- a byte that is no digit of base ten
abbrev pub is_no_digit : ℕ → Bool
is_no_digit b = not (is_digit b)

-- the digits at the front of bytes, with their number where there are at most 38
pub record AreLeading (bytes : List ℕ) (digits : Digits) : Type 0 where
  pub count : digits.count ≡ length (cut_at is_no_digit bytes).0
  pub rest : digits.rest.now ≡ (cut_at is_no_digit bytes).1
  pub value : nat_le digits.count 38 ≡ true → digits.number ≡ number 10 (map digit_value (cut_at is_no_digit bytes).0)

-- the year and the month in text
abbrev pub month_text : Timestamp → List ℕ
month_text t = fixed_digits 4 t.year ++ (45 ∷ fixed_digits 2 t.month)
