-- Timestamps: which there are, local time and UTC, and how they are spelled in octets and in text.
use Rattle.std.specs.Prelude.{◌≡◌, ℕ, zero, suc, ◌+◌, ◌-◌, ◌*◌, ◌/◌, ◌%◌, ◌^◌, ◌<◌, ◌≤◌, ℤ, pos, negsuc, neg_ℤ, ◌+ℤ◌, ◌*ℤ◌, ◌≤ℤ◌, Bool, true, false, not, ◌&&◌, ◌||◌, ◌==◌, nat_le, nat_lt, if◌then◌else◌, List, [], ◌∷◌, ◌++◌, length, take, drop, map, codes, Option, Some, None, IfSome, unwrap_or, option_map, option_and_then, Result, Ok, Err}
use Rattle.jiff_core.specs.Calendar.{days_from_civil, days_in_month, IsCivilDate}
use Rattle.ion_meter.specs.declared.fault.Reason.{Reason}
use Rattle.ion_meter.specs.declared.fault.Reason.TheVariants.{BadVar, BadTimestamp, BadToken, Range}
use Rattle.ion_value.specs.declared.timestamp.Precision.{Precision}
use Rattle.ion_value.specs.declared.timestamp.Precision.TheVariants.{Year, Month, Day, Minute, Second, Fraction}
use Rattle.ion_value.specs.declared.timestamp.Timestamp.{Timestamp}
use Rattle.ion_value.specs.Number.{number, var_uint, var_int_negative, var_int_magnitude, int_negative, int_magnitude, signed, var_cut, var_uint_octets, var_int_octets, coefficient_octets}
use Rattle.ion_value.specs.Digits.{is_between, is_digit, digit_value, first_is, all_are, cut_at, fixed_digits}

-- ---- local time and UTC

-- minutes since the beginning of 1 January 1970
unfoldable pub minute_number : ℕ → ℕ → ℕ → ℕ → ℕ → ℤ
minute_number year month day hour minute = (pos 1440 *ℤ days_from_civil (pos year) month day) +ℤ pos (60 * hour + minute)

-- that number for a timestamp, by its date, hour and minute as they stand, whatever its offset
abbrev pub minute_of : Timestamp → ℤ
minute_of t = minute_number t.year t.month t.day t.hour t.minute

-- the offset in minutes, where one that is unknown counts as none
abbrev pub offset_minutes : Timestamp → ℤ
offset_minutes t = unwrap_or t.offset (pos 0)

-- a date that the calendar has, in the years 1 to 9999, and a time of that day
pub record IsMoment (t : Timestamp) : Type 0 where
  pub year : (1 ≤ t.year) × (t.year ≤ 9999)
  pub date : IsCivilDate (pos t.year) t.month t.day
  pub hour : t.hour < 24
  pub minute : t.minute < 60
  pub second : t.second < 60

-- whether the fields of a timestamp are such a date and time
abbrev pub is_moment : Timestamp → Bool
is_moment t =
    is_between 1 9999 t.year && is_between 1 12 t.month && is_between 1 (days_in_month (pos t.year) t.month) t.day
    && nat_lt t.hour 24 && nat_lt t.minute 60 && nat_lt t.second 60

-- an offset is unknown, or at most 1439 minutes to either side
abbrev pub IsOffset : Option ℤ → Type 0
IsOffset offset = IfSome offset (λ minutes. (neg_ℤ (pos 1439) ≤ℤ minutes) × (minutes ≤ℤ pos 1439))

-- of two timestamps that differ in date, hour and minute alone, the second one's minute is that of the first and so many more
pub record IsMoved (minutes : ℤ) (from to : Timestamp) : Type 0 where
  pub minute : minute_of to ≡ minute_of from +ℤ minutes
  pub same : to ≡ record from { year = to.year; month = to.month; day = to.day; hour = to.hour; minute = to.minute }

-- the same time on another date: its year, month and day
abbrev pub on_day : Timestamp → ℕ → ℕ → ℕ → Timestamp
on_day t year month day = record t { year = year; month = month; day = day }

-- the same time on the day after, which may be in the year 10000
abbrev pub next_day : Timestamp → Timestamp
next_day t =
    if nat_lt t.day (days_in_month (pos t.year) t.month) then on_day t t.year t.month (t.day + 1)
    else (if nat_lt t.month 12 then on_day t t.year (t.month + 1) 1 else on_day t (t.year + 1) 1 1)

-- the same time on the day before, which may be in the year 0
abbrev pub day_before : Timestamp → Timestamp
day_before t =
    if nat_lt 1 t.day then on_day t t.year t.month (t.day - 1)
    else (if nat_lt 1 t.month then on_day t t.year (t.month - 1) (days_in_month (pos t.year) (t.month - 1)) else on_day t (t.year - 1) 12 31)

-- minutes since the beginning of the day
abbrev pub minute_of_day : Timestamp → ℕ
minute_of_day t = 60 * t.hour + t.minute

-- the same day, so many minutes since its beginning; second and fraction stay
abbrev pub at_minute : Timestamp → ℕ → Timestamp
at_minute t n = record t { hour = n / 60; minute = n % 60 }

-- so many minutes since the beginning of its day, fewer than two days have: on the same day or the one after
abbrev pub later : Timestamp → ℕ → Timestamp
later t n = if nat_lt n 1440 then at_minute t n else at_minute (next_day t) (n - 1440)

-- so many minutes earlier, at most as many as a day has: on the same day or the one before
abbrev pub earlier : Timestamp → ℕ → Timestamp
earlier t n = if nat_le n (minute_of_day t) then at_minute t (minute_of_day t - n) else at_minute (day_before t) (minute_of_day t + 1440 - n)

-- so many minutes later, or earlier where they are below zero; they are fewer than a day has
abbrev pub moved : ℤ → Timestamp → Timestamp
moved (pos n) t = later t (minute_of_day t + n)
moved (negsuc n) t = earlier t (suc n)

-- where the year stays within 1 to 9999
abbrev pub in_years : Timestamp → Result Timestamp Reason
in_years t = if is_between 1 9999 t.year then Ok t else Err BadTimestamp

-- local = UTC + offset
unfoldable pub local_of : Timestamp → Result Timestamp Reason
local_of t = in_years (moved (offset_minutes t) t)

-- and UTC = local - offset; the offset itself stays
unfoldable pub utc_of : Timestamp → Result Timestamp Reason
utc_of t = in_years (moved (neg_ℤ (offset_minutes t)) t)

-- ---- which timestamps there are

-- fields past the precision are the least that there are, and the offset of a date is unknown
abbrev pub KeepsPrecision : Precision → Timestamp → Type 0
KeepsPrecision Year t = (t.month ≡ 1) × (t.day ≡ 1) × (t.hour ≡ 0) × (t.minute ≡ 0) × (t.second ≡ 0) × (t.fraction ≡ 0) × (t.offset ≡ None)
KeepsPrecision Month t = (t.day ≡ 1) × (t.hour ≡ 0) × (t.minute ≡ 0) × (t.second ≡ 0) × (t.fraction ≡ 0) × (t.offset ≡ None)
KeepsPrecision Day t = (t.hour ≡ 0) × (t.minute ≡ 0) × (t.second ≡ 0) × (t.fraction ≡ 0) × (t.offset ≡ None)
KeepsPrecision Minute t = (t.second ≡ 0) × (t.fraction ≡ 0)
KeepsPrecision Second t = t.fraction ≡ 0
KeepsPrecision (Fraction n) t = (1 ≤ n) × (n ≤ 38) × (t.fraction < 10 ^ n)

-- the timestamps of this library: years 1 to 9999 in local time and in UTC, offsets within 1439 minutes, fractions of 1 to 38 digits
pub record IsTimestamp (t : Timestamp) : Type 0 where
  pub moment : IsMoment t
  pub offset : IsOffset t.offset
  pub utc : (utc : Timestamp) × (utc_of t ≡ Ok utc)
  pub precision : KeepsPrecision t.precision t

-- whether a precision is that of a date: year, month or day
abbrev pub is_date : Precision → Bool
is_date Year = true
is_date Month = true
is_date Day = true
is_date _ = false

-- ---- in octets (binary encoding, "6: timestamp")

-- the fields at the front of a body, at most so many, each a VarUInt or a VarInt, and the octets after them
unfoldable pub fields_cut : ℕ → List ℕ → Option (List (List ℕ) × List ℕ)
fields_cut zero body = Some ([], body)
fields_cut (suc most) [] = Some ([], [])
fields_cut (suc most) (b ∷ body) =
    option_and_then (λ cut. option_map (λ more. (cut.0 ∷ more.0, more.1)) (fields_cut most cut.1)) (var_cut 9 (b ∷ body))

-- a timestamp of a precision, year, month, day, hour, minute, second and fraction, its offset unknown
abbrev pub fields : Precision → ℕ → ℕ → ℕ → ℕ → ℕ → ℕ → ℕ → Timestamp
fields precision year month day hour minute second fraction =
    record { precision = precision; year = year; month = month; day = day; hour = hour; minute = minute; second = second; fraction = fraction; offset = None }

-- the digits after the point that an exponent tells: none where it is not below zero
abbrev pub digits_after_point : List ℕ → ℕ
digits_after_point exponent = if var_int_negative exponent then var_int_magnitude exponent else 0

-- the precision of a second with so many digits after its point
abbrev pub second_precision : ℕ → Precision
second_precision zero = Second
second_precision (suc n) = Fraction (suc n)

-- what the fields after the offset tell, in UTC, with the coefficient after them
abbrev pub utc_fields : List (List ℕ) → ℕ → Option Timestamp
utc_fields (y ∷ []) c = Some (fields Year (var_uint y) 1 1 0 0 0 0)
utc_fields (y ∷ m ∷ []) c = Some (fields Month (var_uint y) (var_uint m) 1 0 0 0 0)
utc_fields (y ∷ m ∷ d ∷ []) c = Some (fields Day (var_uint y) (var_uint m) (var_uint d) 0 0 0 0)
utc_fields (y ∷ m ∷ d ∷ h ∷ i ∷ []) c = Some (fields Minute (var_uint y) (var_uint m) (var_uint d) (var_uint h) (var_uint i) 0 0)
utc_fields (y ∷ m ∷ d ∷ h ∷ i ∷ s ∷ []) c =
    Some (fields Second (var_uint y) (var_uint m) (var_uint d) (var_uint h) (var_uint i) (var_uint s) 0)
utc_fields (y ∷ m ∷ d ∷ h ∷ i ∷ s ∷ e ∷ []) c =
    Some (fields (second_precision (digits_after_point e)) (var_uint y) (var_uint m) (var_uint d) (var_uint h) (var_uint i) (var_uint s) c)
utc_fields _ c = None

-- the exponent of the fraction: the eighth field
abbrev pub exponent_in : List (List ℕ) → List ℕ
exponent_in (o ∷ y ∷ m ∷ d ∷ h ∷ i ∷ s ∷ e ∷ []) = e
exponent_in _ = []

-- a fraction is at least 0 and below 1, and zero may have any sign and exponent
abbrev pub is_fraction : List ℕ → List ℕ → Bool
is_fraction exponent c =
    (int_magnitude c == 0) || (not (int_negative c) && nat_lt (int_magnitude c) (10 ^ digits_after_point exponent))

-- minus zero minutes are an offset that is unknown
abbrev pub offset_in : List ℕ → Option ℤ
offset_in o = if var_int_negative o && (var_int_magnitude o == 0) then None else Some (signed (var_int_negative o) (var_int_magnitude o))

-- a date has no offset, whatever is written
abbrev pub in_local_time : List ℕ → Timestamp → Result Timestamp Reason
in_local_time o utc =
    if is_date utc.precision then Ok utc
    else (if nat_le (var_int_magnitude o) 1439 then local_of (record utc { offset = offset_in o }) else Err BadTimestamp)

-- the timestamp of an offset's octets and fields in UTC, or why it is none; `fits` is whether there is such a fraction
abbrev pub timestamp_in_utc : List ℕ → Bool → Option Timestamp → Result Timestamp Reason
timestamp_in_utc o fits None = Err BadTimestamp
timestamp_in_utc o fits (Some utc) = if is_moment utc && fits then in_local_time o utc else Err BadTimestamp

-- the timestamp of a body's fields, the offset's first, and a coefficient's octets, or why it is none
abbrev pub timestamp_of_fields : List (List ℕ) → List ℕ → Result Timestamp Reason
timestamp_of_fields [] c = Err BadTimestamp
timestamp_of_fields (o ∷ others) c =
    timestamp_in_utc o (is_fraction (exponent_in (o ∷ others)) c) (utc_fields others (int_magnitude c))

-- the same of a body cut so: `BadVar` if it cannot be, `Range` if the coefficient is 2^128 or more or the exponent below -38
abbrev pub timestamp_of_cut : Option (List (List ℕ) × List ℕ) → Result Timestamp Reason
timestamp_of_cut None = Err BadVar
timestamp_of_cut (Some cut) =
    if nat_le (2 ^ 128) (int_magnitude cut.1) || nat_lt 38 (digits_after_point (exponent_in cut.0)) then Err Range
    else timestamp_of_fields cut.0 cut.1

-- the timestamp whose body this is, or why it is none
unfoldable pub timestamp_of_bytes : List ℕ → Result Timestamp Reason
timestamp_of_bytes body = timestamp_of_cut (fields_cut 8 body)

-- the shortest VarInt of an offset: its minutes, or minus zero where it is unknown
abbrev pub offset_octets : Option ℤ → List ℕ
offset_octets None = var_int_octets true 0
offset_octets (Some (pos n)) = var_int_octets false n
offset_octets (Some (negsuc n)) = var_int_octets true (suc n)

-- the VarUInts of year, month and day
abbrev pub day_octets : Timestamp → List ℕ
day_octets t = var_uint_octets t.year ++ (var_uint_octets t.month ++ var_uint_octets t.day)

-- these, and those of hour and minute
abbrev pub minute_octets : Timestamp → List ℕ
minute_octets t = day_octets t ++ (var_uint_octets t.hour ++ var_uint_octets t.minute)

-- these, and that of the second
abbrev pub second_octets : Timestamp → List ℕ
second_octets t = minute_octets t ++ var_uint_octets t.second

-- the fields that a precision tells
abbrev pub told_octets : Precision → Timestamp → List ℕ
told_octets Year t = var_uint_octets t.year
told_octets Month t = var_uint_octets t.year ++ var_uint_octets t.month
told_octets Day t = day_octets t
told_octets Minute t = minute_octets t
told_octets Second t = second_octets t
told_octets (Fraction n) t = second_octets t ++ (var_int_octets true n ++ coefficient_octets false t.fraction)

-- the body of a timestamp that is given in UTC, and no octets where there is none
abbrev pub body_in_utc : Result Timestamp Reason → List ℕ
body_in_utc (Ok utc) = offset_octets utc.offset ++ told_octets utc.precision utc
body_in_utc (Err e) = []

-- the shortest body of a timestamp: its offset, and the fields in UTC
unfoldable pub timestamp_body : Timestamp → List ℕ
timestamp_body t = body_in_utc (utc_of t)

-- ---- in text (Ion specification, "Timestamps")

-- the bytes are as the pattern, in which `0` stands for any digit
abbrev pub looks_like : List ℕ → List ℕ → Bool
looks_like [] [] = true
looks_like [] (b ∷ bytes) = false
looks_like (c ∷ cs) [] = false
looks_like (c ∷ cs) (b ∷ bytes) = (if c == 48 then is_digit b else c == b) && looks_like cs bytes

-- the number of so many digits from a place on
abbrev pub digits_at : ℕ → ℕ → List ℕ → ℕ
digits_at place count bytes = number 10 (map digit_value (take count (drop place bytes)))

-- `Z`, `+` or `-`, with which an offset begins
abbrev pub is_offset_mark : ℕ → Bool
is_offset_mark b = b == 90 || b == 43 || b == 45

-- `Z`, or a sign, two digits, a colon and two digits
abbrev pub has_offset_shape : List ℕ → Bool
has_offset_shape bytes = looks_like (codes "Z") bytes || looks_like (codes "+00:00") bytes || looks_like (codes "-00:00") bytes

-- nothing, a colon and two digits, or these and a point and digits
abbrev pub has_seconds_shape : List ℕ → Bool
has_seconds_shape bytes =
    (length bytes == 0)
    || (looks_like (codes ":00") (take 3 bytes)
    && ((length bytes == 3) || (looks_like (codes ".0") (take 2 (drop 3 bytes)) && all_are is_digit (drop 4 bytes))))

-- the precision of a time by the length of such bytes: 0, 3, or 4 and the number of a fraction's digits
abbrev pub precision_of_seconds : ℕ → Precision
precision_of_seconds zero = Minute
precision_of_seconds (suc n) = second_precision (n - 3)

-- hours at most 23 and minutes at most 59
abbrev pub is_text_offset : List ℕ → Bool
is_text_offset bytes = nat_le (digits_at 1 2 bytes) 23 && nat_le (digits_at 4 2 bytes) 59

-- the minutes of an offset in text, whatever its sign, 0 for `Z`
abbrev pub minutes_of_text : List ℕ → ℕ
minutes_of_text bytes = 60 * digits_at 1 2 bytes + digits_at 4 2 bytes

-- `-00:00` is an offset that is unknown
abbrev pub offset_of_text : List ℕ → Option ℤ
offset_of_text bytes =
    if first_is (λ b. b == 45) bytes && (minutes_of_text bytes == 0) then None
    else Some (signed (first_is (λ b. b == 45) bytes) (minutes_of_text bytes))

-- a timestamp where there is such a date and time, and else `BadTimestamp`
abbrev pub date_in_range : Timestamp → Result Timestamp Reason
date_in_range t = if is_moment t then Ok t else Err BadTimestamp

-- a timestamp where it is in range in UTC too, or why it is not
abbrev pub with_utc : Timestamp → Result Timestamp Reason → Result Timestamp Reason
with_utc t (Ok utc) = Ok t
with_utc t (Err e) = Err e

-- a timestamp where there is such a date, time and offset (`fits`), with a year of 1 to 9999 in UTC too; else `BadTimestamp`
abbrev pub time_in_range : Bool → Timestamp → Result Timestamp Reason
time_in_range fits t = if is_moment t && fits then with_utc t (utc_of t) else Err BadTimestamp

-- a time: what stands between the minute and the offset, and the offset
abbrev pub time_of_parts : List ℕ → List ℕ → List ℕ → Result Timestamp Reason
time_of_parts run seconds offset =
    if has_seconds_shape seconds && has_offset_shape offset
    then (if nat_lt 38 (length (drop 4 seconds)) then Err Range
    else time_in_range (is_text_offset offset) (record {
      precision = precision_of_seconds (length seconds);
      year = digits_at 0 4 run;
      month = digits_at 5 2 run;
      day = digits_at 8 2 run;
      hour = digits_at 11 2 run;
      minute = digits_at 14 2 run;
      second = digits_at 1 2 seconds;
      fraction = digits_at 4 (length seconds) seconds;
      offset = offset_of_text offset;
    }))
    else Err BadToken

-- the same, with what stands after the minute as a pair
abbrev pub time_of_text : List ℕ → List ℕ × List ℕ → Result Timestamp Reason
time_of_text run cut = time_of_parts run cut.0 cut.1

-- the timestamp that a run of text spells, or why it is none
unfoldable pub timestamp_of_text : List ℕ → Result Timestamp Reason
timestamp_of_text run =
    if looks_like (codes "0000T") run then date_in_range (fields Year (digits_at 0 4 run) 1 1 0 0 0 0)
    else (if looks_like (codes "0000-00T") run then date_in_range (fields Month (digits_at 0 4 run) (digits_at 5 2 run) 1 0 0 0 0)
    else (if looks_like (codes "0000-00-00") run || looks_like (codes "0000-00-00T") run
    then date_in_range (fields Day (digits_at 0 4 run) (digits_at 5 2 run) (digits_at 8 2 run) 0 0 0 0)
    else (if looks_like (codes "0000-00-00T00:00") (take 16 run) then time_of_text run (cut_at is_offset_mark (drop 16 run))
    else Err BadToken)))

-- year, month and day, as in `2026-11-23`
abbrev pub day_text : Timestamp → List ℕ
day_text t = fixed_digits 4 t.year ++ (45 ∷ (fixed_digits 2 t.month ++ (45 ∷ fixed_digits 2 t.day)))

-- these and hour and minute, as in `2026-11-23T09:15`
abbrev pub minute_text : Timestamp → List ℕ
minute_text t = day_text t ++ (84 ∷ (fixed_digits 2 t.hour ++ (58 ∷ fixed_digits 2 t.minute)))

-- these and the second, as in `2026-11-23T09:15:30`
abbrev pub second_text : Timestamp → List ℕ
second_text t = minute_text t ++ (58 ∷ fixed_digits 2 t.second)

-- so many minutes as two digits of hours, a colon and two of minutes
abbrev pub minutes_text : ℕ → List ℕ
minutes_text n = fixed_digits 2 (n / 60) ++ (58 ∷ fixed_digits 2 (n % 60))

-- an offset in text: `Z` for 0, a sign with hours and minutes, or `-00:00` where it is unknown
abbrev pub offset_text : Option ℤ → List ℕ
offset_text None = codes "-00:00"
offset_text (Some (pos zero)) = codes "Z"
offset_text (Some (pos (suc n))) = 43 ∷ minutes_text (suc n)
offset_text (Some (negsuc n)) = 45 ∷ minutes_text (suc n)

-- local time to a precision, with `Z` for the offset 0 and `-00:00` for one that is unknown, and dates without either
abbrev pub text_to : Precision → Timestamp → List ℕ
text_to Year t = fixed_digits 4 t.year ++ (84 ∷ [])
text_to Month t = fixed_digits 4 t.year ++ (45 ∷ (fixed_digits 2 t.month ++ (84 ∷ [])))
text_to Day t = day_text t
text_to Minute t = minute_text t ++ offset_text t.offset
text_to Second t = second_text t ++ offset_text t.offset
text_to (Fraction n) t = second_text t ++ ((46 ∷ fixed_digits n t.fraction) ++ offset_text t.offset)

-- the text of a timestamp to its own precision
unfoldable pub timestamp_text : Timestamp → List ℕ
timestamp_text t = text_to t.precision t
