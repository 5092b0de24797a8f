-- Neighbouring days have neighbouring day numbers, and what is moved by fewer minutes than a day has lies on one of them.
use Rattle.std.proofs.Common.{◌≡◌, ℕ, suc, ◌+◌, ◌-◌, ◌*◌, ◌/◌, ◌%◌, ◌<◌, ◌≤◌, ◌⊎◌, inl, inr, nat_lt, refl, sym, ap, ◌∙◌, arith, ℤ, pos, negsuc, neg_ℤ, ◌+ℤ◌, ◌-ℤ◌, ◌*ℤ◌, ◌<ℤ◌, ◌≤ℤ◌, Option, Some, None, unwrap_or, Result, Ok, Err, MatchResult, IfOk, IfErr}
use Rattle.std.proofs.lemmas.Int.{ints}
use Rattle.std.proofs.lemmas.Bool.{cases_Bool, cases_lt, ltb-true, ltb-false, lt-ltb, le-ltb, le-leb, lt-leb}
use Rattle.std.proofs.lemmas.Result.{MatchResult-at_ok}
use Rattle.jiff_core.specs.Calendar.{days_from_civil, days_in_month}
use Rattle.jiff_core.specs.declared.civil.date.Date.{Date}
use Rattle.jiff_core.proofs.CalendarLemmas.{days_in_month_bounds}
use Rattle.jiff_core.proofs.DateLemmas.{days_from_civil-day, days_from_civil-next_month, days_from_civil-next_year, days_from_civil-max, min-lt-epoch_day, cases_date, epoch_day-lt, epoch_day_same, epoch_day_range, epoch_day_injective}
use Rattle.jiff_core.specs.Date.{epoch_day, IsYmd}
use Rattle.ion_meter.specs.declared.fault.Reason.{Reason}
use Rattle.ion_meter.specs.declared.fault.Reason.TheVariants.{BadTimestamp}
use Rattle.ion_value.specs.declared.timestamp.Timestamp.{Timestamp}
use Rattle.ion_value.specs.Timestamp.{minute_number, minute_of, offset_minutes, IsMoment, IsMoved, IsOffset, on_day, next_day, day_before, minute_of_day, at_minute, moved, in_years, local_of, utc_of}

-- the day number of its date, and its date in the calendar
abbrev pub day_number : Timestamp → ℤ
day_number t = days_from_civil (pos t.year) t.month t.day

abbrev pub date_at : (t : Timestamp) → IsMoment t → Date
date_at t m = record { year = pos t.year; month = t.month; day = t.day; year_in = m.date.0; month_in = m.date.1; day_in = m.date.2 }

-- ---- the day after

-- 1 January follows the last day of December
last_of_year : (t : Timestamp) → t.month ≡ 12 → t.day ≡ days_in_month (pos t.year) t.month → days_from_civil (pos (t.year + 1)) 1 1 ≡ day_number t +ℤ pos 1
last_of_year t is last =
    let e : t.day ≡ 31 = rw is at last in
    rw (is, e) (days_from_civil-next_year (pos t.year) (pos (t.year + 1)) (omega (arith, ints)) (omega (arith, ints)))

-- the day after has the next day number
pub next_day-number : (t : Timestamp) → IsMoment t → day_number (next_day t) ≡ day_number t +ℤ pos 1
next_day-number t m =
    let month = m.date.1 in
    let day = m.date.2 in
    elim (cases_Bool (nat_lt t.day (days_in_month (pos t.year) t.month))) [
      | inl k ↦ rw k (omega (arith, ints, days_from_civil-day (pos t.year) t.month (t.day + 1) t.day (omega arith) day.0))
      | inr k ↦ rw k (
          let last : t.day ≡ days_in_month (pos t.year) t.month = omega (arith, ltb-false _ _ k) in
          elim (cases_Bool (nat_lt t.month 12)) [
            | inl n ↦ rw n (days_from_civil-next_month (pos t.year) t.month t.day month.0 last)
            | inr n ↦ rw n (last_of_year t (omega (arith, ltb-false _ _ n)) last)
          ])
    ]

-- it is one of the years 1 to 9999, or the first of the year 10000
abbrev pub IsPastYears : Timestamp → Type 0
IsPastYears t = ((next_day t).year ≡ 10000) × (day_number t ≡ pos 2_932_896)

-- the day number of the last day of the year 9999
last_number : (t : Timestamp) → t.year ≡ 9999 → t.month ≡ 12 → t.day ≡ days_in_month (pos t.year) t.month → day_number t ≡ pos 2_932_896
last_number t year month last =
    let e : t.day ≡ 31 = rw month at last in
    rw (year, month, e) days_from_civil-max

-- 1 January of the next year is one of those years, or of the year 10000
next_year : (t : Timestamp) → IsMoment t → t.month ≡ 12 → t.day ≡ days_in_month (pos t.year) t.month → IsMoment (on_day t (t.year + 1) 1 1) ⊎ ((t.year + 1 ≡ 10000) × (day_number t ≡ pos 2_932_896))
next_year t m month last =
    elim (cases_lt t.year 9999) [
      | inl h ↦ inl (record {
        year = (omega arith, omega arith);
        date = ((omega (arith, ints), omega (arith, ints)), (omega arith, omega arith), (omega arith, omega arith));
        hour = m.hour;
        minute = m.minute;
        second = m.second;
      })
      | inr h ↦
          let bound = m.year.1 in
          let year : t.year ≡ 9999 = omega arith in
          inr (omega arith, last_number t year month last)
    ]

-- the day after is a moment of the years 1 to 9999, or past them
pub next_day-cases : (t : Timestamp) → IsMoment t → IsMoment (next_day t) ⊎ IsPastYears t
next_day-cases t m =
    let month = m.date.1 in
    let day = m.date.2 in
    elim (cases_Bool (nat_lt t.day (days_in_month (pos t.year) t.month))) [
      | inl k ↦ rw k (inl (record {
        year = m.year;
        date = (m.date.0, month, (omega arith, omega (arith, ltb-true _ _ k)));
        hour = m.hour;
        minute = m.minute;
        second = m.second;
      }))
      | inr k ↦ rw k (
          let last : t.day ≡ days_in_month (pos t.year) t.month = omega (arith, ltb-false _ _ k) in
          elim (cases_Bool (nat_lt t.month 12)) [
            | inl n ↦ rw n (inl (record {
              year = m.year;
              date = (m.date.0, (omega arith, omega (arith, ltb-true _ _ n)), (omega arith, omega (arith, days_in_month_bounds (pos t.year) (t.month + 1))));
              hour = m.hour;
              minute = m.minute;
              second = m.second;
            }))
            | inr n ↦ rw n (next_year t m (omega (arith, ltb-false _ _ n)) last)
          ])
    ]

-- ---- the day before

-- the day before has the day number before
pub day_before-number : (t : Timestamp) → IsMoment t → day_number t ≡ day_number (day_before t) +ℤ pos 1
day_before-number t m =
    let year = m.year in
    let month = m.date.1 in
    let day = m.date.2 in
    elim (cases_Bool (nat_lt 1 t.day)) [
      | inl k ↦ rw k (
          let low = ltb-true 1 t.day k in
          omega (arith, ints, days_from_civil-day (pos t.year) t.month (t.day - 1) t.day (omega arith) day.0))
      | inr k ↦ rw k (
          let first : t.day ≡ 1 = omega (arith, ltb-false _ _ k) in
          elim (cases_Bool (nat_lt 1 t.month)) [
            | inl n ↦ rw n (
                let low = ltb-true 1 t.month n in
                let back : t.month - 1 + 1 ≡ t.month = omega arith in
                rw first (rw back at (days_from_civil-next_month (pos t.year) (t.month - 1) (days_in_month (pos t.year) (t.month - 1)) (omega arith) refl)))
            | inr n ↦ rw n (
                let january : t.month ≡ 1 = omega (arith, ltb-false _ _ n) in
                rw (first, january) (days_from_civil-next_year (pos (t.year - 1)) (pos t.year) (omega (arith, ints)) (omega (arith, ints))))
          ])
    ]

-- it is one of the years 1 to 9999, or the last of the year 0
abbrev pub IsBeforeYears : Timestamp → Type 0
IsBeforeYears t = ((day_before t).year ≡ 0) × (t.year ≡ 1) × (t.month ≡ 1) × (t.day ≡ 1)

-- 31 December of the year before is one of those years, or of the year 0
year_before : (t : Timestamp) → IsMoment t → t.month ≡ 1 → t.day ≡ 1 → IsMoment (on_day t (t.year - 1) 12 31) ⊎ ((t.year - 1 ≡ 0) × (t.year ≡ 1) × (t.month ≡ 1) × (t.day ≡ 1))
year_before t m month day =
    let year = m.year in
    elim (cases_lt 1 t.year) [
      | inl h ↦ inl (record {
        year = (omega arith, omega arith);
        date = ((omega (arith, ints), omega (arith, ints)), (omega arith, omega arith), (omega arith, omega arith));
        hour = m.hour;
        minute = m.minute;
        second = m.second;
      })
      | inr h ↦ inr (omega arith, omega arith, month, day)
    ]

-- the day before is a moment of the years 1 to 9999, or before them
pub day_before-cases : (t : Timestamp) → IsMoment t → IsMoment (day_before t) ⊎ IsBeforeYears t
day_before-cases t m =
    let month = m.date.1 in
    let day = m.date.2 in
    elim (cases_Bool (nat_lt 1 t.day)) [
      | inl k ↦ rw k (
          let low = ltb-true 1 t.day k in
          inl (record {
            year = m.year;
            date = (m.date.0, month, (omega arith, omega arith));
            hour = m.hour;
            minute = m.minute;
            second = m.second;
          }))
      | inr k ↦ rw k (
          let first : t.day ≡ 1 = omega (arith, ltb-false _ _ k) in
          elim (cases_Bool (nat_lt 1 t.month)) [
            | inl n ↦ rw n (
                let low = ltb-true 1 t.month n in
                inl (record {
                  year = m.year;
                  date = (m.date.0, (omega arith, omega arith), (omega (arith, days_in_month_bounds (pos t.year) (t.month - 1)), omega arith));
                  hour = m.hour;
                  minute = m.minute;
                  second = m.second;
                }))
            | inr n ↦ rw n (year_before t m (omega (arith, ltb-false _ _ n)) first)
          ])
    ]

-- no date of a year from 1 on comes before 1 January of the year 1
pub first_number : (t : Timestamp) (m : IsMoment t) (d : Date) → t.year ≡ 1 → t.month ≡ 1 → t.day ≡ 1 → pos 1 ≤ℤ d.year → day_number t ≤ℤ epoch_day d
first_number t m d year month day from =
    elim (cases_date d (date_at t m)) [
      | inl (inl less) ↦ absurd (omega (arith, ints))
      | inl (inr (same, inl less)) ↦ absurd (omega (arith, d.month_in))
      | inl (inr (same, inr less)) ↦ absurd (omega (arith, d.day_in, less.1))
      | inr (inl more) ↦ let lt = epoch_day-lt (date_at t m) d more in omega (arith, ints)
      | inr (inr same) ↦ let e = epoch_day_same d (date_at t m) same.0 same.1 same.2 in omega (arith, ints)
    ]

-- ---- the calendar's neighbouring days

-- the calendar's day after a date is the day after
pub record IsDayOf (t : Timestamp) (d : Date) : Type 0 where
  pub moment : IsMoment t
  pub year : d.year ≡ pos t.year
  pub month : d.month ≡ t.month
  pub day : d.day ≡ t.day

-- what the calendar makes of a date
pub day_of : (t : Timestamp) → IsMoment t → (d : Date) → IsYmd (pos t.year) (pos t.month) (pos t.day) d → IsDayOf t d
day_of t m d is = record { moment = m; year = is.0; month = omega (arith, ints, is.1); day = omega (arith, ints, is.2) }

-- its day number
day_of-number : (t : Timestamp) (d : Date) → IsDayOf t d → epoch_day d ≡ day_number t
day_of-number t d h = rw (h.year, h.month, h.day) refl

-- the date with a moment's day number is its date
same_number : (t : Timestamp) (m : IsMoment t) (d : Date) → epoch_day d ≡ day_number t → IsDayOf t d
same_number t m d e =
    let same = epoch_day_injective d (date_at t m) e in
    record { moment = m; year = same.0; month = same.1; day = same.2 }

-- the date with the next day number is the day after
pub tomorrow-is : (t : Timestamp) (d e : Date) → IsDayOf t d → epoch_day e ≡ epoch_day d +ℤ pos 1 → IsDayOf (next_day t) e
tomorrow-is t d e h after =
    let next = next_day-number t h.moment in
    let here = day_of-number t d h in
    elim (next_day-cases t h.moment) [
      | inl m ↦ same_number (next_day t) m e (omega (arith, ints))
      | inr past ↦ absurd (omega (arith, ints, past.1, epoch_day_range e))
    ]

-- and only the last day of the year 9999 has none
pub no_tomorrow : (t : Timestamp) (d : Date) → IsDayOf t d → ¬ (epoch_day d <ℤ pos 2_932_896) → (next_day t).year ≡ 10000
no_tomorrow t d h last =
    let next = next_day-number t h.moment in
    let here = day_of-number t d h in
    elim (next_day-cases t h.moment) [
      | inl m ↦
          let range = epoch_day_range (date_at (next_day t) m) in
          absurd (last (omega (arith, ints)))
      | inr past ↦ past.0
    ]

-- the date with the day number before, of a year from 1 on, is the day before
pub yesterday-is : (t : Timestamp) (d e : Date) → IsDayOf t d → epoch_day e ≡ epoch_day d -ℤ pos 1 → pos 1 ≤ℤ e.year → IsDayOf (day_before t) e
yesterday-is t d e h before from =
    let next = day_before-number t h.moment in
    let here = day_of-number t d h in
    elim (day_before-cases t h.moment) [
      | inl m ↦ same_number (day_before t) m e (omega (arith, ints))
      | inr past ↦ absurd (omega (arith, ints, first_number t h.moment e past.1 past.2 past.3 from))
    ]

-- and one of an earlier year is the last of the year 0
pub no_yesterday : (t : Timestamp) (d e : Date) → IsDayOf t d → epoch_day e ≡ epoch_day d -ℤ pos 1 → ¬ (pos 1 ≤ℤ e.year) → (day_before t).year ≡ 0
no_yesterday t d e h before low =
    let next = day_before-number t h.moment in
    let here = day_of-number t d h in
    elim (day_before-cases t h.moment) [
      | inl m ↦
          let same = same_number (day_before t) m e (omega (arith, ints)) in
          let year = m.year in
          absurd (low (omega (arith, ints)))
      | inr past ↦ past.0
    ]

-- each moment has a day before it
pub some_yesterday : (t : Timestamp) (d : Date) → IsDayOf t d → neg_ℤ (pos 4_371_587) <ℤ epoch_day d
some_yesterday t d h = min-lt-epoch_day d (λ first. let year = h.year in omega (arith, ints, first.0))

-- ---- the years 1 to 9999

-- a year of 1 to 9999, and one past or before them
pub in_years-in : (t : Timestamp) → 1 ≤ t.year → t.year ≤ 9999 → in_years t ≡ Ok t
in_years-in t low high = rw (le-leb 1 t.year low, le-leb t.year 9999 high) refl

pub in_years-late : (t : Timestamp) → t.year ≡ 10000 → in_years t ≡ Err BadTimestamp
in_years-late t e = rw e refl

pub in_years-early : (t : Timestamp) → t.year ≡ 0 → in_years t ≡ Err BadTimestamp
in_years-early t e = rw e refl

-- ---- minutes of the day

-- a day has 1440 minutes
pub minute_of_day-lt : (t : Timestamp) → IsMoment t → minute_of_day t < 1440
minute_of_day-lt t m = let hour = m.hour in let minute = m.minute in omega arith

-- what is moved on its day, into the next one, and into the one before
pub moved-same : (t : Timestamp) (k : ℤ) (n : ℕ) → IsMoment t → pos (minute_of_day t) +ℤ k ≡ pos n → n < 1440 → moved k t ≡ at_minute t n
moved-same t (pos k) n m e lt =
    let sum : minute_of_day t + k ≡ n = omega (arith, ints) in
    rw (sum, lt-ltb n 1440 lt) refl
moved-same t (negsuc k) n m e lt =
    let enough : suc k ≤ minute_of_day t = omega (arith, ints) in
    let rest : minute_of_day t - suc k ≡ n = omega (arith, ints) in
    rw (le-leb _ _ enough, rest) refl

pub moved-after : (t : Timestamp) (k : ℤ) (n : ℕ) → IsMoment t → pos (minute_of_day t) +ℤ k ≡ pos (n + 1440) → moved k t ≡ at_minute (next_day t) n
moved-after t (pos k) n m e =
    let sum : minute_of_day t + k ≡ n + 1440 = omega (arith, ints) in
    let rest : n + 1440 - 1440 ≡ n = omega arith in
    rw (sum, le-ltb (n + 1440) 1440 (omega arith), rest) refl
moved-after t (negsuc k) n m e = absurd (omega (arith, ints, minute_of_day-lt t m))

pub moved-before : (t : Timestamp) (k : ℤ) (n : ℕ) → IsMoment t → n < 1440 → pos (minute_of_day t) +ℤ k +ℤ pos 1440 ≡ pos n → moved k t ≡ at_minute (day_before t) n
moved-before t (pos k) n m lt e = absurd (omega (arith, ints))
moved-before t (negsuc k) n m lt e =
    let few : minute_of_day t < suc k = omega (arith, ints) in
    let rest : minute_of_day t + 1440 - suc k ≡ n = omega (arith, ints) in
    rw (lt-leb (suc k) (minute_of_day t) few, rest) refl

-- ---- what is moved

-- the minute of a time of a day
pub minute_of-at_minute : (t : Timestamp) (n : ℕ) → minute_of (at_minute t n) ≡ (pos 1440 *ℤ day_number t) +ℤ pos n
unfolding minute_number
minute_of-at_minute t n =
    let parts : 60 * (n / 60) + n % 60 ≡ n = omega arith in
    rw parts refl

-- it is a moment
at_minute-moment : (t : Timestamp) (n : ℕ) → IsMoment t → n < 1440 → IsMoment (at_minute t n)
at_minute-moment t n m lt = record { year = m.year; date = m.date; hour = omega arith; minute = omega arith; second = m.second }

-- one minute number has one day
same_day : (a b : ℤ) (m n : ℕ) → m < 1440 → n < 1440 → (pos 1440 *ℤ a) +ℤ pos m ≡ (pos 1440 *ℤ b) +ℤ pos n → a ≡ b
same_day a b m n hm hn e = omega (arith, ints)

-- which day it lies on, and at which minute
data Nearby (t : Timestamp) (k : ℤ) : Timestamp → Type 0 where
  same : (n : ℕ) → n < 1440 → pos (minute_of_day t) +ℤ k ≡ pos n → Nearby t k (at_minute t n)
  after : (n : ℕ) → n < 1440 → pos (minute_of_day t) +ℤ k ≡ pos (n + 1440) → Nearby t k (at_minute (next_day t) n)
  before : (n : ℕ) → n < 1440 → pos (minute_of_day t) +ℤ k +ℤ pos 1440 ≡ pos n → Nearby t k (at_minute (day_before t) n)

-- each move by fewer minutes than a day has is one of them
nearby : (t : Timestamp) (k : ℤ) → IsMoment t → neg_ℤ (pos 1439) ≤ℤ k → k ≤ℤ pos 1439 → Nearby t k (moved k t)
nearby t (pos k) m low high =
    let day = minute_of_day-lt t m in
    elim (cases_lt (minute_of_day t + k) 1440) [
      | inl lt ↦ rw (lt-ltb (minute_of_day t + k) 1440 lt) (same (minute_of_day t + k) lt (omega (arith, ints)))
      | inr ge ↦ rw (le-ltb (minute_of_day t + k) 1440 ge) (after (minute_of_day t + k - 1440) (omega (arith, ints)) (omega (arith, ints)))
    ]
nearby t (negsuc k) m low high =
    let day = minute_of_day-lt t m in
    elim (cases_lt (minute_of_day t) (suc k)) [
      | inl lt ↦ rw (lt-leb (suc k) (minute_of_day t) lt) (before (minute_of_day t + 1440 - suc k) (omega (arith, ints)) (omega (arith, ints)))
      | inr ge ↦ rw (le-leb (suc k) (minute_of_day t) ge) (same (minute_of_day t - suc k) (omega (arith, ints)) (omega (arith, ints)))
    ]

-- in all but the date the neighbouring days are the same
next_day-same : (t : Timestamp) → next_day t ≡ on_day t (next_day t).year (next_day t).month (next_day t).day
next_day-same t =
    elim (cases_Bool (nat_lt t.day (days_in_month (pos t.year) t.month))) [
      | inl k ↦ rw k refl
      | inr k ↦ rw k (elim (cases_Bool (nat_lt t.month 12)) [ inl n ↦ rw n refl | inr n ↦ rw n refl ])
    ]

day_before-same : (t : Timestamp) → day_before t ≡ on_day t (day_before t).year (day_before t).month (day_before t).day
day_before-same t =
    elim (cases_Bool (nat_lt 1 t.day)) [
      | inl k ↦ rw k refl
      | inr k ↦ rw k (elim (cases_Bool (nat_lt 1 t.month)) [ inl n ↦ rw n refl | inr n ↦ rw n refl ])
    ]

-- at a minute of the day `n` of the calendar's date `d`
on_date-at : (t n r s : Timestamp) (d : Date) (i : ℕ) → IsDayOf n d → n ≡ on_day t n.year n.month n.day → r ≡ on_day t r.year r.month r.day → IsYmd (pos r.year) (pos r.month) (pos r.day) d → s ≡ at_minute r i → Ok s ≡ in_years (at_minute n i)
on_date-at t n r s d i h n_same r_same is e =
    let year : r.year ≡ n.year = omega (arith, ints, is.0, h.year) in
    let month : r.month ≡ n.month = omega (arith, ints, is.1, h.month) in
    let day : r.day ≡ n.day = omega (arith, ints, is.2, h.day) in
    let same : r ≡ n = r_same ∙ rw (year, month, day) (sym n_same) in
    rw (in_years-in (at_minute n i) h.moment.year.0 h.moment.year.1) (ap Ok (e ∙ ap (λ (x : Timestamp). at_minute x i) same))

pub next_day-at : (t r s : Timestamp) (d : Date) (i : ℕ) → IsDayOf (next_day t) d → r ≡ on_day t r.year r.month r.day → IsYmd (pos r.year) (pos r.month) (pos r.day) d → s ≡ at_minute r i → Ok s ≡ in_years (at_minute (next_day t) i)
next_day-at t r s d i h r_same is e = on_date-at t (next_day t) r s d i h (next_day-same t) r_same is e

pub day_before-at : (t r s : Timestamp) (d : Date) (i : ℕ) → IsDayOf (day_before t) d → r ≡ on_day t r.year r.month r.day → IsYmd (pos r.year) (pos r.month) (pos r.day) d → s ≡ at_minute r i → Ok s ≡ in_years (at_minute (day_before t) i)
day_before-at t r s d i h r_same is e = on_date-at t (day_before t) r s d i h (day_before-same t) r_same is e

-- a minute by its day and its place in the day
minute_of-day : (t : Timestamp) → minute_of t ≡ (pos 1440 *ℤ day_number t) +ℤ pos (minute_of_day t)
unfolding minute_number
minute_of-day t = refl

-- what is moved is a moment with the minute that is wanted, or there is none
abbrev pub IsMovedOrNone : Timestamp → ℤ → Result Timestamp Reason → Type 0
IsMovedOrNone t k r =
    MatchResult r (λ u. IsMoment u × IsMoved k t u) (λ e. (e ≡ BadTimestamp) × ((u : Timestamp) → IsMoment u → IsMoved k t u → ⊥))

-- a time of a day that has the minute that is wanted is what is moved
at_minute-moved : (t d : Timestamp) (k : ℤ) (n : ℕ) → IsMoment d → n < 1440 → d ≡ on_day t d.year d.month d.day → (pos 1440 *ℤ day_number d) +ℤ pos n ≡ minute_of t +ℤ k → IsMovedOrNone t k (in_years (at_minute d n))
at_minute-moved t d k n m lt day e =
    rw (in_years-in (at_minute d n) m.year.0 m.year.1) (
      at_minute-moment d n m lt,
      record { minute = minute_of-at_minute d n ∙ e; same = ap (λ (x : Timestamp). at_minute x n) day },
    )

-- the day of a moment, by its minute
day_of_minute : (t u : Timestamp) (k j : ℤ) (n : ℕ) → IsMoment u → n < 1440 → minute_of u ≡ minute_of t +ℤ k → pos (minute_of_day t) +ℤ k ≡ (pos 1440 *ℤ j) +ℤ pos n → day_number u ≡ day_number t +ℤ j
day_of_minute t u k j n m lt e sum =
    let here = minute_of-day t in
    let there = minute_of-day u in
    same_day (day_number u) (day_number t +ℤ j) (minute_of_day u) n (minute_of_day-lt u m) lt (omega (arith, ints))

-- on each of the three days
nearby-moved : (t : Timestamp) (k : ℤ) (u : Timestamp) → IsMoment t → Nearby t k u → IsMovedOrNone t k (in_years u)
nearby-moved t k _ m (same n lt e) =
    let here = minute_of-day t in
    at_minute-moved t t k n m lt refl (omega (arith, ints))
nearby-moved t k _ m (after n lt e) =
    let here = minute_of-day t in
    let next = next_day-number t m in
    elim (next_day-cases t m) [
      | inl day ↦ at_minute-moved t (next_day t) k n day lt (next_day-same t) (omega (arith, ints))
      | inr past ↦ rw (in_years-late (at_minute (next_day t) n) past.0) (
        refl,
        λ u mu moved.
            let number = day_of_minute t u k (pos 1) n mu lt moved.minute (omega (arith, ints)) in
            omega (arith, ints, past.1, epoch_day_range (date_at u mu)),
      )
    ]
nearby-moved t k _ m (before n lt e) =
    let here = minute_of-day t in
    let next = day_before-number t m in
    elim (day_before-cases t m) [
      | inl day ↦ at_minute-moved t (day_before t) k n day lt (day_before-same t) (omega (arith, ints))
      | inr past ↦ rw (in_years-early (at_minute (day_before t) n) past.0) (
        refl,
        λ u mu moved.
            let number = day_of_minute t u k (negsuc 0) n mu lt moved.minute (omega (arith, ints)) in
            let year = mu.year in
            omega (arith, ints, first_number t m (date_at u mu) past.1 past.2 past.3 (omega (arith, ints))),
      )
    ]

-- so a move by fewer minutes than a day has is right
pub moved-is : (t : Timestamp) (k : ℤ) → IsMoment t → neg_ℤ (pos 1439) ≤ℤ k → k ≤ℤ pos 1439 → IsMovedOrNone t k (in_years (moved k t))
moved-is t k m low high = nearby-moved t k (moved k t) m (nearby t k m low high)

-- at most one moment has a minute
moved-unique : (t u v : Timestamp) (k : ℤ) → IsMoment u → IsMoment v → IsMoved k t u → IsMoved k t v → u ≡ v
moved-unique t u v k mu mv hu hv =
    let u_day = minute_of-day u in
    let v_day = minute_of-day v in
    let u_lt = minute_of_day-lt u mu in
    let v_lt = minute_of_day-lt v mv in
    let e : (pos 1440 *ℤ day_number u) +ℤ pos (minute_of_day u) ≡ (pos 1440 *ℤ day_number v) +ℤ pos (minute_of_day v) = sym u_day ∙ hu.minute ∙ sym hv.minute ∙ v_day in
    let day = same_day (day_number u) (day_number v) (minute_of_day u) (minute_of_day v) u_lt v_lt e in
    let date = epoch_day_injective (date_at u mu) (date_at v mv) day in
    let u_minute = mu.minute in
    let v_minute = mv.minute in
    let minutes : minute_of_day u ≡ minute_of_day v = omega (arith, ints) in
    let year : u.year ≡ v.year = omega (arith, ints, date.0) in
    let hour : u.hour ≡ v.hour = omega arith in
    let minute : u.minute ≡ v.minute = omega arith in
    hu.same ∙ rw (year, date.1, date.2, hour, minute) (sym hv.same)

-- ---- there and back

-- where a moment has the minute that is wanted, it is the outcome
pub one_outcome : (t u : Timestamp) (k : ℤ) (r : Result Timestamp Reason) → IsMoment u → IsMoved k t u → IsMovedOrNone t k r → r ≡ Ok u
one_outcome t u k (Ok v) m h is = ap Ok (moved-unique t v u k is.0 m is.1 h)
one_outcome t u k (Err e) m h is = absurd (is.1 u m h)

-- moved, and moved back
moved-back : (t u : Timestamp) (k : ℤ) → IsMoved k u t → IsMoved (neg_ℤ k) t u
moved-back t u k h = record { minute = omega (arith, ints, h.minute); same = rw h.same refl }

-- a move there and back ends where it began
pub there_and_back : (t u : Timestamp) (k : ℤ) → IsMoment u → neg_ℤ (pos 1439) ≤ℤ k → k ≤ℤ pos 1439 → in_years (moved k u) ≡ Ok t → (t.offset ≡ u.offset) × (in_years (moved (neg_ℤ k) t) ≡ Ok u)
there_and_back t u k m low high e =
    let is = moved-is u k m low high in
    let there = MatchResult-at_ok _ _ t e is in
    let back = moved-is t (neg_ℤ k) there.0 (omega (arith, ints)) (omega (arith, ints)) in
    let here : IsMoved (neg_ℤ k) t u = moved-back t u k there.1 in
    (ap (λ (x : Timestamp). x.offset) there.1.same, one_outcome t u (neg_ℤ k) (in_years (moved (neg_ℤ k) t)) m here back)

-- ---- local time and UTC

-- the minutes of an offset are fewer than a day has
pub offset-bounds : (offset : Option ℤ) → IsOffset offset → (neg_ℤ (pos 1439) ≤ℤ unwrap_or offset (pos 0)) × (unwrap_or offset (pos 0) ≤ℤ pos 1439)
offset-bounds None h = (omega (arith, ints), omega (arith, ints))
offset-bounds (Some minutes) h = h

pub record IsOfMoment (t : Timestamp) (k : ℤ) (r : Result Timestamp Reason) : Type 0 where
  pub low : neg_ℤ (pos 1439) ≤ℤ k
  pub high : k ≤ℤ pos 1439
  pub moved : IfOk r (λ u. IsMoment u × IsMoved k t u)
  pub refused : IfErr r (λ e. (e ≡ BadTimestamp) × ((u : Timestamp) → IsMoment u → IsMoved k t u → ⊥))

-- one outcome as both clauses say it
of_moment : (t : Timestamp) (k : ℤ) (r : Result Timestamp Reason) → IsMovedOrNone t k r → neg_ℤ (pos 1439) ≤ℤ k → k ≤ℤ pos 1439 → IsOfMoment t k r
of_moment t k (Ok u) is low high = record { low = low; high = high; moved = is; refused = tt }
of_moment t k (Err e) is low high = record { low = low; high = high; moved = tt; refused = is }

-- local time and UTC are right
pub local-is : (t : Timestamp) → IsMoment t → IsOffset t.offset → IsOfMoment t (offset_minutes t) (local_of t)
unfolding local_of
local-is t m offset =
    let bounds = offset-bounds t.offset offset in
    of_moment t (offset_minutes t) (local_of t) (moved-is t (offset_minutes t) m bounds.0 bounds.1) bounds.0 bounds.1

pub utc-is : (t : Timestamp) → IsMoment t → IsOffset t.offset → IsOfMoment t (neg_ℤ (offset_minutes t)) (utc_of t)
unfolding utc_of
utc-is t m offset =
    let bounds = offset-bounds t.offset offset in
    let low : neg_ℤ (pos 1439) ≤ℤ neg_ℤ (offset_minutes t) = omega (arith, ints) in
    let high : neg_ℤ (offset_minutes t) ≤ℤ pos 1439 = omega (arith, ints) in
    of_moment t (neg_ℤ (offset_minutes t)) (utc_of t) (moved-is t (neg_ℤ (offset_minutes t)) m low high) low high

-- what the code computes
pub local-moved : (t : Timestamp) (k : ℤ) (r : Result Timestamp Reason) → r ≡ in_years (moved k t) → k ≡ offset_minutes t → r ≡ local_of t
unfolding local_of
local-moved t k r e is = e ∙ ap (λ (z : ℤ). in_years (moved z t)) is

pub utc-moved : (t : Timestamp) (k : ℤ) (r : Result Timestamp Reason) → r ≡ in_years (moved k t) → k ≡ neg_ℤ (offset_minutes t) → r ≡ utc_of t
unfolding utc_of
utc-moved t k r e is = e ∙ ap (λ (z : ℤ). in_years (moved z t)) is

-- what goes to local time comes back to UTC, and the other way round
pub utc_is_back : (u t : Timestamp) → IsMoment u → IsOffset u.offset → local_of u ≡ Ok t → utc_of t ≡ Ok u
unfolding local_of utc_of
utc_is_back u t m offset e =
    let bounds = offset-bounds u.offset offset in
    let back = there_and_back t u (offset_minutes u) m bounds.0 bounds.1 e in
    ap (λ (o : Option ℤ). in_years (moved (neg_ℤ (unwrap_or o (pos 0))) t)) back.0 ∙ back.1

-- and the other way round
pub local_is_back : (t u : Timestamp) → IsMoment t → IsOffset t.offset → utc_of t ≡ Ok u → local_of u ≡ Ok t
unfolding local_of utc_of
local_is_back t u m offset e =
    let bounds = offset-bounds t.offset offset in
    let k : ℤ = neg_ℤ (offset_minutes t) in
    let low : neg_ℤ (pos 1439) ≤ℤ k = omega (arith, ints) in
    let high : k ≤ℤ pos 1439 = omega (arith, ints) in
    let back = there_and_back u t k m low high e in
    let twice : neg_ℤ k ≡ offset_minutes t = omega (arith, ints) in
    ap (λ (o : Option ℤ). in_years (moved (unwrap_or o (pos 0)) u)) back.0
    ∙ sym (ap (λ (z : ℤ). in_years (moved z u)) twice)
    ∙ back.1

-- an offset that is unknown moves nothing
at_minute-same : (t : Timestamp) → IsMoment t → at_minute t (minute_of_day t) ≡ t
at_minute-same t m =
    let minute = m.minute in
    let hours : minute_of_day t / 60 ≡ t.hour = omega arith in
    let minutes : minute_of_day t % 60 ≡ t.minute = omega arith in
    rw (hours, minutes) refl

-- an offset that is unknown moves nothing
pub utc_of-unknown : (t : Timestamp) → IsMoment t → t.offset ≡ None → utc_of t ≡ Ok t
unfolding utc_of
utc_of-unknown t m none =
    let same : moved (pos 0) t ≡ t = moved-same t (pos 0) (minute_of_day t) m (omega (arith, ints)) (minute_of_day-lt t m) ∙ at_minute-same t m in
    ap (λ (o : Option ℤ). in_years (moved (neg_ℤ (unwrap_or o (pos 0))) t)) none ∙ ap in_years same ∙ in_years-in t m.year.0 m.year.1
