-- What is moved by fewer minutes than a day has keeps its year, or comes to one beside it.
use Rattle.std.proofs.Common.{◌≡◌, ℕ, suc, ◌+◌, ◌≤◌, inl, inr, nat_le, nat_lt, true, refl, arith, ℤ, pos, negsuc, neg_ℤ, Ok}
use Rattle.std.proofs.lemmas.Bool.{cases_Bool}
use Rattle.jiff_core.specs.Calendar.{days_in_month}
use Rattle.ion_value.specs.declared.timestamp.Timestamp.{Timestamp}
use Rattle.ion_value.specs.Timestamp.{IsMoment, offset_minutes, next_day, day_before, minute_of_day, moved, utc_of, with_utc, time_in_range}
use Rattle.ion_value.proofs.Days.{in_years-in}
use Rattle.ion_value.proofs.TimestampOctets.{is_moment-true}

-- two years that are the same or neighbours
record IsBeside (year other : ℕ) : Type 0 where
  low : year ≤ other + 1
  high : other ≤ year + 1

-- the day after and the day before
next_day-year : (t : Timestamp) → IsBeside t.year (next_day t).year
next_day-year t =
    elim (cases_Bool (nat_lt t.day (days_in_month (pos t.year) t.month))) [
      | inl k ↦ rw k (record { low = omega arith; high = omega arith })
      | inr k ↦ rw k (elim (cases_Bool (nat_lt t.month 12)) [
        | inl n ↦ rw n (record { low = omega arith; high = omega arith })
        | inr n ↦ rw n (record { low = omega arith; high = omega arith })
      ])
    ]

day_before-year : (t : Timestamp) → IsBeside t.year (day_before t).year
day_before-year t =
    elim (cases_Bool (nat_lt 1 t.day)) [
      | inl k ↦ rw k (record { low = omega arith; high = omega arith })
      | inr k ↦ rw k (elim (cases_Bool (nat_lt 1 t.month)) [
        | inl n ↦ rw n (record { low = omega arith; high = omega arith })
        | inr n ↦ rw n (record { low = omega arith; high = omega arith })
      ])
    ]

-- what is moved
moved-year : (t : Timestamp) (k : ℤ) → IsBeside t.year (moved k t).year
moved-year t (pos n) =
    elim (cases_Bool (nat_lt (minute_of_day t + n) 1440)) [
      | inl k ↦ rw k (record { low = omega arith; high = omega arith })
      | inr k ↦ rw k (let year = next_day-year t in record { low = year.low; high = year.high })
    ]
moved-year t (negsuc n) =
    elim (cases_Bool (nat_le (suc n) (minute_of_day t))) [
      | inl k ↦ rw k (record { low = omega arith; high = omega arith })
      | inr k ↦ rw k (let year = day_before-year t in record { low = year.low; high = year.high })
    ]

-- so from any year but the first and the last an offset leads to one of 1 to 9999
with_utc-inner : (t : Timestamp) → 2 ≤ t.year → t.year ≤ 9998 → with_utc t (utc_of t) ≡ Ok t
unfolding utc_of
with_utc-inner t low high =
    let year = moved-year t (neg_ℤ (offset_minutes t)) in
    rw (in_years-in (moved (neg_ℤ (offset_minutes t)) t) (omega (arith, year.low)) (omega (arith, year.high))) refl

-- and a time of such a year is in range
pub time_in_range-inner : (t : Timestamp) → IsMoment t → 2 ≤ t.year → t.year ≤ 9998 → time_in_range true t ≡ Ok t
time_in_range-inner t m low high = rw (is_moment-true t m) (with_utc-inner t low high)
