-- Laws of the bodies of timestamps that are written: how long they are, what the code's steps give, and that they are read as their timestamps.
use Rattle.std.proofs.Common.{◌≡◌, ℕ, zero, suc, ◌+◌, ◌*◌, ◌%◌, ◌^◌, ◌<◌, ◌≤◌, ◌⊎◌, inl, inr, Bool, true, false, not, ◌&&◌, nat_lt, nat_le, ◌==◌, List, [], ◌∷◌, ◌++◌, length, take, map, refl, sym, ap, subst, ◌∙◌, arith, zero-add, suc-add, append_assoc, ℤ, pos, negsuc, Option, Some, None, option_and_then, Result, Ok, Err}
use Rattle.std.proofs.lemmas.Int.{ints}
use Rattle.std.proofs.lemmas.Bool.{cases_Bool, cases_lt, ne_eqb, or_right, lt-ltb, le-leb}
use Rattle.std.proofs.lemmas.List.{length-append, length-take, length-map}
use Rattle.std.proofs.Math.Nat.{pow-le-pow_right}
use Rattle.ion_meter.specs.declared.fault.Reason.{Reason}
use Rattle.ion_value.specs.declared.timestamp.Precision.{Precision}
use Rattle.ion_value.specs.declared.timestamp.Precision.TheVariants.{Year, Month, Day, Minute, Second, Fraction}
use Rattle.ion_value.specs.declared.timestamp.Timestamp.{Timestamp}
use Rattle.ion_value.specs.declared.var.Signed.{Signed}
use Rattle.ion_value.specs.Number.{IsVar, var_uint, VarUInt, VarInt, int_negative, int_magnitude, var_int_magnitude, var_cut, digits_in, marked, with_sign, var_uint_octets, var_int_octets, coefficient_octets}
use Rattle.ion_value.specs.Timestamp.{IsMoment, IsOffset, IsTimestamp, KeepsPrecision, is_date, utc_of, offset_octets, day_octets, minute_octets, second_octets, told_octets, body_in_utc, timestamp_body, offset_in, fields_cut, in_local_time, timestamp_of_bytes}
use Rattle.ion_value.specs.TimestampFields.{first_field, utc_of_numbers, if_moment, timestamp_of_parts, parts_told, whole_octets}
use Rattle.ion_value.proofs.Days.{utc_of-unknown, utc-is, local_is_back}
use Rattle.std.specs.List.{All}
use Rattle.jiff_core.proofs.CalendarLemmas.{days_in_month_bounds}
use Rattle.ion_value.proofs.Numbers.{IsVar-pos}
use Rattle.ion_value.proofs.VarOctets.{var_uint-spelled, var_uint_octets-VarUInt, var_int_octets-VarInt, var_int_octets-Below, Below-marked}
use Rattle.ion_value.proofs.Octets.{Below, Below-append, All-Below, digits_in-Digits, Signing, with_sign-Signing}
use Rattle.ion_value.proofs.Cut.{var_cut-IsVar}
use Rattle.ion_value.proofs.TimestampOctets.{PartsRead, all-read, append-none, bytes-read, fields_cut-empty, fields_cut-some, fits, if_moment-is, joined, joined-more, joined-none, keeps-moved, one-cut, parts-moment}

-- ---- how long what is written is at most

-- groups of seven bits in octets are as many
length-marked : (ds : List ℕ) (k : ℕ) → length ds ≤ k → 0 < k → length (marked ds) ≤ k
length-marked [] k few some = omega arith
length-marked (d ∷ []) k few some = omega arith
length-marked (d ∷ e ∷ ds) (suc k) few some = let rest = length-marked (e ∷ ds) k (omega arith) (omega arith) in omega arith
length-marked (d ∷ e ∷ ds) zero few some = absurd (omega arith)

-- a VarUInt, a VarInt and a coefficient have as many octets as their bits need
pub var_uint-short : (n k : ℕ) → 0 < k → n < 128 ^ k → length (var_uint_octets n) ≤ k
var_uint-short n k some small =
    let digits = digits_in-Digits 128 n (omega arith) in
    elim (cases_lt k (length (digits_in 128 n))) [
      | inl more ↦ absurd (omega (arith, digits.least k more))
      | inr few ↦ length-marked (digits_in 128 n) k few some
    ]

signing-short : (base bit n k : ℕ) (negative : Bool) (s : List ℕ) → 0 < base → Signing base bit negative n s → 0 < k → 2 * n + 1 < base ^ k → length s ≤ k
signing-short base bit n zero negative s positive h some small = absurd (omega arith)
signing-short base bit n (suc k) negative s positive h some small =
    let long : length s ≡ suc (length h.rest) = ap length h.is in
    elim (cases_lt k (length h.rest)) [
      | inl more ↦
          let powers : base ^ suc k ≤ base ^ length h.rest = pow-le-pow_right positive more in
          absurd (omega (arith, h.least))
      | inr few ↦ omega arith
    ]

pub var_int-short : (negative : Bool) (n k : ℕ) → 0 < k → 2 * n + 1 < 128 ^ k → length (var_int_octets negative n) ≤ k
var_int-short negative n k some small =
    let s : List ℕ = with_sign 64 negative (digits_in 128 n) in
    let signing = with_sign-Signing 128 64 n negative (digits_in 128 n) (omega arith) refl (digits_in-Digits 128 n (omega arith)) in
    length-marked s k (signing-short 128 64 n k negative s (omega arith) signing some small) some

pub coefficient-short : (n k : ℕ) → 0 < k → 2 * n + 1 < 256 ^ k → length (coefficient_octets false n) ≤ k
coefficient-short zero k some small = omega arith
coefficient-short (suc n) k some small =
    let s : List ℕ = with_sign 128 false (digits_in 256 (suc n)) in
    let signing = with_sign-Signing 256 128 (suc n) false (digits_in 256 (suc n)) (omega arith) refl (digits_in-Digits 256 (suc n) (omega arith)) in
    signing-short 256 128 (suc n) k false s (omega arith) signing some small

-- a fraction of at most 38 digits
pub fraction-short : (digits n : ℕ) → digits ≤ 38 → n < 10 ^ digits → length (coefficient_octets false n) ≤ 16
fraction-short digits n few small =
    let powers : 10 ^ digits ≤ 10 ^ 38 = pow-le-pow_right {n = 10} (omega arith) few in
    coefficient-short n 16 (omega arith) (omega arith)

-- an offset has at most two octets, and a body without its fraction nine
pub offset-short : (offset : Option ℤ) → IsOffset offset → length (offset_octets offset) ≤ 2
offset-short None h = var_int-short true 0 2 (omega arith) (omega arith)
offset-short (Some (pos n)) h = var_int-short false n 2 (omega arith) (omega (arith, ints, h.1))
offset-short (Some (negsuc n)) h = var_int-short true (suc n) 2 (omega arith) (omega (arith, ints, h.0))

pub whole-short : (t : Timestamp) → IsMoment t → IsOffset t.offset → length (whole_octets t) ≤ 9
whole-short t m offset =
    let year = m.year in
    let offset_few = offset-short t.offset offset in
    let year_few = var_uint-short t.year 2 (omega arith) (omega arith) in
    let parts : length (take (parts_told t.precision) (t.month ∷ t.day ∷ t.hour ∷ t.minute ∷ t.second ∷ [])) ≤ 5 = rw length-take (omega arith) in
    rw (length-append, length-append, length-map) (omega arith)

-- ---- what is written

-- a number below 128 is a VarUInt of one octet
one-octet : (n : ℕ) → n < 128 → var_uint_octets n ≡ (n + 128) ∷ []
one-octet n small =
    let low : (n + 128) % 128 ≡ n = omega arith in
    let one : VarUInt n ((n + 128) ∷ []) = record { short = omega arith; ends = omega arith; value = rw low (omega arith) } in
    sym (var_uint-spelled n ((n + 128) ∷ []) one (omega arith, tt) (λ c h. let some = IsVar-pos c h.ends in omega arith) (omega arith))

-- a precision without a fraction
abbrev pub is_whole : Precision → Bool
is_whole (Fraction n) = false
is_whole _ = true

-- the parts after the year, each in one octet
parts_octets : (p : Precision) (t : Timestamp) → IsMoment t → is_whole p ≡ true
    → told_octets p t ≡ var_uint_octets t.year ++ map (λ n. n + 128) (take (parts_told p) (t.month ∷ t.day ∷ t.hour ∷ t.minute ∷ t.second ∷ []))
parts_octets Year t m h = sym (append-none (var_uint_octets t.year))
parts_octets Month t m h =
    let month = one-octet t.month (omega (arith, m.date.1.1)) in
    rw month refl
parts_octets Day t m h =
    let month = one-octet t.month (omega (arith, m.date.1.1)) in
    let day = one-octet t.day (omega (arith, m.date.2.1, days_in_month_bounds (pos t.year) t.month)) in
    rw (month, day) refl
parts_octets Minute t m h =
    let month = one-octet t.month (omega (arith, m.date.1.1)) in
    let day = one-octet t.day (omega (arith, m.date.2.1, days_in_month_bounds (pos t.year) t.month)) in
    let hour = one-octet t.hour (omega (arith, m.hour)) in
    let minute = one-octet t.minute (omega (arith, m.minute)) in
    rw (month, day, hour, minute, append_assoc) refl
parts_octets Second t m h =
    let month = one-octet t.month (omega (arith, m.date.1.1)) in
    let day = one-octet t.day (omega (arith, m.date.2.1, days_in_month_bounds (pos t.year) t.month)) in
    let hour = one-octet t.hour (omega (arith, m.hour)) in
    let minute = one-octet t.minute (omega (arith, m.minute)) in
    let second = one-octet t.second (omega (arith, m.second)) in
    simp (month, day, hour, minute, second, append_assoc)
parts_octets (Fraction n) t m h = cc

-- a body without its fraction, as the definition has it
whole-is : (p : Precision) (t : Timestamp) → parts_told t.precision ≡ parts_told p → IsMoment t → is_whole p ≡ true → whole_octets t ≡ offset_octets t.offset ++ told_octets p t
whole-is p t e m h =
    rw append_assoc (ap (λ (l : List ℕ). offset_octets t.offset ++ l) (
    ap (λ (k : ℕ). var_uint_octets t.year ++ map (λ n. n + 128) (take k (t.month ∷ t.day ∷ t.hour ∷ t.minute ∷ t.second ∷ []))) e
    ∙ sym (parts_octets p t m h)
    ))

-- a precision that is no fraction
not_fraction : (p : Precision) → ((n : ℕ) → p ≡ Fraction n → ⊥) → is_whole p ≡ true
not_fraction Year h = refl
not_fraction Month h = refl
not_fraction Day h = refl
not_fraction Minute h = refl
not_fraction Second h = refl
not_fraction (Fraction n) h = absurd (h n refl)

-- UTC is a moment
pub utc-moment : (t u : Timestamp) → IsMoment t → IsOffset t.offset → utc_of t ≡ Ok u → IsMoment u
utc-moment t u m offset e = let moved = (utc-is t m offset).moved in let is = rw e at moved in is.0

-- the body of a timestamp without a fraction, and of one with a fraction
pub body-whole : (t u : Timestamp) → utc_of t ≡ Ok u → IsMoment u → ((n : ℕ) → u.precision ≡ Fraction n → ⊥) → whole_octets u ≡ timestamp_body t
unfolding timestamp_body
body-whole t u e m h = whole-is u.precision u refl m (not_fraction u.precision h) ∙ sym (ap body_in_utc e)

pub body-fraction : (t u : Timestamp) (n : ℕ) → utc_of t ≡ Ok u → IsMoment u → u.precision ≡ Fraction n
    → whole_octets u ++ (var_int_octets true n ++ coefficient_octets false u.fraction) ≡ timestamp_body t
unfolding timestamp_body
body-fraction t u n e m is =
    let told : told_octets u.precision u ≡ told_octets (Fraction n) u = ap (λ (p : Precision). told_octets p u) is in
    let whole : whole_octets u ≡ offset_octets u.offset ++ told_octets Second u = whole-is Second u (ap parts_told is) m refl in
    ap (λ (l : List ℕ). l ++ (var_int_octets true n ++ coefficient_octets false u.fraction)) whole
    ∙ append_assoc (offset_octets u.offset) (told_octets Second u) (var_int_octets true n ++ coefficient_octets false u.fraction)
    ∙ ap (λ (l : List ℕ). offset_octets u.offset ++ l) (sym told)
    ∙ sym (ap body_in_utc e)

-- each is an octet
Below-var_uint : (n : ℕ) → Below 256 (var_uint_octets n)
Below-var_uint n = Below-marked (digits_in 128 n) (digits_in-Digits 128 n (omega arith)).below

Below-coefficient : (n : ℕ) → Below 256 (coefficient_octets false n)
Below-coefficient zero = tt
Below-coefficient (suc n) =
    let signing = with_sign-Signing 256 128 (suc n) false (digits_in 256 (suc n)) (omega arith) refl (digits_in-Digits 256 (suc n) (omega arith)) in
    rw signing.is (signing.below, signing.rest_below)

Below-offset : (offset : Option ℤ) → Below 256 (offset_octets offset)
Below-offset None = var_int_octets-Below true 0
Below-offset (Some (pos n)) = var_int_octets-Below false n
Below-offset (Some (negsuc n)) = var_int_octets-Below true (suc n)

Below-day : (t : Timestamp) → Below 256 (day_octets t)
Below-day t = Below-append 256 _ _ (Below-var_uint t.year) (Below-append 256 _ _ (Below-var_uint t.month) (Below-var_uint t.day))

Below-minute : (t : Timestamp) → Below 256 (minute_octets t)
Below-minute t = Below-append 256 _ _ (Below-day t) (Below-append 256 _ _ (Below-var_uint t.hour) (Below-var_uint t.minute))

Below-second : (t : Timestamp) → Below 256 (second_octets t)
Below-second t = Below-append 256 _ _ (Below-minute t) (Below-var_uint t.second)

Below-told : (p : Precision) (t : Timestamp) → Below 256 (told_octets p t)
Below-told Year t = Below-var_uint t.year
Below-told Month t = Below-append 256 _ _ (Below-var_uint t.year) (Below-var_uint t.month)
Below-told Day t = Below-day t
Below-told Minute t = Below-minute t
Below-told Second t = Below-second t
Below-told (Fraction n) t = Below-append 256 _ _ (Below-second t) (Below-append 256 _ _ (var_int_octets-Below true n) (Below-coefficient t.fraction))

Below-body_in_utc : (r : Result Timestamp Reason) → Below 256 (body_in_utc r)
Below-body_in_utc (Ok u) = Below-append 256 _ _ (Below-offset u.offset) (Below-told u.precision u)
Below-body_in_utc (Err e) = tt

pub body-octets : (t : Timestamp) → All (λ octet. octet < 256) (timestamp_body t)
unfolding timestamp_body
body-octets t = All-Below 256 (timestamp_body t) (Below-body_in_utc (utc_of t))

-- ---- what is written is read

-- fields one after the other, and octets after them
together : List (List ℕ) → List ℕ → List ℕ
together [] rest = rest
together (g ∷ gs) rest = g ++ together gs rest

-- VarUInts of these numbers
Small : List ℕ → Type 0
Small [] = Unit {0}
Small (n ∷ ns) = (n < 2 ^ 63) × Small ns

-- VarUInts one after the other are cut as they were
together-cut : (ns : List ℕ) (k : ℕ) (rest : List ℕ) → Small ns
    → fields_cut (length ns + k) (together (map var_uint_octets ns) rest) ≡ joined (map var_uint_octets ns) (fields_cut k rest)
unfolding together Small
together-cut [] k rest small = rw zero-add (sym (joined-none (fields_cut k rest)))
together-cut (n ∷ ns) k rest small =
    let one = var_uint_octets-VarUInt n small.0 in
    let tail : List ℕ = together (map var_uint_octets ns) rest in
    let cut : var_cut 9 (var_uint_octets n ++ tail) ≡ Some (var_uint_octets n, tail) = var_cut-IsVar 9 (var_uint_octets n) tail one.ends one.short in
    ap (λ (j : ℕ). fields_cut j (var_uint_octets n ++ tail)) (suc-add (length ns) k)
    ∙ fields_cut-some (length ns + k) (var_uint_octets n ++ tail) (var_uint_octets n) tail cut
    ∙ ap (joined (var_uint_octets n ∷ [])) (together-cut ns k rest small.1)
    ∙ joined-more (var_uint_octets n ∷ []) (map var_uint_octets ns) (fields_cut k rest)

-- and spell their numbers
numbers-read : (ns : List ℕ) → Small ns → map var_uint (map var_uint_octets ns) ≡ ns
unfolding Small
numbers-read [] small = refl
numbers-read (n ∷ ns) small =
    let value = (var_uint_octets-VarUInt n small.0).value in
    rw (← value, numbers-read ns small.1) refl

-- the numbers that a precision tells, and the fraction after them
numbers_told : Precision → Timestamp → List ℕ
numbers_told p t = take (suc (parts_told p)) (t.year ∷ t.month ∷ t.day ∷ t.hour ∷ t.minute ∷ t.second ∷ [])

fraction_told : Precision → Timestamp → List ℕ
fraction_told (Fraction n) t = var_int_octets true n ++ coefficient_octets false t.fraction
fraction_told _ t = []

-- the fields of a precision one after the other
told-together : (p : Precision) (t : Timestamp) → told_octets p t ≡ together (map var_uint_octets (numbers_told p t)) (fraction_told p t)
unfolding together numbers_told fraction_told
told-together Year t = sym (append-none (var_uint_octets t.year))
told-together Month t = simp append-none
told-together Day t = simp append-none
told-together Minute t = simp (append_assoc, append-none)
told-together Second t = simp (append_assoc, append-none)
told-together (Fraction n) t = simp append_assoc

-- they are small
Small-take : (k : ℕ) (ns : List ℕ) → Small ns → Small (take k ns)
unfolding Small
Small-take zero ns small = tt
Small-take (suc k) [] small = tt
Small-take (suc k) (n ∷ ns) small = (small.0, Small-take k ns small.1)

Small-told : (p : Precision) (t : Timestamp) → IsMoment t → Small (numbers_told p t)
unfolding Small numbers_told
Small-told p t m =
    let year = m.year in
    let month = m.date.1 in
    let day = m.date.2 in
    let hour = m.hour in
    let minute = m.minute in
    let second = m.second in
    let few = days_in_month_bounds (pos t.year) t.month in
    Small-take (suc (parts_told p)) (t.year ∷ t.month ∷ t.day ∷ t.hour ∷ t.minute ∷ t.second ∷ [])
    (omega arith, (omega arith, (omega arith, (omega arith, (omega arith, (omega arith, tt))))))

-- six of them at most, and what stands after them
told-cut-by : (p : Precision) (t : Timestamp) (k : ℕ) → IsMoment t → length (numbers_told p t) + k ≡ 6 → ((k ≡ 0) ⊎ (fraction_told p t ≡ []))
    → fields_cut 6 (told_octets p t) ≡ Some (map var_uint_octets (numbers_told p t), fraction_told p t)
told-cut-by p t k m six ended =
    let ns : List ℕ = numbers_told p t in
    let rest : List ℕ = fraction_told p t in
    ap (fields_cut 6) (told-together p t)
    ∙ ap (λ (j : ℕ). fields_cut j (together (map var_uint_octets ns) rest)) (sym six)
    ∙ together-cut ns k rest (Small-told p t m)
    ∙ all-read (map var_uint_octets ns) rest k ended

-- for each precision
told-cut : (p : Precision) (t : Timestamp) → IsMoment t
    → fields_cut 6 (told_octets p t) ≡ Some (map var_uint_octets (numbers_told p t), fraction_told p t)
unfolding numbers_told fraction_told
told-cut Year t m = told-cut-by Year t 5 m refl (inr refl)
told-cut Month t m = told-cut-by Month t 4 m refl (inr refl)
told-cut Day t m = told-cut-by Day t 3 m refl (inr refl)
told-cut Minute t m = told-cut-by Minute t 1 m refl (inr refl)
told-cut Second t m = told-cut-by Second t 0 m refl (inr refl)
told-cut (Fraction n) t m = told-cut-by (Fraction n) t 0 m refl (inl refl)

-- the exponent after them, and the coefficient
exponent_told : Precision → List (List ℕ)
exponent_told (Fraction n) = var_int_octets true n ∷ []
exponent_told _ = []

coefficient_told : Precision → Timestamp → List ℕ
coefficient_told (Fraction n) t = coefficient_octets false t.fraction
coefficient_told _ t = []

-- the exponent is cut from the coefficient
fraction-cut : (p : Precision) (t : Timestamp) → KeepsPrecision p t → fields_cut 1 (fraction_told p t) ≡ Some (exponent_told p, coefficient_told p t)
unfolding fraction_told exponent_told coefficient_told
fraction-cut Year t h = fields_cut-empty 1
fraction-cut Month t h = fields_cut-empty 1
fraction-cut Day t h = fields_cut-empty 1
fraction-cut Minute t h = fields_cut-empty 1
fraction-cut Second t h = fields_cut-empty 1
fraction-cut (Fraction n) t h =
    let exponent : Signed = record { negative = true; magnitude = n } in
    let is : VarInt exponent (var_int_octets true n) = var_int_octets-VarInt exponent (omega (arith, h.1)) in
    one-cut (var_int_octets true n ++ coefficient_octets false t.fraction) (var_int_octets true n) (coefficient_octets false t.fraction)
    (var_cut-IsVar 9 (var_int_octets true n) (coefficient_octets false t.fraction) is.ends is.short)

-- the offset
record OffsetRead (offset : Option ℤ) : Type 0 where
  pub small : var_int_magnitude (offset_octets offset) ≤ 1439
  pub same : offset_in (offset_octets offset) ≡ offset
  pub ends : IsVar (offset_octets offset)
  pub short : length (offset_octets offset) ≤ 9

-- an offset that is written is read
offset-read : (offset : Option ℤ) → IsOffset offset → OffsetRead offset
offset-read None h =
    let z : Signed = record { negative = true; magnitude = 0 } in
    let is : VarInt z (var_int_octets true 0) = var_int_octets-VarInt z (omega arith) in
    record { small = rw (← is.magnitude) (omega arith); same = rw (← is.sign, ← is.magnitude) refl; ends = is.ends; short = is.short }
offset-read (Some (pos n)) h =
    let few : n ≤ 1439 = omega (arith, ints, h.1) in
    let z : Signed = record { negative = false; magnitude = n } in
    let is : VarInt z (var_int_octets false n) = var_int_octets-VarInt z (omega arith) in
    record { small = rw (← is.magnitude) few; same = rw (← is.sign, ← is.magnitude) refl; ends = is.ends; short = is.short }
offset-read (Some (negsuc n)) h =
    let few : suc n ≤ 1439 = omega (arith, ints, h.0) in
    let z : Signed = record { negative = true; magnitude = suc n } in
    let is : VarInt z (var_int_octets true (suc n)) = var_int_octets-VarInt z (omega arith) in
    let some : (suc n == 0) ≡ false = ne_eqb (suc n) 0 (λ e. omega arith) in
    record { small = rw (← is.magnitude) few; same = rw (← is.sign, ← is.magnitude, some) refl; ends = is.ends; short = is.short }

-- the coefficient
coefficient-read : (n : ℕ) → (int_negative (coefficient_octets false n) ≡ false) × (int_magnitude (coefficient_octets false n) ≡ n)
coefficient-read zero = (refl, refl)
coefficient-read (suc n) =
    let signing = with_sign-Signing 256 128 (suc n) false (digits_in 256 (suc n)) (omega arith) refl (digits_in-Digits 256 (suc n) (omega arith)) in
    rw signing.is (signing.sign, signing.magnitude)

-- ---- a timestamp in UTC is read from its body

-- the digits and the coefficient that a precision tells
digits_told : Precision → ℕ
digits_told (Fraction n) = n
digits_told _ = 0

fraction_of : Precision → Timestamp → ℕ
fraction_of (Fraction n) t = t.fraction
fraction_of _ t = 0

-- they are read
parts-told : (p : Precision) (t : Timestamp) → KeepsPrecision p t
    → PartsRead (first_field (exponent_told p)) (coefficient_told p t) (digits_told p) false (fraction_of p t) × (true ≡ fits (digits_told p) false (fraction_of p t))
unfolding exponent_told coefficient_told digits_told fraction_of
parts-told Year t h = (record { digits_read = refl; few = omega arith; negative_read = refl; fraction_read = refl; in_range = λ large. omega arith }, refl)
parts-told Month t h = (record { digits_read = refl; few = omega arith; negative_read = refl; fraction_read = refl; in_range = λ large. omega arith }, refl)
parts-told Day t h = (record { digits_read = refl; few = omega arith; negative_read = refl; fraction_read = refl; in_range = λ large. omega arith }, refl)
parts-told Minute t h = (record { digits_read = refl; few = omega arith; negative_read = refl; fraction_read = refl; in_range = λ large. omega arith }, refl)
parts-told Second t h = (record { digits_read = refl; few = omega arith; negative_read = refl; fraction_read = refl; in_range = λ large. omega arith }, refl)
parts-told (Fraction n) t h =
    let exponent : Signed = record { negative = true; magnitude = n } in
    let is : VarInt exponent (var_int_octets true n) = var_int_octets-VarInt exponent (omega (arith, h.1)) in
    let read = coefficient-read t.fraction in
    let powers : 10 ^ n ≤ 10 ^ 38 = pow-le-pow_right {n = 10} (omega arith) h.1 in
    let below : nat_lt t.fraction (10 ^ n) ≡ true = lt-ltb t.fraction (10 ^ n) h.2 in (
      record {
        digits_read = rw (← is.sign, ← is.magnitude) refl;
        few = h.1;
        negative_read = sym read.0;
        fraction_read = sym read.1;
        in_range = λ large. omega (arith, h.2, read.1);
      },
      sym (or_right (t.fraction == 0) (not false && nat_lt t.fraction (10 ^ n)) below),
    )

-- what the numbers tell is the timestamp without its offset
told-is : (p : Precision) (t : Timestamp) → t.precision ≡ p → KeepsPrecision p t → utc_of_numbers (numbers_told p t) (digits_told p) (fraction_of p t) ≡ Some (record t { offset = None })
unfolding numbers_told digits_told fraction_of
told-is Year t e h = rw (e, h.0, h.1, h.2, h.3, h.4, h.5) refl
told-is Month t e h = rw (e, h.0, h.1, h.2, h.3, h.4) refl
told-is Day t e h = rw (e, h.0, h.1, h.2, h.3) refl
told-is Minute t e h = rw (e, h.0, h.1) refl
told-is Second t e h = rw (e, h) refl
told-is (Fraction zero) t e h = absurd (omega (arith, h.0))
told-is (Fraction (suc n)) t e h = rw e refl

-- the offset of a date is unknown
date-unknown : (p : Precision) (t : Timestamp) → is_date p ≡ true → KeepsPrecision p t → t.offset ≡ None
date-unknown Year t date h = h.6
date-unknown Month t date h = h.5
date-unknown Day t date h = h.4
date-unknown Minute t date h = cc
date-unknown Second t date h = cc
date-unknown (Fraction n) t date h = cc

-- what UTC is to a timestamp
record UtcOf (t u : Timestamp) : Type 0 where
  pub moment : IsMoment u
  pub offset : IsOffset u.offset
  pub precision : KeepsPrecision u.precision u
  pub date : is_date u.precision ≡ true → u ≡ t

-- UTC is of that kind
utc_of-is : (t u : Timestamp) → IsTimestamp t → utc_of t ≡ Ok u → UtcOf t u
utc_of-is t u h e =
    let moved = (utc-is t h.moment h.offset).moved in
    let is = rw e at moved in
    let same_offset : u.offset ≡ t.offset = ap (λ (x : Timestamp). x.offset) is.1.same in
    let same_precision : u.precision ≡ t.precision = ap (λ (x : Timestamp). x.precision) is.1.same in
    let date : is_date t.precision ≡ true → u ≡ t = λ d. let back = utc_of-unknown t h.moment (date-unknown t.precision t d h.precision) in cc in
    let P : Timestamp → Type 0 = λ x. KeepsPrecision x.precision x in
    record {
      moment = is.0;
      offset = rw same_offset h.offset;
      precision =
          elim (cases_Bool (is_date t.precision)) [
            | inl d ↦ subst P (sym (date d)) h.precision
            | inr d ↦ subst P (sym is.1.same) (keeps-moved t.precision t u.year u.month u.day u.hour u.minute d h.precision)
          ];
      date = λ d. date (ap is_date (sym same_precision) ∙ d);
    }

-- its local time
local-back : (t u : Timestamp) → IsTimestamp t → utc_of t ≡ Ok u → UtcOf t u → in_local_time (offset_octets u.offset) (record u { offset = None }) ≡ Ok t
local-back t u h e is =
    let offset = offset-read u.offset is.offset in
    elim (cases_Bool (is_date u.precision)) [
      | inl d ↦
          let unknown : None ≡ u.offset = sym (date-unknown u.precision u d is.precision) in
          rw d (ap (λ (o : Option ℤ). Ok (record u { offset = o })) unknown ∙ ap Ok (is.date d))
      | inr d ↦
          let small : nat_le (var_int_magnitude (offset_octets u.offset)) 1439 ≡ true = le-leb _ _ offset.small in
          rw (d, small, offset.same) (local_is_back t u h.moment h.offset e)
    ]

-- a body in UTC is read as its timestamp
utc-back : (t u : Timestamp) → IsTimestamp t → utc_of t ≡ Ok u → UtcOf t u → timestamp_of_bytes (offset_octets u.offset ++ told_octets u.precision u) ≡ Ok t
utc-back t u h e is =
    let p : Precision = u.precision in
    let o : List ℕ = offset_octets u.offset in
    let ns : List ℕ = numbers_told p u in
    let g : List (List ℕ) = map var_uint_octets ns in
    let v : Timestamp = record u { offset = None } in
    let offset = offset-read u.offset is.offset in
    let read = bytes-read (o ++ told_octets p u) (told_octets p u) (fraction_told p u) (coefficient_told p u) (o ∷ []) g (exponent_told p)
    (one-cut (o ++ told_octets p u) o (told_octets p u) (var_cut-IsVar 9 o (told_octets p u) offset.ends offset.short))
    (told-cut p u is.moment) (fraction-cut p u is.precision) in
    let numbers : map var_uint g ≡ ns = numbers-read ns (Small-told p u is.moment) in
    let parts = parts-told p u is.precision in
    let m = is.moment in
    let moment : IsMoment v = record { year = m.year; date = m.date; hour = m.hour; minute = m.minute; second = m.second } in
    let told : option_and_then if_moment (utc_of_numbers ns (digits_told p) (fraction_of p u)) ≡ Some v =
    ap (option_and_then if_moment) (told-is p u refl is.precision) ∙ if_moment-is v moment in
    let given = parts-moment o ns (first_field (exponent_told p)) (coefficient_told p u) (digits_told p) false (fraction_of p u) v parts.0 parts.1 (sym told) in
    read
    ∙ ap (λ (xs : List ℕ). timestamp_of_parts o xs (first_field (exponent_told p)) (coefficient_told p u)) numbers
    ∙ sym given
    ∙ local-back t u h e is

-- the body that is written is read as its timestamp
pub bytes-back : (t : Timestamp) → IsTimestamp t → timestamp_of_bytes (timestamp_body t) ≡ Ok t
unfolding timestamp_body
bytes-back t h =
    let u : Timestamp = h.utc.0 in
    let e : utc_of t ≡ Ok u = h.utc.1 in
    ap (λ (r : Result Timestamp Reason). timestamp_of_bytes (body_in_utc r)) e ∙ utc-back t u h e (utc_of-is t u h e)
