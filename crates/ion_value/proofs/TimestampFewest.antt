-- No octets that are read to a timestamp are fewer than those that are written for it.
use Rattle.std.proofs.Common.{◌≡◌, ℕ, zero, suc, ◌+◌, ◌^◌, ◌≤◌, ◌⊎◌, inl, inr, Bool, true, false, not, ◌&&◌, ◌||◌, ◌==◌, nat_le, nat_lt, List, [], ◌∷◌, ◌++◌, length, refl, sym, ap, subst, ◌∙◌, arith, ℤ, Option, Some, None, Result, Ok, Err, option_and_then, option_map}
use Rattle.std.specs.Option.{IfSome}
use Rattle.std.proofs.lemmas.Bool.{cases_Bool, cases_lt, and_parts, lt-leb, le-leb, ne_eqb, false≢true}
use Rattle.std.proofs.lemmas.List.{length-append}
use Rattle.ion_meter.specs.declared.fault.Reason.{Reason}
use Rattle.ion_meter.specs.declared.fault.Reason.TheVariants.{BadTimestamp, Range}
use Rattle.ion_value.specs.declared.timestamp.Precision.{Precision}
use Rattle.ion_value.specs.declared.timestamp.Precision.TheVariants.{Year, Month, Day, Minute, Second, Fraction}
use Rattle.ion_value.specs.declared.timestamp.Timestamp.{Timestamp}
use Rattle.ion_value.specs.declared.var.Signed.{Signed}
use Rattle.ion_value.specs.Number.{IsVar, VarUInt, VarInt, var_uint, var_int_negative, var_int_magnitude, int_negative, int_magnitude, signed, var_cut, var_uint_octets, var_int_octets, coefficient_octets}
use Rattle.ion_value.specs.Timestamp.{IsMoment, is_moment, is_date, local_of, utc_of, utc_fields, exponent_in, is_fraction, offset_in, fields_cut, fields, second_precision, digits_after_point, in_local_time, timestamp_in_utc, timestamp_of_fields, timestamp_of_cut, timestamp_of_bytes, offset_octets, day_octets, minute_octets, second_octets, told_octets, body_in_utc, timestamp_body}
use Rattle.ion_value.proofs.Octets.{Below}
use Rattle.ion_value.proofs.Cut.{Cut, IfSome-Cut}
use Rattle.ion_value.proofs.VarOctets.{var_uint_octets-fewest, var_int_octets-fewest}
use Rattle.ion_value.proofs.DecimalOctets.{coefficient-fewest}
use Rattle.ion_value.proofs.Days.{utc_is_back, utc_of-unknown}
use Rattle.ion_value.proofs.TimestampOctets.{is_moment-is, IsOffset-offset_in}

-- ---- the fields of a body

total : List (List ℕ) → ℕ
total [] = 0
total (f ∷ fs) = length f + total fs

abbrev IsField : List ℕ → Type 0
IsField f = IsVar f × (length f ≤ 9)

abbrev AreFields : List (List ℕ) → Type 0
AreFields [] = Unit {0}
AreFields (f ∷ fs) = IsField f × AreFields fs

-- fields and the octets after them, which make up a body
record Parts (b : List ℕ) (fs : List (List ℕ)) (c : List ℕ) : Type 0 where
  pub fields : AreFields fs
  pub all : total fs + length c ≡ length b
  pub octets : Below 256 c

Below-after : (xs ys : List ℕ) → Below 256 (xs ++ ys) → Below 256 ys
Below-after [] ys h = h
Below-after (x ∷ xs) ys h = Below-after xs ys h.1

abbrev IsParts : List ℕ → List (List ℕ) × List ℕ → Type 0
IsParts b cut = Parts b cut.0 cut.1

parts-more : (b e c : List ℕ) → Cut 9 b (e, c) → (o : Option (List (List ℕ) × List ℕ)) → IfSome o (IsParts c)
    → IfSome (option_map (λ (more : List (List ℕ) × List ℕ). (e ∷ more.0, more.1)) o) (IsParts b)
unfolding total
parts-more b e c cut None h = tt
parts-more b e c cut (Some more) h =
    let long = ap (λ (l : List ℕ). length l) cut.whole ∙ length-append e c in
    record { fields = ((cut.ends, cut.short), h.fields); all = omega (arith, h.all, long); octets = h.octets }

parts-by : (b : List ℕ) (later : List ℕ → Option (List (List ℕ) × List ℕ)) (o : Option (List ℕ × List ℕ)) → IfSome o (Cut 9 b)
    → ((e c : List ℕ) → b ≡ e ++ c → IfSome (later c) (IsParts c))
    → IfSome (option_and_then (λ (cut : List ℕ × List ℕ). option_map (λ (more : List (List ℕ) × List ℕ). (cut.0 ∷ more.0, more.1)) (later cut.1)) o) (IsParts b)
parts-by b later None h k = tt
parts-by b later (Some cut) h k = parts-more b cut.0 cut.1 h (later cut.1) (k cut.0 cut.1 h.whole)

cut-parts : (most : ℕ) (b : List ℕ) → Below 256 b → IfSome (fields_cut most b) (IsParts b)
unfolding fields_cut total
cut-parts zero b octets = record { fields = tt; all = omega arith; octets = octets }
cut-parts (suc most) [] octets = record { fields = tt; all = omega arith; octets = tt }
cut-parts (suc most) (x ∷ b) octets =
    parts-by (x ∷ b) (fields_cut most) (var_cut 9 (x ∷ b)) (IfSome-Cut 9 (x ∷ b))
    (λ e c whole. cut-parts most c (Below-after e c (subst (λ (l : List ℕ). Below 256 l) whole octets)))

-- ---- the fewest octets of each

uint-fewest : (f : List ℕ) → IsField f → length (var_uint_octets (var_uint f)) ≤ length f
uint-fewest f is = var_uint_octets-fewest (var_uint f) f (record { short = is.1; ends = is.0; value = refl })

int-fewest : (negative : Bool) (f : List ℕ) → IsField f → length (var_int_octets negative (var_int_magnitude f)) ≤ length f
int-fewest negative f is =
    let z : Signed = record { negative = var_int_negative f; magnitude = var_int_magnitude f } in
    var_int_octets-fewest negative z f (record { short = is.1; ends = is.0; sign = refl; magnitude = refl })

-- an offset is written with the sign and the magnitude that it was read with
signed-octets : (negative : Bool) (n : ℕ) → (negative && (n == 0)) ≡ false → offset_octets (Some (signed negative n)) ≡ var_int_octets negative n
signed-octets true zero e = absurd (cc e)
signed-octets true (suc n) e = refl
signed-octets false n e = refl

unknown-octets : (negative : Bool) (n : ℕ) → (negative && (n == 0)) ≡ true → offset_octets None ≡ var_int_octets negative n
unknown-octets true zero e = refl
unknown-octets true (suc n) e = absurd (let no : (suc n == 0) ≡ false = ne_eqb (suc n) 0 (λ z. omega (arith, z)) in false≢true (sym no ∙ e))
unknown-octets false n e = absurd (cc e)

offset-octets : (o : List ℕ) → offset_octets (offset_in o) ≡ var_int_octets (var_int_negative o) (var_int_magnitude o)
offset-octets o =
    elim (cases_Bool (var_int_negative o && (var_int_magnitude o == 0))) [
      | inl k ↦ rw k (unknown-octets (var_int_negative o) (var_int_magnitude o) k)
      | inr k ↦ rw k (signed-octets (var_int_negative o) (var_int_magnitude o) k)
    ]

offset-fewest : (o : List ℕ) → IsField o → length (offset_octets (offset_in o)) ≤ length o
offset-fewest o is = rw (offset-octets o) (int-fewest (var_int_negative o) o is)

field-some : (o : List ℕ) → IsField o → 1 ≤ length o
field-some [] is = absurd is.0
field-some (b ∷ o) is = omega arith

-- ---- in local time

-- what a precision tells does not know the offset
told-offset : (p : Precision) (u : Timestamp) (offset : Option ℤ) → told_octets p (record u { offset = offset }) ≡ told_octets p u
told-offset Year u offset = refl
told-offset Month u offset = refl
told-offset Day u offset = refl
told-offset Minute u offset = refl
told-offset Second u offset = refl
told-offset (Fraction n) u offset = refl

one-octet : length (offset_octets None) ≡ 1
unfolding Rattle.ion_value.specs.Number.digits_within
one-octet = refl

body-is : (t u : Timestamp) → utc_of t ≡ Ok u → timestamp_body t ≡ offset_octets u.offset ++ told_octets u.precision u
unfolding timestamp_body
body-is t u e = ap body_in_utc e

body-long : (t u : Timestamp) → utc_of t ≡ Ok u → length (timestamp_body t) ≡ length (offset_octets u.offset) + length (told_octets u.precision u)
body-long t u e = ap (λ (l : List ℕ). length l) (body-is t u e) ∙ length-append (offset_octets u.offset) (told_octets u.precision u)

Ok-same : (u t : Timestamp) (r : Result Timestamp Reason) → r ≡ Ok u → r ≡ Ok t → u ≡ t
Ok-same u t r e f = cc

Ok-no : (r : Result Timestamp Reason) (t : Timestamp) (x : Reason) → r ≡ Err x → r ≡ Ok t → ⊥
Ok-no r t x e f = cc

local-fewest : (o : List ℕ) (u t : Timestamp) → IsField o → IsMoment u → u.offset ≡ None → in_local_time o u ≡ Ok t
    → length (timestamp_body t) ≤ length o + length (told_octets u.precision u)
local-fewest o u t is m none ok =
    elim (cases_Bool (is_date u.precision)) [
      | inl date ↦
          let same : u ≡ t = Ok-same u t (in_local_time o u) (rw date refl) ok in
          let long = body-long u u (utc_of-unknown u m none) in
          let one : length (offset_octets u.offset) ≡ 1 = rw none one-octet in
          let some = field-some o is in
          subst (λ (x : Timestamp). length (timestamp_body x) ≤ length o + length (told_octets u.precision u)) same (omega (arith, long, one, some))
      | inr time ↦ elim (cases_lt 1439 (var_int_magnitude o)) [
        | inl more ↦ absurd (Ok-no (in_local_time o u) t BadTimestamp (rw (time, lt-leb (var_int_magnitude o) 1439 more) refl) ok)
        | inr small ↦
            let v : Timestamp = record u { offset = offset_in o } in
            let local : local_of v ≡ Ok t = rw (time, le-leb (var_int_magnitude o) 1439 small) at ok in
            let moment : IsMoment v = record { year = m.year; date = m.date; hour = m.hour; minute = m.minute; second = m.second } in
            let long = body-long t v (utc_is_back v t moment (IsOffset-offset_in o small) local) in
            let told = ap (λ (l : List ℕ). length l) (told-offset u.precision u (offset_in o)) in
            let few = offset-fewest o is in
            omega (arith, long, told, few)
      ]
    ]

-- what a body in UTC was made of
record InUtc (o : List ℕ) (fits : Bool) (u t : Timestamp) : Type 0 where
  pub moment : IsMoment u
  pub fit : fits ≡ true
  pub local : in_local_time o u ≡ Ok t

in_utc : (o : List ℕ) (fits : Bool) (u t : Timestamp) → timestamp_in_utc o fits (Some u) ≡ Ok t → InUtc o fits u t
in_utc o fits u t ok =
    elim (cases_Bool (is_moment u && fits)) [
      | inl k ↦ let parts = and_parts (is_moment u) fits k in record { moment = is_moment-is u parts.0; fit = parts.1; local = rw k at ok }
      | inr k ↦ absurd (Ok-no (timestamp_in_utc o fits (Some u)) t BadTimestamp (rw k refl) ok)
    ]

-- ---- by fields

day-long : (t : Timestamp) → length (day_octets t) ≡ length (var_uint_octets t.year) + (length (var_uint_octets t.month) + length (var_uint_octets t.day))
day-long t =
    length-append (var_uint_octets t.year) (var_uint_octets t.month ++ var_uint_octets t.day)
    ∙ ap (λ (n : ℕ). length (var_uint_octets t.year) + n) (length-append (var_uint_octets t.month) (var_uint_octets t.day))

minute-long : (t : Timestamp)
    → length (minute_octets t) ≡ length (day_octets t) + (length (var_uint_octets t.hour) + length (var_uint_octets t.minute))
minute-long t =
    length-append (day_octets t) (var_uint_octets t.hour ++ var_uint_octets t.minute)
    ∙ ap (λ (n : ℕ). length (day_octets t) + n) (length-append (var_uint_octets t.hour) (var_uint_octets t.minute))

fraction-long : (t : Timestamp) (n : ℕ)
    → length (told_octets (Fraction n) t) ≡ length (second_octets t) + (length (var_int_octets true n) + length (coefficient_octets false t.fraction))
fraction-long t n =
    length-append (second_octets t) (var_int_octets true n ++ coefficient_octets false t.fraction)
    ∙ ap (λ (k : ℕ). length (second_octets t) + k) (length-append (var_int_octets true n) (coefficient_octets false t.fraction))

-- a fraction has no minus, or it is zero
coefficient-by : (negative : Bool) (n : ℕ) (small : Bool) (long : ℕ) → ((n == 0) || (not negative && small)) ≡ true
    → (negative ≡ false → length (coefficient_octets false n) ≤ long) → length (coefficient_octets false n) ≤ long
coefficient-by negative zero small long fits few = omega arith
coefficient-by false (suc n) small long fits few = few refl
coefficient-by true (suc n) small long fits few =
    absurd (let no : (suc n == 0) ≡ false = ne_eqb (suc n) 0 (λ z. omega (arith, z)) in false≢true (rw no at fits))

coefficient-few : (e c : List ℕ) → Below 256 c → is_fraction e c ≡ true → length (coefficient_octets false (int_magnitude c)) ≤ length c
coefficient-few e c octets fits =
    let few = coefficient-fewest c octets in
    coefficient-by (int_negative c) (int_magnitude c) (nat_lt (int_magnitude c) (10 ^ digits_after_point e)) (length c) fits
    (λ plus. rw plus at few)

-- so many digits after the point, or none
precision-few : (o e : List ℕ) (t u : Timestamp) (n : ℕ) (long : ℕ) → IsField e → u.precision ≡ second_precision n → ((n ≡ 0) ⊎ (n ≡ var_int_magnitude e))
    → length (coefficient_octets false u.fraction) ≤ long → length (told_octets (second_precision n) u) ≤ length (second_octets u) + (length e + long)
precision-few o e t u zero long is p digits few = omega arith
precision-few o e t u (suc n) long is p (inl none) few = absurd (omega (arith, none))
precision-few o e t u (suc n) long is p (inr same) few =
    let told = fraction-long u (suc n) in
    let exponent : length (var_int_octets true (suc n)) ≤ length e = rw same (int-fewest true e is) in
    omega (arith, told, exponent, few)

digits-told : (e : List ℕ) → (digits_after_point e ≡ 0) ⊎ (digits_after_point e ≡ var_int_magnitude e)
digits-told e = elim (cases_Bool (var_int_negative e)) [ inl k ↦ inr (rw k refl) | inr k ↦ inl (rw k refl) ]

fields-fewest : (o : List ℕ) (others : List (List ℕ)) (c : List ℕ) (t : Timestamp) → IsField o → AreFields others → Below 256 c
    → timestamp_in_utc o (is_fraction (exponent_in (o ∷ others)) c) (utc_fields others (int_magnitude c)) ≡ Ok t → length (timestamp_body t) ≤ length o + (total others + length c)
unfolding total
fields-fewest o [] c t is fs octets ok = absurd (cc ok)
fields-fewest o (y ∷ []) c t is fs octets ok =
    let u : Timestamp = fields Year (var_uint y) 1 1 0 0 0 0 in
    let h = in_utc o (is_fraction [] c) u t ok in
    let body = local-fewest o u t is h.moment refl h.local in
    let year = uint-fewest y fs.0 in
    omega (arith, body, year)
fields-fewest o (y ∷ m ∷ []) c t is fs octets ok =
    let u : Timestamp = fields Month (var_uint y) (var_uint m) 1 0 0 0 0 in
    let h = in_utc o (is_fraction [] c) u t ok in
    let body = local-fewest o u t is h.moment refl h.local in
    let year = uint-fewest y fs.0 in
    let month = uint-fewest m fs.1.0 in
    let told = length-append (var_uint_octets (var_uint y)) (var_uint_octets (var_uint m)) in
    omega (arith, body, told, year, month)
fields-fewest o (y ∷ m ∷ d ∷ []) c t is fs octets ok =
    let u : Timestamp = fields Day (var_uint y) (var_uint m) (var_uint d) 0 0 0 0 in
    let h = in_utc o (is_fraction [] c) u t ok in
    let body = local-fewest o u t is h.moment refl h.local in
    let year = uint-fewest y fs.0 in
    let month = uint-fewest m fs.1.0 in
    let day = uint-fewest d fs.1.1.0 in
    let told = day-long u in
    omega (arith, body, told, year, month, day)
fields-fewest o (y ∷ m ∷ d ∷ h ∷ []) c t is fs octets ok = absurd (cc ok)
fields-fewest o (y ∷ m ∷ d ∷ h ∷ i ∷ []) c t is fs octets ok =
    let u : Timestamp = fields Minute (var_uint y) (var_uint m) (var_uint d) (var_uint h) (var_uint i) 0 0 in
    let w = in_utc o (is_fraction [] c) u t ok in
    let body = local-fewest o u t is w.moment refl w.local in
    let year = uint-fewest y fs.0 in
    let month = uint-fewest m fs.1.0 in
    let day = uint-fewest d fs.1.1.0 in
    let hour = uint-fewest h fs.1.1.1.0 in
    let minute = uint-fewest i fs.1.1.1.1.0 in
    let days = day-long u in
    let told = minute-long u in
    omega (arith, body, told, days, year, month, day, hour, minute)
fields-fewest o (y ∷ m ∷ d ∷ h ∷ i ∷ s ∷ []) c t is fs octets ok =
    let u : Timestamp = fields Second (var_uint y) (var_uint m) (var_uint d) (var_uint h) (var_uint i) (var_uint s) 0 in
    let w = in_utc o (is_fraction [] c) u t ok in
    let body = local-fewest o u t is w.moment refl w.local in
    let year = uint-fewest y fs.0 in
    let month = uint-fewest m fs.1.0 in
    let day = uint-fewest d fs.1.1.0 in
    let hour = uint-fewest h fs.1.1.1.0 in
    let minute = uint-fewest i fs.1.1.1.1.0 in
    let second = uint-fewest s fs.1.1.1.1.1.0 in
    let days = day-long u in
    let minutes = minute-long u in
    let told = length-append (minute_octets u) (var_uint_octets (var_uint s)) in
    omega (arith, body, told, minutes, days, year, month, day, hour, minute, second)
fields-fewest o (y ∷ m ∷ d ∷ h ∷ i ∷ s ∷ e ∷ []) c t is fs octets ok =
    let u : Timestamp = fields (second_precision (digits_after_point e)) (var_uint y) (var_uint m) (var_uint d) (var_uint h) (var_uint i) (var_uint s) (int_magnitude c) in
    let w = in_utc o (is_fraction e c) u t ok in
    let body = local-fewest o u t is w.moment refl w.local in
    let year = uint-fewest y fs.0 in
    let month = uint-fewest m fs.1.0 in
    let day = uint-fewest d fs.1.1.0 in
    let hour = uint-fewest h fs.1.1.1.0 in
    let minute = uint-fewest i fs.1.1.1.1.0 in
    let second = uint-fewest s fs.1.1.1.1.1.0 in
    let days = day-long u in
    let minutes = minute-long u in
    let seconds = length-append (minute_octets u) (var_uint_octets (var_uint s)) in
    let few = coefficient-few e c octets w.fit in
    let told = precision-few o e t u (digits_after_point e) (length c) fs.1.1.1.1.1.1.0 refl (digits-told e) few in
    omega (arith, body, told, seconds, minutes, days, year, month, day, hour, minute, second)
fields-fewest o (y ∷ m ∷ d ∷ h ∷ i ∷ s ∷ e ∷ x ∷ others) c t is fs octets ok = absurd (cc ok)

-- ---- a body

all-fewest : (fs : List (List ℕ)) (b c : List ℕ) (t : Timestamp) → Parts b fs c → timestamp_of_fields fs c ≡ Ok t → length (timestamp_body t) ≤ length b
unfolding total
all-fewest [] b c t parts ok = absurd (cc ok)
all-fewest (o ∷ others) b c t parts ok =
    let few = fields-fewest o others c t parts.fields.0 parts.fields.1 parts.octets ok in
    let all = parts.all in
    omega (arith, few, all)

cut-fewest : (o : Option (List (List ℕ) × List ℕ)) (b : List ℕ) (t : Timestamp) → IfSome o (IsParts b) → timestamp_of_cut o ≡ Ok t → length (timestamp_body t) ≤ length b
cut-fewest None b t parts ok = absurd (cc ok)
cut-fewest (Some cut) b t parts ok =
    elim (cases_Bool (nat_le (2 ^ 128) (int_magnitude cut.1) || nat_lt 38 (digits_after_point (exponent_in cut.0)))) [
      | inl k ↦ absurd (Ok-no (timestamp_of_cut (Some cut)) t Range (rw k refl) ok)
      | inr k ↦ all-fewest cut.0 b cut.1 t parts (rw k at ok)
    ]

pub timestamp_body-fewest : (t : Timestamp) (b : List ℕ) → Below 256 b → timestamp_of_bytes b ≡ Ok t → length (timestamp_body t) ≤ length b
unfolding timestamp_of_bytes
timestamp_body-fewest t b octets ok = cut-fewest (fields_cut 8 b) b t (cut-parts 8 b octets) ok
