-- Worked rows: what the definitions give at octets and ints that were worked out by hand.
use Rattle.std.proofs.Common.{◌≡◌, arith, refl, [], ◌∷◌, ◌++◌, replicate, true, false, pos, negsuc, Ok, Err, Some, None}
use Rattle.std.specs.Prelude.{codes}
use Rattle.std.specs.Fmt.{digits}
use Rattle.ion_meter.specs.declared.fault.Reason.TheVariants.{BadVar, BadToken, BadTimestamp, Range, Float}
use Rattle.ion_value.specs.Number.{var_uint, VarUInt, var_int_negative, var_int_magnitude, VarInt, uint, var_cut, digits_within, uint_octets, var_uint_octets, var_int_octets}
use Rattle.ion_value.specs.Digits.{cut_at, fixed_digits}
use Rattle.ion_value.specs.Int.{int_text, int_of_text}
use Rattle.ion_value.specs.declared.timestamp.Precision.TheVariants.{Year, Month, Day, Minute, Second, Fraction}
use Rattle.ion_value.specs.Timestamp.{fields, fields_cut, local_of, utc_of, timestamp_of_bytes, timestamp_body, timestamp_of_text, timestamp_text}
use Rattle.ion_value.specs.Decimal.{decimal_of_bytes, decimal_body, decimal_of_text, decimal_text, parts_of}

var_uint-one : var_uint (0x81 ∷ []) ≡ 1
var_uint-one = refl

var_uint-two_octets : var_uint (0x0E ∷ 0x90 ∷ []) ≡ 1808
var_uint-two_octets = refl

two_octets : VarUInt 1808 (0x0E ∷ 0x90 ∷ [])
two_octets = record { short = omega arith; ends = (omega arith, omega arith); value = refl }

var_uint-leading_zero : var_uint (0x00 ∷ 0x81 ∷ []) ≡ 1
var_uint-leading_zero = refl

var_uint-nine : var_uint (0x7F ∷ 0x7F ∷ 0x7F ∷ 0x7F ∷ 0x7F ∷ 0x7F ∷ 0x7F ∷ 0x7F ∷ 0xFF ∷ []) ≡ 0x7FFF_FFFF_FFFF_FFFF
var_uint-nine = refl

var_int-minus_zero : var_int_negative (0xC0 ∷ []) ≡ true
var_int-minus_zero = refl

var_int-zero : var_int_negative (0x80 ∷ []) ≡ false
var_int-zero = refl

var_int-two_octets : var_int_magnitude (0x40 ∷ 0xC0 ∷ []) ≡ 64
var_int-two_octets = refl

var_int-nine : var_int_magnitude (0x7F ∷ 0x7F ∷ 0x7F ∷ 0x7F ∷ 0x7F ∷ 0x7F ∷ 0x7F ∷ 0x7F ∷ 0xFF ∷ []) ≡ 0x3FFF_FFFF_FFFF_FFFF
var_int-nine = refl

minus_64 : VarInt (record { negative = true; magnitude = 64 }) (0x40 ∷ 0xC0 ∷ [])
minus_64 = record { short = omega arith; ends = (omega arith, omega arith); sign = refl; magnitude = refl }

minus_zero : VarInt (record { negative = true; magnitude = 0 }) (0xC0 ∷ [])
minus_zero = record { short = omega arith; ends = omega arith; sign = refl; magnitude = refl }

uint-empty : uint [] ≡ 0
uint-empty = refl

uint-two_octets : uint (1 ∷ 0 ∷ []) ≡ 256
uint-two_octets = refl

int_text-minus_seven : int_text (record { negative = true; magnitude = 7 }) ≡ codes "-7"
unfolding digits
int_text-minus_seven = refl

int_text-zero : int_text (record { negative = false; magnitude = 0 }) ≡ codes "0"
unfolding digits
int_text-zero = refl

int_text-largest : int_text (record { negative = false; magnitude = 340282366920938463463374607431768211455 }) ≡ codes "340282366920938463463374607431768211455"
unfolding digits
int_text-largest = refl

-- ---- the fewest octets

uint_octets-zero : uint_octets 0 ≡ []
unfolding digits_within
uint_octets-zero = refl

uint_octets-largest : uint_octets 340282366920938463463374607431768211455 ≡ replicate 16 0xFF
unfolding digits_within
uint_octets-largest = refl

var_uint_octets-zero : var_uint_octets 0 ≡ 0x80 ∷ []
unfolding digits_within
var_uint_octets-zero = refl

var_uint_octets-two : var_uint_octets 2011 ≡ 0x0F ∷ 0xDB ∷ []
unfolding digits_within
var_uint_octets-two = refl

var_int_octets-offset : var_int_octets true 480 ≡ 0x43 ∷ 0xE0 ∷ []
unfolding digits_within
var_int_octets-offset = refl

var_int_octets-sign_octet : var_int_octets true 64 ≡ 0x40 ∷ 0xC0 ∷ []
unfolding digits_within
var_int_octets-sign_octet = refl

-- ---- ints in text

int-minus_zero : int_of_text (codes "-0") ≡ Ok (record { negative = false; magnitude = 0 })
unfolding int_of_text
int-minus_zero = refl

int-largest : int_of_text (codes "340282366920938463463374607431768211455") ≡ Ok (record { negative = false; magnitude = 340282366920938463463374607431768211455 })
unfolding int_of_text
int-largest = refl

int-too_large : int_of_text (codes "340282366920938463463374607431768211456") ≡ Err Range
unfolding int_of_text
int-too_large = refl

int-underscores : int_of_text (codes "-1_000") ≡ Ok (record { negative = true; magnitude = 1000 })
unfolding int_of_text
int-underscores = refl

int-last_underscore : int_of_text (codes "1_") ≡ Err BadToken
unfolding int_of_text
int-last_underscore = refl

int-two_underscores : int_of_text (codes "1__0") ≡ Err BadToken
unfolding int_of_text
int-two_underscores = refl

int-leading_zero : int_of_text (codes "012") ≡ Err BadToken
unfolding int_of_text
int-leading_zero = refl

int-hex : int_of_text (codes "0xFf_0") ≡ Ok (record { negative = false; magnitude = 4080 })
unfolding int_of_text
int-hex = refl

int-binary : int_of_text (codes "-0B101") ≡ Ok (record { negative = true; magnitude = 5 })
unfolding int_of_text
int-binary = refl

int-no_hex_digits : int_of_text (codes "0x") ≡ Err BadToken
unfolding int_of_text
int-no_hex_digits = refl

-- ---- decimals

decimal-fifteen_tenths : decimal_of_bytes (0xC1 ∷ 0x0F ∷ []) ≡ Ok (record { negative = false; coefficient = 15; exponent = negsuc 0 })
unfolding decimal_of_bytes var_cut
decimal-fifteen_tenths = refl

decimal-nothing : decimal_of_bytes [] ≡ Ok (record { negative = false; coefficient = 0; exponent = pos 0 })
unfolding decimal_of_bytes var_cut
decimal-nothing = refl

decimal-minus_zero : decimal_of_bytes (0x80 ∷ 0x80 ∷ []) ≡ Ok (record { negative = true; coefficient = 0; exponent = pos 0 })
unfolding decimal_of_bytes var_cut
decimal-minus_zero = refl

decimal-exponent_not_ended : decimal_of_bytes (0x41 ∷ 0x0F ∷ []) ≡ Err BadVar
unfolding decimal_of_bytes var_cut
decimal-exponent_not_ended = refl

decimal-exponent_of_ten_octets : decimal_of_bytes (replicate 9 0x00 ++ 0x81 ∷ []) ≡ Err BadVar
unfolding decimal_of_bytes var_cut
decimal-exponent_of_ten_octets = refl

decimal-large_exponent : decimal_of_bytes (0x08 ∷ 0x00 ∷ 0x00 ∷ 0x00 ∷ 0x80 ∷ []) ≡ Err Range
unfolding decimal_of_bytes var_cut
decimal-large_exponent = refl

decimal_body-nothing : decimal_body (record { negative = false; coefficient = 0; exponent = pos 0 }) ≡ []
unfolding decimal_body digits_within
decimal_body-nothing = refl

decimal_body-minus_zero : decimal_body (record { negative = true; coefficient = 0; exponent = pos 0 }) ≡ 0x80 ∷ 0x80 ∷ []
unfolding decimal_body digits_within
decimal_body-minus_zero = refl

decimal_body-precise_zero : decimal_body (record { negative = false; coefficient = 0; exponent = negsuc 1 }) ≡ 0xC2 ∷ []
unfolding decimal_body digits_within
decimal_body-precise_zero = refl

decimal_body-sign_octet : decimal_body (record { negative = true; coefficient = 128; exponent = negsuc 0 }) ≡ 0xC1 ∷ 0x80 ∷ 0x80 ∷ []
unfolding decimal_body digits_within
decimal_body-sign_octet = refl

decimal-text_minus_zero : decimal_of_text (codes "-0.") ≡ Ok (record { negative = true; coefficient = 0; exponent = pos 0 })
unfolding decimal_of_text parts_of cut_at
decimal-text_minus_zero = refl

decimal-text_fifteen_tenths : decimal_of_text (codes "1.5") ≡ Ok (record { negative = false; coefficient = 15; exponent = negsuc 0 })
unfolding decimal_of_text parts_of cut_at
decimal-text_fifteen_tenths = refl

decimal-text_underscores : decimal_of_text (codes "1_0.0_0D+3") ≡ Ok (record { negative = false; coefficient = 1000; exponent = pos 1 })
unfolding decimal_of_text parts_of cut_at
decimal-text_underscores = refl

decimal-exponent_less_digits : decimal_of_text (codes "1.0d2147483648") ≡ Ok (record { negative = false; coefficient = 10; exponent = pos 2147483647 })
unfolding decimal_of_text parts_of cut_at
decimal-exponent_less_digits = refl

decimal-text_range : decimal_of_text (codes "1d2147483648") ≡ Err Range
unfolding decimal_of_text parts_of cut_at
decimal-text_range = refl

decimal-text_float : decimal_of_text (codes "1e0") ≡ Err Float
unfolding decimal_of_text parts_of cut_at
decimal-text_float = refl

decimal-text_int : decimal_of_text (codes "15") ≡ Err BadToken
unfolding decimal_of_text parts_of cut_at
decimal-text_int = refl

decimal-underscore_at_point : decimal_of_text (codes "1_.0") ≡ Err BadToken
unfolding decimal_of_text parts_of cut_at
decimal-underscore_at_point = refl

decimal-underscore_in_exponent : decimal_of_text (codes "1d1_0") ≡ Err BadToken
unfolding decimal_of_text parts_of cut_at
decimal-underscore_in_exponent = refl

decimal_text-minus_zero : decimal_text (record { negative = true; coefficient = 0; exponent = pos 0 }) ≡ codes "-0."
unfolding digits
decimal_text-minus_zero = refl

decimal_text-one_place : decimal_text (record { negative = false; coefficient = 15; exponent = negsuc 0 }) ≡ codes "1.5"
unfolding digits fixed_digits
decimal_text-one_place = refl

decimal_text-zeros_in_front : decimal_text (record { negative = false; coefficient = 5; exponent = negsuc 2 }) ≡ codes "0.005"
unfolding digits fixed_digits
decimal_text-zeros_in_front = refl

decimal_text-precise_zero : decimal_text (record { negative = false; coefficient = 0; exponent = negsuc 1 }) ≡ codes "0.00"
unfolding digits fixed_digits
decimal_text-precise_zero = refl

decimal_text-above_zero : decimal_text (record { negative = false; coefficient = 15; exponent = pos 1 }) ≡ codes "15d1"
unfolding digits
decimal_text-above_zero = refl

decimal_text-past_38_places : decimal_text (record { negative = false; coefficient = 1; exponent = negsuc 38 }) ≡ codes "1d-39"
unfolding digits
decimal_text-past_38_places = refl

decimal_text-most_places : decimal_text (record { negative = false; coefficient = 340282366920938463463374607431768211455; exponent = negsuc 37 })
    ≡ codes "3.40282366920938463463374607431768211455"
unfolding digits fixed_digits
decimal_text-most_places = refl

decimal_text-of_power : decimal_of_text (codes "15d-1") ≡ Ok (record { negative = false; coefficient = 15; exponent = negsuc 0 })
unfolding decimal_of_text parts_of cut_at
decimal_text-of_power = refl

-- ---- timestamps

west-read : timestamp_of_bytes (0x43 ∷ 0xE0 ∷ 0x0F ∷ 0xDB ∷ 0x82 ∷ 0x94 ∷ 0x93 ∷ 0x9E ∷ 0xBB ∷ 0xC3 ∷ 0x64 ∷ []) ≡ Ok (record (fields (Fraction 3) 2011 2 20 11 30 59 100) { offset = Some (negsuc 479) })
unfolding timestamp_of_bytes fields_cut var_cut local_of
west-read = refl

west-body : timestamp_body (record (fields (Fraction 3) 2011 2 20 11 30 59 100) { offset = Some (negsuc 479) }) ≡ (0x43 ∷ 0xE0 ∷ 0x0F ∷ 0xDB ∷ 0x82 ∷ 0x94 ∷ 0x93 ∷ 0x9E ∷ 0xBB ∷ 0xC3 ∷ 0x64 ∷ [])
unfolding timestamp_body utc_of digits_within
west-body = refl

west-read_text : timestamp_of_text (codes "2011-02-20T11:30:59.100-08:00") ≡ Ok (record (fields (Fraction 3) 2011 2 20 11 30 59 100) { offset = Some (negsuc 479) })
unfolding timestamp_of_text cut_at utc_of
west-read_text = refl

west-text : timestamp_text (record (fields (Fraction 3) 2011 2 20 11 30 59 100) { offset = Some (negsuc 479) }) ≡ codes "2011-02-20T11:30:59.100-08:00"
unfolding timestamp_text fixed_digits
west-text = refl

new_year-read : timestamp_of_bytes (0x80 ∷ 0x0F ∷ 0xD0 ∷ 0x81 ∷ 0x81 ∷ 0x80 ∷ 0x80 ∷ 0x80 ∷ []) ≡ Ok (record (fields Second 2000 1 1 0 0 0 0) { offset = Some (pos 0) })
unfolding timestamp_of_bytes fields_cut var_cut local_of
new_year-read = refl

new_year-body : timestamp_body (record (fields Second 2000 1 1 0 0 0 0) { offset = Some (pos 0) }) ≡ (0x80 ∷ 0x0F ∷ 0xD0 ∷ 0x81 ∷ 0x81 ∷ 0x80 ∷ 0x80 ∷ 0x80 ∷ [])
unfolding timestamp_body utc_of digits_within
new_year-body = refl

new_year-read_text : timestamp_of_text (codes "2000-01-01T00:00:00Z") ≡ Ok (record (fields Second 2000 1 1 0 0 0 0) { offset = Some (pos 0) })
unfolding timestamp_of_text cut_at utc_of
new_year-read_text = refl

new_year-text : timestamp_text (record (fields Second 2000 1 1 0 0 0 0) { offset = Some (pos 0) }) ≡ codes "2000-01-01T00:00:00Z"
unfolding timestamp_text fixed_digits
new_year-text = refl

no_fraction : timestamp_of_bytes (0x80 ∷ 0x0F ∷ 0xD0 ∷ 0x81 ∷ 0x81 ∷ 0x80 ∷ 0x80 ∷ 0x80 ∷ 0x80 ∷ []) ≡ Ok (record (fields Second 2000 1 1 0 0 0 0) { offset = Some (pos 0) })
unfolding timestamp_of_bytes fields_cut var_cut local_of
no_fraction = refl

zero_fraction-read : timestamp_of_bytes (0x80 ∷ 0x0F ∷ 0xD0 ∷ 0x81 ∷ 0x81 ∷ 0x80 ∷ 0x80 ∷ 0x80 ∷ 0xC1 ∷ []) ≡ Ok (record (fields (Fraction 1) 2000 1 1 0 0 0 0) { offset = Some (pos 0) })
unfolding timestamp_of_bytes fields_cut var_cut local_of
zero_fraction-read = refl

zero_fraction-body : timestamp_body (record (fields (Fraction 1) 2000 1 1 0 0 0 0) { offset = Some (pos 0) }) ≡ (0x80 ∷ 0x0F ∷ 0xD0 ∷ 0x81 ∷ 0x81 ∷ 0x80 ∷ 0x80 ∷ 0x80 ∷ 0xC1 ∷ [])
unfolding timestamp_body utc_of digits_within
zero_fraction-body = refl

zero_fraction-read_text : timestamp_of_text (codes "2000-01-01T00:00:00.0Z") ≡ Ok (record (fields (Fraction 1) 2000 1 1 0 0 0 0) { offset = Some (pos 0) })
unfolding timestamp_of_text cut_at utc_of
zero_fraction-read_text = refl

zero_fraction-text : timestamp_text (record (fields (Fraction 1) 2000 1 1 0 0 0 0) { offset = Some (pos 0) }) ≡ codes "2000-01-01T00:00:00.0Z"
unfolding timestamp_text fixed_digits
zero_fraction-text = refl

year-read : timestamp_of_bytes (0xC0 ∷ 0x0F ∷ 0xD7 ∷ []) ≡ Ok (record (fields Year 2007 1 1 0 0 0 0) { offset = None })
unfolding timestamp_of_bytes fields_cut var_cut local_of
year-read = refl

year-body : timestamp_body (record (fields Year 2007 1 1 0 0 0 0) { offset = None }) ≡ (0xC0 ∷ 0x0F ∷ 0xD7 ∷ [])
unfolding timestamp_body utc_of digits_within
year-body = refl

year-read_text : timestamp_of_text (codes "2007T") ≡ Ok (record (fields Year 2007 1 1 0 0 0 0) { offset = None })
unfolding timestamp_of_text cut_at utc_of
year-read_text = refl

year-text : timestamp_text (record (fields Year 2007 1 1 0 0 0 0) { offset = None }) ≡ codes "2007T"
unfolding timestamp_text fixed_digits
year-text = refl

month-read : timestamp_of_bytes (0xC0 ∷ 0x0F ∷ 0xD7 ∷ 0x8C ∷ []) ≡ Ok (record (fields Month 2007 12 1 0 0 0 0) { offset = None })
unfolding timestamp_of_bytes fields_cut var_cut local_of
month-read = refl

month-body : timestamp_body (record (fields Month 2007 12 1 0 0 0 0) { offset = None }) ≡ (0xC0 ∷ 0x0F ∷ 0xD7 ∷ 0x8C ∷ [])
unfolding timestamp_body utc_of digits_within
month-body = refl

month-read_text : timestamp_of_text (codes "2007-12T") ≡ Ok (record (fields Month 2007 12 1 0 0 0 0) { offset = None })
unfolding timestamp_of_text cut_at utc_of
month-read_text = refl

month-text : timestamp_text (record (fields Month 2007 12 1 0 0 0 0) { offset = None }) ≡ codes "2007-12T"
unfolding timestamp_text fixed_digits
month-text = refl

day-read : timestamp_of_bytes (0xC0 ∷ 0x0F ∷ 0xD7 ∷ 0x81 ∷ 0x82 ∷ []) ≡ Ok (record (fields Day 2007 1 2 0 0 0 0) { offset = None })
unfolding timestamp_of_bytes fields_cut var_cut local_of
day-read = refl

day-body : timestamp_body (record (fields Day 2007 1 2 0 0 0 0) { offset = None }) ≡ (0xC0 ∷ 0x0F ∷ 0xD7 ∷ 0x81 ∷ 0x82 ∷ [])
unfolding timestamp_body utc_of digits_within
day-body = refl

day-read_text : timestamp_of_text (codes "2007-01-02") ≡ Ok (record (fields Day 2007 1 2 0 0 0 0) { offset = None })
unfolding timestamp_of_text cut_at utc_of
day-read_text = refl

day-text : timestamp_text (record (fields Day 2007 1 2 0 0 0 0) { offset = None }) ≡ codes "2007-01-02"
unfolding timestamp_text fixed_digits
day-text = refl

unknown-read : timestamp_of_bytes (0xC0 ∷ 0x0F ∷ 0xD7 ∷ 0x81 ∷ 0x82 ∷ 0x83 ∷ 0x84 ∷ []) ≡ Ok (record (fields Minute 2007 1 2 3 4 0 0) { offset = None })
unfolding timestamp_of_bytes fields_cut var_cut local_of
unknown-read = refl

unknown-body : timestamp_body (record (fields Minute 2007 1 2 3 4 0 0) { offset = None }) ≡ (0xC0 ∷ 0x0F ∷ 0xD7 ∷ 0x81 ∷ 0x82 ∷ 0x83 ∷ 0x84 ∷ [])
unfolding timestamp_body utc_of digits_within
unknown-body = refl

unknown-read_text : timestamp_of_text (codes "2007-01-02T03:04-00:00") ≡ Ok (record (fields Minute 2007 1 2 3 4 0 0) { offset = None })
unfolding timestamp_of_text cut_at utc_of
unknown-read_text = refl

unknown-text : timestamp_text (record (fields Minute 2007 1 2 3 4 0 0) { offset = None }) ≡ codes "2007-01-02T03:04-00:00"
unfolding timestamp_text fixed_digits
unknown-text = refl

east-read : timestamp_of_bytes (0xBC ∷ 0x0F ∷ 0xD7 ∷ 0x81 ∷ 0x81 ∷ 0x97 ∷ 0x9E ∷ []) ≡ Ok (record (fields Minute 2007 1 2 0 30 0 0) { offset = Some (pos 60) })
unfolding timestamp_of_bytes fields_cut var_cut local_of
east-read = refl

east-body : timestamp_body (record (fields Minute 2007 1 2 0 30 0 0) { offset = Some (pos 60) }) ≡ (0xBC ∷ 0x0F ∷ 0xD7 ∷ 0x81 ∷ 0x81 ∷ 0x97 ∷ 0x9E ∷ [])
unfolding timestamp_body utc_of digits_within
east-body = refl

east-read_text : timestamp_of_text (codes "2007-01-02T00:30+01:00") ≡ Ok (record (fields Minute 2007 1 2 0 30 0 0) { offset = Some (pos 60) })
unfolding timestamp_of_text cut_at utc_of
east-read_text = refl

east-text : timestamp_text (record (fields Minute 2007 1 2 0 30 0 0) { offset = Some (pos 60) }) ≡ codes "2007-01-02T00:30+01:00"
unfolding timestamp_text fixed_digits
east-text = refl

day_with_t : timestamp_of_text (codes "2007-01-02T") ≡ Ok (record (fields Day 2007 1 2 0 0 0 0) { offset = None })
unfolding timestamp_of_text cut_at utc_of
day_with_t = refl

hour_24-refused : timestamp_of_bytes (0x80 ∷ 0x0F ∷ 0xD0 ∷ 0x81 ∷ 0x81 ∷ 0x98 ∷ 0x80 ∷ []) ≡ Err BadTimestamp
unfolding timestamp_of_bytes fields_cut var_cut local_of
hour_24-refused = refl

no_such_day-refused : timestamp_of_bytes (0x80 ∷ 0x0F ∷ 0xD1 ∷ 0x82 ∷ 0x9D ∷ []) ≡ Err BadTimestamp
unfolding timestamp_of_bytes fields_cut var_cut local_of
no_such_day-refused = refl

offset_1440-refused : timestamp_of_bytes (0x0B ∷ 0xA0 ∷ 0x0F ∷ 0xD0 ∷ 0x81 ∷ 0x81 ∷ 0x80 ∷ 0x80 ∷ []) ≡ Err BadTimestamp
unfolding timestamp_of_bytes fields_cut var_cut local_of
offset_1440-refused = refl

exponent_below_38-refused : timestamp_of_bytes (0x80 ∷ 0x0F ∷ 0xD0 ∷ 0x81 ∷ 0x81 ∷ 0x80 ∷ 0x80 ∷ 0x80 ∷ 0xE7 ∷ []) ≡ Err Range
unfolding timestamp_of_bytes fields_cut var_cut local_of
exponent_below_38-refused = refl

hour_alone-refused : timestamp_of_bytes (0x80 ∷ 0x0F ∷ 0xD0 ∷ 0x81 ∷ 0x81 ∷ 0x80 ∷ []) ≡ Err BadTimestamp
unfolding timestamp_of_bytes fields_cut var_cut local_of
hour_alone-refused = refl

nothing-refused : timestamp_of_bytes [] ≡ Err BadTimestamp
unfolding timestamp_of_bytes fields_cut var_cut local_of
nothing-refused = refl

offset_alone-refused : timestamp_of_bytes (0x80 ∷ []) ≡ Err BadTimestamp
unfolding timestamp_of_bytes fields_cut var_cut local_of
offset_alone-refused = refl

field_not_ended-refused : timestamp_of_bytes (0x80 ∷ 0x0F ∷ []) ≡ Err BadVar
unfolding timestamp_of_bytes fields_cut var_cut local_of
field_not_ended-refused = refl

fraction_of_one-refused : timestamp_of_bytes (0x80 ∷ 0x0F ∷ 0xD0 ∷ 0x81 ∷ 0x81 ∷ 0x80 ∷ 0x80 ∷ 0x80 ∷ 0xC1 ∷ 0x0A ∷ []) ≡ Err BadTimestamp
unfolding timestamp_of_bytes fields_cut var_cut local_of
fraction_of_one-refused = refl

negative_fraction-refused : timestamp_of_bytes (0x80 ∷ 0x0F ∷ 0xD0 ∷ 0x81 ∷ 0x81 ∷ 0x80 ∷ 0x80 ∷ 0x80 ∷ 0xC1 ∷ 0x81 ∷ []) ≡ Err BadTimestamp
unfolding timestamp_of_bytes fields_cut var_cut local_of
negative_fraction-refused = refl

whole_seconds-refused : timestamp_of_bytes (0x80 ∷ 0x0F ∷ 0xD0 ∷ 0x81 ∷ 0x81 ∷ 0x80 ∷ 0x80 ∷ 0x80 ∷ 0x80 ∷ 0x01 ∷ []) ≡ Err BadTimestamp
unfolding timestamp_of_bytes fields_cut var_cut local_of
whole_seconds-refused = refl

second_60-refused : timestamp_of_bytes (0x80 ∷ 0x0F ∷ 0xD0 ∷ 0x81 ∷ 0x81 ∷ 0x80 ∷ 0x80 ∷ 0xBC ∷ []) ≡ Err BadTimestamp
unfolding timestamp_of_bytes fields_cut var_cut local_of
second_60-refused = refl

year_0-refused : timestamp_of_bytes (0x80 ∷ 0x80 ∷ []) ≡ Err BadTimestamp
unfolding timestamp_of_bytes fields_cut var_cut local_of
year_0-refused = refl

local_year_0-refused : timestamp_of_bytes (0xFF ∷ 0x81 ∷ 0x81 ∷ 0x81 ∷ 0x80 ∷ 0x80 ∷ []) ≡ Err BadTimestamp
unfolding timestamp_of_bytes fields_cut var_cut local_of
local_year_0-refused = refl

date_with_offset : timestamp_of_bytes (0x0B ∷ 0xA0 ∷ 0x0F ∷ 0xD7 ∷ []) ≡ Ok (record (fields Year 2007 1 1 0 0 0 0) { offset = None })
unfolding timestamp_of_bytes fields_cut var_cut local_of
date_with_offset = refl

minus_zero_fraction : timestamp_of_bytes (0x80 ∷ 0x0F ∷ 0xD0 ∷ 0x81 ∷ 0x81 ∷ 0x80 ∷ 0x80 ∷ 0x80 ∷ 0xC1 ∷ 0x80 ∷ []) ≡ Ok (record (fields (Fraction 1) 2000 1 1 0 0 0 0) { offset = Some (pos 0) })
unfolding timestamp_of_bytes fields_cut var_cut local_of
minus_zero_fraction = refl

month_13-text_refused : timestamp_of_text (codes "2007-13T") ≡ Err BadTimestamp
unfolding timestamp_of_text cut_at utc_of
month_13-text_refused = refl

february_30-text_refused : timestamp_of_text (codes "2000-02-30T") ≡ Err BadTimestamp
unfolding timestamp_of_text cut_at utc_of
february_30-text_refused = refl

hour_24-text_refused : timestamp_of_text (codes "2000-01-01T24:00Z") ≡ Err BadTimestamp
unfolding timestamp_of_text cut_at utc_of
hour_24-text_refused = refl

second_60-text_refused : timestamp_of_text (codes "2000-01-01T00:00:60Z") ≡ Err BadTimestamp
unfolding timestamp_of_text cut_at utc_of
second_60-text_refused = refl

offset_24-text_refused : timestamp_of_text (codes "2000-01-01T00:00+24:00") ≡ Err BadTimestamp
unfolding timestamp_of_text cut_at utc_of
offset_24-text_refused = refl

offset_minute_60-text_refused : timestamp_of_text (codes "2000-01-01T00:00+00:60") ≡ Err BadTimestamp
unfolding timestamp_of_text cut_at utc_of
offset_minute_60-text_refused = refl

year_0-text_refused : timestamp_of_text (codes "0000T") ≡ Err BadTimestamp
unfolding timestamp_of_text cut_at utc_of
year_0-text_refused = refl

utc_year_0-text_refused : timestamp_of_text (codes "0001-01-01T00:00+00:01") ≡ Err BadTimestamp
unfolding timestamp_of_text cut_at utc_of
utc_year_0-text_refused = refl

utc_year_10000-text_refused : timestamp_of_text (codes "9999-12-31T23:59-00:01") ≡ Err BadTimestamp
unfolding timestamp_of_text cut_at utc_of
utc_year_10000-text_refused = refl

no_offset-text_refused : timestamp_of_text (codes "2000-01-01T00:00") ≡ Err BadToken
unfolding timestamp_of_text cut_at utc_of
no_offset-text_refused = refl

no_minute-text_refused : timestamp_of_text (codes "2000-01-01T00Z") ≡ Err BadToken
unfolding timestamp_of_text cut_at utc_of
no_minute-text_refused = refl

no_digits-text_refused : timestamp_of_text (codes "2000-01-01T00:00:00.Z") ≡ Err BadToken
unfolding timestamp_of_text cut_at utc_of
no_digits-text_refused = refl

month_without_t-text_refused : timestamp_of_text (codes "2000-01") ≡ Err BadToken
unfolding timestamp_of_text cut_at utc_of
month_without_t-text_refused = refl

long_fraction-text_refused : timestamp_of_text (codes "2000-01-01T00:00:00.000000000000000000000000000000000000001Z") ≡ Err Range
unfolding timestamp_of_text cut_at utc_of
long_fraction-text_refused = refl

long_fraction_at_hour_24-text_refused : timestamp_of_text (codes "2000-01-01T24:00:00.000000000000000000000000000000000000001Z") ≡ Err Range
unfolding timestamp_of_text cut_at utc_of
long_fraction_at_hour_24-text_refused = refl

date_with_z-text_refused : timestamp_of_text (codes "2000-01-01Z") ≡ Err BadToken
unfolding timestamp_of_text cut_at utc_of
date_with_z-text_refused = refl

date_with_t_and_z-text_refused : timestamp_of_text (codes "2000-01-01TZ") ≡ Err BadToken
unfolding timestamp_of_text cut_at utc_of
date_with_t_and_z-text_refused = refl

longest_fraction-text : timestamp_of_text (codes "2000-01-01T00:00:00.99999999999999999999999999999999999999-23:59") ≡ Ok (record (fields (Fraction 38) 2000 1 1 0 0 0 99999999999999999999999999999999999999) { offset = Some (negsuc 1438) })
unfolding timestamp_of_text cut_at utc_of
longest_fraction-text = refl

leap_day-local : local_of (record (fields Minute 2000 2 28 23 30 0 0) { offset = Some (pos 45) }) ≡ Ok (record (fields Minute 2000 2 29 0 15 0 0) { offset = Some (pos 45) })
unfolding local_of
leap_day-local = refl

no_leap_day-local : local_of (record (fields Minute 1900 2 28 23 30 0 0) { offset = Some (pos 45) }) ≡ Ok (record (fields Minute 1900 3 1 0 15 0 0) { offset = Some (pos 45) })
unfolding local_of
no_leap_day-local = refl

new_year-utc : utc_of (record (fields Minute 2000 12 31 23 30 0 0) { offset = Some (negsuc 44) }) ≡ Ok (record (fields Minute 2001 1 1 0 15 0 0) { offset = Some (negsuc 44) })
unfolding utc_of
new_year-utc = refl

leap_day-utc : utc_of (record (fields Minute 2000 3 1 0 15 0 0) { offset = Some (pos 45) }) ≡ Ok (record (fields Minute 2000 2 29 23 30 0 0) { offset = Some (pos 45) })
unfolding utc_of
leap_day-utc = refl
