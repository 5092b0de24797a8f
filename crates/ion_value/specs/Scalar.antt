-- Scalars: what their octets and their runs of text mean, and the octets that are written.
use Rattle.std.specs.Prelude.{ℕ, true, false, nat_eq, if◌then◌else◌, List, [], Option, Some, None, Result, Ok, Err}
use Rattle.std.specs.Str.{is_utf8}
use Rattle.ion_meter.specs.declared.fault.Reason.{Reason}
use Rattle.ion_meter.specs.declared.fault.Reason.TheVariants.{BadDescriptor, BadText, BadToken}
use Rattle.ion_value.specs.declared.int.Int.{Int}
use Rattle.ion_value.specs.declared.decimal.Decimal.{Decimal}
use Rattle.ion_value.specs.declared.timestamp.Timestamp.{Timestamp}
use Rattle.ion_value.specs.declared.ion_type.IonType.{IonType}
use Rattle.ion_value.specs.declared.ion_type.IonType.TheVariants as type
use lib.Ieee.{Float}
use Rattle.ion_value.specs.FloatOctets.{float_of_octets, float_octets}
use Rattle.ion_value.specs.Number.{uint, uint_octets}
use Rattle.ion_value.specs.Int.{int_of_bytes, int_of_text}
use Rattle.ion_value.specs.Decimal.{decimal_of_bytes, decimal_body, decimal_of_text}
use Rattle.ion_value.specs.Timestamp.{timestamp_of_bytes, timestamp_body, timestamp_of_text}
use Rattle.ion_value.specs.Name.{raw_id}
use Rattle.ion_value.specs.Value.{Symbol, Id, Scalar, null, bool, int, float, decimal, timestamp, symbol, string, clob, blob}

-- ---- octets (binary encoding, "Typed Value Formats")

-- a value that was read, put through a function, or the reason why there is none
abbrev pub with_value : {A B : Type 0} → (A → B) → Result A Reason → Result B Reason
with_value f (Ok x) = Ok (f x)
with_value f (Err reason) = Err reason

-- the string of these bytes, or `BadText` where they are not UTF-8
abbrev pub string_of : List ℕ → Result (Scalar Symbol) Reason
string_of body = if is_utf8 body then Ok (string body) else Err BadText

-- the float that octets spell, or `BadDescriptor` where there are not none, four or eight of them
abbrev pub float_of_body : Option Float → Result (Scalar Symbol) Reason
float_of_body (Some x) = Ok (float x)
float_of_body None = Err BadDescriptor

-- the scalar of a type code and a body, or why there is none; null and bools have their whole value in the descriptor
unfoldable pub scalar_of_body : ℕ → List ℕ → Result (Scalar Symbol) Reason
scalar_of_body t body =
    if nat_eq t 2 then with_value int (int_of_bytes false body)
    else (if nat_eq t 3 then with_value int (int_of_bytes true body)
    else (if nat_eq t 4 then float_of_body (float_of_octets body)
    else (if nat_eq t 5 then with_value decimal (decimal_of_bytes body)
    else (if nat_eq t 6 then with_value timestamp (timestamp_of_bytes body)
    else (if nat_eq t 7 then Ok (symbol (Id (raw_id (uint body))))
    else (if nat_eq t 8 then string_of body
    else (if nat_eq t 9 then Ok (clob body)
    else (if nat_eq t 10 then Ok (blob body)
    else Err BadDescriptor))))))))

-- the code of a type, an int being positive
abbrev pub type_code : IonType → ℕ
type_code type.Null = 0
type_code type.Bool = 1
type_code type.Int = 2
type_code type.Float = 4
type_code type.Decimal = 5
type_code type.Timestamp = 6
type_code type.Symbol = 7
type_code type.String = 8
type_code type.Clob = 9
type_code type.Blob = 10
type_code type.List = 11
type_code type.Sexp = 12
type_code type.Struct = 13

-- the type of a scalar
abbrev pub type_of : {S : Type 0} → Scalar S → IonType
type_of (null t) = t
type_of (bool truth) = type.Bool
type_of (int number) = type.Int
type_of (float number) = type.Float
type_of (decimal number) = type.Decimal
type_of (timestamp moment) = type.Timestamp
type_of (symbol name) = type.Symbol
type_of (string bytes) = type.String
type_of (clob bytes) = type.Clob
type_of (blob bytes) = type.Blob

-- the code that a scalar is written with
abbrev pub scalar_code : {S : Type 0} → Scalar S → ℕ
scalar_code (int number) = if number.negative then 3 else 2
scalar_code body = type_code (type_of body)

-- the shortest body of a scalar, where symbols have ids
abbrev pub scalar_body : {S : Type 0} → (S → ℕ) → Scalar S → List ℕ
scalar_body id (null t) = []
scalar_body id (bool truth) = []
scalar_body id (int number) = uint_octets number.magnitude
scalar_body id (float number) = float_octets number
scalar_body id (decimal number) = decimal_body number
scalar_body id (timestamp moment) = timestamp_body moment
scalar_body id (symbol name) = uint_octets (id name)
scalar_body id (string bytes) = bytes
scalar_body id (clob bytes) = bytes
scalar_body id (blob bytes) = bytes

-- ---- runs of text that begin like a number

-- a run has the shape of an int, of a decimal or a float, or of a timestamp, or none
abbrev pub scalar_of_readings : {S : Type 0} → Result Int Reason → Result Decimal Reason → Result Timestamp Reason → Result (Scalar S) Reason
scalar_of_readings (Ok number) d t = Ok (int number)
scalar_of_readings (Err BadToken) (Ok number) t = Ok (decimal number)
scalar_of_readings (Err BadToken) (Err BadToken) (Ok moment) = Ok (timestamp moment)
scalar_of_readings (Err BadToken) (Err BadToken) (Err reason) = Err reason
scalar_of_readings (Err BadToken) (Err reason) t = Err reason
scalar_of_readings (Err reason) d t = Err reason

-- the int, decimal or timestamp that a run of text spells, or why it is none
unfoldable pub scalar_of_run : {S : Type 0} → List ℕ → Result (Scalar S) Reason
scalar_of_run run = scalar_of_readings (int_of_text run) (decimal_of_text run) (timestamp_of_text run)
