-- Laws of the definitions of this crate.
use Rattle.std.specs.Prelude.{◌≡◌, ◌≢◌, ℕ, ◌^◌, ◌<◌, ◌≤◌, List, ◌++◌, All, length, Ok, ◌⊎◌, Err}
use Rattle.ion_value.specs.declared.decimal.Decimal.{Decimal}
use Rattle.ion_value.specs.declared.var.Signed.{Signed}
use Rattle.ion_value.specs.Number.{VarUInt, VarInt, uint_octets, var_uint_octets, var_int_octets}
use Rattle.ion_value.specs.Decimal.{IsDecimal, DecimalBody, decimal_of_bytes, decimal_body, decimal_text, decimal_of_text}
use Rattle.ion_value.specs.declared.timestamp.Timestamp.{Timestamp}
use Rattle.ion_value.specs.Timestamp.{IsMoment, IsOffset, IsTimestamp, local_of, utc_of, timestamp_of_bytes, timestamp_body, timestamp_of_text, timestamp_text}
use Rattle.ion_value.specs.Value.{SymbolAt}
use Rattle.ion_value.specs.Path.{Path, path_items}
use Rattle.ion_meter.specs.declared.fault.Reason.TheVariants.{BadToken}
use Rattle.ion_value.specs.declared.int.Int.{Int}
use Rattle.ion_value.specs.Int.{IsInt, int_of_bytes, int_text, int_of_text}

-- at the front of a list there is at most one VarUInt, and it spells one number
abbrev pub VarUIntIsUnique : Type 0
VarUIntIsUnique =
    (n m : ℕ) (b c x y : List ℕ) → VarUInt n b → VarUInt m c → b ++ x ≡ c ++ y → (b ≡ c) × (n ≡ m)

-- at the front of a list there is at most one VarInt, and it spells one sign and magnitude
abbrev pub VarIntIsUnique : Type 0
VarIntIsUnique =
    (z w : Signed) (b c x y : List ℕ) → VarInt z b → VarInt w c → b ++ x ≡ c ++ y → (b ≡ c) × (z ≡ w)

-- the shortest octets of a number are a VarUInt and spell it
abbrev pub VarUIntBytesAreRead : Type 0
VarUIntBytesAreRead = (n : ℕ) → n < 2 ^ 63 → VarUInt n (var_uint_octets n)

-- the shortest octets of a sign and a magnitude are a VarInt and spell them
abbrev pub VarIntBytesAreRead : Type 0
VarIntBytesAreRead = (z : Signed) → z.magnitude < 2 ^ 62 → VarInt z (var_int_octets z.negative z.magnitude)

-- reading the sign and the octets that are written for an int gives the int
abbrev pub IntBytesAreRead : Type 0
IntBytesAreRead = (i : Int) → IsInt i → int_of_bytes i.negative (uint_octets i.magnitude) ≡ Ok i

-- a decimal within its range is read from exactly the bodies that spell it, and none that is not
abbrev pub DecimalBodies : Type 0
DecimalBodies =
    (d : Decimal) (b : List ℕ)
    → (DecimalBody d b → IsDecimal d → decimal_of_bytes b ≡ Ok d) × (decimal_of_bytes b ≡ Ok d → DecimalBody d b × IsDecimal d)

-- reading the body that is written for a decimal gives the decimal
abbrev pub DecimalBytesAreRead : Type 0
DecimalBytesAreRead = (d : Decimal) → IsDecimal d → decimal_of_bytes (decimal_body d) ≡ Ok d

-- no other octets that are read to the decimal are fewer
abbrev pub DecimalBytesAreShortest : Type 0
DecimalBytesAreShortest =
    (d : Decimal) (b : List ℕ) → All (λ octet. octet < 256) b → decimal_of_bytes b ≡ Ok d → length (decimal_body d) ≤ length b

-- what goes from UTC to local time comes back to UTC
abbrev pub UtcIsBack : Type 0
UtcIsBack = (u t : Timestamp) → IsMoment u → IsOffset u.offset → local_of u ≡ Ok t → utc_of t ≡ Ok u

-- and what goes from local time to UTC comes back to local time
abbrev pub LocalIsBack : Type 0
LocalIsBack = (t u : Timestamp) → IsMoment t → IsOffset t.offset → utc_of t ≡ Ok u → local_of u ≡ Ok t

-- the body of a timestamp is read as the timestamp
abbrev pub TimestampBytesAreRead : Type 0
TimestampBytesAreRead = (t : Timestamp) → IsTimestamp t → timestamp_of_bytes (timestamp_body t) ≡ Ok t

-- no other octets that are read to the timestamp are fewer
abbrev pub TimestampBytesAreShortest : Type 0
TimestampBytesAreShortest =
    (t : Timestamp) (b : List ℕ) → All (λ octet. octet < 256) b → timestamp_of_bytes b ≡ Ok t → length (timestamp_body t) ≤ length b

-- reading the text of a timestamp gives the timestamp
abbrev pub TimestampTextIsRead : Type 0
TimestampTextIsRead = (t : Timestamp) → IsTimestamp t → timestamp_of_text (timestamp_text t) ≡ Ok t

-- a run that is a timestamp, or is refused as one for its value alone, is no int, no decimal and no float, whatever its value
abbrev pub NoNumberIsATimestamp : Type 0
NoNumberIsATimestamp =
    (run : List ℕ) → timestamp_of_text run ≢ Err BadToken → (int_of_text run ≡ Err BadToken) × (decimal_of_text run ≡ Err BadToken)

-- paths with the same items are the same
abbrev pub PathsAreTheirItems : Type 0
PathsAreTheirItems = (a b : Path SymbolAt ℕ) → path_items a ≡ path_items b → a ≡ b

-- the text of an int is read as that int
abbrev pub IntTextIsRead : Type 0
IntTextIsRead = (i : Int) → IsInt i → int_of_text (int_text i) ≡ Ok i

-- the text of a decimal is read as that decimal, with its precision and the sign of zero
abbrev pub DecimalTextIsRead : Type 0
DecimalTextIsRead = (d : Decimal) → IsDecimal d → decimal_of_text (decimal_text d) ≡ Ok d

-- no run has both the shape of an int and that of a decimal or float
abbrev pub OneShape : Type 0
OneShape = (run : List ℕ) → (int_of_text run ≡ Err BadToken) ⊎ (decimal_of_text run ≡ Err BadToken)
