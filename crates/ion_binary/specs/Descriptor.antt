-- Descriptor octets, and the octets and lengths after them (binary encoding, "Typed Value Formats").
use Rattle.std.specs.Prelude.{ℕ, zero, suc, ◌+◌, ◌/◌, ◌%◌, Bool, true, false, nat_le, nat_lt, nat_eq, if◌then◌else◌, List, [], ◌∷◌, slice_index_or, Option, Some, None, Result, Ok, Err}
use Rattle.ion_meter.specs.declared.fault.Reason.{Reason}
use Rattle.ion_meter.specs.declared.fault.Reason.TheVariants.{Truncated, BadVar, Overrun}
use Rattle.ion_value.specs.declared.ion_type.IonType.{IonType}
use Rattle.ion_value.specs.declared.ion_type.IonType.TheVariants as type
use Rattle.ion_value.specs.declared.ion_type.Kind.{Kind}
use Rattle.ion_value.specs.declared.ion_type.Kind.TheVariants as kind
use Rattle.ion_value.specs.Number.{var_uint}
use Rattle.ion_value.specs.Parts.{◌>>=◌}
use Rattle.ion_meter.specs.Sources.{Cursor}

-- ---- regions

-- what is left of the innermost container or wrapper, known by the place where it ends; the top level has no end
abbrev pub Region : Type 0
Region = Option ℕ

-- a place is the region's end or past it; the top level has no end
abbrev pub is_at_end : Region → ℕ → Bool
is_at_end None place = false
is_at_end (Some end) place = nat_le end place

-- n octets from a place on pass the region's end; the top level has no end
abbrev pub passes : Region → ℕ → ℕ → Bool
passes None place n = false
passes (Some end) place n = nat_lt end (place + n)

-- n octets from a place on end before the region's end; the top level has no end
abbrev pub falls_short : Region → ℕ → ℕ → Bool
falls_short None place n = false
falls_short (Some end) place n = nat_lt (place + n) end

-- ---- octets and lengths

-- the first of these bytes, which stands at a place, and the cursor after it; Truncated where there is none
abbrev pub first_octet : ℕ → List ℕ → Result (ℕ × Cursor) Reason
first_octet place [] = Err Truncated
first_octet place (b ∷ bytes) = Ok (b, record { place = place + 1; rest = bytes })

-- the next octet: one that the region does not hold is an overrun, and then one that the input does not hold is missing
unfoldable pub octet_at : Region → Cursor → Result (ℕ × Cursor) Reason
octet_at r c = if is_at_end r c.place then Err Overrun else first_octet c.place c.rest

-- the octets of a VarUInt, at most so many
unfoldable pub var_at : ℕ → Region → Cursor → Result (List ℕ × Cursor) Reason
var_at zero r c = Err BadVar
var_at (suc most) r c = do
  b ← octet_at r c
  if nat_lt b.0 128 then (var_at most r b.1 >>= λ more. Ok (b.0 ∷ more.0, more.1)) else Ok (b.0 ∷ [], b.1)

-- the number that a VarUInt of at most nine octets spells, and the cursor after it
unfoldable pub var_uint_at : Region → Cursor → Result (ℕ × Cursor) Reason
var_uint_at r c = do
  b ← var_at 9 r c
  Ok (var_uint b.0, b.1)

-- a length of 14 in a descriptor says that a VarUInt follows
unfoldable pub length_at : ℕ → Region → Cursor → Result (ℕ × Cursor) Reason
length_at length_code r c = if nat_eq length_code 14 then var_uint_at r c else Ok (length_code, c)

-- ---- shapes

-- what a descriptor says: a type code, T, and a length code, L, where a length goes by it
pub data Shape : Type 0 where
  null : (type : IonType) → Shape
  bool : (truth : Bool) → Shape
  nop_pad : (length_code : ℕ) → Shape
  wrapper : (length_code : ℕ) → Shape
  body : (type_code length_code : ℕ) → Shape
  container : (kind : Kind) → (length_code : ℕ) → Shape
  sorted : Shape
  marker : Shape
  float : (length_code : ℕ) → Shape
  illegal : Shape

-- by type code, where the length code is 15: an int of either sign has the same null, and a wrapper has none
abbrev pub null_shapes : List Shape
null_shapes =
    null type.Null ∷ null type.Bool ∷ null type.Int ∷ null type.Int ∷ null type.Float ∷ null type.Decimal ∷ null type.Timestamp ∷ null type.Symbol
    ∷ null type.String ∷ null type.Clob ∷ null type.Blob ∷ null type.List ∷ null type.Sexp ∷ null type.Struct ∷ []

-- a bool by its length code below 15: 0 is false, 1 is true, and all others are illegal
abbrev pub bool_shape : ℕ → Shape
bool_shape zero = bool false
bool_shape (suc zero) = bool true
bool_shape (suc (suc length_code)) = illegal

-- the fewest octets of a wrapper are an annotation's length, an annotation and a value, and `E0` begins a version marker
abbrev pub wrapper_shape : ℕ → Shape
wrapper_shape length_code =
    if nat_eq length_code 0 then marker
    else (if nat_lt length_code 3 then illegal else wrapper length_code)

-- a struct whose length code is 1 has its fields in order, and a length after the descriptor
abbrev pub struct_shape : ℕ → Shape
struct_shape length_code =
    if nat_eq length_code 1 then sorted else container kind.Struct length_code

-- by type code, where the length code is not 15
abbrev pub sized_shapes : ℕ → List Shape
sized_shapes length_code =
    nop_pad length_code ∷ bool_shape length_code ∷ body 2 length_code ∷ body 3 length_code ∷ float length_code
    ∷ body 5 length_code ∷ body 6 length_code ∷ body 7 length_code ∷ body 8 length_code ∷ body 9 length_code ∷ body 10 length_code
    ∷ container kind.List length_code ∷ container kind.Sexp length_code
    ∷ struct_shape length_code ∷ wrapper_shape length_code ∷ []

-- what a descriptor says, by its type code and its length code; nulls have the length code 15
abbrev pub shape_by : ℕ → ℕ → Shape
shape_by type_code length_code = slice_index_or (if nat_eq length_code 15 then null_shapes else sized_shapes length_code) type_code illegal

-- the type code is in the high four bits of the descriptor
unfoldable pub shape_of : ℕ → Shape
shape_of b = shape_by (b / 16) (b % 16)

-- what no wrapper may hold: another wrapper, and whatever else begins with its type code, and a NOP pad
abbrev pub is_unwrappable : ℕ → Bool
is_unwrappable b = if nat_eq (b / 16) 14 then true else nat_lt b 15
