-- Which bytes spell which values, each with the place of its first byte: the binary form as a grammar.
use Rattle.std.specs.Prelude.{◌≡◌, ◌≢◌, ℕ, ◌+◌, ◌*◌, ◌^◌, ◌<◌, ◌≤◌, ◌⊎◌, ℤ, true, false, List, [], ◌∷◌, ◌++◌, length, Option, Some, None, IsUtf8}
use Rattle.std.specs.List.{AllByRecursion, flat_map}
use lib.Ieee.{Float}
use Rattle.ion_value.specs.declared.ion_type.IonType.{IonType}
use Rattle.ion_value.specs.declared.ion_type.IonType.TheVariants as type
use Rattle.ion_value.specs.declared.ion_type.Kind.{Kind}
use Rattle.ion_value.specs.declared.ion_type.Kind.TheVariants as kind
use Rattle.ion_value.specs.declared.decimal.Decimal.{Decimal}
use Rattle.ion_value.specs.declared.int.Int.{Int}
use Rattle.ion_value.specs.declared.timestamp.Timestamp.{Timestamp}
use Rattle.ion_value.specs.declared.timestamp.Precision.TheVariants.{Year, Month, Day, Minute, Second, Fraction}
use Rattle.ion_value.specs.Number.{VarUInt, IsVar, uint, var_uint, var_int_negative, var_int_magnitude, int_negative, int_magnitude, signed}
use Rattle.ion_value.specs.Int.{IsInt}
use Rattle.ion_value.specs.Decimal.{DecimalBody, IsDecimal}
use Rattle.ion_value.specs.FloatOctets.{float_of_octets}
use Rattle.ion_value.specs.Timestamp.{IsMoment, IsMoved, IsOffset, offset_minutes, is_date, fields}
use Rattle.ion_value.specs.Name.{raw_id}
use Rattle.ion_value.specs.Value as value
use Rattle.ion_value.specs.Value.{Symbol, Id, SymbolAt, Scalar, Value, Members, Top}
use Rattle.ion_binary.specs.Positions.{symbol_id, placed_scalar}

-- a descriptor with a type code, and the length of what follows it
pub data Descriptor (t n : ℕ) : List ℕ → Type 0 where
  short : n < 14 → Descriptor t n ((16 * t + n) ∷ [])
  long : (len : List ℕ) → VarUInt n len → Descriptor t n ((16 * t + 14) ∷ len)

-- the type codes of each null, of which an int has two
abbrev pub IsNullOf : IonType → ℕ → Type 0
IsNullOf type.Null t = t ≡ 0
IsNullOf type.Bool t = t ≡ 1
IsNullOf type.Int t = (t ≡ 2) ⊎ (t ≡ 3)
IsNullOf type.Float t = t ≡ 4
IsNullOf type.Decimal t = t ≡ 5
IsNullOf type.Timestamp t = t ≡ 6
IsNullOf type.Symbol t = t ≡ 7
IsNullOf type.String t = t ≡ 8
IsNullOf type.Clob t = t ≡ 9
IsNullOf type.Blob t = t ≡ 10
IsNullOf type.List t = t ≡ 11
IsNullOf type.Sexp t = t ≡ 12
IsNullOf type.Struct t = t ≡ 13

-- ---- timestamps (binary encoding, "6: timestamp")

-- one field: the octets of a VarUInt or VarInt, at most nine
abbrev pub IsField : List ℕ → Type 0
IsField f = IsVar f × (length f ≤ 9)

-- what the fields after the offset say, in UTC; after a second there may be an exponent and a coefficient: zero without places after
-- the point is no fraction
pub data Says : List (List ℕ) → List ℕ → Timestamp → Type 0 where
  year : (y : List ℕ) → Says (y ∷ []) [] (fields Year (var_uint y) 1 1 0 0 0 0)
  month : (y m : List ℕ) → Says (y ∷ m ∷ []) [] (fields Month (var_uint y) (var_uint m) 1 0 0 0 0)
  day : (y m d : List ℕ) → Says (y ∷ m ∷ d ∷ []) [] (fields Day (var_uint y) (var_uint m) (var_uint d) 0 0 0 0)
  minute : (y m d h i : List ℕ) → Says (y ∷ m ∷ d ∷ h ∷ i ∷ []) [] (fields Minute (var_uint y) (var_uint m) (var_uint d) (var_uint h) (var_uint i) 0 0)
  second : (y m d h i s : List ℕ) → Says (y ∷ m ∷ d ∷ h ∷ i ∷ s ∷ []) [] (fields Second (var_uint y) (var_uint m) (var_uint d) (var_uint h) (var_uint i) (var_uint s) 0)
  no_fraction : (y m d h i s e c : List ℕ) → (var_int_negative e ≡ false) ⊎ (var_int_magnitude e ≡ 0) → int_magnitude c ≡ 0
      → Says (y ∷ m ∷ d ∷ h ∷ i ∷ s ∷ e ∷ []) c (fields Second (var_uint y) (var_uint m) (var_uint d) (var_uint h) (var_uint i) (var_uint s) 0)
  fraction : (y m d h i s e c : List ℕ) (n : ℕ) → var_int_negative e ≡ true → var_int_magnitude e ≡ n → 1 ≤ n → n ≤ 38 → int_magnitude c < 10 ^ n
      → (int_negative c ≡ false) ⊎ (int_magnitude c ≡ 0)
      → Says (y ∷ m ∷ d ∷ h ∷ i ∷ s ∷ e ∷ []) c (fields (Fraction n) (var_uint y) (var_uint m) (var_uint d) (var_uint h) (var_uint i) (var_uint s) (int_magnitude c))

-- an offset in minutes; minus zero is an offset that is not known
pub data IsOffsetOf : Option ℤ → List ℕ → Type 0 where
  unknown : (o : List ℕ) → var_int_negative o ≡ true → var_int_magnitude o ≡ 0 → IsOffsetOf None o
  known : (o : List ℕ) → (var_int_negative o ≡ false) ⊎ (0 < var_int_magnitude o)
      → IsOffsetOf (Some (signed (var_int_negative o) (var_int_magnitude o))) o

-- the fields are in UTC and a timestamp is in local time; the offset of a date says nothing
pub data TimestampBody : Timestamp → List ℕ → Type 0 where
  date : (t : Timestamp) (o : List ℕ) (others : List (List ℕ)) → IsField o → AllByRecursion IsField others → Says others [] t
      → is_date t.precision ≡ true → IsMoment t → TimestampBody t (flat_map (λ f. f) (o ∷ others))
  time : (utc local : Timestamp) (offset : Option ℤ) (o c : List ℕ) (others : List (List ℕ)) → IsField o → AllByRecursion IsField others
      → Says others c utc → is_date utc.precision ≡ false → IsMoment utc → IsOffsetOf offset o → IsOffset offset
      → IsMoved (offset_minutes (record utc { offset = offset })) (record utc { offset = offset }) local → IsMoment local
      → TimestampBody local (flat_map (λ f. f) (o ∷ others) ++ c)

-- ---- scalars

-- the body of a scalar of a type code; there is no negative zero among ints, a float has none, four or eight octets, and any id is a symbol
pub data Body : ℕ → Scalar Symbol → List ℕ → Type 0 where
  positive : (i : Int) (b : List ℕ) → i.negative ≡ false → i.magnitude ≡ uint b → IsInt i → Body 2 (value.int i) b
  negative : (i : Int) (b : List ℕ) → i.negative ≡ true → i.magnitude ≡ uint b → IsInt i → Body 3 (value.int i) b
  float : (x : Float) (b : List ℕ) → float_of_octets b ≡ Some x → Body 4 (value.float x) b
  decimal : (d : Decimal) (b : List ℕ) → DecimalBody d b → IsDecimal d → Body 5 (value.decimal d) b
  timestamp : (t : Timestamp) (b : List ℕ) → TimestampBody t b → Body 6 (value.timestamp t) b
  symbol : (b : List ℕ) → Body 7 (value.symbol (Id (raw_id (uint b)))) b
  string : (b : List ℕ) → IsUtf8 b → Body 8 (value.string b) b
  clob : (b : List ℕ) → Body 9 (value.clob b) b
  blob : (b : List ℕ) → Body 10 (value.blob b) b

-- a scalar without annotations
pub data Plain : Scalar Symbol → List ℕ → Type 0 where
  null : (t : IonType) (n : ℕ) → IsNullOf t n → Plain (value.null t) ((16 * n + 15) ∷ [])
  no : Plain (value.bool false) (16 ∷ [])
  yes : Plain (value.bool true) (17 ∷ [])
  body : (t : ℕ) (v : Scalar Symbol) (head b : List ℕ) → Descriptor t (length b) head → Body t v b → Plain v (head ++ b)

-- a NOP pad: octets that are ignored, whatever they are
pub data IsNopPad : List ℕ → Type 0 where
  nop_pad : (head skipped : List ℕ) → Descriptor 0 (length skipped) head
      → IsNopPad (head ++ skipped)

-- ---- what stands before a value

-- symbol ids from a place on
pub data Ids : ℕ → List SymbolAt → List ℕ → Type 0 where
  nothing : (q : ℕ) → Ids q [] []
  then : (q n : ℕ) (b c : List ℕ) (annotations : List SymbolAt) → VarUInt n b → Ids (q + length b) annotations c → Ids q (symbol_id n q ∷ annotations) (b ++ c)

-- a member's field id in a struct, and nothing in lists and sexps
pub data Field : Kind → ℕ → Option SymbolAt → List ℕ → Type 0 where
  named : (q n : ℕ) (b : List ℕ) → VarUInt n b → Field kind.Struct q (Some (symbol_id n q)) b
  in_list : (q : ℕ) → Field kind.List q None []
  in_sexp : (q : ℕ) → Field kind.Sexp q None []

-- the type code in the descriptor of a list, a sexp or a struct
abbrev pub type_code : Kind → ℕ
type_code kind.List = 11
type_code kind.Sexp = 12
type_code kind.Struct = 13

-- the header of a container whose members have n octets; in a struct's descriptor the length 1 says that its length follows and its fields
-- are in order, and such a struct is not empty
pub data Header : Kind → ℕ → List ℕ → Type 0 where
  plain : (k : Kind) (n : ℕ) (head : List ℕ) → Descriptor (type_code k) n head → head ≢ 209 ∷ [] → Header k n head
  sorted : (n : ℕ) (len : List ℕ) → VarUInt n len → 0 < n → Header kind.Struct n (209 ∷ len)

-- the header of an annotation wrapper at a place, which n octets of a value follow
pub data Wrapper : ℕ → List SymbolAt → ℕ → List ℕ → Type 0 where
  wrapper : (q : ℕ) (annotations : List SymbolAt) (n : ℕ) (head len ids : List ℕ) → Descriptor 14 (length len + length ids + n) head
      → 3 ≤ length len + length ids + n → 0 < length ids → 0 < n → VarUInt (length ids) len → Ids (q + length (head ++ len)) annotations ids
      → Wrapper q annotations n ((head ++ len) ++ ids)

-- what stands before a value of n octets: nothing, or a wrapper's header
pub data Annotated : ℕ → List SymbolAt → ℕ → List ℕ → Type 0 where
  bare : (q n : ℕ) → Annotated q [] n []
  wrapped : (q : ℕ) (annotations : List SymbolAt) (n : ℕ) (w : List ℕ) → Wrapper q annotations n w → Annotated q annotations n w

-- ---- values, the members of containers, and the stream

mutual
  -- from a place on the bytes spell annotations and a value; the second place is that of the value
  pub data Bin : ℕ → List SymbolAt → ℕ → Value SymbolAt ℕ → List ℕ → Type 0 where
    scalar : (q : ℕ) (annotations : List SymbolAt) (v : Scalar Symbol) (w x : List ℕ) → Annotated q annotations (length x) w → Plain v x
        → Bin q annotations (q + length w) (value.scalar (placed_scalar (q + length w) v)) (w ++ x)
    container : (q : ℕ) (annotations : List SymbolAt) (k : Kind) (ms : Members SymbolAt ℕ) (w header x : List ℕ)
        → Annotated q annotations (length header + length x) w → Header k (length x) header → Inside k (q + length (w ++ header)) ms x
        → Bin q annotations (q + length w) (value.container k ms (q + length ((w ++ header) ++ x))) ((w ++ header) ++ x)

  -- from a place on the bytes spell members of a container, and NOP pads between them
  pub data Inside : Kind → ℕ → Members SymbolAt ℕ → List ℕ → Type 0 where
    nothing : (k : Kind) (q : ℕ) → Inside k q value.nothing []
    nop_pad : (k : Kind) (q : ℕ) (f : Option SymbolAt) (ms : Members SymbolAt ℕ) (c b p : List ℕ) → Inside k q ms c → Field k (q + length c) f b
        → IsNopPad p → Inside k q ms (c ++ (b ++ p))
    with_value : (k : Kind) (q h : ℕ) (f : Option SymbolAt) (annotations : List SymbolAt) (v : Value SymbolAt ℕ) (ms : Members SymbolAt ℕ) (c b x : List ℕ)
        → Inside k q ms c → Field k (q + length c) f b → Bin (q + length (c ++ b)) annotations h v x
        → Inside k q (value.member ms f annotations h v) (c ++ (b ++ x))

-- these bytes spell version markers, values and NOP pads at top level
pub data Tops : List (Top SymbolAt ℕ) → List ℕ → Type 0 where
  nothing : Tops [] []
  marker : (ts : List (Top SymbolAt ℕ)) (b : List ℕ) → Tops ts b → Tops (ts ++ value.version (length b) ∷ []) (b ++ 224 ∷ 1 ∷ 0 ∷ 234 ∷ [])
  nop_pad : (ts : List (Top SymbolAt ℕ)) (b p : List ℕ) → Tops ts b → IsNopPad p → Tops ts (b ++ p)
  with_value : (ts : List (Top SymbolAt ℕ)) (h : ℕ) (annotations : List SymbolAt) (v : Value SymbolAt ℕ) (b x : List ℕ) → Tops ts b
      → Bin (length b) annotations h v x
      → Tops (ts ++ value.tree (length b) annotations h v ∷ []) (b ++ x)

-- a binary stream begins with the octet that text never begins with, and so with a marker
pub record Stream (bytes : List ℕ) (ts : List (Top SymbolAt ℕ)) : Type 0 where
  pub begins : (rest : List ℕ) × (bytes ≡ 224 ∷ rest)
  pub spells : Tops ts bytes
