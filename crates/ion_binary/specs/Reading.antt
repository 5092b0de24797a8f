-- Reading a binary stream: its items in order, and how they end. In each part of an item the first line that refuses is its fault.
use Rattle.std.specs.Prelude.{ℕ, zero, suc, ◌+◌, ◌*◌, Bool, true, false, not, ◌&&◌, ◌||◌, ◌==◌, nat_le, nat_lt, nat_eq, if◌then◌else◌, List, [], ◌∷◌, length, take, Option, Some, None, Result, Ok, Err}
use Rattle.ion_meter.specs.declared.fault.Reason.{Reason}
use Rattle.ion_meter.specs.declared.fault.Reason.TheVariants.{Truncated, BadDescriptor, BadVersion, BadAnnotation, Overrun, Float, DepthLimit, ScalarLimit, AnnotationLimit}
use Rattle.ion_meter.specs.declared.profile.Rules.{Rules}
use Rattle.ion_value.specs.declared.ion_type.Kind.{Kind}
use Rattle.ion_value.specs.declared.ion_type.Kind.TheVariants as kind
use Rattle.ion_value.specs.Scalar.{scalar_of_body}
use Rattle.ion_value.specs.Value as value
use Rattle.ion_value.specs.Value.{Symbol, SymbolAt, Scalar, Head, PlacedItem}
use Rattle.ion_value.specs.Reading.{Reading, Step, Ends, Stops, Gives, GoesOn, reading_by}
use Rattle.ion_value.specs.Parts.{Placed, part, ◌>>=◌, ◌>>◌, refuse}
use Rattle.ion_binary.specs.Positions.{symbol_id, placed_scalar}
use Rattle.ion_meter.specs.Sources.{Cursor, skip}
pub use Rattle.ion_binary.specs.Positions.{Frame, State}
use Rattle.ion_binary.specs.Descriptor.{Region, passes, falls_short, octet_at, var_uint_at, length_at, Shape, null, bool, nop_pad, wrapper, body, container, sorted, marker, float, illegal, shape_of, is_unwrappable}

-- ---- the part that is a descriptor, a length and, for a scalar, a body

-- where the part stands: whether a wrapper is around it, in which region, and how many containers are open
pub record Around : Type 0 where
  pub wrapped : Bool
  pub region : Region
  pub depth : ℕ

-- what it is: a NOP pad, a version marker, a scalar, or a container's beginning with the place of its end
pub data TypedValue : Type 0 where
  a_nop_pad : TypedValue
  a_marker : TypedValue
  a_scalar : (body : Scalar Symbol) → TypedValue
  a_container : (kind : Kind) → (end : ℕ) → TypedValue

-- a marker after its first octet
abbrev pub marker_rest : List ℕ → Result (Unit {0}) Reason
marker_rest [] = Err Truncated
marker_rest (a ∷ []) = Err Truncated
marker_rest (a ∷ b ∷ []) = Err Truncated
marker_rest (a ∷ b ∷ c ∷ bytes) = refuse (not ((a == 1) && (b == 0) && (c == 234))) BadVersion

-- a region that has no end: the top level
abbrev pub is_top : Region → Bool
is_top None = true
is_top (Some end) = false

-- a version marker after its first octet, which stands at top level alone
unfoldable pub marker_at : Region → Cursor → Result (TypedValue × Cursor) Reason
marker_at r c = do
  refuse (not (is_top r)) BadDescriptor
  marker_rest c.rest
  Ok (a_marker, skip 3 c)

-- n octets fit the region, and fill it where it is a wrapper
abbrev pub fits : Around → ℕ → ℕ → Result (Unit {0}) Reason
fits a place n = do
  refuse (passes a.region place n) Overrun
  refuse (a.wrapped && falls_short a.region place n) BadAnnotation

-- a scalar whose value is in its descriptor
unfoldable pub bare_at : Around → Scalar Symbol → Cursor → Result (TypedValue × Cursor) Reason
bare_at a v c = do
  refuse (a.wrapped && falls_short a.region c.place 0) BadAnnotation
  Ok (a_scalar v, c)

-- a NOP pad after its descriptor octet: its length, and then so many octets that are passed over
unfoldable pub nop_pad_at : Around → ℕ → Cursor → Result (TypedValue × Cursor) Reason
nop_pad_at a length_code c = do
  n ← length_at length_code a.region c
  refuse (passes a.region n.1.place n.0) Overrun
  refuse (nat_lt (length n.1.rest) n.0) Truncated
  Ok (a_nop_pad, skip n.0 n.1)

-- a scalar whose body has n octets
unfoldable pub body_at : Rules → Around → ℕ → ℕ → Cursor → Result (TypedValue × Cursor) Reason
body_at limits a type_code n c = do
  fits a c.place n
  refuse (nat_lt limits.scalar n) ScalarLimit
  refuse (nat_lt (length c.rest) n) Truncated
  v ← scalar_of_body type_code (take n c.rest)
  Ok (a_scalar v, skip n c)

-- a scalar after its descriptor octet: its length, and then its body
unfoldable pub scalar_at : Rules → Around → ℕ → ℕ → Cursor → Result (TypedValue × Cursor) Reason
scalar_at limits a type_code length_code c = do
  n ← length_at length_code a.region c
  body_at limits a type_code n.0 n.1

-- a container whose members have n octets
unfoldable pub begin_at : Rules → Around → Kind → ℕ → Cursor → Result (TypedValue × Cursor) Reason
begin_at limits a k n c = do
  fits a c.place n
  refuse (nat_le limits.depth a.depth) DepthLimit
  Ok (a_container k (c.place + n), c)

-- a container's beginning after its descriptor octet: its length, which tells its end
unfoldable pub container_at : Rules → Around → Kind → ℕ → Cursor
    → Result (TypedValue × Cursor) Reason
container_at limits a k length_code c = do
  n ← length_at length_code a.region c
  begin_at limits a k n.0 n.1

-- the beginning of a struct whose fields are in order, after its descriptor octet: its length is a VarUInt other than 0
unfoldable pub sorted_at : Rules → Around → Cursor → Result (TypedValue × Cursor) Reason
sorted_at limits a c = do
  n ← var_uint_at a.region c
  refuse (nat_eq n.0 0) BadDescriptor
  begin_at limits a kind.Struct n.0 n.1

-- the part after its descriptor octet, by what that says
unfoldable pub read_by_descriptor : Rules → Around → Shape → Cursor
    → Result (TypedValue × Cursor) Reason
read_by_descriptor limits a (null t) c = bare_at a (value.null t) c
read_by_descriptor limits a (bool truth) c = bare_at a (value.bool truth) c
read_by_descriptor limits a (nop_pad length_code) c = nop_pad_at a length_code c
read_by_descriptor limits a (body type_code length_code) c =
    scalar_at limits a type_code length_code c
read_by_descriptor limits a sorted c = sorted_at limits a c
read_by_descriptor limits a (container k length_code) c = container_at limits a k length_code c
read_by_descriptor limits a marker c = marker_at a.region c
read_by_descriptor limits a (float length_code) c = do
  refuse (not limits.floats) Float
  scalar_at limits a 4 length_code c
read_by_descriptor limits a (wrapper length_code) c = Err BadAnnotation
read_by_descriptor limits a illegal c = Err BadDescriptor

-- after its descriptor octet
unfoldable pub typed_value_at : Rules → Around → ℕ → Cursor → Result (TypedValue × Cursor) Reason
typed_value_at limits a b c = do
  refuse (a.wrapped && is_unwrappable b) BadAnnotation
  read_by_descriptor limits a (shape_of b) c

-- ---- an annotation wrapper

-- where its ids end, and where it ends
pub record Wrapped : Type 0 where
  pub ids : ℕ
  pub end : ℕ

-- after its descriptor octet: all octets of its lengths first, those of the ids' length within what the wrapper's own length says
unfoldable pub wrapper_at : Region → ℕ → Cursor → Result (Wrapped × Cursor) Reason
wrapper_at r length_code c = do
  n ← length_at length_code r c
  ids ← var_uint_at (Some (n.1.place + n.0)) n.1
  refuse (passes r n.1.place n.0) Overrun
  refuse (nat_lt n.0 3 || nat_eq ids.0 0 || nat_le (n.1.place + n.0) (ids.1.place + ids.0)) BadAnnotation
  Ok (record { ids = ids.1.place + ids.0; end = n.1.place + n.0 }, ids.1)

-- ---- an item

-- the ids of a wrapper up to their end, each counted as 16 with those before it; the first number is how many there are at most
unfoldable pub ids_at : ℕ → Rules → ℕ → ℕ → Cursor → Placed (List SymbolAt × Cursor)
ids_at zero limits end count c = Ok ([], c)
ids_at (suc most) limits end count c =
    if nat_le end c.place then Ok ([], c)
    else (do
      i ← part c.place (var_uint_at (Some end) c)
      part c.place (refuse (nat_lt limits.scalar (16 * (count + 1))) AnnotationLimit)
      more ← ids_at most limits end (count + 1) i.1
      Ok (symbol_id i.0 c.place ∷ more.0, more.1))

-- what is left of the innermost open container, or the top level where none is open
abbrev pub region_of : List Frame → Region
region_of [] = None
region_of (f ∷ frames) = Some f.end

-- a field id stands before each member of a struct
abbrev pub field_in : Kind → Region → Cursor → Result (Option SymbolAt × Cursor) Reason
field_in kind.List r c = Ok (None, c)
field_in kind.Sexp r c = Ok (None, c)
field_in kind.Struct r c = do
  i ← var_uint_at r c
  Ok (Some (symbol_id i.0 c.place), i.1)

-- the field of what stands in these open containers, and the cursor after it; there is none at top level
abbrev pub field_at : List Frame → Cursor → Result (Option SymbolAt × Cursor) Reason
field_at [] c = Ok (None, c)
field_at (f ∷ frames) c = field_in f.kind (Some f.end) c

-- an item by its parts: its head stands at `place`, in the top-level value that begins at `top`
abbrev pub placed_item : ℕ → Option SymbolAt → List SymbolAt → ℕ → Head SymbolAt → PlacedItem
placed_item top f annotations place head = record { field = f; annotations = annotations; head = head; place = place; top = top }

-- what is found as a step: a NOP pad gives nothing, and a container's beginning opens it
abbrev pub step_for : List Frame → ℕ → Option SymbolAt → List SymbolAt → ℕ → TypedValue → Cursor → Step State
step_for frames top f annotations place a_nop_pad c =
    GoesOn (record { frames = frames; top = top; cursor = c })
step_for frames top f annotations place a_marker c =
    Gives (placed_item top f annotations place value.marker) (record { frames = frames; top = top; cursor = c })
step_for frames top f annotations place (a_scalar v) c =
    Gives (placed_item top f annotations place (value.whole (placed_scalar place v))) (record { frames = frames; top = top; cursor = c })
step_for frames top f annotations place (a_container k end) c =
    Gives (placed_item top f annotations place (value.begin k)) (record { frames = record { kind = k; end = end } ∷ frames; top = top; cursor = c })

-- a value after its field, and after its descriptor octet
unfoldable pub plain_at : Rules → List Frame → ℕ → Option SymbolAt → ℕ → ℕ → Cursor → Placed (Step State)
plain_at limits frames top f place b c = do
  v ← part place (typed_value_at limits (record { wrapped = false; region = region_of frames; depth = length frames }) b c)
  Ok (step_for frames top f [] place v.0 v.1)

-- the value in a wrapper that ends at a place
unfoldable pub inner_at : Rules → List Frame → ℕ → Option SymbolAt → List SymbolAt → ℕ → Cursor → Placed (Step State)
inner_at limits frames top f annotations end c = do
  b ← part c.place (octet_at (Some end) c)
  v ← part c.place (typed_value_at limits (record { wrapped = true; region = Some end; depth = length frames }) b.0 b.1)
  Ok (step_for frames top f annotations c.place v.0 v.1)

-- a wrapper and its value, after its descriptor octet
unfoldable pub annotated_at : Rules → List Frame → ℕ → Option SymbolAt → ℕ → ℕ → Cursor → Placed (Step State)
annotated_at limits frames top f place length_code c = do
  w ← part place (wrapper_at (region_of frames) length_code c)
  annotations ← ids_at w.0.ids limits w.0.ids 0 w.1
  inner_at limits frames top f annotations.0 w.0.end annotations.1

-- the length of a wrapper, and none of a value without one
abbrev pub wrapper_length : Shape → Option ℕ
wrapper_length (wrapper length_code) = Some length_code
wrapper_length (null t) = None
wrapper_length (bool truth) = None
wrapper_length (nop_pad length_code) = None
wrapper_length (body type_code length_code) = None
wrapper_length (container k length_code) = None
wrapper_length sorted = None
wrapper_length marker = None
wrapper_length (float length_code) = None
wrapper_length illegal = None

-- one of two, by the length code of a wrapper: the first where there is a wrapper, which gets the code, and else the second
abbrev pub by_wrapper : {A : Type 0} → Option ℕ → (ℕ → A) → A → A
by_wrapper None annotated plain = plain
by_wrapper (Some length_code) annotated plain = annotated length_code

-- what stands after a field, as a step: a value with or without annotations, a NOP pad, or a version marker
unfoldable pub value_at : Rules → List Frame → ℕ → Option SymbolAt → Cursor → Placed (Step State)
value_at limits frames top f c = do
  b ← part c.place (octet_at (region_of frames) c)
  by_wrapper (wrapper_length (shape_of b.0)) (λ length_code. annotated_at limits frames top f c.place length_code b.1) (plain_at limits frames top f c.place b.0 b.1)

-- at top level a value begins a top-level value
abbrev pub top_of : List Frame → ℕ → ℕ → ℕ
top_of [] top place = place
top_of (f ∷ frames) top place = top

-- a member of a container, or what stands at top level, as a step: its field, where it has one, and then what `value_at` reads
unfoldable pub member_at : Rules → List Frame → ℕ → Cursor → Placed (Step State)
member_at limits frames top c = do
  f ← part c.place (field_at frames c)
  value_at limits frames (top_of frames top c.place) f.0 f.1

-- ---- the stream

-- a fault as the step that stops there
abbrev pub step_of : Placed (Step State) → Step State
step_of (Ok s) = s
step_of (Err fault) = Stops fault.0 fault.1

-- the stream ends where its bytes do
abbrev pub top_step : Rules → ℕ → Cursor → List ℕ → Step State
top_step limits top c [] = Ends
top_step limits top c (b ∷ bytes) = step_of (member_at limits [] top c)

-- and a container where its region does
abbrev pub step_in : Rules → List Frame → ℕ → Cursor → Step State
step_in limits [] top c = top_step limits top c c.rest
step_in limits (f ∷ frames) top c =
    if nat_le f.end c.place then Gives (placed_item top None [] c.place value.end) (record { frames = frames; top = top; cursor = c })
    else step_of (member_at limits (f ∷ frames) top c)

-- what the reading does next at a state, under limits
unfoldable pub step : Rules → State → Step State
step limits s = step_in limits s.frames s.top s.cursor

-- each step takes an octet or closes a container, and an octet opens at most one
abbrev pub size : State → ℕ
size s = 2 * length s.cursor.rest + length s.frames

-- the state in which a reading begins here: nothing is open
abbrev pub start_at : Cursor → State
start_at c = record { frames = []; top = 0; cursor = c }

-- all that a reader gives from here on
abbrev pub reading_from : Rules → Cursor → Reading
reading_from limits c = reading_by (step limits) size (start_at c)

-- the state before the first of these bytes, at place 0
abbrev pub start : List ℕ → State
start bytes = start_at (record { place = 0; rest = bytes })

-- all that a reader gives of these bytes
unfoldable pub reading : Rules → List ℕ → Reading
reading limits bytes = reading_by (step limits) size (start bytes)
